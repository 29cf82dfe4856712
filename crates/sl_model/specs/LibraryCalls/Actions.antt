-- What a call of the library does where its needs hold: whether it stops the run, what it does to memory and what it gives.
--
-- Restates ISO/IEC 14882:2017, [structure.specifications] (effects, returns, throws) and [vector.capacity] (`max_size()`).
-- Chosen here: a container that would hold more than 1,000,000 elements is an exception, and so is a `reserve` of more; what a call
-- gives is told as a place, a number or nothing, and becomes a value in the memory after the call.
use Rattle.std.specs.Prelude.{ℕ, nat_lt, Bool, List, ℤ, if◌then◌else◌}
use Rattle.sl_base.specs.declared.limits.TheConstants.{ELEMENTS}
use Rattle.sl_model.specs.Memory.Classes.{Edit}
use Rattle.sl_model.specs.Memory.Containers.{Part}
use Rattle.sl_model.specs.Memory.Edits.{Change}
use Rattle.sl_model.specs.LibraryCalls.Situation.{Situation}

-- what a call does to memory; numbers of picks come first
pub data Effect : Type 0 where
  keeps : Effect
  -- an edit of the object, which invalidates by the row's class
  edits : ℕ → Edit → Effect
  -- a change of a container that no class tells
  changes : ℕ → ℕ → Change → Effect
  -- changes of the object and of another container
  trades : ℕ → Change → Change → Effect
  -- keys and values that are put into the object one by one
  inserts : List (ℤ × ℤ) → Effect
  -- elements that are put at the end of a sequence one by one
  appends : ℕ → List ℤ → Effect
  -- a new container with a room and these elements
  makes : ℕ → ℕ → List (ℤ × ℤ) → Effect
  -- a new container with a room, into which these are put one by one
  makes_by_keys : ℕ → ℕ → List (ℤ × ℤ) → Effect

-- what a call gives
pub data Answer : Type 0 where
  nothing : Answer
  gives_number : ℤ → Answer
  -- the iterator at an index of a container
  gives_place : ℕ → ℕ → Answer
  -- the same, and whether an element came in
  gives_place_and : ℕ → ℕ → Bool → Answer
  -- the iterators at two indices of a container
  gives_places : ℕ → ℕ → ℕ → Answer
  -- a number of the element at an index of a container
  gives_element : ℕ → ℕ → Part → Answer

-- how a call whose needs hold may stop the run
pub data Stop : Type 0 where
  never : Stop
  exception : Stop
  overflow : Stop

-- what a call does
pub record Action : Type 0 where
  pub stops : Situation → Stop
  pub effect : Situation → Effect
  pub answer : Situation → Answer

-- an exception where the test holds
abbrev pub exception_if : Bool → Stop
exception_if test = if test then exception else never

-- an exception where a container would hold n elements and these are too many
abbrev pub too_many : ℕ → Stop
too_many n = exception_if (nat_lt ELEMENTS n)

-- a call that only tells something
abbrev pub tells : (Situation → Answer) → Action
tells answer = record { stops = λ s. never; effect = λ s. keeps; answer = answer }

-- Which state of a run the variables of the machine are those of.
--
-- Nothing here restates a standard: what variables, frames and scopes are, `sl_model` says.
use Rattle.std.specs.Prelude.{◌≡◌, List, [], ◌∷◌, ◌++◌, map, length, take, Option, Some, None, Bool, true, false}
use Rattle.sl_base.specs.declared.place.Place.{Place}
use Rattle.sl_model.specs.LibraryCalls.Values.{Value}
use Rattle.sl_model.specs.Runs.Ends.{Language, NoMeaning}
use Rattle.sl_model.specs.Runs.Eval.{Out, Gives, Stops}
use Rattle.sl_model.specs.Runs.Exec.{Flow, Next, Broke, Continued, Returned, Over}
use Rattle.sl_model.specs.Runs.Good.{IsGood}
use Rattle.sl_model.specs.Runs.State.{Frame, State, Slot}
use Rattle.sl_slots.specs.declared.slot.Value.{Value as ValueCode}
use Rattle.sl_slots.specs.Shown.{Holds, value_of}
use Rattle.sl_frames.specs.declared.calls.Caller.{Caller}
use Rattle.sl_frames.specs.declared.frame.Frame.{Frame as FrameCode}
use Rattle.sl_frames.specs.declared.heights.Heights.{Heights}
use Rattle.sl_frames.specs.declared.scopes.Mark.{Mark}
use Rattle.sl_frames.specs.declared.variables.ScalarVariable.{ScalarVariable}
use Rattle.sl_frames.specs.declared.variables.Variables.{Variables}

-- a frame of the machine
abbrev pub frame_of : FrameCode → Frame
frame_of f = record { scalars = f.scalars.items; conts = f.containers.items; iters = f.pointers.items }

-- a scalar of the machine
abbrev pub variable_of : ScalarVariable → Slot
variable_of x = record { ty = x.ty; value = x.value }

-- The variables are those of a state, in which these values are held as operands. Input, picks, steps, tests and the bytes written may
-- be any.
pub record Mirrors (v : Variables) (s : State) (held : List Value) : Type 0 where
  pub frame : frame_of v.frame ≡ s.frame
  pub scalars : map variable_of v.scalars.items ≡ s.scalars
  pub store : Holds v.store s.memory s.iters held

-- the variables are those of a good state
pub record Follows (v : Variables) (s : State) (held : List Value) : Type 0 where
  pub good : IsGood s
  pub mirrors : Mirrors v s held

-- the variables follow the state to which a statement goes, with the value that it returns as the last operand; the end of a run is
-- no state to go on from
abbrev pub FollowsFlow : Variables → List Value → Flow → Type 0
FollowsFlow v held (Next s) = Follows v s held
FollowsFlow v held (Broke s) = Follows v s held
FollowsFlow v held (Continued s) = Follows v s held
FollowsFlow v held (Returned x s) = Follows v s (held ++ x ∷ [])
FollowsFlow v held (Over e s) = Unit {0}

-- so many variables all calls in progress have in a state
pub record AreHeights (h : Heights) (s : State) : Type 0 where
  pub of_scalars : h.scalars ≡ length s.scalars
  pub of_containers : h.containers ≡ length s.memory.conts
  pub of_pointers : h.pointers ≡ length s.iters

-- so many variables are in scope in a frame
pub record AreCounts (h : Heights) (f : Frame) : Type 0 where
  pub of_scalars : h.scalars ≡ length f.scalars
  pub of_containers : h.containers ≡ length f.conts
  pub of_pointers : h.pointers ≡ length f.iters

-- the mark of a scope that begins in a state
pub record IsMarked (mark : Mark) (s : State) : Type 0 where
  pub frame : AreCounts mark.in_scope s.frame
  pub stacks : AreHeights mark.in_all s

-- a frame is the front of another: what was in scope still is, and more may be
pub record IsFront (f g : Frame) : Type 0 where
  pub scalars : take (length f.scalars) g.scalars ≡ f.scalars
  pub conts : take (length f.conts) g.conts ≡ f.conts
  pub iters : take (length f.iters) g.iters ≡ f.iters

-- a call that began in a state comes back to it
pub record IsCaller (caller : Caller) (s : State) : Type 0 where
  pub frame : frame_of caller.frame ≡ s.frame
  pub stacks : AreHeights caller.heights s

-- what is read at a place is what a run reads there; none is the fault of an unset scalar
abbrev pub FitsRead : Place → Option ValueCode → State → Out → Type 0
FitsRead at (Some w) s o = (u : Value) × (o ≡ Gives u s) × (value_of s.memory u ≡ w)
FitsRead at None s o = o ≡ Stops (Language at 3) s

-- a reference came into scope as in a run, or it has no meaning, and nothing happened
abbrev pub FitsBinding : Bool → Variables → List Value → Place → State → Flow → Type 0
FitsBinding true new held at s o = (t : State) × (o ≡ Next t) × Follows new t held
FitsBinding false new held at s o = (o ≡ Over (NoMeaning at) s) × Follows new s held

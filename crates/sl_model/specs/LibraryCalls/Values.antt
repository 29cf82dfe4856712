-- What expressions give, what a call hands to the library, and what the library gives back.
-- Restates ISO/IEC 14882:2017, [expr] (a value, or something that has a place) and [basic.lval].
-- Chosen here: numbers are whole numbers, a type's range is kept by conversions; an iterator is its stamp.
use Rattle.std.specs.Prelude.{ℕ, Bool, List, ℤ, Option}
use Rattle.sl_syntax.specs.declared.typed.callee.Callee.{Callee}
use Rattle.sl_model.specs.Memory.Containers.{Memory, Part}

-- what an expression gives; `scalar_at`, `container_at` and `element_at` say where something is
pub data Value : Type 0 where
  nothing : Value
  number : ℤ → Value
  -- an iterator, by its stamp
  iterator : ℕ → Value
  -- an iterator with a bool
  pair : ℕ → Bool → Value
  -- two iterators
  two : ℕ → ℕ → Value
  scalar_at : ℕ → Value
  container_at : ℕ → Value
  -- a number of the element at an index of a container
  element_at : ℕ → ℕ → Part → Value

-- what shape a value has
pub data Shape : Type 0 where
  no_value : Shape
  a_number : Shape
  -- an iterator
  a_stamp : Shape
  a_pair : Shape
  -- two iterators
  two_stamps : Shape
  -- the place of an element
  an_element : Shape

-- a call's site, its object's location and its other operands
pub record Args : Type 0 where
  pub site : ℕ
  pub object : Option ℕ
  pub values : List Value

-- what a call of the library gives
pub data LibOut : Type 0 where
  -- a need fails: its kind and the argument
  trapped : ℕ → ℕ → LibOut
  -- an exception
  thrown : LibOut
  -- a fault of the language, by its number
  faulted : ℕ → LibOut
  -- a value, the new memory and the picks that are left
  gives : Value → Memory → List ℕ → LibOut
  -- the library doesn't have this call yet
  unbuilt : LibOut

-- a library: what each call does to a memory, with the picks that are left
abbrev pub Lib : Type 0
Lib = Callee → Args → Memory → List ℕ → LibOut

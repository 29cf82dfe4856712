-- The state of a run: the variables that are in scope, the containers, and what is left of input, picks and steps.
--
-- Restates ISO/IEC 14882:2017, [basic.scope] (a variable is in scope from its declaration to the end of its block), [basic.stc.auto]
-- (its storage lasts as long), [dcl.init] (a scalar without an initialiser has no value), [dcl.ref] and [stmt.dcl].
-- Chosen here: variables of all calls in progress lie on stacks, a variable is known by its location there, and the end of
-- a scope invalidates the iterators of its containers at the site of its closing brace.
use Rattle.std.specs.Prelude.{ℕ, List, [], ◌∷◌, ◌++◌, length, take, ℤ, Option, Some, None, slice_get, slice_set, slice_index, slice_index_or}
use Rattle.sl_base.specs.declared.scalar.Scalar.{Scalar}
use Rattle.sl_model.specs.Memory.Containers.{Memory, Part, end_from}

-- what an iterator variable or a reference holds: a stamp, or the refer of an element and which number of it is referred to
pub data Pointer : Type 0 where
  iterator_at : ℕ → Pointer
  reference_to : ℕ → Part → Pointer

-- a scalar: its type, and its number where it is set
pub record Slot : Type 0 where
  pub ty : Scalar
  pub value : Option ℤ

-- where the variables of the function in progress are: for each number of a variable its location, references among the iterators.
-- Two numbers of functions in progress may have one location: that is a reference.
pub record Frame : Type 0 where
  pub scalars : List ℕ
  pub conts : List ℕ
  pub iters : List ℕ

-- the scalars, iterators and references, and containers of all calls in progress, by location; the input, picks and steps that are
-- left; how many tests of loops there were; and the bytes written
pub record State : Type 0 where
  pub frame : Frame
  pub scalars : List Slot
  pub iters : List Pointer
  pub memory : Memory
  pub input : List ℤ
  pub picks : List ℕ
  pub steps : ℕ
  pub tests : ℕ
  pub written : List ℕ

-- where a variable is
abbrev pub scalar_of : State → ℕ → ℕ
scalar_of s x = slice_index s.frame.scalars x

-- where a container is
abbrev pub cont_of : State → ℕ → ℕ
cont_of s x = slice_index s.frame.conts x

-- where an iterator is
abbrev pub iter_of : State → ℕ → ℕ
iter_of s x = slice_index s.frame.iters x

-- the number of a scalar, where it is set
abbrev pub scalar_value : State → ℕ → Option ℤ
scalar_value s at = elim (slice_get s.scalars at) [ None ↦ None | Some x ↦ x.value ]

-- a scalar takes a number
abbrev pub set_scalar_at : ℕ → ℤ → State → State
set_scalar_at at z s = elim (slice_get s.scalars at) [
  | None ↦ s
  | Some x ↦ record s { scalars = slice_set s.scalars at (record x { value = Some z }) }
]

-- an iterator takes a stamp
abbrev pub set_iterator_at : ℕ → ℕ → State → State
set_iterator_at at stamp s = record s { iters = slice_set s.iters at (iterator_at stamp) }

-- the number in a pointer
abbrev pub mark_in : Pointer → ℕ
mark_in (iterator_at stamp) = stamp
mark_in (reference_to refer part) = refer

-- what is held at a location
abbrev pub pointer_at : State → ℕ → Pointer
pointer_at s at = slice_index_or s.iters at (iterator_at 0)

-- the stamp at a location
abbrev pub stamp_held : State → ℕ → ℕ
stamp_held s at = mark_in (pointer_at s at)

-- the stamp of an iterator variable
abbrev pub stamp_of : State → ℕ → ℕ
stamp_of s x = stamp_held s (iter_of s x)

-- a new scalar comes into scope
abbrev pub new_scalar : Scalar → Option ℤ → State → State
new_scalar ty z s = record s {
  frame = record s.frame { scalars = s.frame.scalars ++ length s.scalars ∷ [] };
  scalars = s.scalars ++ record { ty = ty; value = z } ∷ [];
}

-- a new iterator or reference comes into scope
abbrev pub new_pointer : Pointer → State → State
new_pointer p s = record s {
  frame = record s.frame { iters = s.frame.iters ++ length s.iters ∷ [] };
  iters = s.iters ++ p ∷ [];
}

-- a new iterator comes into scope
abbrev pub new_iterator : ℕ → State → State
new_iterator stamp s = new_pointer (iterator_at stamp) s

-- the container at a location comes into scope
abbrev pub new_container : ℕ → State → State
new_container at s = record s { frame = record s.frame { conts = s.frame.conts ++ at ∷ [] } }

-- a scope that began in the first state ends: its variables go, and its containers end at a site
abbrev pub leave : ℕ → State → State → State
leave site start s = record s {
  frame = start.frame;
  scalars = take (length start.scalars) s.scalars;
  iters = take (length start.iters) s.iters;
  memory = end_from site (length start.memory.conts) s.memory;
}

-- How a run ends, and what it leaves.
--
-- Restates ISO/IEC 14882:2017, [structure.specifications] and [res.on.required] (a call whose "Requires" doesn't hold),
-- [defns.undefined] (the faults of the language) and [except.terminate] (an exception that nothing catches).
-- Chosen here: a run ends at its first failure. The faults by their numbers: 1 an overflow, 2 a zero divisor, 3 a variable that isn't
-- set, 4 no return value, 5 too many calls in progress. Of the bytes written, 65,536 are kept.
use Rattle.std.specs.Prelude.{ℕ, zero, suc, ◌-◌, ◌==◌, true, false, List, ℤ, Option, Some, None, take, length, slice_get, slice_index_or, codes}
use Rattle.sl_base.specs.declared.failures.TheConstants.{INVALID_ITERATOR, INVALID_REFERENCE}
use Rattle.sl_base.specs.declared.limits.TheConstants.{OUTPUT_BYTES}
use Rattle.sl_base.specs.declared.place.Place.{Place}
use Rattle.sl_syntax.specs.declared.typed.head.Head.{Head}
use Rattle.sl_model.specs.Memory.Containers.{Memory, killer as killer_in}
use Rattle.sl_model.specs.LibraryCalls.Values.{Value, iterator}
use Rattle.sl_model.specs.LibraryCalls.Rows.{call_name}

-- a failed need: where, its kind, the call, the argument with its name's number, and the site that dropped the iterator
pub record Trap : Type 0 where
  pub place : Place
  pub kind : ℕ
  pub call : List ℕ
  pub argument : ℕ
  pub name : Option ℕ
  pub killer : Option ℕ

-- how a run ends
pub data End : Type 0 where
  -- by the end of `main`, with what it gives
  Done : ℤ → End
  -- at a failed need of a call of the library
  Trapped : Trap → End
  -- its steps are used up
  OutOfSteps : End
  -- a fault of the language, by its number
  Language : Place → ℕ → End
  -- an exception
  Thrown : Place → End
  -- at what has no meaning, as a call that the library doesn't have; no run of a well typed text ends so
  NoMeaning : Place → End

-- the first bytes that were written, and the count of the rest
pub record Output : Type 0 where
  pub bytes : List ℕ
  pub lost : ℕ

-- the end of a run and what it wrote
pub record Finish : Type 0 where
  pub end : End
  pub output : Output

-- what is kept of the bytes that a run wrote
abbrev pub kept : List ℕ → Output
kept all = record { bytes = take OUTPUT_BYTES all; lost = length all - OUTPUT_BYTES }

-- the site that dropped an operand
abbrev pub killer_of_value : Option Value → Memory → Option ℕ
killer_of_value (Some (iterator s)) m = killer_in m s
killer_of_value v m = None

-- the operand with an argument's number; the object has the number 0
abbrev pub argument_of : ℕ → List Value → Option Value
argument_of a vs = elim a as (λ _. Option Value) [ zero ↦ None | suc k ↦ slice_get vs k ]

-- the killer where the kind is that of an invalid iterator, else none
abbrev pub killer_at : ℕ → ℕ → List Value → Memory → Option ℕ
killer_at kind a vs m = elim (kind == INVALID_ITERATOR) as (λ _. Option ℕ) [ true ↦ killer_of_value (argument_of a vs) m | false ↦ None ]

-- the name of an argument, where it is a plain name
abbrev pub name_at : List (Option ℕ) → ℕ → Option ℕ
name_at names a = slice_index_or names a None

-- the trap of a call whose need of a kind fails at an argument
abbrev pub trap_of : Head → ℕ → ℕ → List Value → Memory → Trap
trap_of h kind a vs m = record {
  place = h.place;
  kind = kind;
  call = call_name h.callee;
  argument = a;
  name = name_at h.names a;
  killer = killer_at kind a vs m;
}

-- the trap of a use of a reference that is invalid: where it is used, the number of its name, and the site that dropped it
abbrev pub use_trap : Place → ℕ → Option ℕ → Trap
use_trap at name site = record { place = at; kind = INVALID_REFERENCE; call = codes "use"; argument = 1; name = Some name; killer = site }

-- What a step of the walk over a program answers: the first rule that a part breaks, or that it breaks none, and what is known behind it.
use Rattle.std.specs.Prelude.{◌≡◌, List, Option, Some, None, Result, Ok, Err}
use Rattle.sl_typing.specs.declared.fault.Fault.{Fault}
use Rattle.sl_typing.specs.Contexts.{Context}
use Rattle.sl_typing.specs.Typing.{first_of}
use Rattle.sl_first_fault.specs.declared.stop.Stop.{Stop}
use Rattle.sl_first_fault.specs.declared.stop.Stop.TheVariants.{Memory, At}

-- a walk stops for want of memory, or at this fault
abbrev pub StopsAt : Stop → Option Fault → Type 0
StopsAt Memory fault = Unit {0}
StopsAt (At x) fault = fault ≡ Some x

-- a check goes through where there is no fault
abbrev pub Checks : {A : Type 0} → Result A Stop → Option Fault → Type 0
Checks (Ok u) fault = fault ≡ None
Checks (Err e) fault = StopsAt e fault

-- a part breaks no rule, and this is known behind it
pub record Done (faults : List Fault) (new behind : Context) : Type 0 where
  pub breaks_none : first_of faults ≡ None
  pub is_known : new ≡ behind

-- a step goes on behind a part that breaks no rule, and stops at the first rule that is broken
abbrev pub Answers : {A : Type 0} → Result A Stop → List Fault → Context → Context → Type 0
Answers (Ok u) faults new behind = Done faults new behind
Answers (Err e) faults new behind = StopsAt e (first_of faults)

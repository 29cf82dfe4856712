-- What each row has to be: where it is called, its needs hold and nothing stops it, its effect is fine.
use Rattle.std.proofs.Common.{◌≡◌, Bool, true, false, Some, None, ℕ, ◌≤◌, nat_lt, [], if◌then◌else◌}
use Rattle.std.proofs.Common.{refl, arith}
use Rattle.std.proofs.lemmas.Bool.Decides.{nat_tests}
use Rattle.std.proofs.lemmas.Bool.{ltb-false}
use Rattle.sl_base.specs.declared.limits.TheConstants.{ELEMENTS}
use Rattle.sl_base.specs.declared.form.Form.{Form}
use Rattle.sl_specs.specs.declared.call.Call.{Call}
use Rattle.sl_specs.specs.declared.call.Call.TheVariants as c
use Rattle.sl_specs.specs.declared.class.Class.{Class}
use Rattle.sl_specs.specs.declared.class.Class.TheVariants as classes
use Rattle.sl_specs.specs.Rows.{Line, row_of as row_of_line}
use Rattle.sl_model.specs.Memory.Classes.{Edit}
use Rattle.sl_model.specs.Memory.Containers.{Cont}
use Rattle.sl_model.specs.LibraryCalls.Situation.{Situation}
use Rattle.sl_model.specs.LibraryCalls.Needs.{first_failure, fails_if}
use Rattle.sl_model.specs.LibraryCalls.Actions.{never, too_many, exception}
use Rattle.sl_model.specs.LibraryCalls.Rows.{Row, member_row}
use Rattle.sl_model.specs.Runs.Good.{IsSound}
use Rattle.sl_model.proofs.Called.{IsCalled}
use Rattle.sl_model.proofs.FairChanges.{BuriesGone}
use Rattle.sl_model.proofs.FineEffects.{IsFine}

-- a row's effect is fine wherever it is called in a sound memory, its needs hold and nothing stops it
abbrev pub RowIsFine : Row → Type 0
RowIsFine r = (s : Situation) → IsSound s.memory → IsCalled r s → first_failure (r.fails s) ≡ None → r.action.stops s ≡ never
    → IsFine r.class s (r.action.effect s)

-- a call takes elements out by its class
abbrev pub erases : Call → Bool
erases c.Assignment = true
erases c.PopBack = true
erases c.PopFront = true
erases c.Erase = true
erases c.Clear = true
erases c.Resize = true
erases c.Assign = true
erases call = false

-- a class invalidates what goes
abbrev pub buries : Class → Bool
buries classes.VectorErase = true
buries classes.VectorResize = true
buries classes.DequeErase = true
buries classes.DequeResize = true
buries classes.ErasedOnly = true
buries classes.AllAndEnd = true
buries class = false

-- such a class invalidates the iterators and references of each element that goes
pub class_buries : (class : Class) → buries class ≡ true → (d : Cont) (e : Edit) → BuriesGone class d e
class_buries classes.Nothing h d e = absurd (cc)
class_buries classes.VectorInsert h d e = absurd (cc)
class_buries classes.VectorErase h d e = λ k low high. (grind (arith, nat_tests), grind (arith, nat_tests))
class_buries classes.VectorReserve h d e = absurd (cc)
class_buries classes.VectorResize h d e = λ k low high. (grind (arith, nat_tests), grind (arith, nat_tests))
class_buries classes.DequeResize h d e = λ k low high. (grind (arith, nat_tests), grind (arith, nat_tests))
class_buries classes.DequeInsert h d e = absurd (cc)
class_buries classes.DequeErase h d e = λ k low high. (grind (arith, nat_tests), grind (arith, nat_tests))
class_buries classes.ErasedOnly h d e = λ k low high. (grind (arith, nat_tests), grind (arith, nat_tests))
class_buries classes.HashInsert h d e = absurd (cc)
class_buries classes.HashReserve h d e = absurd (cc)
class_buries classes.AllAndEnd h d e = λ k low high. (refl, refl)
class_buries classes.Swap h d e = absurd (cc)

-- a line of the table is fine on each form that has it, where its class invalidates what it takes out
abbrev pub LineIsFine : Line → Type 0
LineIsFine x = (form : Form) (class : Class) → (erases x.call ≡ true → buries class ≡ true)
    → RowIsFine (member_row form (row_of_line (Some form) x class))

-- a test at which nothing fails
pub no_fails : (b : Bool) (kind a : ℕ) → fails_if b kind a ≡ [] → b ≡ false
no_fails true kind a h = absurd (cc)
no_fails false kind a h = refl

-- a number that is no exception isn't too great
pub not_too_many : (n : ℕ) → too_many n ≡ never → n ≤ ELEMENTS
not_too_many n h = by_test (nat_lt ELEMENTS n) refl h
  where
    by_test : (b : Bool) → nat_lt ELEMENTS n ≡ b → (if b then exception else never) ≡ never → n ≤ ELEMENTS
    by_test true t e = absurd (cc)
    by_test false t e = ltb-false ELEMENTS n t

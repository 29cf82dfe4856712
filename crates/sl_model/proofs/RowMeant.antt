-- A row that is carried out has a meaning: it fails, throws, ends the run with a fault, or gives a value; and what it gives is of a type where its
-- effect answers that type whenever its needs hold.
use Rattle.std.proofs.Common.{◌≡◌, ℕ, List, Option, Some, None, refl}
use Rattle.sl_base.specs.declared.form.Form.{Form}
use Rattle.sl_typing.specs.declared.expr_type.ExprType.{ExprType}
use Rattle.sl_model.specs.LibraryCalls.Values.{LibOut, trapped}
use Rattle.sl_model.specs.LibraryCalls.Situation.{Situation}
use Rattle.sl_model.specs.LibraryCalls.Needs.{first_failure}
use Rattle.sl_model.specs.LibraryCalls.Actions.{Stop, never, exception, overflow}
use Rattle.sl_model.specs.LibraryCalls.Rows.{Row}
use Rattle.sl_model.specs.LibraryCalls.Library.{value_in, carried_out, row_out}
use Rattle.sl_model.proofs.Fitting.{Answers, IsMeant}
use Rattle.sl_model.proofs.Tells.{memory_after}

-- the effect of a row answers a type, and makes containers of these forms
abbrev pub RowAnswers : List Form → ExprType → Row → Situation → Type 0
RowAnswers more u r s = Answers more s.memory u (value_in (memory_after r s) (r.action.answer s)) (memory_after r s)

-- a row whose effect does so where its needs hold and nothing stops the run has a meaning of the type
pub row_meant : (more : List Form) (u : ExprType) (r : Row) (s : Situation)
    → (first_failure (r.fails s) ≡ None → r.action.stops s ≡ never → RowAnswers more u r s) → IsMeant more s.memory u (row_out r s)
row_meant more u r s answers = by_failure (first_failure (r.fails s)) refl
  where
    by_stop : first_failure (r.fails s) ≡ None → (stop : Stop) → r.action.stops s ≡ stop → IsMeant more s.memory u (carried_out r s stop)
    by_stop none never e = answers none e
    by_stop none exception e = tt
    by_stop none overflow e = tt

    by_failure : (o : Option (ℕ × ℕ)) → first_failure (r.fails s) ≡ o
        → IsMeant more s.memory u (elim o as (λ _. LibOut) [ Some x ↦ trapped x.0 x.1 | None ↦ carried_out r s (r.action.stops s) ])
    by_failure None e = by_stop e (r.action.stops s) refl
    by_failure (Some x) e = tt

-- Each call of the library leaves an orderly memory orderly, since each of its rows is tidy.
use Rattle.std.proofs.Common.{◌≡◌, ℕ, Bool, List, [], ◌∷◌, Option, Some, None, refl, option_map}
use Rattle.std.specs.List.{cons_option}
use Rattle.sl_base.specs.declared.form.Form.{Form}
use Rattle.sl_specs.specs.declared.class.Class.{Class}
use Rattle.sl_specs.specs.Rows.{Line, row_of as row_of_line, class_on, rows_on}
use Rattle.sl_specs.specs.ContainerLines.{container_lines}
use Rattle.sl_specs.specs.MultiLines.{multi_lines}
use Rattle.sl_specs.specs.Table.{table}
use Rattle.sl_syntax.specs.declared.typed.callee.Callee.{Callee}
use Rattle.sl_model.specs.Memory.Containers.{Memory}
use Rattle.sl_model.specs.LibraryCalls.Values.{Value, Args, LibOut, trapped, gives}
use Rattle.sl_model.specs.LibraryCalls.Situation.{Situation}
use Rattle.sl_model.specs.LibraryCalls.Needs.{first_failure}
use Rattle.sl_model.specs.LibraryCalls.Actions.{Stop, never, exception, overflow}
use Rattle.sl_model.specs.LibraryCalls.Rows.{Row, meaning_of, row_of}
use Rattle.sl_model.specs.LibraryCalls.Library.{form_of, carried_out, row_out, called_row, lib}
use Rattle.sl_model.specs.Runs.Good.{IsSound}
use Rattle.sl_model.specs.Memory.Orderly.{IsOrderly}
use Rattle.sl_model.proofs.Keeps.{InAnswer}
use Rattle.sl_model.proofs.Called.{IsCalled, situation, row_by}
use Rattle.sl_model.proofs.FineRows.{RowIsFine}
use Rattle.sl_model.proofs.LibrarySound.{row-fine, in_given}
use Rattle.sl_model.proofs.OrderlyEffects.{does-orderly}
use Rattle.sl_model.proofs.TableRows.{all_table, row-holds}
use Rattle.sl_model.proofs.Tells.{AllOf}
use Rattle.sl_model.proofs.TidyRows.{RowIsTidy, LineIsTidy, free_form}
use Rattle.sl_model.proofs.TidyContainers.{containers-tidy, multis-tidy}
use Rattle.sl_model.proofs.TidyAlgorithms.{algorithms-tidy, operator-tidy}

-- the rows of a form are tidy where their lines are
rows-tidy : (appends : Bool) (form : Form) (lines : List Line) → AllOf LineIsTidy lines
    → AllOf (λ r. RowIsTidy (meaning_of appends r)) (rows_on form lines)
rows-tidy appends form [] h = tt
rows-tidy appends form (x ∷ xs) h = by_class (class_on form x.classes) refl (rows-tidy appends form xs h.1)
  where
    by_class : (o : Option Class) → class_on form x.classes ≡ o → AllOf (λ r. RowIsTidy (meaning_of appends r)) (rows_on form xs)
        → AllOf (λ r. RowIsTidy (meaning_of appends r)) (cons_option (option_map (row_of_line (Some form) x) o) (rows_on form xs))
    by_class None e rest = rest
    by_class (Some class) e rest = (h.0 form class (free_form form class x.classes e), rest)

-- each row of the table is tidy
table-tidy : (appends : Bool) → AllOf (λ r. RowIsTidy (meaning_of appends r)) table
table-tidy appends = all_table (λ r. RowIsTidy (meaning_of appends r))
    (λ form e. rows-tidy appends form container_lines containers-tidy)
    (λ form e. rows-tidy appends form multi_lines multis-tidy)
    (algorithms-tidy appends)

-- each row of what is called is
row-tidy : (callee : Callee) (r : Row) → row_of callee ≡ Some r → RowIsTidy r
row-tidy = row-holds RowIsTidy table-tidy operator-tidy

-- a row that is called leaves an orderly memory orderly
out-orderly : (r : Row) (s : Situation) → RowIsFine r → RowIsTidy r → IsSound s.memory → IsOrderly s.memory → IsCalled r s
    → InAnswer IsOrderly (row_out r s)
out-orderly r s fine tidy sound orderly called = by_failure (first_failure (r.fails s)) refl
  where
    by_stop : (o : Stop) → r.action.stops s ≡ o → first_failure (r.fails s) ≡ None → InAnswer IsOrderly (carried_out r s o)
    by_stop never e n = does-orderly (form_of r.object s) r.class s (r.action.effect s) orderly (fine s sound called n e) (tidy s orderly called n e)
    by_stop exception e n = tt
    by_stop overflow e n = tt

    by_failure : (o : Option (ℕ × ℕ)) → first_failure (r.fails s) ≡ o
        → InAnswer IsOrderly (elim o as (λ _. LibOut) [ Some x ↦ trapped x.0 x.1 | None ↦ carried_out r s (r.action.stops s) ])
    by_failure (Some x) e = tt
    by_failure None e = by_stop (r.action.stops s) refl e

-- so does each call of the library
pub answer-orderly : (callee : Callee) (a : Args) (m : Memory) (picks : List ℕ) → IsSound m → IsOrderly m → InAnswer IsOrderly (lib callee a m picks)
answer-orderly callee a m picks sound orderly = by_row (row_of callee) refl
  where
    by_row : (o : Option Row) → row_of callee ≡ o → InAnswer IsOrderly (called_row o a m picks)
    by_row None e = tt
    by_row (Some r) e = row_by (InAnswer IsOrderly) r a m picks tt
        (λ j called. out-orderly r (situation a m picks j) (row-fine callee r e) (row-tidy callee r e) sound orderly called)

-- the memory that a call of the library gives is orderly
pub lib-orderly : (callee : Callee) (a : Args) (m later : Memory) (picks left : List ℕ) (v : Value) → lib callee a m picks ≡ gives v later left
    → IsSound m → IsOrderly m → IsOrderly later
lib-orderly callee a m later picks left v e sound orderly =
    in_given IsOrderly (lib callee a m picks) v later left (answer-orderly callee a m picks sound orderly) e

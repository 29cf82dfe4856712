-- The library keeps what holds of all states of a run: each row gives its shape and stamps that were used, and it makes a container
-- or leaves as many.
use Rattle.std.proofs.Common.{◌≡◌, ℕ, Bool, true, false, List, Option, Some, None, length, refl, ap, ◌∙◌, subst}
use Rattle.sl_base.specs.declared.form.Form.{Form}
use Rattle.sl_specs.specs.Rows.{Row as TableRow, Line, rows_on}
use Rattle.sl_specs.specs.ContainerLines.{container_lines}
use Rattle.sl_specs.specs.MultiLines.{multi_lines}
use Rattle.sl_specs.specs.AlgorithmRows.{algorithm_rows}
use Rattle.sl_specs.specs.Table.{table}
use Rattle.sl_syntax.specs.declared.typed.callee.Callee.{Callee}
use Rattle.sl_model.specs.Memory.Containers.{Memory}
use Rattle.sl_model.specs.Memory.Forms.{holds_equal_keys}
use Rattle.sl_model.specs.LibraryCalls.Values.{Args, LibOut, trapped}
use Rattle.sl_model.specs.LibraryCalls.Situation.{Situation}
use Rattle.sl_model.specs.LibraryCalls.Needs.{first_failure}
use Rattle.sl_model.specs.LibraryCalls.Actions.{Answer, nothing, gives_number, gives_place, gives_place_and, gives_places, gives_element, Stop, never, exception}
use Rattle.sl_model.specs.LibraryCalls.Actions.{overflow}
use Rattle.sl_model.specs.LibraryCalls.Rows.{Row, meaning_of, row_of}
use Rattle.sl_model.specs.LibraryCalls.Library.{value_in, form_of, carried_out, row_out, called_row, lib}
use Rattle.sl_model.specs.Runs.Good.{IsSound}
use Rattle.sl_model.specs.Typing.Shapes.{Shape, HasShape, is_new_one, shape_of_row, row_makes, lib_shape, lib_makes}
use Rattle.sl_model.proofs.Keeps.{InAnswer}
use Rattle.sl_model.proofs.After.{Leaves}
use Rattle.sl_model.proofs.LibrarySound.{lib-leaves}
use Rattle.sl_model.proofs.Called.{IsCalled, situation, row_by}
use Rattle.sl_model.proofs.Growing.{grown, does-grows}
use Rattle.sl_model.proofs.Placing.{IsPlaced, place_used}
use Rattle.sl_model.proofs.Tells.{shape_of_answer, memory_after, Tells, RowTells, LineTells, AllOf, all_rows_on, all_lines}
use Rattle.sl_model.proofs.TableRows.{all_table, row-holds}
use Rattle.sl_model.proofs.ContainersTell.{container-tells, multi-tells}
use Rattle.sl_model.proofs.AlgorithmRowsTell.{algorithm-tells, appending-tells, operator-tells}
use Rattle.sl_model.proofs.Gifts.{IsUsed, IsAnswer, KeepsGood}

-- a row of the table tells what it gives
abbrev TableRowTells : Bool → TableRow → Type 0
TableRowTells appends r = RowTells (meaning_of appends r)

-- the rows of a form do
form-tells : (appends equal : Bool) (form : Form) (lines : List Line) → holds_equal_keys form ≡ equal → AllOf (LineTells equal) lines
    → AllOf (TableRowTells appends) (rows_on form lines)
form-tells appends equal form lines e h = all_rows_on (TableRowTells appends) form lines (all_lines equal form lines e h)

-- and those of the algorithms
algorithms-tell : (appends : Bool) → AllOf (TableRowTells appends) algorithm_rows
algorithms-tell true = appending-tells
algorithms-tell false = algorithm-tells

-- each row of the table does
table-tells : (appends : Bool) → AllOf (TableRowTells appends) table
table-tells appends = all_table (TableRowTells appends)
    (λ form e. form-tells appends false form container_lines e container-tells)
    (λ form e. form-tells appends true form multi_lines e multi-tells)
    (algorithms-tell appends)

-- the row of what is called
pub row-tells : (callee : Callee) (r : Row) → row_of callee ≡ Some r → RowTells r
row-tells = row-holds RowTells table-tells operator-tells

-- what is given has the shape of the answer
answer_shaped : (m : Memory) (answer : Answer) → HasShape (shape_of_answer answer) (value_in m answer)
answer_shaped m nothing = tt
answer_shaped m (gives_number z) = tt
answer_shaped m (gives_place j k) = tt
answer_shaped m (gives_place_and j k b) = tt
answer_shaped m (gives_places j k i) = tt
answer_shaped m (gives_element j k part) = tt

-- its stamps were used
answer_used : (m : Memory) (answer : Answer) → IsSound m → IsPlaced m answer → IsUsed m.fresh (value_in m answer)
answer_used m nothing sound h = tt
answer_used m (gives_number z) sound h = tt
answer_used m (gives_place j k) sound h = place_used m j k sound h
answer_used m (gives_place_and j k b) sound h = place_used m j k sound h
answer_used m (gives_places j k i) sound h = (place_used m j k sound h.0, place_used m j i sound h.1)
answer_used m (gives_element j k part) sound h = tt

-- what a row gives that is carried out
carried-good : (r : Row) (s : Situation) (stop : Stop) → Tells r s → InAnswer (Leaves s.memory s.site) (carried_out r s stop)
    → IsAnswer r.shape (is_new_one r.object) s.memory s.site (carried_out r s stop)
carried-good r s never h leaves =
    let grows = does-grows (form_of r.object s) r.class s (r.action.effect s) in
    record {
      leaves = leaves;
      many = grows.many ∙ ap (λ b. grown b (length s.memory.conts)) h.makes;
      later = grows.later;
      shaped = subst (λ (x : Shape). HasShape x (value_in (memory_after r s) (r.action.answer s))) h.shaped
          (answer_shaped (memory_after r s) (r.action.answer s));
      used = answer_used (memory_after r s) (r.action.answer s) leaves.sound h.placed;
    }
carried-good r s exception h leaves = tt
carried-good r s overflow h leaves = tt

-- what a row gives
out-good : (r : Row) (s : Situation) → RowTells r → IsCalled r s → InAnswer (Leaves s.memory s.site) (row_out r s)
    → IsAnswer r.shape (is_new_one r.object) s.memory s.site (row_out r s)
out-good r s tells called leaves = by_failure (first_failure (r.fails s)) refl leaves
  where
    out_by : Option (ℕ × ℕ) → LibOut
    out_by o = elim o as (λ _. LibOut) [ Some x ↦ trapped x.0 x.1 | None ↦ carried_out r s (r.action.stops s) ]

    by_failure : (o : Option (ℕ × ℕ)) → first_failure (r.fails s) ≡ o → InAnswer (Leaves s.memory s.site) (out_by o)
        → IsAnswer r.shape (is_new_one r.object) s.memory s.site (out_by o)
    by_failure (Some x) e h = tt
    by_failure None e h = carried-good r s (r.action.stops s) (tells s called e) h

-- what a row gives, if it is there, on what it is called with
called-good : (o : Option Row) (a : Args) (m : Memory) (picks : List ℕ) → ((r : Row) → o ≡ Some r → RowTells r)
    → InAnswer (Leaves m a.site) (called_row o a m picks) → IsAnswer (shape_of_row o) (row_makes o) m a.site (called_row o a m picks)
called-good None a m picks tells leaves = tt
called-good (Some r) a m picks tells leaves = row_by (λ out. InAnswer (Leaves m a.site) out → IsAnswer r.shape (is_new_one r.object) m a.site out)
    r a m picks (λ h. tt) (λ j called. out-good r (situation a m picks j) (tells r refl) called) leaves

-- the library keeps what holds of all states of a run
pub lib-good : KeepsGood lib_shape lib_makes lib
lib-good callee a m picks sound used = called-good (row_of callee) a m picks (row-tells callee) (lib-leaves callee a m picks sound)

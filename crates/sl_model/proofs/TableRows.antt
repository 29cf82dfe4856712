-- What holds of the rows of each form, of the algorithms and of the operators holds of each row that the library has.
use Rattle.std.proofs.Common.{◌≡◌, ℕ, Bool, true, false, List, [], ◌∷◌, ◌++◌, Option, Some, None, refl, subst, option_map}
use Rattle.std.specs.Prelude.{slice_get, codes}
use Rattle.sl_base.specs.declared.form.Form.{Form}
use Rattle.sl_base.specs.declared.form.Form.TheVariants as f
use Rattle.sl_specs.specs.Rows.{Row as TableRow, rows_on}
use Rattle.sl_specs.specs.ContainerLines.{container_lines}
use Rattle.sl_specs.specs.MultiLines.{multi_lines}
use Rattle.sl_specs.specs.AlgorithmRows.{algorithm_rows}
use Rattle.sl_specs.specs.Table.{table}
use Rattle.sl_syntax.specs.declared.typed.callee.Callee.{Callee}
use Rattle.sl_syntax.specs.declared.typed.callee.Callee.TheVariants as callees
use Rattle.sl_syntax.specs.declared.typed.operator.Operator.{Operator}
use Rattle.sl_model.specs.Memory.Forms.{holds_equal_keys}
use Rattle.sl_model.specs.LibraryCalls.Operators.{operator_name}
use Rattle.sl_model.specs.LibraryCalls.Rows.{Row, meaning_of, row_numbered, row_of_operator, row_of}
use Rattle.sl_model.proofs.Tells.{AllOf, all_append, all_at}

-- the rows of the forms, form by form
abbrev form_rows : List (List TableRow)
form_rows =
    rows_on f.Vector container_lines ∷
    rows_on f.Deque container_lines ∷
    rows_on f.List container_lines ∷
    rows_on f.Set container_lines ∷
    rows_on f.Map container_lines ∷
    rows_on f.HashSet container_lines ∷
    rows_on f.HashMap container_lines ∷
    rows_on f.MultiSet multi_lines ∷
    rows_on f.MultiMap multi_lines ∷ []

-- these one behind another, and then the last ones
abbrev in_turn : List (List TableRow) → List TableRow → List TableRow
in_turn [] last = last
in_turn (xs ∷ more) last = xs ++ in_turn more last

-- what holds of each of these, and of each of the last ones
all_in_turn : (P : TableRow → Type 0) (groups : List (List TableRow)) (last : List TableRow) → AllOf (AllOf P) groups → AllOf P last
    → AllOf P (in_turn groups last)
all_in_turn P [] last h k = k
all_in_turn P (xs ∷ more) last h k = all_append P xs (in_turn more last) h.0 (all_in_turn P more last h.1 k)

-- what holds of the rows of each form and of the algorithms holds of each row of the table
pub all_table : (P : TableRow → Type 0) → ((form : Form) → holds_equal_keys form ≡ false → AllOf P (rows_on form container_lines))
    → ((form : Form) → holds_equal_keys form ≡ true → AllOf P (rows_on form multi_lines)) → AllOf P algorithm_rows → AllOf P table
unfolding table
all_table P one many last = all_in_turn P form_rows algorithm_rows (
  one f.Vector refl,
  (
    one f.Deque refl,
    (
      one f.List refl,
      (
        one f.Set refl,
        (one f.Map refl, (one f.HashSet refl, (one f.HashMap refl, (many f.MultiSet refl, (many f.MultiMap refl, tt))))),
      ),
    ),
  ),
) last

module _ (P : Row → Type 0) (by_table : (appends : Bool) → AllOf (λ r. P (meaning_of appends r)) table)
    (by_operator : (name : List ℕ) (o : Operator) → P (row_of_operator name o)) where
  -- what holds of each row of the table holds of the row with a number
  numbered_holds : (appends : Bool) (n : ℕ) (r : Row) → row_numbered appends n ≡ Some r → P r
  numbered_holds appends n r e = by_row (slice_get table n) refl e
    where
      by_row : (o : Option TableRow) → slice_get table n ≡ o → option_map (meaning_of appends) o ≡ Some r → P r
      by_row None there h = absurd (cc)
      by_row (Some x) there h =
          let same : meaning_of appends x ≡ r = cc in
          subst P same (all_at (λ r. P (meaning_of appends r)) table n x (by_table appends) there)

  -- and of the row of what is called
  pub row-holds : (callee : Callee) (r : Row) → row_of callee ≡ Some r → P r
  row-holds (callees.Row n) r e = numbered_holds false n r e
  row-holds (callees.Appends n) r e = numbered_holds true n r e
  row-holds (callees.Operator o) r e = let same : row_of_operator (operator_name o) o ≡ r = cc in subst P same (by_operator (operator_name o) o)
  row-holds (callees.Hidden o) r e = let same : row_of_operator (codes "for") o ≡ r = cc in subst P same (by_operator (codes "for") o)

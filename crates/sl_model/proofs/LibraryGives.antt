-- Where the answer of each row of the library is: in its object, or in the container of its output.
use Rattle.std.proofs.Common.{◌≡◌, ℕ, Bool, List, [], ◌∷◌, Some}
use Rattle.std.specs.Prelude.{slice_get}
use Rattle.sl_base.specs.declared.form.Form.{Form}
use Rattle.sl_specs.specs.declared.class.Class.{Class}
use Rattle.sl_specs.specs.Rows.{Row as TableRow, Line, row_of as row_of_line, rows_on}
use Rattle.sl_specs.specs.ContainerLines.{container_lines}
use Rattle.sl_specs.specs.MultiLines.{multi_lines}
use Rattle.sl_specs.specs.Table.{table}
use Rattle.sl_model.specs.LibraryCalls.Rows.{meaning_of}
use Rattle.sl_model.proofs.Tells.{AllOf, all_at, all_rows_on}
use Rattle.sl_model.proofs.TableRows.{all_table}
use Rattle.sl_model.proofs.GivenIn.{is_output, RowGivesIn}
use Rattle.sl_model.proofs.ContainersGiveIn.{LineGivesIn, containers-give-in, multis-give-in}
use Rattle.sl_model.proofs.AlgorithmsGiveIn.{algorithms-give-in}

-- so it is with a row of the table
abbrev pub TableGivesIn : Bool → TableRow → Type 0
TableGivesIn appends r = RowGivesIn (is_output r.gives) (meaning_of appends r)

-- what holds of lines on each form holds of them on one
lines_on : (appends : Bool) (form : Form) (lines : List Line) → AllOf LineGivesIn lines
    → AllOf (λ x. (kills : Class) → TableGivesIn appends (row_of_line (Some form) x kills)) lines
lines_on appends form [] h = tt
lines_on appends form (x ∷ xs) h = (h.0 form, lines_on appends form xs h.1)

-- the rows of a form do so
form-gives-in : (appends : Bool) (form : Form) (lines : List Line) → AllOf LineGivesIn lines → AllOf (TableGivesIn appends) (rows_on form lines)
form-gives-in appends form lines h = all_rows_on (TableGivesIn appends) form lines (lines_on appends form lines h)

-- each row of the table does
pub table-gives-in : (appends : Bool) → AllOf (TableGivesIn appends) table
table-gives-in appends = all_table (TableGivesIn appends) (λ form e. form-gives-in appends form container_lines containers-give-in)
    (λ form e. form-gives-in appends form multi_lines multis-give-in) (algorithms-give-in appends)

-- the row with a number does
pub numbered-gives-in : (appends : Bool) (n : ℕ) (r : TableRow) → slice_get table n ≡ Some r → TableGivesIn appends r
numbered-gives-in appends n r there = all_at (TableGivesIn appends) table n r (table-gives-in appends) there

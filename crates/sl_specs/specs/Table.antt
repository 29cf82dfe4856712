-- The table: the rows of each form, and those of the algorithms behind them. A row's number is its place in the table, from 0. Its shape is the place of
-- its arguments among those of the same call of the same form.
use Rattle.std.specs.Prelude.{ℕ, ◌+◌, ◌==◌, ◌&&◌, Bool, List, [], ◌∷◌, ◌++◌, Option, slice_get, count_by, find}
use Rattle.std.specs.Str.{bytes_eq}
use denote.Enum.Bare.{sameb}
use Rattle.sl_base.specs.declared.form.Form.{Form}
use Rattle.sl_base.specs.declared.form.Form.TheVariants as f
use Rattle.sl_specs.specs.contracts.call.Call.{the_type}
use Rattle.sl_specs.specs.declared.call.Call.{Call}
use Rattle.sl_specs.specs.declared.lib_row.LibRow.{LibRow}
use Rattle.sl_specs.specs.Forms.{same_object}
use Rattle.sl_specs.specs.Texts.{call_text}
use Rattle.sl_specs.specs.Rows.{Row, rows_on}
use Rattle.sl_specs.specs.ContainerLines.{container_lines}
use Rattle.sl_specs.specs.MultiLines.{multi_lines}
use Rattle.sl_specs.specs.AlgorithmRows.{algorithm_rows}

unfoldable pub table : List Row
table =
    rows_on f.Vector container_lines ++ rows_on f.Deque container_lines ++ rows_on f.List container_lines
    ++ rows_on f.Set container_lines ++ rows_on f.Map container_lines ++ rows_on f.HashSet container_lines ++ rows_on f.HashMap container_lines
    ++ rows_on f.MultiSet multi_lines ++ rows_on f.MultiMap multi_lines
    ++ algorithm_rows

-- two calls are one
abbrev pub same_call : Call → Call → Bool
same_call = sameb the_type

-- how many of these rows are this call of this form
abbrev pub count_of : Option Form → Call → List Row → ℕ
count_of form call rows = count_by (λ r. same_object r.form form && same_call r.call call) rows

-- a row with its number and its shape, as callers see it
abbrev pub lib_row : ℕ → ℕ → Row → LibRow
lib_row number shape r =
    record { number = number; form = r.form; call = call_text r.call; shape = shape; needs = r.needs; kills = r.kills }

-- these rows, of which the first has this number, behind earlier ones
abbrev pub numbered : ℕ → List Row → List Row → List LibRow
numbered n earlier [] = []
numbered n earlier (r ∷ rs) = lib_row n (count_of r.form r.call earlier) r ∷ numbered (n + 1) (r ∷ earlier) rs

-- the rows as callers see them
unfoldable pub lib_rows : List LibRow
lib_rows = numbered 0 [] table

-- the row with a number
abbrev pub row_numbered : ℕ → Option LibRow
row_numbered n = slice_get lib_rows n

-- the row is of this form, this call and this shape
abbrev pub is_called : Option Form → List ℕ → ℕ → LibRow → Bool
is_called form name shape r = same_object r.form form && bytes_eq r.call name && r.shape == shape

-- the first such row: no other is one
abbrev pub row_called : Option Form → List ℕ → ℕ → Option LibRow
row_called form name shape = find (is_called form name shape) lib_rows

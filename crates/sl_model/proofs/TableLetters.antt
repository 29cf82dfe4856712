-- What holds of the letters of each row of the table: only the last may stand for an operand that may be missing.
use Rattle.std.proofs.Common.{◌≡◌, ℕ, true, Some, refl}
use Rattle.std.specs.List.{slice_get, list_all}
use Rattle.sl_specs.specs.Rows.{Row as TableRow}
use Rattle.sl_specs.specs.Table.{table}
use Rattle.sl_model.proofs.Passing.{passes_at}
use Rattle.sl_model.proofs.SortsFit.{is_last_optional}

-- only the last letter of each row may stand for an operand that may be missing
all_last : list_all (λ (r : TableRow). is_last_optional r.letters) table ≡ true
unfolding table
all_last = refl

-- so it is with the row with a number
pub row_last : (n : ℕ) (r : TableRow) → slice_get table n ≡ Some r → is_last_optional r.letters ≡ true
row_last n r e = passes_at (λ (x : TableRow). is_last_optional x.letters) table n r all_last e

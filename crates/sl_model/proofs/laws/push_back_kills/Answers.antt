-- The row of `push_back` of a vector in the table.
use Rattle.std.proofs.Common.{◌≡◌, false, Some}
use Rattle.sl_specs.specs.Table.{table}
use Rattle.sl_specs.specs.declared.class.Class.TheVariants.{VectorInsert}
use Rattle.sl_specs.specs.declared.rows.sequences.TheConstants.{VECTOR_PUSH_BACK}
use Rattle.sl_model.specs.LibraryCalls.SequenceActions.{push_back}
use Rattle.sl_model.specs.LibraryCalls.Rows.{Row, row_numbered}
use Rattle.sl_model.proofs.laws.push_back_kills.Goals as goal

row_told : (r : Row) → row_numbered false VECTOR_PUSH_BACK ≡ Some r → (r.class ≡ VectorInsert) × (r.action ≡ push_back)
unfolding table
row_told r e = (cc, cc)

pub returns-clause-row : goal.returns-clause-row
returns-clause-row c = row_told

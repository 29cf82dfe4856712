use Rattle.std.proofs.Common.{refl}
use Rattle.sl_specs.specs.Table.{table}
use Rattle.sl_specs.proofs.TableLaws.{number-row, found-row, apart-rows}
use Rattle.sl_specs.proofs.laws.rows_differ.Goals as goal

pub returns : goal.returns
unfolding table
returns c = record { count = refl; numbered = number-row; found = found-row; apart = apart-rows }

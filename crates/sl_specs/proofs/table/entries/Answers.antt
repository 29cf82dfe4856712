-- The table of the code is the one that is defined.
use Rattle.std.proofs.Common.{refl}
use Rattle.sl_specs.specs.Table.{table, lib_rows}
use Rattle.sl_specs.proofs.table.entries.Goals as goal

pub returns : goal.returns
unfolding table lib_rows
returns c = record { rows = refl; listed = refl; few = refl; count = refl }

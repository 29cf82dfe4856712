use Rattle.std.proofs.Common.{refl}
use Rattle.sl_specs.specs.Table.{table}
use Rattle.sl_specs.proofs.laws.numbers_are_places.Goals as goal

pub returns : goal.returns
unfolding table
returns c = refl

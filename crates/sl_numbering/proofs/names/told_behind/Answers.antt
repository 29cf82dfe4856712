use Rattle.std.proofs.Common.{arith}
use Rattle.std.proofs.lemmas.Grind.{common_steps}
use Rattle.sl_numbering.proofs.ToldNames.{told_all-map}
use Rattle.sl_numbering.proofs.names.told_behind.Goals as goal

pub returns : goal.returns
returns c = rw told_all-map (grind (arith, common_steps))

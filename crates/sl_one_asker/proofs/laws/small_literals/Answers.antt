use Rattle.sl_one_asker.proofs.SmallLiterals.{program_has_small_literals}
use Rattle.sl_one_asker.proofs.laws.small_literals.Goals as goal

pub returns : goal.returns
returns c = program_has_small_literals

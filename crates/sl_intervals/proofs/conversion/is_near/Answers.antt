use Rattle.std.proofs.Common.{arith}
use Rattle.std.proofs.lemmas.Int.{ints}
use Rattle.sl_intervals.proofs.conversion.is_near.Goals as goal

pub returns-clause-near : goal.returns-clause-near
returns-clause-near c = λ h. grind (arith, ints)

pub returns-clause-far : goal.returns-clause-far
returns-clause-far c = λ h. grind (arith, ints)

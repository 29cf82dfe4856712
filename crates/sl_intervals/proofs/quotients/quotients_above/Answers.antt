use Rattle.std.proofs.Common.{arith}
use Rattle.std.proofs.lemmas.Int.{ints}
use Rattle.sl_intervals.proofs.Parts.{quotients_of_ends}
use Rattle.sl_intervals.proofs.quotients.quotients_above.Goals as goal

pub returns-clause-quotients : goal.returns-clause-quotients
returns-clause-quotients c = λ g. quotients_of_ends c.args.a c.args.b c.between.result c.requires.filled g c.requires.above
    (omega (arith, ints)) (omega (arith, ints))

use Rattle.std.proofs.Common.{arith}
use Rattle.std.proofs.lemmas.Int.{ints}
use Rattle.sl_intervals.proofs.Parts.{quotients_turned}
use Rattle.sl_intervals.proofs.quotients.quotients_below.Goals as goal

pub returns-clause-quotients : goal.returns-clause-quotients
returns-clause-quotients c = λ g. quotients_turned c.args.a c.args.b c.opposite.result c.opposite-2.result c.quotients_above.result
    c.opposite.ensures.low c.opposite.ensures.high c.opposite-2.ensures.low c.opposite-2.ensures.high
    (c.quotients_above.ensures.quotients (omega (arith, ints)))

use Rattle.std.proofs.Common.{arith}
use Rattle.std.proofs.lemmas.Int.{ints}
use Rattle.sl_intervals.proofs.Rests.{single_remainders}
use Rattle.sl_intervals.proofs.remainders.remainders.Goals as goal

pub returns-then-is_single_division-clause-remainders :
    goal.returns-then-is_single_division-clause-remainders
returns-then-is_single_division-clause-remainders c = single_remainders c.args.a c.args.b c.between.result
    (c.is_single_division.ensures.yes c.if-is_single_division.true) (omega (arith, ints)) (omega (arith, ints))

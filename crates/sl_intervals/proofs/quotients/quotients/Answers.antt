use Rattle.sl_intervals.proofs.Parts.{divided_parts}
use Rattle.sl_intervals.proofs.quotients.quotients.Goals as goal

pub returns : goal.returns
returns c = divided_parts c.args.ty c.args.a c.args.b c.divisors_below.result c.divisors_above.result c.quotients_below.result
    c.quotients_above.result c.join.result c.divisors_below.ensures.low c.divisors_below.ensures.least c.divisors_below.ensures.other
    c.divisors_above.ensures.low c.divisors_above.ensures.high c.quotients_below.ensures.none c.quotients_below.ensures.quotients
    c.quotients_above.ensures.none c.quotients_above.ensures.quotients c.join.ensures.first_empty c.join.ensures.second_empty
    c.join.ensures.low c.join.ensures.high c.join.ensures.holds

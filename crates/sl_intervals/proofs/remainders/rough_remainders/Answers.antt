use Rattle.std.proofs.Common.{arith}
use Rattle.std.proofs.lemmas.Int.{ints, clamps}
use Rattle.sl_intervals.proofs.Rests.{no_remainders, rough}
use Rattle.sl_intervals.proofs.remainders.rough_remainders.Goals as goal

pub returns-then-limit-eq0 : goal.returns-then-limit-eq0
returns-then-limit-eq0 c = no_remainders c.args.a c.args.b c.empty.result (omega (arith, ints, clamps)) (omega (arith, ints, clamps))
    (omega (arith, ints))

pub least_remainder-requires : goal.least_remainder-requires
least_remainder-requires c = let l = c.requires.second.low in let h = c.requires.second.high in let o = c.requires.second.order in
    record { low = omega (arith, ints, clamps); high = omega (arith, ints, clamps) }

pub greatest_remainder-requires : goal.greatest_remainder-requires
greatest_remainder-requires c = let l = c.requires.second.low in let h = c.requires.second.high in let o = c.requires.second.order in
    record { low = omega (arith, ints, clamps); high = omega (arith, ints, clamps) }

pub returns : goal.returns
returns c =
    let fa = c.requires.first.order in let fb = c.requires.second.order in
    rough c.args.a c.args.b c.between.result c.furthest-limit.result fa fb c.furthest-limit.ensures (omega (arith, ints, clamps))
    (λ h. let e = c.least_remainder.ensures.zero h in omega (arith, ints, clamps))
    (λ h. let e = c.least_remainder.ensures.below h in omega (arith, ints, clamps))
    (λ h. let e = c.greatest_remainder.ensures.zero h in omega (arith, ints, clamps))
    (λ h. let e = c.greatest_remainder.ensures.above h in omega (arith, ints, clamps))

use Rattle.std.proofs.Common.{arith}
use Rattle.std.proofs.lemmas.Int.{ints}
use Rattle.sl_intervals.proofs.Verdicts.{narrow}
use Rattle.sl_intervals.proofs.Images.{named, near_image, far_image}
use Rattle.sl_intervals.proofs.conversion.converted_range.Goals as goal

pub room_above-requires : goal.room_above-requires
room_above-requires c =
    let k = named c.args.to c.args.a.low c.first_in-first.result c.requires.numbers c.first_in-first.ensures in
    let l = k.low in let h = k.high in
    record { low = omega (arith, ints); high = omega (arith, ints) }

pub is_near-requires : goal.is_near-requires
is_near-requires c = record { low = omega (arith, ints); high = omega (arith, ints) }

pub carried-requires : goal.carried-requires
carried-requires c =
    let k = named c.args.to c.args.a.low c.first_in-first.result c.requires.numbers c.first_in-first.ensures in
    let n = narrow c.args.to in
    let l = k.low in let h = k.high in let nl = n.low in let nh = n.high in
    record { order = c.requires.filled; near = omega (arith, ints); above = omega (arith, ints); below = omega (arith, ints) }

pub returns-then-is_near : goal.returns-then-is_near
returns-then-is_near c =
    near_image c.args.to c.args.a c.between.result c.first_in-first.result c.requires.numbers c.requires.filled
    (named c.args.to c.args.a.low c.first_in-first.result c.requires.numbers c.first_in-first.ensures)
    (omega (arith, ints)) (omega (arith, ints)) (omega (arith, ints))

pub returns-else-is_near : goal.returns-else-is_near
returns-else-is_near c =
    far_image c.args.to c.args.a c.between-else-is_near.result c.first_in-first.result c.requires.numbers
    (named c.args.to c.args.a.low c.first_in-first.result c.requires.numbers c.first_in-first.ensures)
    (omega (arith, ints)) (omega (arith, ints)) (omega (arith, ints))

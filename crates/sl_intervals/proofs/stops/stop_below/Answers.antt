use Rattle.std.proofs.Common.{◌≡◌, ℤ, pos, ◌+◌, get_or, to_z, of_z, refl, inr, subst, arith, rules, FitsSigned}
use Rattle.std.proofs.lemmas.Int.{ints, to_z-of_z}
use Rattle.std.specs.Int.{w128}
use Rattle.sl_model.specs.Numbers.{lowest}
use Rattle.sl_intervals.proofs.Stopping.{IsSoFarBelow, next_below, stops_below}
use Rattle.sl_intervals.proofs.stops.stop_below.Goals as goal

pub loop-i-init : goal.loop-i-init
loop-i-init c =
    let e : to_z w128 (of_z w128 c.least-stop.result) ≡ lowest c.args.ty = omega (arith, ints) in
    record { below = omega (arith, ints); within = omega (arith, ints); one = inr e; greatest = λ k h p. absurd (omega arith) }

pub loop-i-preserved : goal.loop-i-preserved
loop-i-preserved c =
    let e : c.nearer_below-stop.result ≡ to_z w128 (of_z w128 c.nearer_below-stop.result) = omega (arith, ints) in
    let so = subst (λ (v : ℤ). IsSoFarBelow c.args.ty c.args.constants.now c.args.a.low v c.loop-i.i) c.loop-i.stop-is c.loop-i.invariant in
    let n : ℤ = get_or c.args.constants.now c.loop-i.i (pos 0) in
    let fits : FitsSigned w128 (get_or c.args.constants.now c.loop-i.i (pos 0)) = search rules in
    let m = to_z-of_z w128 (get_or c.args.constants.now c.loop-i.i (pos 0)) fits in
    subst (λ (v : ℤ). IsSoFarBelow c.args.ty c.args.constants.now c.args.a.low v (c.loop-i.i + 1)) e
    (next_below c.args.ty c.args.constants.now c.args.a.low c.loop-i.stop n c.nearer_below-stop.result c.loop-i.i (omega arith) refl c.requires.high
    (λ p q. let t = c.nearer_below-stop.ensures.taken (omega (arith, ints)) (omega (arith, ints)) in omega (arith, ints))
    (λ p. omega (arith, ints)) (λ p. omega (arith, ints)) so)

pub returns : goal.returns
returns c = stops_below c.args.ty c.args.constants.now c.args.a.low _ c.loop-i.i (omega arith) c.loop-i.invariant

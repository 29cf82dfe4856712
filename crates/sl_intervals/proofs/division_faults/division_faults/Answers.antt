use Rattle.std.proofs.Common.{refl, arith}
use Rattle.std.proofs.lemmas.Int.{ints}
use Rattle.sl_intervals.proofs.Faulting.{above_verdict, below_verdict, zero_verdict}
use Rattle.sl_intervals.proofs.division_faults.division_faults.Goals as goal

pub returns-then-b-gt0 : goal.returns-then-b-gt0
returns-then-b-gt0 c = above_verdict c.args.ty c.args.a c.args.b _ c.requires.number c.requires.first c.requires.second
    c.requires.first_filled c.requires.second_filled (omega (arith, ints)) refl

pub faults_below_zero-requires : goal.faults_below_zero-requires
faults_below_zero-requires c =
    record { filled = c.requires.second_filled; high = omega (arith, ints); dividends = c.requires.first.low }

pub faults_at_zero-requires : goal.faults_at_zero-requires
faults_at_zero-requires c = record { low = omega (arith, ints); high = omega (arith, ints) }

pub returns-then-b-lt0 : goal.returns-then-b-lt0
returns-then-b-lt0 c = below_verdict c.args.ty c.args.a c.args.b c.faults_below_zero.result c.requires.number c.requires.first c.requires.second
    c.requires.first_filled c.requires.second_filled (omega (arith, ints)) c.faults_below_zero.ensures.far c.faults_below_zero.ensures.no_least
    c.faults_below_zero.ensures.divisors c.faults_below_zero.ensures.others
    (λ p q r. c.faults_below_zero.ensures.only_least q r c.requires.first_filled)

pub returns : goal.returns
returns c = zero_verdict c.args.ty c.args.a c.args.b c.faults_at_zero.result c.requires.number c.requires.first c.requires.second
    c.requires.first_filled c.requires.second_filled (omega (arith, ints)) (omega (arith, ints)) c.faults_at_zero.ensures.above
    c.faults_at_zero.ensures.below c.faults_at_zero.ensures.only_zero c.faults_at_zero.ensures.only_least c.faults_at_zero.ensures.other

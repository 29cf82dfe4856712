use Rattle.std.proofs.Common.{arith}
use Rattle.std.proofs.lemmas.Int.{ints, clamps}
use Rattle.sl_intervals.proofs.quotients.divisors_below.Goals as goal

pub returns-then-a-least : goal.returns-then-a-least
returns-then-a-least c = record {
  low = omega (arith, ints);
  least = λ h. absurd (omega (arith, ints));
  other = λ h. omega (arith, ints, clamps);
}

pub returns : goal.returns
returns c = record {
  low = omega (arith, ints);
  least = λ h. omega (arith, ints, clamps);
  other = λ h. absurd (omega (arith, ints));
}

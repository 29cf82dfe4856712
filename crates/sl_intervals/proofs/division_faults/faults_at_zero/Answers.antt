use Rattle.std.proofs.Common.{refl, arith}
use Rattle.std.proofs.lemmas.Int.{ints}
use Rattle.sl_intervals.proofs.division_faults.faults_at_zero.Goals as goal

pub returns-then-b-gt0 : goal.returns-then-b-gt0
returns-then-b-gt0 c = record {
  above = λ p. refl;
  below = λ p. refl;
  only_zero = λ p q. absurd (omega (arith, ints));
  only_least = λ p q r. absurd (omega (arith, ints));
  other = λ p q. refl;
}

pub returns-then-b-ltminus1 : goal.returns-then-b-ltminus1
returns-then-b-ltminus1 c = record {
  above = λ p. refl;
  below = λ p. refl;
  only_zero = λ p q. absurd (omega (arith, ints));
  only_least = λ p q r. absurd (omega (arith, ints));
  other = λ p q. refl;
}

pub returns-then-b-eq0 : goal.returns-then-b-eq0
returns-then-b-eq0 c = record {
  above = λ p. absurd (omega (arith, ints));
  below = λ p. absurd (omega (arith, ints));
  only_zero = λ p q. refl;
  only_least = λ p q r. refl;
  other = λ p q. absurd (omega (arith, ints));
}

pub returns-then-a-least : goal.returns-then-a-least
returns-then-a-least c = record {
  above = λ p. refl;
  below = λ p. refl;
  only_zero = λ p q. absurd (omega (arith, ints));
  only_least = λ p q r. absurd (omega (arith, ints));
  other = λ p q. refl;
}

pub returns : goal.returns
returns c = record {
  above = λ p. absurd (omega (arith, ints));
  below = λ p. absurd (omega (arith, ints));
  only_zero = λ p q. refl;
  only_least = λ p q r. refl;
  other = λ p q. absurd (omega (arith, ints));
}

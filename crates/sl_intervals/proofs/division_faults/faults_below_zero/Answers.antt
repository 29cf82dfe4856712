use Rattle.std.proofs.Common.{refl, arith}
use Rattle.std.proofs.lemmas.Int.{ints}
use Rattle.sl_intervals.proofs.division_faults.faults_below_zero.Goals as goal

pub returns-then-b-ltminus1 : goal.returns-then-b-ltminus1
returns-then-b-ltminus1 c = record {
  far = λ p. refl;
  no_least = λ p. refl;
  divisors = λ p q r. absurd (omega (arith, ints));
  others = λ p q r. absurd (omega (arith, ints));
  only_least = λ p q r. absurd (omega (arith, ints));
}

pub returns-then-a-first : goal.returns-then-a-first
returns-then-a-first c = record {
  far = λ p. refl;
  no_least = λ p. refl;
  divisors = λ p q r. absurd (omega (arith, ints));
  others = λ p q r. absurd (omega (arith, ints));
  only_least = λ p q r. absurd (omega (arith, ints));
}

pub returns-then-b-ltminus1-2 : goal.returns-then-b-ltminus1-2
returns-then-b-ltminus1-2 c = record {
  far = λ p. absurd (omega (arith, ints));
  no_least = λ p. absurd (omega (arith, ints));
  divisors = λ p q r. refl;
  others = λ p q r. refl;
  only_least = λ p q r. absurd (omega (arith, ints));
}

pub returns-then-a-first-2 : goal.returns-then-a-first-2
returns-then-a-first-2 c = record {
  far = λ p. absurd (omega (arith, ints));
  no_least = λ p. absurd (omega (arith, ints));
  divisors = λ p q r. refl;
  others = λ p q r. refl;
  only_least = λ p q r. absurd (omega (arith, ints));
}

pub returns : goal.returns
returns c = record {
  far = λ p. absurd (omega (arith, ints));
  no_least = λ p. absurd (omega (arith, ints));
  divisors = λ p q r. absurd (omega (arith, ints));
  others = λ p q r. absurd (omega (arith, ints));
  only_least = λ p q r. refl;
}

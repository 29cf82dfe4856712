use Rattle.std.proofs.Common.{arith}
use Rattle.std.proofs.lemmas.Int.{ints, clamps}
use Rattle.sl_intervals.proofs.lattice.inner.Goals as goal

pub returns-clause-low : goal.returns-clause-low
returns-clause-low c = omega (arith, ints, clamps)

pub returns-clause-high : goal.returns-clause-high
returns-clause-high c = omega (arith, ints, clamps)

pub returns-clause-inner : goal.returns-clause-inner
returns-clause-inner c = record {
  low_first = omega (arith, ints);
  low_second = omega (arith, ints);
  low_least = λ y p q. omega (arith, ints);
  high_first = omega (arith, ints);
  high_second = omega (arith, ints);
  high_most = λ y p q. omega (arith, ints);
}

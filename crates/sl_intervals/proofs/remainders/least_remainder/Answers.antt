use Rattle.std.proofs.Common.{arith}
use Rattle.std.proofs.lemmas.Int.{ints, clamps}
use Rattle.sl_intervals.proofs.remainders.least_remainder.Goals as goal

pub returns-then-a-ge0 : goal.returns-then-a-ge0
returns-then-a-ge0 c = record { zero = λ p. omega (arith, ints); below = λ p. omega (arith, ints, clamps) }

pub returns : goal.returns
returns c = record { zero = λ p. absurd (omega (arith, ints)); below = λ p. omega (arith, ints, clamps) }

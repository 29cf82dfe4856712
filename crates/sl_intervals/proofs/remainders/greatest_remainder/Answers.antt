use Rattle.std.proofs.Common.{arith}
use Rattle.std.proofs.lemmas.Int.{ints, clamps}
use Rattle.sl_intervals.proofs.remainders.greatest_remainder.Goals as goal

pub returns-then-a-le0 : goal.returns-then-a-le0
returns-then-a-le0 c = record { zero = λ p. omega (arith, ints); above = λ p. omega (arith, ints, clamps) }

pub returns : goal.returns
returns c = record { zero = λ p. absurd (omega (arith, ints)); above = λ p. omega (arith, ints, clamps) }

use Rattle.std.proofs.Common.{arith}
use Rattle.std.proofs.lemmas.Int.{ints}
use Rattle.sl_cells.proofs.Comparisons.{sure_order, sure_disorder, unsure_order}
use Rattle.sl_cells.proofs.order.below.Goals as goal

pub returns-then-a-b : goal.returns-then-a-b
returns-then-a-b c = sure_order _ _ _ _ (λ z p q x a b h. omega (arith, ints))

pub returns-then-b-x : goal.returns-then-b-x
returns-then-b-x c = sure_disorder _ _ _ _ (λ z p q x a b h. let n = h (omega (arith, ints)) in omega (arith, ints)) (λ l. omega (arith, ints))

pub returns-else-b-x : goal.returns-else-b-x
returns-else-b-x c = unsure_order _ _ _ _ (λ z p q x a b. omega (arith, ints)) (λ l. omega (arith, ints))

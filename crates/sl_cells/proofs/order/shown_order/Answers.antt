use Rattle.std.proofs.Common.{pos, refl, arith}
use Rattle.std.proofs.lemmas.Int.{ints}
use Rattle.sl_cells.proofs.order.shown_order.Goals as goal

pub returns-in-Always : goal.returns-in-Always
returns-in-Always c = record {
  yes = λ ys e zip. c.weigh.ensures.always c.in-Always.is (pos 0) ys (record { low = omega (arith, ints); high = omega (arith, ints) }) zip;
  shown = λ s. refl;
}

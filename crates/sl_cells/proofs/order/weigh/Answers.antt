use Rattle.std.proofs.Common.{◌≡◌, ◌-◌, ⊎_elim, arith}
use Rattle.sl_intervals.specs.declared.sure.Sure.TheVariants.{Never}
use Rattle.sl_cells.specs.Windows.{HoldsItem}
use Rattle.sl_cells.specs.Means.Comparisons.{Stands}
use Rattle.sl_cells.proofs.Zips.{zip_length}
use Rattle.sl_cells.proofs.Ordered.{from_neighbours, neighbours, stands_then}
use Rattle.sl_cells.proofs.Comparisons.{IsNear, near_always, near_never, near_exact, near_shown, below_next}
use Rattle.sl_cells.proofs.order.weigh.Goals as goal

pub loop-i-preserved : goal.loop-i-preserved
loop-i-preserved c =
    let items = c.args.items.now in
    let near : IsNear items c.loop-i.i c.key_at.result c.key_at-in-loop-i.result = record {
      above = omega arith;
      inside = omega arith;
      first = c.key_at.ensures;
      second = c.key_at-in-loop-i.ensures;
    } in
    record {
      always = λ yes z ys x zip k d e l. below_next k c.loop-i.i l
          (λ old. c.loop-i.invariant.always (c.both-sure.ensures.first yes) z ys x zip k d e old)
          (λ new. near_always c.args.order c.args.x items c.loop-i.i _ _ _ c.compare.ensures near
          (c.both-sure.ensures.second yes) z ys x zip k d e new);
      never = λ no. ⊎_elim
          (λ (old : c.loop-i.sure ≡ Never). c.loop-i.invariant.never old)
          (λ (new : c.compare.result ≡ Never). (
            c.loop-i.i - 1,
            omega arith,
            λ z ys d e x zip.
                near_never c.args.order c.args.x items c.loop-i.i _ _ _ c.compare.ensures near new z ys d e x zip (c.loop-i.i - 1) (omega arith),
          ))
          (c.both-sure.ensures.never no);
      exact = λ z ys x zip. c.both-sure.ensures.exact
          (c.loop-i.invariant.exact z ys x zip)
          (near_exact c.args.order c.args.x items c.loop-i.i _ _ _ c.compare.ensures near z ys x zip);
      shown = λ shows. c.both-sure.ensures.always (c.loop-i.invariant.shown shows)
          (near_shown c.args.order c.args.x items c.loop-i.i _ _ _ c.compare.ensures near shows);
    }

pub returns : goal.returns
returns c =
    let items = c.args.items.now in
    record {
      always = λ yes z ys x zip. from_neighbours (Stands c.args.order z) (stands_then c.args.order z) ys
          (λ k d e l. let n = zip_length HoldsItem items ys zip in c.loop-i.invariant.always yes z ys x zip k d e (omega arith));
      never = λ no z ys x zip o.
          let w = c.loop-i.invariant.never no in
          let n = zip_length HoldsItem items ys zip in
          let l = w.1 in
          w.2 z ys (z, z) (z, z) x zip (neighbours (Stands c.args.order z) ys w.0 (z, z) (z, z) (omega arith) o);
      exact = c.loop-i.invariant.exact;
      shown = c.loop-i.invariant.shown;
    }

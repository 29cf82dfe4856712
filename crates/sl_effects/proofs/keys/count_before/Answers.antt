use Rattle.std.proofs.Common.{sym, ◌∙◌, arith, ◌≡◌, ◌+◌}
use Rattle.sl_effects.specs.Means.Keys.{goes_before}
use Rattle.sl_effects.proofs.KeyLaws.{counted_one, counted_none}
use Rattle.sl_effects.proofs.keys.count_before.Goals as goal
use Rattle.sl_effects.proofs.keys.count_before.Goals.{then-goes_before, else-goes_before}

pub loop-i-preserved : goal.loop-i-preserved
loop-i-preserved c =
    elim c.if-goes_before.branch [
      | then-goes_before w ↦ (record {
        few = let e : c.if-goes_before.count ≡ c.loop-i.count + 1 = w.count-is in omega arith;
        counted = counted_one (goes_before c.args.equal _) c.args.elements.now c.loop-i.i c.loop-i.count c.if-goes_before.count _
            c.loop-i-test.true c.loop-i.invariant.counted (sym c.goes_before.ensures ∙ w.if-goes_before.true) w.count-is;
      })
      | else-goes_before w ↦ (record {
        few = let e : c.if-goes_before.count ≡ c.loop-i.count = w.count-is in omega arith;
        counted = counted_none (goes_before c.args.equal _) c.args.elements.now c.loop-i.i c.loop-i.count c.if-goes_before.count _
            c.loop-i-test.true c.loop-i.invariant.counted (sym c.goes_before.ensures ∙ w.if-goes_before.false) w.count-is;
      })
    ]

-- One more.
use Rattle.std.proofs.Common.{◌∙◌}
use Rattle.sl_effect_order.proofs.RuleLaws.{clash-next}
use Rattle.sl_effect_order.proofs.order.some_clash.Goals as goal

pub loop-place-preserved : goal.loop-place-preserved
loop-place-preserved c =
    clash-next c.args.scope.now c.args.xs.now c.loop-place.place c.index-xs-place.result c.loop-place.found c.clashes-found.result
    c.loop-place-test.true c.index-xs-place.is c.clashes-found.ensures
    ∙ c.loop-place.invariant

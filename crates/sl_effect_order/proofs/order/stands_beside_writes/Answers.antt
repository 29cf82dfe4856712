-- For each variable by itself.
use Rattle.sl_syntax.specs.TreeView.{expr_of}
use Rattle.sl_effect_order.proofs.RuleLaws.{beside-writes}
use Rattle.sl_effect_order.proofs.order.stands_beside_writes.Goals as goal

pub returns : goal.returns
returns c = beside-writes c.args.scope.now (expr_of c.args.doing.now) (expr_of c.args.e.now) _ _ c.deeds_seen-seen.ensures c.is_still.ensures

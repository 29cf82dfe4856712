-- By its two halves.
use Rattle.std.proofs.Common.{ap, ◌∙◌}
use Rattle.std.specs.Prelude.{Bool, ◌&&◌}
use Rattle.sl_syntax.specs.TreeView.{expr_of}
use Rattle.sl_effect_order.specs.Means.Seen.{stands_beside_changes, stands_beside_writes}
use Rattle.sl_effect_order.proofs.order.stands_beside.Goals as goal

pub returns : goal.returns
unfolding stands_beside_changes stands_beside_writes
returns c =
    ap (λ (b : Bool). b && c.stands_beside_writes.result) c.stands_beside_changes.ensures
    ∙ ap (λ (b : Bool). stands_beside_changes c.args.scope.now (expr_of c.args.doing.now) (expr_of c.args.e.now) && b) c.stands_beside_writes.ensures

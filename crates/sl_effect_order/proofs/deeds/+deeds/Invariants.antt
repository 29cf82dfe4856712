-- Those so far, and those that are left.
use Rattle.std.proofs.Common.{◌≡◌, drop}
use Rattle.sl_syntax.specs.TreeView.{expr_of}
use Rattle.sl_effect_order.specs.Means.Seen.{spares, both_seen}
use Rattle.sl_effect_order.proofs.DeedLaws.{rest_seen}
use Rattle.sl_effect_order.proofs.deeds.+deeds.Given as goal

abbrev pub invariant-deeds_of_all-loop-x : goal.invariant-deeds_of_all-loop-x
invariant-deeds_of_all-loop-x l =
    both_seen l.done (rest_seen (spares l.scope l.calls (expr_of l.other)) l.scope (drop l.x-index l.xs))
    ≡ rest_seen (spares l.scope l.calls (expr_of l.other)) l.scope l.xs

-- Those so far, and those that are left.
use Rattle.std.proofs.Common.{◌≡◌, drop}
use Rattle.std.specs.Prelude.{◌||◌}
use Rattle.sl_effect_order.proofs.RuleLaws.{rest_clash}
use Rattle.sl_effect_order.proofs.order.some_clash.Given as goal

abbrev pub invariant-loop-place : goal.invariant-loop-place
invariant-loop-place l = (l.found || rest_clash l.scope (drop l.place l.xs)) ≡ rest_clash l.scope l.xs

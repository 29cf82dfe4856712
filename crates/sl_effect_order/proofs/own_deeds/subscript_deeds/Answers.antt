-- A change of the container.
use Rattle.std.proofs.Common.{◌∙◌}
use Rattle.std.specs.Prelude.{true}
use Rattle.sl_effect_order.proofs.OwnLaws.{change-found, subscript-is}
use Rattle.sl_effect_order.proofs.own_deeds.subscript_deeds.Goals as goal

pub returns-then-subscript_changes : goal.returns-then-subscript_changes
returns-then-subscript_changes c =
    change-found _ _ _ _ _ c.changing.ensures c.spares.ensures c.bare_name.ensures
    ∙ subscript-is _ c.args.scope.now _ c.type_of.result _ true c.subscript_changes.ensures c.type_of.ensures c.if-subscript_changes.true

-- A change of the container, and of those that are handed over.
use Rattle.std.proofs.Common.{◌∙◌}
use Rattle.std.specs.Prelude.{true, false}
use Rattle.sl_syntax.specs.TreeView.{expr_of}
use Rattle.sl_effect_order.proofs.OwnLaws.{member-change, member-is}
use Rattle.sl_effect_order.proofs.own_deeds.member_deeds.Goals as goal

pub returns-then-member_changes : goal.returns-then-member_changes
returns-then-member_changes c =
    member-change _ c.args.scope.now (expr_of c.args.object.now) c.args.arguments.now _ _ _ _ c.changing.ensures c.spares.ensures c.bare_name.ensures c.spares_containers.ensures
    ∙ member-is _ c.args.scope.now (expr_of c.args.object.now) c.args.name.now c.args.arguments.now c.type_of.result _ true c.member_changes.ensures c.type_of.ensures
    c.if-member_changes.true

pub returns-else-member_changes : goal.returns-else-member_changes
returns-else-member_changes c =
    c.nothing_done.ensures _
    ∙ member-is _ c.args.scope.now (expr_of c.args.object.now) c.args.name.now c.args.arguments.now c.type_of.result _ false c.member_changes.ensures c.type_of.ensures
    c.if-member_changes.false

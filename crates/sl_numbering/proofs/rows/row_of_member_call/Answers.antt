use Rattle.std.proofs.Common.{List, Option, ap, ◌∙◌}
use Rattle.sl_syntax.specs.TreeView.{exprs_of}
use Rattle.sl_typing.specs.declared.expr_type.ExprType.{ExprType}
use Rattle.sl_typing.specs.Numbering.{row_of_member}
use Rattle.sl_typing.specs.TypeOf.{types_of}
use Rattle.sl_expr_types.specs.Few.{listed}
use Rattle.sl_expr_types.proofs.TypeLaws.{row_of_member-few}
use Rattle.sl_numbering.proofs.rows.row_of_member_call.Goals as goal

pub returns : goal.returns
returns c =
    let u = c.args.object in
    let name = c.args.name.now in
    c.row_of_member.ensures
    ∙ ap (λ (o : Option (List ExprType)). row_of_member u name (listed o)) c.types_of.ensures
    ∙ row_of_member-few u name (types_of c.args.scope.now (exprs_of c.args.arguments.now))

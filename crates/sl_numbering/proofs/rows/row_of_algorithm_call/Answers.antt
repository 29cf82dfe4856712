use Rattle.std.proofs.Common.{List, Option, ap, ◌∙◌}
use Rattle.sl_syntax.specs.TreeView.{exprs_of}
use Rattle.sl_typing.specs.declared.expr_type.ExprType.{ExprType}
use Rattle.sl_typing.specs.Candidates.{algorithm_row}
use Rattle.sl_typing.specs.TypeOf.{types_of}
use Rattle.sl_expr_types.specs.Few.{listed}
use Rattle.sl_expr_types.proofs.TypeLaws.{algorithm_row-few}
use Rattle.sl_numbering.proofs.rows.row_of_algorithm_call.Goals as goal

pub returns : goal.returns
returns c =
    let appends = c.args.appends in
    let name = c.args.name.now in
    c.row_of_algorithm.ensures
    ∙ ap (λ (o : Option (List ExprType)). algorithm_row appends name (listed o)) c.types_of.ensures
    ∙ algorithm_row-few appends name (types_of c.args.scope.now (exprs_of c.args.arguments.now))

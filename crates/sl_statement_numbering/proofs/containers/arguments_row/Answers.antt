use Rattle.std.proofs.Common.{◌∙◌, ap}
use Rattle.sl_expr_types.specs.Few.{listed}
use Rattle.sl_syntax.specs.TreeView.{exprs_of}
use Rattle.sl_typing.specs.Candidates.{constructor_row}
use Rattle.sl_typing.specs.TypeOf.{types_of}
use Rattle.sl_statement_types.proofs.ConstructorLaws.{constructor_row-listed}
use Rattle.sl_statement_numbering.proofs.containers.arguments_row.Goals as goal

pub returns : goal.returns
returns c =
    c.constructor_row.ensures
    ∙ ap (constructor_row c.args.form) c.slice_of.ensures
    ∙ ap (λ us. constructor_row c.args.form (listed us)) c.types_of.ensures
    ∙ constructor_row-listed c.args.form (types_of c.args.scope.now (exprs_of c.args.xs.now))

use Rattle.sl_expressions.proofs.Heights.{sized}
use Rattle.sl_expressions.proofs.expression.expr_and_height.Goals as goal

pub returns-clause-size : goal.returns-clause-size
returns-clause-size c = sized _ _ _ _ c.nested_expr.result c.requires.some c.requires.small c.nested_expr.ensures.reads

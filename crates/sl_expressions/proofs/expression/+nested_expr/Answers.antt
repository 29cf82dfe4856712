use Rattle.std.proofs.Common.{◌≡◌, ap, ◌∙◌, sym, Err, arith}
use Rattle.sl_grammar.specs.Means.Expressions.{expr}
use Rattle.sl_expressions.proofs.ExprLaws.{expr-from_operand}
use Rattle.sl_expressions.proofs.expression.+nested_expr.Goals as goal

pub returns-then-depth-eq0-clause-reads : goal.returns-then-depth-eq0-clause-reads
unfolding expr
returns-then-depth-eq0-clause-reads t c _ = let none : c.args.depth ≡ 0 = omega arith in
    ap (λ n. expr n c.args.least c.args.tokens.now) none ∙ ap Err (sym c.refuse.ensures)

pub returns-clause-reads : goal.returns-clause-reads
returns-clause-reads t c = rw (expr-from_operand c.args.depth c.args.least c.args.tokens.now (omega arith)) c.from_operand.ensures.reads

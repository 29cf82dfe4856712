use Rattle.std.proofs.Common.{arith}
use Rattle.sl_expressions.proofs.CallLaws.{call-ok}
use Rattle.sl_expressions.proofs.Views.{expr_of-Call}
use Rattle.sl_expressions.proofs.expression.nested.Nested.call.Goals as goal

pub returns-clause-reads : goal.returns-clause-reads
returns-clause-reads g c = rw expr_of-Call (call-ok _ _ _ _ _ _ _ (omega arith) c.in_ok-arguments.ensures.reads)

use Rattle.std.proofs.Common.{arith}
use Rattle.sl_expressions.proofs.CallLaws.{library_call-ok}
use Rattle.sl_expressions.proofs.Views.{expr_of-LibraryCall}
use Rattle.sl_expressions.proofs.expression.nested.Nested.library_call.Goals as goal

pub returns-clause-reads : goal.returns-clause-reads
returns-clause-reads g c =
    rw expr_of-LibraryCall (library_call-ok _ _ _ _ _ _ _ _ (omega arith) c.in_ok-function.ensures c.in_ok-arguments.ensures.reads)

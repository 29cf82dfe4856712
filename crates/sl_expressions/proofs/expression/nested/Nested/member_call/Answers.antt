use Rattle.sl_expressions.proofs.CallLaws.{called-ok}
use Rattle.sl_expressions.proofs.Views.{expr_of-MemberCall}
use Rattle.sl_expressions.proofs.expression.nested.Nested.member_call.Goals as goal

pub returns-clause-reads : goal.returns-clause-reads
returns-clause-reads g c =
    rw (expr_of-MemberCall, c.in_ok-object.ensures.ok, c.max.ensures) (called-ok _ _ _ _ _ _ _ _ c.in_ok-arguments.ensures.reads)

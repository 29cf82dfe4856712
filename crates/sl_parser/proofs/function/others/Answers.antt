use Rattle.std.proofs.Common.{sym, ap, ◌∙◌, not}
use Rattle.std.proofs.lemmas.Result.{err_from_is_err_and}
use Rattle.sl_syntax.specs.Depth.{function_height}
use Rattle.sl_syntax.specs.TreeView.{function_of}
use Rattle.sl_expressions.proofs.Heights.{pushed}
use Rattle.sl_expressions.proofs.RepeatLaws.{loop-stops, loop-fault, loop-turn}
use Rattle.sl_parser.proofs.function.others.Goals as goal

pub returns-then-sees_end : goal.returns-then-sees_end
returns-then-sees_end c =
    loop-stops _ _ _ _ _ _ _ c.loop-turn.invariant (ap not (sym c.sees_end.ensures ∙ c.if-sees_end.true))

pub returns-in_err-next : goal.returns-in_err-next
returns-in_err-next c =
    let p = err_from_is_err_and c.from_residual.result c.from_residual.ensures.1 in
    rw (p.1, p.2) (λ some. loop-fault _ _ _ _ _ _ _ _ c.loop-turn-test.true c.loop-turn.invariant
    (ap not (sym c.sees_end.ensures ∙ c.if-sees_end.false)) (c.in_err-next.ensures some))

pub loop-turn-preserved : goal.loop-turn-preserved
loop-turn-preserved c =
    loop-turn _ _ _ _ _ _ _ _ _ _ c.loop-turn-test.true c.loop-turn.invariant (ap not (sym c.sees_end.ensures ∙ c.if-sees_end.false))
    c.in_ok-next.ensures (rw c.in_ok-push.ensures.items (pushed function_of function_height _ _))

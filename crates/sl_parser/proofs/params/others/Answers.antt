use Rattle.std.proofs.Common.{refl, sym, ◌∙◌}
use Rattle.std.proofs.lemmas.Result.{err_from_is_err_and}
use Rattle.sl_expressions.proofs.Heights.{highest_behind}
use Rattle.sl_expressions.proofs.RepeatLaws.{loop-stops, loop-fault, loop-turn, loop-spent}
use Rattle.sl_parser.proofs.params.others.Goals as goal

pub returns-then-not-sees : goal.returns-then-not-sees
returns-then-not-sees c = loop-stops _ _ _ _ _ _ _ c.loop-turn.invariant (sym c.if-not-sees.ensures)

pub returns-in_err-next : goal.returns-in_err-next
returns-in_err-next c =
    let p = err_from_is_err_and c.from_residual.result c.from_residual.ensures.1 in
    rw (p.1, p.2) (λ some. loop-fault _ _ _ _ _ _ _ _ c.loop-turn-test.true c.loop-turn.invariant
    (sym c.sees.ensures ∙ c.if-not-sees.false) (c.in_err-next.ensures some))

pub loop-turn-preserved : goal.loop-turn-preserved
loop-turn-preserved c =
    loop-turn _ _ _ _ _ _ _ _ _ _ c.loop-turn-test.true c.loop-turn.invariant (sym c.sees.ensures ∙ c.if-not-sees.false) c.in_ok-next.ensures
    (rw (c.in_ok-push.ensures.items, highest_behind) refl)

pub returns-then-sees : goal.returns-then-sees
returns-then-sees c some =
    rw c.refuse.ensures (loop-spent _ _ _ _ _ _ _ c.loop-turn-test.false c.loop-turn.invariant (sym c.if-sees.ensures))

pub returns : goal.returns
returns c = loop-stops _ _ _ _ _ _ _ c.loop-turn.invariant (sym c.if-sees.ensures)

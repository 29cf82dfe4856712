use Rattle.std.proofs.Common.{refl, sym, ◌∙◌}
use Rattle.std.proofs.lemmas.Result.{err_from_is_err_and}
use Rattle.sl_expressions.proofs.RepeatLaws.{loop-stops, loop-fault, loop-turn, loop-spent}
use Rattle.sl_expressions.proofs.effect.reading.variables_behind.Goals as goal

pub returns-then-not-sees : goal.returns-then-not-sees
returns-then-not-sees c = loop-stops _ _ _ _ _ _ _ c.loop-turn.invariant (sym c.if-not-sees.ensures)

pub returns-in_err-variable : goal.returns-in_err-variable
returns-in_err-variable c =
    let goes = sym c.sees.ensures ∙ c.if-not-sees.false in
    let p = err_from_is_err_and c.from_residual.result c.from_residual.ensures.1 in
    rw (p.1, p.2) (λ some. loop-fault _ _ _ _ _ _ _ _ c.loop-turn-test.true c.loop-turn.invariant goes (c.in_err-variable.ensures some))

pub loop-turn-preserved : goal.loop-turn-preserved
loop-turn-preserved c =
    loop-turn _ _ _ _ _ _ _ _ _ _ c.loop-turn-test.true c.loop-turn.invariant (sym c.sees.ensures ∙ c.if-not-sees.false) c.in_ok-variable.ensures
    (rw c.in_ok-push.ensures.pushed refl)

pub returns-then-sees : goal.returns-then-sees
returns-then-sees c some =
    rw c.refuse.ensures (loop-spent _ _ _ _ _ _ _ c.loop-turn-test.false c.loop-turn.invariant (sym c.if-sees.ensures))

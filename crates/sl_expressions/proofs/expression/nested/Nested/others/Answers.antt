use Rattle.std.proofs.Common.{refl, sym, ◌∙◌, arith}
use Rattle.std.proofs.lemmas.Result.{err_from_is_err_and}
use Rattle.std.proofs.lemmas.List.{map-append}
use Rattle.sl_expressions.proofs.RepeatLaws.{loop-stops, loop-fault, loop-turn, loop-spent}
use Rattle.sl_expressions.proofs.expression.nested.Nested.others.Goals as goal

pub returns-then-not-sees-clause-reads : goal.returns-then-not-sees-clause-reads
returns-then-not-sees-clause-reads g c = loop-stops _ _ _ _ _ _ _ c.loop-turn.invariant.1 (sym c.if-not-sees.ensures)

pub returns-in_err-tree-clause-reads : goal.returns-in_err-tree-clause-reads
returns-in_err-tree-clause-reads g c =
    let p = err_from_is_err_and c.from_residual.result c.from_residual.ensures.1 in
    rw (p.1, p.2)
    (λ some. loop-fault _ _ _ _ _ _ _ _ c.loop-turn-test.true c.loop-turn.invariant.1 (sym c.sees.ensures ∙ c.if-not-sees.false)
    (c.in_err-tree.ensures.reads some))

pub loop-turn-preserved : goal.loop-turn-preserved
loop-turn-preserved g c = (
  omega (arith, c.max-height.ensures, c.loop-turn.invariant.0, c.in_ok-tree.ensures.low),
  loop-turn _ _ _ _ _ _ _ _ _ _ c.loop-turn-test.true c.loop-turn.invariant.1 (sym c.sees.ensures ∙ c.if-not-sees.false) c.in_ok-tree.ensures.reads
      (rw (c.in_ok-push.ensures.items, map-append, c.max-height.ensures) refl),
)

pub returns-then-sees-clause-reads : goal.returns-then-sees-clause-reads
returns-then-sees-clause-reads g c some =
    rw c.refuse.ensures (loop-spent _ _ _ _ _ _ _ c.loop-turn-test.false c.loop-turn.invariant.1 (sym c.if-sees.ensures))

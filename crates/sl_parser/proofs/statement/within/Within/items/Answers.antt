use Rattle.std.proofs.Common.{sym, ap, ◌∙◌}
use Rattle.std.specs.Prelude.{not}
use Rattle.std.proofs.lemmas.Result.{err_from_is_err_and}
use Rattle.sl_syntax.specs.Depth.{item_height}
use Rattle.sl_syntax.specs.TreeView.{item_of}
use Rattle.sl_expressions.proofs.Heights.{pushed}
use Rattle.sl_expressions.proofs.RepeatLaws.{loop-stops, loop-fault, loop-turn, loop-spent}
use Rattle.sl_parser.proofs.statement.within.Within.items.Goals as goal

pub returns-then-sees : goal.returns-then-sees
returns-then-sees g c = loop-stops _ _ _ _ _ _ _ c.loop-turn.invariant (ap not (sym c.if-sees.ensures))

pub returns-in_err-tree : goal.returns-in_err-tree
returns-in_err-tree g c =
    let p = err_from_is_err_and c.from_residual.result c.from_residual.ensures.1 in
    rw (p.1, p.2) (λ some.
    loop-fault _ _ _ _ _ _ _ _ c.loop-turn-test.true c.loop-turn.invariant (ap not (sym c.sees.ensures ∙ c.if-sees.false))
    (c.in_err-tree.ensures some))

pub loop-turn-preserved : goal.loop-turn-preserved
loop-turn-preserved g c =
    loop-turn _ _ _ _ _ _ _ _ _ _ c.loop-turn-test.true c.loop-turn.invariant (ap not (sym c.sees.ensures ∙ c.if-sees.false)) c.in_ok-tree.ensures
    (rw c.in_ok-push.ensures.items (pushed item_of item_height _ _))

pub returns-then-not-sees : goal.returns-then-not-sees
returns-then-not-sees g c some =
    rw c.refuse.ensures (loop-spent _ _ _ _ _ _ _ c.loop-turn-test.false c.loop-turn.invariant (ap not (sym c.if-not-sees.ensures)))

pub returns : goal.returns
returns g c = loop-stops _ _ _ _ _ _ _ c.loop-turn.invariant (ap not (sym c.sees-2.ensures ∙ c.if-not-sees.false))

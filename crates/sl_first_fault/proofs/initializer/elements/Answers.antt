use Rattle.std.proofs.lemmas.Result.{err_from_is_err_and}
use Rattle.sl_first_fault.proofs.LoopLaws.{Left-init, Left-turn, Left-stops, Left-spent}
use Rattle.sl_first_fault.proofs.Walks.{element_walk}
use Rattle.sl_first_fault.proofs.initializer.elements.Goals as goal

pub loop-before-init : goal.loop-before-init
loop-before-init c = Left-init element_walk _ _

pub loop-before-preserved : goal.loop-before-preserved
loop-before-preserved c =
    Left-turn element_walk _ _ _ _ _ c.index-xs-before.result c.loop-before-test.true c.index-xs-before.is c.loop-before.invariant c.in_ok-element.ensures

pub returns-in_err-element : goal.returns-in_err-element
returns-in_err-element c =
    let p = err_from_is_err_and c.from_residual.result c.from_residual.ensures.1 in
    rw (p.1, p.2)
    (Left-stops element_walk _ _ _ _ c.index-xs-before.result _ c.loop-before-test.true c.index-xs-before.is c.loop-before.invariant c.in_err-element.ensures)

pub returns : goal.returns
returns c = Left-spent element_walk _ _ _ _ c.loop-before-test.false c.loop-before.invariant

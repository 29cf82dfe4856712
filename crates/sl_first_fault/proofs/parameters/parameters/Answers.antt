use Rattle.std.proofs.lemmas.Result.{err_from_is_err_and}
use Rattle.sl_first_fault.proofs.LoopLaws.{Left-init, Left-turn, Left-stops, Left-spent}
use Rattle.sl_first_fault.proofs.Walks.{parameter_walk}
use Rattle.sl_first_fault.proofs.parameters.parameters.Goals as goal

pub loop-before-init : goal.loop-before-init
loop-before-init c = Left-init parameter_walk _ _

pub loop-before-preserved : goal.loop-before-preserved
loop-before-preserved c =
    Left-turn parameter_walk _ _ _ _ _ c.index-xs-before.result c.loop-before-test.true c.index-xs-before.is c.loop-before.invariant c.in_ok-parameter.ensures

pub returns-in_err-parameter : goal.returns-in_err-parameter
returns-in_err-parameter c =
    let p = err_from_is_err_and c.from_residual.result c.from_residual.ensures.1 in
    rw (p.1, p.2)
    (Left-stops parameter_walk _ _ _ _ c.index-xs-before.result _ c.loop-before-test.true c.index-xs-before.is c.loop-before.invariant c.in_err-parameter.ensures)

pub returns : goal.returns
returns c = Left-spent parameter_walk _ _ _ _ c.loop-before-test.false c.loop-before.invariant

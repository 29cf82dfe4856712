use Rattle.std.proofs.lemmas.Result.{err_from_is_err_and}
use Rattle.sl_first_fault.proofs.LoopLaws.{Left-init, Left-turn, Left-stops, Left-spent}
use Rattle.sl_first_fault.proofs.Walks.{function_walk}
use Rattle.sl_first_fault.proofs.function.functions.Goals as goal

pub loop-x-init : goal.loop-x-init
loop-x-init c = Left-init function_walk _ _

pub loop-x-preserved : goal.loop-x-preserved
loop-x-preserved c =
    Left-turn function_walk _ _ _ _ _ c.x-item.result c.loop-x-test.true c.x-item.is c.loop-x.invariant c.in_ok-function.ensures

pub returns-in_err-function : goal.returns-in_err-function
returns-in_err-function c =
    let p = err_from_is_err_and c.from_residual.result c.from_residual.ensures.1 in
    rw (p.1, p.2)
    (Left-stops function_walk _ _ _ _ c.x-item.result _ c.loop-x-test.true c.x-item.is c.loop-x.invariant c.in_err-function.ensures)

pub returns : goal.returns
returns c = Left-spent function_walk _ _ _ _ c.loop-x-test.false c.loop-x.invariant

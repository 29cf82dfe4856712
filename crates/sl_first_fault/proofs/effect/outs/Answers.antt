use Rattle.std.proofs.lemmas.Result.{err_from_is_err_and}
use Rattle.sl_first_fault.proofs.LoopLaws.{Left-init, Left-turn, Left-stops, Left-spent}
use Rattle.sl_first_fault.proofs.Walks.{out_walk}
use Rattle.sl_first_fault.proofs.effect.outs.Goals as goal

pub loop-item-init : goal.loop-item-init
loop-item-init c = Left-init out_walk _ _

pub loop-item-preserved : goal.loop-item-preserved
loop-item-preserved c =
    Left-turn out_walk _ _ _ _ _ c.item-item.result c.loop-item-test.true c.item-item.is c.loop-item.invariant c.in_ok-out.ensures

pub returns-in_err-out : goal.returns-in_err-out
returns-in_err-out c =
    let p = err_from_is_err_and c.from_residual.result c.from_residual.ensures.1 in
    rw (p.1, p.2) (Left-stops out_walk _ _ _ _ c.item-item.result _ c.loop-item-test.true c.item-item.is c.loop-item.invariant c.in_err-out.ensures)

pub returns : goal.returns
returns c = Left-spent out_walk _ _ _ _ c.loop-item-test.false c.loop-item.invariant

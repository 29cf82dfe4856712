use Rattle.std.proofs.Common.{ℕ, arith, length-take}
use Rattle.sl_base.proofs.Told.{OthersKept-trans, OthersKept-all, NoFault-trans, OnErr-any, IsReadInPart-next}
use Rattle.sl_base.proofs.outside.reading.read_all.Goals as goal

pub returns-in-Err-clause-others : goal.returns-in-Err-clause-others
returns-in-Err-clause-others g c = OthersKept-all _ _ _ _ c.loop-block.invariant.others c.in-Err.ensures.kept

pub returns-then-count-eq0-clause-others : goal.returns-then-count-eq0-clause-others
returns-then-count-eq0-clause-others g c = OthersKept-trans _ _ _ _ c.loop-block.invariant.others c.in-Ok.ensures.others

pub returns-in_err-extend_from_slice-clause-part : goal.returns-in_err-extend_from_slice-clause-part
returns-in_err-extend_from_slice-clause-part g c =
    OnErr-any c.from_residual.result
    (IsReadInPart-next _ _ _ _ c.loop-block.held.items _ _ c.loop-block.invariant.consumed c.in-Ok.ensures.bytes
    (omega (arith, c.in-Ok.ensures.bound, c.read.auto.buf, length-take {A = ℕ})))

pub returns-in_err-extend_from_slice-clause-others : goal.returns-in_err-extend_from_slice-clause-others
returns-in_err-extend_from_slice-clause-others g c = OthersKept-trans _ _ _ _ c.loop-block.invariant.others c.in-Ok.ensures.others

pub returns-then-count-eq0-clause-steady : goal.returns-then-count-eq0-clause-steady
returns-then-count-eq0-clause-steady g c = NoFault-trans _ _ _ _ _ _ c.loop-block.invariant.steady c.in-Ok.ensures.steady

pub returns-in_err-extend_from_slice-clause-steady_memory : goal.returns-in_err-extend_from_slice-clause-steady_memory
returns-in_err-extend_from_slice-clause-steady_memory g c memory = NoFault-trans _ _ _ _ _ _ c.loop-block.invariant.steady c.in-Ok.ensures.steady

pub returns-clause-steady : goal.returns-clause-steady
returns-clause-steady g c = c.loop-block.invariant.steady

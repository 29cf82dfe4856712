use Rattle.sl_first_fault.proofs.LoopLaws.{Left}
use Rattle.sl_first_fault.proofs.Walks.{out_walk}
use Rattle.sl_first_fault.proofs.effect.outs.Given as goal

abbrev pub invariant-loop-item : goal.invariant-loop-item
invariant-loop-item l = Left out_walk l.items l.fn.known l.known l.item-index

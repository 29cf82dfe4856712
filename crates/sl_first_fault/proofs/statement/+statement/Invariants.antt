use Rattle.sl_first_fault.proofs.LoopLaws.{Left}
use Rattle.sl_first_fault.proofs.Walks.{item_walk}
use Rattle.sl_first_fault.proofs.statement.+statement.Given as goal

abbrev pub invariant-items-loop-x : goal.invariant-items-loop-x
invariant-items-loop-x l = Left item_walk l.xs l.fn.known l.known l.x-index

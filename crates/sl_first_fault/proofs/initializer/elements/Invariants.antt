use Rattle.sl_first_fault.proofs.LoopLaws.{Left}
use Rattle.sl_first_fault.proofs.Walks.{element_walk}
use Rattle.sl_first_fault.proofs.initializer.elements.Given as goal

abbrev pub invariant-loop-before : goal.invariant-loop-before
invariant-loop-before l = Left element_walk l.xs l.fn.known l.known l.before

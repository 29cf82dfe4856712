use Rattle.sl_first_fault.proofs.LoopLaws.{Left}
use Rattle.sl_first_fault.proofs.Walks.{parameter_walk}
use Rattle.sl_first_fault.proofs.parameters.parameters.Given as goal

abbrev pub invariant-loop-before : goal.invariant-loop-before
invariant-loop-before l = Left parameter_walk l.xs l.fn.known l.known l.before

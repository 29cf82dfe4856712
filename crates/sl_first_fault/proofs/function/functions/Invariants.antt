use Rattle.sl_first_fault.proofs.LoopLaws.{Left}
use Rattle.sl_first_fault.proofs.Walks.{function_walk}
use Rattle.sl_first_fault.proofs.function.functions.Given as goal

abbrev pub invariant-loop-x : goal.invariant-loop-x
invariant-loop-x l = Left function_walk l.xs l.fn.known l.known l.x-index

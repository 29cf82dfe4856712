use Rattle.sl_statement_numbering.proofs.WalkLaws.{Left}
use Rattle.sl_types.proofs.FunctionWalks.{function_walk}
use Rattle.sl_types.proofs.functions.typed_functions.Given as goal

abbrev pub invariant-loop-f : goal.invariant-loop-f
invariant-loop-f l = Left function_walk l.functions l.fn.known l.known l.f-index l.done.items

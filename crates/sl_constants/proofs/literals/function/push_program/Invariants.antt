use Rattle.std.proofs.Common.{◌≡◌, ◌++◌, drop, flat_map}
use Rattle.sl_constants.proofs.FunctionLiterals.{function_literals}
use Rattle.sl_constants.proofs.literals.function.push_program.Given as goal

abbrev pub invariant-loop-f : goal.invariant-loop-f
invariant-loop-f l =
    l.out ++ flat_map function_literals (drop l.f-index l.p.functions.items) ≡ l.initial.out ++ flat_map function_literals l.p.functions.items

use Rattle.std.proofs.Common.{◌≡◌, ◌++◌, drop, flat_map}
use Rattle.sl_constants.proofs.FunctionLiterals.{out_literals}
use Rattle.sl_constants.proofs.literals.effect.push_outs.Given as goal

abbrev pub invariant-loop-x : goal.invariant-loop-x
invariant-loop-x l = l.out ++ flat_map out_literals (drop l.x-index l.xs) ≡ l.initial.out ++ flat_map out_literals l.xs

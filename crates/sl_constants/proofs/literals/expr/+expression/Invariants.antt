use Rattle.std.proofs.Common.{◌≡◌, ◌++◌, drop, flat_map}
use Rattle.sl_constants.proofs.ExprLiterals.{literals_in}
use Rattle.sl_constants.proofs.literals.expr.+expression.Given as goal

abbrev pub invariant-push_all-loop-x : goal.invariant-push_all-loop-x
invariant-push_all-loop-x l = l.out ++ flat_map literals_in (drop l.x-index l.xs) ≡ l.initial.out ++ flat_map literals_in l.xs

use Rattle.std.proofs.Common.{◌≡◌, ◌++◌, drop, flat_map}
use Rattle.sl_constants.proofs.StatementLiterals.{item_literals}
use Rattle.sl_constants.proofs.literals.statement.+statement.Given as goal

abbrev pub invariant-push_items-loop-x : goal.invariant-push_items-loop-x
invariant-push_items-loop-x l = l.out ++ flat_map item_literals (drop l.x-index l.xs) ≡ l.initial.out ++ flat_map item_literals l.xs

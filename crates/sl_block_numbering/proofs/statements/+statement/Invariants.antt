use Rattle.sl_block_numbering.proofs.ItemWalk.{item_walk}
use Rattle.sl_statement_numbering.proofs.WalkLaws.{Left}
use Rattle.sl_block_numbering.proofs.statements.+statement.Given as goal

abbrev pub invariant-items-loop-x : goal.invariant-items-loop-x
invariant-items-loop-x l = Left item_walk l.xs l.fn.known l.known l.x-index l.typed.items

use Rattle.sl_statement_numbering.proofs.ListWalks.{out_walk}
use Rattle.sl_statement_numbering.proofs.WalkLaws.{Left}
use Rattle.sl_statement_numbering.proofs.prints.prints.Given as goal

abbrev pub invariant-loop-out : goal.invariant-loop-out
invariant-loop-out l = Left out_walk l.outs l.fn.known l.known l.out-index l.done.items

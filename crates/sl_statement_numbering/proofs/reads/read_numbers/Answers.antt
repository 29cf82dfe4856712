use Rattle.sl_statement_numbering.proofs.RoomLaws.{numbered}
use Rattle.sl_statement_numbering.proofs.reads.read_numbers.Goals as goal

pub numbers_of-requires : goal.numbers_of-requires
numbers_of-requires c = rw c.scope.ensures (numbered c.args.known.now c.requires)

pub returns : goal.returns
returns c = rw (c.scope.ensures, c.as_slice.ensures) at c.numbers_of.ensures

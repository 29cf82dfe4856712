use Rattle.sl_statement_numbering.proofs.RoomLaws.{numbered}
use Rattle.sl_statement_numbering.proofs.containers.told_copy.Goals as goal

pub name_number-requires : goal.name_number-requires
name_number-requires c = rw c.scope.ensures (numbered c.args.known.now c.requires)

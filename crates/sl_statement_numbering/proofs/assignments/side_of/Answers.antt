use Rattle.sl_statement_numbering.proofs.RoomLaws.{numbered}
use Rattle.sl_statement_numbering.proofs.assignments.side_of.Goals as goal

pub told-name-requires : goal.told-name-requires
told-name-requires c = rw c.scope.ensures (numbered c.args.known.now c.requires.fits)

pub operand-requires-clause-fits : goal.operand-requires-clause-fits
operand-requires-clause-fits c = c.requires.fits

pub operand-requires-clause-kept : goal.operand-requires-clause-kept
operand-requires-clause-kept c = c.requires.kept

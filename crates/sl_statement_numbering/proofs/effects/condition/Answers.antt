use Rattle.sl_statement_numbering.proofs.effects.condition.Goals as goal

pub read_numbers-requires : goal.read_numbers-requires
read_numbers-requires c = c.requires.fits

pub read_numbers-requires-in-NotRead : goal.read_numbers-requires-in-NotRead
read_numbers-requires-in-NotRead c = c.requires.fits

pub expression-requires-clause-fits : goal.expression-requires-clause-fits
expression-requires-clause-fits c = c.requires.fits

pub expression-requires-clause-kept : goal.expression-requires-clause-kept
expression-requires-clause-kept c = rw c.in-Value.is at c.requires.kept

use Rattle.sl_statement_numbering.proofs.prints.printed.Goals as goal

pub expression-requires-clause-fits : goal.expression-requires-clause-fits
expression-requires-clause-fits c = c.requires.fits

pub expression-requires-clause-kept : goal.expression-requires-clause-kept
expression-requires-clause-kept c = rw c.in-Value.is at c.requires.kept

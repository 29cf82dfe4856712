use Rattle.sl_statement_numbering.proofs.values.operand.Goals as goal

pub expression-requires-clause-fits : goal.expression-requires-clause-fits
expression-requires-clause-fits c = c.requires.fits

pub expression-requires-clause-kept : goal.expression-requires-clause-kept
expression-requires-clause-kept c = c.requires.kept

use Rattle.sl_statement_numbering.proofs.declarations.reference_declaration.Goals as goal

pub operand-requires-clause-fits : goal.operand-requires-clause-fits
operand-requires-clause-fits c = c.requires.fits

pub operand-requires-clause-kept : goal.operand-requires-clause-kept
operand-requires-clause-kept c = c.requires.kept

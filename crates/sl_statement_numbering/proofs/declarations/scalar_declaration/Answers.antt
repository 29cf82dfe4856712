use Rattle.sl_statement_numbering.proofs.declarations.scalar_declaration.Goals as goal

pub set_scalar-requires-clause-fits : goal.set_scalar-requires-clause-fits
set_scalar-requires-clause-fits c = c.requires.fits

pub set_scalar-requires-clause-kept : goal.set_scalar-requires-clause-kept
set_scalar-requires-clause-kept c = rw c.in-Some.is at c.requires.kept

use Rattle.sl_statement_numbering.proofs.declarations.first_part.Goals as goal

pub first_of_for-requires-clause-fits : goal.first_of_for-requires-clause-fits
first_of_for-requires-clause-fits c = c.requires.fits

pub first_of_for-requires-clause-kept : goal.first_of_for-requires-clause-kept
first_of_for-requires-clause-kept c = rw c.in-Some.is at c.requires.kept

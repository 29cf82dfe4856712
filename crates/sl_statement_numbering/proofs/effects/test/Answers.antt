use Rattle.sl_statement_numbering.proofs.effects.test.Goals as goal

pub condition-requires-clause-fits : goal.condition-requires-clause-fits
condition-requires-clause-fits c = c.requires.fits

pub condition-requires-clause-kept : goal.condition-requires-clause-kept
condition-requires-clause-kept c = rw c.in-Some.is at c.requires.kept

use Rattle.sl_statement_numbering.proofs.effects.last_part.Goals as goal

pub effect-requires-clause-fits : goal.effect-requires-clause-fits
effect-requires-clause-fits c = c.requires.fits

pub effect-requires-clause-kept : goal.effect-requires-clause-kept
effect-requires-clause-kept c = rw c.in-Some.is at c.requires.kept

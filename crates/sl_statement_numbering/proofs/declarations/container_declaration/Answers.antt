use Rattle.sl_statement_numbering.proofs.declarations.container_declaration.Goals as goal

pub made-requires-clause-fits : goal.made-requires-clause-fits
made-requires-clause-fits c = c.requires.fits

pub made-requires-clause-kept : goal.made-requires-clause-kept
made-requires-clause-kept c = c.requires.kept

pub returns-clause-typed : goal.returns-clause-typed
returns-clause-typed c = c.in_ok-declared.ensures.typed c.args.name.now

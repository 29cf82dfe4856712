use Rattle.sl_syntax.specs.TreeView.{declaration_of}
use Rattle.sl_number_limits.proofs.PartFaults.{declared}
use Rattle.sl_number_limits.proofs.StatementParts.{at_declaration}
use Rattle.sl_block_numbering.proofs.lines.declared.Goals as goal

pub declaration-requires-clause-fits : goal.declaration-requires-clause-fits
declaration-requires-clause-fits c =
    rw c.in_ok-started.ensures.started (at_declaration c.args.known.now (declaration_of c.args.d.now) c.requires.fits c.requires.kept)

pub declaration-requires-clause-kept : goal.declaration-requires-clause-kept
declaration-requires-clause-kept c =
    rw c.in_ok-started.ensures.started (declared c.args.known.now (declaration_of c.args.d.now) c.requires.kept)

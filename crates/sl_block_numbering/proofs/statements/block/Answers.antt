use Rattle.sl_syntax.specs.TreeView.{items_of}
use Rattle.sl_number_limits.proofs.Statements.{after_items_fit}
use Rattle.sl_block_numbering.proofs.statements.block.Goals as goal

pub closing_brace-requires-clause-fits : goal.closing_brace-requires-clause-fits
closing_brace-requires-clause-fits c =
    rw c.in_ok-stmts.ensures.behind (after_items_fit c.args.known.now (items_of c.args.xs.now) c.requires.fits c.requires.kept)

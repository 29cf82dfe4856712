use Rattle.std.proofs.Common.{option_map}
use Rattle.sl_syntax.specs.TreeView.{expr_of}
use Rattle.sl_number_limits.proofs.PartFaults.{given_value}
use Rattle.sl_number_limits.proofs.StatementParts.{at_value}
use Rattle.sl_block_numbering.proofs.lines.given_back.Goals as goal

pub value_of-requires-clause-fits : goal.value_of-requires-clause-fits
value_of-requires-clause-fits c =
    rw c.in_ok-started.ensures.started
    (at_value c.args.known.now c.args.place (option_map expr_of c.args.value.now) c.requires.fits c.requires.kept)

pub value_of-requires-clause-kept : goal.value_of-requires-clause-kept
value_of-requires-clause-kept c =
    rw c.in_ok-started.ensures.started (given_value c.args.known.now c.args.place (option_map expr_of c.args.value.now) c.requires.kept)

use Rattle.sl_syntax.specs.TreeView.{effect_of}
use Rattle.sl_number_limits.proofs.PartFaults.{done_effect}
use Rattle.sl_number_limits.proofs.StatementParts.{at_effect}
use Rattle.sl_block_numbering.proofs.lines.done.Goals as goal

pub effect-requires-clause-fits : goal.effect-requires-clause-fits
effect-requires-clause-fits c =
    rw c.in_ok-started.ensures.started (at_effect c.args.known.now c.args.place (effect_of c.args.w.now) c.requires.fits c.requires.kept)

pub effect-requires-clause-kept : goal.effect-requires-clause-kept
effect-requires-clause-kept c =
    rw c.in_ok-started.ensures.started (done_effect c.args.known.now c.args.place (effect_of c.args.w.now) c.requires.kept)

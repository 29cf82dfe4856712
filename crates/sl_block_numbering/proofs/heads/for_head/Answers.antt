use Rattle.std.proofs.Common.{option_map}
use Rattle.sl_syntax.specs.TreeView.{cond_of, effect_of, first_of}
use Rattle.sl_number_limits.proofs.PartFaults.{for_first, for_test, for_last}
use Rattle.sl_number_limits.proofs.StatementParts.{at_for, at_test_fits, at_last_fits}
use Rattle.sl_block_numbering.proofs.heads.for_head.Goals as goal

pub first_part-requires-clause-fits : goal.first_part-requires-clause-fits
first_part-requires-clause-fits c =
    rw c.in_ok-outside.ensures.entered
    (at_for c.args.known.now c.args.place (option_map first_of c.args.first.now) (option_map cond_of c.args.cond.now)
    (option_map effect_of c.args.step.now) c.requires.kept.0 c.requires.fits c.requires.kept.1)

pub first_part-requires-clause-kept : goal.first_part-requires-clause-kept
first_part-requires-clause-kept c =
    rw c.in_ok-outside.ensures.entered
    (for_first c.args.known.now c.args.place (option_map first_of c.args.first.now) (option_map cond_of c.args.cond.now)
    (option_map effect_of c.args.step.now) c.requires.kept.0 c.requires.kept.1)

pub test-requires-clause-fits : goal.test-requires-clause-fits
test-requires-clause-fits c =
    rw (c.in_ok-first.ensures.behind, c.in_ok-outside.ensures.entered)
    (at_test_fits c.args.known.now c.args.place (option_map first_of c.args.first.now) (option_map cond_of c.args.cond.now)
    (option_map effect_of c.args.step.now) c.requires.kept.0 c.requires.fits c.requires.kept.1)

pub test-requires-clause-kept : goal.test-requires-clause-kept
test-requires-clause-kept c =
    rw (c.in_ok-first.ensures.behind, c.in_ok-outside.ensures.entered)
    (for_test c.args.known.now c.args.place (option_map first_of c.args.first.now) (option_map cond_of c.args.cond.now)
    (option_map effect_of c.args.step.now) c.requires.kept.0 c.requires.kept.1)

pub last_part-requires-clause-fits : goal.last_part-requires-clause-fits
last_part-requires-clause-fits c =
    rw (c.in_ok-cond.ensures.behind, c.in_ok-first.ensures.behind, c.in_ok-outside.ensures.entered)
    (at_last_fits c.args.known.now c.args.place (option_map first_of c.args.first.now) (option_map cond_of c.args.cond.now)
    (option_map effect_of c.args.step.now) c.requires.kept.0 c.requires.fits c.requires.kept.1)

pub last_part-requires-clause-kept : goal.last_part-requires-clause-kept
last_part-requires-clause-kept c =
    rw (c.in_ok-cond.ensures.behind, c.in_ok-first.ensures.behind, c.in_ok-outside.ensures.entered)
    (for_last c.args.known.now c.args.place (option_map first_of c.args.first.now) (option_map cond_of c.args.cond.now)
    (option_map effect_of c.args.step.now) c.requires.kept.0 c.requires.kept.1)

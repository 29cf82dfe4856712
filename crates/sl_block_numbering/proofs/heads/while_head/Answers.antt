use Rattle.std.proofs.Common.{◌∙◌, ap}
use Rattle.sl_syntax.specs.TreeView.{cond_of}
use Rattle.sl_typing.specs.Contexts.{Context}
use Rattle.sl_number_limits.proofs.PartFaults.{while_condition}
use Rattle.sl_number_limits.proofs.StatementParts.{at_while}
use Rattle.sl_block_numbering.proofs.HeadLaws.{still_in_loop}
use Rattle.sl_block_numbering.proofs.heads.while_head.Goals as goal

pub condition-requires-clause-fits : goal.condition-requires-clause-fits
condition-requires-clause-fits c =
    rw c.in_ok-started_loop.ensures
    (at_while c.args.known.now c.args.place (cond_of c.args.cond.now) c.requires.kept.0 c.requires.fits c.requires.kept.1)

pub condition-requires-clause-kept : goal.condition-requires-clause-kept
condition-requires-clause-kept c =
    rw c.in_ok-started_loop.ensures
    (while_condition c.args.known.now c.args.place (cond_of c.args.cond.now) c.requires.kept.0 c.requires.kept.1)

pub returns-clause-in_loop : goal.returns-clause-in_loop
returns-clause-in_loop c =
    c.looping-in_loop.ensures.before
    ∙ ap (λ (h : Context). h.scope.in_loop) c.in_ok-cond.ensures.behind
    ∙ rw c.in_ok-started_loop.ensures (still_in_loop c.args.known.now c.args.place (cond_of c.args.cond.now))

use Rattle.std.proofs.Common.{refl, ◌∙◌}
use Rattle.sl_syntax.specs.Tree.{assigns}
use Rattle.sl_syntax.specs.TreeView.{expr_of}
use Rattle.sl_number_limits.proofs.Declarations.{behind_fits}
use Rattle.sl_number_limits.proofs.Effects.{left_fits}
use Rattle.sl_number_limits.proofs.ValueFaults.{left_side, equals_sign, right_side}
use Rattle.sl_statement_numbering.proofs.AssignmentLaws.{assignment_typed}
use Rattle.sl_statement_numbering.proofs.assignments.assignment.Goals as goal

pub side_of-requires-clause-fits : goal.side_of-requires-clause-fits
side_of-requires-clause-fits c = c.requires.fits

pub side_of-requires-clause-kept : goal.side_of-requires-clause-kept
side_of-requires-clause-kept c =
    left_side c.args.known.now (expr_of c.args.left.now) c.args.operator c.args.place (expr_of c.args.right.now) c.requires.kept

pub equals_site-site-requires-clause-fits : goal.equals_site-site-requires-clause-fits
equals_site-site-requires-clause-fits c =
    rw c.in_ok-to.ensures.behind
    (behind_fits c.args.known.now (expr_of c.args.left.now) c.requires.fits
    (left_side c.args.known.now (expr_of c.args.left.now) c.args.operator c.args.place (expr_of c.args.right.now) c.requires.kept))

pub equals_site-site-requires-clause-kept : goal.equals_site-site-requires-clause-kept
equals_site-site-requires-clause-kept c =
    rw c.in_ok-to.ensures.behind
    (equals_sign c.args.known.now (expr_of c.args.left.now) c.args.operator c.args.place (expr_of c.args.right.now) c.requires.kept)

pub side_of-requires-2-clause-fits : goal.side_of-requires-2-clause-fits
side_of-requires-2-clause-fits c =
    rw (c.in_ok-pass_assignment.ensures, c.in_ok-to.ensures.behind)
    (left_fits c.args.known.now (assigns (expr_of c.args.left.now) c.args.operator c.args.place (expr_of c.args.right.now)) c.requires.fits c.requires.kept)

pub side_of-requires-2-clause-kept : goal.side_of-requires-2-clause-kept
side_of-requires-2-clause-kept c =
    rw (c.in_ok-pass_assignment.ensures, c.in_ok-to.ensures.behind)
    (right_side c.args.known.now (expr_of c.args.left.now) c.args.operator c.args.place (expr_of c.args.right.now) c.requires.kept)

pub returns-clause-typed : goal.returns-clause-typed
returns-clause-typed c =
    c.in_ok-done.ensures
    ∙ assignment_typed c.args.known.now _ _ (expr_of c.args.left.now) (expr_of c.args.right.now) c.args.operator c.args.place _ _ _ _ _ _ _
    c.in_ok-to.ensures.behind c.in_ok-pass_assignment.ensures c.equals_site-site.ensures
    c.in_ok-to.ensures.value_type c.in_ok-to.ensures.name c.in_ok-to.ensures.typed
    c.in_ok-from.ensures.value_type c.in_ok-from.ensures.name c.in_ok-from.ensures.typed

pub returns-clause-behind : goal.returns-clause-behind
returns-clause-behind c = rw (c.in_ok-from.ensures.behind, c.in_ok-pass_assignment.ensures, c.in_ok-to.ensures.behind) refl

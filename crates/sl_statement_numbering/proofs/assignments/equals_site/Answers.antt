use Rattle.sl_syntax.specs.TreeView.{expr_of}
use Rattle.sl_typing.specs.Sites.{is_assignment_site}
use Rattle.sl_statement_numbering.proofs.RoomLaws.{site_allowed}
use Rattle.sl_statement_numbering.proofs.assignments.equals_site.Goals as goal

pub site_here-requires-clause-free : goal.site_here-requires-clause-free
site_here-requires-clause-free c =
    rw (c.is_assignment_site.ensures, c.scope.ensures)
    (site_allowed c.args.known.now (is_assignment_site c.args.known.now.scope (expr_of c.args.left.now) c.args.operator) c.args.place c.requires.kept)

pub site_here-requires-clause-within : goal.site_here-requires-clause-within
site_here-requires-clause-within c = c.requires.fits.sites

pub returns : goal.returns
returns c = rw (c.is_assignment_site.ensures, c.scope.ensures) at c.site_here.ensures

use Rattle.sl_syntax.specs.TreeView.{items_of}
use Rattle.sl_typing.specs.Sites.{declares_container}
use Rattle.sl_statement_numbering.proofs.RoomLaws.{site_allowed}
use Rattle.sl_statement_numbering.proofs.closing.closing_brace.Goals as goal

pub site_here-site-requires-clause-free : goal.site_here-site-requires-clause-free
site_here-site-requires-clause-free c =
    rw c.declares_container.ensures (site_allowed c.args.known.now (declares_container (items_of c.args.items.now)) c.args.close c.requires.kept)

pub site_here-site-requires-clause-within : goal.site_here-site-requires-clause-within
site_here-site-requires-clause-within c = c.requires.fits.sites

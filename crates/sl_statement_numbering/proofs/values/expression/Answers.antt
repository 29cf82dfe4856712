use Rattle.sl_number_limits.proofs.Declarations.{expr_sites_fit}
use Rattle.sl_syntax.specs.TreeView.{expr_of}
use Rattle.sl_statement_numbering.proofs.RoomLaws.{numbered}
use Rattle.sl_statement_numbering.proofs.values.expression.Goals as goal

pub typed-requires-clause-numbered : goal.typed-requires-clause-numbered
typed-requires-clause-numbered c = rw c.scope.ensures (numbered c.args.known.now c.requires.fits)

pub typed-requires-clause-sites : goal.typed-requires-clause-sites
typed-requires-clause-sites c = rw (c.sites.ensures, c.scope.ensures) (expr_sites_fit c.args.known.now (expr_of c.args.e.now) c.requires.fits c.requires.kept)

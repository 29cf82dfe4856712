use Rattle.std.specs.Prelude.{option_map}
use Rattle.sl_candidates.specs.Found.{found_of}
use Rattle.sl_syntax.specs.TreeView.{exprs_of}
use Rattle.sl_number_limits.proofs.Declarations.{elements_fit, argument_sites_fit}
use Rattle.sl_statement_numbering.proofs.ContainerLaws.{braces_answer}
use Rattle.sl_statement_numbering.proofs.containers.operands_in.Goals as goal

pub operands-requires-clause-sites : goal.operands-requires-clause-sites
operands-requires-clause-sites c =
    rw (c.sites.ensures, c.scope-in-Braces.ensures, c.as_slice-xs.ensures.value)
    (elements_fit c.args.known.now 0 (exprs_of c.in-Braces.elements.items) c.requires.fits (rw c.in-Braces.is at c.requires.kept))

pub operands-requires-in-Arguments-clause-sites : goal.operands-requires-in-Arguments-clause-sites
operands-requires-in-Arguments-clause-sites c =
    rw (c.sites-in-Arguments.ensures, c.scope-in-Arguments.ensures, c.as_slice-in-Arguments.ensures.value)
    (argument_sites_fit c.args.known.now (exprs_of c.in-Arguments.xs.items) c.requires.fits (rw c.in-Arguments.is at c.requires.kept))

pub returns-in-Braces : goal.returns-in-Braces
returns-in-Braces c =
    rw c.in-Braces.is
    (braces_answer c.args.known.now (option_map found_of c.args.row) c.in-Braces.equal c.in-Braces.elements.items c.as_slice-xs.result.now
    c.scope-in-Braces.result.now c.sites.result c.operands.result c.sites.ensures c.scope-in-Braces.ensures c.as_slice-xs.ensures.value
    c.operands.ensures)

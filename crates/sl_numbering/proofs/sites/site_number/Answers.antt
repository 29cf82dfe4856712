use Rattle.std.proofs.Common.{arith, ◌∙◌, sym}
use Rattle.sl_syntax.specs.TreeView.{expr_of}
use Rattle.sl_numbering.proofs.SiteLaws.{site_within}
use Rattle.sl_numbering.proofs.sites.site_number.Goals as goal

pub overflow_cast-at_word : goal.overflow_cast-at_word
overflow_cast-at_word c =
    let e = expr_of c.args.x.now in
    omega (arith, c.requires, c.at_word.ensures, site_within c.args.scope.now c.args.before e (sym c.is_site.ensures ∙ c.if-is_site.true))

pub new-requires : goal.new-requires
new-requires c =
    let e = expr_of c.args.x.now in
    omega (arith, c.requires, c.at_word.ensures, site_within c.args.scope.now c.args.before e (sym c.is_site.ensures ∙ c.if-is_site.true))

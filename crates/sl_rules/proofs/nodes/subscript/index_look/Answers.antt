use Rattle.std.proofs.Common.{refl, sym, ◌∙◌}
use Rattle.sl_syntax.specs.Tree as s
use Rattle.sl_rules.proofs.CallLookLaws.{look-index, sites_before}
use Rattle.sl_rules.proofs.nodes.subscript.index_look.Goals as goal

pub returns : goal.returns
returns c g m how x y l e r =
    let n = c.args.before in
    let place = c.args.place in
    let number = c.capped_sum-number.ensures ∙ sites_before g n x c.args.object l in
    let checks = c.index_checks-checks.ensures g n how x place y (sym l.expr_type) (sym r.expr_type) number in
    look-index g n m how x place y c.args.object c.args.index _ _ _ l e r
    (rw c.or.ensures at (c.fault_behind.ensures g n how (s.index x place y) refl checks))
    c.subscript_type.ensures
    (rw (c.capped_sum.ensures, c.with_own-front.ensures, c.is_subscript_site.ensures) refl)

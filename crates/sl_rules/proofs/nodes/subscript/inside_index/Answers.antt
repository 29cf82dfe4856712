use Rattle.std.proofs.Common.{◌∙◌}
use Rattle.sl_rules.proofs.CallLookLaws.{inside-index}
use Rattle.sl_rules.proofs.nodes.subscript.inside_index.Goals as goal

pub returns : goal.returns
returns c g x at y l =
    c.with_own.ensures ∙ rw (c.capped_sum.ensures, c.is_subscript_site.ensures) (inside-index g c.args.before x at y c.args.object l)

use Rattle.std.proofs.Common.{◌∙◌}
use Rattle.sl_rules.proofs.CallLookLaws.{inside-member_call}
use Rattle.sl_rules.proofs.nodes.member_call.inside_member_call.Goals as goal

pub returns : goal.returns
returns c g x f xs l is =
    c.with_own.ensures ∙ rw c.capped_sum.ensures (inside-member_call g c.args.before x f xs c.args.object c.args.is_call_site l is)

use Rattle.std.proofs.Common.{◌∙◌}
use Rattle.sl_rules.proofs.CallLookLaws.{inside-library_call}
use Rattle.sl_rules.proofs.nodes.library_call.inside_library_call.Goals as goal

pub returns : goal.returns
returns c g f xs is = c.with_own.ensures ∙ inside-library_call g c.args.before f xs c.args.appends is

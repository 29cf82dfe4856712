use Rattle.sl_tool.proofs.EachText as each
use Rattle.sl_tool.proofs.laws.typed_or_refused.Goals as goal

pub returns : goal.returns
returns c = each.typed_or_refused

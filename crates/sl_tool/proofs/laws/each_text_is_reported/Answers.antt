use Rattle.sl_tool.proofs.OneTextLaws.{is_reported}
use Rattle.sl_tool.proofs.laws.each_text_is_reported.Goals as goal

pub returns : goal.returns
returns c = is_reported

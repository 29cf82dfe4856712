use Rattle.sl_tool.proofs.ScopedText.{is_scoped}
use Rattle.sl_tool.proofs.laws.each_text_is_scoped.Goals as goal

pub returns : goal.returns
returns c = is_scoped

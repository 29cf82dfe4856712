use Rattle.sl_tool.proofs.OneTextLaws as answers
use Rattle.sl_tool.proofs.laws.one_refusal.Goals as goal

pub returns : goal.returns
returns c = answers.one_refusal

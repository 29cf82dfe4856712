-- One answer fits a text.
use Rattle.sl_lexer.proofs.CutLaws as cuts
use Rattle.sl_lexer.proofs.laws.one_answer.Goals as goal

pub returns : goal.returns
returns c = record { one_tokens = cuts.one_tokens; one_fault = cuts.one_fault; not_both = cuts.not_both }

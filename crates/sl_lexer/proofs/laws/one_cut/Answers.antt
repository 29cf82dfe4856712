-- One cut covers a text.
use Rattle.std.proofs.Common.{length}
use Rattle.sl_lexer.proofs.CutLaws as cuts
use Rattle.sl_lexer.proofs.laws.one_cut.Goals as goal

pub returns : goal.returns
returns c = λ text ps qs h k. cuts.one_cut text ps qs (length text) h k

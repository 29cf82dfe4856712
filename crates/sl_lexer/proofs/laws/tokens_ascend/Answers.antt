use Rattle.sl_lexer.proofs.TokenOrder.{tokens-ascend}
use Rattle.sl_lexer.proofs.laws.tokens_ascend.Goals as goal

pub returns : goal.returns
returns c = tokens-ascend

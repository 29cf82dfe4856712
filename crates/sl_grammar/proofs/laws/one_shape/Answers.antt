use Rattle.sl_grammar.proofs.ProgramLaws as reading
use Rattle.sl_grammar.proofs.laws.one_shape.Goals as goal

pub returns : goal.returns
returns c = reading.one_shape

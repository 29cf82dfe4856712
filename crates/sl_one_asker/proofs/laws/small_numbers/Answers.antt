use Rattle.sl_one_asker.proofs.LexedNumbers.{text_has_small_numbers}
use Rattle.sl_one_asker.proofs.laws.small_numbers.Goals as goal

pub returns : goal.returns
returns c = text_has_small_numbers

use Rattle.sl_one_asker.proofs.OneAsker.{typed_has_one_asker}
use Rattle.sl_one_asker.proofs.laws.one_asker.Goals as goal

pub returns : goal.returns
returns c = typed_has_one_asker

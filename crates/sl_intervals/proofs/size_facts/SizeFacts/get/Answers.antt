use Rattle.std.proofs.Common.{refl}
use Rattle.sl_intervals.specs.SizeTable.{told}
use Rattle.sl_intervals.proofs.size_facts.SizeFacts.get.Goals as goal

pub returns : goal.returns
unfolding told
returns c = rw c.place_of.ensures refl

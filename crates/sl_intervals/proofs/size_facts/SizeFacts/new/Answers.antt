use Rattle.std.proofs.Common.{◌+◌, ◌*◌, arith}
use Rattle.std.proofs.lemmas.List.{get_or-replicate}
use Rattle.sl_intervals.specs.declared.size_fact.SizeFact.TheVariants.{Nothing}
use Rattle.sl_intervals.specs.SizeTable.{told}
use Rattle.sl_intervals.proofs.size_facts.SizeFacts.new.Goals as goal

pub returns : goal.returns
unfolding told
returns c = λ x d p q. get_or-replicate 768 (x * 16 + d) Nothing Nothing (omega arith)

-- An exchange takes each element over to the same place.
use Rattle.sl_model.proofs.Exchanged.{swap-goes, swap-comes, swap-ends}
use Rattle.sl_model.proofs.laws.exchanges.swap_exchanges.Goals as goal

pub returns-clause-goes : goal.returns-clause-goes
returns-clause-goes c = swap-goes

pub returns-clause-comes : goal.returns-clause-comes
returns-clause-comes c = swap-comes

pub returns-clause-ends : goal.returns-clause-ends
returns-clause-ends c = swap-ends

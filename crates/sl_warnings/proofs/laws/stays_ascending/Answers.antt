use Rattle.sl_warnings.proofs.Adding.{added-ascending}
use Rattle.sl_warnings.proofs.laws.stays_ascending.Goals as goal

pub returns : goal.returns
returns c = added-ascending

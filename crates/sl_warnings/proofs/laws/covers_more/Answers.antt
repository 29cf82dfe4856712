use Rattle.sl_warnings.proofs.Covering.{covers_old, covers_new}
use Rattle.sl_warnings.proofs.laws.covers_more.Goals as goal

pub returns : goal.returns
returns c = record { old = covers_old; new = covers_new }

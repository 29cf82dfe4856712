-- Each row of the library leaves keys in order.
use Rattle.sl_model.proofs.LibraryOrderly.{lib-orderly}
use Rattle.sl_model.proofs.OrderlyEffects.{write-orderly, end-orderly, empty-orderly}
use Rattle.sl_model.proofs.laws.keys.keys_stay_in_order.Goals as goal

pub returns-clause-called : goal.returns-clause-called
returns-clause-called c = lib-orderly

pub returns-clause-written : goal.returns-clause-written
returns-clause-written c = write-orderly

pub returns-clause-ended : goal.returns-clause-ended
returns-clause-ended c = end-orderly

pub returns-clause-empty : goal.returns-clause-empty
returns-clause-empty c = empty-orderly

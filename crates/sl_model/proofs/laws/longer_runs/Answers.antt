-- More steps change nothing but the end of a run that is out of them.
use Rattle.sl_model.proofs.LongerCalls as longer
use Rattle.sl_model.proofs.laws.longer_runs.Goals as goal

pub returns : goal.returns
returns c = longer.longer_runs

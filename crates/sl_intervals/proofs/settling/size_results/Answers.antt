use Rattle.std.proofs.Common.{refl}
use Rattle.sl_intervals.proofs.Verdicts.{size_settled}
use Rattle.sl_intervals.proofs.settling.size_results.Goals as goal

pub returns : goal.returns
returns c = size_settled c.args.s _ refl c.converted_range.ensures

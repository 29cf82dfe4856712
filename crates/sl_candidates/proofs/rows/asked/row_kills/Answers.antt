-- By its class.
use Rattle.sl_candidates.specs.Means.Places.{kills_some}
use Rattle.sl_candidates.proofs.rows.asked.row_kills.Goals as goal

pub returns : goal.returns
unfolding kills_some
returns c = c.class_kills.ensures

use Rattle.sl_kind.proofs.Sets.{none_in_zeros}
use Rattle.sl_kind.proofs.kills.Kills.empty.Goals as goal

pub returns : goal.returns
returns c = none_in_zeros 64

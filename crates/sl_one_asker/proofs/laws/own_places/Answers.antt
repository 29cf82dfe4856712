use Rattle.sl_one_asker.proofs.TokensAt.{ascending}
use Rattle.sl_one_asker.proofs.laws.own_places.Goals as goal

pub returns : goal.returns
returns c = ascending

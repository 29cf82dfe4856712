-- Class by class.
use Rattle.sl_model.proofs.InvalidatedPlaces.{kills-loses}
use Rattle.sl_model.proofs.laws.classes.iterators_go_with_references.Goals as goal

pub returns : goal.returns
returns c = kills-loses

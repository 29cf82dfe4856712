-- A change of the variable that is moved.
use Rattle.sl_effect_order.proofs.OwnLaws.{change-found}
use Rattle.sl_effect_order.proofs.own_deeds.step_deeds.Goals as goal

pub returns : goal.returns
returns c = change-found _ _ _ _ _ c.changing.ensures c.spares.ensures c.moved_name.ensures

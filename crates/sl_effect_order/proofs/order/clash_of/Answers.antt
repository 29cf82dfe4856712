-- The same, sealed.
use Rattle.sl_effect_order.specs.Means.Seen.{clash_of}
use Rattle.sl_effect_order.proofs.order.clash_of.Goals as goal

pub returns : goal.returns
unfolding clash_of
returns c = c.clash.ensures

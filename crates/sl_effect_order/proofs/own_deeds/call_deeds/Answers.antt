-- A change of the variables that are handed over.
use Rattle.std.proofs.Common.{ap, ◌∙◌}
use Rattle.sl_effect_order.specs.Means.Seen.{change_seen}
use Rattle.sl_effect_order.proofs.SeenLaws.{seen-changing}
use Rattle.sl_effect_order.proofs.own_deeds.call_deeds.Goals as goal

pub returns : goal.returns
returns c = c.changing.ensures ∙ ap change_seen c.spares_handed.ensures ∙ seen-changing _ _

-- The parameters are those of the function that was found.
use Rattle.std.proofs.Common.{◌∙◌}
use Rattle.sl_effect_order.proofs.OwnLaws.{handed-found}
use Rattle.sl_effect_order.proofs.own_deeds.spares_handed.Goals as goal

pub returns-in-Some : goal.returns-in-Some
returns-in-Some c =
    c.spares_all.ensures ∙ handed-found _ c.in-Some.head.now _ c.as_slice.result.now c.args.arguments.now c.as_slice.ensures c.in-Some.ensures

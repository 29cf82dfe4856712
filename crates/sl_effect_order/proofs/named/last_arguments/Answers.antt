-- They are those of the last one.
use Rattle.std.proofs.Common.{◌∙◌}
use Rattle.sl_effect_order.proofs.OwnLaws.{last-found}
use Rattle.sl_effect_order.proofs.named.last_arguments.Goals as goal

pub returns-in-Some : goal.returns-in-Some
returns-in-Some c = c.arguments_of.ensures ∙ last-found c.args.xs.now c.in-Some.last.now c.in-Some.ensures.value

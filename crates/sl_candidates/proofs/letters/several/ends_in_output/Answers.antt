-- It stands at the last place.
use Rattle.std.proofs.Common.{◌∙◌}
use Rattle.sl_candidates.proofs.LastLaws.{end_found}
use Rattle.sl_candidates.proofs.letters.several.ends_in_output.Goals as goal

pub returns-in-Some : goal.returns-in-Some
returns-in-Some c = c.is_output.ensures ∙ end_found c.args.letters.now c.in-Some.last.now c.in-Some.ensures.value

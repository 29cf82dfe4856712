-- It stands at the last place.
use Rattle.sl_candidates.proofs.LastLaws.{last_found}
use Rattle.sl_candidates.proofs.letters.operands.last_type.Goals as goal

pub returns-in-Some : goal.returns-in-Some
returns-in-Some c = last_found c.args.types.now c.in-Some.last.now c.in-Some.ensures.value

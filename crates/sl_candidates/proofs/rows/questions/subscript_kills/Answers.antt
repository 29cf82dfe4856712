-- By the row that was found.
use Rattle.std.proofs.Common.{◌∙◌, ap}
use Rattle.std.specs.Prelude.{Bool, false, Option, Some, None}
use Rattle.sl_typing.specs.Candidates.{Found, row_kills}
use Rattle.sl_candidates.specs.Means.Places.{kills_some}
use Rattle.sl_candidates.proofs.rows.questions.subscript_kills.Goals as goal

-- a row that was found kills
kills_found : Option Found → Bool
kills_found None = false
kills_found (Some x) = row_kills x.row

pub returns-in-Some : goal.returns-in-Some
unfolding kills_some kills_found
returns-in-Some c = c.row_kills.ensures ∙ ap kills_found c.in-Some.ensures

pub returns-in-None : goal.returns-in-None
unfolding kills_found
returns-in-None c = ap kills_found c.in-None.ensures

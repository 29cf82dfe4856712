-- The entries of the code are the table.
use Rattle.std.proofs.Common.{◌∙◌}
use Rattle.sl_candidates.specs.Means.Places.{is_killing_candidate, kills_some}
use Rattle.sl_candidates.proofs.TableWalks.{found_some}
use Rattle.sl_candidates.proofs.rows.questions.member_kills.Goals as goal

pub returns : goal.returns
unfolding kills_some
returns c = c.some_killing.ensures ∙ found_some c.entries.result.now (is_killing_candidate c.args.form c.args.name.now c.args.count) c.entries.ensures.rows

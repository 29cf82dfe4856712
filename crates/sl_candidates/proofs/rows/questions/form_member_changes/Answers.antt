-- The entries of the code are the table.
use Rattle.std.proofs.Common.{◌∙◌}
use Rattle.sl_candidates.specs.Means.Places.{is_changing_candidate}
use Rattle.sl_candidates.proofs.TableWalks.{found_some}
use Rattle.sl_candidates.proofs.rows.questions.form_member_changes.Goals as goal

pub returns : goal.returns
returns c = c.some_changing.ensures ∙ found_some c.entries.result.now (is_changing_candidate c.args.form c.args.name.now c.args.count) c.entries.ensures.rows

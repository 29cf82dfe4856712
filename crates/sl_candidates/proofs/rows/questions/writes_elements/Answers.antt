-- The entries of the code are the table.
use Rattle.std.proofs.Common.{◌∙◌}
use Rattle.sl_candidates.specs.Means.Places.{is_writing_candidate}
use Rattle.sl_candidates.proofs.TableWalks.{found_some}
use Rattle.sl_candidates.proofs.rows.questions.writes_elements.Goals as goal

pub returns : goal.returns
returns c = c.some_writing.ensures ∙ found_some c.entries.result.now (is_writing_candidate c.args.name.now c.args.count) c.entries.ensures.rows

-- The entries of the code are the table.
use Rattle.std.proofs.Common.{◌∙◌}
use Rattle.std.specs.Prelude.{Some}
use Rattle.sl_typing.specs.Candidates.{is_candidate}
use Rattle.sl_candidates.proofs.TableWalks.{found_some}
use Rattle.sl_candidates.proofs.rows.questions.has_member.Goals as goal

pub returns : goal.returns
returns c = c.some_member.ensures ∙ found_some c.entries.result.now (is_candidate (Some c.args.form) c.args.name.now c.args.count) c.entries.ensures.rows

-- The entries of the code are the table.
use Rattle.std.proofs.Common.{◌∙◌}
use Rattle.std.specs.Prelude.{None}
use Rattle.sl_typing.specs.Candidates.{is_candidate}
use Rattle.sl_candidates.proofs.TableWalks.{found_some}
use Rattle.sl_candidates.proofs.rows.questions.has_algorithm.Goals as goal

pub returns : goal.returns
returns c = c.some_algorithm.ensures ∙ found_some c.entries.result.now (is_candidate None c.args.name.now c.args.count) c.entries.ensures.rows

-- The entries of the code are the table.
use Rattle.std.proofs.Common.{◌∙◌}
use Rattle.std.specs.Prelude.{None}
use Rattle.sl_typing.specs.Candidates.{is_called}
use Rattle.sl_candidates.proofs.TableWalks.{found_some}
use Rattle.sl_candidates.proofs.rows.questions.is_algorithm_name.Goals as goal

pub returns : goal.returns
returns c = c.some_called.ensures ∙ found_some c.entries.result.now (is_called None c.args.name.now) c.entries.ensures.rows

-- The entries of the code are the table.
use Rattle.std.proofs.Common.{◌∙◌}
use Rattle.sl_typing.specs.Candidates.{is_constructor_of}
use Rattle.sl_candidates.proofs.TableWalks.{found_some}
use Rattle.sl_candidates.proofs.rows.questions.has_constructor.Goals as goal

pub returns : goal.returns
returns c = c.some_constructor.ensures ∙ found_some c.entries.result.now (is_constructor_of c.args.form c.args.count) c.entries.ensures.rows

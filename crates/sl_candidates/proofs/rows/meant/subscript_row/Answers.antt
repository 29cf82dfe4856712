-- The entries of the code are the table.
use Rattle.std.proofs.Common.{◌∙◌, ap}
use Rattle.sl_specs.specs.Table.{table}
use Rattle.sl_specs.specs.declared.call.Call.TheVariants as calls
use Rattle.sl_typing.specs.Candidates.{is_row_of}
use Rattle.sl_candidates.specs.Means.Places.{found_at}
use Rattle.sl_candidates.proofs.TableWalks.{found_first}
use Rattle.sl_candidates.proofs.rows.meant.subscript_row.Goals as goal

pub returns : goal.returns
returns c = c.found.ensures ∙ ap (found_at table) c.place_of.ensures ∙ found_first c.entries.result.now (is_row_of c.args.form calls.Subscript) c.entries.ensures.rows

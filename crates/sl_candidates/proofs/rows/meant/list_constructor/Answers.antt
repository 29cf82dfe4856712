-- The entries of the code are the table.
use Rattle.std.proofs.Common.{◌∙◌, ap}
use Rattle.sl_specs.specs.Table.{table}
use Rattle.sl_candidates.specs.Means.Places.{is_list_constructor}
use Rattle.sl_candidates.specs.Means.Places.{found_at}
use Rattle.sl_candidates.proofs.TableWalks.{found_first}
use Rattle.sl_candidates.proofs.rows.meant.list_constructor.Goals as goal

pub returns : goal.returns
returns c = c.found.ensures ∙ ap (found_at table) c.list_place.ensures ∙ found_first c.entries.result.now (is_list_constructor c.args.form) c.entries.ensures.rows

use Rattle.sl_tool.specs.Outcome.{all_rows}
use Rattle.sl_tool.proofs.tool.list_rows.Goals as goal

pub returns-in-Ok : goal.returns-in-Ok
returns-in-Ok g c = all_rows (rw (c.as_slice.ensures, c.in-Ok.ensures) at c.deliver.ensures)

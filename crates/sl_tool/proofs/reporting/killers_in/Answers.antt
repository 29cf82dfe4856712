use Rattle.sl_warnings.proofs.Sites.{sites_in-none}
use Rattle.sl_tool.proofs.reporting.killers_in.Goals as goal

pub set_of-requires : goal.set_of-requires
set_of-requires c = rw c.as_slice.ensures (rw c.in-InvalidIterator.is at c.requires)

pub returns-in-EndIterator : goal.returns-in-EndIterator
returns-in-EndIterator c = rw c.in-EndIterator.is (sites_in-none c.empty.result c.empty.ensures)

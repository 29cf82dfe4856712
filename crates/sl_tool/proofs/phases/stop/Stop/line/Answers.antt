use Rattle.sl_tool.proofs.RefusalLaws.{written}
use Rattle.sl_tool.proofs.phases.stop.Stop.line.Goals as goal

pub returns-in-Refused : goal.returns-in-Refused
returns-in-Refused c = rw c.in-Refused.is (written _ _ c.refusal_line.ensures)

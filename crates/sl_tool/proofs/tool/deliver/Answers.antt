use Rattle.std.proofs.Common.{refl}
use Rattle.sl_tool.specs.Outcome.{in_part}
use Rattle.sl_tool.proofs.tool.deliver.Goals as goal

pub returns-in-Err : goal.returns-in-Err
returns-in-Err g c = in_part refl c.in-Err.ensures.risen c.in-Err.ensures.part.0 c.in-Err.ensures.part.1

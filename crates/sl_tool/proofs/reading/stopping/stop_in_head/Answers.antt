use Rattle.std.proofs.Common.{subst}
use Rattle.sl_syntax.specs.Begins.{words_in}
use Rattle.sl_tool.specs.Means.Reading.{scope_of}
use Rattle.sl_tool.specs.Means.Slots.{Fit, head_slots}
use Rattle.sl_tool.proofs.HeadLaws.{stops_in_head}
use Rattle.sl_tool.proofs.reading.stopping.stop_in_head.Goals as goal

pub returns : goal.returns
returns c = stops_in_head (words_in c.args.tokens.now) c.fitting.result
    (subst (λ r. Fit (scope_of r) head_slots (words_in c.args.tokens.now) c.fitting.result) c.new.ensures
    (rw c.head_slots.ensures at c.fitting.ensures))

use Rattle.std.proofs.Common.{◌+◌, length, sym, subst}
use Rattle.sl_syntax.specs.Begins.{Stops}
use Rattle.sl_tool.specs.Subset.{IsInSubset}
use Rattle.sl_syntax.specs.Begins.{words_in}
use Rattle.sl_tool.specs.Subset.{head_words}
use Rattle.sl_tool.proofs.HeadLaws.{stops_behind_head}
use Rattle.sl_tool.proofs.reading.read_text.Goals as goal

pub returns-in-Stops : goal.returns-in-Stops
returns-in-Stops c =
    let stops = rw c.in-Stops.is at c.in_ok-reader.ensures in
    subst (λ l. Stops IsInSubset l (length head_words + c.in-Stops.k)) (sym c.in-Some.ensures.1)
    (stops_behind_head (words_in c.in-Some.body.now) c.in-Stops.k stops)

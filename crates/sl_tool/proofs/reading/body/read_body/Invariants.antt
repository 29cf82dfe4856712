use Rattle.sl_tool.proofs.BodyLaws.{StandsAt}
use Rattle.sl_tool.proofs.reading.body.read_body.Given as goal

abbrev pub invariant-loop-rest : goal.invariant-loop-rest
invariant-loop-rest l = StandsAt l.body l.rest l.room l.reader

abbrev pub decreases-loop-rest : goal.decreases-loop-rest
decreases-loop-rest l = l.room

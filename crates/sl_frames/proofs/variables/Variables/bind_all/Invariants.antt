use Rattle.sl_frames.proofs.BoundShows.{Binds}
use Rattle.sl_frames.proofs.variables.Variables.bind_all.Given as goal

abbrev pub invariant-loop-i : goal.invariant-loop-i
invariant-loop-i l = Binds l.parameters l.base l.i l.fn.self l.self

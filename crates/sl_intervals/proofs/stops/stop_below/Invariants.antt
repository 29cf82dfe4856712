use Rattle.sl_intervals.proofs.Stopping.{IsSoFarBelow}
use Rattle.sl_intervals.proofs.stops.stop_below.Given as goal

abbrev pub invariant-loop-i : goal.invariant-loop-i
invariant-loop-i l = IsSoFarBelow l.fn.ty l.constants l.a.low l.stop l.i

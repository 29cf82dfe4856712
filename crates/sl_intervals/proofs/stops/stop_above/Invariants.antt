use Rattle.sl_intervals.proofs.Stopping.{IsSoFarAbove}
use Rattle.sl_intervals.proofs.stops.stop_above.Given as goal

abbrev pub invariant-loop-i : goal.invariant-loop-i
invariant-loop-i l = IsSoFarAbove l.fn.ty l.constants l.a.high l.stop l.i

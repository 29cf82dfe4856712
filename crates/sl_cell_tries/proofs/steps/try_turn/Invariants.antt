use Rattle.sl_cells.specs.Windows.{IsOfInts}
use Rattle.sl_cell_tries.proofs.steps.try_turn.Given as goal

abbrev pub invariant-loop-step : goal.invariant-loop-step
invariant-loop-step g l = record { ints : IsOfInts l.subject.cells }

use Rattle.std.proofs.Common.{◌≡◌, ◌++◌, map, take, drop}
use Rattle.sl_slots.specs.Fates.{value_after}
use Rattle.sl_slots.proofs.moving.move_values.Given as goal

abbrev pub invariant-loop-value : goal.invariant-loop-value
invariant-loop-value l = l.values ≡ map (value_after l.by) (take l.value-index l.initial.values) ++ drop l.value-index l.initial.values

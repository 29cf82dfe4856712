use Rattle.std.proofs.Common.{◌≡◌, ◌++◌, map, take, drop}
use Rattle.sl_slots.specs.Fates.{pointer_after}
use Rattle.sl_slots.proofs.moving.move_pointers.Given as goal

abbrev pub invariant-loop-pointer : goal.invariant-loop-pointer
invariant-loop-pointer l = l.pointers ≡ map (pointer_after l.by) (take l.pointer-index l.initial.pointers) ++ drop l.pointer-index l.initial.pointers

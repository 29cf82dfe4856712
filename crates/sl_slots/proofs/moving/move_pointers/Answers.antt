use Rattle.sl_slots.specs.Fates.{pointer_after}
use Rattle.sl_slots.proofs.Mapping.{map_step}
use Rattle.sl_slots.proofs.moving.move_pointers.Goals as goal

pub loop-pointer-preserved : goal.loop-pointer-preserved
loop-pointer-preserved c = map_step (pointer_after c.args.by.now) c.args.pointers.now c.loop-pointer.pointers c.loop-pointer.pointer-index _ _ c.loop-pointer-test.true
    c.loop-pointer.auto.pointers c.loop-pointer.invariant c.pointer_moved.ensures

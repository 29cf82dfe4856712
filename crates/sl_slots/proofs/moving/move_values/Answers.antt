use Rattle.sl_slots.specs.Fates.{value_after}
use Rattle.sl_slots.proofs.Mapping.{map_step}
use Rattle.sl_slots.proofs.moving.move_values.Goals as goal

pub loop-value-preserved : goal.loop-value-preserved
loop-value-preserved c = map_step (value_after c.args.by.now) c.args.values.now c.loop-value.values c.loop-value.value-index _ _ c.loop-value-test.true
    c.loop-value.auto.values c.loop-value.invariant c.value_moved.ensures

use Rattle.std.proofs.Common.{◌≡◌, map, drop, ◌==◌}
use Rattle.std.specs.Bool.{if◌then◌else◌}
use Rattle.sl_model.specs.Memory.Orders.{is_partitioned, how_many}
use Rattle.sl_arguments.specs.Readings.{key_of}
use Rattle.sl_needs.specs.Means.Bounds.{is_within}
use Rattle.sl_needs.proofs.orders.is_partitioned.Given as goal

abbrev pub invariant-loop-element : goal.invariant-loop-element
invariant-loop-element l = is_partitioned (is_within l.bound) (map key_of l.elements) ≡ (if l.front
    then is_partitioned (is_within l.bound) (map key_of (drop l.element-index l.elements))
    else (how_many (is_within l.bound) (map key_of (drop l.element-index l.elements)) == 0))

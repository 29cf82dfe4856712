use Rattle.std.proofs.Common.{◌≡◌, ◌∷◌, map, drop}
use Rattle.sl_model.specs.Memory.Orders.{is_ascending}
use Rattle.sl_arguments.specs.Readings.{key_of}
use Rattle.sl_needs.proofs.orders.is_ascending.Given as goal

abbrev pub invariant-loop-element : goal.invariant-loop-element
invariant-loop-element l = is_ascending (map key_of l.elements) ≡ is_ascending (l.before ∷ map key_of (drop l.element-index l.rest))

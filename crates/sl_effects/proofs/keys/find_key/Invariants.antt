use Rattle.std.proofs.Common.{◌≡◌, drop}
use Rattle.sl_model.specs.Memory.Orders.{first_of_key, index_of_key}
use Rattle.sl_effects.specs.Means.Keys.{keys_of}
use Rattle.sl_effects.proofs.keys.find_key.Given as goal

abbrev pub invariant-loop-i : goal.invariant-loop-i
invariant-loop-i l = first_of_key l.key l.i (drop l.i (keys_of l.elements)) ≡ index_of_key l.key (keys_of l.elements)

use Rattle.std.proofs.Common.{◌≡◌, ◌≤◌, take}
use Rattle.sl_model.specs.Memory.Orders.{how_many}
use Rattle.sl_effects.specs.Means.Keys.{goes_before, keys_of}
use Rattle.sl_effects.proofs.keys.count_before.Given as goal

abbrev pub invariant-loop-i : goal.invariant-loop-i
invariant-loop-i l = record {
  few : l.count ≤ l.i;
  counted : l.count ≡ how_many (goes_before l.equal l.key) (take l.i (keys_of l.elements));
}

use Rattle.std.proofs.Common.{◌≡◌, ◌+◌, ◌≤◌, map, drop}
use Rattle.sl_arguments.specs.Readings.{key_of}
use Rattle.sl_needs.specs.Means.Merging.{left_over}
use Rattle.sl_needs.proofs.written.left_over.Given as goal

abbrev pub invariant-loop-element : goal.invariant-loop-element
invariant-loop-element l = record {
  few : l.count ≤ l.element-index;
  so_far : left_over (map key_of l.elements) (map key_of l.others)
      ≡ l.count + left_over (map key_of (drop l.element-index l.elements)) (map key_of l.rest);
}

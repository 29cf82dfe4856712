use Rattle.std.proofs.Common.{◌≡◌, map, drop}
use Rattle.sl_arguments.specs.Readings.{key_of}
use Rattle.sl_needs.specs.Means.Merging.{from_key}
use Rattle.sl_needs.proofs.written.from_key.Given as goal

abbrev pub invariant-loop-i : goal.invariant-loop-i
invariant-loop-i l = from_key l.key (map key_of l.elements) ≡ from_key l.key (map key_of (drop l.i l.elements))

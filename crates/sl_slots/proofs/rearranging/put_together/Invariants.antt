use Rattle.std.proofs.Common.{◌≡◌, map, take}
use Rattle.sl_slots.specs.Rearranging.{element_from}
use Rattle.sl_slots.proofs.rearranging.put_together.Given as goal

abbrev pub invariant-loop-source : goal.invariant-loop-source
invariant-loop-source l = l.made.items ≡ map (element_from l.own l.other) (take l.source-index l.sources)

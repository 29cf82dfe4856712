use Rattle.std.proofs.Common.{◌≡◌, drop}
use Rattle.sl_slots.specs.Rearranging.{index_taken, place_taken, takes_old}
use Rattle.sl_slots.proofs.rearrangement.place_of.Given as goal

abbrev pub invariant-loop-i : goal.invariant-loop-i
invariant-loop-i l = place_taken l.sources l.place ≡ index_taken (λ s. takes_old s l.place) l.i (drop l.i l.sources)

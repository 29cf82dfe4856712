use Rattle.std.proofs.Common.{◌≡◌, drop}
use Rattle.sl_slots.specs.Rearranging.{index_taken}
use Rattle.sl_slots.specs.Trading.{place_over, takes_theirs}
use Rattle.sl_slots.proofs.trade.place_beyond.Given as goal

abbrev pub invariant-loop-i : goal.invariant-loop-i
invariant-loop-i l = place_over l.sources l.place ≡ index_taken (λ s. takes_theirs s l.place) l.i (drop l.i l.sources)

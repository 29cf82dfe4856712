use Rattle.std.proofs.Common.{take}
use Rattle.sl_lists.proofs.Standing.{Stands}
use Rattle.sl_lists.proofs.walk.numbers_of.Given as goal

abbrev pub invariant-loop-at : goal.invariant-loop-at
invariant-loop-at l = Stands l.kind (take l.at l.bytes) l.numbers l.word

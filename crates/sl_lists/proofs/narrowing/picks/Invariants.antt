use Rattle.std.proofs.Common.{◌≡◌, take, map, pos}
use Rattle.sl_lists.proofs.narrowing.picks.Given as goal

abbrev pub invariant-loop-number : goal.invariant-loop-number
invariant-loop-number l = map pos l.numbers ≡ take l.number-index l.wide

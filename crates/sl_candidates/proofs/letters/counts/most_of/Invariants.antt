-- The sum so far, at most two for each letter.
use Rattle.std.proofs.Common.{◌≡◌, ◌*◌, ◌≤◌, take, map}
use Rattle.std.specs.List.{sum}
use Rattle.sl_typing.specs.Arguments.{most}
use Rattle.sl_candidates.proofs.letters.counts.most_of.Given as goal

abbrev pub invariant-loop-letter : goal.invariant-loop-letter
invariant-loop-letter l = (l.count ≡ sum (map most (take l.letter-index l.letters))) × (l.count ≤ 2 * l.letter-index)

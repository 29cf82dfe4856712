use Rattle.std.proofs.Common.{◌≡◌, ℕ, ◌<◌, ◌≤◌, get_or, bit_or, length}
use Rattle.sl_kind.proofs.kills.Kills.union.Given as goal

abbrev pub invariant-loop-i : goal.invariant-loop-i
invariant-loop-i l = record {
  len : length l.both.words ≡ 64;
  done : (k : ℕ) → k < l.i → get_or l.both.words k 0 ≡ bit_or (get_or l.fn.self.words k 0) (get_or l.other.words k 0);
  rest : (k : ℕ) → l.i ≤ k → get_or l.both.words k 0 ≡ get_or l.fn.self.words k 0;
}

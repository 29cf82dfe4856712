use Rattle.std.proofs.Common.{◌≡◌, ℕ, ◌<◌, ◌≤◌, ◌&&◌, get_or, length}
use Rattle.sl_intervals.specs.declared.size_fact.SizeFact.{SizeFact}
use Rattle.sl_intervals.specs.declared.size_fact.SizeFact.TheVariants.{Nothing}
use Rattle.sl_intervals.specs.SizeTable.{tells}
use Rattle.sl_intervals.proofs.size_facts.SizeFacts.join.Given as goal

abbrev pub invariant-loop-i : goal.invariant-loop-i
invariant-loop-i l = record {
  len : length l.both.entries ≡ 768;
  done : (k : ℕ) (fact : SizeFact) → k < l.i
      → tells (get_or l.both.entries k Nothing) fact ≡ (tells (get_or l.fn.self.entries k Nothing) fact && tells
      (get_or l.other.entries k Nothing) fact);
  rest : (k : ℕ) → l.i ≤ k → get_or l.both.entries k Nothing ≡ get_or l.fn.self.entries k Nothing;
}

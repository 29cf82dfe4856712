use Rattle.std.proofs.Common.{◌≡◌, ◌≢◌, ℕ, ◌<◌}
use Rattle.sl_intervals.specs.declared.size_fact.SizeFact.TheVariants.{Nothing}
use Rattle.sl_intervals.specs.SizeTable.{told}
use Rattle.sl_intervals.proofs.size_facts.SizeFacts.drop_container.Given as goal

abbrev pub invariant-loop-y : goal.invariant-loop-y
invariant-loop-y l = record {
  done : (x : ℕ) → x < l.y → told l.self x l.c ≡ Nothing;
  others : (x d : ℕ) → x < 48 → d < 16 → d ≢ l.c → told l.self x d ≡ told l.fn.self x d;
}

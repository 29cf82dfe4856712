use Rattle.std.proofs.Common.{◌≡◌, ◌≢◌, ℕ, ◌<◌}
use Rattle.sl_intervals.specs.declared.size_fact.SizeFact.TheVariants.{Nothing}
use Rattle.sl_intervals.specs.SizeTable.{told}
use Rattle.sl_intervals.proofs.size_facts.SizeFacts.drop_scalar.Given as goal

abbrev pub invariant-loop-d : goal.invariant-loop-d
invariant-loop-d l = record {
  done : (e : ℕ) → e < l.d → told l.self l.x e ≡ Nothing;
  others : (y e : ℕ) → y < 48 → e < 16 → y ≢ l.x → told l.self y e ≡ told l.fn.self y e;
}

use Rattle.std.proofs.Common.{◌≡◌, ℕ, map, take}
use Rattle.sl_slots.specs.declared.source.Source.TheVariants.{Old}
use Rattle.sl_effects.proofs.rebuilding.sources_with.Given as goal

abbrev pub invariant-loop-from : goal.invariant-loop-from
invariant-loop-from l = l.sources.items ≡ map (λ (k : ℕ). Old k) (take l.from-index l.order)

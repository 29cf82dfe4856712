use Rattle.std.proofs.Common.{◌≡◌, ◌+◌, ◌≤◌, ℤ, List, length, map}
use Rattle.sl_base.specs.declared.limits.TheConstants.{ELEMENTS}
use Rattle.sl_base.specs.declared.scalar.Scalar.TheVariants.{Int}
use Rattle.sl_model.specs.Numbers.{converted}
use Rattle.sl_model.specs.Memory.Containers.{cont_at, size as size_of}
use Rattle.sl_model.specs.Runs.State.{Pointer}
use Rattle.sl_model.specs.LibraryCalls.Values.{Value}
use Rattle.sl_model.specs.LibraryCalls.Effects.{Left}
use Rattle.sl_slots.specs.Stored.{elements_at}
use Rattle.sl_effects.specs.Carried.{GrewBy, Carries}
use Rattle.sl_effects.proofs.AppendLaws.{AppendsFrom}
use Rattle.sl_effects.proofs.appending.append_all.Given as goal

abbrev pub invariant-loop-number : goal.invariant-loop-number
invariant-loop-number l = record {
  grew : GrewBy 0 l.initial.store l.store;
  long : length (elements_at l.store l.container) ≡ length (elements_at l.initial.store l.container) + l.number-index;
  runs : (left : Left) (ps : List Pointer) (vs : List Value) (xs : List ℤ) → map (converted Int) xs ≡ l.numbers
      → size_of (cont_at left.memory l.container) + length xs ≤ ELEMENTS → Carries l.initial.store l.initial.picks left ps vs
      → AppendsFrom l.site l.container xs left l.number-index l.store l.picks ps vs;
}

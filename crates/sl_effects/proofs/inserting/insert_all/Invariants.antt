use Rattle.std.proofs.Common.{◌≡◌, ◌+◌, ◌≤◌, ℤ, true, List, length}
use Rattle.sl_base.specs.declared.limits.TheConstants.{ELEMENTS}
use Rattle.sl_model.specs.Memory.Containers.{cont_at, size as size_of}
use Rattle.sl_model.specs.Runs.State.{Pointer}
use Rattle.sl_model.specs.LibraryCalls.Values.{Value}
use Rattle.sl_model.specs.LibraryCalls.Effects.{Left}
use Rattle.sl_model.specs.LibraryCalls.KeyActions.{new_keys}
use Rattle.sl_model.proofs.FineEffects.{keys_in}
use Rattle.sl_slots.specs.Stored.{elements_at}
use Rattle.sl_effects.specs.Carried.{GrewBy, AreKeyed, Carries, is_key_class}
use Rattle.sl_effects.proofs.InsertLaws.{InsertsFrom}
use Rattle.sl_effects.proofs.inserting.insert_all.Given as goal

abbrev pub invariant-loop-element : goal.invariant-loop-element
invariant-loop-element l = record {
  grew : GrewBy 0 l.initial.store l.store;
  long : length (elements_at l.store l.container) ≤ length (elements_at l.initial.store l.container) + l.element-index;
  runs : (left : Left) (ps : List Pointer) (vs : List Value) (xs : List (ℤ × ℤ)) → is_key_class l.class ≡ true → AreKeyed xs l.elements
      → size_of (cont_at left.memory l.container) + new_keys (cont_at left.memory l.container) (keys_in xs) ≤ ELEMENTS
      → Carries l.initial.store l.initial.picks left ps vs
      → InsertsFrom l.class l.site l.container xs left l.element-index l.store l.picks ps vs;
}

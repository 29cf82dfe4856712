-- Variables of which one was written are those of the state in which it was.
use Rattle.std.proofs.Common.{◌≡◌, ℕ, ◌<◌, ◌≤◌, List, Option, Some, None, map, length, refl, ap, sym, ◌∙◌, subst}
use Rattle.std.specs.Prelude.{ℤ}
use Rattle.std.specs.List.{slice_get, slice_set}
use Rattle.std.proofs.lemmas.List.{length-map}
use Rattle.std.proofs.lemmas.Option.{slice_get_past}
use Rattle.sl_model.specs.LibraryCalls.Values.{Value}
use Rattle.sl_model.specs.Runs.Good.{AreBelow}
use Rattle.sl_model.specs.Runs.State.{iterator_at, Slot, State, mark_in, set_scalar_at, set_iterator_at}
use Rattle.sl_model.proofs.Getting.{get_map, map_set}
use Rattle.sl_model.proofs.Levels.{level_of, set_scalar-now, set_iterator-now}
use Rattle.sl_model.proofs.Locations.{below_set}
use Rattle.sl_slots.specs.declared.slot.Pointer.{Pointer as PointerCode}
use Rattle.sl_slots.specs.declared.slot.Pointer.TheVariants as p
use Rattle.sl_slots.specs.declared.slot.Slot.{Slot as SlotCode}
use Rattle.sl_slots.specs.declared.store.Store.{Store}
use Rattle.sl_slots.specs.declared.slot.Part.{Part as PartCode}
use Rattle.sl_slots.specs.declared.slot.Value.{Value as ValueCode}
use Rattle.sl_slots.specs.declared.slot.Value.TheVariants as v
use Rattle.sl_slots.specs.Shown.{Holds, contents, pointer_of, slot_of}
use Rattle.sl_frames.specs.declared.variables.ScalarVariable.{ScalarVariable}
use Rattle.sl_frames.specs.declared.variables.Variables.{Variables}
use Rattle.sl_frames.specs.Followed.{Follows, Mirrors, frame_of, variable_of}
use Rattle.sl_frames.specs.Changed.{NumberSet, PointerSet, Wrote, scalars_with}
use Rattle.sl_frames.proofs.CameShows.{at_its_level}

-- a state in which a scalar takes a number, by its scalars
set-as : (at : ℕ) (z : ℤ) (s : State) → record s { scalars = scalars_with s.scalars at z } ≡ set_scalar_at at z s
set-as at z s = elim (slice_get s.scalars at) as (λ o. (record s {
  scalars = elim o as (λ _. List Slot) [ None ↦ s.scalars | Some x ↦ slice_set s.scalars at (record x { value = Some z }) ];
}) ≡ (elim o as (λ _. State) [ None ↦ s | Some x ↦ record s { scalars = slice_set s.scalars at (record x { value = Some z }) } ]))
    [ None ↦ refl | Some x ↦ refl ]

-- a scalar took a number
pub number_mirrors : (at : ℕ) (z : ℤ) (old new : Variables) (s : State) (held : List Value) → NumberSet at z old new → Mirrors old s held
    → Mirrors new (set_scalar_at at z s) held
number_mirrors at z old new s held is h = subst (λ (t : State). Mirrors new t held) (set-as at z s) (record {
  frame = ap frame_of is.frame ∙ h.frame;
  scalars = is.scalars ∙ ap (λ (l : List Slot). scalars_with l at z) h.scalars;
  store = subst (λ (st : Store). Holds st s.memory s.iters held) (sym is.store) h.store;
})

pub number_follows : (at : ℕ) (z : ℤ) (old new : Variables) (s : State) (held : List Value) → NumberSet at z old new → Follows old s held
    → Follows new (set_scalar_at at z s) held
number_follows at z old new s held is h = record {
  good = (set_scalar-now (level_of s) s.memory.fresh at z s (at_its_level s h.good)).good;
  mirrors = number_mirrors at z old new s held is h.mirrors;
}

-- an iterator took a slot
pub iterator_follows : (at : ℕ) (x : SlotCode) (old new : Variables) (s : State) (held : List Value) (stamp : ℕ) → stamp < s.memory.fresh
    → slot_of s.memory stamp ≡ x → PointerSet at (p.Iterator x) old new → Follows old s held → Follows new (set_iterator_at at stamp s) held
iterator_follows at x old new s held stamp low same is h = record {
  good = (set_iterator-now (level_of s) s.memory.fresh at stamp s low (at_its_level s h.good)).good;
  mirrors = record {
    frame = ap frame_of is.frame ∙ h.mirrors.frame;
    scalars = ap (λ v. map variable_of v.items) is.scalars ∙ h.mirrors.scalars;
    store = record {
      sound = h.mirrors.store.sound;
      pointers_used = subst (λ (l : List ℕ). AreBelow l s.memory.fresh) (sym (map_set mark_in s.iters at (iterator_at stamp)))
          (below_set (map mark_in s.iters) at stamp s.memory.fresh h.mirrors.store.pointers_used low);
      operands_used = h.mirrors.store.operands_used;
      shows = record {
        containers = ap (λ v. map contents v.items) is.containers ∙ h.mirrors.store.shows.containers;
        pointers = is.pointers ∙ (ap (λ (l : List PointerCode). slice_set l at (p.Iterator x)) h.mirrors.store.shows.pointers
            ∙ (ap (λ (y : SlotCode). slice_set (map (pointer_of s.memory) s.iters) at (p.Iterator y)) (sym same)
            ∙ sym (map_set (pointer_of s.memory) s.iters at (iterator_at stamp))));
        operands = ap (λ v. v.items) is.operands ∙ h.mirrors.store.shows.operands;
      };
    };
  };
}

-- where a value is no place, nothing is written
pub nothing_wrote : (w : ValueCode) (z : ℤ) (now : Variables) → ((l : ℕ) → w ≡ v.ScalarAt l → ⊥)
    → ((j k : ℕ) (part : PartCode) → w ≡ v.ElementAt j k part → ⊥) → Wrote w z now now
nothing_wrote v.Nothing z now a b = refl
nothing_wrote (v.Number y) z now a b = refl
nothing_wrote (v.Iterator s) z now a b = refl
nothing_wrote (v.Pair s t) z now a b = refl
nothing_wrote (v.Two s t) z now a b = refl
nothing_wrote (v.ScalarAt l) z now a b = absurd (a l refl)
nothing_wrote (v.ContainerAt l) z now a b = refl
nothing_wrote (v.ElementAt j k part) z now a b = absurd (b j k part refl)

-- ## Lists of scalars

-- the scalar that is there takes a number
pub number_there : (xs : List ScalarVariable) (at : ℕ) (x : ScalarVariable) (z y : ℤ) → slice_get xs at ≡ Some x → y ≡ z
    → map variable_of (slice_set xs at (record x { value = Some y })) ≡ scalars_with (map variable_of xs) at z
number_there xs at x z y there same =
    ap (λ (n : ℤ). map variable_of (slice_set xs at (record x { value = Some n }))) same
    ∙ (map_set variable_of xs at (record x { value = Some z })
    ∙ sym (ap (λ (o : Option Slot). with_number o) (get_map variable_of xs at x there)))
  where
    with_number : Option Slot → List Slot
    with_number o = elim o as (λ _. List Slot) [
      | None ↦ map variable_of xs
      | Some w ↦ slice_set (map variable_of xs) at (record w { value = Some z })
    ]

-- nothing happens where none is
pub number_absent : (xs : List ScalarVariable) (at : ℕ) (z : ℤ) → length xs ≤ at → map variable_of xs ≡ scalars_with (map variable_of xs) at z
number_absent xs at z high = sym (ap (λ (o : Option Slot). with_number o)
    (slice_get_past (map variable_of xs) at (subst (λ n. n ≤ at) (sym (length-map xs variable_of)) high)))
  where
    with_number : Option Slot → List Slot
    with_number o = elim o as (λ _. List Slot) [
      | None ↦ map variable_of xs
      | Some w ↦ slice_set (map variable_of xs) at (record w { value = Some z })
    ]

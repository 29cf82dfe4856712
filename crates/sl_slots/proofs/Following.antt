-- A store whose slots take their fates goes on showing the memory.
use Rattle.std.proofs.Common.{◌≡◌, ℕ, suc, ◌<◌, ◌≤◌, List, [], ◌∷◌, map, refl, ap, sym, ◌∙◌, arith}
use Rattle.sl_model.specs.Memory.Containers.{Memory}
use Rattle.sl_model.specs.Runs.State.{Pointer, iterator_at, reference_to, mark_in}
use Rattle.sl_model.specs.LibraryCalls.Values.{Value, nothing, number, iterator, pair, two, scalar_at, container_at, element_at}
use Rattle.sl_model.specs.Runs.Good.{AreBelow, IsSound}
use Rattle.sl_model.proofs.Gifts.{IsUsed, AllUsed}
use Rattle.sl_model.proofs.Locations.{below_more}
use Rattle.sl_slots.specs.declared.slot.Pointer.{Pointer as PointerCode}
use Rattle.sl_slots.specs.declared.slot.Pointer.TheVariants as p
use Rattle.sl_slots.specs.declared.slot.Value.{Value as ValueCode}
use Rattle.sl_slots.specs.declared.slot.Value.TheVariants as v
use Rattle.sl_slots.specs.declared.slot.Slot.{Slot}
use Rattle.sl_slots.specs.declared.store.Store.{Store}
use Rattle.sl_slots.specs.declared.motion.Motion.{Motion}
use Rattle.sl_slots.specs.Shown.{slot_of, refer_slot, part_code, pointer_of, value_of, contents, plain, Holds}
use Rattle.sl_slots.specs.Fates.{slot_after, iterator_fate, reference_fate, pointer_after, value_after}
use Rattle.sl_slots.specs.Stored.{Moved}

-- the slots of what was used in a memory take these fates
pub record SlotsFollow (m t : Memory) (its refs : Slot → Slot) : Type 0 where
  pub iterators : (s : ℕ) → s < m.fresh → slot_of t s ≡ its (slot_of m s)
  pub references : (r : ℕ) → r < m.fresh → refer_slot t r ≡ refs (refer_slot m r)

-- what one variable holds
pointer_follows : (m t : Memory) (by : Motion) → SlotsFollow m t (slot_after (iterator_fate by)) (slot_after (reference_fate by))
    → (x : Pointer) → mark_in x < m.fresh → pointer_after by (pointer_of m x) ≡ pointer_of t x
pointer_follows m t by f (iterator_at s) low = ap (λ (z : Slot). p.Iterator z) (sym (f.iterators s low))
pointer_follows m t by f (reference_to r part) low = ap (λ (z : Slot). p.Reference z (part_code part)) (sym (f.references r low))

-- what variables hold
pub pointers_follow : (m t : Memory) (by : Motion) → SlotsFollow m t (slot_after (iterator_fate by)) (slot_after (reference_fate by))
    → (ps : List Pointer) → AreBelow (map mark_in ps) m.fresh → map (pointer_after by) (map (pointer_of m) ps) ≡ map (pointer_of t) ps
pointers_follow m t by f [] below = refl
pointers_follow m t by f (x ∷ ps) below =
    ap (λ (y : PointerCode). y ∷ map (pointer_after by) (map (pointer_of m) ps)) (pointer_follows m t by f x (below 0 (mark_in x) refl))
    ∙ ap (λ (l : List PointerCode). pointer_of t x ∷ l) (pointers_follow m t by f ps (λ k s h. below (suc k) s h))

-- a value
value_follows : (m t : Memory) (by : Motion) → SlotsFollow m t (slot_after (iterator_fate by)) (slot_after (reference_fate by))
    → (x : Value) → IsUsed m.fresh x → value_after by (value_of m x) ≡ value_of t x
value_follows m t by f nothing used = refl
value_follows m t by f (number z) used = refl
value_follows m t by f (iterator s) used = ap (λ (z : Slot). v.Iterator z) (sym (f.iterators s used))
value_follows m t by f (pair s b) used = ap (λ (z : Slot). v.Pair z b) (sym (f.iterators s used))
value_follows m t by f (two s u) used =
    ap (λ (z : Slot). v.Two z (slot_after (iterator_fate by) (slot_of m u))) (sym (f.iterators s used.0))
    ∙ ap (λ (z : Slot). v.Two (slot_of t s) z) (sym (f.iterators u used.1))
value_follows m t by f (scalar_at l) used = refl
value_follows m t by f (container_at l) used = refl
value_follows m t by f (element_at j k part) used = refl

-- values
pub values_follow : (m t : Memory) (by : Motion) → SlotsFollow m t (slot_after (iterator_fate by)) (slot_after (reference_fate by))
    → (vs : List Value) → AllUsed m.fresh vs → map (value_after by) (map (value_of m) vs) ≡ map (value_of t) vs
values_follow m t by f [] used = refl
values_follow m t by f (x ∷ vs) used =
    ap (λ (y : ValueCode). y ∷ map (value_after by) (map (value_of m) vs)) (value_follows m t by f x used.0)
    ∙ ap (λ (l : List ValueCode). value_of t x ∷ l) (values_follow m t by f vs used.1)

-- what was used is used later
used_more : (n k : ℕ) → n ≤ k → (x : Value) → IsUsed n x → IsUsed k x
used_more n k up nothing used = tt
used_more n k up (number z) used = tt
used_more n k up (iterator s) used = let u : s < n = used in omega arith
used_more n k up (pair s b) used = let u : s < n = used in omega arith
used_more n k up (two s o) used = let u : s < n = used.0 in let w : o < n = used.1 in (omega arith, omega arith)
used_more n k up (scalar_at l) used = tt
used_more n k up (container_at l) used = tt
used_more n k up (element_at j i part) used = tt

pub all_used_more : (n k : ℕ) → n ≤ k → (vs : List Value) → AllUsed n vs → AllUsed k vs
all_used_more n k up [] used = tt
all_used_more n k up (x ∷ vs) used = (used_more n k up x used.0, all_used_more n k up vs used.1)

-- a store in which all that is held took its fate shows the memory after it
pub moved_holds : (old new : Store) (m t : Memory) (by : Motion) (ps : List Pointer) (vs : List Value)
    → Holds old m ps vs → Moved by old new → IsSound t → m.fresh ≤ t.fresh
    → SlotsFollow m t (slot_after (iterator_fate by)) (slot_after (reference_fate by))
    → map contents new.containers.items ≡ map plain t.conts → Holds new t ps vs
moved_holds old new m t by ps vs h moved sound up f same = record {
  sound = sound;
  pointers_used = below_more (map mark_in ps) m.fresh t.fresh up h.pointers_used;
  operands_used = all_used_more m.fresh t.fresh up vs h.operands_used;
  shows = record {
    containers = same;
    pointers = moved.pointers ∙ (ap (map (pointer_after by)) h.shows.pointers ∙ pointers_follow m t by f ps h.pointers_used);
    operands = moved.operands ∙ (ap (map (value_after by)) h.shows.operands ∙ values_follow m t by f vs h.operands_used);
  };
}

-- ## Where nothing moves

-- where no slot changes, neither does what variables hold
still_pointers : (m t : Memory) → SlotsFollow m t (λ s. s) (λ s. s) → (ps : List Pointer) → AreBelow (map mark_in ps) m.fresh
    → map (pointer_of m) ps ≡ map (pointer_of t) ps
still_pointers m t f [] below = refl
still_pointers m t f (x ∷ ps) below =
    ap (λ (y : PointerCode). y ∷ map (pointer_of m) ps) (one x (below 0 (mark_in x) refl))
    ∙ ap (λ (l : List PointerCode). pointer_of t x ∷ l) (still_pointers m t f ps (λ k s h. below (suc k) s h))
  where
    one : (x : Pointer) → mark_in x < m.fresh → pointer_of m x ≡ pointer_of t x
    one (iterator_at s) low = ap (λ (z : Slot). p.Iterator z) (sym (f.iterators s low))
    one (reference_to r part) low = ap (λ (z : Slot). p.Reference z (part_code part)) (sym (f.references r low))

-- nor does a value
still_values : (m t : Memory) → SlotsFollow m t (λ s. s) (λ s. s) → (vs : List Value) → AllUsed m.fresh vs
    → map (value_of m) vs ≡ map (value_of t) vs
still_values m t f [] used = refl
still_values m t f (x ∷ vs) used =
    ap (λ (y : ValueCode). y ∷ map (value_of m) vs) (one x used.0)
    ∙ ap (λ (l : List ValueCode). value_of t x ∷ l) (still_values m t f vs used.1)
  where
    one : (x : Value) → IsUsed m.fresh x → value_of m x ≡ value_of t x
    one nothing used = refl
    one (number z) used = refl
    one (iterator s) used = ap (λ (z : Slot). v.Iterator z) (sym (f.iterators s used))
    one (pair s b) used = ap (λ (z : Slot). v.Pair z b) (sym (f.iterators s used))
    one (two s u) used =
        ap (λ (z : Slot). v.Two z (slot_of m u)) (sym (f.iterators s used.0)) ∙ ap (λ (z : Slot). v.Two (slot_of t s) z) (sym (f.iterators u used.1))
    one (scalar_at l) used = refl
    one (container_at l) used = refl
    one (element_at j k part) used = refl

-- a store in which nothing moved shows a memory in which nothing moved
pub still_holds : (old new : Store) (m t : Memory) (ps : List Pointer) (vs : List Value)
    → Holds old m ps vs → new.pointers.items ≡ old.pointers.items → new.operands.items ≡ old.operands.items → IsSound t → m.fresh ≤ t.fresh
    → SlotsFollow m t (λ s. s) (λ s. s) → map contents new.containers.items ≡ map plain t.conts → Holds new t ps vs
still_holds old new m t ps vs h same_pointers same_operands sound up f same = record {
  sound = sound;
  pointers_used = below_more (map mark_in ps) m.fresh t.fresh up h.pointers_used;
  operands_used = all_used_more m.fresh t.fresh up vs h.operands_used;
  shows = record {
    containers = same;
    pointers = same_pointers ∙ (h.shows.pointers ∙ still_pointers m t f ps h.pointers_used);
    operands = same_operands ∙ (h.shows.operands ∙ still_values m t f vs h.operands_used);
  };
}

-- What is read of elements, written in them and bound to them is what the memory has that a store shows.
use Rattle.std.proofs.Common.{◌≡◌, ℕ, zero, suc, ◌<◌, ◌≤◌, List, [], ◌∷◌, Option, Some, None, map, length, refl, ap, sym, ◌∙◌}
use Rattle.std.proofs.Common.{subst, ℤ, pos, arith, ◌+◌}
use Rattle.std.proofs.Common.{Bool, true, false, if◌then◌else◌}
use Rattle.std.proofs.lemmas.List.{length-append, length-map}
use Rattle.std.specs.List.{slice_get, slice_set}
use Rattle.std.specs.Option.{option_map}
use Rattle.std.proofs.lemmas.Option.{slice_get-get_or, slice_get-map, slice_get_past}
use Rattle.sl_base.specs.declared.form.Form.TheVariants.{Vector}
use Rattle.sl_base.specs.declared.scalar.Scalar.TheVariants as t
use Rattle.sl_model.specs.Numbers.{converted}
use Rattle.sl_base.specs.declared.place.Place.{Place}
use Rattle.sl_model.specs.Memory.Containers.{Cell, Cont, Memory, Part, key_part, value_part, part_of, cont_at, cont_with, cells_with, element}
use Rattle.sl_model.specs.Memory.Containers.{is_writable}
use Rattle.sl_model.specs.Memory.Containers.{killer_of, refers, with_part, write_element}
use Rattle.sl_model.specs.Memory.Containers.{begin_of, end_of, stamps}
use Rattle.sl_model.specs.LibraryCalls.Values.{Value, nothing, number, iterator, pair, two, scalar_at, container_at, element_at}
use Rattle.sl_model.specs.Runs.Eval.{read_at, write_at}
use Rattle.sl_model.specs.Runs.Good.{IsAt, IsSound, RefersTo}
use Rattle.sl_model.specs.Runs.State.{Pointer, State}
use Rattle.sl_model.proofs.After.{cont_of_there, cont_of_none}
use Rattle.sl_model.proofs.Getting.{get_behind, get_map, get_some}
use Rattle.sl_model.proofs.Levels.{level_of, write-now}
use Rattle.sl_model.proofs.Located.{at_stands, locate-at, refer-at, refers_stands}
use Rattle.sl_slots.specs.declared.container.Container.{Container}
use Rattle.sl_slots.specs.declared.container.Element.{Element}
use Rattle.sl_slots.specs.declared.slot.Part.{Part as PartCode}
use Rattle.sl_slots.specs.declared.slot.Slot.TheVariants.{Stands}
use Rattle.sl_slots.specs.declared.slot.Value.TheVariants as v
use Rattle.sl_slots.specs.declared.store.Store.{Store}
use Rattle.sl_slots.specs.Shown.{Holds, Plain, contents, plain, element_of, part_code, refer_slot, slot_from, slot_of, value_of}
use Rattle.sl_slots.specs.Stored.{elements_at}
use Rattle.sl_frames.specs.declared.variables.Variables.{Variables}
use Rattle.sl_frames.specs.Followed.{FitsRead, Follows, frame_of, variable_of}
use Rattle.sl_frames.specs.Changed.{element_number, number_in}
use Rattle.sl_frames.proofs.CameShows.{at_its_level}

-- ## Elements

-- the contents of a container, an empty one where there is none
abbrev plain_or : Option Plain → Plain
plain_or o = elim o as (λ _. Plain) [ None ↦ record { form = Vector; elements = []; room = 0 } | Some p ↦ p ]

contents_or : (o : Option Container) → (elim o as (λ _. Plain) [
  | None ↦ record { form = Vector; elements = []; room = 0 }
  | Some c ↦ contents c
]) ≡ plain_or (option_map contents o)
contents_or None = refl
contents_or (Some c) = refl

-- the elements of a container of the store
pub elements_shown : (st : Store) (m : Memory) (ps : List Pointer) (vs : List Value) → Holds st m ps vs → (j : ℕ)
    → elements_at st j ≡ map element_of (cont_at m j).cells
elements_shown st m ps vs h j =
    ap (λ (x : Plain). x.elements) (contents_or (slice_get st.containers.items j) ∙ ap (λ (o : Option Plain). plain_or o)
    (sym (slice_get-map contents st.containers.items j)
    ∙ (ap (λ (l : List Plain). slice_get l j) h.shows.containers ∙ slice_get-map plain m.conts j)))
    ∙ by_cont (slice_get m.conts j) refl
  where
    by_cont : (o : Option Cont) → slice_get m.conts j ≡ o → (plain_or (option_map plain o)).elements ≡ map element_of (cont_at m j).cells
    by_cont None e = ap (λ (c : Cont). map element_of c.cells) (sym (cont_of_none m j e))
    by_cont (Some d) e = ap (λ (c : Cont). map element_of c.cells) (sym (cont_of_there m j d e))

-- there are none where no container is
pub elements_past : (st : Store) (j : ℕ) → length st.containers.items ≤ j → elements_at st j ≡ []
elements_past st j past = ap (λ (o : Option Container). (contents_of o).elements) (slice_get_past st.containers.items j past)
  where
    contents_of : Option Container → Plain
    contents_of o = elim o as (λ _. Plain) [ None ↦ record { form = Vector; elements = []; room = 0 } | Some c ↦ contents c ]

-- one of them
pub cells_shown : (st : Store) (m : Memory) (ps : List Pointer) (vs : List Value) → Holds st m ps vs → (j k : ℕ)
    → slice_get (elements_at st j) k ≡ option_map element_of (slice_get (cont_at m j).cells k)
cells_shown st m ps vs h j k =
    ap (λ (l : List Element). slice_get l k) (elements_shown st m ps vs h j) ∙ slice_get-map element_of (cont_at m j).cells k

-- ## Reading

-- a number of what may be there
number_shown : (which : Part) (o : Option Cell) → number_in (part_code which) (option_map element_of o)
    ≡ (elim o as (λ _. ℤ) [ None ↦ pos 0 | Some x ↦ part_of which x ])
number_shown key_part None = refl
number_shown key_part (Some x) = refl
number_shown value_part None = refl
number_shown value_part (Some x) = refl

-- a number of an element
pub element_shown : (st : Store) (m : Memory) (ps : List Pointer) (vs : List Value) → Holds st m ps vs → (j k : ℕ) (which : Part)
    → number_in (part_code which) (slice_get (elements_at st j) k) ≡ element m j k which
element_shown st m ps vs h j k which =
    ap (number_in (part_code which)) (cells_shown st m ps vs h j k) ∙ number_shown which (slice_get (cont_at m j).cells k)

-- an element that is read
pub element_fits : (st : Store) (s : State) (vs : List Value) → Holds st s.memory s.iters vs → (at : Place) (j k : ℕ) (part : PartCode) (x : Value)
    → value_of s.memory x ≡ v.ElementAt j k part → FitsRead at (Some (element_number st j k part)) s (read_at at x s)
element_fits st s vs h at j k part nothing e = absurd (cc)
element_fits st s vs h at j k part (number z) e = absurd (cc)
element_fits st s vs h at j k part (iterator z) e = absurd (cc)
element_fits st s vs h at j k part (pair z b) e = absurd (cc)
element_fits st s vs h at j k part (two z b) e = absurd (cc)
element_fits st s vs h at j k part (scalar_at l) e = absurd (cc)
element_fits st s vs h at j k part (container_at l) e = absurd (cc)
element_fits st s vs h at j k part (element_at i n which) e =
    let a : i ≡ j = cc in
    let b : n ≡ k = cc in
    let d : part_code which ≡ part = cc in (
      number (element s.memory i n which),
      refl,
      ap (λ (z : ℤ). v.Number z) (sym (element_shown st s.memory s.iters vs h i n which)
          ∙ (ap (λ (l : ℕ). number_in (part_code which) (slice_get (elements_at st l) n)) a
          ∙ (ap (λ (l : ℕ). number_in (part_code which) (slice_get (elements_at st j) l)) b
          ∙ ap (λ (q : PartCode). number_in q (slice_get (elements_at st j) k)) d))),
    )

-- ## Writing

-- what is there is put there
set_there : {A : Type 0} (xs : List A) (i : ℕ) (x : A) → slice_get xs i ≡ Some x → slice_set xs i x ≡ xs
set_there [] i x e = refl
set_there (y ∷ xs) zero x e = let q : y ≡ x = cc in ap (λ z. z ∷ xs) (sym q)
set_there (y ∷ xs) (suc i) x e = ap (λ l. y ∷ l) (set_there xs i x e)

-- a container in which nothing is written
cont_same : (c : Cont) (k : ℕ) (part : Part) (z : ℤ) → slice_get c.cells k ≡ None → cont_with c k part z ≡ c
cont_same c k part z e = by_test (is_writable c.form part)
  where
    cells_same : cells_with c.cells k part z ≡ c.cells
    cells_same = ap (λ (o : Option Cell). elim o as (λ _. List Cell) [
      | None ↦ c.cells
      | Some x ↦ slice_set c.cells k (with_part part (converted t.Int z) x)
    ]) e

    by_test : (b : Bool) → (if b then record c { cells = cells_with c.cells k part z } else c) ≡ c
    by_test true = ap (λ (l : List Cell). record c { cells = l }) cells_same
    by_test false = refl

-- nothing is written where no element is
pub write-absent : (m : Memory) (j k : ℕ) (part : Part) (z : ℤ) → slice_get (cont_at m j).cells k ≡ None → m ≡ write_element m j k part z
write-absent m j k part z e = by_cont (slice_get m.conts j) refl
  where
    by_cont : (o : Option Cont) → slice_get m.conts j ≡ o
        → m ≡ (elim o as (λ _. Memory) [ None ↦ m | Some c ↦ record m { conts = slice_set m.conts j (cont_with c k part z) } ])
    by_cont None q = refl
    by_cont (Some c) q =
        let r : slice_get c.cells k ≡ None = ap (λ (d : Cont). slice_get d.cells k) (sym (cont_of_there m j c q)) ∙ e in
        ap (λ (l : List Cont). record m { conts = l }) (sym (ap (slice_set m.conts j) (cont_same c k part z r) ∙ set_there m.conts j c q))

-- ## Binding

-- the memory has an element where the store has one
pub cell_there : (st : Store) (m : Memory) (ps : List Pointer) (vs : List Value) → Holds st m ps vs → (j k : ℕ) → k < length (elements_at st j)
    → (x : Cell) × (slice_get (cont_at m j).cells k ≡ Some x)
cell_there st m ps vs h j k low = get_some (cont_at m j).cells k
    (subst (λ n. k < n) (ap (λ (l : List Element). length l) (elements_shown st m ps vs h j) ∙ length-map (cont_at m j).cells element_of) low)

-- and none where it has none
pub cell_absent : (st : Store) (m : Memory) (ps : List Pointer) (vs : List Value) → Holds st m ps vs → (j k : ℕ) → length (elements_at st j) ≤ k
    → slice_get (cont_at m j).cells k ≡ None
cell_absent st m ps vs h j k high = slice_get_past (cont_at m j).cells k
    (subst (λ n. n ≤ k) (ap (λ (l : List Element). length l) (elements_shown st m ps vs h j) ∙ length-map (cont_at m j).cells element_of) high)

-- the refer of an element was used, and it stands there
pub refer_there : (m : Memory) (j k : ℕ) (x : Cell) → IsSound m → slice_get m.conts j ≡ Some (cont_at m j)
    → slice_get (cont_at m j).cells k ≡ Some x → (x.refer < m.fresh) × (refer_slot m x.refer ≡ Stands j k)
refer_there m j k x sound there at = (
  sound.refers_apart.used j k x.refer (refers_stands m j k x.refer stands),
  ap (λ (o : Option (ℕ × ℕ)). slot_from o (killer_of x.refer m.lost)) (refer-at m j k x.refer sound stands),
)
  where
    stands : RefersTo m j k x.refer
    stands = record { cont = cont_at m j; there = there; stands = get_map (λ (y : Cell). y.refer) (cont_at m j).cells k x at }

-- there is no refer where no element is
pub refer_absent : (m : Memory) (j k : ℕ) → slice_get (cont_at m j).cells k ≡ None → slice_get (refers (cont_at m j)) k ≡ None
refer_absent m j k e = slice_get-map (λ (x : Cell). x.refer) (cont_at m j).cells k ∙ ap (option_map (λ (x : Cell). x.refer)) e

-- a memory has a container where it has an element
pub container_there : (m : Memory) (j k : ℕ) (x : Cell) → slice_get (cont_at m j).cells k ≡ Some x → slice_get m.conts j ≡ Some (cont_at m j)
container_there m j k x at = by_cont (slice_get m.conts j) refl
  where
    by_cont : (o : Option Cont) → slice_get m.conts j ≡ o → slice_get m.conts j ≡ Some (cont_at m j)
    by_cont None e = absurd (let q : None ≡ Some x = ap (λ (c : Cont). slice_get c.cells k) (sym (cont_of_none m j e)) ∙ at in cc)
    by_cont (Some d) e = e ∙ ap (λ (c : Cont). Some c) (sym (cont_of_there m j d e))

-- ## Begin and end

-- a container that is there
pub cont_there : (m : Memory) (j : ℕ) → j < length m.conts → slice_get m.conts j ≡ Some (cont_at m j)
cont_there m j low =
    let d = get_some m.conts j low in d.1 ∙ ap (λ (c : Cont). Some c) (sym (cont_of_there m j d.0 d.1))

-- a stamp of a container was used, and it stands there
stamp_stands : (m : Memory) (j k stamp : ℕ) → IsSound m → j < length m.conts → slice_get (stamps (cont_at m j)) k ≡ Some stamp
    → (stamp < m.fresh) × (slot_of m stamp ≡ Stands j k)
stamp_stands m j k stamp sound low at = (
  sound.stamps_apart.used j k stamp (at_stands m j k stamp stands),
  ap (λ (o : Option (ℕ × ℕ)). slot_from o (killer_of stamp m.graves)) (locate-at m j k stamp sound stands),
)
  where
    stands : IsAt m j k stamp
    stands = record { cont = cont_at m j; there = cont_there m j low; stands = at }

-- the begin of a container
pub begin_stands : (m : Memory) (j : ℕ) → IsSound m → j < length m.conts → (begin_of m j < m.fresh) × (slot_of m (begin_of m j) ≡ Stands j 0)
begin_stands m j sound low = stamp_stands m j 0 (begin_of m j) sound low (slice_get-get_or (stamps (cont_at m j)) 0 m.fresh some)
  where
    some : 0 < length (stamps (cont_at m j))
    some = let e = length-append (map (λ (x : Cell). x.stamp) (cont_at m j).cells) ((cont_at m j).end ∷ []) in omega arith

-- the end of a container, by the number of elements in the store
pub end_stands : (st : Store) (m : Memory) (ps : List Pointer) (vs : List Value) → Holds st m ps vs → (j : ℕ) → j < length m.conts
    → (end_of m j < m.fresh) × (slot_of m (end_of m j) ≡ Stands j (length (elements_at st j)))
end_stands st m ps vs h j low = stamp_stands m j (length (elements_at st j)) (end_of m j) h.sound low
    (ap (slice_get (stamps (cont_at m j))) place ∙ get_behind (map (λ (x : Cell). x.stamp) (cont_at m j).cells) ((cont_at m j).end ∷ []) 0)
  where
    place : length (elements_at st j) ≡ length (map (λ (x : Cell). x.stamp) (cont_at m j).cells) + 0
    place =
        let a = ap (λ (l : List Element). length l) (elements_shown st m ps vs h j) in
        let b = length-map (cont_at m j).cells element_of in
        let d = length-map (cont_at m j).cells (λ (x : Cell). x.stamp) in omega arith

-- ## Variables

-- a number was written in an element
pub element_written : (old new : Variables) (j k : ℕ) (part : PartCode) (z : ℤ) → new.frame ≡ old.frame → new.scalars ≡ old.scalars
    → ((m : Memory) (ps : List Pointer) (vs : List Value) (which : Part) → part_code which ≡ part → Holds old.store m ps vs
    → Holds new.store (write_element m j k which z) ps vs) → (s : State) (held : List Value) (x : Value) → value_of s.memory x ≡ v.ElementAt j k part
    → Follows old s held → Follows new (write_at x z s) held
element_written old new j k part z frame scalars write s held nothing e h = absurd (cc)
element_written old new j k part z frame scalars write s held (number y) e h = absurd (cc)
element_written old new j k part z frame scalars write s held (iterator y) e h = absurd (cc)
element_written old new j k part z frame scalars write s held (pair y b) e h = absurd (cc)
element_written old new j k part z frame scalars write s held (two y b) e h = absurd (cc)
element_written old new j k part z frame scalars write s held (scalar_at l) e h = absurd (cc)
element_written old new j k part z frame scalars write s held (container_at l) e h = absurd (cc)
element_written old new j k part z frame scalars write s held (element_at i n which) e h =
    let a : j ≡ i = cc in
    let b : k ≡ n = cc in
    let d : part_code which ≡ part = cc in record {
      good = (write-now (level_of s) s.memory.fresh (element_at i n which) z s (at_its_level s h.good)).good;
      mirrors = record {
        frame = ap frame_of frame ∙ h.mirrors.frame;
        scalars = ap (λ w. map variable_of w.items) scalars ∙ h.mirrors.scalars;
        store = subst (λ (l : ℕ). Holds new.store (write_element s.memory l n which z) s.iters held) a
            (subst (λ (l : ℕ). Holds new.store (write_element s.memory j l which z) s.iters held) b
            (write s.memory s.iters held which d h.mirrors.store));
      };
    }

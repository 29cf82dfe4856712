-- A store with a new container shows the memory with it.
use Rattle.std.proofs.Common.{◌≡◌, ℕ, zero, suc, ◌+◌, ◌<◌, ◌≤◌, List, [], ◌∷◌, ◌++◌, Some, length, map, refl, ap, sym, ◌∙◌, arith, ⊎_elim, ℤ}
use Rattle.std.specs.List.{slice_get}
use Rattle.std.proofs.lemmas.Bool.{cases_lt}
use Rattle.sl_base.specs.declared.limits.TheConstants.{ELEMENTS}
use Rattle.sl_base.specs.declared.form.Form.{Form}
use Rattle.sl_model.specs.Memory.Containers.{Cell, Cont, Grave, Memory, stamps, refers, made, new_cells}
use Rattle.sl_model.specs.Runs.Good.{Stands as StandsIn, IsSound}
use Rattle.sl_model.specs.Runs.State.{Pointer}
use Rattle.sl_model.specs.LibraryCalls.Values.{Value}
use Rattle.sl_model.proofs.Apart.{StandsSomewhere}
use Rattle.sl_model.proofs.Getting.{get_left, get_map, got_map, get_within}
use Rattle.sl_model.proofs.Making.{last_one, map_last, fresh_cont, fresh_stamps, fresh_stamps-between, made-sound}
use Rattle.sl_slots.specs.declared.slot.Slot.{Slot}
use Rattle.sl_slots.specs.declared.slot.Slot.TheVariants.{Stands, Gone}
use Rattle.sl_slots.specs.declared.container.Element.{Element}
use Rattle.sl_slots.specs.declared.store.Store.{Store}
use Rattle.sl_slots.specs.Shown.{slot_in, plain, Plain, element_of, new_element, Holds}
use Rattle.sl_slots.specs.Fates.{slot_after}
use Rattle.sl_slots.specs.Stored.{Made}
use Rattle.sl_slots.proofs.SlotLaws.{AreFound, stamps_found, refers_found, slot-stands, slot-fares}
use Rattle.sl_slots.proofs.Following.{SlotsFollow, still_holds}

-- nothing moves, and what is gone stays so
still : (s : Slot) → slot_after (λ j k. Stands j k) s ≡ s
still (Stands j k) = refl
still (Gone site) = refl

module _ (f : Cont → List ℕ) (conts : List Cont) (c : Cont) (graves : List Grave) (fresh top : ℕ)
    (above : (k s : ℕ) → slice_get (f c) k ≡ Some s → fresh ≤ s)
    (is : AreFound (map f conts) graves fresh) (is' : AreFound (map f (conts ++ c ∷ [])) graves top) where
  stands_still : (j k s : ℕ) → StandsIn (map f conts) j k s → StandsIn (map f (conts ++ c ∷ [])) j k s
  stands_still j k s h =
      let r = got_map f conts j h.0 h.1 in
      (h.0, get_map f (conts ++ c ∷ []) j r.0 (get_left conts (c ∷ []) j (get_within conts j r.0 r.1) ∙ r.1) ∙ ap (λ l. Some l) r.2, h.2)

  stood_before : (j k s : ℕ) → s < fresh → StandsIn (map f (conts ++ c ∷ [])) j k s → StandsSomewhere (map f conts) s
  stood_before j k s used h = ⊎_elim
      (λ (low : j < length conts).
      (j, k, (h.0, get_map f conts j r.0 (sym (get_left conts (c ∷ []) j low) ∙ r.1) ∙ ap (λ l. Some l) r.2, h.2)))
      (λ (high : length conts ≤ j).
      let e : c ≡ r.0 = (last_one conts c r.0 j high r.1).1 in
      let at : slice_get (f c) k ≡ Some s = ap (λ (d : Cont). slice_get (f d) k) e ∙ (ap (λ l. slice_get l k) r.2 ∙ h.2) in
      let u : fresh ≤ s = above k s at in
      absurd (omega arith))
      (cases_lt j (length conts))
    where
      r : (d : Cont) × (slice_get (conts ++ c ∷ []) j ≡ Some d) × (f d ≡ h.0)
      r = got_map f (conts ++ c ∷ []) j h.0 h.1

  pub slot-made : (s : ℕ) → s < fresh → slot_in (map f (conts ++ c ∷ [])) graves s ≡ slot_in (map f conts) graves s
  slot-made s used = slot-fares (map f conts) (map f (conts ++ c ∷ [])) graves graves fresh top (λ j k. Stands j k) is is' (record {
    stood = λ j k s h. slot-stands (map f (conts ++ c ∷ [])) graves top is' j k s (stands_still j k s h);
    came = stood_before;
    dropped = λ s h. refl;
  }) s used ∙ still (slot_in (map f conts) graves s)

-- the refers of new elements were never used
new_refers : (next : ℕ) (xs : List (ℤ × ℤ)) (k s : ℕ) → slice_get (map (λ (x : Cell). x.refer) (new_cells next xs)) k ≡ Some s → next ≤ s
new_refers next [] k s h = absurd (cc)
new_refers next (x ∷ xs) zero s h = let e : next ≡ s = cc in omega arith
new_refers next (x ∷ xs) (suc k) s h = let u : next + 1 ≤ s = new_refers (next + 1) xs k s h in omega arith

-- new elements without their marks
new_elements : (next : ℕ) (xs : List (ℤ × ℤ)) → map element_of (new_cells next xs) ≡ map new_element xs
new_elements next [] = refl
new_elements next (x ∷ xs) = ap (λ (l : List Element). new_element x ∷ l) (new_elements (next + 1) xs)

module _ (form : Form) (room : ℕ) (xs : List (ℤ × ℤ)) (m : Memory) (sound : IsSound m) (few : length xs ≤ ELEMENTS) where
  after_sound : IsSound (made form room xs m)
  after_sound = made-sound form room xs m sound few

  made-follow : SlotsFollow m (made form room xs m) (λ s. s) (λ s. s)
  made-follow = record {
    iterators = slot-made (λ (c : Cont). stamps c) m.conts (fresh_cont form room xs m) m.graves m.fresh ((m.fresh + 1) + length xs)
        (λ k s h. (fresh_stamps-between m (length xs) k s (fresh_stamps form room xs m k s h)).0)
        (stamps_found m sound) (stamps_found (made form room xs m) after_sound);
    references = slot-made (λ (c : Cont). refers c) m.conts (fresh_cont form room xs m) m.lost m.fresh ((m.fresh + 1) + length xs)
        (λ k s h. let u : m.fresh + 1 ≤ s = new_refers (m.fresh + 1) xs k s h in omega arith)
        (refers_found m sound) (refers_found (made form room xs m) after_sound);
  }

  -- the containers afterwards
  made-containers : (elements : List Element) → map new_element xs ≡ elements
      → map plain (made form room xs m).conts ≡ map plain m.conts ++ record { form = form; elements = elements; room = room } ∷ []
  made-containers elements e =
      map_last plain m.conts (fresh_cont form room xs m)
      ∙ ap (λ (l : List Element). map plain m.conts ++ record { form = form; elements = l; room = room } ∷ []) (new_elements (m.fresh + 1) xs ∙ e)

-- a store in which a container was made shows the memory with it
pub made_holds : (old new : Store) (form : Form) (room : ℕ) (elements : List Element) → Made form room elements old new
    → (m : Memory) (ps : List Pointer) (vs : List Value) (xs : List (ℤ × ℤ)) → map new_element xs ≡ elements → length xs ≤ ELEMENTS
    → Holds old m ps vs → Holds new (made form room xs m) ps vs
made_holds old new form room elements is m ps vs xs e few h = still_holds old new m (made form room xs m) ps vs h is.pointers is.operands
    (made-sound form room xs m h.sound few) (grows m.fresh (length xs)) (made-follow form room xs m h.sound few)
    (is.containers
    ∙ (ap (λ (l : List Plain). l ++ record { form = form; elements = elements; room = room } ∷ []) h.shows.containers
    ∙ sym (made-containers form room xs m h.sound few elements e)))
  where
    grows : (n k : ℕ) → n ≤ (n + 1) + k
    grows n k = omega arith

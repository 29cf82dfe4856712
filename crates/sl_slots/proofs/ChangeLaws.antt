-- What a change of one container does to the slots of its marks and of all others.
use Rattle.std.proofs.Common.{◌≡◌, ◌≢◌, ℕ, ◌+◌, ◌<◌, ◌≤◌, ◌==◌, Bool, true, false, List, ◌++◌, Some, length, map, refl, ap, sym, ◌∙◌, arith, ◌⊎◌, inl, inr, ⊎_elim}
use Rattle.std.proofs.Common.{if◌then◌else◌}
use Rattle.std.specs.List.{slice_get, slice_set}
use Rattle.std.proofs.lemmas.Bool.{cases_eq, eqb-true, eqb-false}
use Rattle.sl_model.specs.Memory.Containers.{Cont, Grave, Memory, size, stamps, refers, killer_of}
use Rattle.sl_model.specs.Memory.Edits.{theirs, Change, buried, changed, after, used}
use Rattle.sl_model.specs.Memory.Origins.{ComesFrom, TakesNoneOver}
use Rattle.sl_model.specs.Runs.Good.{Stands as StandsIn, IsSound}
use Rattle.sl_model.proofs.Apart.{StandsSomewhere}
use Rattle.sl_model.proofs.Buried.{buried_stood, buried_killer, killer_before, killer_behind}
use Rattle.sl_model.proofs.Columns.{stamps-length, refers-length}
use Rattle.sl_model.proofs.Getting.{get_map, got_map, get_within, get_set_same, get_set_other}
use Rattle.sl_model.proofs.After.{IsFair, change-sound, size-changed}
use Rattle.sl_model.proofs.Moved.{element_or_end, iterator-stays, reference-stays, end-stays, stamp-stood, refer-stood}
use Rattle.sl_model.proofs.WithEnd.{inside_at}
use Rattle.sl_slots.specs.declared.slot.Slot.TheVariants.{Stands, Gone}
use Rattle.sl_slots.specs.Shown.{slot_in}
use Rattle.sl_slots.specs.Fates.{moves, slot_after}
use Rattle.sl_slots.proofs.SlotLaws.{AreFound, stamps_found, refers_found, slot-stands, slot-gone, slot-fares}
use Rattle.sl_slots.proofs.Following.{SlotsFollow}

module _ (f : Cont → List ℕ) (conts : List Cont) (graves : List Grave) (fresh top site j : ℕ) (c d : Cont) (kill dies : ℕ → Bool) (move : ℕ → ℕ)
    (there : slice_get conts j ≡ Some c)
    (is : AreFound (map f conts) graves fresh) (is' : AreFound (map f (slice_set conts j d)) (buried kill site 0 (f c) ++ graves) top)
    (same : (k s : ℕ) → slice_get (f c) k ≡ Some s → dies k ≡ kill k)
    (stays : (k s : ℕ) → slice_get (f c) k ≡ Some s → kill k ≡ false → slice_get (f d) (move k) ≡ Some s)
    (came : (k s : ℕ) → slice_get (f d) k ≡ Some s → s < fresh → (h : ℕ) × (slice_get (f c) h ≡ Some s)) where
  abbrev later : List (List ℕ)
  later = map f (slice_set conts j d)

  abbrev graves_after : List Grave
  graves_after = buried kill site 0 (f c) ++ graves

  -- what stands in the container stands in its list
  in_own : (k s : ℕ) → StandsIn (map f conts) j k s → slice_get (f c) k ≡ Some s
  in_own k s h =
      let r = got_map f conts j h.0 h.1 in
      let q : Some c ≡ Some r.0 = sym there ∙ r.1 in
      let e : c ≡ r.0 = cc in
      ap (λ (x : Cont). slice_get (f x) k) e ∙ (ap (λ l. slice_get l k) r.2 ∙ h.2)

  -- what stands in the changed container
  in_changed : (k s : ℕ) → slice_get (f d) k ≡ Some s → StandsIn later j k s
  in_changed k s at = (f d, get_map f (slice_set conts j d) j d (get_set_same conts j d (get_within conts j c there)), at)

  -- what stands in another one
  in_other : (i k s : ℕ) → j ≢ i → StandsIn (map f conts) i k s → StandsIn later i k s
  in_other i k s n h =
      let r = got_map f conts i h.0 h.1 in
      (h.0, get_map f (slice_set conts j d) i r.0 (get_set_other conts j i d n ∙ r.1) ∙ ap (λ l. Some l) r.2, h.2)

  -- the slot of what stood in it
  stood_own : (i k s : ℕ) → i ≡ j → slice_get (f c) k ≡ Some s
      → slot_in later graves_after s ≡ (if dies k then Gone (Some site) else Stands i (move k))
  stood_own i k s e at = by_kill (kill k) refl ∙ ap (λ (b : Bool). if b then Gone (Some site) else Stands i (move k)) (sym (same k s at))
    where
      at_zero : 0 + k ≡ k
      at_zero = omega arith

      by_kill : (b : Bool) → kill k ≡ b → slot_in later graves_after s ≡ (if kill k then Gone (Some site) else Stands i (move k))
      by_kill true q =
          slot-gone later graves_after top is' s site (killer_before s (buried kill site 0 (f c)) graves site
          (buried_killer kill site 0 (f c) k s at (ap kill at_zero ∙ q)))
          ∙ ap (λ (b : Bool). if b then Gone (Some site) else Stands i (move k)) (sym q)
      by_kill false q =
          slot-stands later graves_after top is' j (move k) s (in_changed (move k) s (stays k s at q))
          ∙ (ap (λ n. Stands n (move k)) (sym e) ∙ ap (λ (b : Bool). if b then Gone (Some site) else Stands i (move k)) (sym q))

  -- the slot of what stood
  stood : (i k s : ℕ) → StandsIn (map f conts) i k s → slot_in later graves_after s ≡ moves j dies move site i k
  stood i k s h = by_owner (i == j) refl
    where
      by_owner : (b : Bool) → (i == j) ≡ b
          → slot_in later graves_after s ≡ (if b then (if dies k then Gone (Some site) else Stands i (move k)) else Stands i k)
      by_owner true t = let e : i ≡ j = eqb-true i j t in
          stood_own i k s e (in_own k s (h.0, ap (slice_get (map f conts)) (sym e) ∙ h.1, h.2))
      by_owner false t = slot-stands later graves_after top is' i k s (in_other i k s (λ e. eqb-false i j t (sym e)) h)

  -- what stands afterwards and was used stood before
  came_before : (i k s : ℕ) → s < fresh → StandsIn later i k s → StandsSomewhere (map f conts) s
  came_before i k s low h = ⊎_elim
      (λ (e : j ≡ i).
      let q : Some d ≡ Some r.0 = sym (get_set_same conts j d (get_within conts j c there)) ∙ (ap (slice_get (slice_set conts j d)) e ∙ r.1) in
      let w : d ≡ r.0 = cc in
      let at = came k s (ap (λ (x : Cont). slice_get (f x) k) w ∙ (ap (λ l. slice_get l k) r.2 ∙ h.2)) low in
      (j, at.0, (f c, get_map f conts j c there, at.1)))
      (λ (n : j ≢ i). (i, k, (h.0, get_map f conts i r.0 (sym (get_set_other conts j i d n) ∙ r.1) ∙ ap (λ l. Some l) r.2, h.2)))
      (cases_eq j i)
    where
      r : (x : Cont) × (slice_get (slice_set conts j d) i ≡ Some x) × (f x ≡ h.0)
      r = got_map f (slice_set conts j d) i h.0 h.1

  -- what stood nowhere isn't dropped
  dropped : (s : ℕ) → (StandsSomewhere (map f conts) s → ⊥) → killer_of s graves_after ≡ killer_of s graves
  dropped s none = killer_behind s (buried kill site 0 (f c)) graves
      (λ t g. let q = buried_stood kill site 0 (f c) s t g in none (j, q.0, (f c, get_map f conts j c there, q.1)))

  -- the slot of each mark that was used
  pub slot-changed : (s : ℕ) → s < fresh → slot_in later graves_after s ≡ slot_after (moves j dies move site) (slot_in (map f conts) graves s)
  slot-changed = slot-fares (map f conts) later graves graves_after fresh top (moves j dies move site) is is'
      (record { stood = stood; came = came_before; dropped = dropped })

-- Where a change of a container moves what it doesn't invalidate: each element to a place that takes it, and the end to the end.
pub record MovesBy (ch : Change) (c : Cont) (move : ℕ → ℕ) : Type 0 where
  pub iterators : (k : ℕ) → k < size c → ch.kill k ≡ false → ComesFrom ch (move k) k
  pub references : (k : ℕ) → k < size c → ch.lose k ≡ false → ComesFrom ch (move k) k
  pub end : ch.kill (size c) ≡ false → move (size c) ≡ length ch.sources

-- these places are those that a change invalidates, and the rest moves so
pub record IsCarried (ch : Change) (c : Cont) (kills loses : ℕ → Bool) (move : ℕ → ℕ) : Type 0 where
  pub kill : (k : ℕ) → k ≤ size c → kills k ≡ ch.kill k
  pub lose : (k : ℕ) → k < size c → loses k ≡ ch.lose k
  pub moves_by : MovesBy ch c move

-- a fair change takes nothing over
takes_none : (c : Cont) (ch : Change) → IsFair c ch → TakesNoneOver ch
takes_none c ch fair h k at =
    let inside : k < 0 = inside_at (size c) 0 ch.sources h (theirs k) fair.inside at in
    absurd (omega arith)

module _ (ch : Change) (m : Memory) (j : ℕ) (c : Cont) (site : ℕ) (kills loses : ℕ → Bool) (move : ℕ → ℕ)
    (sound : IsSound m) (there : slice_get m.conts j ≡ Some c) (fair : IsFair c ch) (is : IsCarried ch c kills loses move) where
  -- the container afterwards
  abbrev d : Cont
  d = changed m.fresh ch c

  after_sound : IsSound (after ch m j c site)
  after_sound = change-sound ch m j c site sound there fair

  -- an iterator stays where its element goes, and at the end
  stamp_stays : (k s : ℕ) → slice_get (stamps c) k ≡ Some s → ch.kill k ≡ false → slice_get (stamps d) (move k) ≡ Some s
  stamp_stays k s at lives = by_place (element_or_end c k s at)
    where
      by_place : (k < size c) ⊎ ((k ≡ size c) × (c.end ≡ s)) → slice_get (stamps d) (move k) ≡ Some s
      by_place (inl low) =
          iterator-stays ch m.fresh (m.fresh + size c + 1) c c (move k) k s (is.moves_by.iterators k low lives) low lives at
      by_place (inr e) =
          let lives_end : ch.kill (size c) ≡ false = ap ch.kill (sym e.0) ∙ lives in
          let to : size d ≡ move k = size-changed ch m.fresh c ∙ (sym (is.moves_by.end lives_end) ∙ ap move (sym e.0)) in
          ap (slice_get (stamps d)) (sym to)
          ∙ end-stays ch m.fresh (m.fresh + size c + 1) c c s lives_end (ap (slice_get (stamps c)) (sym e.0) ∙ at)

  -- there is a stamp more than there are elements
  within : (k s : ℕ) → slice_get (stamps c) k ≡ Some s → k ≤ size c
  within k s at = let w : k < length (stamps c) = get_within (stamps c) k s at in let l : length (stamps c) ≡ size c + 1 = stamps-length c in omega arith

  inside : (k r : ℕ) → slice_get (refers c) k ≡ Some r → k < size c
  inside k r at = let w : k < length (refers c) = get_within (refers c) k r at in let l : length (refers c) ≡ size c = refers-length c in omega arith

  -- the slots of all that was used
  pub change-follow : SlotsFollow m (after ch m j c site) (slot_after (moves j kills move site)) (slot_after (moves j loses move site))
  change-follow = record {
    iterators = slot-changed (λ (x : Cont). stamps x) m.conts m.graves m.fresh (used m.fresh ch c) site j c d ch.kill kills move there
        (stamps_found m sound) (stamps_found (after ch m j c site) after_sound)
        (λ k s at. is.kill k (within k s at)) stamp_stays
        (λ k s at low. let r = stamp-stood ch m.fresh c (takes_none c ch fair) k s at low in (r.0, r.1));
    references = slot-changed (λ (x : Cont). refers x) m.conts m.lost m.fresh (used m.fresh ch c) site j c d ch.lose loses move there
        (refers_found m sound) (refers_found (after ch m j c site) after_sound)
        (λ k r at. is.lose k (inside k r at))
        (λ k r at lives. reference-stays ch m.fresh (m.fresh + size c + 1) c c (move k) k r
        (is.moves_by.references k (inside k r at) lives) lives at)
        (λ k s at low. let r = refer-stood ch m.fresh c (takes_none c ch fair) k s at low in (r.0, r.1));
  }

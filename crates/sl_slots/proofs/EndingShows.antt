-- A store in which containers ended shows the memory in which they did.
use Rattle.std.proofs.Common.{◌≡◌, ℕ, zero, suc, ◌+◌, ◌-◌, ◌<◌, ◌≤◌, ◌==◌, Bool, true, false, List, [], ◌∷◌, ◌++◌, Some, length, map, take, drop}
use Rattle.std.proofs.Common.{refl, ap, sym, ◌∙◌, arith, ⊎_elim, if◌then◌else◌}
use Rattle.std.specs.List.{slice_get}
use Rattle.std.proofs.lemmas.Bool.{cases_lt, eqb-true}
use Rattle.std.proofs.lemmas.Bool.Decides.{nat_tests}
use Rattle.std.proofs.lemmas.List.{drop-map}
use Rattle.std.specs.List.{take-map}
use Rattle.sl_model.specs.Memory.Containers.{Cont, Grave, Memory, stamps, refers, killer_of, graves_at, joined, end_from}
use Rattle.sl_model.specs.Runs.Good.{Stands as StandsIn, IsSound}
use Rattle.sl_model.specs.Runs.State.{Pointer}
use Rattle.sl_model.specs.LibraryCalls.Values.{Value}
use Rattle.sl_model.proofs.Apart.{StandsSomewhere}
use Rattle.sl_model.proofs.Getting.{get_left, get_right, get_take, get_drop, get_map, got_map}
use Rattle.sl_model.proofs.Ending.{ended-killer, end_from-sound}
use Rattle.sl_slots.specs.declared.slot.Slot.TheVariants.{Stands, Gone}
use Rattle.sl_slots.specs.declared.store.Store.{Store}
use Rattle.sl_slots.specs.Shown.{slot_in, contents, plain, Holds}
use Rattle.sl_slots.specs.Fates.{ends, slot_after}
use Rattle.sl_slots.specs.Stored.{Ended}
use Rattle.sl_slots.proofs.SlotLaws.{AreFound, stamps_found, refers_found, slot-stands, slot-gone, slot-fares}
use Rattle.sl_slots.proofs.Following.{SlotsFollow, moved_holds}
use Rattle.sl_slots.specs.declared.motion.Motion.TheVariants.{Ends}

-- what is among the first of a list
in_front : {A : Type 0} (n : ℕ) (xs : List A) (j : ℕ) (x : A) → j < n → slice_get xs j ≡ Some x → slice_get (take n xs) j ≡ Some x
in_front zero xs j x low e = absurd (omega arith)
in_front (suc n) [] j x low e = absurd (cc)
in_front (suc n) (y ∷ xs) zero x low e = e
in_front (suc n) (y ∷ xs) (suc j) x low e = in_front n xs j x (omega arith) e

-- a mark that isn't among these has the site that it has behind them
killer_past : (site s : ℕ) (xs : List ℕ) (graves : List Grave) → ((k : ℕ) → slice_get xs k ≡ Some s → ⊥)
    → killer_of s (graves_at site xs ++ graves) ≡ killer_of s graves
killer_past site s [] graves none = refl
killer_past site s (x ∷ xs) graves none = by_test (x == s) refl (killer_past site s xs graves (λ k h. none (suc k) h))
  where
    by_test : (b : Bool) → (x == s) ≡ b → killer_of s (graves_at site xs ++ graves) ≡ killer_of s graves
        → (if b then Some site else killer_of s (graves_at site xs ++ graves)) ≡ killer_of s graves
    by_test true e rest = absurd (none 0 (ap (λ n. Some n) (eqb-true x s e)))
    by_test false e rest = rest

-- what is among joined lists stands in one of them
joined_stands : (lists : List (List ℕ)) (d s : ℕ) → slice_get (joined lists) d ≡ Some s → StandsSomewhere lists s
joined_stands [] d s h = absurd (cc)
joined_stands (xs ∷ lists) d s h = ⊎_elim
    (λ (low : d < length xs). (0, d, (xs, refl, sym (get_left xs (joined lists) d low) ∙ h)))
    (λ (high : length xs ≤ d).
    let r = joined_stands lists (d - length xs) s (sym (get_right xs (joined lists) d high) ∙ h) in
    (suc r.0, r.1, r.2))
    (cases_lt d (length xs))

ends-low : (n site j k : ℕ) → j < n → Stands j k ≡ ends n site j k
ends-low n site j k h = grind (arith, nat_tests)

ends-high : (n site j k : ℕ) → n ≤ j → Gone (Some site) ≡ ends n site j k
ends-high n site j k h = grind (arith, nat_tests)

module _ (f : Cont → List ℕ) (conts : List Cont) (graves : List Grave) (fresh site n : ℕ) (is : AreFound (map f conts) graves fresh)
    (is' : AreFound (map f (take n conts)) (graves_at site (joined (map f (drop n conts))) ++ graves) fresh) where
  abbrev graves_after : List Grave
  graves_after = graves_at site (joined (map f (drop n conts))) ++ graves

  stays : (j k s : ℕ) → j < n → StandsIn (map f conts) j k s → StandsIn (map f (take n conts)) j k s
  stays j k s low h =
      let r = got_map f conts j h.0 h.1 in
      (h.0, get_map f (take n conts) j r.0 (in_front n conts j r.0 low r.1) ∙ ap (λ l. Some l) r.2, h.2)

  killed : (j k s : ℕ) → n ≤ j → StandsIn (map f conts) j k s → killer_of s graves_after ≡ Some site
  killed j k s high h =
      ap (λ l. killer_of s (graves_at site (joined l) ++ graves)) (sym (drop-map f n conts))
      ∙ ended-killer (map f conts) graves fresh site n is.apart j k s high h

  stood : (j k s : ℕ) → StandsIn (map f conts) j k s → slot_in (map f (take n conts)) graves_after s ≡ ends n site j k
  stood j k s h = ⊎_elim
      (λ (low : j < n). slot-stands (map f (take n conts)) graves_after fresh is' j k s (stays j k s low h) ∙ ends-low n site j k low)
      (λ (high : n ≤ j). slot-gone (map f (take n conts)) graves_after fresh is' s site (killed j k s high h) ∙ ends-high n site j k high)
      (cases_lt j n)

  came : (j k s : ℕ) → StandsIn (map f (take n conts)) j k s → StandsSomewhere (map f conts) s
  came j k s h =
      let r = got_map f (take n conts) j h.0 h.1 in
      (j, k, (h.0, get_map f conts j r.0 (get_take n conts j r.0 r.1).1 ∙ ap (λ l. Some l) r.2, h.2))

  dropped : (s : ℕ) → (StandsSomewhere (map f conts) s → ⊥) → killer_of s graves_after ≡ killer_of s graves
  dropped s none = killer_past site s (joined (map f (drop n conts))) graves (λ d h.
      let a = joined_stands (map f (drop n conts)) d s h in
      let r = got_map f (drop n conts) a.0 a.2.0 a.2.1 in
      none (n + a.0, a.1, (a.2.0, get_map f conts (n + a.0) r.0 (sym (get_drop n conts a.0) ∙ r.1) ∙ ap (λ l. Some l) r.2, a.2.2)))

  pub slot-ended : (s : ℕ) → s < fresh → slot_in (map f (take n conts)) graves_after s ≡ slot_after (ends n site) (slot_in (map f conts) graves s)
  slot-ended = slot-fares (map f conts) (map f (take n conts)) graves graves_after fresh fresh (ends n site) is is' (record {
    stood = stood;
    came = λ j k s used h. came j k s h;
    dropped = dropped;
  })

-- the slots of what stands in containers that end
ended-follow : (m : Memory) (site n : ℕ) → IsSound m → SlotsFollow m (end_from site n m) (slot_after (ends n site)) (slot_after (ends n site))
ended-follow m site n sound = record {
  iterators = slot-ended (λ (c : Cont). stamps c) m.conts m.graves m.fresh site n (stamps_found m sound)
      (stamps_found (end_from site n m) (end_from-sound site n m sound));
  references = slot-ended (λ (c : Cont). refers c) m.conts m.lost m.fresh site n (refers_found m sound)
      (refers_found (end_from site n m) (end_from-sound site n m sound));
}

-- a store in which containers ended shows the memory in which they did
pub ended_holds : (old new : Store) (n site : ℕ) → Ended n site old new → (m : Memory) (ps : List Pointer) (vs : List Value)
    → Holds old m ps vs → Holds new (end_from site n m) ps vs
ended_holds old new n site is m ps vs h = moved_holds old new m (end_from site n m) (Ends n site) ps vs h is.moved
    (end_from-sound site n m h.sound) (same m.fresh) (ended-follow m site n h.sound)
    (ap (map contents) is.containers
    ∙ (sym (take-map contents n old.containers.items) ∙ (ap (take n) h.shows.containers ∙ take-map plain n m.conts)))
  where
    same : (k : ℕ) → k ≤ k
    same k = omega arith

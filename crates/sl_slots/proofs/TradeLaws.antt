-- What two changes that exchange elements do to the slots of all marks.
use Rattle.std.proofs.Common.{◌≡◌, ◌≢◌, ℕ, ◌+◌, ◌<◌, ◌≤◌, ◌==◌, Bool, true, false, List, ◌∷◌, [], ◌++◌, Some, length, map, refl, ap, sym, ◌∙◌, arith, ◌⊎◌}
use Rattle.std.proofs.Common.{inl, inr, ⊎_elim, if◌then◌else◌}
use Rattle.std.specs.List.{slice_get, slice_set}
use Rattle.std.proofs.lemmas.Bool.{cases_eq, eqb-true, eqb-false}
use Rattle.sl_model.specs.Memory.Containers.{Cont, Grave, killer_of}
use Rattle.sl_model.specs.Memory.Edits.{Source, buried}
use Rattle.sl_model.specs.Runs.Good.{Stands as StandsIn}
use Rattle.sl_model.proofs.Apart.{StandsSomewhere}
use Rattle.sl_model.proofs.Buried.{buried_stood, killer_behind, dropped-killer, is_killer, killer_is, grave_cases}
use Rattle.sl_model.proofs.Columns.{AllInside, marks_from, Entry, stays_one, renewed_one, comes_one, new_one, entry_at}
use Rattle.sl_model.proofs.Getting.{get_map, got_map, get_within, get_set_same, get_set_other}
use Rattle.sl_slots.specs.declared.slot.Slot.{Slot}
use Rattle.sl_slots.specs.declared.slot.Slot.TheVariants.{Stands, Gone}
use Rattle.sl_slots.specs.Shown.{slot_in}
use Rattle.sl_slots.specs.Fates.{Fate, slot_after}
use Rattle.sl_slots.proofs.SlotLaws.{AreFound, slot-stands, slot-gone, Fares, slot-fares}

-- a number stands in one of two lists
abbrev pub IsInEither : List ℕ → List ℕ → ℕ → Type 0
IsInEither own other s = ((h : ℕ) × (slice_get own h ≡ Some s)) ⊎ ((h : ℕ) × (slice_get other h ≡ Some s))

-- a mark of a changed column that was used stood in one of the two columns
pub column_came : (renewed : ℕ → Bool) (fresh base next : ℕ) (own other : List ℕ) (xs : List Source) (p s : ℕ)
    → AllInside (length own) (length other) xs → fresh ≤ base → fresh ≤ next
    → slice_get (marks_from renewed base own other next xs) p ≡ Some s → s < fresh → IsInEither own other s
column_came renewed fresh base next own other xs p s inside low high at used = by_entry r.0 r.2
  where
    r : (x : Source) × (slice_get xs p ≡ Some x) × Entry renewed base own other (next + p) x s
    r = entry_at renewed base own other next xs p s inside at

    by_entry : (x : Source) → Entry renewed base own other (next + p) x s → IsInEither own other s
    by_entry x (stays_one k t a lives) = inl (k, a)
    by_entry x (renewed_one k t a dies e) = absurd (omega arith)
    by_entry x (comes_one k t a) = inr (k, a)
    by_entry x (new_one n e) = absurd (omega arith)

-- what becomes of what stands in two containers, and of all else
abbrev pub trades : ℕ → (ℕ → Slot) → ℕ → (ℕ → Slot) → Fate
trades j first i second n k = if n == j then first k else if n == i then second k else Stands n k

module _ (f : Cont → List ℕ) (conts : List Cont) (graves : List Grave) (fresh top site j i : ℕ) (c d c' d' : Cont) (kill kill' : ℕ → Bool)
    (first second : ℕ → Slot) (differ : j ≢ i) (there : slice_get conts j ≡ Some c) (there' : slice_get conts i ≡ Some d)
    (is : AreFound (map f conts) graves fresh)
    (is' : AreFound (map f (slice_set (slice_set conts j c') i d')) (buried kill site 0 (f c) ++ (buried kill' site 0 (f d) ++ graves)) top) where
  abbrev pub later : List (List ℕ)
  later = map f (slice_set (slice_set conts j c') i d')

  abbrev pub graves_after : List Grave
  graves_after = buried kill site 0 (f c) ++ (buried kill' site 0 (f d) ++ graves)

  -- the two containers afterwards
  first-there : slice_get (slice_set (slice_set conts j c') i d') j ≡ Some c'
  first-there = get_set_other (slice_set conts j c') i j d' (λ e. differ (sym e)) ∙ get_set_same conts j c' (get_within conts j c there)

  second-there : slice_get (slice_set (slice_set conts j c') i d') i ≡ Some d'
  second-there = get_set_same (slice_set conts j c') i d'
      (get_within (slice_set conts j c') i d (get_set_other conts j i c' differ ∙ there'))

  get-third : (n : ℕ) → j ≢ n → i ≢ n → slice_get (slice_set (slice_set conts j c') i d') n ≡ slice_get conts n
  get-third n a b = get_set_other (slice_set conts j c') i n d' b ∙ get_set_other conts j n c' a

  -- the slot of a mark that stands in one of the two afterwards
  pub in_first : (k s : ℕ) → slice_get (f c') k ≡ Some s → slot_in later graves_after s ≡ Stands j k
  in_first k s at = slot-stands later graves_after top is' j k s (f c', get_map f (slice_set (slice_set conts j c') i d') j c' first-there, at)

  pub in_second : (k s : ℕ) → slice_get (f d') k ≡ Some s → slot_in later graves_after s ≡ Stands i k
  in_second k s at = slot-stands later graves_after top is' i k s (f d', get_map f (slice_set (slice_set conts j c') i d') i d' second-there, at)

  module _ (goes : (k s : ℕ) → slice_get (f c) k ≡ Some s → slot_in later graves_after s ≡ first k)
      (goes' : (k s : ℕ) → slice_get (f d) k ≡ Some s → slot_in later graves_after s ≡ second k)
      (came : (k s : ℕ) → slice_get (f c') k ≡ Some s → s < fresh → IsInEither (f c) (f d) s)
      (came' : (k s : ℕ) → slice_get (f d') k ≡ Some s → s < fresh → IsInEither (f c) (f d) s) where
    -- what stands in the container that is there stands in its list
    in_list : (x : Cont) (n k s : ℕ) → slice_get conts n ≡ Some x → StandsIn (map f conts) n k s → slice_get (f x) k ≡ Some s
    in_list x n k s at h =
        let r = got_map f conts n h.0 h.1 in
        let q : Some x ≡ Some r.0 = sym at ∙ r.1 in
        let e : x ≡ r.0 = cc in
        ap (λ (y : Cont). slice_get (f y) k) e ∙ (ap (λ l. slice_get l k) r.2 ∙ h.2)

    in_other : (n k s : ℕ) → j ≢ n → i ≢ n → StandsIn (map f conts) n k s → StandsIn later n k s
    in_other n k s a b h =
        let r = got_map f conts n h.0 h.1 in
        (h.0, get_map f (slice_set (slice_set conts j c') i d') n r.0 (get-third n a b ∙ r.1) ∙ ap (λ l. Some l) r.2, h.2)

    stood : (n k s : ℕ) → StandsIn (map f conts) n k s → slot_in later graves_after s ≡ trades j first i second n k
    stood n k s h = by_first (n == j) refl
      where
        by_second : n ≢ j → (b : Bool) → (n == i) ≡ b → slot_in later graves_after s ≡ (if b then second k else Stands n k)
        by_second apart true t = let e : n ≡ i = eqb-true n i t in
            goes' k s (in_list d i k s there' (h.0, ap (slice_get (map f conts)) (sym e) ∙ h.1, h.2))
        by_second apart false t =
            slot-stands later graves_after top is' n k s (in_other n k s (λ e. apart (sym e)) (λ e. eqb-false n i t (sym e)) h)

        by_first : (b : Bool) → (n == j) ≡ b
            → slot_in later graves_after s ≡ (if b then first k else if n == i then second k else Stands n k)
        by_first true t = let e : n ≡ j = eqb-true n j t in
            goes k s (in_list c j k s there (h.0, ap (slice_get (map f conts)) (sym e) ∙ h.1, h.2))
        by_first false t = by_second (eqb-false n j t) (n == i) refl

    either_somewhere : (s : ℕ) → IsInEither (f c) (f d) s → StandsSomewhere (map f conts) s
    either_somewhere s (inl a) = (j, a.0, (f c, get_map f conts j c there, a.1))
    either_somewhere s (inr a) = (i, a.0, (f d, get_map f conts i d there', a.1))

    came_before : (n k s : ℕ) → s < fresh → StandsIn later n k s → StandsSomewhere (map f conts) s
    came_before n k s low h = ⊎_elim
        (λ (e : j ≡ n). either_somewhere s (came k s
        (in_new c' (sym first-there ∙ (ap (slice_get (slice_set (slice_set conts j c') i d')) e ∙ r.1))) low))
        (λ (a : j ≢ n). ⊎_elim
        (λ (e : i ≡ n). either_somewhere s (came' k s
        (in_new d' (sym second-there ∙ (ap (slice_get (slice_set (slice_set conts j c') i d')) e ∙ r.1))) low))
        (λ (b : i ≢ n). (n, k, (h.0, get_map f conts n r.0 (sym (get-third n a b) ∙ r.1) ∙ ap (λ l. Some l) r.2, h.2)))
        (cases_eq i n))
        (cases_eq j n)
      where
        r : (x : Cont) × (slice_get (slice_set (slice_set conts j c') i d') n ≡ Some x) × (f x ≡ h.0)
        r = got_map f (slice_set (slice_set conts j c') i d') n h.0 h.1

        in_new : (x : Cont) → Some x ≡ Some r.0 → slice_get (f x) k ≡ Some s
        in_new x q = let e : x ≡ r.0 = cc in ap (λ (y : Cont). slice_get (f y) k) e ∙ (ap (λ l. slice_get l k) r.2 ∙ h.2)

    dropped : (s : ℕ) → (StandsSomewhere (map f conts) s → ⊥) → killer_of s graves_after ≡ killer_of s graves
    dropped s none =
        killer_behind s (buried kill site 0 (f c)) (buried kill' site 0 (f d) ++ graves)
        (λ t g. let q = buried_stood kill site 0 (f c) s t g in none (either_somewhere s (inl (q.0, q.1))))
        ∙ killer_behind s (buried kill' site 0 (f d)) graves
        (λ t g. let q = buried_stood kill' site 0 (f d) s t g in none (either_somewhere s (inr (q.0, q.1))))

    -- the slot of each mark that was used
    pub slot-traded : (s : ℕ) → s < fresh → slot_in later graves_after s ≡ slot_after (trades j first i second) (slot_in (map f conts) graves s)
    slot-traded = slot-fares (map f conts) later graves graves_after fresh top (trades j first i second) is is'
        (record { stood = stood; came = came_before; dropped = dropped })

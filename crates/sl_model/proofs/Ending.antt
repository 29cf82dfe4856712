-- Where containers end, the memory stays sound, and what stands in the others stands there still.
use Rattle.std.proofs.Common.{◌≡◌, ℕ, zero, suc, ◌+◌, ◌-◌, ◌<◌, ◌≤◌, List, [], ◌∷◌, ◌++◌, Some, length, map, take, drop, refl, ap, sym, ◌∙◌, arith}
use Rattle.std.proofs.Common.{◌⊎◌, inl, inr, ⊎_elim, subst}
use Rattle.std.specs.List.{slice_get}
use Rattle.std.proofs.lemmas.Bool.{cases_lt}
use Rattle.sl_model.specs.Memory.Containers.{Cont, Grave, IsGrave, Memory, stamps, refers, killer_of, killer, graves_at, joined, end_from}
use Rattle.sl_model.specs.Runs.Good.{Stands, AreKeptApart, IsAt, IsSound, NoneVanishFrom, NoneVanishes}
use Rattle.sl_model.proofs.Getting.{get_left, get_right, get_behind, get_take, get_drop, get_within}
use Rattle.sl_model.proofs.Apart.{StandsSomewhere}
use Rattle.sl_model.proofs.Located.{at_stands}
use Rattle.sl_model.proofs.Buried.{grave_cases, killer_is, is_killer, killer_before, killer_behind}

-- what is dropped at one site is one of these
graves_of : (at : ℕ) (ss : List ℕ) (s t : ℕ) → IsGrave (graves_at at ss) s t → (d : ℕ) × (slice_get ss d ≡ Some s) × (at ≡ t)
graves_of at [] s t g = absurd (let q = g.1 in cc)
graves_of at (x ∷ ss) s t g = by_place (λ r. graves_of at ss s t r) g.0 g.1
  where
    by_place : (IsGrave (graves_at at ss) s t → (d : ℕ) × (slice_get ss d ≡ Some s) × (at ≡ t)) → (n : ℕ)
        → slice_get (graves_at at (x ∷ ss)) n ≡ Some (record { mark = s; site = t }) → (d : ℕ) × (slice_get (x ∷ ss) d ≡ Some s) × (at ≡ t)
    by_place rest zero e =
        let q : ◌≡◌ {A = Grave} (record { mark = x; site = at }) (record { mark = s; site = t }) = cc in
        (0, ap (λ (y : Grave). Some y.mark) q, ap (λ (y : Grave). y.site) q)
    by_place rest (suc n) e = let r = rest (n, e) in (suc r.0, r.1, r.2)

-- each of these is dropped
of_graves : (at : ℕ) (ss : List ℕ) (d s : ℕ) → slice_get ss d ≡ Some s → IsGrave (graves_at at ss) s at
of_graves at [] d s h = absurd (cc)
of_graves at (x ∷ ss) zero s h = let e : x ≡ s = cc in (0, ap (λ (n : ℕ). Some (record { mark = n; site = at })) e)
of_graves at (x ∷ ss) (suc d) s h = let r = of_graves at ss d s h in (suc r.0, r.1)

-- a number of some of these lists stands in one of them
some_stands : (lists : List (List ℕ)) (d s : ℕ) → slice_get (joined lists) d ≡ Some s → StandsSomewhere lists s
some_stands [] d s h = absurd (cc)
some_stands (xs ∷ lists) d s h =
    by_place (some_stands lists (d - length xs) s) (cases_lt d (length xs))
  where
    by_place : (slice_get (joined lists) (d - length xs) ≡ Some s → StandsSomewhere lists s)
        → (d < length xs) ⊎ (length xs ≤ d) → StandsSomewhere (xs ∷ lists) s
    by_place rest (inl low) = (0, d, (xs, refl, sym (get_left xs (joined lists) d low) ∙ h))
    by_place rest (inr high) = let r = rest (sym (get_right xs (joined lists) d high) ∙ h) in (suc r.0, r.1, r.2)

-- what stands in one of these lists is one of their numbers
stands_some : (lists : List (List ℕ)) (i k s : ℕ) → Stands lists i k s → (d : ℕ) × (slice_get (joined lists) d ≡ Some s)
stands_some [] i k s h = absurd (let q = h.1 in cc)
stands_some (xs ∷ lists) zero k s h =
    let q : Some xs ≡ Some h.0 = h.1 in
    let e : xs ≡ h.0 = cc in
    let g : slice_get xs k ≡ Some s = ap (λ (l : List ℕ). slice_get l k) e ∙ h.2 in
    (k, get_left xs (joined lists) k (get_within xs k s g) ∙ g)
stands_some (xs ∷ lists) (suc i) k s h = let r = stands_some lists i k s h in (length xs + r.0, get_behind xs (joined lists) r.0 ∙ r.1)

-- the first of a list are there
in_front : {A : Type 0} (n : ℕ) (xs : List A) (j : ℕ) (x : A) → j < n → slice_get xs j ≡ Some x → slice_get (take n xs) j ≡ Some x
in_front zero xs j x low e = absurd (omega arith)
in_front (suc n) [] j x low e = absurd (cc)
in_front (suc n) (y ∷ xs) zero x low e = e
in_front (suc n) (y ∷ xs) (suc j) x low e = in_front n xs j x (omega arith) e

-- mapped lists that are cut
pub map_take : {A B : Type 0} (f : A → B) (n : ℕ) (xs : List A) → map f (take n xs) ≡ take n (map f xs)
map_take f zero xs = refl
map_take f (suc n) [] = refl
map_take f (suc n) (x ∷ xs) = ap (λ l. f x ∷ l) (map_take f n xs)

map_drop : {A B : Type 0} (f : A → B) (n : ℕ) (xs : List A) → map f (drop n xs) ≡ drop n (map f xs)
map_drop f zero xs = refl
map_drop f (suc n) [] = refl
map_drop f (suc n) (x ∷ xs) = map_drop f n xs

module _ (lists : List (List ℕ)) (graves : List Grave) (fresh site n : ℕ) (apart : AreKeptApart lists graves fresh) where
  -- the graves afterwards
  abbrev after_graves : List Grave
  after_graves = graves_at site (joined (drop n lists)) ++ graves

  -- what stands afterwards stood before, in a list that didn't end
  in_taken : (j k s : ℕ) → Stands (take n lists) j k s → (j < n) × Stands lists j k s
  in_taken j k s h = let r = get_take n lists j h.0 h.1 in (r.0, (h.0, r.1, h.2))

  -- what is dropped stood in one that ended
  dropped_stood : (s t : ℕ) → IsGrave (graves_at site (joined (drop n lists))) s t → (i : ℕ) × (k : ℕ) × Stands lists (n + i) k s
  dropped_stood s t g =
      let r = graves_of site (joined (drop n lists)) s t g in
      let q = some_stands (drop n lists) r.0 s r.1 in
      (q.0, q.1, (q.2.0, sym (get_drop n lists q.0) ∙ q.2.1, q.2.2))

  dropped_after : (s t : ℕ) → IsGrave (graves_at site (joined (drop n lists))) s t ⊎ IsGrave graves s t → s < fresh
  dropped_after s t (inl g) = let r = dropped_stood s t g in apart.used (n + r.0) r.1 s r.2
  dropped_after s t (inr g) = apart.dropped s t g

  dead_after : (j k s t : ℕ) → (j < n) × Stands lists j k s → IsGrave (graves_at site (joined (drop n lists))) s t ⊎ IsGrave graves s t → ⊥
  dead_after j k s t a (inl g) =
      let r = dropped_stood s t g in
      let e : j ≡ n + r.0 = (apart.once j k (n + r.0) r.1 s a.1 r.2).0 in
      let low : j < n = a.0 in
      omega arith
  dead_after j k s t a (inr g) = apart.dead j k s t a.1 g

  -- the numbers stay apart
  pub ended-apart : AreKeptApart (take n lists) after_graves fresh
  ended-apart = record {
    once = λ j k i h s a b. apart.once j k i h s (in_taken j k s a).1 (in_taken i h s b).1;
    used = λ j k s a. apart.used j k s (in_taken j k s a).1;
    dropped = λ s t g. dropped_after s t (grave_cases (graves_at site (joined (drop n lists))) graves s t g);
    dead = λ j k s t a g. dead_after j k s t (in_taken j k s a) (grave_cases (graves_at site (joined (drop n lists))) graves s t g);
  }

  -- what stands in a list that ends is dropped
  ends_dropped : (j k s : ℕ) → n ≤ j → Stands lists j k s → IsGrave (graves_at site (joined (drop n lists))) s site
  ends_dropped j k s high h =
      let e : n + (j - n) ≡ j = omega arith in
      let there : slice_get (drop n lists) (j - n) ≡ Some h.0 = get_drop n lists (j - n) ∙ (ap (slice_get lists) e ∙ h.1) in
      let d = stands_some (drop n lists) (j - n) k s (h.0, there, h.2) in
      of_graves site (joined (drop n lists)) d.0 s d.1

  -- none vanishes
  pub ended-none : NoneVanishFrom lists site (take n lists) after_graves
  ended-none j k s h = ⊎_elim
      (λ (low : j < n). inl (j, k, (h.0, in_front n lists j h.0 low h.1, h.2)))
      (λ (high : n ≤ j). inr (front_grave (graves_at site (joined (drop n lists))) graves (ends_dropped j k s high h)))
      (cases_lt j n)
    where
      front_grave : (xs ys : List Grave) → IsGrave xs s site → IsGrave (xs ++ ys) s site
      front_grave xs ys g = (g.0, get_left xs ys g.0 (get_within xs g.0 _ g.1) ∙ g.1)

  -- the site beside what stands in a list that ends is that site
  pub ended-killer : (j k s : ℕ) → n ≤ j → Stands lists j k s → killer_of s after_graves ≡ Some site
  ended-killer j k s high h =
      killer_before s (graves_at site (joined (drop n lists))) graves site
      (by_killer (is_killer s (graves_at site (joined (drop n lists))) site (ends_dropped j k s high h)))
    where
      one_site : (other : ℕ) → killer_of s (graves_at site (joined (drop n lists))) ≡ Some other → site ≡ other
          → killer_of s (graves_at site (joined (drop n lists))) ≡ Some site
      one_site other e q = e ∙ ap (λ n. Some n) (sym q)

      by_killer : (other : ℕ) × (killer_of s (graves_at site (joined (drop n lists))) ≡ Some other)
          → killer_of s (graves_at site (joined (drop n lists))) ≡ Some site
      by_killer r = one_site r.0 r.1
          (graves_of site (joined (drop n lists)) s r.0 (killer_is s (graves_at site (joined (drop n lists))) r.0 r.1)).2

  -- what was dropped before keeps its site
  pub still-killer : (s g : ℕ) → killer_of s graves ≡ Some g → killer_of s after_graves ≡ Some g
  still-killer s g h =
      killer_behind s (graves_at site (joined (drop n lists))) graves
      (λ t r. let q = dropped_stood s t r in apart.dead (n + q.0) q.1 s g q.2 (killer_is s graves g h)) ∙ h

-- what stands in a container that doesn't end stands there still
pub end_from-at : (site n : ℕ) (m : Memory) (j k s : ℕ) → j < n → IsAt m j k s → IsAt (end_from site n m) j k s
end_from-at site n m j k s low h = record { cont = h.cont; there = in_front n m.conts j h.cont low h.there; stands = h.stands }

-- the graves of the containers that end
graves-same : (site n : ℕ) (m : Memory) → (end_from site n m).graves ≡ graves_at site (joined (drop n (map stamps m.conts))) ++ m.graves
graves-same site n m = ap (λ l. graves_at site (joined l) ++ m.graves) (map_drop (λ (c : Cont). stamps c) n m.conts)

lost-same : (site n : ℕ) (m : Memory) → (end_from site n m).lost ≡ graves_at site (joined (drop n (map refers m.conts))) ++ m.lost
lost-same site n m = ap (λ l. graves_at site (joined l) ++ m.lost) (map_drop (λ (c : Cont). refers c) n m.conts)

-- what stands in a container that ends is dropped at the site
pub end_from-killed : (site n : ℕ) (m : Memory) (j k s : ℕ) → IsSound m → n ≤ j → IsAt m j k s → killer (end_from site n m) s ≡ Some site
end_from-killed site n m j k s sound high h =
    ap (killer_of s) (graves-same site n m)
    ∙ ended-killer (map stamps m.conts) m.graves m.fresh site n sound.stamps_apart j k s high (at_stands m j k s h)

-- what was dropped before keeps its site
pub end_from-dead : (site n : ℕ) (m : Memory) (s g : ℕ) → IsSound m → killer m s ≡ Some g → killer (end_from site n m) s ≡ Some g
end_from-dead site n m s g sound h =
    ap (killer_of s) (graves-same site n m) ∙ still-killer (map stamps m.conts) m.graves m.fresh site n sound.stamps_apart s g h

-- marks that are kept apart are so in other lists and graves that are the same
same-apart : (xs ys : List (List ℕ)) (gs hs : List Grave) (fresh : ℕ) → xs ≡ ys → gs ≡ hs → AreKeptApart ys hs fresh → AreKeptApart xs gs fresh
same-apart xs ys gs hs fresh e g h = subst (λ l. AreKeptApart l gs fresh) (sym e) (subst (λ l. AreKeptApart ys l fresh) (sym g) h)

same-none : (lists xs ys : List (List ℕ)) (gs hs : List Grave) (site : ℕ) → xs ≡ ys → gs ≡ hs → NoneVanishFrom lists site ys hs
    → NoneVanishFrom lists site xs gs
same-none lists xs ys gs hs site e g h =
    subst (λ l. NoneVanishFrom lists site l gs) (sym e) (subst (λ l. NoneVanishFrom lists site ys l) (sym g) h)

-- a memory in which containers ended is sound
pub end_from-sound : (site n : ℕ) (m : Memory) → IsSound m → IsSound (end_from site n m)
end_from-sound site n m sound = record {
  stamps_apart = same-apart (map stamps (take n m.conts)) (take n (map stamps m.conts)) (end_from site n m).graves
      (graves_at site (joined (drop n (map stamps m.conts))) ++ m.graves) m.fresh (map_take (λ (c : Cont). stamps c) n m.conts) (graves-same site n m)
      (ended-apart (map stamps m.conts) m.graves m.fresh site n sound.stamps_apart);
  refers_apart = same-apart (map refers (take n m.conts)) (take n (map refers m.conts)) (end_from site n m).lost
      (graves_at site (joined (drop n (map refers m.conts))) ++ m.lost) m.fresh (map_take (λ (c : Cont). refers c) n m.conts) (lost-same site n m)
      (ended-apart (map refers m.conts) m.lost m.fresh site n sound.refers_apart);
  small = λ j c h. sound.small j c (get_take n m.conts j c h).1;
}

-- no mark vanishes where containers end
pub end_from-none : (site n : ℕ) (m : Memory) → IsSound m → NoneVanishes m site (end_from site n m)
end_from-none site n m sound = record {
  stamps_stand = same-none (map stamps m.conts) (map stamps (take n m.conts)) (take n (map stamps m.conts)) (end_from site n m).graves
      (graves_at site (joined (drop n (map stamps m.conts))) ++ m.graves) site (map_take (λ (c : Cont). stamps c) n m.conts) (graves-same site n m)
      (ended-none (map stamps m.conts) m.graves m.fresh site n sound.stamps_apart);
  refers_stand = same-none (map refers m.conts) (map refers (take n m.conts)) (take n (map refers m.conts)) (end_from site n m).lost
      (graves_at site (joined (drop n (map refers m.conts))) ++ m.lost) site (map_take (λ (c : Cont). refers c) n m.conts) (lost-same site n m)
      (ended-none (map refers m.conts) m.lost m.fresh site n sound.refers_apart);
}

-- Where a number stands, as `found` finds it, and that what was dropped stands nowhere.
use Rattle.std.proofs.Common.{◌≡◌, ℕ, zero, suc, ◌+◌, ◌<◌, ◌==◌, Bool, true, false, List, [], ◌∷◌, Option, Some, None, map, refl, ap, sym, ◌∙◌, arith}
use Rattle.std.proofs.Common.{if◌then◌else◌}
use Rattle.std.specs.List.{slice_get}
use Rattle.std.proofs.lemmas.Bool.{eqb-true, eq-eqb}
use Rattle.sl_model.specs.Memory.Containers.{Cont, Memory, stamps, refers, index_of, found, locate, locate_refer, Dropped, Lost, Grave, IsGrave}
use Rattle.sl_model.specs.Runs.Good.{Stands, AreKeptApart, IsAt, RefersTo, IsSound}
use Rattle.sl_model.proofs.Getting.{get_map, got_map}

-- a number that is in a list once, is found where it is
index_at : (s i : ℕ) (xs : List ℕ) (k : ℕ) → slice_get xs k ≡ Some s → ((h : ℕ) → slice_get xs h ≡ Some s → k ≡ h) → index_of s i xs ≡ Some (i + k)
index_at s i [] k h once = absurd (cc)
index_at s i (x ∷ xs) zero h once = let e : x ≡ s = cc in let t : (x == s) ≡ true = eq-eqb x s e in
    ap (λ (b : Bool). if b then Some i else index_of s (i + 1) xs) t ∙ ap (λ n. Some n) (omega arith)
index_at s i (x ∷ xs) (suc k) h once =
    by_test (index_at s (i + 1) xs k h (λ n g. let q : suc k ≡ suc n = once (suc n) g in omega arith)) (x == s) refl
  where
    by_test : index_of s (i + 1) xs ≡ Some ((i + 1) + k) → (b : Bool) → (x == s) ≡ b → (if b then Some i else index_of s (i + 1) xs)
        ≡ Some (i + suc k)
    by_test rest true t = let e : x ≡ s = eqb-true x s t in let q : suc k ≡ 0 = once 0 (ap (λ n. Some n) e) in absurd (omega arith)
    by_test rest false t = rest ∙ ap (λ n. Some n) (omega arith)

-- where a number is found, it is
at_index : (s i : ℕ) (xs : List ℕ) (k : ℕ) → index_of s i xs ≡ Some k → (d : ℕ) × (k ≡ i + d) × (slice_get xs d ≡ Some s)
at_index s i [] k h = absurd (cc)
at_index s i (x ∷ xs) k h = by_test (at_index s (i + 1) xs k) (x == s) refl h
  where
    by_test : (index_of s (i + 1) xs ≡ Some k → (d : ℕ) × (k ≡ (i + 1) + d) × (slice_get xs d ≡ Some s)) → (b : Bool) → (x == s) ≡ b
        → (if b then Some i else index_of s (i + 1) xs) ≡ Some k → (d : ℕ) × (k ≡ i + d) × (slice_get (x ∷ xs) d ≡ Some s)
    by_test rest true t g = let e : x ≡ s = eqb-true x s t in let q : i ≡ k = cc in (0, omega arith, ap (λ n. Some n) e)
    by_test rest false t g = let r = rest g in let q : k ≡ i + suc r.0 = omega arith in (suc r.0, q, r.2)

-- a number that is not in a list, is not found
index_none : (s i : ℕ) (xs : List ℕ) → ((h : ℕ) → slice_get xs h ≡ Some s → ⊥) → index_of s i xs ≡ None
index_none s i [] h = refl
index_none s i (x ∷ xs) h = by_test (index_none s (i + 1) xs (λ n g. h (suc n) g)) (x == s) refl
  where
    by_test : index_of s (i + 1) xs ≡ None → (b : Bool) → (x == s) ≡ b → (if b then Some i else index_of s (i + 1) xs) ≡ None
    by_test rest true t = absurd (h 0 (ap (λ n. Some n) (eqb-true x s t)))
    by_test rest false t = rest

-- two places are equal where their parts are
pub same_pair : (a b c d : ℕ) → a ≡ c → b ≡ d → ◌≡◌ {A = Option (ℕ × ℕ)} (Some (a, b)) (Some (c, d))
same_pair a b c d p q = ap (λ n. Some (n, b)) p ∙ ap (λ n. Some (c, n)) q

-- a number that stands once is found where it stands, lists counted from j
found_at : (s j : ℕ) (lists : List (List ℕ)) (i k : ℕ) → Stands lists i k s → ((n h : ℕ) → Stands lists n h s → (i ≡ n) × (k ≡ h))
    → found s j lists ≡ Some (j + i, k)
found_at s j [] i k h once = absurd (let q = h.1 in cc)
found_at s j (xs ∷ rest) zero k h once =
    let q : Some xs ≡ Some h.0 = h.1 in
    let e : xs ≡ h.0 = cc in
    let st : slice_get xs k ≡ Some s = ap (λ (l : List ℕ). slice_get l k) e ∙ h.2 in
    let f : index_of s 0 xs ≡ Some (0 + k) = index_at s 0 xs k st (λ n g. (once 0 n (xs, refl, g)).1) in
    ap (λ (o : Option ℕ). elim o as (λ _. Option (ℕ × ℕ)) [ None ↦ found s (j + 1) rest | Some n ↦ Some (j, n) ]) f
    ∙ same_pair j (0 + k) (j + 0) k (omega arith) (omega arith)
found_at s j (xs ∷ rest) (suc i) k h once =
    let f : index_of s 0 xs ≡ None =
    index_none s 0 xs (λ n g. let q : suc i ≡ 0 = (once 0 n (xs, refl, g)).0 in absurd (omega arith)) in
    ap (λ (o : Option ℕ). elim o as (λ _. Option (ℕ × ℕ)) [ None ↦ found s (j + 1) rest | Some n ↦ Some (j, n) ]) f
    ∙ (found_at s (j + 1) rest i k h (λ n g t. let q = once (suc n) g t in let r : suc i ≡ suc n = q.0 in (omega arith, q.1))
    ∙ same_pair ((j + 1) + i) k (j + suc i) k (omega arith) refl)

-- where a number is found, it stands, lists counted from j
at_found : (s j : ℕ) (lists : List (List ℕ)) (p : ℕ × ℕ) → found s j lists ≡ Some p → (i : ℕ) × (p.0 ≡ j + i) × Stands lists i p.1 s
at_found s j [] p h = absurd (cc)
at_found s j (xs ∷ rest) p h = by_index (at_found s (j + 1) rest p) (index_of s 0 xs) refl h
  where
    by_index : (found s (j + 1) rest ≡ Some p → (i : ℕ) × (p.0 ≡ (j + 1) + i) × Stands rest i p.1 s) → (o : Option ℕ) → index_of s 0 xs ≡ o
        → (elim o as (λ _. Option (ℕ × ℕ)) [ None ↦ found s (j + 1) rest | Some n ↦ Some (j, n) ]) ≡ Some p
        → (i : ℕ) × (p.0 ≡ j + i) × Stands (xs ∷ rest) i p.1 s
    by_index further None t g = let r = further g in let q : p.0 ≡ j + suc r.0 = omega arith in (suc r.0, q, r.2)
    by_index further (Some n) t g =
        let r = at_index s 0 xs n t in
        let e : ◌≡◌ {A = ℕ × ℕ} (j, n) p = cc in
        let a : j ≡ p.0 = ap (λ (x : ℕ × ℕ). x.0) e in
        let b : n ≡ p.1 = ap (λ (x : ℕ × ℕ). x.1) e in
        let d : r.0 ≡ p.1 = omega arith in
        (0, omega arith, (xs, refl, ap (slice_get xs) (sym d) ∙ r.2))

-- a number that stands nowhere is not found
found_none : (s j : ℕ) (lists : List (List ℕ)) → ((i k : ℕ) → Stands lists i k s → ⊥) → found s j lists ≡ None
found_none s j [] h = refl
found_none s j (xs ∷ rest) h =
    ap (λ (o : Option ℕ). elim o as (λ _. Option (ℕ × ℕ)) [ None ↦ found s (j + 1) rest | Some n ↦ Some (j, n) ])
    (index_none s 0 xs (λ n g. h 0 n (xs, refl, g)))
    ∙ found_none s (j + 1) rest (λ i k t. h (suc i) k t)

-- what is found is where it stands, among numbers that are kept apart
apart_found : (lists : List (List ℕ)) (graves : List Grave) (fresh : ℕ) → AreKeptApart lists graves fresh → (j k s : ℕ) → Stands lists j k s
    → found s 0 lists ≡ Some (j, k)
apart_found lists graves fresh apart j k s h =
    found_at s 0 lists j k h (λ i n t. apart.once j k i n s h t) ∙ same_pair (0 + j) k j k (omega arith) refl

-- what was dropped is found nowhere, among numbers that are kept apart
apart_dropped : (lists : List (List ℕ)) (graves : List Grave) (fresh : ℕ) → AreKeptApart lists graves fresh → (s site : ℕ) → IsGrave graves s site
    → found s 0 lists ≡ None
apart_dropped lists graves fresh apart s site g = found_none s 0 lists (λ i k t. apart.dead i k s site t g)

-- a stamp that stands in a container stands in the list of its stamps
pub at_stands : (m : Memory) (j k s : ℕ) → IsAt m j k s → Stands (map stamps m.conts) j k s
at_stands m j k s h = (stamps h.cont, get_map (λ (c : Cont). stamps c) m.conts j h.cont h.there, h.stands)

-- and the other way round
pub stands_at : (m : Memory) (j k s : ℕ) → Stands (map stamps m.conts) j k s → IsAt m j k s
stands_at m j k s h = let r = got_map (λ (c : Cont). stamps c) m.conts j h.0 h.1 in
    record { cont = r.0; there = r.1; stands = ap (λ (l : List ℕ). slice_get l k) r.2 ∙ h.2 }

-- a refer that stands in a container stands in the list of its refers
pub refers_stands : (m : Memory) (j k s : ℕ) → RefersTo m j k s → Stands (map refers m.conts) j k s
refers_stands m j k s h = (refers h.cont, get_map (λ (c : Cont). refers c) m.conts j h.cont h.there, h.stands)

-- and the other way round
pub stands_refers : (m : Memory) (j k s : ℕ) → Stands (map refers m.conts) j k s → RefersTo m j k s
stands_refers m j k s h = let r = got_map (λ (c : Cont). refers c) m.conts j h.0 h.1 in
    record { cont = r.0; there = r.1; stands = ap (λ (l : List ℕ). slice_get l k) r.2 ∙ h.2 }

-- a stamp of a sound memory stands once
pub stamp-once : (m : Memory) → IsSound m → (j k i h s : ℕ) → IsAt m j k s → IsAt m i h s → (j ≡ i) × (k ≡ h)
stamp-once m sound j k i h s a b = sound.stamps_apart.once j k i h s (at_stands m j k s a) (at_stands m i h s b)

-- it was used
pub stamp-used : (m : Memory) → IsSound m → (j k s : ℕ) → IsAt m j k s → s < m.fresh
stamp-used m sound j k s a = sound.stamps_apart.used j k s (at_stands m j k s a)

-- and it wasn't dropped
pub stamp-alive : (m : Memory) → IsSound m → (j k s site : ℕ) → IsAt m j k s → Dropped m s site → ⊥
stamp-alive m sound j k s site a d = sound.stamps_apart.dead j k s site (at_stands m j k s a) d

-- an iterator is found where its stamp stands
pub locate-at : (m : Memory) (j k s : ℕ) → IsSound m → IsAt m j k s → locate m s ≡ Some (j, k)
locate-at m j k s sound h = apart_found (map stamps m.conts) m.graves m.fresh sound.stamps_apart j k s (at_stands m j k s h)

-- where an iterator is found, its stamp stands
pub at-locate : (m : Memory) (s : ℕ) (p : ℕ × ℕ) → locate m s ≡ Some p → IsAt m p.0 p.1 s
at-locate m s p h =
    let r = at_found s 0 (map stamps m.conts) p h in
    let e : p.0 ≡ r.0 = omega arith in
    stands_at m p.0 p.1 s (r.2.0, ap (slice_get (map stamps m.conts)) e ∙ r.2.1, r.2.2)

-- a stamp that was dropped is found nowhere
pub locate-dropped : (m : Memory) (s site : ℕ) → IsSound m → Dropped m s site → locate m s ≡ None
locate-dropped m s site sound h = apart_dropped (map stamps m.conts) m.graves m.fresh sound.stamps_apart s site h

-- a reference is found where its refer stands
pub refer-at : (m : Memory) (j k r : ℕ) → IsSound m → RefersTo m j k r → locate_refer m r ≡ Some (j, k)
refer-at m j k r sound h = apart_found (map refers m.conts) m.lost m.fresh sound.refers_apart j k r (refers_stands m j k r h)

-- where a reference is found, its refer stands
pub at-refer : (m : Memory) (r : ℕ) (p : ℕ × ℕ) → locate_refer m r ≡ Some p → RefersTo m p.0 p.1 r
at-refer m s p h =
    let r = at_found s 0 (map refers m.conts) p h in
    let e : p.0 ≡ r.0 = omega arith in
    stands_refers m p.0 p.1 s (r.2.0, ap (slice_get (map refers m.conts)) e ∙ r.2.1, r.2.2)

-- a refer that was dropped is found nowhere
pub refer-lost : (m : Memory) (r site : ℕ) → IsSound m → Lost m r site → locate_refer m r ≡ None
refer-lost m r site sound h = apart_dropped (map refers m.conts) m.lost m.fresh sound.refers_apart r site h

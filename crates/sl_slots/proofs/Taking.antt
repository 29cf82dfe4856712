-- Which source takes a place, in the store and in the model.
use Rattle.std.proofs.Common.{◌≡◌, ℕ, zero, suc, ◌+◌, ◌<◌, ◌==◌, Bool, true, false, List, [], ◌∷◌, Option, Some, None, length, map, drop, get_or, refl, ap, sym, ◌∙◌}
use Rattle.std.proofs.Common.{arith, ◌⊎◌, inl, inr, ℤ, if◌then◌else◌}
use Rattle.std.specs.List.{slice_get}
use Rattle.std.proofs.Math.Seq.{drop-cons}
use Rattle.std.proofs.lemmas.Bool.{eqb-true}
use Rattle.sl_model.specs.Memory.Edits.{Source, old, written, theirs, new}
use Rattle.sl_model.proofs.Places.{hit, times, own_places}
use Rattle.sl_slots.specs.declared.source.Source.{Source as SourceCode}
use Rattle.sl_slots.specs.Rearranging.{takes_old, index_taken, place_taken, source_code}

-- one source more is tested
pub taken_step : (takes : SourceCode → Bool) (ss : List SourceCode) (i : ℕ) (d : SourceCode) → i < length ss
    → index_taken takes i (drop i ss) ≡ (if takes (get_or ss i d) then Some i else index_taken takes (i + 1) (drop (i + 1) ss))
taken_step takes ss i d low =
    ap (index_taken takes i) (drop-cons ss i d low)
    ∙ ap (λ (n : ℕ). if takes (get_or ss i d) then Some i else index_taken takes (i + 1) (drop n ss)) (one i)
  where
    one : (i : ℕ) → suc i ≡ i + 1
    one i = omega arith

-- an element comes from an old place, maybe with another key
abbrev pub IsOldAt : List Source → ℕ → ℕ → Type 0
IsOldAt xs d k = (slice_get xs d ≡ Some (old k)) ⊎ ((z : ℤ) × (slice_get xs d ≡ Some (written k z)))

-- so it is with one source more in front
further : (x : Source) (xs : List Source) (d k : ℕ) → IsOldAt xs d k → IsOldAt (x ∷ xs) (suc d) k
further x xs d k (inl a) = inl a
further x xs d k (inr b) = inr b

-- the source that takes a place
taken_at : (k i p : ℕ) (xs : List Source) → index_taken (λ s. takes_old s k) i (map source_code xs) ≡ Some p
    → (d : ℕ) × (p ≡ i + d) × IsOldAt xs d k
taken_at k i p [] h = absurd (cc)
taken_at k i p (x ∷ xs) h = by_source x (taken_at k (i + 1) p xs) h
  where
    Rest : Type 0
    Rest = index_taken (λ s. takes_old s k) (i + 1) (map source_code xs) ≡ Some p → (d : ℕ) × (p ≡ (i + 1) + d) × IsOldAt xs d k

    next : (y : Source) → ((d : ℕ) × (p ≡ (i + 1) + d) × IsOldAt xs d k) → (d : ℕ) × (p ≡ i + d) × IsOldAt (y ∷ xs) d k
    next y r = let e : p ≡ (i + 1) + r.0 = r.1 in (suc r.0, omega arith, further y xs r.0 k r.2)

    by_test : (y : Source) (j : ℕ) → (j ≡ k → IsOldAt (y ∷ xs) 0 k) → Rest → (b : Bool) → (j == k) ≡ b
        → (if b then Some i else index_taken (λ s. takes_old s k) (i + 1) (map source_code xs)) ≡ Some p
        → (d : ℕ) × (p ≡ i + d) × IsOldAt (y ∷ xs) d k
    by_test y j here rest true t g = let e : i ≡ p = cc in (0, omega arith, here (eqb-true j k t))
    by_test y j here rest false t g = next y (rest g)

    by_source : (y : Source) → Rest → index_taken (λ s. takes_old s k) i (source_code y ∷ map source_code xs) ≡ Some p
        → (d : ℕ) × (p ≡ i + d) × IsOldAt (y ∷ xs) d k
    by_source (old j) rest g = by_test (old j) j (λ e. inl (ap (λ n. Some (old n)) e)) rest (j == k) refl g
    by_source (written j z) rest g = by_test (written j z) j (λ e. inr (z, ap (λ n. Some (written n z)) e)) rest (j == k) refl g
    by_source (theirs j) rest g = next (theirs j) (rest g)
    by_source (new a b) rest g = next (new a b) (rest g)

-- where a place is taken, it comes from there
pub place_comes : (xs : List Source) (k p : ℕ) → place_taken (map source_code xs) k ≡ Some p → IsOldAt xs p k
place_comes xs k p h =
    let r = taken_at k 0 p xs h in
    let e : r.0 ≡ p = (let q : p ≡ 0 + r.0 = r.1 in omega arith) in
    moved r.0 e r.2
  where
    moved : (d : ℕ) → d ≡ p → IsOldAt xs d k → IsOldAt xs p k
    moved d e (inl a) = inl (ap (slice_get xs) (sym e) ∙ a)
    moved d e (inr b) = inr (b.0, ap (slice_get xs) (sym e) ∙ b.1)

-- where none is found, none is taken
taken_none : (k i : ℕ) (xs : List Source) → index_taken (λ s. takes_old s k) i (map source_code xs) ≡ None → times k (own_places xs) ≡ 0
taken_none k i [] h = refl
taken_none k i (x ∷ xs) h = by_source x (taken_none k (i + 1) xs) h
  where
    Rest : Type 0
    Rest = index_taken (λ s. takes_old s k) (i + 1) (map source_code xs) ≡ None → times k (own_places xs) ≡ 0

    by_test : (j : ℕ) → Rest → (b : Bool) → (j == k) ≡ b
        → (if b then Some i else index_taken (λ s. takes_old s k) (i + 1) (map source_code xs)) ≡ None
        → (if b then 1 else 0) + times k (own_places xs) ≡ 0
    by_test j rest true t g = absurd (cc)
    by_test j rest false t g = let r : times k (own_places xs) ≡ 0 = rest g in omega arith

    by_source : (y : Source) → Rest → index_taken (λ s. takes_old s k) i (source_code y ∷ map source_code xs) ≡ None
        → times k (own_places (y ∷ xs)) ≡ 0
    by_source (old j) rest g = by_test j rest (j == k) refl g
    by_source (written j z) rest g = by_test j rest (j == k) refl g
    by_source (theirs j) rest g = rest g
    by_source (new a b) rest g = rest g

pub none_takes : (xs : List Source) (k : ℕ) → place_taken (map source_code xs) k ≡ None → times k (own_places xs) ≡ 0
none_takes xs k h = taken_none k 0 xs h

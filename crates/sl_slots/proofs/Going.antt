-- Which source of the other container takes a place, in the store and in the model.
use Rattle.std.proofs.Common.{◌≡◌, ℕ, zero, suc, ◌+◌, ◌==◌, Bool, true, false, List, [], ◌∷◌, Option, Some, None, map, refl, ap, sym, ◌∙◌, arith, if◌then◌else◌}
use Rattle.std.specs.List.{slice_get}
use Rattle.std.proofs.lemmas.Bool.{eqb-true}
use Rattle.sl_model.specs.Memory.Edits.{Source, old, written, theirs, new}
use Rattle.sl_model.proofs.Places.{times, their_places}
use Rattle.sl_slots.specs.Rearranging.{index_taken, source_code}
use Rattle.sl_slots.specs.Trading.{takes_theirs, place_over}

-- the source that takes a place
over_at : (k i p : ℕ) (xs : List Source) → index_taken (λ s. takes_theirs s k) i (map source_code xs) ≡ Some p
    → (d : ℕ) × (p ≡ i + d) × (slice_get xs d ≡ Some (theirs k))
over_at k i p [] h = absurd (cc)
over_at k i p (x ∷ xs) h = by_source x (over_at k (i + 1) p xs) h
  where
    Rest : Type 0
    Rest = index_taken (λ s. takes_theirs s k) (i + 1) (map source_code xs) ≡ Some p → (d : ℕ) × (p ≡ (i + 1) + d) × (slice_get xs d ≡ Some (theirs k))

    next : (y : Source) → ((d : ℕ) × (p ≡ (i + 1) + d) × (slice_get xs d ≡ Some (theirs k)))
        → (d : ℕ) × (p ≡ i + d) × (slice_get (y ∷ xs) d ≡ Some (theirs k))
    next y r = let e : p ≡ (i + 1) + r.0 = r.1 in (suc r.0, omega arith, r.2)

    by_test : (j : ℕ) → Rest → (b : Bool) → (j == k) ≡ b
        → (if b then Some i else index_taken (λ s. takes_theirs s k) (i + 1) (map source_code xs)) ≡ Some p
        → (d : ℕ) × (p ≡ i + d) × (slice_get (theirs j ∷ xs) d ≡ Some (theirs k))
    by_test j rest true t g = let e : i ≡ p = cc in (0, omega arith, ap (λ n. Some (theirs n)) (eqb-true j k t))
    by_test j rest false t g = next (theirs j) (rest g)

    by_source : (y : Source) → Rest → index_taken (λ s. takes_theirs s k) i (source_code y ∷ map source_code xs) ≡ Some p
        → (d : ℕ) × (p ≡ i + d) × (slice_get (y ∷ xs) d ≡ Some (theirs k))
    by_source (old j) rest g = next (old j) (rest g)
    by_source (written j z) rest g = next (written j z) (rest g)
    by_source (theirs j) rest g = by_test j rest (j == k) refl g
    by_source (new a b) rest g = next (new a b) (rest g)

-- where a place is taken over, it comes from there
pub over_comes : (xs : List Source) (k p : ℕ) → place_over (map source_code xs) k ≡ Some p → slice_get xs p ≡ Some (theirs k)
over_comes xs k p h =
    let r = over_at k 0 p xs h in
    let q : p ≡ 0 + r.0 = r.1 in
    let e : p ≡ r.0 = omega arith in
    ap (slice_get xs) e ∙ r.2

-- where none is found, none is taken over
over_none : (k i : ℕ) (xs : List Source) → index_taken (λ s. takes_theirs s k) i (map source_code xs) ≡ None → times k (their_places xs) ≡ 0
over_none k i [] h = refl
over_none k i (x ∷ xs) h = by_source x (over_none k (i + 1) xs) h
  where
    Rest : Type 0
    Rest = index_taken (λ s. takes_theirs s k) (i + 1) (map source_code xs) ≡ None → times k (their_places xs) ≡ 0

    by_test : (j : ℕ) → Rest → (b : Bool) → (j == k) ≡ b
        → (if b then Some i else index_taken (λ s. takes_theirs s k) (i + 1) (map source_code xs)) ≡ None
        → (if b then 1 else 0) + times k (their_places xs) ≡ 0
    by_test j rest true t g = absurd (cc)
    by_test j rest false t g = let r : times k (their_places xs) ≡ 0 = rest g in omega arith

    by_source : (y : Source) → Rest → index_taken (λ s. takes_theirs s k) i (source_code y ∷ map source_code xs) ≡ None
        → times k (their_places (y ∷ xs)) ≡ 0
    by_source (old j) rest g = rest g
    by_source (written j z) rest g = rest g
    by_source (theirs j) rest g = by_test j rest (j == k) refl g
    by_source (new a b) rest g = rest g

pub none_over : (xs : List Source) (k : ℕ) → place_over (map source_code xs) k ≡ None → times k (their_places xs) ≡ 0
none_over xs k h = over_none k 0 xs h

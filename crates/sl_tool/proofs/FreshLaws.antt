-- A name that isn't among these.
use Rattle.std.proofs.Common.{◌≡◌, ℕ, zero, suc, ◌<◌, ◌≤◌, List, [], ◌∷◌, ◌++◌, length, Contains, HoldsAt, refl, ap, arith, length-append}
use Rattle.std.proofs.lemmas.List.Elements.{at_from_Contains}

joined : List (List ℕ) → List ℕ
joined [] = []
joined (n ∷ ns) = n ++ joined ns

not_longer : (names : List (List ℕ)) (name : List ℕ) (k : ℕ) → k < length names → HoldsAt (λ n. n ≡ name) names k
    → length name ≤ length (joined names)
unfolding joined
not_longer [] name k h same = absurd (omega arith)
not_longer (n ∷ ns) name zero h same =
    let e : n ≡ name = same name in
    let long = length-append n (joined ns) in
    let equal : length n ≡ length name = ap length e in
    omega arith
not_longer (n ∷ ns) name (suc k) h same =
    let rest = not_longer ns name k (omega arith) same in
    let long = length-append n (joined ns) in
    omega arith

-- it is longer than all of them
pub fresh : (names : List (List ℕ)) → (name : List ℕ) × (Contains names name → ⊥)
fresh names = (0 ∷ joined names, not_there) where
  not_there : Contains names (0 ∷ joined names) → ⊥
  not_there there =
      let found = at_from_Contains names (0 ∷ joined names) there in
      let long = not_longer names (0 ∷ joined names) found.0 found.1 found.2 in
      omega arith

-- one of some names
pub some_name : (names : List (List ℕ)) → 0 < length names → (name : List ℕ) × Contains names name
some_name [] h = absurd (omega arith)
some_name (n ∷ ns) h = (n, (0, omega arith, refl))

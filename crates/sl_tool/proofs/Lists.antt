-- Elements of lists by number.
use Rattle.std.proofs.Common.{◌≡◌, ◌≢◌, ℕ, zero, suc, ◌+◌, ◌<◌, List, [], ◌∷◌, ◌++◌, length, get_or, set, Some, ◌⊎◌, inl, inr, refl, ap, sym, ◌∙◌}
use Rattle.std.proofs.Common.{arith, add-one, add-zero}
use Rattle.std.specs.Prelude.{slice_get}
use Rattle.sl_model.specs.Memory.Edits.{numbers}

-- an element of a list with one more is an old one or the new one
pub pushed : {A : Type 0} (xs : List A) (y x : A) (i : ℕ) → slice_get (xs ++ y ∷ []) i ≡ Some x → (slice_get xs i ≡ Some x)
    ⊎ ((i ≡ length xs) × (x ≡ y))
pushed [] y x zero h = inr (refl, let e : y ≡ x = cc in sym e)
pushed [] y x (suc i) h = absurd cc
pushed (z ∷ xs) y x zero h = inl h
pushed (z ∷ xs) y x (suc i) h = elim (pushed xs y x i h) [ inl old ↦ inl old | inr new ↦ inr (ap suc new.0, new.1) ]

pub pushed-old : {A : Type 0} (xs : List A) (y x : A) (i : ℕ) → slice_get xs i ≡ Some x → slice_get (xs ++ y ∷ []) i ≡ Some x
pushed-old [] y x i h = absurd cc
pushed-old (z ∷ xs) y x zero h = h
pushed-old (z ∷ xs) y x (suc i) h = pushed-old xs y x i h

-- an element of a list with one written is the written one or an old one elsewhere
pub written : {A : Type 0} (xs : List A) (j : ℕ) (y x : A) (i : ℕ) → slice_get (set xs j y) i ≡ Some x → ((i ≡ j) × (x ≡ y))
    ⊎ ((j ≢ i) × (slice_get xs i ≡ Some x))
written [] j y x i h = absurd cc
written (z ∷ xs) zero y x zero h = inl (refl, let e : y ≡ x = cc in sym e)
written (z ∷ xs) zero y x (suc i) h = inr ((λ e. let z : zero ≡ suc i = e in absurd (omega arith)), h)
written (z ∷ xs) (suc j) y x zero h = inr ((λ e. let z : suc j ≡ zero = e in absurd (omega arith)), h)
written (z ∷ xs) (suc j) y x (suc i) h = elim (written xs j y x i h) [
  | inl same ↦ inl (ap suc same.0, same.1)
  | inr other ↦ inr ((λ e. other.0 (let q : suc j ≡ suc i = e in omega arith)), other.1)
]

pub written-other : {A : Type 0} (xs : List A) (j : ℕ) (y x : A) (i : ℕ) → j ≢ i → slice_get xs i ≡ Some x → slice_get (set xs j y) i ≡ Some x
written-other [] j y x i ne h = absurd cc
written-other (z ∷ xs) zero y x zero ne h = absurd (ne refl)
written-other (z ∷ xs) zero y x (suc i) ne h = h
written-other (z ∷ xs) (suc j) y x zero ne h = h
written-other (z ∷ xs) (suc j) y x (suc i) ne h = written-other xs j y x i (λ e. ne (ap suc e)) h

-- an element that is there
pub there : {A : Type 0} (xs : List A) (i : ℕ) → i < length xs → (x : A) × (slice_get xs i ≡ Some x)
there [] i h = absurd (omega arith)
there (x ∷ xs) zero h = (x, refl)
there (x ∷ xs) (suc i) h = there xs i (omega arith)

-- an element that is there, with any default
pub get_or-there : {A : Type 0} (xs : List A) (i : ℕ) (x d : A) → slice_get xs i ≡ Some x → get_or xs i d ≡ x
get_or-there [] i x d h = absurd cc
get_or-there (z ∷ xs) zero x d h = let e : z ≡ x = cc in e
get_or-there (z ∷ xs) (suc i) x d h = get_or-there xs i x d h

numbers-at : (from n i : ℕ) → i < n → get_or (numbers from n) i 0 ≡ from + i
numbers-at from zero i h = absurd (omega arith)
numbers-at from (suc n) zero h = sym (add-zero from)
numbers-at from (suc n) (suc i) h = numbers-at (from + 1) n i (omega arith) ∙ (let e : from + 1 + i ≡ from + suc i = omega arith in e)

-- the number at a place of the first numbers
pub number-at : (n i : ℕ) → i < n → get_or (numbers 0 n) i 0 ≡ i
number-at n i h = numbers-at 0 n i h ∙ (let e : 0 + i ≡ i = omega arith in e)

numbers-push : (from n : ℕ) → numbers from n ++ (from + n) ∷ [] ≡ numbers from (suc n)
numbers-push from zero = ap (λ k. k ∷ []) (let e : from + 0 ≡ from = omega arith in e)
numbers-push from (suc n) = ap (λ l. from ∷ l) (ap (λ k. numbers (from + 1) n ++ k ∷ []) (let e : from + suc n ≡ from + 1 + n = omega arith in e)
    ∙ numbers-push (from + 1) n)

-- one number more
pub numbers-more : (n : ℕ) → numbers 0 n ++ n ∷ [] ≡ numbers 0 (n + 1)
numbers-more n = rw add-one (ap (λ k. numbers 0 n ++ k ∷ []) (let e : n ≡ 0 + n = omega arith in e) ∙ numbers-push 0 n)

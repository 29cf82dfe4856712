-- Lists of locations and of stamps that are below a number, or no two of which are one.
use Rattle.std.proofs.Common.{◌≡◌, ℕ, zero, suc, ◌<◌, ◌≤◌, List, [], ◌∷◌, ◌++◌, Some, length, take, refl, ap, sym, ◌∙◌, arith, ◌⊎◌, inl, inr, ⊎_elim}
use Rattle.std.specs.List.{slice_get, slice_set}
use Rattle.sl_model.specs.Runs.Good.{AreBelow, AreApart}
use Rattle.sl_model.proofs.Getting.{get_take, get_within, get_left}

-- what is in a list with one more was in it, or is the last
pub in_one_more : (ls : List ℕ) (at x y : ℕ) → slice_get (ls ++ at ∷ []) x ≡ Some y → (slice_get ls x ≡ Some y) ⊎ ((x ≡ length ls) × (at ≡ y))
in_one_more [] at zero y h = inr (refl, (cc))
in_one_more [] at (suc x) y h = absurd (cc)
in_one_more (l ∷ ls) at zero y h = inl h
in_one_more (l ∷ ls) at (suc x) y h = ⊎_elim (λ r. inl r) (λ (r : (x ≡ length ls) × (at ≡ y)). inr (ap suc r.0, r.1)) (in_one_more ls at x y h)

-- what is in a list where one was written was in it, or is what was written
in_set : (ls : List ℕ) (at v x y : ℕ) → slice_get (slice_set ls at v) x ≡ Some y → (slice_get ls x ≡ Some y) ⊎ (v ≡ y)
in_set [] at v x y h = inl h
in_set (l ∷ ls) zero v zero y h = inr (cc)
in_set (l ∷ ls) zero v (suc x) y h = inl h
in_set (l ∷ ls) (suc at) v zero y h = inl h
in_set (l ∷ ls) (suc at) v (suc x) y h = in_set ls at v x y h

-- what is below a number is below a greater one
pub below_more : (ls : List ℕ) (n m : ℕ) → n ≤ m → AreBelow ls n → AreBelow ls m
below_more ls n m more h x at e = let r : at < n = h x at e in omega arith

-- nothing is below each number
pub below_none : (n : ℕ) → AreBelow [] n
below_none n x at e = absurd (cc)

-- with one more
pub below_one_more : (ls : List ℕ) (at n : ℕ) → AreBelow ls n → at < n → AreBelow (ls ++ at ∷ []) n
below_one_more ls at n h low x y e = by_place (in_one_more ls at x y e)
  where
    by_place : (slice_get ls x ≡ Some y) ⊎ ((x ≡ length ls) × (at ≡ y)) → y < n
    by_place (inl r) = h x y r
    by_place (inr r) = let q : at ≡ y = r.1 in omega arith

-- with one written
pub below_set : (ls : List ℕ) (at v n : ℕ) → AreBelow ls n → v < n → AreBelow (slice_set ls at v) n
below_set ls at v n h low x y e = by_place (in_set ls at v x y e)
  where
    by_place : (slice_get ls x ≡ Some y) ⊎ (v ≡ y) → y < n
    by_place (inl r) = h x y r
    by_place (inr r) = omega arith

-- with less
pub below_take : (k : ℕ) (ls : List ℕ) (n : ℕ) → AreBelow ls n → AreBelow (take k ls) n
below_take k ls n h x y e = h x y (get_take k ls x y e).1

-- nothing is apart
pub apart_none : AreApart []
apart_none x y at e f = absurd (cc)

-- with one more that wasn't in it
pub apart_one_more : (ls : List ℕ) (at : ℕ) → AreApart ls → ((x : ℕ) → slice_get ls x ≡ Some at → ⊥) → AreApart (ls ++ at ∷ [])
apart_one_more ls at h other x y z e f = by_places (in_one_more ls at x z e) (in_one_more ls at y z f)
  where
    by_places : (slice_get ls x ≡ Some z) ⊎ ((x ≡ length ls) × (at ≡ z)) → (slice_get ls y ≡ Some z) ⊎ ((y ≡ length ls) × (at ≡ z)) → x ≡ y
    by_places (inl p) (inl q) = h x y z p q
    by_places (inl p) (inr q) = absurd (other x (p ∙ ap (λ n. Some n) (sym q.1)))
    by_places (inr p) (inl q) = absurd (other y (q ∙ ap (λ n. Some n) (sym p.1)))
    by_places (inr p) (inr q) = p.0 ∙ sym q.0

-- a location that is not below isn't there
pub not_there : (ls : List ℕ) (n : ℕ) → AreBelow ls n → (x : ℕ) → slice_get ls x ≡ Some n → ⊥
not_there ls n h x e = let r : n < n = h x n e in omega arith

-- the first part of what is apart
pub apart_left : (xs ys : List ℕ) → AreApart (xs ++ ys) → AreApart xs
apart_left xs ys h x y at e f = h x y at (get_left xs ys x (get_within xs x at e) ∙ e) (get_left xs ys y (get_within xs y at f) ∙ f)

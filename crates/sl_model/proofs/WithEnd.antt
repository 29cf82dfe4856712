-- The sources of a change with the end of the container behind them, as its stamps have it.
use Rattle.std.proofs.Common.{◌≡◌, ℕ, zero, suc, ◌+◌, ◌<◌, ◌≤◌, Bool, List, [], ◌∷◌, ◌++◌, Some, length, refl, ap, sym, ◌∙◌, arith, ◌⊎◌, inl, inr, ⊎_elim}
use Rattle.std.proofs.Common.{subst}
use Rattle.std.specs.List.{slice_get}
use Rattle.sl_model.specs.Memory.Edits.{Source, old, written, theirs, new}
use Rattle.sl_model.proofs.Getting.{get_left, get_within}
use Rattle.sl_model.proofs.Columns.{TakesOwn, TakesTheirs, IsNew, IsInside, AllInside, mark_from, marks_from}
use Rattle.sl_model.proofs.ColumnLaws.{TakenOnce, IsTaken}

-- these sources and the end of a container of n elements
abbrev pub with_end : ℕ → List Source → List Source
with_end n xs = xs ++ old n ∷ []

-- a source of these with the end is one of these, or the end
pub of_with_end : (n : ℕ) (xs : List Source) (p : ℕ) (x : Source) → slice_get (with_end n xs) p ≡ Some x
    → (slice_get xs p ≡ Some x) ⊎ ((p ≡ length xs) × (old n ≡ x))
of_with_end n [] zero x h = inr (refl, (cc))
of_with_end n [] (suc p) x h = absurd (cc)
of_with_end n (y ∷ xs) zero x h = inl h
of_with_end n (y ∷ xs) (suc p) x h =
    ⊎_elim (λ a. inl a) (λ (b : (p ≡ length xs) × (old n ≡ x)). inr (ap suc b.0, b.1)) (of_with_end n xs p x h)

-- one of these is one of these with the end
pub in_with_end : (n : ℕ) (xs : List Source) (p : ℕ) (x : Source) → slice_get xs p ≡ Some x → slice_get (with_end n xs) p ≡ Some x
in_with_end n xs p x h = get_left xs (old n ∷ []) p (get_within xs p x h) ∙ h

-- the end is behind these
pub end_of_these : (n : ℕ) (xs : List Source) → slice_get (with_end n xs) (length xs) ≡ Some (old n)
end_of_these n [] = refl
end_of_these n (y ∷ xs) = end_of_these n xs

-- what is inside is so with more places
inside_more : (n n' m m' : ℕ) (x : Source) → n ≤ m → n' ≤ m' → IsInside n n' x → IsInside m m' x
inside_more n n' m m' (old k) a b h = omega arith
inside_more n n' m m' (written k z) a b h = omega arith
inside_more n n' m m' (theirs k) a b h = omega arith
inside_more n n' m m' (new x y) a b h = tt

-- so are all of these
pub all_inside_more : (n n' m m' : ℕ) (xs : List Source) → n ≤ m → n' ≤ m' → AllInside n n' xs → AllInside m m' xs
all_inside_more n n' m m' [] a b h = tt
all_inside_more n n' m m' (x ∷ xs) a b h = (inside_more n n' m m' x a b h.0, all_inside_more n n' m m' xs a b h.1)

-- and these with the end
pub with_end-inside : (n n' m m' : ℕ) (xs : List Source) → n < m → n' ≤ m' → AllInside n n' xs → AllInside m m' (with_end n xs)
with_end-inside n n' m m' [] a b h = (a, tt)
with_end-inside n n' m m' (x ∷ xs) a b h = (inside_more n n' m m' x (omega arith) b h.0, with_end-inside n n' m m' xs a b h.1)

-- each of these is inside
pub inside_at : (n n' : ℕ) (xs : List Source) (p : ℕ) (x : Source) → AllInside n n' xs → slice_get xs p ≡ Some x → IsInside n n' x
inside_at n n' [] p x h at = absurd (cc)
inside_at n n' (y ∷ xs) zero x h at = let e : y ≡ x = cc in rw (← e) h.0
inside_at n n' (y ∷ xs) (suc p) x h at = inside_at n n' xs p x h.1 at

-- what takes a place takes one inside
pub takes_inside : (n n' : ℕ) (x : Source) (k : ℕ) → IsInside n n' x → TakesOwn x k → k < n
takes_inside n n' (old i) k h t = omega arith
takes_inside n n' (written i z) k h t = omega arith
takes_inside n n' (theirs i) k h t = absurd t
takes_inside n n' (new a b) k h t = absurd t

-- the end takes the place behind all elements
pub end_takes : (n : ℕ) (x : Source) (k : ℕ) → old n ≡ x → TakesOwn x k → n ≡ k
end_takes n x k e t = subst (λ y. TakesOwn y k → n ≡ k) e (λ q. q) t

-- the end takes none of the other container
pub end_takes_none : (n : ℕ) (x : Source) (k : ℕ) → old n ≡ x → TakesTheirs x k → ⊥
end_takes_none n x k e t = subst (λ y. TakesTheirs y k → ⊥) e (λ q. q) t

-- the end is no new one
end_not_new : (n : ℕ) (x : Source) → old n ≡ x → IsNew x → ⊥
end_not_new n x e t = subst (λ y. IsNew y → ⊥) e (λ q. q) t

-- no place is taken twice by these with the end
pub with_end-once : (n n' : ℕ) (xs : List Source) → AllInside n n' xs → TakenOnce xs → TakenOnce (with_end n xs)
with_end-once n n' xs inside once = record { own = in_own; their = in_their }
  where
    not_end : (p k : ℕ) (a b : Source) → slice_get xs p ≡ Some a → TakesOwn a k → old n ≡ b → TakesOwn b k → ⊥
    not_end p k a b x t e u =
        let low : k < n = takes_inside n n' a k (inside_at n n' xs p a inside x) t in
        let same : n ≡ k = end_takes n b k e u in
        omega arith

    in_own : (p q k : ℕ) (a b : Source) → slice_get (with_end n xs) p ≡ Some a → slice_get (with_end n xs) q ≡ Some b
        → TakesOwn a k → TakesOwn b k → p ≡ q
    in_own p q k a b x y t u = by_ends (of_with_end n xs p a x) (of_with_end n xs q b y)
      where
        by_ends : (slice_get xs p ≡ Some a) ⊎ ((p ≡ length xs) × (old n ≡ a)) → (slice_get xs q ≡ Some b) ⊎ ((q ≡ length xs) × (old n ≡ b)) → p ≡ q
        by_ends (inl c) (inl d) = once.own p q k a b c d t u
        by_ends (inl c) (inr d) = absurd (not_end p k a b c t d.1 u)
        by_ends (inr c) (inl d) = absurd (not_end q k b a d u c.1 t)
        by_ends (inr c) (inr d) = c.0 ∙ sym d.0

    in_their : (p q k : ℕ) (a b : Source) → slice_get (with_end n xs) p ≡ Some a → slice_get (with_end n xs) q ≡ Some b
        → TakesTheirs a k → TakesTheirs b k → p ≡ q
    in_their p q k a b x y t u = by_ends (of_with_end n xs p a x) (of_with_end n xs q b y)
      where
        by_ends : (slice_get xs p ≡ Some a) ⊎ ((p ≡ length xs) × (old n ≡ a)) → (slice_get xs q ≡ Some b) ⊎ ((q ≡ length xs) × (old n ≡ b)) → p ≡ q
        by_ends (inl c) (inl d) = once.their p q k a b c d t u
        by_ends (inl c) (inr d) = absurd (end_takes_none n b k d.1 u)
        by_ends (inr c) d = absurd (end_takes_none n a k c.1 t)

-- a new one of these with the end stands among these
pub new_within : (n : ℕ) (xs : List Source) (p : ℕ) (x : Source) → slice_get (with_end n xs) p ≡ Some x → IsNew x → p < length xs
new_within n xs p x h is_new = by_end (of_with_end n xs p x h)
  where
    by_end : (slice_get xs p ≡ Some x) ⊎ ((p ≡ length xs) × (old n ≡ x)) → p < length xs
    by_end (inl a) = get_within xs p x a
    by_end (inr a) = absurd (end_not_new n x a.1 is_new)

-- a place that is taken by these is taken by these with the end
pub still_taken : (n : ℕ) (xs : List Source) (k : ℕ) → IsTaken xs k → IsTaken (with_end n xs) k
still_taken n xs k t = (t.0, t.1, in_with_end n xs t.0 t.1 t.2, t.3)

-- the end is taken by itself
pub end_taken : (n : ℕ) (xs : List Source) → IsTaken (with_end n xs) n
end_taken n xs = (length xs, old n, end_of_these n xs, refl)

-- sources that take nothing of another container give the same whatever that is
pub alone-marks : (renewed : ℕ → Bool) (base : ℕ) (own other : List ℕ) (next n : ℕ) (xs : List Source) → AllInside n 0 xs
    → marks_from renewed base own other next xs ≡ marks_from renewed base own [] next xs
alone-marks renewed base own other next n [] h = refl
alone-marks renewed base own other next n (old k ∷ xs) h =
    ap (λ l. mark_from renewed base own [] next (old k) ∷ l) (alone-marks renewed base own other (next + 1) n xs h.1)
alone-marks renewed base own other next n (written k z ∷ xs) h =
    ap (λ l. mark_from renewed base own [] next (written k z) ∷ l) (alone-marks renewed base own other (next + 1) n xs h.1)
alone-marks renewed base own other next n (theirs k ∷ xs) h = absurd (let low : k < 0 = h.0 in omega arith)
alone-marks renewed base own other next n (new a b ∷ xs) h = ap (λ l. next ∷ l) (alone-marks renewed base own other (next + 1) n xs h.1)

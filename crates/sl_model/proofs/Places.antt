-- Which places the sources of a change take, counted: a change is fair where each place is taken at most once, and each that isn't taken
-- has its marks dropped.
use Rattle.std.proofs.Common.{◌≡◌, ℕ, zero, suc, ◌+◌, ◌<◌, ◌≤◌, ◌==◌, Bool, true, false, List, [], ◌∷◌, Some, length}
use Rattle.std.proofs.Common.{refl, ap, sym, arith, ◌⊎◌, inl, inr, ⊎_elim, if◌then◌else◌, subst}
use Rattle.std.specs.List.{slice_get}
use Rattle.std.proofs.lemmas.Bool.{cases_lt, eqb-true, eq-eqb}
use Rattle.sl_base.specs.declared.limits.TheConstants.{ELEMENTS}
use Rattle.sl_model.specs.Memory.Containers.{Cont, size}
use Rattle.sl_model.specs.Memory.Edits.{Source, old, written, theirs, new, Change}
use Rattle.sl_model.proofs.Columns.{TakesOwn, TakesTheirs, IsInside, AllInside}
use Rattle.sl_model.proofs.ColumnLaws.{IsTaken, IsTakenOver}
use Rattle.sl_model.proofs.After.{IsFair}
use Rattle.sl_model.proofs.AfterTwo.{IsFairSide}

-- 1 where two numbers are one
abbrev pub hit : ℕ → ℕ → ℕ
hit k x = if x == k then 1 else 0

-- how often a number stands among these
abbrev pub times : ℕ → List ℕ → ℕ
times k [] = 0
times k (x ∷ xs) = hit k x + times k xs

-- the places of the container that sources take
abbrev pub own_places : List Source → List ℕ
own_places [] = []
own_places (old k ∷ xs) = k ∷ own_places xs
own_places (written k z ∷ xs) = k ∷ own_places xs
own_places (theirs k ∷ xs) = own_places xs
own_places (new a b ∷ xs) = own_places xs

-- the places of the other container that sources take
abbrev pub their_places : List Source → List ℕ
their_places [] = []
their_places (old k ∷ xs) = their_places xs
their_places (written k z ∷ xs) = their_places xs
their_places (theirs k ∷ xs) = k ∷ their_places xs
their_places (new a b ∷ xs) = their_places xs

-- a number hits itself
pub hit-same : (k x : ℕ) → x ≡ k → hit k x ≡ 1
hit-same k x e = ap (λ (b : Bool). if b then 1 else 0) (eq-eqb x k e)

-- it is a hit at most once
pub hit-most : (k x : ℕ) → hit k x ≤ 1
hit-most k x = elim (x == k) as (λ b. (if b then 1 else 0) ≤ 1) [ true ↦ omega arith | false ↦ omega arith ]

-- where something is hit, it is that
pub hit-is : (k x : ℕ) → 0 < hit k x → x ≡ k
hit-is k x h = by_test (x == k) refl h
  where
    by_test : (b : Bool) → (x == k) ≡ b → 0 < (if b then 1 else 0) → x ≡ k
    by_test true e h = eqb-true x k e
    by_test false e h = absurd (omega arith)

-- a source that takes a place is counted
own_hit : (x : Source) (xs : List Source) (k : ℕ) → TakesOwn x k → times k (own_places (x ∷ xs)) ≡ 1 + times k (own_places xs)
own_hit (old i) xs k t = ap (λ n. n + times k (own_places xs)) (hit-same k i t)
own_hit (written i z) xs k t = ap (λ n. n + times k (own_places xs)) (hit-same k i t)
own_hit (theirs i) xs k t = absurd t
own_hit (new a b) xs k t = absurd t

their_hit : (x : Source) (xs : List Source) (k : ℕ) → TakesTheirs x k → times k (their_places (x ∷ xs)) ≡ 1 + times k (their_places xs)
their_hit (old i) xs k t = absurd t
their_hit (written i z) xs k t = absurd t
their_hit (theirs i) xs k t = ap (λ n. n + times k (their_places xs)) (hit-same k i t)
their_hit (new a b) xs k t = absurd t

-- a source more takes away none
own_more : (x : Source) (xs : List Source) (k : ℕ) → times k (own_places xs) ≤ times k (own_places (x ∷ xs))
own_more (old i) xs k = omega arith
own_more (written i z) xs k = omega arith
own_more (theirs i) xs k = omega arith
own_more (new a b) xs k = omega arith

their_more : (x : Source) (xs : List Source) (k : ℕ) → times k (their_places xs) ≤ times k (their_places (x ∷ xs))
their_more (old i) xs k = omega arith
their_more (written i z) xs k = omega arith
their_more (theirs i) xs k = omega arith
their_more (new a b) xs k = omega arith

-- what is taken is counted
pub own_counted : (xs : List Source) (p k : ℕ) (x : Source) → slice_get xs p ≡ Some x → TakesOwn x k → 0 < times k (own_places xs)
own_counted [] p k x at t = absurd (cc)
own_counted (y ∷ xs) zero k x at t =
    let e : y ≡ x = cc in
    let h : times k (own_places (x ∷ xs)) ≡ 1 + times k (own_places xs) = own_hit x xs k t in
    subst (λ z. 0 < times k (own_places (z ∷ xs))) (sym e) (omega arith)
own_counted (y ∷ xs) (suc p) k x at t =
    let r : 0 < times k (own_places xs) = own_counted xs p k x at t in
    let m : times k (own_places xs) ≤ times k (own_places (y ∷ xs)) = own_more y xs k in
    omega arith

pub their_counted : (xs : List Source) (p k : ℕ) (x : Source) → slice_get xs p ≡ Some x → TakesTheirs x k → 0 < times k (their_places xs)
their_counted [] p k x at t = absurd (cc)
their_counted (y ∷ xs) zero k x at t =
    let e : y ≡ x = cc in
    let h : times k (their_places (x ∷ xs)) ≡ 1 + times k (their_places xs) = their_hit x xs k t in
    subst (λ z. 0 < times k (their_places (z ∷ xs))) (sym e) (omega arith)
their_counted (y ∷ xs) (suc p) k x at t =
    let r : 0 < times k (their_places xs) = their_counted xs p k x at t in
    let m : times k (their_places xs) ≤ times k (their_places (y ∷ xs)) = their_more y xs k in
    omega arith

-- two places that take one count twice
own_twice : (xs : List Source) (p q k : ℕ) (a b : Source) → slice_get xs p ≡ Some a → slice_get xs q ≡ Some b → TakesOwn a k → TakesOwn b k
    → times k (own_places xs) ≤ 1 → p ≡ q
own_twice [] p q k a b x y t u few = absurd (cc)
own_twice (z ∷ xs) zero zero k a b x y t u few = refl
own_twice (z ∷ xs) zero (suc q) k a b x y t u few =
    let e : z ≡ a = cc in
    let h : times k (own_places (z ∷ xs)) ≡ 1 + times k (own_places xs) = own_hit z xs k (subst (λ w. TakesOwn w k) (sym e) t) in
    let r : 0 < times k (own_places xs) = own_counted xs q k b y u in
    absurd (omega arith)
own_twice (z ∷ xs) (suc p) zero k a b x y t u few =
    let e : z ≡ b = cc in
    let h : times k (own_places (z ∷ xs)) ≡ 1 + times k (own_places xs) = own_hit z xs k (subst (λ w. TakesOwn w k) (sym e) u) in
    let r : 0 < times k (own_places xs) = own_counted xs p k a x t in
    absurd (omega arith)
own_twice (z ∷ xs) (suc p) (suc q) k a b x y t u few =
    let m : times k (own_places xs) ≤ times k (own_places (z ∷ xs)) = own_more z xs k in
    ap suc (own_twice xs p q k a b x y t u (omega arith))

their_twice : (xs : List Source) (p q k : ℕ) (a b : Source) → slice_get xs p ≡ Some a → slice_get xs q ≡ Some b → TakesTheirs a k → TakesTheirs b k
    → times k (their_places xs) ≤ 1 → p ≡ q
their_twice [] p q k a b x y t u few = absurd (cc)
their_twice (z ∷ xs) zero zero k a b x y t u few = refl
their_twice (z ∷ xs) zero (suc q) k a b x y t u few =
    let e : z ≡ a = cc in
    let h : times k (their_places (z ∷ xs)) ≡ 1 + times k (their_places xs) = their_hit z xs k (subst (λ w. TakesTheirs w k) (sym e) t) in
    let r : 0 < times k (their_places xs) = their_counted xs q k b y u in
    absurd (omega arith)
their_twice (z ∷ xs) (suc p) zero k a b x y t u few =
    let e : z ≡ b = cc in
    let h : times k (their_places (z ∷ xs)) ≡ 1 + times k (their_places xs) = their_hit z xs k (subst (λ w. TakesTheirs w k) (sym e) u) in
    let r : 0 < times k (their_places xs) = their_counted xs p k a x t in
    absurd (omega arith)
their_twice (z ∷ xs) (suc p) (suc q) k a b x y t u few =
    let m : times k (their_places xs) ≤ times k (their_places (z ∷ xs)) = their_more z xs k in
    ap suc (their_twice xs p q k a b x y t u (omega arith))

-- what is counted is taken
pub own_found : (xs : List Source) (k : ℕ) → 0 < times k (own_places xs) → IsTaken xs k
own_found [] k h = absurd (omega arith)
own_found (x ∷ xs) k h = by_source x h (own_found xs k)
  where
    further : IsTaken xs k → IsTaken (x ∷ xs) k
    further r = (suc r.0, r.1, r.2, r.3)

    by_source : (z : Source) → 0 < times k (own_places (z ∷ xs)) → (0 < times k (own_places xs) → IsTaken xs k) → IsTaken (z ∷ xs) k
    by_source (old i) h rest = by_hit (cases_lt 0 (hit k i))
      where
        by_hit : (0 < hit k i) ⊎ (hit k i ≤ 0) → IsTaken (old i ∷ xs) k
        by_hit (inl a) = (0, old i, refl, hit-is k i a)
        by_hit (inr b) = let r = rest (omega arith) in (suc r.0, r.1, r.2, r.3)
    by_source (written i y) h rest = by_hit (cases_lt 0 (hit k i))
      where
        by_hit : (0 < hit k i) ⊎ (hit k i ≤ 0) → IsTaken (written i y ∷ xs) k
        by_hit (inl a) = (0, written i y, refl, hit-is k i a)
        by_hit (inr b) = let r = rest (omega arith) in (suc r.0, r.1, r.2, r.3)
    by_source (theirs i) h rest = let r = rest h in (suc r.0, r.1, r.2, r.3)
    by_source (new a b) h rest = let r = rest h in (suc r.0, r.1, r.2, r.3)

pub their_found : (xs : List Source) (k : ℕ) → 0 < times k (their_places xs) → IsTakenOver xs k
their_found [] k h = absurd (omega arith)
their_found (x ∷ xs) k h = by_source x h (their_found xs k)
  where
    by_source : (z : Source) → 0 < times k (their_places (z ∷ xs)) → (0 < times k (their_places xs) → IsTakenOver xs k) → IsTakenOver (z ∷ xs) k
    by_source (old i) h rest = let r = rest h in (suc r.0, r.1, r.2, r.3)
    by_source (written i y) h rest = let r = rest h in (suc r.0, r.1, r.2, r.3)
    by_source (theirs i) h rest = by_hit (cases_lt 0 (hit k i))
      where
        by_hit : (0 < hit k i) ⊎ (hit k i ≤ 0) → IsTakenOver (theirs i ∷ xs) k
        by_hit (inl a) = (0, theirs i, refl, hit-is k i a)
        by_hit (inr b) = let r = rest (omega arith) in (suc r.0, r.1, r.2, r.3)
    by_source (new a b) h rest = let r = rest h in (suc r.0, r.1, r.2, r.3)

-- sources whose counted places lie inside lie inside
inside_by : (n n' : ℕ) (xs : List Source) → ((k : ℕ) → n ≤ k → times k (own_places xs) ≡ 0) → ((k : ℕ) → n' ≤ k → times k (their_places xs) ≡ 0)
    → AllInside n n' xs
inside_by n n' [] own their = tt
inside_by n n' (x ∷ xs) own their = (
  by_source x own their,
  inside_by n n' xs
      (λ k h. let m : times k (own_places xs) ≤ times k (own_places (x ∷ xs)) = own_more x xs k in
      let z : times k (own_places (x ∷ xs)) ≡ 0 = own k h in omega arith)
      (λ k h. let m : times k (their_places xs) ≤ times k (their_places (x ∷ xs)) = their_more x xs k in
      let z : times k (their_places (x ∷ xs)) ≡ 0 = their k h in omega arith),
)
  where
    below_own : (i : ℕ) → ((k : ℕ) → n ≤ k → hit k i + times k (own_places xs) ≡ 0) → i < n
    below_own i o = ⊎_elim (λ (low : i < n). low)
        (λ (high : n ≤ i). let z : hit i i + times i (own_places xs) ≡ 0 = o i high in let h : hit i i ≡ 1 = hit-same i i refl in absurd (omega arith))
        (cases_lt i n)

    below_their : (i : ℕ) → ((k : ℕ) → n' ≤ k → hit k i + times k (their_places xs) ≡ 0) → i < n'
    below_their i o = ⊎_elim (λ (low : i < n'). low)
        (λ (high : n' ≤ i). let z : hit i i + times i (their_places xs) ≡ 0 = o i high in let h : hit i i ≡ 1 = hit-same i i refl in absurd (omega arith))
        (cases_lt i n')

    by_source : (z : Source) → ((k : ℕ) → n ≤ k → times k (own_places (z ∷ xs)) ≡ 0) → ((k : ℕ) → n' ≤ k → times k (their_places (z ∷ xs)) ≡ 0)
        → IsInside n n' z
    by_source (old i) o t = below_own i o
    by_source (written i y) o t = below_own i o
    by_source (theirs i) o t = below_their i t
    by_source (new a b) o t = tt

-- What the counts of a change of a container alone have to be.
pub record CountsFair (c : Cont) (ch : Change) : Type 0 where
  pub most : (k : ℕ) → times k (own_places ch.sources) ≤ 1
  pub none : (k : ℕ) → size c ≤ k → times k (own_places ch.sources) ≡ 0
  pub alone : (k : ℕ) → times k (their_places ch.sources) ≡ 0
  pub dies : (k : ℕ) → k < size c → times k (own_places ch.sources) ≡ 0 → (ch.kill k ≡ true) × (ch.lose k ≡ true)
  pub few : length ch.sources ≤ ELEMENTS

-- such a change is fair
pub counts-fair : (c : Cont) (ch : Change) → CountsFair c ch → IsFair c ch
counts-fair c ch f = record {
  inside = inside_by (size c) 0 ch.sources f.none (λ k h. f.alone k);
  once = record {
    own = λ p q k a b x y t u. own_twice ch.sources p q k a b x y t u (f.most k);
    their = λ p q k a b x y t u. their_twice ch.sources p q k a b x y t u (let z : times k (their_places ch.sources) ≡ 0 = f.alone k in omega arith);
  };
  taken = λ k low. by_count k low (cases_lt 0 (times k (own_places ch.sources)));
  few = f.few;
}
  where
    by_count : (k : ℕ) → k < size c → (0 < times k (own_places ch.sources)) ⊎ (times k (own_places ch.sources) ≤ 0)
        → IsTaken ch.sources k ⊎ ((ch.kill k ≡ true) × (ch.lose k ≡ true))
    by_count k low (inl a) = inl (own_found ch.sources k a)
    by_count k low (inr b) = inr (f.dies k low (omega arith))

-- What the counts of one of two changes have to be that exchange elements.
pub record CountsFairSide (c d : Cont) (ch dh : Change) : Type 0 where
  pub most : (k : ℕ) → times k (own_places ch.sources) + times k (their_places dh.sources) ≤ 1
  pub none : (k : ℕ) → size c ≤ k → times k (own_places ch.sources) + times k (their_places dh.sources) ≡ 0
  pub dies : (k : ℕ) → k < size c → times k (own_places ch.sources) + times k (their_places dh.sources) ≡ 0
      → (ch.kill k ≡ true) × (ch.lose k ≡ true)
  pub lives : (k : ℕ) → 0 < times k (their_places dh.sources) → (ch.kill k ≡ false) × (ch.lose k ≡ false)
  pub few : length ch.sources ≤ ELEMENTS

-- two such changes are a fair side each
pub counts-fair_side : (c d : Cont) (ch dh : Change) → CountsFairSide c d ch dh → CountsFairSide d c dh ch → IsFairSide c d ch dh
counts-fair_side c d ch dh f g = record {
  inside = inside_by (size c) (size d) ch.sources
      (λ k h. let z : times k (own_places ch.sources) + times k (their_places dh.sources) ≡ 0 = f.none k h in omega arith)
      (λ k h. let z : times k (own_places dh.sources) + times k (their_places ch.sources) ≡ 0 = g.none k h in omega arith);
  once = record {
    own = λ p q k a b x y t u. own_twice ch.sources p q k a b x y t u
        (let z : times k (own_places ch.sources) + times k (their_places dh.sources) ≤ 1 = f.most k in omega arith);
    their = λ p q k a b x y t u. their_twice ch.sources p q k a b x y t u
        (let z : times k (own_places dh.sources) + times k (their_places ch.sources) ≤ 1 = g.most k in omega arith);
  };
  by_one = λ p q k a b x y t u.
      let v : 0 < times k (own_places ch.sources) = own_counted ch.sources p k a x t in
      let w : 0 < times k (their_places dh.sources) = their_counted dh.sources q k b y u in
      let z : times k (own_places ch.sources) + times k (their_places dh.sources) ≤ 1 = f.most k in
      omega arith;
  lives = λ k t. g.lives k (their_counted ch.sources t.0 k t.1 t.2 t.3);
  goes = λ k low. by_count k low (cases_lt 0 (times k (own_places ch.sources))) (cases_lt 0 (times k (their_places dh.sources)));
  few = f.few;
}
  where
    by_count : (k : ℕ) → k < size c → (0 < times k (own_places ch.sources)) ⊎ (times k (own_places ch.sources) ≤ 0)
        → (0 < times k (their_places dh.sources)) ⊎ (times k (their_places dh.sources) ≤ 0)
        → IsTaken ch.sources k ⊎ (IsTakenOver dh.sources k ⊎ ((ch.kill k ≡ true) × (ch.lose k ≡ true)))
    by_count k low (inl a) t = inl (own_found ch.sources k a)
    by_count k low (inr b) (inl a) = inr (inl (their_found dh.sources k a))
    by_count k low (inr b) (inr a) = inr (inr (f.dies k low (omega arith)))

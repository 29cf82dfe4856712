-- One walk over two ascending lists counts what one leaves of the other.
use Rattle.std.proofs.Common.{◌≡◌, ℕ, ℤ, ◌+◌, ◌-◌, Bool, ◌&&◌, ◌||◌, true, false, List, [], ◌∷◌, length, refl, ap, sym, ◌∙◌, subst, inl, inr, ◌⊎◌, arith, if◌then◌else◌}
use Rattle.std.specs.Prelude.{int_lt, int_le}
use Rattle.std.proofs.lemmas.Int.{ints}
use Rattle.sl_model.specs.Memory.Orders.{same, is_ascending, has, without, minus}
use Rattle.sl_needs.specs.Means.Merging.{from_key, starts_with, behind_key, missed, left_over}

-- of three numbers
below_all : (y x z : ℤ) (rest : Bool) → int_lt y x ≡ true → (int_le x z && rest) ≡ true → int_lt y z ≡ true
below_all y x z rest l a = grind (arith, ints)

-- a lesser number isn't the same
not_same : (y x : ℤ) → int_lt y x ≡ true → same x y ≡ false
not_same y x l = grind (arith, ints)

not_same' : (y x : ℤ) → int_lt x y ≡ true → same x y ≡ false
not_same' y x l = grind (arith, ints)

-- what is neither less nor the same is greater
greater : (x y : ℤ) → int_lt y x ≡ false → same x y ≡ false → int_lt x y ≡ true
greater x y l e = grind (arith, ints)

-- what is behind the first ascends
tail_ascends : (x : ℤ) (xs : List ℤ) → is_ascending (x ∷ xs) ≡ true → is_ascending xs ≡ true
tail_ascends x [] a = refl
tail_ascends x (y ∷ ys) a = grind arith

-- behind itself
doubled_ascends : (x : ℤ) (xs : List ℤ) → is_ascending (x ∷ xs) ≡ true → is_ascending (x ∷ x ∷ xs) ≡ true
doubled_ascends x xs a = grind (arith, ints)

-- a number below all takes none away
takes_none : (y x : ℤ) (xs ys : List ℤ) → int_lt y x ≡ true → is_ascending (x ∷ xs) ≡ true → minus xs (y ∷ ys) ≡ minus xs ys
takes_none y x [] ys l a = refl
takes_none y x (z ∷ zs) ys l a =
    let less : int_lt y z ≡ true = below_all y x z (is_ascending (z ∷ zs)) l a in
    let ascend : is_ascending (z ∷ zs) ≡ true = tail_ascends x (z ∷ zs) a in
    ap (λ (s : Bool). elim (s || has z ys) as (λ _. List ℤ) [ true ↦ minus zs (if s then ys else y ∷ without z ys) | false ↦ z ∷ minus zs (y ∷ ys) ])
    (not_same y z less)
    ∙ by_has (has z ys) (takes_none y z zs (without z ys) less ascend) (takes_none y z zs ys less ascend)
  where
    by_has : (b : Bool) → minus zs (y ∷ without z ys) ≡ minus zs (without z ys) → minus zs (y ∷ ys) ≡ minus zs ys
        → (elim b as (λ _. List ℤ) [ true ↦ minus zs (y ∷ without z ys) | false ↦ z ∷ minus zs (y ∷ ys) ])
        ≡ (elim b as (λ _. List ℤ) [ true ↦ minus zs (without z ys) | false ↦ z ∷ minus zs ys ])
    by_has true e f = e
    by_has false e f = ap (λ (r : List ℤ). z ∷ r) f

-- those below all take none away
near_same : (x : ℤ) (xs ys : List ℤ) → is_ascending (x ∷ xs) ≡ true → minus xs ys ≡ minus xs (from_key x ys)
near_same x xs [] a = refl
near_same x xs (y ∷ ys) a = by_less (int_lt y x) refl (near_same x xs ys a)
  where
    by_less : (b : Bool) → int_lt y x ≡ b → minus xs ys ≡ minus xs (from_key x ys)
        → minus xs (y ∷ ys) ≡ minus xs (if b then from_key x ys else y ∷ ys)
    by_less true e ih = takes_none y x xs ys e a ∙ ih
    by_less false e ih = refl

-- what is from a key on ascends
near_ascends : (x : ℤ) (ys : List ℤ) → is_ascending ys ≡ true → is_ascending (from_key x ys) ≡ true
near_ascends x [] a = refl
near_ascends x (y ∷ ys) a = by_less (int_lt y x) (near_ascends x ys (tail_ascends y ys a))
  where
    by_less : (b : Bool) → is_ascending (from_key x ys) ≡ true → is_ascending (if b then from_key x ys else y ∷ ys) ≡ true
    by_less true ih = ih
    by_less false ih = a

-- none is below the key
near_first : (x y : ℤ) (ys zs : List ℤ) → from_key x ys ≡ y ∷ zs → int_lt y x ≡ false
near_first x y [] zs e = absurd (let q : [] ≡ y ∷ zs = e in cc)
near_first x y (w ∷ ws) zs e = by_less (int_lt w x) refl (near_first x y ws zs) e
  where
    by_less : (b : Bool) → int_lt w x ≡ b → (from_key x ws ≡ y ∷ zs → int_lt y x ≡ false)
        → (if b then from_key x ws else w ∷ ws) ≡ y ∷ zs → int_lt y x ≡ false
    by_less true p ih q = ih q
    by_less false p ih q = let r : w ≡ y = cc in ap (λ (v : ℤ). int_lt v x) (sym r) ∙ p

-- a number below the first isn't behind it
not_behind : (x y : ℤ) (ys : List ℤ) → int_lt x y ≡ true → is_ascending (y ∷ ys) ≡ true → has x ys ≡ false
not_behind x y [] l a = refl
not_behind x y (z ∷ zs) l a =
    let less : int_lt x z ≡ true = below_all x y z (is_ascending (z ∷ zs)) l a in
    ap (λ (s : Bool). s || has x zs) (not_same' z x less) ∙ not_behind x z zs less (tail_ascends y (z ∷ zs) a)

-- the walk counts what is left
pub left_counts : (xs ys : List ℤ) → is_ascending xs ≡ true → is_ascending ys ≡ true → left_over xs ys ≡ length (minus xs ys)
left_counts [] ys a b = refl
left_counts (x ∷ xs) ys a b =
    by_near (λ zs c. left_counts xs zs (tail_ascends x xs a) c) (from_key x ys) refl
    ∙ ap length (sym (near_same x (x ∷ xs) ys (doubled_ascends x xs a)))
  where
    by_same : (y : ℤ) (zs : List ℤ) → left_over xs zs ≡ length (minus xs zs) → left_over xs (y ∷ zs) ≡ length (minus xs (y ∷ zs))
        → (s : Bool) → (s ≡ false → has x zs ≡ false)
        → (if s then 0 else 1) + left_over xs (if s then zs else y ∷ zs)
        ≡ length (elim (s || has x zs) as (λ _. List ℤ) [ true ↦ minus xs (if s then zs else y ∷ without x zs) | false ↦ x ∷ minus xs (y ∷ zs) ])
    by_same y zs e f true g = omega (arith, e)
    by_same y zs e f false g =
        let n : 1 + left_over xs (y ∷ zs) ≡ length (x ∷ minus xs (y ∷ zs)) = omega (arith, f) in
        n ∙ ap (λ (h : Bool). length (elim h as (λ _. List ℤ) [ true ↦ minus xs (y ∷ without x zs) | false ↦ x ∷ minus xs (y ∷ zs) ])) (sym (g refl))

    by_near : ((zs : List ℤ) → is_ascending zs ≡ true → left_over xs zs ≡ length (minus xs zs)) → (zs : List ℤ) → from_key x ys ≡ zs
        → missed x zs + left_over xs (behind_key x zs) ≡ length (minus (x ∷ xs) zs)
    by_near ih [] e = let f = ih [] refl in omega (arith, f)
    by_near ih (y ∷ zs) e =
        let ascend : is_ascending (y ∷ zs) ≡ true = ap is_ascending (sym e) ∙ near_ascends x ys b in
        by_same y zs (ih zs (tail_ascends y zs ascend)) (ih (y ∷ zs) ascend) (same x y)
        (λ q. not_behind x y zs (greater x y (near_first x y ys zs e) q) ascend)

-- these are some of those, in their order
abbrev IsKept : List ℤ → List ℤ → Type 0
IsKept es [] = es ≡ []
IsKept es (x ∷ xs) = IsKept es xs ⊎ ((ds : List ℤ) × (es ≡ x ∷ ds) × IsKept ds xs)

-- what is left is kept
minus_kept : (xs ys : List ℤ) → IsKept (minus xs ys) xs
minus_kept [] ys = refl
minus_kept (x ∷ xs) ys = by_has (has x ys) (minus_kept xs (without x ys)) (minus_kept xs ys)
  where
    by_has : (b : Bool) → IsKept (minus xs (without x ys)) xs → IsKept (minus xs ys) xs
        → IsKept (elim b as (λ _. List ℤ) [ true ↦ minus xs (without x ys) | false ↦ x ∷ minus xs ys ]) (x ∷ xs)
    by_has true d e = inl d
    by_has false d e = inr (minus xs ys, refl, e)

-- without one more
without_kept : (x : ℤ) (es xs : List ℤ) → IsKept es xs → IsKept (without x es) xs
without_kept x es [] e = ap (without x) e
without_kept x es (y ∷ ys) (inl d) = inl (without_kept x es ys d)
without_kept x es (y ∷ ys) (inr (ds, e, d)) =
    subst (λ (l : List ℤ). IsKept (without x l) (y ∷ ys)) (sym e) (by_same (same x y) d (without_kept x ds ys d))
  where
    by_same : (b : Bool) → IsKept ds ys → IsKept (without x ds) ys → IsKept (if b then ds else y ∷ without x ds) (y ∷ ys)
    by_same true d f = inl d
    by_same false d f = inr (without x ds, refl, f)

-- one that is there is taken away
without_one : (x : ℤ) (es : List ℤ) → has x es ≡ true → length (without x es) + 1 ≡ length es
without_one x [] h = absurd (let q : false ≡ true = h in cc)
without_one x (y ∷ ys) h = by_same (same x y) h (without_one x ys)
  where
    by_same : (b : Bool) → (b || has x ys) ≡ true → (has x ys ≡ true → length (without x ys) + 1 ≡ length ys)
        → length (if b then ys else y ∷ without x ys) + 1 ≡ length (y ∷ ys)
    by_same true h ih = omega arith
    by_same false h ih = let e = ih h in omega (arith, e)

-- a number is the same as itself
itself : (x : ℤ) → same x x ≡ true
itself x = grind (arith, ints)

-- what is kept and what it leaves are all
kept_counts : (xs es : List ℤ) → IsKept es xs → length (minus xs es) + length es ≡ length xs
kept_counts [] es e = let n : length es ≡ 0 = ap length e in omega (arith, n)
kept_counts (x ∷ xs) es (inl d) = by_has (has x es) refl (kept_counts xs (without x es) (without_kept x es xs d)) (kept_counts xs es d)
  where
    by_has : (b : Bool) → has x es ≡ b → length (minus xs (without x es)) + length (without x es) ≡ length xs
        → length (minus xs es) + length es ≡ length xs
        → length (elim b as (λ _. List ℤ) [ true ↦ minus xs (without x es) | false ↦ x ∷ minus xs es ]) + length es ≡ length (x ∷ xs)
    by_has true h e f = let n = without_one x es h in omega (arith, e, n)
    by_has false h e f = omega (arith, f)
kept_counts (x ∷ xs) es (inr (ds, e, d)) =
    let n = kept_counts xs ds d in
    let m : length (minus xs ds) + length (x ∷ ds) ≡ length (x ∷ xs) = omega (arith, n) in
    subst (λ (l : List ℤ). length (minus (x ∷ xs) l) + length l ≡ length (x ∷ xs)) (sym e)
    (ap (λ (s : Bool). length (elim (s || has x ds) as (λ _. List ℤ) [ true ↦ minus xs (if s then ds else x ∷ without x ds) | false ↦ x ∷ minus xs (x ∷ ds) ])
    + length (x ∷ ds)) (itself x) ∙ m)

-- what both lists have
pub both_count : (xs ys : List ℤ) → is_ascending xs ≡ true → is_ascending ys ≡ true
    → length xs - left_over xs ys ≡ length (minus xs (minus xs ys))
both_count xs ys a b =
    let n = kept_counts xs (minus xs ys) (minus_kept xs ys) in
    let m = left_counts xs ys a b in
    omega (arith, n, m)

-- Sites in ascending order, and the sites of a set.
use Rattle.std.proofs.Common.{arith, ◌≡◌, ◌≢◌, ℕ, zero, suc, ◌+◌, ◌-◌, ◌<◌, ◌≤◌, ◌||◌, ◌==◌, Bool, true, false, cond, List, [], ◌∷◌, ◌++◌}
use Rattle.std.proofs.Common.{append_assoc, filter, refl, sym, ap, subst, ◌∙◌, ⊎_elim}
use Rattle.std.specs.Prelude.{Contains, if◌then◌else◌}
use Rattle.std.specs.Ordering.{nat_cmp}
use Rattle.std.specs.Cmp.{nat_cmp_is, ranked}
use Rattle.std.specs.declared.cmp.Ordering.TheVariants.{Less, Equal, Greater}
use Rattle.std.proofs.lemmas.Bool.{cases_eq, eq-eqb, ne_eqb}
use Rattle.std.proofs.lemmas.List.{append-nil}
use Rattle.std.proofs.Math.Bool.{or-true, or-false}
use Rattle.sl_base.specs.declared.limits.TheConstants.{SITES}
use Rattle.sl_kind.specs.declared.kills.Kills.{Kills}
use Rattle.sl_kind.specs.Kills.{has}
use Rattle.sl_kind.proofs.Sets.{has-site}
use Rattle.sl_model.specs.Memory.Edits.{numbers}
use Rattle.sl_warnings.specs.Reports.{inserted, joined}
use Rattle.sl_warnings.specs.Views.{sites_in}
use Rattle.sl_warnings.proofs.Adding.{by_order}

-- a site goes behind a lesser one
inserted-less : (site s : ℕ) (ss : List ℕ) → s < site → inserted site (s ∷ ss) ≡ s ∷ inserted site ss
inserted-less site s ss h = rw (sym (nat_cmp_is s site Less h), inserted) refl

-- a site that is there is put in no second time
inserted-equal : (site s : ℕ) (ss : List ℕ) → s ≡ site → inserted site (s ∷ ss) ≡ s ∷ ss
inserted-equal site s ss h = rw (sym (nat_cmp_is s site Equal h), inserted) refl

-- a site goes before a greater one
inserted-greater : (site s : ℕ) (ss : List ℕ) → site < s → inserted site (s ∷ ss) ≡ site ∷ s ∷ ss
inserted-greater site s ss h = rw (sym (nat_cmp_is s site Greater h), inserted) refl

-- two tests that agree on these numbers
filter-alike : (p q : ℕ → Bool) (i n : ℕ) → ((s : ℕ) → i ≤ s → s < i + n → p s ≡ q s) → filter p (numbers i n) ≡ filter q (numbers i n)
filter-alike p q i zero h = refl
filter-alike p q i (suc n) h =
    let rest = filter-alike p q (i + 1) n (λ s low high. h s (omega arith) (omega arith)) in
    rw (h i (omega arith) (omega arith), rest) refl

-- a number below all
inserted-first : (p : ℕ → Bool) (y i n : ℕ) → y < i → inserted y (filter p (numbers i n)) ≡ y ∷ filter p (numbers i n)
inserted-first p y i zero h = refl
inserted-first p y i (suc n) h =
    let rest = filter p (numbers (i + 1) n) in
    elim (p i) as (λ b. inserted y (cond b (i ∷ rest) rest) ≡ y ∷ cond b (i ∷ rest) rest)
    [ true ↦ inserted-greater y i rest h | false ↦ inserted-first p y (i + 1) n (omega arith) ]

-- the numbers that pass a test, and one more
more : ℕ → (ℕ → Bool) → ℕ → Bool
more y p s = (s == y) || p s

-- a test that is passed by one number more is passed by that number
more-same : (y : ℕ) (p : ℕ → Bool) (s : ℕ) → s ≡ y → more y p s ≡ true
unfolding more
more-same y p s e = rw (eq-eqb s y e) refl

-- and else by those that passed it
more-other : (y : ℕ) (p : ℕ → Bool) (s : ℕ) → s ≢ y → more y p s ≡ p s
unfolding more
more-other y p s ne = rw (ne_eqb s y ne) refl

-- a site before all others of a run of numbers
inserted-here : (p : ℕ → Bool) (y n : ℕ) → inserted y (filter p (numbers y (suc n))) ≡ y ∷ filter p (numbers (y + 1) n)
inserted-here p y n =
    let rest = filter p (numbers (y + 1) n) in
    elim (p y) as (λ b. inserted y (cond b (y ∷ rest) rest) ≡ y ∷ rest)
    [ true ↦ inserted-equal y y rest refl | false ↦ inserted-first p y (y + 1) n (omega arith) ]

-- a number more among those that pass a test
inserted-filter : (p : ℕ → Bool) (y i n : ℕ) → i ≤ y → y < i + n → inserted y (filter p (numbers i n)) ≡ filter (more y p) (numbers i n)
inserted-filter p y i zero low high = absurd (omega arith)
inserted-filter p y i (suc n) low high = ⊎_elim
    (λ (here : i ≡ y).
    let rest = filter-alike (more y p) p (i + 1) n (λ s from to. more-other y p s (let e : s ≢ y = omega arith in e)) in
    rw (more-same y p i here, rest, here) (inserted-here p y n))
    (λ (below : i ≢ y).
    let rest = inserted-filter p y (i + 1) n (omega arith) (omega arith) in
    let tail = filter p (numbers (i + 1) n) in
    rw (more-other y p i below, sym rest)
    (elim (p i) as (λ b. inserted y (cond b (i ∷ tail) tail) ≡ cond b (i ∷ inserted y tail) (inserted y tail))
    [ true ↦ inserted-less y i tail (omega arith) | false ↦ refl ]))
    (cases_eq i y)

-- r has what p has, and from i on what q has too
record Gains (p q r : ℕ → Bool) (i end : ℕ) : Type 0 where
  below : (s : ℕ) → s < i → r s ≡ p s
  above : (s : ℕ) → i ≤ s → s < end → r s ≡ (p s || q s)

-- a site that the second set has is gained
gains-has : (p q r : ℕ → Bool) (i end : ℕ) → i < end → q i ≡ true → Gains p q r i end → Gains (more i p) q r (i + 1) end
gains-has p q r i end lt is g = record {
  below = λ s h. ⊎_elim
      (λ (same : s ≡ i). rw (same, g.above i (omega arith) lt, is, more-same i p i refl) (or-true (p i)))
      (λ (other : s ≢ i). g.below s (omega arith) ∙ sym (more-other i p s other))
      (cases_eq s i);
  above = λ s low high. rw (more-other i p s (omega arith)) (g.above s (omega arith) high);
}

-- where the second set lacks the next site, nothing is gained there
gains-lacks : (p q r : ℕ → Bool) (i end : ℕ) → i < end → q i ≡ false → Gains p q r i end → Gains p q r (i + 1) end
gains-lacks p q r i end lt no_site g = record {
  below = λ s h. ⊎_elim
      (λ (same : s ≡ i). rw (same, g.above i (omega arith) lt, no_site) (or-false (p i)))
      (λ (other : s ≢ i). g.below s (omega arith))
      (cases_eq s i);
  above = λ s low high. g.above s (omega arith) high;
}

-- by the two answers of a test
by_answer : (b : Bool) (P : Bool → Type 0) → (b ≡ true → P true) → (b ≡ false → P false) → P b
by_answer true P f g = f refl
by_answer false P f g = g refl

-- the numbers that pass either of two tests
joined-filter : (q r : ℕ → Bool) (end n i : ℕ) (p : ℕ → Bool) → i + n ≡ end → Gains p q r i end
    → joined (filter p (numbers 0 end)) (filter q (numbers i n)) ≡ filter r (numbers 0 end)
joined-filter q r end zero i p e g = filter-alike p r 0 end (λ s low high. sym (g.below s (omega arith)))
joined-filter q r end (suc n) i p e g =
    let tail = filter q (numbers (i + 1) n) in
    let goal : Bool → Type 0 = λ b. joined (filter p (numbers 0 end)) (cond b (i ∷ tail) tail) ≡ filter r (numbers 0 end) in
    by_answer (q i) goal
    (λ h. ap (λ l. joined l tail) (inserted-filter p i 0 end (omega arith) (omega arith))
    ∙ joined-filter q r end n (i + 1) (more i p) (omega arith) (gains-has p q r i end (omega arith) h g))
    (λ h. joined-filter q r end n (i + 1) p (omega arith) (gains-lacks p q r i end (omega arith) h g))

-- the sites of two sets together
pub sites_in-either : (k a b : Kills) → ((s : ℕ) → has k s ≡ (has a s || has b s)) → sites_in k ≡ joined (sites_in a) (sites_in b)
unfolding sites_in
sites_in-either k a b h =
    sym (joined-filter (has b) (has k) SITES SITES 0 (has a) refl (record { below = λ s lt. absurd (omega arith); above = λ s low high. h s }))

-- what a list has, it has with one item more in front
pub Contains-cons : (x y : ℕ) (xs : List ℕ) → Contains xs y → Contains (x ∷ xs) y
Contains-cons x y xs h = (suc h.0, let lt = h.1 in omega arith, h.2)

-- a list has its first item
Contains-head : (x : ℕ) (xs : List ℕ) → Contains (x ∷ xs) x
Contains-head x xs = (0, omega arith, refl)

-- what the others keep when a site is put in, the list keeps
inserted_tail : (x y s : ℕ) (xs : List ℕ) → (Contains xs s → Contains (inserted y xs) s) → Contains (x ∷ xs) s → Contains (x ∷ inserted y xs) s
inserted_tail x y s xs tail (zero, lt, e) = (0, omega arith, e)
inserted_tail x y s xs tail (suc k, lt, e) = Contains-cons x s (inserted y xs) (tail (k, omega arith, e))

-- what is among some sites is among them and others
inserted-old : (y s : ℕ) (xs : List ℕ) → Contains xs s → Contains (inserted y xs) s
inserted-old y s [] h = absurd (let lt = h.1 in omega arith)
inserted-old y s (x ∷ xs) h =
    let tail : Contains (x ∷ inserted y xs) s = inserted_tail x y s xs (λ k. inserted-old y s xs k) h in
    by_order (Contains (inserted y (x ∷ xs)) s) (nat_cmp x y)
    (λ less. subst (λ l. Contains l s) (sym (inserted-less y x xs (ranked x y Less (sym less)))) tail)
    (λ same. subst (λ l. Contains l s) (sym (inserted-equal y x xs (ranked x y Equal (sym same)))) h)
    (λ greater. subst (λ l. Contains l s) (sym (inserted-greater y x xs (ranked x y Greater (sym greater)))) (Contains-cons y s (x ∷ xs) h))

-- a site that was put in is there
inserted-new : (y : ℕ) (xs : List ℕ) → Contains (inserted y xs) y
inserted-new y [] = Contains-head y []
inserted-new y (x ∷ xs) = by_order (Contains (inserted y (x ∷ xs)) y) (nat_cmp x y)
    (λ less. subst (λ l. Contains l y) (sym (inserted-less y x xs (ranked x y Less (sym less))))
    (Contains-cons x y (inserted y xs) (inserted-new y xs)))
    (λ same.
    let e : x ≡ y = ranked x y Equal (sym same) in
    subst (λ l. Contains l y) (sym (inserted-equal y x xs e)) (subst (λ z. Contains (z ∷ xs) y) (sym e) (Contains-head y xs)))
    (λ greater. subst (λ l. Contains l y) (sym (inserted-greater y x xs (ranked x y Greater (sym greater)))) (Contains-head y (x ∷ xs)))

-- what the first list has, the two have together
pub joined-first : (s : ℕ) (xs ys : List ℕ) → Contains xs s → Contains (joined xs ys) s
joined-first s xs [] h = h
joined-first s xs (y ∷ ys) h = joined-first s (inserted y xs) ys (inserted-old y s xs h)

-- what the second list has, the two have together
pub joined-second : (s : ℕ) (xs ys : List ℕ) → Contains ys s → Contains (joined xs ys) s
joined-second s xs [] h = absurd (let lt = h.1 in omega arith)
joined-second s xs (y ∷ ys) (zero, lt, e) = joined-first s (inserted y xs) ys (subst (Contains (inserted y xs)) e (inserted-new y xs))
joined-second s xs (y ∷ ys) (suc k, lt, e) = joined-second s (inserted y xs) ys (k, omega arith, e)

-- a site of the set is among them
filter-has : (p : ℕ → Bool) (s i n : ℕ) → p s ≡ true → i ≤ s → s < i + n → Contains (filter p (numbers i n)) s
filter-has p s i zero h low high = absurd (omega arith)
filter-has p s i (suc n) h low high = ⊎_elim
    (λ (here : i ≡ s). rw (here, h) (Contains-head s (filter p (numbers (s + 1) n))))
    (λ (below : i ≢ s).
    let rest = filter-has p s (i + 1) n h (omega arith) (omega arith) in
    let tail = filter p (numbers (i + 1) n) in
    elim (p i) as (λ b. Contains (cond b (i ∷ tail) tail) s) [ true ↦ Contains-cons i s tail rest | false ↦ rest ])
    (cases_eq i s)

-- a site of a set is among its sites
pub sites_in-has : (k : Kills) (s : ℕ) → has k s ≡ true → Contains (sites_in k) s
unfolding sites_in
sites_in-has k s h = filter-has (has k) s 0 SITES h (omega arith) (has-site k s h)

-- what is in a list with one in front
in_front : (p : ℕ → Bool) (x s : ℕ) (xs : List ℕ) → p x ≡ true → (Contains xs s → p s ≡ true) → Contains (x ∷ xs) s → p s ≡ true
in_front p x s xs h rest (zero, lt, e) = ap p (sym e) ∙ h
in_front p x s xs h rest (suc k, lt, e) = rest (k, omega arith, e)

-- what passed a test through a filter passes it
has-filter : (p : ℕ → Bool) (s i n : ℕ) → Contains (filter p (numbers i n)) s → p s ≡ true
has-filter p s i zero h = absurd (let lt = h.1 in omega arith)
has-filter p s i (suc n) h =
    let tail = filter p (numbers (i + 1) n) in
    let goal : Bool → Type 0 = λ b. Contains (cond b (i ∷ tail) tail) s → p s ≡ true in
    by_answer (p i) goal (λ e c. in_front p i s tail e (λ t. has-filter p s (i + 1) n t) c) (λ e c. has-filter p s (i + 1) n c) h

-- and nothing else is
pub has-sites_in : (k : Kills) (s : ℕ) → Contains (sites_in k) s → has k s ≡ true
unfolding sites_in
has-sites_in k s h = has-filter (has k) s 0 SITES h

-- the sites of a set from a number on
unfoldable pub sites_from : Kills → ℕ → List ℕ
sites_from k i = filter (has k) (numbers i (SITES - i))

-- the sites from 0 on are all
pub sites_from-start : (k : Kills) → sites_from k 0 ≡ sites_in k
unfolding sites_from sites_in
sites_from-start k = ap (λ n. filter (has k) (numbers 0 n)) (let e : SITES - 0 ≡ SITES = omega arith in e)

-- the sites from a number on: that one, if it is there, and those from the next on
pub sites_from-next : (k : Kills) (i : ℕ) → i < SITES → sites_from k i ≡ cond (has k i) (i ∷ sites_from k (i + 1)) (sites_from k (i + 1))
unfolding sites_from
sites_from-next k i h = ap (λ n. filter (has k) (numbers i n)) (let e : SITES - i ≡ suc (SITES - (i + 1)) = omega arith in e)

-- there is no site behind the last number
pub sites_from-end : (k : Kills) (i : ℕ) → SITES ≤ i → sites_from k i ≡ []
unfolding sites_from
sites_from-end k i h = ap (λ n. filter (has k) (numbers i n)) (let e : SITES - i ≡ 0 = omega arith in e)

-- one site more, where the set has it
pub sites_from-step : (k : Kills) (i : ℕ) (before all : List ℕ) → i < SITES → before ++ sites_from k i ≡ all
    → (before ++ (if has k i then i ∷ [] else [])) ++ sites_from k (i + 1) ≡ all
sites_from-step k i before all lt e =
    let rest = sites_from k (i + 1) in
    append_assoc before (if has k i then i ∷ [] else []) rest
    ∙ ap (λ l. before ++ l) (split (has k i) i rest ∙ sym (sites_from-next k i lt)) ∙ e
  where
    split : (b : Bool) (i : ℕ) (rest : List ℕ) → (if b then i ∷ [] else []) ++ rest ≡ cond b (i ∷ rest) rest
    split true i rest = refl
    split false i rest = refl

-- at the last number the sites so far are all
pub sites_from-all : (k : Kills) (i : ℕ) (before : List ℕ) → SITES ≤ i → before ++ sites_from k i ≡ sites_in k → before ≡ sites_in k
sites_from-all k i before h e = sym (append-nil before) ∙ ap (λ l. before ++ l) (sym (sites_from-end k i h)) ∙ e

-- no number from one on passes
filter-none : (p : ℕ → Bool) (i n : ℕ) → ((s : ℕ) → i ≤ s → p s ≡ false) → filter p (numbers i n) ≡ []
filter-none p i zero h = refl
filter-none p i (suc n) h = rw (h i (omega arith), filter-none p (i + 1) n (λ s low. h s (omega arith))) refl

-- the numbers that pass, and one behind all of them
filter-last : (p q : ℕ → Bool) (x i n : ℕ) → q x ≡ true → ((s : ℕ) → s ≢ x → q s ≡ p s) → ((s : ℕ) → x ≤ s → p s ≡ false) → i ≤ x → x < i + n
    → filter q (numbers i n) ≡ filter p (numbers i n) ++ x ∷ []
filter-last p q x i zero same others above low high = absurd (omega arith)
filter-last p q x i (suc n) same others above low high = ⊎_elim
    (λ (here : i ≡ x).
    let no_q : filter q (numbers (i + 1) n) ≡ [] =
    filter-none q (i + 1) n (λ s from. others s (let e : s ≢ x = omega arith in e) ∙ above s (omega arith)) in
    let no_p : filter p (numbers (i + 1) n) ≡ [] = filter-none p (i + 1) n (λ s from. above s (omega arith)) in
    let passes : q i ≡ true = ap q here ∙ same in
    let fails : p i ≡ false = above i (omega arith) in
    rw (passes, fails, no_q, no_p, here) refl)
    (λ (below : i ≢ x).
    let rest = filter-last p q x (i + 1) n same others above (omega arith) (omega arith) in
    let tail = filter p (numbers (i + 1) n) in
    rw (others i below, rest)
    (elim (p i) as (λ b. cond b (i ∷ (tail ++ x ∷ [])) (tail ++ x ∷ []) ≡ cond b (i ∷ tail) tail ++ x ∷ [])
    [ true ↦ refl | false ↦ refl ]))
    (cases_eq i x)

-- the sites of a set, and one behind all of them
pub sites_in-last : (k more : Kills) (x : ℕ) → has more x ≡ true → ((s : ℕ) → s ≢ x → has more s ≡ has k s) → ((s : ℕ) → x ≤ s → has k s ≡ false)
    → sites_in more ≡ sites_in k ++ x ∷ []
unfolding sites_in
sites_in-last k more x same others above = filter-last (has k) (has more) x 0 SITES same others above (omega arith) (has-site more x same)

-- the sites of a set with none
pub sites_in-none : (k : Kills) → ((s : ℕ) → has k s ≡ false) → sites_in k ≡ []
unfolding sites_in
sites_in-none k h = filter-none (has k) 0 SITES (λ s from. h s)

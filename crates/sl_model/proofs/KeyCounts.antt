-- Which keys a container has after a key came in, and how many come of several.
use Rattle.std.proofs.Common.{◌≡◌, ℕ, zero, suc, ◌+◌, ◌||◌, Bool, true, false, List, [], ◌∷◌, Option, Some, None, length, map}
use Rattle.std.proofs.Common.{refl, ap, sym, ◌∙◌, arith, ℤ, pos, if◌then◌else◌}
use Rattle.std.specs.Prelude.{nat_lt, slice_get}
use Rattle.sl_base.specs.declared.scalar.Scalar.TheVariants as t
use Rattle.sl_specs.specs.declared.class.Class.{Class}
use Rattle.sl_specs.specs.Forms.{is_hash}
use Rattle.sl_model.specs.Numbers.{converted}
use Rattle.sl_model.specs.Memory.Containers.{Cell, Cont, size, keys}
use Rattle.sl_model.specs.Memory.Edits.{Source, old, written, theirs, new, Change, numbers, from_source, from_sources, changed, mark_after}
use Rattle.sl_model.specs.LibraryCalls.Effects.{key_change, key_order, key_place, known_key, is_full}
use Rattle.sl_model.specs.Memory.Forms.{holds_equal_keys}
use Rattle.sl_model.specs.LibraryCalls.KeyActions.{count_new, new_keys}
use Rattle.sl_model.specs.Memory.Orders.{same, has, first_of_key, index_of_key}
use Rattle.sl_model.specs.Memory.Schedule.{put_at, scattered, after_picks}
use Rattle.std.proofs.lemmas.Bool.{lt-ltb}
use Rattle.sl_model.proofs.Counts.{sum_of, sum-map, sum-put_at, sum-scattered}

-- the key at a place, and 0 where there is none
abbrev pub key_at : Cont → ℕ → ℤ
key_at c k = elim (slice_get c.cells k) as (λ _. ℤ) [ None ↦ pos 0 | Some x ↦ x.key ]

-- the key that comes from a source
abbrev pub key_from : Cont → Cont → Source → ℤ
key_from own other (old k) = key_at own k
key_from own other (written k x) = converted t.Int x
key_from own other (theirs k) = key_at other k
key_from own other (new x y) = converted t.Int x

-- the keys after a change come from its sources
pub keys_from : (ch : Change) (base : ℕ) (own other : Cont) (next : ℕ) (xs : List Source)
    → map (λ (x : Cell). x.key) (from_sources ch base own other next xs) ≡ map (key_from own other) xs
keys_from ch base own other next [] = refl
keys_from ch base own other next (x ∷ xs) = by_source x (keys_from ch base own other (next + 1) xs)
  where
    missing : Cell
    missing = record { stamp = next; refer = next; key = pos 0; value = pos 0 }

    of_cell : (k : ℕ) (o : Option Cell) → (elim o as (λ _. Cell) [
      | None ↦ missing
      | Some y ↦ record y {
        stamp = mark_after ch.kill base k y.stamp;
        refer = mark_after ch.lose base k y.refer;
      }
    ]).key ≡ elim o as (λ _. ℤ) [ None ↦ pos 0 | Some y ↦ y.key ]
    of_cell k None = refl
    of_cell k (Some y) = refl

    of_other : (o : Option Cell) → (elim o as (λ _. Cell) [ None ↦ missing | Some y ↦ y ]).key ≡ elim o as (λ _. ℤ) [ None ↦ pos 0 | Some y ↦ y.key ]
    of_other None = refl
    of_other (Some y) = refl

    one : (y : Source) → (from_source ch base own other (record { stamp = next; refer = next; key = pos 0; value = pos 0 }) y).key ≡ key_from own other y
    one (old k) = of_cell k (slice_get own.cells k)
    one (written k z) = refl
    one (theirs k) = of_other (slice_get other.cells k)
    one (new a b) = refl

    by_source : (y : Source) → map (λ (z : Cell). z.key) (from_sources ch base own other (next + 1) xs) ≡ map (key_from own other) xs
        → map (λ (z : Cell). z.key) (from_sources ch base own other next (y ∷ xs)) ≡ map (key_from own other) (y ∷ xs)
    by_source y rest = ap (λ n. n ∷ map (λ (z : Cell). z.key) (from_sources ch base own other (next + 1) xs)) (one y)
        ∙ ap (λ l. key_from own other y ∷ l) rest

-- 1 where two keys are one
abbrev pub key_hit : ℤ → ℤ → ℕ
key_hit y x = if same y x then 1 else 0

-- a key is among these where it is counted
pub has-counted : (y : ℤ) (xs : List ℤ) → has y xs ≡ nat_lt 0 (sum_of (key_hit y) xs)
has-counted y [] = refl
has-counted y (x ∷ xs) = by_test (same y x) (has-counted y xs)
  where
    more : (n : ℕ) → true ≡ nat_lt 0 (1 + n)
    more n = sym (lt-ltb 0 (1 + n) (omega arith))

    by_test : (b : Bool) → has y xs ≡ nat_lt 0 (sum_of (key_hit y) xs) → (b || has y xs) ≡ nat_lt 0 ((if b then 1 else 0) + sum_of (key_hit y) xs)
    by_test true r = more (sum_of (key_hit y) xs)
    by_test false r = r ∙ ap (nat_lt 0) (zero_more (sum_of (key_hit y) xs))
      where
        zero_more : (n : ℕ) → n ≡ 0 + n
        zero_more n = omega arith

-- a sum over numbers one further on
sum_shift : (f : ℕ → ℕ) (i n : ℕ) → sum_of f (numbers (i + 1) n) ≡ sum_of (λ k. f (k + 1)) (numbers i n)
sum_shift f i zero = refl
sum_shift f i (suc n) = ap (λ m. f (i + 1) + m) (sum_shift f (i + 1) n)

-- sums of what is the same
sum_same : {A : Type 0} (f g : A → ℕ) (xs : List A) → ((x : A) → f x ≡ g x) → sum_of f xs ≡ sum_of g xs
sum_same f g [] h = refl
sum_same f g (x ∷ xs) h = let a = h x in let r = sum_same f g xs h in omega arith

-- a sum over the keys, by their places
sum_places : (g : ℤ → ℕ) (cells : List Cell)
    → sum_of (λ k. g (elim (slice_get cells k) as (λ _. ℤ) [ None ↦ pos 0 | Some x ↦ x.key ])) (numbers 0 (length cells))
    ≡ sum_of g (map (λ (x : Cell). x.key) cells)
sum_places g [] = refl
sum_places g (x ∷ cells) =
    let f : ℕ → ℕ = λ k. g (elim (slice_get (x ∷ cells) k) as (λ _. ℤ) [ None ↦ pos 0 | Some y ↦ y.key ]) in
    let a : sum_of f (numbers (0 + 1) (length cells)) ≡ sum_of (λ k. f (k + 1)) (numbers 0 (length cells)) = sum_shift f 0 (length cells) in
    let b : sum_of (λ k. f (k + 1)) (numbers 0 (length cells))
    ≡ sum_of (λ k. g (elim (slice_get cells k) as (λ _. ℤ) [ None ↦ pos 0 | Some y ↦ y.key ])) (numbers 0 (length cells)) =
    sum_same (λ k. f (k + 1)) (λ k. g (elim (slice_get cells k) as (λ _. ℤ) [ None ↦ pos 0 | Some y ↦ y.key ])) (numbers 0 (length cells))
    (λ k. ap (λ n. g (elim (slice_get (x ∷ cells) n) as (λ _. ℤ) [ None ↦ pos 0 | Some y ↦ y.key ])) (one_more k)) in
    ap (λ n. g x.key + n) (a ∙ (b ∙ sum_places g cells))
  where
    one_more : (k : ℕ) → k + 1 ≡ suc k
    one_more k = omega arith

-- the keys at the places in an order of all
sum_order : (g : ℤ → ℕ) (c : Cont) (picks : List ℕ) → sum_of (λ k. g (key_at c k)) (key_order c picks) ≡ sum_of g (keys c)
sum_order g c picks = by_hash (is_hash c.form) (is_full c 1)
  where
    plain : sum_of (λ k. g (key_at c k)) (numbers 0 (size c)) ≡ sum_of g (keys c)
    plain = sum_places g c.cells

    by_hash : (h f : Bool) → sum_of (λ k. g (key_at c k))
        (if h then (if f then scattered (after_picks 1 picks) (numbers 0 (size c)) else numbers 0 (size c)) else numbers 0 (size c))
        ≡ sum_of g (keys c)
    by_hash true true = sum-scattered (λ k. g (key_at c k)) (after_picks 1 picks) (numbers 0 (size c)) ∙ plain
    by_hash true false = plain
    by_hash false f = plain

-- the keys after a new one came are those that were there and this one, counted by whatever
pub key_change-sum : (g : ℤ → ℕ) (class : Class) (fresh : ℕ) (c : Cont) (x : ℤ × ℤ) (picks : List ℕ)
    → sum_of g (keys (changed fresh (key_change class c x picks) c)) ≡ g (converted t.Int x.0) + sum_of g (keys c)
key_change-sum g class fresh c x picks =
    ap (sum_of g) (keys_from (key_change class c x picks) fresh c c (fresh + size c + 1) (key_change class c x picks).sources)
    ∙ (sum-map g (key_from c c) (put_at (key_place c x.0 picks) (new x.0 x.1) (map (λ k. old k) (key_order c picks)))
    ∙ (sum-put_at (λ s. g (key_from c c s)) (key_place c x.0 picks) (new x.0 x.1) (map (λ k. old k) (key_order c picks))
    ∙ ap (λ n. g (converted t.Int x.0) + n)
    (sum-map (λ s. g (key_from c c s)) (λ k. old k) (key_order c picks) ∙ sum_order g c picks)))

-- so which keys there are afterwards
pub key_change-has : (y : ℤ) (class : Class) (fresh : ℕ) (c : Cont) (x : ℤ × ℤ) (picks : List ℕ)
    → has y (keys (changed fresh (key_change class c x picks) c)) ≡ has y (converted t.Int x.0 ∷ keys c)
key_change-has y class fresh c x picks =
    has-counted y (keys (changed fresh (key_change class c x picks) c))
    ∙ (ap (nat_lt 0) (key_change-sum (key_hit y) class fresh c x picks) ∙ sym (has-counted y (converted t.Int x.0 ∷ keys c)))

-- how many come in goes by which keys are there
count_new-same : (xs ks ls : List ℤ) → ((y : ℤ) → has y ks ≡ has y ls) → count_new ks xs ≡ count_new ls xs
count_new-same [] ks ls h = refl
count_new-same (x ∷ xs) ks ls h =
    ap (λ (b : Bool). if b then count_new ks xs else 1 + count_new (converted t.Int x ∷ ks) xs) (h x)
    ∙ by_test (has x ls) (count_new-same xs ks ls h)
    (count_new-same xs (converted t.Int x ∷ ks) (converted t.Int x ∷ ls) (λ y. ap (λ (b : Bool). same y (converted t.Int x) || b) (h y)))
  where
    by_test : (b : Bool) → count_new ks xs ≡ count_new ls xs → count_new (converted t.Int x ∷ ks) xs ≡ count_new (converted t.Int x ∷ ls) xs
        → (if b then count_new ks xs else 1 + count_new (converted t.Int x ∷ ks) xs)
        ≡ (if b then count_new ls xs else 1 + count_new (converted t.Int x ∷ ls) xs)
    by_test true p q = p
    by_test false p q = ap (λ n. 1 + n) q

-- a key has a place exactly where it is among the keys
index-has : (x : ℤ) (i : ℕ) (xs : List ℤ) → first_of_key x i xs ≡ None → has x xs ≡ false
index-has x i [] h = refl
index-has x i (y ∷ ys) h = by_test (same x y) h (index-has x (i + 1) ys)
  where
    by_test : (b : Bool) → (if b then Some i else first_of_key x (i + 1) ys) ≡ None → (first_of_key x (i + 1) ys ≡ None → has x ys ≡ false)
        → (b || has x ys) ≡ false
    by_test true e rest = absurd (cc)
    by_test false e rest = rest e

has-index : (x : ℤ) (i : ℕ) (xs : List ℤ) (k : ℕ) → first_of_key x i xs ≡ Some k → has x xs ≡ true
has-index x i [] k h = absurd (cc)
has-index x i (y ∷ ys) k h = by_test (same x y) h (has-index x (i + 1) ys k)
  where
    by_test : (b : Bool) → (if b then Some i else first_of_key x (i + 1) ys) ≡ Some k → (first_of_key x (i + 1) ys ≡ Some k → has x ys ≡ true)
        → (b || has x ys) ≡ true
    by_test true e rest = refl
    by_test false e rest = rest e

-- after a key came in that wasn't there, one less comes of these and the others
pub new_keys-next : (class : Class) (fresh : ℕ) (c : Cont) (x : ℤ × ℤ) (picks : List ℕ) (xs : List ℤ) → known_key c x.0 ≡ None
    → 1 + new_keys (changed fresh (key_change class c x picks) c) xs ≡ new_keys c (x.0 ∷ xs)
new_keys-next class fresh c x picks xs h = by_equal (holds_equal_keys c.form) h
  where
    by_equal : (b : Bool) → (if b then None else index_of_key x.0 (keys c)) ≡ None
        → 1 + (if b then length xs else count_new (keys (changed fresh (key_change class c x picks) c)) xs)
        ≡ (if b then length (x.0 ∷ xs) else count_new (keys c) (x.0 ∷ xs))
    by_equal true e = omega arith
    by_equal false e =
        ap (λ n. 1 + n) (count_new-same xs (keys (changed fresh (key_change class c x picks) c)) (converted t.Int x.0 ∷ keys c)
        (λ y. key_change-has y class fresh c x picks))
        ∙ sym (ap (λ (b : Bool). if b then count_new (keys c) xs else 1 + count_new (converted t.Int x.0 ∷ keys c) xs) (index-has x.0 0 (keys c) e))

-- a key that is there adds none
pub new_keys-known : (c : Cont) (x : ℤ) (xs : List ℤ) (k : ℕ) → known_key c x ≡ Some k → new_keys c xs ≡ new_keys c (x ∷ xs)
new_keys-known c x xs k h = by_equal (holds_equal_keys c.form) h
  where
    by_equal : (b : Bool) → (if b then None else index_of_key x (keys c)) ≡ Some k
        → (if b then length xs else count_new (keys c) xs) ≡ (if b then length (x ∷ xs) else count_new (keys c) (x ∷ xs))
    by_equal true e = absurd (cc)
    by_equal false e =
        sym (ap (λ (b : Bool). if b then count_new (keys c) xs else 1 + count_new (converted t.Int x ∷ keys c) xs) (has-index x 0 (keys c) k e))

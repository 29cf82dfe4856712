-- A key that is put in leaves the keys of a container in order.
use Rattle.std.proofs.Common.{◌≡◌, ℕ, ◌+◌, ◌-◌, Bool, true, false, not, IsTrue, List, None, map, refl, ap, sym, ◌∙◌, arith}
use Rattle.std.proofs.Common.{inl, inr, subst, if◌then◌else◌, ℤ, int_lt, int_le}
use Rattle.std.proofs.lemmas.Int.{ints}
use Rattle.sl_base.specs.declared.form.Form.{Form}
use Rattle.sl_base.specs.declared.form.Form.TheVariants as f
use Rattle.sl_base.specs.declared.scalar.Scalar.TheVariants as t
use Rattle.sl_specs.specs.declared.class.Class.{Class}
use Rattle.sl_specs.specs.Forms.{is_hash}
use Rattle.sl_model.specs.Memory.Containers.{Cont, size, keys}
use Rattle.sl_model.specs.Memory.Edits.{old, new, numbers, changed}
use Rattle.sl_model.specs.LibraryCalls.Effects.{is_full, key_change, key_order, key_place, key_picks, known_key, ordered_place}
use Rattle.sl_model.specs.Memory.Forms.{holds_equal_keys}
use Rattle.sl_model.specs.Numbers.{converted, fits}
use Rattle.sl_model.specs.Memory.Orders.{same, how_many, index_of_key}
use Rattle.sl_model.specs.Memory.Orderly.{may_precede, Each, EachPair, AreInOrder}
use Rattle.sl_model.specs.Memory.Schedule.{put_at, hash_place, pick_at, scattered, after_picks}
use Rattle.sl_model.proofs.AsInts.{converted-same}
use Rattle.sl_model.proofs.KeyCounts.{key_at, key_from, keys_from}
use Rattle.sl_model.proofs.KeysAfter.{all_keys, old-keys, any_order, hash-turns, scattered-order, scattered-each}
use Rattle.sl_model.proofs.Pairs.{each-all, each-weaker, map-put_at, pairs-put_at, FitsBeside, put_in-order, none_same}

-- how a key stands to another one in an ascending order of keys that are there once
once_beside : (x y : ℤ) → same x y ≡ false → FitsBeside (λ a b. IsTrue (int_lt a b)) (λ z. int_lt z x) x y
once_beside x y n = by_test (int_lt y x) refl
  where
    behind : int_lt y x ≡ false → IsTrue (int_lt x y)
    behind e = grind (arith, ints)

    further : int_lt y x ≡ false → (z : ℤ) → IsTrue (int_lt y z) → (int_lt z x ≡ false) × IsTrue (int_lt x z)
    further e z h = (grind (arith, ints), grind (arith, ints))

    by_test : (b : Bool) → int_lt y x ≡ b → FitsBeside (λ a b. IsTrue (int_lt a b)) (λ z. int_lt z x) x y
    by_test true e = inl (e, e)
    by_test false e = inr (e, (behind e, further e))

-- and in one of equal keys
equal_beside : (x y : ℤ) → FitsBeside (λ a b. IsTrue (int_le a b)) (λ z. int_le z x) x y
equal_beside x y = by_test (int_le y x) refl
  where
    behind : int_le y x ≡ false → IsTrue (int_le x y)
    behind e = grind (arith, ints)

    further : int_le y x ≡ false → (z : ℤ) → IsTrue (int_le y z) → (int_le z x ≡ false) × IsTrue (int_le x z)
    further e z h = (grind (arith, ints), grind (arith, ints))

    by_test : (b : Bool) → int_le y x ≡ b → FitsBeside (λ a b. IsTrue (int_le a b)) (λ z. int_le z x) x y
    by_test true e = inl (e, e)
    by_test false e = inr (e, (behind e, further e))

-- a key that is put in its place among keys in order
put-once : (x : ℤ) (ks : List ℤ) → Each (λ y. same x y ≡ false) ks → EachPair (λ a b. IsTrue (int_lt a b)) ks
    → EachPair (λ a b. IsTrue (int_lt a b)) (put_at (how_many (λ z. int_lt z x) ks) x ks)
put-once x ks none p = put_in-order (λ a b. IsTrue (int_lt a b)) (λ z. int_lt z x) x ks
    (each-weaker (λ y. same x y ≡ false) (FitsBeside (λ a b. IsTrue (int_lt a b)) (λ z. int_lt z x) x) ks (once_beside x) none) p

-- and so where equal keys may be
put-equal : (x : ℤ) (ks : List ℤ) → EachPair (λ a b. IsTrue (int_le a b)) ks
    → EachPair (λ a b. IsTrue (int_le a b)) (put_at (how_many (λ z. int_le z x) ks) x ks)
put-equal x ks p = put_in-order (λ a b. IsTrue (int_le a b)) (λ z. int_le z x) x ks
    (each-all (FitsBeside (λ a b. IsTrue (int_le a b)) (λ z. int_le z x) x) ks (equal_beside x)) p

-- so it is in each form that has its keys in ascending order, and in a sequence
put-order : (form : Form) (x : ℤ) (ks : List ℤ) → is_hash form ≡ false → (holds_equal_keys form ≡ false → Each (λ y. same x y ≡ false) ks)
    → AreInOrder form ks → AreInOrder form (put_at (how_many (λ y. if holds_equal_keys form then int_le y x else int_lt y x) ks) x ks)
put-order f.Vector x ks h none p = any_order f.Vector _ refl
put-order f.Deque x ks h none p = any_order f.Deque _ refl
put-order f.List x ks h none p = any_order f.List _ refl
put-order f.Set x ks h none p = put-once x ks (none refl) p
put-order f.Map x ks h none p = put-once x ks (none refl) p
put-order f.HashSet x ks h none p = absurd (cc)
put-order f.HashMap x ks h none p = absurd (cc)
put-order f.MultiSet x ks h none p = put-equal x ks p
put-order f.MultiMap x ks h none p = put-equal x ks p

-- a key that isn't there may stand before another one in a hash form
hash-precedes : (form : Form) → is_hash form ≡ true → (x y : ℤ) → same x y ≡ false → IsTrue (may_precede form x y)
hash-precedes f.Vector e x y n = absurd (cc)
hash-precedes f.Deque e x y n = absurd (cc)
hash-precedes f.List e x y n = absurd (cc)
hash-precedes f.Set e x y n = absurd (cc)
hash-precedes f.Map e x y n = absurd (cc)
hash-precedes f.HashSet e x y n = ap (λ b. not b) n
hash-precedes f.HashMap e x y n = ap (λ b. not b) n
hash-precedes f.MultiSet e x y n = absurd (cc)
hash-precedes f.MultiMap e x y n = absurd (cc)

-- a hash form holds no equal keys
hash-once : (form : Form) → is_hash form ≡ true → holds_equal_keys form ≡ false
hash-once f.Vector e = refl
hash-once f.Deque e = refl
hash-once f.List e = refl
hash-once f.Set e = refl
hash-once f.Map e = refl
hash-once f.HashSet e = refl
hash-once f.HashMap e = refl
hash-once f.MultiSet e = absurd (cc)
hash-once f.MultiMap e = absurd (cc)

-- a key that nothing keeps out is none of those that are there, where equal keys may not be
new-key : (c : Cont) (x : ℤ) → known_key c x ≡ None → holds_equal_keys c.form ≡ false → Each (λ y. same x y ≡ false) (keys c)
new-key c x h e = by_equal (holds_equal_keys c.form) e h
  where
    by_equal : (b : Bool) → b ≡ false → (if b then None else index_of_key x (keys c)) ≡ None → Each (λ y. same x y ≡ false) (keys c)
    by_equal true e g = absurd (cc)
    by_equal false e g = none_same x 0 (keys c) g

-- the keys after one was put in
pub put-keys : (class : Class) (fresh : ℕ) (c : Cont) (x : ℤ × ℤ) (picks : List ℕ)
    → keys (changed fresh (key_change class c x picks) c)
    ≡ put_at (key_place c x.0 picks) (converted t.Int x.0) (map (key_at c) (key_order c picks))
put-keys class fresh c x picks =
    keys_from (key_change class c x picks) fresh c c (fresh + size c + 1) (key_change class c x picks).sources
    ∙ (map-put_at (key_from c c) (key_place c x.0 picks) (new x.0 x.1) (map (λ k. old k) (key_order c picks))
    ∙ ap (put_at (key_place c x.0 picks) (converted t.Int x.0)) (old-keys c c (key_order c picks)))

-- they stand in order
pub key-order : (class : Class) (fresh : ℕ) (c : Cont) (x : ℤ × ℤ) (picks : List ℕ) → known_key c x.0 ≡ None → IsTrue (fits t.Int x.0)
    → AreInOrder c.form (keys c) → AreInOrder c.form (keys (changed fresh (key_change class c x picks) c))
key-order class fresh c x picks known int order =
    subst (AreInOrder c.form) (sym (put-keys class fresh c x picks))
    (subst (λ z. AreInOrder c.form (put_at (key_place c x.0 picks) z (map (key_at c) (key_order c picks)))) (sym (converted-same x.0 int))
    (by_hash (is_hash c.form) (is_full c 1) refl))
  where
    at-random : (p : ℕ) (ks : List ℤ) → is_hash c.form ≡ true → Each (λ y. same x.0 y ≡ false) ks → AreInOrder c.form ks
        → AreInOrder c.form (put_at p x.0 ks)
    at-random p ks hash none h = pairs-put_at (λ a b. IsTrue (may_precede c.form a b)) (hash-turns c.form hash) p x.0 ks
        (each-weaker (λ y. same x.0 y ≡ false) (λ y. IsTrue (may_precede c.form x.0 y)) ks (hash-precedes c.form hash x.0) none) h

    by_hash : (h full : Bool) → is_hash c.form ≡ h → AreInOrder c.form
        (put_at (if h then hash_place (size c) (pick_at (key_picks c - 1) picks) else ordered_place c x.0) x.0 (map (key_at c)
        (if h then (if full then scattered (after_picks 1 picks) (numbers 0 (size c)) else numbers 0 (size c)) else numbers 0 (size c))))
    by_hash true true e = at-random (hash_place (size c) (pick_at (key_picks c - 1) picks)) _ e
        (scattered-each (λ y. same x.0 y ≡ false) c (after_picks 1 picks) (new-key c x.0 known (hash-once c.form e)))
        (scattered-order c (after_picks 1 picks) e order)
    by_hash true false e = subst (λ ks. AreInOrder c.form (put_at (hash_place (size c) (pick_at (key_picks c - 1) picks)) x.0 ks)) (sym (all_keys c))
        (at-random (hash_place (size c) (pick_at (key_picks c - 1) picks)) (keys c) e (new-key c x.0 known (hash-once c.form e)) order)
    by_hash false full e = subst (λ ks. AreInOrder c.form (put_at (ordered_place c x.0) x.0 ks)) (sym (all_keys c))
        (put-order c.form x.0 (keys c) e (new-key c x.0 known) order)

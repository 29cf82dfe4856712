-- Lists of which something holds of each, or of each and each one behind it: joined, mapped, scattered, and with one more put in.
use Rattle.std.proofs.Common.{◌≡◌, ℕ, zero, suc, ◌+◌, ◌<◌, Bool, true, false, List, [], ◌∷◌, ◌++◌, Some, None, length, map, take, drop, refl}
use Rattle.std.proofs.Common.{ap, sym, ◌∙◌, arith, ◌⊎◌, inl, inr, subst, if◌then◌else◌, ℤ}
use Rattle.std.specs.Prelude.{filter}
use Rattle.std.specs.List.{slice_get}
use Rattle.sl_model.specs.Memory.Orders.{how_many, same, first_of_key}
use Rattle.sl_model.specs.Memory.Orderly.{Each, EachPair}
use Rattle.sl_model.specs.Memory.Schedule.{pick, put_at, put_all, hash_place, scattered}

-- ## Each

-- what holds of each of two lists holds of each of the joined one
pub each-append : {A : Type 0} (P : A → Type 0) (xs ys : List A) → Each P xs → Each P ys → Each P (xs ++ ys)
each-append P [] ys h k = k
each-append P (x ∷ xs) ys h k = (h.0, each-append P xs ys h.1 k)

-- what holds of each image holds of each of the images
pub each-map : {A B : Type 0} (P : B → Type 0) (f : A → B) (xs : List A) → Each (λ x. P (f x)) xs → Each P (map f xs)
each-map P f [] h = tt
each-map P f (x ∷ xs) h = (h.0, each-map P f xs h.1)

-- and the other way round
pub each-mapped : {A B : Type 0} (P : B → Type 0) (f : A → B) (xs : List A) → Each P (map f xs) → Each (λ x. P (f x)) xs
each-mapped P f [] h = tt
each-mapped P f (x ∷ xs) h = (h.0, each-mapped P f xs h.1)

-- what follows from what holds of each
pub each-weaker : {A : Type 0} (P Q : A → Type 0) (xs : List A) → ((x : A) → P x → Q x) → Each P xs → Each Q xs
each-weaker P Q [] w h = tt
each-weaker P Q (x ∷ xs) w h = (w x h.0, each-weaker P Q xs w h.1)

-- two facts that hold of each
pub each-both : {A : Type 0} (P Q : A → Type 0) (xs : List A) → Each P xs → Each Q xs → Each (λ x. P x × Q x) xs
each-both P Q [] h k = tt
each-both P Q (x ∷ xs) h k = ((h.0, k.0), each-both P Q xs h.1 k.1)

-- what holds of everything holds of each
pub each-all : {A : Type 0} (P : A → Type 0) (xs : List A) → ((x : A) → P x) → Each P xs
each-all P [] h = tt
each-all P (x ∷ xs) h = (h x, each-all P xs h)

-- it holds of the one at an index
pub each-at : {A : Type 0} (P : A → Type 0) (xs : List A) (k : ℕ) (x : A) → Each P xs → slice_get xs k ≡ Some x → P x
each-at P [] k x h e = absurd (cc)
each-at P (y ∷ ys) zero x h e = let q : y ≡ x = cc in subst P q h.0
each-at P (y ∷ ys) (suc k) x h e = each-at P ys k x h.1 e

-- it holds of each of the first ones
pub each-take : {A : Type 0} (P : A → Type 0) (n : ℕ) (xs : List A) → Each P xs → Each P (take n xs)
each-take P zero xs h = tt
each-take P (suc n) [] h = tt
each-take P (suc n) (x ∷ xs) h = (h.0, each-take P n xs h.1)

-- and of each of the others
pub each-drop : {A : Type 0} (P : A → Type 0) (n : ℕ) (xs : List A) → Each P xs → Each P (drop n xs)
each-drop P zero xs h = h
each-drop P (suc n) [] h = tt
each-drop P (suc n) (x ∷ xs) h = each-drop P n xs h.1

-- ## Each pair

-- what holds of the pairs of two lists, and between the two, holds of the pairs of the joined one
pub pairs-append : {A : Type 0} (Q : A → A → Type 0) (xs ys : List A) → EachPair Q xs → EachPair Q ys → Each (λ x. Each (Q x) ys) xs
    → EachPair Q (xs ++ ys)
pairs-append Q [] ys p q h = q
pairs-append Q (x ∷ xs) ys p q h = (each-append (Q x) xs ys p.0 h.0, pairs-append Q xs ys p.1 q h.1)

-- what holds of the pairs of images holds of the pairs of the mapped list
pub pairs-map : {A B : Type 0} (Q : B → B → Type 0) (f : A → B) (xs : List A) → EachPair (λ x y. Q (f x) (f y)) xs → EachPair Q (map f xs)
pairs-map Q f [] h = tt
pairs-map Q f (x ∷ xs) h = (each-map (Q (f x)) f xs h.0, pairs-map Q f xs h.1)

-- and the other way round
pub pairs-mapped : {A B : Type 0} (Q : B → B → Type 0) (f : A → B) (xs : List A) → EachPair Q (map f xs) → EachPair (λ x y. Q (f x) (f y)) xs
pairs-mapped Q f [] h = tt
pairs-mapped Q f (x ∷ xs) h = (each-mapped (Q (f x)) f xs h.0, pairs-mapped Q f xs h.1)

-- what holds of all pairs holds of those of a list
pub pairs-all : {A : Type 0} (Q : A → A → Type 0) (xs : List A) → ((x y : A) → Q x y) → EachPair Q xs
pairs-all Q [] h = tt
pairs-all Q (x ∷ xs) h = (each-all (Q x) xs (h x), pairs-all Q xs h)

-- it holds of those at two indices
pub pairs-at : {A : Type 0} (Q : A → A → Type 0) (xs : List A) (k h : ℕ) (x y : A) → EachPair Q xs → k < h → slice_get xs k ≡ Some x
    → slice_get xs h ≡ Some y → Q x y
pairs-at Q [] k h x y p low a b = absurd (cc)
pairs-at Q (z ∷ zs) zero zero x y p low a b = absurd (omega arith)
pairs-at Q (z ∷ zs) zero (suc h) x y p low a b = let e : z ≡ x = cc in subst (λ w. Q w y) e (each-at (Q z) zs h y p.0 b)
pairs-at Q (z ∷ zs) (suc k) zero x y p low a b = absurd (omega arith)
pairs-at Q (z ∷ zs) (suc k) (suc h) x y p low a b = pairs-at Q zs k h x y p.1 (omega arith) a b

-- ## One more put in, and all put in anywhere

-- a mapped list with one put in
pub map-put_at : {A B : Type 0} (f : A → B) (k : ℕ) (x : A) (xs : List A) → map f (put_at k x xs) ≡ put_at k (f x) (map f xs)
map-put_at f zero x xs = refl
map-put_at f (suc k) x [] = refl
map-put_at f (suc k) x (y ∷ ys) = ap (λ l. f y ∷ l) (map-put_at f k x ys)

-- what holds of each and of one more
pub each-put_at : {A : Type 0} (P : A → Type 0) (k : ℕ) (x : A) (xs : List A) → P x → Each P xs → Each P (put_at k x xs)
each-put_at P zero x xs h p = (h, p)
each-put_at P (suc k) x [] h p = (h, tt)
each-put_at P (suc k) x (y ∷ ys) h p = (p.0, each-put_at P k x ys h p.1)

-- what holds of each pair, either way round, with one more anywhere
pub pairs-put_at : {A : Type 0} (Q : A → A → Type 0) (turns : (x y : A) → Q x y → Q y x) (k : ℕ) (x : A) (xs : List A) → Each (Q x) xs
    → EachPair Q xs → EachPair Q (put_at k x xs)
pairs-put_at Q turns zero x xs h p = (h, p)
pairs-put_at Q turns (suc k) x [] h p = (tt, tt)
pairs-put_at Q turns (suc k) x (y ∷ ys) h p = (each-put_at (Q y) k x ys (turns x y h.0) p.0, pairs-put_at Q turns k x ys h.1 p.1)

-- what holds of each of two lists, one put into the other
pub each-put_all : {A : Type 0} (P : A → Type 0) (placed : List A) (picks : List ℕ) (xs : List A) → Each P placed → Each P xs
    → Each P (put_all placed picks xs)
each-put_all P placed picks [] h p = h
each-put_all P placed picks (x ∷ xs) h p =
    each-put_all P (put_at (hash_place (length placed) (pick picks)) x placed) (drop 1 picks) xs
    (each-put_at P (hash_place (length placed) (pick picks)) x placed p.0 h) p.1

-- what holds of each pair, either way round, of one list put into the other
pub pairs-put_all : {A : Type 0} (Q : A → A → Type 0) (turns : (x y : A) → Q x y → Q y x) (placed : List A) (picks : List ℕ) (xs : List A)
    → EachPair Q placed → EachPair Q xs → Each (λ x. Each (Q x) placed) xs → EachPair Q (put_all placed picks xs)
pairs-put_all Q turns placed picks [] p q h = p
pairs-put_all Q turns placed picks (x ∷ xs) p q h =
    let k = hash_place (length placed) (pick picks) in
    pairs-put_all Q turns (put_at k x placed) (drop 1 picks) xs (pairs-put_at Q turns k x placed h.0 p) q.1
    (each-weaker (λ y. Q x y × Each (Q y) placed) (λ y. Each (Q y) (put_at k x placed)) xs
    (λ y r. each-put_at (Q y) k x placed (turns x y r.0) r.1) (each-both (Q x) (λ y. Each (Q y) placed) xs q.0 h.1))

-- what holds of each holds of each in a hash order
pub each-scattered : {A : Type 0} (P : A → Type 0) (picks : List ℕ) (xs : List A) → Each P xs → Each P (scattered picks xs)
each-scattered P picks xs h = each-put_all P [] picks xs tt h

-- what holds of each pair, either way round, holds of each in a hash order
pub pairs-scattered : {A : Type 0} (Q : A → A → Type 0) (turns : (x y : A) → Q x y → Q y x) (picks : List ℕ) (xs : List A) → EachPair Q xs
    → EachPair Q (scattered picks xs)
pairs-scattered Q turns picks xs h = pairs-put_all Q turns [] picks xs tt h (each-all (λ x. Each (Q x) []) xs (λ x. tt))

-- ## One more put in where it belongs

-- how a key stands to one that is there: that one passes the test and goes before, or it goes behind, with all behind it
abbrev pub FitsBeside : (ℤ → ℤ → Type 0) → (ℤ → Bool) → ℤ → ℤ → Type 0
FitsBeside Q test x y =
    ((test y ≡ true) × Q y x) ⊎ ((test y ≡ false) × (Q x y × ((z : ℤ) → Q y z → (test z ≡ false) × Q x z)))

-- none of these passes
none_passes : (test : ℤ → Bool) (ys : List ℤ) → Each (λ y. test y ≡ false) ys → how_many test ys ≡ 0
none_passes test [] h = refl
none_passes test (y ∷ ys) h = ap (λ (b : Bool). length (if b then y ∷ filter test ys else filter test ys)) h.0 ∙ none_passes test ys h.1

-- a key that is put behind those that pass the test
pub put_in-order : (Q : ℤ → ℤ → Type 0) (test : ℤ → Bool) (x : ℤ) (ys : List ℤ) → Each (FitsBeside Q test x) ys → EachPair Q ys
    → EachPair Q (put_at (how_many test ys) x ys)
put_in-order Q test x [] h p = (tt, tt)
put_in-order Q test x (y ∷ ys) h p = by_side (put_in-order Q test x ys h.1 p.1) h.0
  where
    by_side : EachPair Q (put_at (how_many test ys) x ys) → FitsBeside Q test x y
        → EachPair Q (put_at (how_many test (y ∷ ys)) x (y ∷ ys))
    by_side rest (inl a) = subst (λ (b : Bool). EachPair Q (put_at (length (if b then y ∷ filter test ys else filter test ys)) x (y ∷ ys))) (sym a.0)
        (each-put_at (Q y) (how_many test ys) x ys a.1 p.0, rest)
    by_side rest (inr a) =
        let each : Each (λ z. (test z ≡ false) × Q x z) ys = each-weaker (Q y) (λ z. (test z ≡ false) × Q x z) ys a.1.1 p.0 in
        let none : how_many test ys ≡ 0 = none_passes test ys
        (each-weaker (λ z. (test z ≡ false) × Q x z) (λ z. test z ≡ false) ys (λ z r. r.0) each) in
        let first : how_many test (y ∷ ys) ≡ 0 =
        ap (λ (b : Bool). length (if b then y ∷ filter test ys else filter test ys)) a.0 ∙ none in
        subst (λ n. EachPair Q (put_at n x (y ∷ ys))) (sym first)
        ((a.1.0, each-weaker (λ z. (test z ≡ false) × Q x z) (Q x) ys (λ z r. r.1) each), p)

-- a key that isn't there is the same as none of these
pub none_same : (x : ℤ) (i : ℕ) (ys : List ℤ) → first_of_key x i ys ≡ None → Each (λ y. same x y ≡ false) ys
none_same x i [] h = tt
none_same x i (y ∷ ys) h = by_test (same x y) refl h (none_same x (i + 1) ys)
  where
    by_test : (b : Bool) → same x y ≡ b → (if b then Some i else first_of_key x (i + 1) ys) ≡ None
        → (first_of_key x (i + 1) ys ≡ None → Each (λ z. same x z ≡ false) ys) → (same x y ≡ false) × Each (λ z. same x z ≡ false) ys
    by_test true e g rest = absurd (cc)
    by_test false e g rest = (e, rest g)

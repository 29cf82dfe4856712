-- Lists of which all pass a test, and what is found in them.
use Rattle.std.proofs.Common.{◌≡◌, ℕ, zero, suc, Bool, true, false, ◌&&◌, ◌||◌, List, [], ◌∷◌, ◌++◌, Option, Some, None, sym, subst, ◌∙◌}
use Rattle.std.specs.Prelude.{slice_get, filter_map, flat_map}
use Rattle.std.specs.List.{cons_option}
use Rattle.std.specs.List.{list_all}
use Rattle.std.proofs.lemmas.List.Folds.{list_all-append}

-- the first of two answers that are both true
pub first_of_both : (a b : Bool) → (a && b) ≡ true → a ≡ true
first_of_both true b h = cc
first_of_both false b h = absurd cc

-- the second of them
pub second_of_both : (a b : Bool) → (a && b) ≡ true → b ≡ true
second_of_both true b h = h
second_of_both false b h = absurd cc

-- each of three answers that are all true
pub three_parts : (a b c : Bool) → (a && b && c) ≡ true → (a ≡ true) × (b ≡ true) × (c ≡ true)
three_parts a b c h =
    let two = first_of_both (a && b) c h in (first_of_both a b two, second_of_both a b two, second_of_both (a && b) c h)

-- each of five
pub five_parts : (a b c d e : Bool) → (a && b && c && d && e) ≡ true → (a ≡ true) × (b ≡ true) × (c ≡ true) × (d ≡ true) × (e ≡ true)
five_parts a b c d e h =
    let four = first_of_both (a && b && c && d) e h in let three = first_of_both (a && b && c) d four in let two = first_of_both (a && b) c three in (
      first_of_both a b two,
      second_of_both a b two,
      second_of_both (a && b) c three,
      second_of_both (a && b && c) d four,
      second_of_both (a && b && c && d) e h,
    )

-- the first of two answers of which neither is true
pub first_of_neither : (a b : Bool) → (a || b) ≡ false → a ≡ false
first_of_neither true b h = absurd cc
first_of_neither false b h = cc

-- the second of them
pub second_of_neither : (a b : Bool) → (a || b) ≡ false → b ≡ false
second_of_neither true b h = absurd cc
second_of_neither false b h = h

-- what is in the list passes the test
pub passes_at : {X : Type 0} (test : X → Bool) (xs : List X) (i : ℕ) (x : X) → list_all test xs ≡ true → slice_get xs i ≡ Some x → test x ≡ true
passes_at test [] i x h e = absurd cc
passes_at test (y ∷ ys) zero x h e =
    let same : y ≡ x = cc in subst (λ z. test z ≡ true) same (first_of_both (test y) (list_all test ys) h)
passes_at test (y ∷ ys) (suc i) x h e = passes_at test ys i x (second_of_both (test y) (list_all test ys) h) e

-- what is put before a list, if it is something, passes with the list
first_put_passes : {Y : Type 0} (test : Y → Bool) (m : Option Y) (y : Y) (ys : List Y) → list_all test (cons_option m ys) ≡ true → m ≡ Some y
    → test y ≡ true
first_put_passes test None y ys h e = absurd cc
first_put_passes test (Some z) y ys h e =
    let same : z ≡ y = cc in subst (λ x. test x ≡ true) same (first_of_both (test z) (list_all test ys) h)

-- the list passes
rest_put_passes : {Y : Type 0} (test : Y → Bool) (m : Option Y) (ys : List Y) → list_all test (cons_option m ys) ≡ true → list_all test ys ≡ true
rest_put_passes test None ys h = h
rest_put_passes test (Some z) ys h = second_of_both (test z) (list_all test ys) h

-- what one of the list gives passes the test that all pass that any of them gives
pub given_passes : {X Y : Type 0} (test : Y → Bool) (gives : X → Option Y) (xs : List X) (i : ℕ) (x : X) (y : Y)
    → list_all test (filter_map gives xs) ≡ true → slice_get xs i ≡ Some x → gives x ≡ Some y → test y ≡ true
given_passes test gives [] i x y h e g = absurd cc
given_passes test gives (z ∷ zs) zero x y h e g =
    let same : z ≡ x = cc in
    first_put_passes test (gives z) y (filter_map gives zs) h (subst (λ w. gives w ≡ Some y) (sym same) g)
given_passes test gives (z ∷ zs) (suc i) x y h e g =
    given_passes test gives zs i x y (rest_put_passes test (gives z) (filter_map gives zs) h) e g

-- a test that all of two lists pass is passed by all of each
pub both_lists : {Y : Type 0} (test : Y → Bool) (ys zs : List Y) → list_all test (ys ++ zs) ≡ true → (list_all test ys && list_all test zs) ≡ true
both_lists test ys zs h = sym (list_all-append test ys zs) ∙ h

-- a list that one of another list gives passes the test that all pass that any of these gives
pub flat_map_each : {X Y : Type 0} (test : Y → Bool) (gives : X → List Y) (xs : List X) (n : ℕ) (x : X)
    → list_all test (flat_map gives xs) ≡ true → slice_get xs n ≡ Some x → list_all test (gives x) ≡ true
flat_map_each test gives [] n x h e = absurd cc
flat_map_each test gives (z ∷ zs) zero x h e =
    let same : z ≡ x = cc in
    let own = first_of_both (list_all test (gives z)) (list_all test (flat_map gives zs)) (both_lists test (gives z) (flat_map gives zs) h) in
    subst (λ w. list_all test (gives w) ≡ true) same own
flat_map_each test gives (z ∷ zs) (suc n) x h e =
    let others = second_of_both (list_all test (gives z)) (list_all test (flat_map gives zs)) (both_lists test (gives z) (flat_map gives zs) h) in
    flat_map_each test gives zs n x others e

-- The constants of a text ascend, and hold 0, 1, and each literal with its two neighbours.
use Rattle.std.proofs.Common.{◌≡◌, ℤ, pos, Bool, true, false, ◌&&◌, List, [], ◌∷◌, refl, arith}
use Rattle.std.specs.Prelude.{◌+ℤ◌, ◌-ℤ◌, int_lt, int_le, if◌then◌else◌}
use Rattle.std.specs.List.{list_all}
use Rattle.std.proofs.lemmas.Bool.{and_from, and_parts, or_left, or_right, or_cases}
use Rattle.std.proofs.Common.{⊎_elim}
use Rattle.std.proofs.lemmas.Int.{ints}
use Rattle.sl_syntax.specs.SubsetView.{put_in, constants_of}
use Rattle.sl_model.specs.Typing.WellTypedNumbers.{holds, holds_around, ascend, are_constants}

-- two tests of numbers
itself : (z : ℤ) → (int_le z z && int_le z z) ≡ true
itself z = grind (arith, ints)

neither : (x z : ℤ) → int_lt z x ≡ false → int_lt x z ≡ false → (int_le x z && int_le z x) ≡ true
neither x z h k = grind (arith, ints)

-- a number that is put in is there
put_holds : (z : ℤ) (xs : List ℤ) → holds (put_in z xs) z ≡ true
put_holds z [] = or_left (int_le z z && int_le z z) false (itself z)
put_holds z (x ∷ xs) =
    elim (int_lt z x) as (λ (b : Bool). int_lt z x ≡ b
    → holds (if b then z ∷ x ∷ xs else if int_lt x z then x ∷ put_in z xs else x ∷ xs) z ≡ true) [
      | true ↦ λ h. or_left (int_le z z && int_le z z) (holds (x ∷ xs) z) (itself z)
      | false ↦ λ h. elim (int_lt x z) as (λ (b : Bool). int_lt x z ≡ b → holds (if b then x ∷ put_in z xs else x ∷ xs) z ≡ true) [
        | true ↦ λ k. or_right (int_le x z && int_le z x) (holds (put_in z xs) z) (put_holds z xs)
        | false ↦ λ k. or_left (int_le x z && int_le z x) (holds xs z) (neither x z h k)
      ] refl
    ] refl

-- and what was there stays
put_keeps : (z y : ℤ) (xs : List ℤ) → holds xs y ≡ true → holds (put_in z xs) y ≡ true
put_keeps z y [] h = absurd cc
put_keeps z y (x ∷ xs) h =
    elim (int_lt z x) as (λ (b : Bool). holds (if b then z ∷ x ∷ xs else if int_lt x z then x ∷ put_in z xs else x ∷ xs) y ≡ true) [
      | true ↦ or_right (int_le z y && int_le y z) (holds (x ∷ xs) y) h
      | false ↦ elim (int_lt x z) as (λ (b : Bool). holds (if b then x ∷ put_in z xs else x ∷ xs) y ≡ true) [
        | true ↦ ⊎_elim (λ first. or_left (int_le x y && int_le y x) (holds (put_in z xs) y) first)
            (λ rest. or_right (int_le x y && int_le y x) (holds (put_in z xs) y) (put_keeps z y xs rest))
            (or_cases (int_le x y && int_le y x) (holds xs y) h)
        | false ↦ h
      ]
    ]

-- a number is below these, as far as the first
below : ℤ → List ℤ → Bool
below x [] = true
below x (y ∷ ys) = int_lt x y

-- ascending, from the first on
ascend_parts : (x : ℤ) (xs : List ℤ) → ascend (x ∷ xs) ≡ true → (below x xs ≡ true) × (ascend xs ≡ true)
unfolding below
ascend_parts x [] h = (refl, refl)
ascend_parts x (y ∷ ys) h = and_parts (int_lt x y) (ascend (y ∷ ys)) h

ascend_from : (x : ℤ) (xs : List ℤ) → below x xs ≡ true → ascend xs ≡ true → ascend (x ∷ xs) ≡ true
unfolding below
ascend_from x [] h k = refl
ascend_from x (y ∷ ys) h k = and_from (int_lt x y) (ascend (y ∷ ys)) h k

put_below : (x z : ℤ) (xs : List ℤ) → int_lt x z ≡ true → below x xs ≡ true → below x (put_in z xs) ≡ true
unfolding below
put_below x z [] h k = h
put_below x z (y ∷ ys) h k =
    elim (int_lt z y) as (λ (b : Bool). below x (if b then z ∷ y ∷ ys else if int_lt y z then y ∷ put_in z ys else y ∷ ys) ≡ true) [
      | true ↦ h
      | false ↦ elim (int_lt y z) as (λ (b : Bool). below x (if b then y ∷ put_in z ys else y ∷ ys) ≡ true) [ true ↦ k | false ↦ k ]
    ]

-- numbers ascend behind one that is put in
put_ascends : (z : ℤ) (xs : List ℤ) → ascend xs ≡ true → ascend (put_in z xs) ≡ true
put_ascends z [] h = refl
put_ascends z (x ∷ xs) h =
    elim (int_lt z x) as (λ (b : Bool). int_lt z x ≡ b
    → ascend (if b then z ∷ x ∷ xs else if int_lt x z then x ∷ put_in z xs else x ∷ xs) ≡ true) [
      | true ↦ λ e. and_from (int_lt z x) (ascend (x ∷ xs)) e h
      | false ↦ λ e. elim (int_lt x z) as (λ (b : Bool). int_lt x z ≡ b → ascend (if b then x ∷ put_in z xs else x ∷ xs) ≡ true) [
        | true ↦ λ k. let parts = ascend_parts x xs h in
            ascend_from x (put_in z xs) (put_below x z xs k parts.0) (put_ascends z xs parts.1)
        | false ↦ λ k. h
      ] refl
    ] refl

-- three numbers that are put in keep what is there
three_keep : (z y : ℤ) (xs : List ℤ) → holds xs y ≡ true → holds (put_in (z -ℤ pos 1) (put_in z (put_in (z +ℤ pos 1) xs))) y ≡ true
three_keep z y xs h =
    put_keeps (z -ℤ pos 1) y (put_in z (put_in (z +ℤ pos 1) xs)) (put_keeps z y (put_in (z +ℤ pos 1) xs) (put_keeps (z +ℤ pos 1) y xs h))

around_keeps : (z y : ℤ) (xs : List ℤ) → holds_around xs y ≡ true
    → holds_around (put_in (z -ℤ pos 1) (put_in z (put_in (z +ℤ pos 1) xs))) y ≡ true
around_keeps z y xs h =
    let more = put_in (z -ℤ pos 1) (put_in z (put_in (z +ℤ pos 1) xs)) in
    let last = and_parts (holds xs (y -ℤ pos 1) && holds xs y) (holds xs (y +ℤ pos 1)) h in
    let first = and_parts (holds xs (y -ℤ pos 1)) (holds xs y) last.0 in
    and_from (holds more (y -ℤ pos 1) && holds more y) (holds more (y +ℤ pos 1))
    (and_from (holds more (y -ℤ pos 1)) (holds more y) (three_keep z (y -ℤ pos 1) xs first.0) (three_keep z y xs first.1))
    (three_keep z (y +ℤ pos 1) xs last.1)

all_keep : (z : ℤ) (ys xs : List ℤ) → list_all (holds_around xs) ys ≡ true
    → list_all (holds_around (put_in (z -ℤ pos 1) (put_in z (put_in (z +ℤ pos 1) xs)))) ys ≡ true
all_keep z [] xs h = refl
all_keep z (y ∷ ys) xs h =
    let parts = and_parts (holds_around xs y) (list_all (holds_around xs) ys) h in
    let more = put_in (z -ℤ pos 1) (put_in z (put_in (z +ℤ pos 1) xs)) in
    and_from (holds_around more y) (list_all (holds_around more) ys) (around_keeps z y xs parts.0) (all_keep z ys xs parts.1)

own_around : (z : ℤ) (xs : List ℤ) → holds_around (put_in (z -ℤ pos 1) (put_in z (put_in (z +ℤ pos 1) xs))) z ≡ true
own_around z xs =
    let high = put_in (z +ℤ pos 1) xs in
    let middle = put_in z high in
    let all = put_in (z -ℤ pos 1) middle in
    and_from (holds all (z -ℤ pos 1) && holds all z) (holds all (z +ℤ pos 1))
    (and_from (holds all (z -ℤ pos 1)) (holds all z) (put_holds (z -ℤ pos 1) middle) (put_keeps (z -ℤ pos 1) z middle (put_holds z high)))
    (put_keeps (z -ℤ pos 1) (z +ℤ pos 1) middle (put_keeps z (z +ℤ pos 1) high (put_holds (z +ℤ pos 1) xs)))

-- each number is held with its neighbours
pub constants_hold : (zs : List ℤ) → list_all (holds_around (constants_of zs)) zs ≡ true
constants_hold [] = refl
constants_hold (z ∷ zs) = and_from (holds_around (constants_of (z ∷ zs)) z) (list_all (holds_around (constants_of (z ∷ zs))) zs)
    (own_around z (constants_of zs)) (all_keep z zs (constants_of zs) (constants_hold zs))

-- they ascend
constants_ascend : (zs : List ℤ) → ascend (constants_of zs) ≡ true
constants_ascend [] = refl
constants_ascend (z ∷ zs) =
    let high = put_in (z +ℤ pos 1) (constants_of zs) in
    put_ascends (z -ℤ pos 1) (put_in z high) (put_ascends z high (put_ascends (z +ℤ pos 1) (constants_of zs) (constants_ascend zs)))

-- 0 and 1 are among them
constants_hold_first : (y : ℤ) → holds (pos 0 ∷ pos 1 ∷ []) y ≡ true → (zs : List ℤ) → holds (constants_of zs) y ≡ true
constants_hold_first y h [] = h
constants_hold_first y h (z ∷ zs) = three_keep z y (constants_of zs) (constants_hold_first y h zs)

pub constants_are : (zs : List ℤ) → are_constants (constants_of zs) ≡ true
constants_are zs =
    let all = constants_of zs in
    and_from (ascend all && holds all (pos 0)) (holds all (pos 1))
    (and_from (ascend all) (holds all (pos 0)) (constants_ascend zs) (constants_hold_first (pos 0) refl zs)) (constants_hold_first (pos 1) refl zs)

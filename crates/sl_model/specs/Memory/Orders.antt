-- Lists of numbers in order: what the library's sections on sorting, searching and sets say of them.
--
-- Restates ISO/IEC 14882:2017, [alg.sorting] (ranges in order, partitions, `lower_bound` and its like, the set operations),
-- [list.ops] (`sort` keeps equal elements in their order, `unique`), [alg.min.max] and [alg.unique].
-- Chosen here: the union of two ranges has each element as often as the range that has it more often; of equal elements the first
-- counts for `min_element` and `max_element`.
use Rattle.std.specs.Prelude.{ℕ, ◌+◌, ◌==◌, ◌&&◌, ◌||◌, Bool, true, false, not, List, [], ◌∷◌, ◌++◌, map, length, ℤ, Option, Some, None}
use Rattle.std.specs.Prelude.{int_lt, int_le, if◌then◌else◌, filter}

-- two numbers are equal
abbrev pub same : ℤ → ℤ → Bool
same x y = int_le x y && int_le y x

-- no number is less than the one before it
abbrev pub is_ascending : List ℤ → Bool
is_ascending [] = true
is_ascending (x ∷ []) = true
is_ascending (x ∷ y ∷ ys) = int_le x y && is_ascending (y ∷ ys)

-- an entry put before the first with a greater key
abbrev pub put_sorted : {A : Type 0} → ℤ × A → List (ℤ × A) → List (ℤ × A)
put_sorted x [] = x ∷ []
put_sorted x (y ∷ ys) = if int_lt x.0 y.0 then x ∷ y ∷ ys else y ∷ put_sorted x ys

-- these put in one by one
abbrev pub put_all_sorted : {A : Type 0} → List (ℤ × A) → List (ℤ × A) → List (ℤ × A)
put_all_sorted done [] = done
put_all_sorted done (x ∷ xs) = put_all_sorted (put_sorted x done) xs

-- entries in ascending order of key, those of one key in their old order
abbrev pub sorted_entries : {A : Type 0} → List (ℤ × A) → List (ℤ × A)
sorted_entries xs = put_all_sorted [] xs

-- numbers in ascending order
abbrev pub sorted : List ℤ → List ℤ
sorted xs = map (λ (x : ℤ × ℕ). x.0) (sorted_entries (map (λ x. (x, 0)) xs))

-- each key with its place, counted from i
abbrev pub with_places : ℕ → List ℤ → List (ℤ × ℕ)
with_places i [] = []
with_places i (x ∷ xs) = (x, i) ∷ with_places (i + 1) xs

-- the places of these keys in ascending order of key, those of one key in their order
abbrev pub sorted_places : List ℤ → List ℕ
sorted_places xs = map (λ (x : ℤ × ℕ). x.1) (sorted_entries (with_places 0 xs))

-- the index of the first x, counted from i
abbrev pub first_of_key : ℤ → ℕ → List ℤ → Option ℕ
first_of_key x i [] = None
first_of_key x i (y ∷ ys) = if same x y then Some i else first_of_key x (i + 1) ys

-- the index of the first x
abbrev pub index_of_key : ℤ → List ℤ → Option ℕ
index_of_key x xs = first_of_key x 0 xs

-- x is among these
abbrev pub has : ℤ → List ℤ → Bool
has x [] = false
has x (y ∷ ys) = same x y || has x ys

-- how many pass a test
abbrev pub how_many : (ℤ → Bool) → List ℤ → ℕ
how_many test xs = length (filter test xs)

-- a test holds for a front part and for no later number
abbrev pub is_partitioned : (ℤ → Bool) → List ℤ → Bool
is_partitioned test [] = true
is_partitioned test (x ∷ xs) = if test x then is_partitioned test xs else how_many test xs == 0

-- these without the first x
abbrev pub without : ℤ → List ℤ → List ℤ
without x [] = []
without x (y ∷ ys) = if same x y then ys else y ∷ without x ys

-- what is left of xs when each number of ys takes an equal one away
abbrev pub minus : List ℤ → List ℤ → List ℤ
minus [] ys = []
minus (x ∷ xs) ys = elim (has x ys) [ true ↦ minus xs (without x ys) | false ↦ x ∷ minus xs ys ]

-- the elements of both, those that both have taken once, repeated ones counted
abbrev pub union_of : List ℤ → List ℤ → List ℤ
union_of xs ys = sorted (xs ++ minus ys xs)

-- the elements of the first that the second has, repeated ones counted
abbrev pub intersection_of : List ℤ → List ℤ → List ℤ
intersection_of xs ys = minus xs (minus xs ys)

-- the first of each group of equal numbers, where `before` is the number before these
abbrev pub firsts_after : ℤ → List ℤ → List ℤ
firsts_after before [] = []
firsts_after before (x ∷ xs) = if same before x then firsts_after x xs else x ∷ firsts_after x xs

-- the first of each group of equal numbers
abbrev pub firsts : List ℤ → List ℤ
firsts [] = []
firsts (x ∷ xs) = x ∷ firsts_after x xs

-- the places of the first of each group, counted from i, where `before` is the number before these
abbrev pub first_places_after : ℤ → ℕ → List ℤ → List ℕ
first_places_after before i [] = []
first_places_after before i (x ∷ xs) = if same before x then first_places_after x (i + 1) xs else i ∷ first_places_after x (i + 1) xs

-- the places of the first of each group
abbrev pub first_places : List ℤ → List ℕ
first_places [] = []
first_places (x ∷ xs) = 0 ∷ first_places_after x 1 xs

-- the places of the numbers other than x, counted from i
abbrev pub other_places : ℤ → ℕ → List ℤ → List ℕ
other_places x i [] = []
other_places x i (y ∷ ys) = if same x y then other_places x (i + 1) ys else i ∷ other_places x (i + 1) ys

-- these without any x
abbrev pub others : ℤ → List ℤ → List ℤ
others x xs = filter (λ y. not (same x y)) xs

-- the index of the first number that none beats; `best` at index `at` is the best before i
abbrev pub best_place : (ℤ → ℤ → Bool) → ℤ → ℕ → ℕ → List ℤ → ℕ
best_place beats best at i [] = at
best_place beats best at i (x ∷ xs) = elim (beats x best) [ true ↦ best_place beats x i (i + 1) xs | false ↦ best_place beats best at (i + 1) xs ]

-- the index of the first least number, 0 where there is none
abbrev pub least_place : List ℤ → ℕ
least_place [] = 0
least_place (x ∷ xs) = best_place (λ a b. int_lt a b) x 0 1 xs

-- the index of the first greatest number, 0 where there is none
abbrev pub greatest_place : List ℤ → ℕ
greatest_place [] = 0
greatest_place (x ∷ xs) = best_place (λ a b. int_lt b a) x 0 1 xs

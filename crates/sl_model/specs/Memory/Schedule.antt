-- The schedule: a list of numbers, by which a run chooses where ISO/IEC 14882:2017 leaves a choice to the implementation.
-- Restates [vector.capacity] and [unord.req]: how far a room lies above the number of elements, and in which order a hash form
-- has its elements, is the implementation's choice; and [alg.unique] and [alg.remove]: so is what these leave behind the end
-- that they return.
-- Chosen here: each choice takes the first number that is left, and 0 where none is left; an element that is put into a hash
-- order of n elements goes to the place that is the pick modulo n + 1.
use Rattle.std.specs.Prelude.{ℕ, zero, suc, ◌+◌, ◌%◌, List, [], ◌∷◌, ◌++◌, length, take, drop}

-- the first number that is left, or 0
abbrev pub pick : List ℕ → ℕ
pick [] = 0
pick (p ∷ ps) = p

-- what is left after so many picks
abbrev pub after_picks : ℕ → List ℕ → List ℕ
after_picks n picks = drop n picks

-- the number that is picked after n others
abbrev pub pick_at : ℕ → List ℕ → ℕ
pick_at n picks = pick (drop n picks)

-- n numbers that are picked in turn
abbrev pub picked : ℕ → List ℕ → List ℕ
picked zero picks = []
picked (suc n) picks = pick picks ∷ picked n (drop 1 picks)

-- the list with x put in at index k
abbrev pub put_at : {A : Type 0} → ℕ → A → List A → List A
put_at k x xs = take k xs ++ x ∷ drop k xs

-- where a pick puts an element into a hash order of n elements
abbrev pub hash_place : ℕ → ℕ → ℕ
hash_place n p = p % (n + 1)

-- these put one by one into a hash order, a pick for each
abbrev pub put_all : {A : Type 0} → List A → List ℕ → List A → List A
put_all placed picks [] = placed
put_all placed picks (x ∷ xs) = put_all (put_at (hash_place (length placed) (pick picks)) x placed) (drop 1 picks) xs

-- these in the hash order in which the picks put them
abbrev pub scattered : {A : Type 0} → List ℕ → List A → List A
scattered picks xs = put_all [] picks xs

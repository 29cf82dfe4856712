-- How often a number stands in the lists that changes are made of.
use Rattle.std.proofs.Common.{◌≡◌, ℕ, zero, suc, ◌+◌, ◌-◌, ◌<◌, ◌≤◌, Bool, true, false, List, [], ◌∷◌, ◌++◌, length, map, take, drop, length-append}
use Rattle.std.proofs.Common.{refl, ap, sym, ◌∙◌, arith, ◌⊎◌, inl, inr, ⊎_elim, ℤ, if◌then◌else◌}
use Rattle.std.specs.Prelude.{int_lt, nat_le}
use Rattle.std.proofs.lemmas.Bool.{cases_lt, cases_eq}
use Rattle.std.proofs.lemmas.List.{length-map}
use Rattle.sl_model.specs.Memory.Edits.{Source, old, written, theirs, new, numbers, news}
use Rattle.sl_model.specs.Memory.Orders.{put_sorted, put_all_sorted, sorted_entries, with_places, sorted_places}
use Rattle.sl_model.specs.Memory.Rearrangements.{overwritten, moved_order}
use Rattle.sl_model.specs.Memory.Schedule.{put_at, put_all, scattered, hash_place, pick}
use Rattle.sl_model.proofs.Places.{hit, hit-same, hit-is, times, own_places, their_places}

-- among joined lists
pub times-append : (k : ℕ) (xs ys : List ℕ) → times k (xs ++ ys) ≡ times k xs + times k ys
times-append k [] ys = omega arith
times-append k (x ∷ xs) ys = let r : times k (xs ++ ys) ≡ times k xs + times k ys = times-append k xs ys in omega arith

-- another number isn't hit
pub hit-other : (k x : ℕ) → (x ≡ k → ⊥) → hit k x ≡ 0
hit-other k x n = ⊎_elim (λ (a : 0 < hit k x). absurd (n (hit-is k x a))) (λ (b : hit k x ≤ 0). let r : hit k x ≡ 0 = omega arith in r) (cases_lt 0 (hit k x))

-- a number that isn't among numbers in turn
pub times-outside : (k i n : ℕ) → (k < i) ⊎ (i + n ≤ k) → times k (numbers i n) ≡ 0
times-outside k i zero h = refl
times-outside k i (suc n) h =
    let a : hit k i ≡ 0 = hit-other k i (λ e. apart e h) in
    let r : times k (numbers (i + 1) n) ≡ 0 = times-outside k (i + 1) n (further h) in
    omega arith
  where
    apart : i ≡ k → (k < i) ⊎ (i + suc n ≤ k) → ⊥
    apart e (inl a) = omega arith
    apart e (inr b) = omega arith

    further : (k < i) ⊎ (i + suc n ≤ k) → (k < i + 1) ⊎ ((i + 1) + n ≤ k)
    further (inl a) = inl (omega arith)
    further (inr b) = inr (omega arith)

-- and one that is
pub times-numbers : (k i n : ℕ) → i ≤ k → k < i + n → times k (numbers i n) ≡ 1
times-numbers k i zero low high = absurd (omega arith)
times-numbers k i (suc n) low high = ⊎_elim
    (λ (e : i ≡ k).
    let a : hit k i ≡ 1 = hit-same k i e in
    let r : times k (numbers (i + 1) n) ≡ 0 = times-outside k (i + 1) n (inl (omega arith)) in
    let s : hit k i + times k (numbers (i + 1) n) ≡ 1 = omega arith in s)
    (λ (d : i ≡ k → ⊥).
    let a : hit k i ≡ 0 = hit-other k i d in
    let r : times k (numbers (i + 1) n) ≡ 1 = times-numbers k (i + 1) n (above d) (omega arith) in
    let s : hit k i + times k (numbers (i + 1) n) ≡ 1 = omega arith in s)
    (cases_eq i k)
  where
    above : (i ≡ k → ⊥) → i + 1 ≤ k
    above d = ⊎_elim (λ (a : i < k). let r : i + 1 ≤ k = omega arith in r) (λ (b : k ≤ i). absurd (d (let r : i ≡ k = omega arith in r))) (cases_lt i k)

-- numbers in turn: one of them or none
pub data InTurn (k i n : ℕ) : Type 0 where
  one_of : i ≤ k → k < i + n → times k (numbers i n) ≡ 1 → InTurn k i n
  lower : k < i → times k (numbers i n) ≡ 0 → InTurn k i n
  higher : i + n ≤ k → times k (numbers i n) ≡ 0 → InTurn k i n

pub in_turn : (k i n : ℕ) → InTurn k i n
in_turn k i n = ⊎_elim (λ (a : k < i). lower a (times-outside k i n (inl a)))
    (λ (b : i ≤ k). ⊎_elim (λ (c : k < i + n). one_of b c (times-numbers k i n b c)) (λ (d : i + n ≤ k). higher d (times-outside k i n (inr d)))
    (cases_lt k (i + n)))
    (cases_lt k i)

-- the places of joined sources
pub own-append : (k : ℕ) (xs ys : List Source) → times k (own_places (xs ++ ys)) ≡ times k (own_places xs) + times k (own_places ys)
own-append k [] ys = omega arith
own-append k (old i ∷ xs) ys = let r : times k (own_places (xs ++ ys)) ≡ times k (own_places xs) + times k (own_places ys) = own-append k xs ys in omega arith
own-append k (written i z ∷ xs) ys = let r : times k (own_places (xs ++ ys)) ≡ times k (own_places xs) + times k (own_places ys) = own-append k xs ys in omega arith
own-append k (theirs i ∷ xs) ys = own-append k xs ys
own-append k (new a b ∷ xs) ys = own-append k xs ys

pub their-append : (k : ℕ) (xs ys : List Source) → times k (their_places (xs ++ ys)) ≡ times k (their_places xs) + times k (their_places ys)
their-append k [] ys = omega arith
their-append k (old i ∷ xs) ys = their-append k xs ys
their-append k (written i z ∷ xs) ys = their-append k xs ys
their-append k (theirs i ∷ xs) ys =
    let r : times k (their_places (xs ++ ys)) ≡ times k (their_places xs) + times k (their_places ys) = their-append k xs ys in omega arith
their-append k (new a b ∷ xs) ys = their-append k xs ys

-- the places of old elements in an order
pub own-old : (xs : List ℕ) → own_places (map (λ k. old k) xs) ≡ xs
own-old [] = refl
own-old (x ∷ xs) = ap (λ l. x ∷ l) (own-old xs)

pub their-old : (xs : List ℕ) → their_places (map (λ k. old k) xs) ≡ []
their-old [] = refl
their-old (x ∷ xs) = their-old xs

-- and of elements of the other container
pub own-theirs : (xs : List ℕ) → own_places (map (λ k. theirs k) xs) ≡ []
own-theirs [] = refl
own-theirs (x ∷ xs) = own-theirs xs

pub their-theirs : (xs : List ℕ) → their_places (map (λ k. theirs k) xs) ≡ xs
their-theirs [] = refl
their-theirs (x ∷ xs) = ap (λ l. x ∷ l) (their-theirs xs)

-- what comes takes none
pub own-news : (xs : List (ℤ × ℤ)) → own_places (news xs) ≡ []
own-news [] = refl
own-news (x ∷ xs) = own-news xs

pub their-news : (xs : List (ℤ × ℤ)) → their_places (news xs) ≡ []
their-news [] = refl
their-news (x ∷ xs) = their-news xs

-- what is written over takes places in turn
pub own-overwritten : (i : ℕ) (xs : List ℤ) → own_places (overwritten i xs) ≡ numbers i (length xs)
own-overwritten i [] = refl
own-overwritten i (x ∷ xs) = ap (λ l. i ∷ l) (own-overwritten (i + 1) xs)

pub their-overwritten : (i : ℕ) (xs : List ℤ) → their_places (overwritten i xs) ≡ []
their-overwritten i [] = refl
their-overwritten i (x ∷ xs) = their-overwritten (i + 1) xs

-- how many sources there are
pub length-numbers : (i n : ℕ) → length (numbers i n) ≡ n
length-numbers i zero = refl
length-numbers i (suc n) = ap suc (length-numbers (i + 1) n)

pub length-overwritten : (i : ℕ) (xs : List ℤ) → length (overwritten i xs) ≡ length xs
length-overwritten i [] = refl
length-overwritten i (x ∷ xs) = ap suc (length-overwritten (i + 1) xs)

-- ## Orders

-- a list cut in two
pub times-cut : (k n : ℕ) (xs : List ℕ) → times k (take n xs) + times k (drop n xs) ≡ times k xs
times-cut k zero xs = omega arith
times-cut k (suc n) [] = omega arith
times-cut k (suc n) (x ∷ xs) = let r : times k (take n xs) + times k (drop n xs) ≡ times k xs = times-cut k n xs in omega arith

-- a number put in somewhere
pub times-put_at : (k i x : ℕ) (xs : List ℕ) → times k (put_at i x xs) ≡ hit k x + times k xs
times-put_at k i x xs =
    let a : times k (take i xs ++ x ∷ drop i xs) ≡ times k (take i xs) + (hit k x + times k (drop i xs)) = times-append k (take i xs) (x ∷ drop i xs) in
    let c : times k (take i xs) + times k (drop i xs) ≡ times k xs = times-cut k i xs in
    omega arith

-- numbers put in one by one
times-put_all : (k : ℕ) (placed picks xs : List ℕ) → times k (put_all placed picks xs) ≡ times k placed + times k xs
times-put_all k placed picks [] = omega arith
times-put_all k placed picks (x ∷ xs) =
    let next : List ℕ = put_at (hash_place (length placed) (pick picks)) x placed in
    let a : times k next ≡ hit k x + times k placed = times-put_at k (hash_place (length placed) (pick picks)) x placed in
    let r : times k (put_all next (drop 1 picks) xs) ≡ times k next + times k xs = times-put_all k next (drop 1 picks) xs in
    omega arith

-- numbers in a picked order
pub times-scattered : (k : ℕ) (picks xs : List ℕ) → times k (scattered picks xs) ≡ times k xs
times-scattered k picks xs = let r : times k (put_all [] picks xs) ≡ 0 + times k xs = times-put_all k [] picks xs in omega arith

-- the length of lists into which is put
length-put_at : {A : Type 0} (i : ℕ) (x : A) (xs : List A) → length (put_at i x xs) ≡ suc (length xs)
length-put_at zero x xs = refl
length-put_at (suc i) x [] = refl
length-put_at (suc i) x (y ∷ xs) = ap suc (length-put_at i x xs)

length-put_all : {A : Type 0} (placed : List A) (picks : List ℕ) (xs : List A) → length (put_all placed picks xs) ≡ length placed + length xs
length-put_all placed picks [] = omega arith
length-put_all placed picks (x ∷ xs) =
    let r = length-put_all (put_at (hash_place (length placed) (pick picks)) x placed) (drop 1 picks) xs in
    let a = length-put_at (hash_place (length placed) (pick picks)) x placed in
    omega arith

pub length-put : {A : Type 0} (i : ℕ) (x : A) (xs : List A) → length (put_at i x xs) ≡ length xs + 1
length-put i x xs = let a = length-put_at i x xs in omega arith

pub length-scattered : {A : Type 0} (picks : List ℕ) (xs : List A) → length (scattered picks xs) ≡ length xs
length-scattered picks xs = let r : length (put_all [] picks xs) ≡ 0 + length xs = length-put_all [] picks xs in omega arith

-- a sum over entries
abbrev pub sum_of : {A : Type 0} → (A → ℕ) → List A → ℕ
sum_of g [] = 0
sum_of g (x ∷ xs) = g x + sum_of g xs

-- an entry put in by its key adds its part
sum-put : {A : Type 0} (g : ℤ × A → ℕ) (x : ℤ × A) (xs : List (ℤ × A)) → sum_of g (put_sorted x xs) ≡ g x + sum_of g xs
sum-put g x [] = refl
sum-put g x (y ∷ ys) = by_test (int_lt x.0 y.0) (sum-put g x ys)
  where
    by_test : (b : Bool) → sum_of g (put_sorted x ys) ≡ g x + sum_of g ys
        → sum_of g (if b then x ∷ y ∷ ys else y ∷ put_sorted x ys) ≡ g x + (g y + sum_of g ys)
    by_test true r = refl
    by_test false r = omega arith

sum-put_all : {A : Type 0} (g : ℤ × A → ℕ) (done xs : List (ℤ × A)) → sum_of g (put_all_sorted done xs) ≡ sum_of g done + sum_of g xs
sum-put_all g done [] = omega arith
sum-put_all g done (x ∷ xs) =
    let a : sum_of g (put_sorted x done) ≡ g x + sum_of g done = sum-put g x done in
    let r : sum_of g (put_all_sorted (put_sorted x done) xs) ≡ sum_of g (put_sorted x done) + sum_of g xs = sum-put_all g (put_sorted x done) xs in
    omega arith

-- entries in order have the sum that they had
pub sum-sorted : {A : Type 0} (g : ℤ × A → ℕ) (xs : List (ℤ × A)) → sum_of g (sorted_entries xs) ≡ sum_of g xs
sum-sorted g xs = let r : sum_of g (put_all_sorted [] xs) ≡ 0 + sum_of g xs = sum-put_all g [] xs in omega arith

-- a sum over joined lists, over one that is cut in two, and over what a function makes
pub sum-append : {A : Type 0} (g : A → ℕ) (xs ys : List A) → sum_of g (xs ++ ys) ≡ sum_of g xs + sum_of g ys
sum-append g [] ys = omega arith
sum-append g (x ∷ xs) ys = let r = sum-append g xs ys in omega arith

sum-cut : {A : Type 0} (g : A → ℕ) (n : ℕ) (xs : List A) → sum_of g (take n xs) + sum_of g (drop n xs) ≡ sum_of g xs
sum-cut g zero xs = omega arith
sum-cut g (suc n) [] = omega arith
sum-cut g (suc n) (x ∷ xs) = let r = sum-cut g n xs in omega arith

pub sum-map : {A B : Type 0} (g : B → ℕ) (f : A → B) (xs : List A) → sum_of g (map f xs) ≡ sum_of (λ x. g (f x)) xs
sum-map g f [] = refl
sum-map g f (x ∷ xs) = ap (λ n. g (f x) + n) (sum-map g f xs)

-- what is put in somewhere adds its part
pub sum-put_at : {A : Type 0} (g : A → ℕ) (i : ℕ) (x : A) (xs : List A) → sum_of g (put_at i x xs) ≡ g x + sum_of g xs
sum-put_at g i x xs =
    let a : sum_of g (take i xs ++ x ∷ drop i xs) ≡ sum_of g (take i xs) + (g x + sum_of g (drop i xs)) = sum-append g (take i xs) (x ∷ drop i xs) in
    let c : sum_of g (take i xs) + sum_of g (drop i xs) ≡ sum_of g xs = sum-cut g i xs in
    omega arith

sum-put_one_by_one : {A : Type 0} (g : A → ℕ) (placed : List A) (picks : List ℕ) (xs : List A)
    → sum_of g (put_all placed picks xs) ≡ sum_of g placed + sum_of g xs
sum-put_one_by_one g placed picks [] = omega arith
sum-put_one_by_one g placed picks (x ∷ xs) =
    let a = sum-put_at g (hash_place (length placed) (pick picks)) x placed in
    let r = sum-put_one_by_one g (put_at (hash_place (length placed) (pick picks)) x placed) (drop 1 picks) xs in
    omega arith

-- a picked order has the sum that was there
pub sum-scattered : {A : Type 0} (g : A → ℕ) (picks : List ℕ) (xs : List A) → sum_of g (scattered picks xs) ≡ sum_of g xs
sum-scattered g picks xs = let r : sum_of g (put_all [] picks xs) ≡ 0 + sum_of g xs = sum-put_one_by_one g [] picks xs in omega arith

-- how many entries there are, as a sum
pub length-sum : {A : Type 0} (xs : List A) → length xs ≡ sum_of (λ x. 1) xs
length-sum [] = refl
length-sum (x ∷ xs) = let r : length xs ≡ sum_of (λ y. 1) xs = length-sum xs in omega arith

-- entries in order are as many
pub length-sorted : {A : Type 0} (xs : List (ℤ × A)) → length (sorted_entries xs) ≡ length xs
length-sorted xs = length-sum (sorted_entries xs) ∙ (sum-sorted (λ x. 1) xs ∙ sym (length-sum xs))

-- how often a number stands behind keys, as a sum
times-sum : (k : ℕ) (xs : List (ℤ × ℕ)) → times k (map (λ (x : ℤ × ℕ). x.1) xs) ≡ sum_of (λ (x : ℤ × ℕ). hit k x.1) xs
times-sum k [] = refl
times-sum k (x ∷ xs) = ap (λ n. hit k x.1 + n) (times-sum k xs)

-- the places that stand beside keys
with_places-all : (k i : ℕ) (xs : List ℤ) → sum_of (λ (x : ℤ × ℕ). hit k x.1) (with_places i xs) ≡ times k (numbers i (length xs))
with_places-all k i [] = refl
with_places-all k i (x ∷ xs) = ap (λ n. hit k i + n) (with_places-all k (i + 1) xs)

-- the places in order of keys are all places
pub times-sorted_places : (k : ℕ) (xs : List ℤ) → times k (sorted_places xs) ≡ times k (numbers 0 (length xs))
times-sorted_places k xs =
    times-sum k (sorted_entries (with_places 0 xs)) ∙ (sum-sorted (λ (x : ℤ × ℕ). hit k x.1) (with_places 0 xs) ∙ with_places-all k 0 xs)

length-with_places : (i : ℕ) (xs : List ℤ) → length (with_places i xs) ≡ length xs
length-with_places i [] = refl
length-with_places i (x ∷ xs) = ap suc (length-with_places (i + 1) xs)

pub length-sorted_places : (xs : List ℤ) → length (sorted_places xs) ≡ length xs
length-sorted_places xs =
    length-map (sorted_entries (with_places 0 xs)) (λ (x : ℤ × ℕ). x.1) ∙ (length-sorted (with_places 0 xs) ∙ length-with_places 0 xs)

-- the first n numbers in three parts
pub three_parts : (k n from count : ℕ) → from + count ≤ n
    → times k (numbers 0 from) + (times k (numbers from count) + times k (numbers (from + count) (n - (from + count)))) ≡ times k (numbers 0 n)
three_parts k n from count fits =
    by_parts (in_turn k 0 from) (in_turn k from count) (in_turn k (from + count) (n - (from + count))) (in_turn k 0 n)
  where
    by_parts : InTurn k 0 from → InTurn k from count → InTurn k (from + count) (n - (from + count)) → InTurn k 0 n
        → times k (numbers 0 from) + (times k (numbers from count) + times k (numbers (from + count) (n - (from + count))))
        ≡ times k (numbers 0 n)
    by_parts (one_of a b c) (one_of d e f) x y = absurd (omega arith)
    by_parts (one_of a b c) (lower d e) (one_of f g h) y = absurd (omega arith)
    by_parts (one_of a b c) (lower d e) (lower f g) (one_of h i j) = omega arith
    by_parts (one_of a b c) (lower d e) (lower f g) (lower h i) = absurd (omega arith)
    by_parts (one_of a b c) (lower d e) (lower f g) (higher h i) = absurd (omega arith)
    by_parts (one_of a b c) (lower d e) (higher f g) y = absurd (omega arith)
    by_parts (one_of a b c) (higher d e) x y = absurd (omega arith)
    by_parts (lower a b) x y z = absurd (omega arith)
    by_parts (higher a b) (one_of c d e) (one_of f g h) y = absurd (omega arith)
    by_parts (higher a b) (one_of c d e) (lower f g) (one_of h i j) = omega arith
    by_parts (higher a b) (one_of c d e) (lower f g) (lower h i) = absurd (omega arith)
    by_parts (higher a b) (one_of c d e) (lower f g) (higher h i) = absurd (omega arith)
    by_parts (higher a b) (one_of c d e) (higher f g) y = absurd (omega arith)
    by_parts (higher a b) (lower c d) x y = absurd (omega arith)
    by_parts (higher a b) (higher c d) (one_of e f g) (one_of h i j) = omega arith
    by_parts (higher a b) (higher c d) (one_of e f g) (lower h i) = absurd (omega arith)
    by_parts (higher a b) (higher c d) (one_of e f g) (higher h i) = absurd (omega arith)
    by_parts (higher a b) (higher c d) (lower e f) y = absurd (omega arith)
    by_parts (higher a b) (higher c d) (higher e f) (one_of h i j) = absurd (omega arith)
    by_parts (higher a b) (higher c d) (higher e f) (lower h i) = absurd (omega arith)
    by_parts (higher a b) (higher c d) (higher e f) (higher h i) = omega arith

-- elements moved within a list are all places
pub times-moved : (k n p from count : ℕ) → from + count ≤ n → times k (moved_order n p from count) ≡ times k (numbers 0 n)
times-moved k n p from count fits =
    let others : List ℕ = numbers 0 from ++ numbers (from + count) (n - (from + count)) in
    let target : ℕ = if nat_le (from + count) p then p - count else p in
    let a : times k (take target others ++ (numbers from count ++ drop target others))
    ≡ times k (take target others) + times k (numbers from count ++ drop target others) =
    times-append k (take target others) (numbers from count ++ drop target others) in
    let b : times k (numbers from count ++ drop target others) ≡ times k (numbers from count) + times k (drop target others) =
    times-append k (numbers from count) (drop target others) in
    let c : times k (take target others) + times k (drop target others) ≡ times k others = times-cut k target others in
    let d : times k others ≡ times k (numbers 0 from) + times k (numbers (from + count) (n - (from + count))) =
    times-append k (numbers 0 from) (numbers (from + count) (n - (from + count))) in
    let e : times k (numbers 0 from) + (times k (numbers from count) + times k (numbers (from + count) (n - (from + count))))
    ≡ times k (numbers 0 n) = three_parts k n from count fits in
    omega arith

-- they are as many
pub moved_length : (n p from count : ℕ) → from + count ≤ n → length (moved_order n p from count) ≡ n
moved_length n p from count fits =
    let others : List ℕ = numbers 0 from ++ numbers (from + count) (n - (from + count)) in
    let target : ℕ = if nat_le (from + count) p then p - count else p in
    let a = length-append (take target others) (numbers from count ++ drop target others) in
    let b = length-append (numbers from count) (drop target others) in
    let c = length-cut target others in
    let d = length-append (numbers 0 from) (numbers (from + count) (n - (from + count))) in
    let e = length-numbers 0 from in
    let f = length-numbers from count in
    let g = length-numbers (from + count) (n - (from + count)) in
    omega arith
  where
    length-cut : (i : ℕ) (xs : List ℕ) → length (take i xs) + length (drop i xs) ≡ length xs
    length-cut zero xs = omega arith
    length-cut (suc i) [] = omega arith
    length-cut (suc i) (x ∷ xs) = let r = length-cut i xs in omega arith

-- Retained elements, new keys and exchanges between two containers are fair.
use Rattle.std.proofs.Common.{◌≡◌, ℕ, suc, ◌+◌, ◌-◌, ◌<◌, ◌≤◌, ◌==◌, ◌&&◌, Bool, true, false, not, List, [], ◌∷◌, ◌++◌, length, map, take, drop}
use Rattle.std.proofs.Common.{refl, ap, sym, ◌∙◌, arith, inr, ℤ, if◌then◌else◌, length-append, take-append-drop}
use Rattle.std.proofs.lemmas.Bool.Decides.{nat_tests}
use Rattle.std.proofs.lemmas.List.{length-map}
use Rattle.sl_base.specs.declared.limits.TheConstants.{ELEMENTS}
use Rattle.sl_specs.specs.declared.class.Class.{Class}
use Rattle.sl_specs.specs.Forms.{is_hash}
use Rattle.sl_model.specs.Memory.Containers.{Cont, size, keys}
use Rattle.sl_model.specs.Memory.Edits.{Source, old, theirs, new, numbers, olds, theirs_from}
use Rattle.sl_model.specs.Memory.Orders.{same, first_places_after, first_places, other_places, sorted_entries}
use Rattle.sl_model.specs.Memory.Rearrangements.{retained, among, exchanged, received, given}
use Rattle.sl_model.specs.LibraryCalls.ListActions.{entries, merged}
use Rattle.sl_model.specs.LibraryCalls.Effects.{key_change, key_order, key_place, is_full}
use Rattle.sl_model.specs.Memory.Schedule.{scattered, put_at, after_picks}
use Rattle.sl_model.proofs.Places.{times, own_places, their_places, CountsFair, CountsFairSide}
use Rattle.sl_model.proofs.Counts.{in_turn, InTurn, one_of, lower, higher, own-append, their-append, own-old, their-old, own-theirs}
use Rattle.sl_model.proofs.Counts.{their-theirs, length-numbers, times-scattered, length-scattered, length-put, times-outside, times-numbers}
use Rattle.sl_model.proofs.Counts.{three_parts, sum_of, sum-sorted, sum-append, length-sorted}
use Rattle.sl_model.proofs.FairChanges.{IsOrder, first_once, own_olds, their_olds, length_olds}
use Rattle.sl_model.proofs.Placing.{keys-length}

-- ## Elements that alone stay

-- places that are picked out of places in turn
abbrev pub ArePicked : ℕ → ℕ → List ℕ → Type 0
ArePicked i n xs = (length xs ≤ n) × ((k : ℕ) → times k xs ≤ times k (numbers i n))

firsts_after-picked : (before : ℤ) (i : ℕ) (xs : List ℤ) → ArePicked i (length xs) (first_places_after before i xs)
firsts_after-picked before i [] = (omega arith, λ k. omega arith)
firsts_after-picked before i (x ∷ xs) = by_test (same before x) (firsts_after-picked x (i + 1) xs)
  where
    by_test : (b : Bool) → ArePicked (i + 1) (length xs) (first_places_after x (i + 1) xs)
        → ArePicked i (suc (length xs)) (if b then first_places_after x (i + 1) xs else i ∷ first_places_after x (i + 1) xs)
    by_test true r = (let l = r.0 in omega arith, λ k. let t = r.1 k in omega arith)
    by_test false r = (let l = r.0 in omega arith, λ k. let t = r.1 k in omega arith)

-- the places of the first of each group are picked out of all
pub first_places-picked : (xs : List ℤ) → ArePicked 0 (length xs) (first_places xs)
first_places-picked [] = (omega arith, λ k. omega arith)
first_places-picked (x ∷ xs) =
    let r = firsts_after-picked x 1 xs in (
      let l = r.0 in omega arith,
      λ k. let t : times k (first_places_after x 1 xs) ≤ times k (numbers 1 (length xs)) = r.1 k in
          let e : times k (numbers (0 + 1) (length xs)) ≡ times k (numbers 1 (length xs)) = refl in omega arith,
    )

-- so are the places of other numbers
pub other_places-picked : (x : ℤ) (i : ℕ) (xs : List ℤ) → ArePicked i (length xs) (other_places x i xs)
other_places-picked x i [] = (omega arith, λ k. omega arith)
other_places-picked x i (y ∷ ys) = by_test (same x y) (other_places-picked x (i + 1) ys)
  where
    by_test : (b : Bool) → ArePicked (i + 1) (length ys) (other_places x (i + 1) ys)
        → ArePicked i (suc (length ys)) (if b then other_places x (i + 1) ys else i ∷ other_places x (i + 1) ys)
    by_test true r = (let l = r.0 in omega arith, λ k. let t = r.1 k in omega arith)
    by_test false r = (let l = r.0 in omega arith, λ k. let t = r.1 k in omega arith)

-- what is counted nowhere isn't among these
among-none : (k : ℕ) (xs : List ℕ) → times k xs ≡ 0 → among k xs ≡ false
among-none k [] h = refl
among-none k (x ∷ xs) h = by_test (x == k) h (among-none k xs)
  where
    by_test : (b : Bool) → (if b then 1 else 0) + times k xs ≡ 0 → (times k xs ≡ 0 → among k xs ≡ false) → (if b then true else among k xs) ≡ false
    by_test true h rest = absurd (omega arith)
    by_test false h rest = rest (omega arith)

-- a number below another isn't that
below_not : (k n : ℕ) → k < n → (k == n) ≡ false
below_not k n low = grind (arith, nat_tests)

-- elements that alone stay are fair
pub retained-fair : (c : Cont) (order : List ℕ) → ArePicked 0 (size c) order → size c ≤ ELEMENTS → CountsFair c (retained order c)
retained-fair c order picked few = record {
  most = λ k. let o = own k in let t = picked.1 k in let m = first_once k (size c) in omega arith;
  none = λ k h. let o = own k in let t = picked.1 k in let z = times-outside k 0 (size c) (inr (omega arith)) in omega arith;
  alone = λ k. ap (times k) (their-old order);
  dies = λ k low z. goes k low (among-none k order (let o = own k in omega arith));
  few = let l : length (map (λ k. old k) order) ≡ length order = length-map order (λ k. old k) in let m = picked.0 in omega arith;
}
  where
    own : (k : ℕ) → times k (own_places (map (λ k. old k) order)) ≡ times k order
    own k = ap (times k) (own-old order)

    goes : (k : ℕ) → k < size c → among k order ≡ false → ((not (k == size c) && not (among k order)) ≡ true) × (not (among k order) ≡ true)
    goes k low e = (
      ap (λ (b : Bool). not b && not (among k order)) (below_not k (size c) low) ∙ ap (λ (b : Bool). true && not b) e,
      ap not e,
    )

-- ## New keys

-- sources cut in two
own_cut : (k n : ℕ) (xs : List Source) → times k (own_places (take n xs)) + times k (own_places (drop n xs)) ≡ times k (own_places xs)
own_cut k n xs = sym (own-append k (take n xs) (drop n xs)) ∙ ap (λ l. times k (own_places l)) (take-append-drop n xs)

their_cut : (k n : ℕ) (xs : List Source) → times k (their_places (take n xs)) + times k (their_places (drop n xs)) ≡ times k (their_places xs)
their_cut k n xs = sym (their-append k (take n xs) (drop n xs)) ∙ ap (λ l. times k (their_places l)) (take-append-drop n xs)

-- a new element put in takes no place
own_put : (k i : ℕ) (a b : ℤ) (xs : List Source) → times k (own_places (put_at i (new a b) xs)) ≡ times k (own_places xs)
own_put k i a b xs =
    let r : times k (own_places (take i xs ++ new a b ∷ drop i xs)) ≡ times k (own_places (take i xs)) + times k (own_places (drop i xs)) =
    own-append k (take i xs) (new a b ∷ drop i xs) in
    let s = own_cut k i xs in
    omega arith

their_put : (k i : ℕ) (a b : ℤ) (xs : List Source) → times k (their_places (put_at i (new a b) xs)) ≡ times k (their_places xs)
their_put k i a b xs =
    let r : times k (their_places (take i xs ++ new a b ∷ drop i xs)) ≡ times k (their_places (take i xs)) + times k (their_places (drop i xs)) =
    their-append k (take i xs) (new a b ∷ drop i xs) in
    let s = their_cut k i xs in
    omega arith

-- the old elements stand in an order of all places when a new key comes
pub key_order-all : (c : Cont) (picks : List ℕ) → IsOrder (size c) (key_order c picks)
key_order-all c picks = by_hash (is_hash c.form) (is_full c 1)
  where
    plain : IsOrder (size c) (numbers 0 (size c))
    plain = (length-numbers 0 (size c), λ k. refl)

    picked : IsOrder (size c) (scattered (after_picks 1 picks) (numbers 0 (size c)))
    picked = (
      length-scattered (after_picks 1 picks) (numbers 0 (size c)) ∙ length-numbers 0 (size c),
      λ k. times-scattered k (after_picks 1 picks) (numbers 0 (size c)),
    )

    by_hash : (h f : Bool) → IsOrder (size c)
        (if h then (if f then scattered (after_picks 1 picks) (numbers 0 (size c)) else numbers 0 (size c)) else numbers 0 (size c))
    by_hash true true = picked
    by_hash true false = plain
    by_hash false f = plain

-- a new key is fair
pub key_change-fair : (class : Class) (c : Cont) (x : ℤ × ℤ) (picks : List ℕ) → size c + 1 ≤ ELEMENTS → CountsFair c (key_change class c x picks)
key_change-fair class c x picks few = record {
  most = λ k. let o = own k in let m = first_once k (size c) in omega arith;
  none = λ k h. let o = own k in let z = times-outside k 0 (size c) (inr (omega arith)) in omega arith;
  alone = λ k. let p = their_put k (key_place c x.0 picks) x.0 x.1 (map (λ k. old k) (key_order c picks)) in
      let t : times k (their_places (map (λ k. old k) (key_order c picks))) ≡ 0 = ap (times k) (their-old (key_order c picks)) in omega arith;
  dies = λ k low z. let o = own k in let y = times-numbers k 0 (size c) (omega arith) (omega arith) in absurd (omega arith);
  few =
      let l = length-put (key_place c x.0 picks) (new x.0 x.1) (map (λ k. old k) (key_order c picks)) in
      let m : length (map (λ k. old k) (key_order c picks)) ≡ length (key_order c picks) = length-map (key_order c picks) (λ k. old k) in
      let n : length (key_order c picks) ≡ size c = (key_order-all c picks).0 in
      omega arith;
}
  where
    own : (k : ℕ) → times k (own_places (key_change class c x picks).sources) ≡ times k (numbers 0 (size c))
    own k =
        let p = own_put k (key_place c x.0 picks) x.0 x.1 (map (λ k. old k) (key_order c picks)) in
        let t : times k (own_places (map (λ k. old k) (key_order c picks))) ≡ times k (key_order c picks) = ap (times k) (own-old (key_order c picks)) in
        let n = (key_order-all c picks).1 k in
        omega arith

-- it leaves one element more
pub key_change-length : (class : Class) (c : Cont) (x : ℤ × ℤ) (picks : List ℕ) → length (key_change class c x picks).sources ≡ size c + 1
key_change-length class c x picks =
    let l = length-put (key_place c x.0 picks) (new x.0 x.1) (map (λ k. old k) (key_order c picks)) in
    let m : length (map (λ k. old k) (key_order c picks)) ≡ length (key_order c picks) = length-map (key_order c picks) (λ k. old k) in
    let n : length (key_order c picks) ≡ size c = (key_order-all c picks).0 in
    omega arith

-- ## Two containers

own_theirs : (k i n : ℕ) → times k (own_places (theirs_from i n)) ≡ 0
own_theirs k i n = ap (times k) (own-theirs (numbers i n))

their_theirs : (k i n : ℕ) → times k (their_places (theirs_from i n)) ≡ times k (numbers i n)
their_theirs k i n = ap (times k) (their-theirs (numbers i n))

pub length_theirs : (i n : ℕ) → length (theirs_from i n) ≡ n
length_theirs i n = length-map (numbers i n) (λ k. theirs k) ∙ length-numbers i n

-- what is among the first n numbers is below n
counted_below : (k n : ℕ) → 0 < times k (numbers 0 n) → k < n
counted_below k n h = by_turn (in_turn k 0 n)
  where
    by_turn : InTurn k 0 n → k < n
    by_turn (one_of a b e) = omega arith
    by_turn (lower a e) = absurd (omega arith)
    by_turn (higher a e) = absurd (omega arith)

-- an exchange of all elements is a fair side
pub exchanged-fair : (c d : Cont) → size d ≤ ELEMENTS → CountsFairSide c d (exchanged c d) (exchanged d c)
exchanged-fair c d few = record {
  most = λ k. let o = own_theirs k 0 (size d) in let t = their_theirs k 0 (size c) in let m = first_once k (size c) in omega arith;
  none = λ k h. let o = own_theirs k 0 (size d) in let t = their_theirs k 0 (size c) in
      let z = times-outside k 0 (size c) (inr (omega arith)) in omega arith;
  dies = λ k low z. let o = own_theirs k 0 (size d) in let t = their_theirs k 0 (size c) in
      let y = times-numbers k 0 (size c) (omega arith) (omega arith) in absurd (omega arith);
  lives = λ k h. let t = their_theirs k 0 (size c) in (below_not k (size c) (counted_below k (size c) (omega arith)), refl);
  few = let l = length_theirs 0 (size d) in omega arith;
}

module _ (c d : Cont) (p from count : ℕ) (within : p ≤ size c) (fits : from + count ≤ size d) where
  -- the places that the receiver and the giver take
  received_own : (k : ℕ) → times k (own_places (received p from count c).sources) ≡ times k (numbers 0 p) + times k (numbers p (size c - p))
  received_own k =
      let a : times k (own_places (olds 0 p ++ (theirs_from from count ++ olds p (size c - p))))
      ≡ times k (own_places (olds 0 p)) + times k (own_places (theirs_from from count ++ olds p (size c - p))) =
      own-append k (olds 0 p) (theirs_from from count ++ olds p (size c - p)) in
      let b : times k (own_places (theirs_from from count ++ olds p (size c - p)))
      ≡ times k (own_places (theirs_from from count)) + times k (own_places (olds p (size c - p))) =
      own-append k (theirs_from from count) (olds p (size c - p)) in
      let e = own_theirs k from count in
      let f = own_olds k 0 p in
      let g = own_olds k p (size c - p) in
      omega arith

  received_their : (k : ℕ) → times k (their_places (received p from count c).sources) ≡ times k (numbers from count)
  received_their k =
      let a : times k (their_places (olds 0 p ++ (theirs_from from count ++ olds p (size c - p))))
      ≡ times k (their_places (olds 0 p)) + times k (their_places (theirs_from from count ++ olds p (size c - p))) =
      their-append k (olds 0 p) (theirs_from from count ++ olds p (size c - p)) in
      let b : times k (their_places (theirs_from from count ++ olds p (size c - p)))
      ≡ times k (their_places (theirs_from from count)) + times k (their_places (olds p (size c - p))) =
      their-append k (theirs_from from count) (olds p (size c - p)) in
      let e = their_theirs k from count in
      let f = their_olds k 0 p in
      let g = their_olds k p (size c - p) in
      omega arith

  given_own : (k : ℕ) → times k (own_places (given from count d).sources)
      ≡ times k (numbers 0 from) + times k (numbers (from + count) (size d - (from + count)))
  given_own k =
      let a : times k (own_places (olds 0 from ++ olds (from + count) (size d - (from + count))))
      ≡ times k (own_places (olds 0 from)) + times k (own_places (olds (from + count) (size d - (from + count)))) =
      own-append k (olds 0 from) (olds (from + count) (size d - (from + count))) in
      let f = own_olds k 0 from in
      let g = own_olds k (from + count) (size d - (from + count)) in
      omega arith

  given_their : (k : ℕ) → times k (their_places (given from count d).sources) ≡ 0
  given_their k =
      let a : times k (their_places (olds 0 from ++ olds (from + count) (size d - (from + count))))
      ≡ times k (their_places (olds 0 from)) + times k (their_places (olds (from + count) (size d - (from + count)))) =
      their-append k (olds 0 from) (olds (from + count) (size d - (from + count))) in
      let f = their_olds k 0 from in
      let g = their_olds k (from + count) (size d - (from + count)) in
      omega arith

  -- the receiver takes all its places
  receiver_all : (k : ℕ) → times k (own_places (received p from count c).sources) ≡ times k (numbers 0 (size c))
  receiver_all k =
      let o = received_own k in
      let t : times k (numbers 0 p) + (times k (numbers p 0) + times k (numbers (p + 0) (size c - (p + 0)))) ≡ times k (numbers 0 (size c)) =
      three_parts k (size c) p 0 (omega arith) in
      let e : times k (numbers (p + 0) (size c - (p + 0))) ≡ times k (numbers p (size c - p)) = ap (λ n. times k (numbers n (size c - n))) (zero_more p) in
      omega arith
    where
      zero_more : (n : ℕ) → n + 0 ≡ n
      zero_more n = omega arith

  -- the giver's places stay or go over
  giver_all : (k : ℕ) → times k (own_places (given from count d).sources) + times k (their_places (received p from count c).sources)
      ≡ times k (numbers 0 (size d))
  giver_all k = let o = given_own k in let t = received_their k in let a = three_parts k (size d) from count fits in omega arith

  -- the receiver of elements is a fair side
  pub received-fair : size c + count ≤ ELEMENTS → CountsFairSide c d (received p from count c) (given from count d)
  received-fair few = record {
    most = λ k. let o = receiver_all k in let t = given_their k in let m = first_once k (size c) in omega arith;
    none = λ k h. let o = receiver_all k in let t = given_their k in let z = times-outside k 0 (size c) (inr (omega arith)) in omega arith;
    dies = λ k low z. let o = receiver_all k in let t = given_their k in
        let y = times-numbers k 0 (size c) (omega arith) (omega arith) in absurd (omega arith);
    lives = λ k h. let t = given_their k in absurd (omega arith);
    few =
        let a = length-append (olds 0 p) (theirs_from from count ++ olds p (size c - p)) in
        let b = length-append (theirs_from from count) (olds p (size c - p)) in
        let e = length_theirs from count in
        let f = length_olds 0 p in
        let g = length_olds p (size c - p) in
        omega arith;
  }

  -- the giver is a fair side
  pub given-fair : size d ≤ ELEMENTS → CountsFairSide d c (given from count d) (received p from count c)
  given-fair few = record {
    most = λ k. let o = giver_all k in let m = first_once k (size d) in omega arith;
    none = λ k h. let o = giver_all k in let z = times-outside k 0 (size d) (inr (omega arith)) in omega arith;
    dies = λ k low z. let o = giver_all k in let y = times-numbers k 0 (size d) (omega arith) (omega arith) in absurd (omega arith);
    lives = λ k h. (refl, refl);
    few =
        let a = length-append (olds 0 from) (olds (from + count) (size d - (from + count))) in
        let f = length_olds 0 from in
        let g = length_olds (from + count) (size d - (from + count)) in
        omega arith;
  }

-- ## Merged lists

-- the places behind keys, as a sum
own_sum : (k : ℕ) (xs : List (ℤ × Source)) → times k (own_places (map (λ (x : ℤ × Source). x.1) xs))
    ≡ sum_of (λ (x : ℤ × Source). times k (own_places (x.1 ∷ []))) xs
own_sum k [] = refl
own_sum k (x ∷ xs) =
    let a = own-append k (x.1 ∷ []) (map (λ (y : ℤ × Source). y.1) xs) in
    let r = own_sum k xs in
    omega arith

their_sum : (k : ℕ) (xs : List (ℤ × Source)) → times k (their_places (map (λ (x : ℤ × Source). x.1) xs))
    ≡ sum_of (λ (x : ℤ × Source). times k (their_places (x.1 ∷ []))) xs
their_sum k [] = refl
their_sum k (x ∷ xs) =
    let a = their-append k (x.1 ∷ []) (map (λ (y : ℤ × Source). y.1) xs) in
    let r = their_sum k xs in
    omega arith

-- the parts of a merge
old_own : (k i : ℕ) (xs : List ℤ) → sum_of (λ (x : ℤ × Source). times k (own_places (x.1 ∷ []))) (entries (λ k. old k) i xs) ≡ times k (numbers i (length xs))
old_own k i [] = refl
old_own k i (x ∷ xs) = let r = old_own k (i + 1) xs in omega arith

old_their : (k i : ℕ) (xs : List ℤ) → sum_of (λ (x : ℤ × Source). times k (their_places (x.1 ∷ []))) (entries (λ k. old k) i xs) ≡ 0
old_their k i [] = refl
old_their k i (x ∷ xs) = let r = old_their k (i + 1) xs in omega arith

theirs_own : (k i : ℕ) (xs : List ℤ) → sum_of (λ (x : ℤ × Source). times k (own_places (x.1 ∷ []))) (entries (λ k. theirs k) i xs) ≡ 0
theirs_own k i [] = refl
theirs_own k i (x ∷ xs) = let r = theirs_own k (i + 1) xs in omega arith

theirs_their : (k i : ℕ) (xs : List ℤ)
    → sum_of (λ (x : ℤ × Source). times k (their_places (x.1 ∷ []))) (entries (λ k. theirs k) i xs) ≡ times k (numbers i (length xs))
theirs_their k i [] = refl
theirs_their k i (x ∷ xs) = let r = theirs_their k (i + 1) xs in omega arith

length_entries : (f : ℕ → Source) (i : ℕ) (xs : List ℤ) → length (entries f i xs) ≡ length xs
length_entries f i [] = refl
length_entries f i (x ∷ xs) = ap suc (length_entries f (i + 1) xs)

module _ (c d : Cont) where
  -- what is merged
  abbrev both : List (ℤ × Source)
  both = entries (λ k. old k) 0 (keys c) ++ entries (λ k. theirs k) 0 (keys d)

  pub merged_own : (k : ℕ) → times k (own_places (merged c d).sources) ≡ times k (numbers 0 (size c))
  merged_own k =
      let a = own_sum k (sorted_entries both) in
      let b = sum-sorted (λ (x : ℤ × Source). times k (own_places (x.1 ∷ []))) both in
      let e = sum-append (λ (x : ℤ × Source). times k (own_places (x.1 ∷ []))) (entries (λ k. old k) 0 (keys c)) (entries (λ k. theirs k) 0 (keys d)) in
      let f = old_own k 0 (keys c) in
      let g = theirs_own k 0 (keys d) in
      let h : times k (numbers 0 (length (keys c))) ≡ times k (numbers 0 (size c)) = ap (λ n. times k (numbers 0 n)) (keys-length c) in
      omega arith

  pub merged_their : (k : ℕ) → times k (their_places (merged c d).sources) ≡ times k (numbers 0 (size d))
  merged_their k =
      let a = their_sum k (sorted_entries both) in
      let b = sum-sorted (λ (x : ℤ × Source). times k (their_places (x.1 ∷ []))) both in
      let e = sum-append (λ (x : ℤ × Source). times k (their_places (x.1 ∷ []))) (entries (λ k. old k) 0 (keys c)) (entries (λ k. theirs k) 0 (keys d)) in
      let f = old_their k 0 (keys c) in
      let g = theirs_their k 0 (keys d) in
      let h : times k (numbers 0 (length (keys d))) ≡ times k (numbers 0 (size d)) = ap (λ n. times k (numbers 0 n)) (keys-length d) in
      omega arith

  -- the other list gives all its elements
  gives_own : (k : ℕ) → times k (own_places (given 0 (size d) d).sources) ≡ 0
  gives_own k =
      let o = given_own d d 0 0 (size d) (omega arith) (omega arith) k in
      let a = times-outside k 0 0 (inr (omega arith)) in
      let e : size d - (0 + size d) ≡ 0 = omega arith in
      let b : times k (numbers (0 + size d) (size d - (0 + size d))) ≡ 0 = ap (λ n. times k (numbers (0 + size d) n)) e in
      omega arith

  gives_their : (k : ℕ) → times k (their_places (given 0 (size d) d).sources) ≡ 0
  gives_their k = given_their d d 0 0 (size d) (omega arith) (omega arith) k

  -- a merge is a fair side
  pub merged-fair : size c + size d ≤ ELEMENTS → CountsFairSide c d (merged c d) (given 0 (size d) d)
  merged-fair few = record {
    most = λ k. let o = merged_own k in let t = gives_their k in let m = first_once k (size c) in omega arith;
    none = λ k h. let o = merged_own k in let t = gives_their k in let z = times-outside k 0 (size c) (inr (omega arith)) in omega arith;
    dies = λ k low z. let o = merged_own k in let t = gives_their k in
        let y = times-numbers k 0 (size c) (omega arith) (omega arith) in absurd (omega arith);
    lives = λ k h. (refl, refl);
    few =
        let a : length (map (λ (x : ℤ × Source). x.1) (sorted_entries both)) ≡ length (sorted_entries both) =
        length-map (sorted_entries both) (λ (x : ℤ × Source). x.1) in
        let b = length-sorted both in
        let e = length-append (entries (λ k. old k) 0 (keys c)) (entries (λ k. theirs k) 0 (keys d)) in
        let f = length_entries (λ k. old k) 0 (keys c) in
        let g = length_entries (λ k. theirs k) 0 (keys d) in
        let h = keys-length c in
        let i = keys-length d in
        omega arith;
  }

  -- so is the other list
  pub gives-fair : CountsFairSide d c (given 0 (size d) d) (merged c d)
  gives-fair = record {
    most = λ k. let o = gives_own k in let t = merged_their k in let m = first_once k (size d) in omega arith;
    none = λ k h. let o = gives_own k in let t = merged_their k in let z = times-outside k 0 (size d) (inr (omega arith)) in omega arith;
    dies = λ k low z. let o = gives_own k in let t = merged_their k in
        let y = times-numbers k 0 (size d) (omega arith) (omega arith) in absurd (omega arith);
    lives = λ k h. (refl, refl);
    few =
        let a = length-append (olds 0 0) (olds (0 + size d) (size d - (0 + size d))) in
        let f = length_olds 0 0 in
        let g = length_olds (0 + size d) (size d - (0 + size d)) in
        omega arith;
  }

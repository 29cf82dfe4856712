-- The changes that calls make are fair: each place is taken at most once, and what isn't taken has its marks dropped.
use Rattle.std.proofs.Common.{◌≡◌, ℕ, ◌+◌, ◌-◌, ◌<◌, ◌≤◌, true, List, ◌++◌, length, map, length-append}
use Rattle.std.proofs.Common.{ap, ◌∙◌, arith, inr, ℤ}
use Rattle.std.proofs.lemmas.List.{length-map}
use Rattle.sl_base.specs.declared.limits.TheConstants.{ELEMENTS}
use Rattle.sl_specs.specs.declared.class.Class.{Class}
use Rattle.sl_model.specs.Memory.Classes.{Edit, Fits, kills, loses}
use Rattle.sl_model.specs.Memory.Containers.{Cont, size}
use Rattle.sl_model.specs.Memory.Edits.{old, new, numbers, olds, news, change_of}
use Rattle.sl_model.specs.Memory.Rearrangements.{arranged, overwrites, overwritten}
use Rattle.sl_model.specs.LibraryCalls.AccessActions.{rehashed}
use Rattle.sl_model.specs.Memory.Schedule.{scattered, after_picks}
use Rattle.sl_model.proofs.Places.{times, own_places, their_places, CountsFair}
use Rattle.sl_model.proofs.Counts.{in_turn, InTurn, one_of, lower, higher, own-append, their-append, own-old, their-old, own-news}
use Rattle.sl_model.proofs.Counts.{their-news, own-overwritten, their-overwritten, length-numbers, length-overwritten, times-scattered}
use Rattle.sl_model.proofs.Counts.{length-scattered, times-outside, times-numbers, three_parts}

-- the places of olds
pub own_olds : (k i n : ℕ) → times k (own_places (olds i n)) ≡ times k (numbers i n)
own_olds k i n = ap (times k) (own-old (numbers i n))

pub their_olds : (k i n : ℕ) → times k (their_places (olds i n)) ≡ 0
their_olds k i n = ap (times k) (their-old (numbers i n))

-- how many olds there are
pub length_olds : (i n : ℕ) → length (olds i n) ≡ n
length_olds i n = length-map (numbers i n) (λ k. old k) ∙ length-numbers i n

-- ## Edits

-- a class invalidates the iterators and references of each element that an edit takes out
abbrev pub BuriesGone : Class → Cont → Edit → Type 0
BuriesGone class c e = (k : ℕ) → e.from ≤ k → k < e.from + e.gone
    → (kills class (size c) c.room e k ≡ true) × (loses class (size c) c.room e k ≡ true)

module _ (class : Class) (c : Cont) (e : Edit) (fits : Fits e (size c)) where
  -- the elements behind those that go
  abbrev rest : ℕ
  rest = size c - (e.from + e.gone)

  -- the places that the edit takes
  edit_own : (k : ℕ) → times k (own_places (change_of class c e).sources)
      ≡ times k (numbers 0 e.from) + times k (numbers (e.from + e.gone) rest)
  edit_own k =
      let a : times k (own_places (olds 0 e.from ++ (news e.come ++ olds (e.from + e.gone) rest)))
      ≡ times k (own_places (olds 0 e.from)) + times k (own_places (news e.come ++ olds (e.from + e.gone) rest)) =
      own-append k (olds 0 e.from) (news e.come ++ olds (e.from + e.gone) rest) in
      let b : times k (own_places (news e.come ++ olds (e.from + e.gone) rest))
      ≡ times k (own_places (news e.come)) + times k (own_places (olds (e.from + e.gone) rest)) =
      own-append k (news e.come) (olds (e.from + e.gone) rest) in
      let n : times k (own_places (news e.come)) ≡ 0 = ap (times k) (own-news e.come) in
      let o : times k (own_places (olds 0 e.from)) ≡ times k (numbers 0 e.from) = own_olds k 0 e.from in
      let p : times k (own_places (olds (e.from + e.gone) rest)) ≡ times k (numbers (e.from + e.gone) rest) = own_olds k (e.from + e.gone) rest in
      omega arith

  -- it takes none of another container
  edit_their : (k : ℕ) → times k (their_places (change_of class c e).sources) ≡ 0
  edit_their k =
      let a : times k (their_places (olds 0 e.from ++ (news e.come ++ olds (e.from + e.gone) rest)))
      ≡ times k (their_places (olds 0 e.from)) + times k (their_places (news e.come ++ olds (e.from + e.gone) rest)) =
      their-append k (olds 0 e.from) (news e.come ++ olds (e.from + e.gone) rest) in
      let b : times k (their_places (news e.come ++ olds (e.from + e.gone) rest))
      ≡ times k (their_places (news e.come)) + times k (their_places (olds (e.from + e.gone) rest)) =
      their-append k (news e.come) (olds (e.from + e.gone) rest) in
      let n : times k (their_places (news e.come)) ≡ 0 = ap (times k) (their-news e.come) in
      let o : times k (their_places (olds 0 e.from)) ≡ 0 = their_olds k 0 e.from in
      let p : times k (their_places (olds (e.from + e.gone) rest)) ≡ 0 = their_olds k (e.from + e.gone) rest in
      omega arith

  -- how many elements there are after it
  pub edit-length : length (change_of class c e).sources ≡ (size c + length e.come) - e.gone
  edit-length =
      let a : length (olds 0 e.from ++ (news e.come ++ olds (e.from + e.gone) rest))
      ≡ length (olds 0 e.from) + length (news e.come ++ olds (e.from + e.gone) rest) =
      length-append (olds 0 e.from) (news e.come ++ olds (e.from + e.gone) rest) in
      let b : length (news e.come ++ olds (e.from + e.gone) rest) ≡ length (news e.come) + length (olds (e.from + e.gone) rest) =
      length-append (news e.come) (olds (e.from + e.gone) rest) in
      let n : length (news e.come) ≡ length e.come = length-map e.come (λ (x : ℤ × ℤ). new x.0 x.1) in
      let o : length (olds 0 e.from) ≡ e.from = length_olds 0 e.from in
      let p : length (olds (e.from + e.gone) rest) ≡ rest = length_olds (e.from + e.gone) rest in
      let f : e.from + e.gone ≤ size c = fits in
      omega arith

  -- an edit that buries what goes, and leaves not too many, is fair
  pub edit-fair : BuriesGone class c e → size c + length e.come ≤ ELEMENTS + e.gone → CountsFair c (change_of class c e)
  edit-fair buries few = record {
    most = λ k. let o = edit_own k in at_most k o (in_turn k 0 e.from) (in_turn k (e.from + e.gone) rest);
    none = λ k h. let o = edit_own k in outside k h o (in_turn k 0 e.from) (in_turn k (e.from + e.gone) rest);
    alone = edit_their;
    dies = λ k low z. let o = edit_own k in gone k low z o (in_turn k 0 e.from) (in_turn k (e.from + e.gone) rest);
    few = let l : length (change_of class c e).sources ≡ (size c + length e.come) - e.gone = edit-length in omega arith;
  }
    where
      f : e.from + e.gone ≤ size c
      f = fits

      at_most : (k : ℕ) → times k (own_places (change_of class c e).sources) ≡ times k (numbers 0 e.from) + times k (numbers (e.from + e.gone) rest)
          → InTurn k 0 e.from → InTurn k (e.from + e.gone) rest → times k (own_places (change_of class c e).sources) ≤ 1
      at_most k o (one_of a b c) (one_of d e f) = absurd (omega arith)
      at_most k o (one_of a b c) (lower d e) = omega arith
      at_most k o (one_of a b c) (higher d e) = omega arith
      at_most k o (lower a b) (one_of d e f) = omega arith
      at_most k o (lower a b) (lower d e) = omega arith
      at_most k o (lower a b) (higher d e) = omega arith
      at_most k o (higher a b) (one_of d e f) = omega arith
      at_most k o (higher a b) (lower d e) = omega arith
      at_most k o (higher a b) (higher d e) = omega arith

      outside : (k : ℕ) → size c ≤ k
          → times k (own_places (change_of class c e).sources) ≡ times k (numbers 0 e.from) + times k (numbers (e.from + e.gone) rest)
          → InTurn k 0 e.from → InTurn k (e.from + e.gone) rest → times k (own_places (change_of class c e).sources) ≡ 0
      outside k h o (one_of a b c) y = absurd (let g = f in omega arith)
      outside k h o (lower a b) y = absurd (omega arith)
      outside k h o (higher a b) (one_of d e x) = absurd (let g = f in omega arith)
      outside k h o (higher a b) (lower d e) = omega arith
      outside k h o (higher a b) (higher d e) = omega arith

      gone : (k : ℕ) → k < size c → times k (own_places (change_of class c e).sources) ≡ 0
          → times k (own_places (change_of class c e).sources) ≡ times k (numbers 0 e.from) + times k (numbers (e.from + e.gone) rest)
          → InTurn k 0 e.from → InTurn k (e.from + e.gone) rest
          → (kills class (size c) c.room e k ≡ true) × (loses class (size c) c.room e k ≡ true)
      gone k low z o (one_of a b x) y = absurd (omega arith)
      gone k low z o (lower a b) y = absurd (omega arith)
      gone k low z o (higher a b) (one_of d g x) = absurd (omega arith)
      gone k low z o (higher a b) (lower d g) = buries k (omega arith) (omega arith)
      gone k low z o (higher a b) (higher d g) = absurd (let h = f in omega arith)

-- ## Orders

-- nothing is taken of another container by old elements in an order
order_alone : (k : ℕ) (xs : List ℕ) → times k (their_places (map (λ k. old k) xs)) ≡ 0
order_alone k xs = ap (times k) (their-old xs)

order_own : (k : ℕ) (xs : List ℕ) → times k (own_places (map (λ k. old k) xs)) ≡ times k xs
order_own k xs = ap (times k) (own-old xs)

-- all places in an order: each is among them once
abbrev pub IsOrder : ℕ → List ℕ → Type 0
IsOrder n xs = (length xs ≡ n) × ((k : ℕ) → times k xs ≡ times k (numbers 0 n))

-- a place among the first n numbers
pub first_once : (k n : ℕ) → times k (numbers 0 n) ≤ 1
first_once k n = by_turn (in_turn k 0 n)
  where
    by_turn : InTurn k 0 n → times k (numbers 0 n) ≤ 1
    by_turn (one_of a b e) = omega arith
    by_turn (lower a e) = omega arith
    by_turn (higher a e) = omega arith

-- elements in another order are fair
pub arranged-fair : (c : Cont) (order : List ℕ) → IsOrder (size c) order → size c ≤ ELEMENTS → CountsFair c (arranged order c)
arranged-fair c order is few = record {
  most = λ k. let o = order_own k order in let t = is.1 k in let m = first_once k (size c) in omega arith;
  none = λ k h. let o = order_own k order in let t = is.1 k in let z = times-outside k 0 (size c) (inr (omega arith)) in omega arith;
  alone = λ k. order_alone k order;
  dies = λ k low z. let o = order_own k order in let t = is.1 k in let y = times-numbers k 0 (size c) (omega arith) (omega arith) in absurd (omega arith);
  few = let l : length (map (λ k. old k) order) ≡ length order = length-map order (λ k. old k) in let n : length order ≡ size c = is.0 in omega arith;
}

-- a hash form's elements in a picked order are fair
pub rehashed-fair : (c : Cont) (n : ℕ) (picks : List ℕ) → size c ≤ ELEMENTS → CountsFair c (rehashed c n picks)
rehashed-fair c n picks few = record {
  most = λ k. let o = order_own k (scattered (after_picks 1 picks) (numbers 0 (size c))) in let t = same k in let m = first_once k (size c) in omega arith;
  none = λ k h. let o = order_own k (scattered (after_picks 1 picks) (numbers 0 (size c))) in let t = same k in let z = times-outside k 0 (size c) (inr (omega arith)) in omega arith;
  alone = λ k. order_alone k (scattered (after_picks 1 picks) (numbers 0 (size c)));
  dies = λ k low z. let o = order_own k (scattered (after_picks 1 picks) (numbers 0 (size c))) in let t = same k in let y = times-numbers k 0 (size c) (omega arith) (omega arith) in absurd (omega arith);
  few =
      let l : length (map (λ k. old k) (scattered (after_picks 1 picks) (numbers 0 (size c))))
      ≡ length (scattered (after_picks 1 picks) (numbers 0 (size c)))
      = length-map (scattered (after_picks 1 picks) (numbers 0 (size c))) (λ k. old k) in
      let p : length (scattered (after_picks 1 picks) (numbers 0 (size c))) ≡ length (numbers 0 (size c)) = length-scattered (after_picks 1 picks) (numbers 0 (size c)) in
      let q : length (numbers 0 (size c)) ≡ size c = length-numbers 0 (size c) in
      omega arith;
}
  where
    same : (k : ℕ) → times k (scattered (after_picks 1 picks) (numbers 0 (size c))) ≡ times k (numbers 0 (size c))
    same k = times-scattered k (after_picks 1 picks) (numbers 0 (size c))

-- elements that are written over are fair
pub overwrites-fair : (c : Cont) (from : ℕ) (xs : List ℤ) → from + length xs ≤ size c → size c ≤ ELEMENTS → CountsFair c (overwrites from xs c)
overwrites-fair c from xs fits few = record {
  most = λ k. let o = own k in let m = first_once k (size c) in omega arith;
  none = λ k h. let o = own k in let z = times-outside k 0 (size c) (inr (omega arith)) in omega arith;
  alone = their;
  dies = λ k low z. let o = own k in let y = times-numbers k 0 (size c) (omega arith) (omega arith) in absurd (omega arith);
  few =
      let a : length (olds 0 from ++ (overwritten from xs ++ olds (from + length xs) (size c - (from + length xs))))
      ≡ length (olds 0 from) + length (overwritten from xs ++ olds (from + length xs) (size c - (from + length xs))) =
      length-append (olds 0 from) (overwritten from xs ++ olds (from + length xs) (size c - (from + length xs))) in
      let b : length (overwritten from xs ++ olds (from + length xs) (size c - (from + length xs))) ≡ length (overwritten from xs) + length (olds (from + length xs) (size c - (from + length xs))) =
      length-append (overwritten from xs) (olds (from + length xs) (size c - (from + length xs))) in
      let d : length (overwritten from xs) ≡ length xs = length-overwritten from xs in
      let e : length (olds 0 from) ≡ from = length_olds 0 from in
      let g : length (olds (from + length xs) (size c - (from + length xs))) ≡ (size c - (from + length xs)) = length_olds (from + length xs) (size c - (from + length xs)) in
      omega arith;
}
  where
    their : (k : ℕ) → times k (their_places (overwrites from xs c).sources) ≡ 0
    their k =
        let a : times k (their_places (olds 0 from ++ (overwritten from xs ++ olds (from + length xs) (size c - (from + length xs)))))
        ≡ times k (their_places (olds 0 from)) + times k (their_places (overwritten from xs ++ olds (from + length xs) (size c - (from + length xs)))) =
        their-append k (olds 0 from) (overwritten from xs ++ olds (from + length xs) (size c - (from + length xs))) in
        let b : times k (their_places (overwritten from xs ++ olds (from + length xs) (size c - (from + length xs))))
        ≡ times k (their_places (overwritten from xs)) + times k (their_places (olds (from + length xs) (size c - (from + length xs)))) =
        their-append k (overwritten from xs) (olds (from + length xs) (size c - (from + length xs))) in
        let d : times k (their_places (overwritten from xs)) ≡ 0 = ap (times k) (their-overwritten from xs) in
        let e : times k (their_places (olds 0 from)) ≡ 0 = their_olds k 0 from in
        let g : times k (their_places (olds (from + length xs) (size c - (from + length xs)))) ≡ 0 = their_olds k (from + length xs) (size c - (from + length xs)) in
        omega arith

    parts : (k : ℕ) → times k (own_places (overwrites from xs c).sources)
        ≡ times k (numbers 0 from) + (times k (numbers from (length xs)) + times k (numbers (from + length xs) (size c - (from + length xs))))
    parts k =
        let a : times k (own_places (olds 0 from ++ (overwritten from xs ++ olds (from + length xs) (size c - (from + length xs)))))
        ≡ times k (own_places (olds 0 from)) + times k (own_places (overwritten from xs ++ olds (from + length xs) (size c - (from + length xs)))) =
        own-append k (olds 0 from) (overwritten from xs ++ olds (from + length xs) (size c - (from + length xs))) in
        let b : times k (own_places (overwritten from xs ++ olds (from + length xs) (size c - (from + length xs))))
        ≡ times k (own_places (overwritten from xs)) + times k (own_places (olds (from + length xs) (size c - (from + length xs)))) =
        own-append k (overwritten from xs) (olds (from + length xs) (size c - (from + length xs))) in
        let d : times k (own_places (overwritten from xs)) ≡ times k (numbers from (length xs)) = ap (times k) (own-overwritten from xs) in
        let e : times k (own_places (olds 0 from)) ≡ times k (numbers 0 from) = own_olds k 0 from in
        let g : times k (own_places (olds (from + length xs) (size c - (from + length xs)))) ≡ times k (numbers (from + length xs) (size c - (from + length xs))) = own_olds k (from + length xs) (size c - (from + length xs)) in
        omega arith

    own : (k : ℕ) → times k (own_places (overwrites from xs c).sources) ≡ times k (numbers 0 (size c))
    own k = let p = parts k in let q = three_parts k (size c) from (length xs) fits in omega arith

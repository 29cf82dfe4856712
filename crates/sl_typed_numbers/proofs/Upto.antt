-- Numbers that go up by one.
use Rattle.std.proofs.Common.{◌≡◌, ℕ, zero, suc, ◌+◌, ◌≤◌, true, List, [], ◌∷◌, ◌++◌, length, length-append, append_assoc, refl, sym, ◌∙◌, ap, arith}
use Rattle.std.specs.Prelude.{◌==◌, nat_lt}
use Rattle.std.specs.List.{list_all}
use Rattle.std.proofs.lemmas.Bool.{and_from, lt-ltb}
use Rattle.std.proofs.lemmas.Bool.Decides.{nat_tests}
use Rattle.std.proofs.lemmas.List.{append_cancel_left}
use Rattle.sl_model.specs.Typing.WellTypedNumbers.{go_up, are_numbers_of}

-- the numbers below one
abbrev pub upto : ℕ → List ℕ
upto zero = []
upto (suc n) = upto n ++ n ∷ []

-- so many numbers from one on
abbrev pub from : ℕ → ℕ → List ℕ
from n zero = []
from n (suc k) = n ∷ from (suc n) k

pub length-upto : (n : ℕ) → length (upto n) ≡ n
length-upto zero = refl
length-upto (suc n) = let h = length-upto n in omega (arith, length-append (upto n) (n ∷ []))

-- the numbers below a sum
upto-sum : (n k m : ℕ) → m ≡ k + n → upto m ≡ upto n ++ from n k
upto-sum n zero m e = let same : m ≡ n = omega arith in rw same (sym (append_nil_of (upto n)))
  where
    append_nil_of : (l : List ℕ) → l ++ [] ≡ l
    append_nil_of [] = refl
    append_nil_of (x ∷ xs) = ap (λ (l : List ℕ). x ∷ l) (append_nil_of xs)
upto-sum n (suc k) m e =
    let h = upto-sum (suc n) k m (omega arith) in
    h ∙ append_assoc (upto n) (n ∷ []) (from (suc n) k)

-- what is added to them
pub added : (n m : ℕ) (xs : List ℕ) → upto m ≡ upto n ++ xs → xs ≡ from n (length xs)
added n m xs h =
    let l = ap (λ (l : List ℕ). length l) h in
    let e : m ≡ length xs + n = omega (arith, length-upto m, length-upto n, length-append (upto n) xs) in
    append_cancel_left (upto n) xs (from n (length xs)) (sym h ∙ upto-sum n (length xs) m e)

pub added_count : (n m : ℕ) (xs : List ℕ) → upto m ≡ upto n ++ xs → m ≡ length xs + n
added_count n m xs h =
    let l = ap (λ (l : List ℕ). length l) h in
    omega (arith, length-upto m, length-upto n, length-append (upto n) xs)

-- they go up
next : (n : ℕ) → (suc n == n + 1) ≡ true
next n = grind (arith, nat_tests)

from_goes_up : (n k : ℕ) → go_up (from n k) ≡ true
from_goes_up n zero = refl
from_goes_up n (suc zero) = refl
from_goes_up n (suc (suc k)) = and_from (suc n == n + 1) (go_up (from (suc n) (suc k))) (next n) (from_goes_up (suc n) (suc k))

-- and are below the last
from_below : (n k limit : ℕ) → k + n ≤ limit → list_all (λ x. nat_lt x limit) (from n k) ≡ true
from_below n zero limit h = refl
from_below n (suc k) limit h =
    and_from (nat_lt n limit) (list_all (λ x. nat_lt x limit) (from (suc n) k)) (lt-ltb n limit (omega arith))
    (from_below (suc n) k limit (omega arith))

-- what is added to the numbers below one are numbers of so many things
pub added_are_numbers : (n m limit : ℕ) (xs : List ℕ) → upto m ≡ upto n ++ xs → m ≤ limit → are_numbers_of limit xs ≡ true
added_are_numbers n m limit xs h few =
    let e = added n m xs h in
    let c = added_count n m xs h in
    let k = length xs in
    rw e (and_from (go_up (from n k)) (list_all (λ x. nat_lt x limit) (from n k)) (from_goes_up n k) (from_below n k limit (omega arith)))

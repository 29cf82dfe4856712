-- Bytes hold one list, or are bad at one offset, and not both; and what begins a list is what some bytes more make one.
use Rattle.std.proofs.Common.{◌≡◌, ℕ, zero, suc, ◌+◌, ◌≤◌, ◌<◌, nat_le, Bool, true, false, ◌&&◌, List, [], ◌∷◌, ◌++◌, length, map, take, drop}
use Rattle.std.proofs.Common.{All, get_or, ℤ, nat_lt, if◌then◌else◌}
use Rattle.std.proofs.Common.{Option, Some, None, is_some, refl, ap, sym, ◌∙◌, arith, ◌⊎◌, inl, inr, ⊎_elim, append-nil, append_assoc, length-append}
use Rattle.std.proofs.Common.{take-take, take_all, take-append-drop, ap₂}
use Rattle.std.specs.List.{list_all}
use Rattle.std.proofs.lemmas.List.Elements.{All-nil, All-cons}
use Rattle.std.proofs.lemmas.Bool.{cases_lt, cases_Bool, leb-true, le-leb, ltb-true, and_from, or_cases, or_left, or_right}
pub use Rattle.std.proofs.lemmas.Bool.{false_from_ne_true as not_true}
use Rattle.sl_base.specs.declared.scalar.Scalar.TheVariants as t
use Rattle.sl_model.specs.Reports.Covers.{IsInput, IsSchedule}
use Rattle.sl_model.specs.Numbers.{fits}
use Rattle.sl_model.specs.Reports.Lists.{natural_of, signed_of, passing, int_of, pick_of, LIST_NUMBERS, LIST_BYTES, words_of, ListOf}
use Rattle.sl_model.specs.Reports.Lists.{is_list, begins_list, BadAt, at_byte, at_end}
use Rattle.sl_model.proofs.ListWords.{Completes}
use Rattle.sl_model.proofs.ListParts.{parts_of, counted, told, Within, glue_none, carried, completed_parts}
use Rattle.sl_model.proofs.Passing.{first_of_both, second_of_both}

-- a list, by its parts
pub in_parts : {A : Type 0} (number : List ℕ → Option A) (bytes : List ℕ) → is_list number bytes ≡ true
    → (length bytes ≤ LIST_BYTES) × (counted (parts_of bytes) ≤ LIST_NUMBERS) × (told number (parts_of bytes) ≡ true)
in_parts number bytes h =
    let r : (nat_le (counted (parts_of bytes)) LIST_NUMBERS && told number (parts_of bytes)) ≡ true
    = second_of_both (nat_le (length bytes) LIST_BYTES) _ h in (
      leb-true (length bytes) LIST_BYTES (first_of_both (nat_le (length bytes) LIST_BYTES) _ h),
      leb-true (counted (parts_of bytes)) LIST_NUMBERS (first_of_both (nat_le (counted (parts_of bytes)) LIST_NUMBERS) _ r),
      second_of_both (nat_le (counted (parts_of bytes)) LIST_NUMBERS) _ r,
    )

pub from_parts : {A : Type 0} (number : List ℕ → Option A) (bytes : List ℕ) → length bytes ≤ LIST_BYTES → counted (parts_of bytes) ≤ LIST_NUMBERS
    → told number (parts_of bytes) ≡ true → is_list number bytes ≡ true
from_parts number bytes short few h = and_from (nat_le (length bytes) LIST_BYTES) _ (le-leb (length bytes) LIST_BYTES short)
    (and_from (nat_le (counted (parts_of bytes)) LIST_NUMBERS) _ (le-leb (counted (parts_of bytes)) LIST_NUMBERS few) h)

-- bytes that some more make a list begin one
pub completed : {A : Type 0} (number : List ℕ → Option A) → Completes number → (bytes more : List ℕ) → is_list number (bytes ++ more) ≡ true
    → begins_list number bytes ≡ true
completed number completes bytes [] h = or_left (is_list number bytes) _ (ap (is_list number) (sym (append-nil bytes)) ∙ h)
completed number completes bytes (m ∷ more) h =
    let r = in_parts number (bytes ++ m ∷ more) h in
    let l : length (bytes ++ m ∷ more) ≡ length bytes + length (m ∷ more) = length-append bytes (m ∷ more) in
    let l' : length (bytes ++ 48 ∷ []) ≡ length bytes + 1 = length-append bytes (48 ∷ []) in
    ⊎_elim
    (λ (a : Within number (parts_of bytes) (parts_of (bytes ++ m ∷ more))). or_left (is_list number bytes) _
    (from_parts number bytes (omega (arith, r.0)) (omega (arith, r.1, a.1)) a.0))
    (λ (a : Within number (parts_of (bytes ++ 48 ∷ [])) (parts_of (bytes ++ m ∷ more))). or_right (is_list number bytes) _
    (from_parts number (bytes ++ 48 ∷ []) (omega (arith, r.0)) (omega (arith, r.1, a.1)) a.0))
    (carried number (glue_none (parts_of bytes)) (glue_none (parts_of (bytes ++ 48 ∷ []))) (glue_none (parts_of (bytes ++ m ∷ more)))
    (completed_parts number completes bytes (m ∷ more) [] (ap (told number) (glue_none (parts_of (bytes ++ m ∷ more))) ∙ r.2)))

-- what begins a list is the front of one
pub front_of_list : {A : Type 0} (number : List ℕ → Option A) (bytes : List ℕ) → begins_list number bytes ≡ true
    → (more : List ℕ) × (is_list number (bytes ++ more) ≡ true)
front_of_list number bytes h = ⊎_elim (λ (a : is_list number bytes ≡ true). ([], ap (is_list number) (append-nil bytes) ∙ a))
    (λ (a : is_list number (bytes ++ 48 ∷ []) ≡ true). (48 ∷ [], a)) (or_cases (is_list number bytes) (is_list number (bytes ++ 48 ∷ [])) h)

-- the front of what begins a list begins one
pub front_begins : {A : Type 0} (number : List ℕ → Option A) → Completes number → (bytes more : List ℕ) → begins_list number (bytes ++ more) ≡ true
    → begins_list number bytes ≡ true
front_begins number completes bytes more h = ⊎_elim (λ (a : is_list number (bytes ++ more) ≡ true). completed number completes bytes more a)
    (λ (a : is_list number ((bytes ++ more) ++ 48 ∷ []) ≡ true). completed number completes bytes (more ++ 48 ∷ [])
    (ap (is_list number) (sym (append_assoc bytes more (48 ∷ []))) ∙ a))
    (or_cases (is_list number (bytes ++ more)) (is_list number ((bytes ++ more) ++ 48 ∷ [])) h)

shorter_begins : {A : Type 0} (number : List ℕ → Option A) → Completes number → (bytes : List ℕ) (i j : ℕ) → i ≤ j
    → begins_list number (take j bytes) ≡ true → begins_list number (take i bytes) ≡ true
shorter_begins number completes bytes i j le h = ap (begins_list number) (sym (take-take i j bytes le))
    ∙ front_begins number completes (take i (take j bytes)) (drop i (take j bytes))
    (ap (begins_list number) (take-append-drop i (take j bytes)) ∙ h)

-- the words that are numbers are as many as these
all_some : {A : Type 0} (number : List ℕ → Option A) (words : List (List ℕ)) (numbers : List A) → map number words ≡ map Some numbers
    → (list_all (λ w. is_some (number w)) words ≡ true) × (length words ≡ length numbers)
all_some number [] [] e = (refl, refl)
all_some number [] (x ∷ xs) e = absurd (cc)
all_some number (w ∷ ws) [] e = absurd (cc)
all_some number (w ∷ ws) (x ∷ xs) e =
    let first : number w ≡ Some x = cc in
    let others : map number ws ≡ map Some xs = cc in
    let r = all_some number ws xs others in
    (and_from (is_some (number w)) _ (ap is_some first) r.0, ap suc r.1)

-- bytes that hold the list of some numbers hold a list
pub list_is : {A : Type 0} (number : List ℕ → Option A) (bytes : List ℕ) (numbers : List A) → ListOf number bytes numbers
    → is_list number bytes ≡ true
list_is number bytes numbers l =
    let r = all_some number (words_of bytes) numbers l.each in from_parts number bytes l.short (omega (arith, l.few, r.1)) r.0

same_numbers : {A : Type 0} (xs ys : List A) → map Some xs ≡ map Some ys → xs ≡ ys
same_numbers [] [] e = refl
same_numbers [] (y ∷ ys) e = absurd (cc)
same_numbers (x ∷ xs) [] e = absurd (cc)
same_numbers (x ∷ xs) (y ∷ ys) e = let first : x ≡ y = cc in let others : xs ≡ ys = same_numbers xs ys (cc) in cc

-- bytes hold one list
pub one_list : {A : Type 0} (number : List ℕ → Option A) (bytes : List ℕ) (xs ys : List A) → ListOf number bytes xs → ListOf number bytes ys → xs ≡ ys
one_list number bytes xs ys a b = same_numbers xs ys (sym a.each ∙ b.each)

-- a number before others
first_number : {A : Type 0} (number : List ℕ → Option A) (w : List ℕ) (ws : List (List ℕ)) (n : Option A) → number w ≡ n
    → (is_some n && list_all (λ w. is_some (number w)) ws) ≡ true
    → (list_all (λ w. is_some (number w)) ws ≡ true → (numbers : List A) × (map number ws ≡ map Some numbers))
    → (numbers : List A) × (map number (w ∷ ws) ≡ map Some numbers)
first_number number w ws None e h others = absurd (cc)
first_number number w ws (Some x) e h others = let r = others h in (x ∷ r.0, ap₂ (λ a b. a ∷ b) e r.1)

-- words that are all numbers are those of some numbers
numbers_of : {A : Type 0} (number : List ℕ → Option A) (words : List (List ℕ)) → list_all (λ w. is_some (number w)) words ≡ true
    → (numbers : List A) × (map number words ≡ map Some numbers)
numbers_of number [] h = ([], refl)
numbers_of number (w ∷ ws) h = first_number number w ws (number w) refl h (numbers_of number ws)

-- bytes that hold a list hold that of some numbers
pub list_of : {A : Type 0} (number : List ℕ → Option A) (bytes : List ℕ) → is_list number bytes ≡ true
    → (numbers : List A) × ListOf number bytes numbers
list_of number bytes h =
    let r = in_parts number bytes h in
    let n = numbers_of number (words_of bytes) r.2 in
    (n.0, record { short = r.0; few = omega (arith, r.1, (all_some number (words_of bytes) n.0 n.1).1); each = n.1 })

-- what begins a list behind a bad byte
none_behind : {A : Type 0} (number : List ℕ → Option A) → Completes number → (bytes : List ℕ) (i j : ℕ) → i < j
    → begins_list number (take (i + 1) bytes) ≡ false → begins_list number (take j bytes) ≡ true → ⊥
none_behind number completes bytes i j lt bad h = let r = shorter_begins number completes bytes (i + 1) j (omega arith) h in absurd (cc)

none_in_all : {A : Type 0} (number : List ℕ → Option A) → Completes number → (bytes : List ℕ) (i : ℕ) → i < length bytes
    → begins_list number (take (i + 1) bytes) ≡ false → begins_list number bytes ≡ true → ⊥
none_in_all number completes bytes i lt bad h =
    none_behind number completes bytes i (length bytes) lt bad (ap (begins_list number) (take_all (length bytes) bytes (omega arith)) ∙ h)

-- what is bad is no list
pub bad_is_none : {A : Type 0} (number : List ℕ → Option A) → Completes number → (bytes : List ℕ) (i : ℕ) → BadAt number bytes i
    → is_list number bytes ≡ false
bad_is_none number completes bytes _ (at_byte i below front bad) =
    not_true (is_list number bytes) (λ h. none_in_all number completes bytes i below bad (or_left (is_list number bytes) _ h))
bad_is_none number completes bytes _ (at_end front bad) = bad

-- bytes are bad at one offset
pub one_offset : {A : Type 0} (number : List ℕ → Option A) → Completes number → (bytes : List ℕ) (i j : ℕ) → BadAt number bytes i
    → BadAt number bytes j → i ≡ j
one_offset number completes bytes _ _ (at_byte i below front bad) (at_byte j below' front' bad') =
    ⊎_elim (λ (lt : i < j). absurd (none_behind number completes bytes i j lt bad front'))
    (λ (le : j ≤ i). ⊎_elim (λ (lt : j < i). absurd (none_behind number completes bytes j i lt bad' front)) (λ (ge : i ≤ j). omega (arith, le, ge))
    (cases_lt j i)) (cases_lt i j)
one_offset number completes bytes _ _ (at_byte i below front bad) (at_end front' bad') =
    absurd (none_in_all number completes bytes i below bad front')
one_offset number completes bytes _ _ (at_end front bad) (at_byte j below' front' bad') =
    absurd (none_in_all number completes bytes j below' bad' front)
one_offset number completes bytes _ _ (at_end front bad) (at_end front' bad') = refl

-- from an offset before which the bytes begin a list, they begin one on to their end, or are bad
from_offset : {A : Type 0} (number : List ℕ → Option A) (bytes : List ℕ) (more i : ℕ) → i + more ≡ length bytes
    → begins_list number (take i bytes) ≡ true → (begins_list number bytes ≡ true) ⊎ ((i : ℕ) × BadAt number bytes i)
from_offset number bytes zero i e h = inl (ap (begins_list number) (sym (take_all i bytes (omega (arith, e)))) ∙ h)
from_offset number bytes (suc more) i e h = ⊎_elim
    (λ (a : begins_list number (take (i + 1) bytes) ≡ true). from_offset number bytes more (i + 1) (omega (arith, e)) a)
    (λ (a : begins_list number (take (i + 1) bytes) ≡ false). inr (i, at_byte i (omega (arith, e)) h a))
    (cases_Bool (begins_list number (take (i + 1) bytes)))

-- bytes hold a list or are bad
pub list_or_bad : {A : Type 0} (number : List ℕ → Option A) (bytes : List ℕ) → (is_list number bytes ≡ true) ⊎ ((i : ℕ) × BadAt number bytes i)
list_or_bad number bytes = ⊎_elim
    (λ (a : begins_list number bytes ≡ true).
    ⊎_elim (λ (h : is_list number bytes ≡ true). inl h) (λ (h : is_list number bytes ≡ false). inr (length bytes, at_end a h))
    (cases_Bool (is_list number bytes)))
    (λ (bad : (i : ℕ) × BadAt number bytes i). inr bad)
    (from_offset number bytes (length bytes) 0 (omega arith) refl)

-- a number that passed a test passes it
passed_test : {A : Type 0} (test : A → Bool) (c : Bool) (x y : A) → test x ≡ c → (if c then Some x else None) ≡ Some y → test y ≡ true
passed_test test true x y e h = let same : x ≡ y = cc in ap test (sym same) ∙ e
passed_test test false x y e h = absurd (cc)

passing_passes : {A : Type 0} (test : A → Bool) (n : Option A) (y : A) → passing test n ≡ Some y → test y ≡ true
passing_passes test None y h = absurd (cc)
passing_passes test (Some x) y h = passed_test test (test x) x y refl h

all_pass : {A : Type 0} (test : A → Bool) (read : List ℕ → Option A) (words : List (List ℕ)) (numbers : List A)
    → map (λ w. passing test (read w)) words ≡ map Some numbers → All (λ x. test x ≡ true) numbers
all_pass test read words [] e = All-nil (λ x. test x ≡ true)
all_pass test read [] (x ∷ xs) e = absurd (cc)
all_pass test read (w ∷ ws) (x ∷ xs) e =
    All-cons (λ x. test x ≡ true) x xs (passing_passes test (read w) x (cc)) (all_pass test read ws xs (cc))

-- what an input holds a run can read
pub input_of_list : (bytes : List ℕ) (numbers : List ℤ) → ListOf int_of bytes numbers → IsInput numbers
input_of_list bytes numbers l = all_pass (fits t.Int) signed_of (words_of bytes) numbers l.each

-- what a schedule holds a run can pick
pub schedule_of_list : (bytes numbers : List ℕ) → ListOf pick_of bytes numbers → IsSchedule numbers
schedule_of_list bytes numbers l =
    λ k d h. ltb-true (get_or numbers k d) 4294967296 (all_pass (λ n. nat_lt n 4294967296) natural_of (words_of bytes) numbers l.each k d h)

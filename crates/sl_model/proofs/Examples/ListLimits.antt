-- Lists at their limits. So many bytes may be blanks, and one more is bad; so many numbers may stand, and a byte of one more is bad; and a `-`
-- is bad at itself where no digit can follow it any more.
use Rattle.std.proofs.Common.{◌≡◌, ℕ, zero, suc, ◌+◌, ◌≤◌, ◌<◌, Bool, true, false, ◌||◌, List, [], ◌∷◌, ◌++◌, length, take, replicate, Option}
use Rattle.std.proofs.Common.{is_some, refl, ap, ◌∙◌, subst, arith, length-append}
use Rattle.std.specs.List.{list_all}
use Rattle.std.proofs.lemmas.List.{length-replicate, take-replicate}
use Rattle.std.proofs.Math.Seq.{take-append_seam, take-length}
use Rattle.sl_model.specs.Reports.Lists.{LIST_NUMBERS, LIST_BYTES, words_of, int_of, is_list, begins_list, BadAt, at_byte}
use Rattle.sl_model.proofs.ListParts.{told, parts_of}
use Rattle.sl_model.proofs.ListLaws.{in_parts, from_parts, not_true}

-- what is too long is no list, nor what has too many words
too_long : {A : Type 0} (number : List ℕ → Option A) (bytes : List ℕ) → LIST_BYTES < length bytes → is_list number bytes ≡ false
too_long number bytes h =
    not_true (is_list number bytes) (λ l. let r : length bytes ≤ LIST_BYTES = (in_parts number bytes l).0 in omega (arith, h, r))

too_many : {A : Type 0} (number : List ℕ → Option A) (bytes : List ℕ) → LIST_NUMBERS < length (words_of bytes) → is_list number bytes ≡ false
too_many number bytes h =
    not_true (is_list number bytes) (λ l. let r : length (words_of bytes) ≤ LIST_NUMBERS = (in_parts number bytes l).1 in omega (arith, h, r))

begins : {A : Type 0} (number : List ℕ → Option A) (bytes : List ℕ) → is_list number bytes ≡ true → begins_list number bytes ≡ true
begins number bytes h = ap (λ (b : Bool). b || is_list number (bytes ++ 48 ∷ [])) h

begins_none : {A : Type 0} (number : List ℕ → Option A) (bytes : List ℕ) → is_list number bytes ≡ false → is_list number (bytes ++ 48 ∷ []) ≡ false
    → begins_list number bytes ≡ false
begins_none number bytes h k = ap (λ (b : Bool). b || is_list number (bytes ++ 48 ∷ [])) h ∙ k

-- so many blanks
abbrev blanks : ℕ → List ℕ
blanks n = replicate n 32

-- blanks before bytes are no words
words_behind_blanks : (n : ℕ) (bytes : List ℕ) → words_of (blanks n ++ bytes) ≡ words_of bytes
words_behind_blanks zero bytes = refl
words_behind_blanks (suc n) bytes = words_behind_blanks n bytes

words_of_blanks : (n : ℕ) → words_of (blanks n) ≡ []
words_of_blanks zero = refl
words_of_blanks (suc n) = words_of_blanks n

length_of_blanks : (n : ℕ) → length (blanks n) ≡ n
length_of_blanks n = length-replicate n 32

-- as many blanks as a list may have bytes
blanks_are_list : {A : Type 0} (number : List ℕ → Option A) (n : ℕ) → n ≤ LIST_BYTES → is_list number (blanks n) ≡ true
blanks_are_list number n h =
    let words : length (words_of (blanks n)) ≡ 0 = ap length (words_of_blanks n) in
    let bytes : length (blanks n) ≡ n = length_of_blanks n in
    from_parts number (blanks n) (omega (arith, h, bytes)) (omega (arith, words)) (ap (list_all (λ w. is_some (number w))) (words_of_blanks n))

take_blanks : (k n : ℕ) → k ≤ n → take k (blanks n) ≡ blanks k
take_blanks k n h = take-replicate k n 32 h

-- the first byte past the limit is bad
one_blank_more : {A : Type 0} (number : List ℕ → Option A) (limit n : ℕ) → limit ≡ LIST_BYTES → limit < n → BadAt number (blanks n) limit
one_blank_more number limit n e h =
    let bytes : length (blanks (limit + 1)) ≡ limit + 1 = length_of_blanks (limit + 1) in
    let longer : length (blanks (limit + 1) ++ 48 ∷ []) ≡ length (blanks (limit + 1)) + 1 = length-append (blanks (limit + 1)) (48 ∷ []) in
    at_byte limit (omega (arith, h, length_of_blanks n))
    (ap (begins_list number) (take_blanks limit n (omega (arith, h)))
    ∙ begins number (blanks limit) (blanks_are_list number limit (omega (arith, e))))
    (ap (begins_list number) (take_blanks (limit + 1) n (omega (arith, h))) ∙ begins_none number (blanks (limit + 1))
    (too_long number (blanks (limit + 1)) (omega (arith, e, bytes)))
    (too_long number (blanks (limit + 1) ++ 48 ∷ []) (omega (arith, e, bytes, longer))))

-- a `-` that is the last byte of the limit can't be completed
late_minus : (n : ℕ) → n + 1 ≡ LIST_BYTES → BadAt int_of (blanks n ++ 45 ∷ []) n
late_minus n e =
    let bytes : length (blanks n) ≡ n = length_of_blanks n in
    let with_minus : length (blanks n ++ 45 ∷ []) ≡ length (blanks n) + 1 = length-append (blanks n) (45 ∷ []) in
    let longer : length ((blanks n ++ 45 ∷ []) ++ 48 ∷ []) ≡ length (blanks n ++ 45 ∷ []) + 1
    = length-append (blanks n ++ 45 ∷ []) (48 ∷ []) in
    let words : told int_of (parts_of (blanks n ++ 45 ∷ [])) ≡ false
    = ap (list_all (λ w. is_some (int_of w))) (words_behind_blanks n (45 ∷ [])) in
    at_byte n (omega (arith, bytes, with_minus))
    (ap (begins_list int_of) (front n bytes) ∙ begins int_of (blanks n) (blanks_are_list int_of n (omega (arith, e))))
    (ap (begins_list int_of) (whole (n + 1) (omega (arith, bytes, with_minus))) ∙ begins_none int_of (blanks n ++ 45 ∷ [])
    (not_true (is_list int_of (blanks n ++ 45 ∷ []))
    (λ l. let r : told int_of (parts_of (blanks n ++ 45 ∷ [])) ≡ true = (in_parts int_of (blanks n ++ 45 ∷ []) l).2 in absurd (cc)))
    (too_long int_of ((blanks n ++ 45 ∷ []) ++ 48 ∷ []) (omega (arith, e, bytes, with_minus, longer))))
  where
    front : (k : ℕ) → length (blanks n) ≡ k → take k (blanks n ++ 45 ∷ []) ≡ blanks n
    front k h =
        subst (λ (j : ℕ). take j (blanks n ++ 45 ∷ []) ≡ blanks n) h (take-append_seam (blanks n) (45 ∷ []))

    whole : (k : ℕ) → length (blanks n ++ 45 ∷ []) ≡ k → take k (blanks n ++ 45 ∷ []) ≡ blanks n ++ 45 ∷ []
    whole k h = subst (λ (j : ℕ). take j (blanks n ++ 45 ∷ []) ≡ blanks n ++ 45 ∷ []) h (take-length (blanks n ++ 45 ∷ []))

-- a 1 and a blank so many times, before bytes
abbrev ones : ℕ → List ℕ → List ℕ
ones zero bytes = bytes
ones (suc n) bytes = 49 ∷ 32 ∷ ones n bytes

words_of_ones : (n : ℕ) (bytes : List ℕ) → length (words_of (ones n bytes)) ≡ n + length (words_of bytes)
words_of_ones zero bytes = omega arith
words_of_ones (suc n) bytes = omega (arith, words_of_ones n bytes)

told_ones : (n : ℕ) (bytes : List ℕ) → told int_of (parts_of (ones n bytes)) ≡ told int_of (parts_of bytes)
told_ones zero bytes = refl
told_ones (suc n) bytes = told_ones n bytes

length_of_ones : (n : ℕ) (bytes : List ℕ) → length (ones n bytes) ≡ n + n + length bytes
length_of_ones zero bytes = omega arith
length_of_ones (suc n) bytes = omega (arith, length_of_ones n bytes)

ones_before : (n : ℕ) (bytes more : List ℕ) → ones n bytes ++ more ≡ ones n (bytes ++ more)
ones_before zero bytes more = refl
ones_before (suc n) bytes more = ap (λ (rest : List ℕ). 49 ∷ 32 ∷ rest) (ones_before n bytes more)

take_ones : (n : ℕ) (bytes : List ℕ) → take (n + n) (ones n bytes) ≡ ones n []
take_ones n bytes = subst (λ (all : List ℕ). take (n + n) all ≡ ones n []) (ones_before n [] bytes)
    (subst (λ (k : ℕ). take k (ones n [] ++ bytes) ≡ ones n []) (omega (arith, length_of_ones n [])) (take-append_seam (ones n []) bytes))

-- as many numbers as a list may have
ones_are_list : (n : ℕ) → n ≤ LIST_NUMBERS → is_list int_of (ones n []) ≡ true
ones_are_list n h =
    from_parts int_of (ones n []) (omega (arith, h, length_of_ones n [])) (omega (arith, h, words_of_ones n [])) (told_ones n [])

-- of the number past the limit the first byte is bad, also where that is a `-`
one_number_more : (n b : ℕ) → n ≡ LIST_NUMBERS → length (words_of (b ∷ [])) ≡ 1 → length (words_of (b ∷ 48 ∷ [])) ≡ 1
    → BadAt int_of (ones n (b ∷ [])) (n + n)
one_number_more n b e one one' = at_byte (n + n) (omega (arith, length_of_ones n (b ∷ [])))
    (ap (begins_list int_of) (take_ones n (b ∷ [])) ∙ begins int_of (ones n []) (ones_are_list n (omega (arith, e))))
    (ap (begins_list int_of) (whole (n + n + 1) (omega (arith, length_of_ones n (b ∷ [])))) ∙ begins_none int_of (ones n (b ∷ []))
    (too_many int_of (ones n (b ∷ [])) (omega (arith, e, one, words_of_ones n (b ∷ []))))
    (ap (is_list int_of) (ones_before n (b ∷ []) (48 ∷ []))
    ∙ too_many int_of (ones n (b ∷ 48 ∷ [])) (omega (arith, e, one', words_of_ones n (b ∷ 48 ∷ [])))))
  where
    whole : (k : ℕ) → length (ones n (b ∷ [])) ≡ k → take k (ones n (b ∷ [])) ≡ ones n (b ∷ [])
    whole k h = subst (λ (j : ℕ). take j (ones n (b ∷ [])) ≡ ones n (b ∷ [])) h (take-length (ones n (b ∷ [])))

one_digit_more : (n : ℕ) → n ≡ LIST_NUMBERS → BadAt int_of (ones n (49 ∷ [])) (n + n)
one_digit_more n e = one_number_more n 49 e refl refl

one_minus_more : (n : ℕ) → n ≡ LIST_NUMBERS → BadAt int_of (ones n (45 ∷ [])) (n + n)
one_minus_more n e = one_number_more n 45 e refl refl

-- What list of numbers the bytes of an input or of a schedule hold, and where bytes stop being one.
--
-- No standard says any of it; all of it is chosen here. A list is words with blanks between them, and blanks may stand before and behind
-- them; it may be empty. A word of an input is an int in decimal: digits, or a `-` and digits. A word of a schedule is digits, and a number
-- below 2 to the 32. Leading zeros may stand, and `-0` is an int. A list has at most 100,000 numbers and 4,194,304 bytes.
-- Bytes that are no list are bad at the first byte at which they can't be completed to one any more; where all of them can be, at their end.
use Rattle.std.specs.Prelude.{ℕ, ◌+◌, ◌<◌, ◌≤◌, ◌^◌, ◌==◌, ◌≡◌, nat_lt, nat_le, Bool, true, false, ◌&&◌, ◌||◌, IsTrue, IsFalse, if◌then◌else◌}
use Rattle.std.specs.Prelude.{List, [], ◌∷◌, ◌++◌, length, map, take, drop, filter, Option, Some, None, option_map, is_some, ℤ, pos, neg_ℤ}
use Rattle.std.specs.List.{list_all, slice_split}
use Rattle.std.specs.Str.Parse.{digits_value}
use Rattle.sl_base.specs.Bytes.{is_blank, is_digit, begins}
use Rattle.sl_base.specs.declared.scalar.Scalar.TheVariants as t
use Rattle.sl_model.specs.Numbers.{fits}

-- how many numbers a list may have
abbrev pub LIST_NUMBERS : ℕ
LIST_NUMBERS = 100000

-- how many bytes it may have
abbrev pub LIST_BYTES : ℕ
LIST_BYTES = 4194304

-- there is a byte
abbrev pub is_filled : List ℕ → Bool
is_filled [] = false
is_filled (b ∷ bs) = true

-- the words of bytes: what stands between blanks
abbrev pub words_of : List ℕ → List (List ℕ)
words_of bytes = filter is_filled (slice_split is_blank bytes)

-- the number that digits write, one at least
abbrev pub natural_of : List ℕ → Option ℕ
natural_of word = if is_filled word && list_all is_digit word then Some (digits_value 10 word) else None

-- the number that digits write, behind a `-` or not
abbrev pub signed_of : List ℕ → Option ℤ
signed_of word = if begins (λ b. b == 45) word then option_map (λ n. neg_ℤ (pos n)) (natural_of (drop 1 word)) else option_map pos (natural_of word)

-- a number that passes a test
abbrev pub passing : {A : Type 0} → (A → Bool) → Option A → Option A
passing test None = None
passing test (Some x) = if test x then Some x else None

-- the number of a word of an input
abbrev pub int_of : List ℕ → Option ℤ
int_of word = passing (fits t.Int) (signed_of word)

-- the number of a word of a schedule
abbrev pub pick_of : List ℕ → Option ℕ
pick_of word = passing (λ n. nat_lt n (2 ^ 32)) (natural_of word)

-- the bytes hold the list of these numbers, where `number` says which number a word is
pub record ListOf {A : Type 0} (number : List ℕ → Option A) (bytes : List ℕ) (numbers : List A) : Type 0 where
  pub short : length bytes ≤ LIST_BYTES
  pub few : length numbers ≤ LIST_NUMBERS
  pub each : map number (words_of bytes) ≡ map Some numbers

-- the bytes hold a list
abbrev pub is_list : {A : Type 0} → (List ℕ → Option A) → List ℕ → Bool
is_list number bytes =
    nat_le (length bytes) LIST_BYTES && (nat_le (length (words_of bytes)) LIST_NUMBERS && list_all (λ w. is_some (number w)) (words_of bytes))

-- The bytes begin a list: they are one, or a digit more makes them one. A list that some bytes more make is one that a 0 makes too.
abbrev pub begins_list : {A : Type 0} → (List ℕ → Option A) → List ℕ → Bool
begins_list number bytes = is_list number bytes || is_list number (bytes ++ 48 ∷ [])

-- the offset at which bytes are bad: those before it begin a list, and those up to and including it don't; or all begin one, and are none
pub data BadAt {A : Type 0} (number : List ℕ → Option A) (bytes : List ℕ) : ℕ → Type 0 where
  at_byte : (at : ℕ) → at < length bytes → IsTrue (begins_list number (take at bytes)) → IsFalse (begins_list number (take (at + 1) bytes))
      → BadAt number bytes at
  at_end : IsTrue (begins_list number bytes) → IsFalse (is_list number bytes) → BadAt number bytes (length bytes)

-- How a list is read byte by byte: the word at the end of the bytes so far, and the numbers of the words before it.
use Rattle.std.specs.Prelude.{ℕ, ◌+◌, ◌-◌, ◌*◌, ◌==◌, nat_lt, nat_le, Bool, true, false, ◌&&◌, List, [], ◌∷◌, ◌++◌, length, Option, Some, None}
use Rattle.std.specs.Prelude.{option_map, ℤ, pos, neg_ℤ, if◌then◌else◌}
use Rattle.sl_base.specs.Bytes.{is_blank, is_digit}
use Rattle.sl_model.specs.Reports.Lists.{LIST_NUMBERS, LIST_BYTES}
use Rattle.sl_lists.specs.declared.kind.Kind.{Kind}
use Rattle.sl_lists.specs.declared.kind.Kind.TheVariants as k
use Rattle.sl_lists.specs.declared.word.Word.{Word}
use Rattle.sl_lists.specs.declared.word.Word.TheVariants as w

-- a `-` may stand before digits
abbrev pub is_signed : Kind → Bool
is_signed k.Input = true
is_signed k.Schedule = false

-- the greatest number that digits may write in an input
abbrev pub greatest_int : Bool → ℕ
greatest_int negative = if negative then 2147483648 else 2147483647

-- the greatest number that digits may write
abbrev pub greatest : Kind → Bool → ℕ
greatest k.Input negative = greatest_int negative
greatest k.Schedule negative = 4294967295

-- a number with its sign
abbrev pub signed : Bool → ℕ → ℤ
signed negative n = if negative then neg_ℤ (pos n) else pos n

-- digits that write a number, where it isn't too great
abbrev pub digits_of : Kind → Bool → ℕ → Option Word
digits_of kind negative value = if nat_le value (greatest kind negative) then Some (w.Digits negative value) else None

-- digits with one more
abbrev pub digit_after : Kind → Bool → ℕ → ℕ → Option Word
digit_after kind negative value b = if is_digit b then digits_of kind negative (value * 10 + (b - 48)) else None

-- a `-` needs a byte more
abbrev pub minus_at : ℕ → Option Word
minus_at at = if nat_lt at 4194303 then Some w.Minus else None

-- the word that a byte begins
abbrev pub begun : Kind → ℕ → ℕ → Option Word
begun kind at b = if is_signed kind && b == 45 then minus_at at else digit_after kind false 0 b

-- the same where there are so many numbers before it
abbrev pub first_after : Kind → ℕ → ℕ → ℕ → Option Word
first_after kind at count b = if nat_lt count LIST_NUMBERS then begun kind at b else None

-- the word after a byte that is no blank
abbrev pub word_after : Kind → ℕ → ℕ → Word → ℕ → Option Word
word_after kind at count w.Blank b = first_after kind at count b
word_after kind at count w.Minus b = digit_after kind true 0 b
word_after kind at count (w.Digits negative value) b = digit_after kind negative value b

-- the numbers with that of a word that ends
abbrev pub with_word : List ℤ → Word → Option (List ℤ)
with_word numbers w.Blank = Some numbers
with_word numbers w.Minus = None
with_word numbers (w.Digits negative value) = Some (numbers ++ signed negative value ∷ [])

-- the numbers and the word after the byte at an offset
abbrev pub stepped : Kind → ℕ → List ℤ → Word → ℕ → Option (List ℤ × Word)
stepped kind at numbers word b =
    if nat_le LIST_BYTES at then None else if is_blank b then option_map (λ ns. (ns, w.Blank)) (with_word numbers word)
    else option_map (λ next. (numbers, next)) (word_after kind at (length numbers) word b)

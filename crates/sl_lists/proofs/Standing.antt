-- What is kept while a list is read, and what a byte more does to it.
use Rattle.std.proofs.Common.{◌≡◌, ℕ, ◌≤◌, ◌<◌, Bool, true, false, List, [], ◌∷◌, ◌++◌, length, map, filter, Option, Some, None, ℤ, if◌then◌else◌}
use Rattle.std.specs.List.{list_all}
use Rattle.std.specs.Str.Parse.{digits_value}
use Rattle.sl_base.specs.Bytes.{is_digit}
use Rattle.sl_model.specs.Reports.Lists.{is_filled, LIST_BYTES, LIST_NUMBERS}
use Rattle.sl_model.proofs.ListParts.{parts_of}
use Rattle.sl_lists.specs.declared.kind.Kind.{Kind}
use Rattle.sl_lists.specs.declared.word.Word.{Word}
use Rattle.sl_lists.specs.declared.word.Word.TheVariants as w
use Rattle.sl_lists.specs.Means.Numbers.{number_in}
use Rattle.sl_lists.specs.Means.Steps.{is_signed, greatest}

-- digits behind their sign
abbrev pub with_sign : Bool → List ℕ → List ℕ
with_sign true ds = 45 ∷ ds
with_sign false ds = ds

-- digits, one at least, of a number of a list
pub record AreDigits (kind : Kind) (negative : Bool) (ds : List ℕ) : Type 0 where
  pub some : is_filled ds ≡ true
  pub digits : list_all is_digit ds ≡ true
  pub small : digits_value 10 ds ≤ greatest kind negative
  pub signed : negative ≡ true → is_signed kind ≡ true

-- what the last part between blanks is, where the bytes have a length and there are so many numbers before it
abbrev pub Reads : Kind → ℕ → ℕ → Word → List ℕ → Type 0
Reads kind bytes count w.Blank last = last ≡ []
Reads kind bytes count w.Minus last = (last ≡ 45 ∷ []) × (is_signed kind ≡ true) × (bytes < LIST_BYTES) × (count < LIST_NUMBERS)
Reads kind bytes count (w.Digits negative value) last =
    (ds : List ℕ) × (last ≡ with_sign negative ds) × AreDigits kind negative ds × (digits_value 10 ds ≡ value) × (count < LIST_NUMBERS)

-- The bytes begin a list: these are the numbers of its words but the last one, and that stands as the state says.
pub record Stands (kind : Kind) (bytes : List ℕ) (numbers : List ℤ) (word : Word) : Type 0 where
  pub done : List (List ℕ)
  pub last : List ℕ
  pub parts : parts_of bytes ≡ done ++ last ∷ []
  pub each : map (number_in kind) (filter is_filled done) ≡ map Some numbers
  pub short : length bytes ≤ LIST_BYTES
  pub few : length numbers ≤ LIST_NUMBERS
  pub reads : Reads kind (length bytes) (length numbers) word last

-- what follows a byte, by whether the bytes before it are too many and whether it is a blank
abbrev pub by_tests : (c d : Bool) → Option (List ℤ × Word) → Option (List ℤ × Word) → Option (List ℤ × Word)
by_tests c d blank other = if c then None else if d then blank else other

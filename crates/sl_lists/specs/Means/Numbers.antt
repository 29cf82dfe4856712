-- The number of a word for each kind of list, as a whole number of either sign.
use Rattle.std.specs.Prelude.{◌≡◌, ◌&&◌, ℕ, true, List, Option, ℤ, pos, int_le, option_map}
use Rattle.sl_base.specs.declared.scalar.Scalar.TheVariants as t
use Rattle.sl_model.specs.Numbers.{fits}
use Rattle.sl_model.specs.Reports.Lists.{int_of, pick_of}
use Rattle.sl_lists.specs.declared.kind.Kind.{Kind}
use Rattle.sl_lists.specs.declared.kind.Kind.TheVariants as k

-- the number of a word
abbrev pub number_in : Kind → List ℕ → Option ℤ
number_in k.Input word = int_of word
number_in k.Schedule word = option_map pos (pick_of word)

-- an int
abbrev pub IsInt : ℤ → Type 0
IsInt z = fits t.Int z ≡ true

-- a number of a schedule
abbrev pub IsPick : ℤ → Type 0
IsPick z = (int_le (pos 0) z && int_le z (pos 4294967295)) ≡ true

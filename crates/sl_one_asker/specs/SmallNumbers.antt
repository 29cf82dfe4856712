-- Tokens whose numbers are no greater than that of a token may be: a text with a greater number has no tokens.
use Rattle.std.specs.Prelude.{◌≡◌, ◌≤◌, ℕ, List, slice_get, Some}
use Rattle.sl_base.specs.declared.limits.TheConstants.{LARGEST_NUMBER}
use Rattle.sl_base.specs.declared.token.Token.{Token}
use Rattle.sl_base.specs.declared.word.Word.TheVariants as w

-- no number among these tokens is greater
abbrev pub HaveSmallNumbers : List Token → Type 0
HaveSmallNumbers tokens = (i n : ℕ) (t : Token) → slice_get tokens i ≡ Some t → t.word ≡ w.Number n → n ≤ LARGEST_NUMBER

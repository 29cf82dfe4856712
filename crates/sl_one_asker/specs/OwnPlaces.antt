-- Tokens that have places of their own: the tokens of a text do, since they come in the order of their places.
use Rattle.std.specs.Prelude.{◌≡◌, ◌<◌, ℕ, List, slice_get, Some}
use Rattle.sl_base.specs.declared.token.Token.{Token}

-- no two of these tokens stand at one place
abbrev pub HaveOwnPlaces : List Token → Type 0
HaveOwnPlaces tokens = (i j : ℕ) (s t : Token) → i < j → slice_get tokens i ≡ Some s → slice_get tokens j ≡ Some t → s.place ≡ t.place → ⊥

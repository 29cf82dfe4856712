-- Which tokens a tree is written by.
use Rattle.std.specs.Prelude.{◌≡◌, List, [], ◌∷◌}
use Rattle.sl_base.specs.declared.place.Place.{Place}
use Rattle.sl_base.specs.declared.token.Token.{Token}
use Rattle.sl_syntax.specs.Shaped.{Each}
use Rattle.sl_syntax.specs.Tree.{Program}
use Rattle.sl_syntax.specs.Written.{Written, program_written}

-- the token has this word, and each place that is told of the word is the token's
abbrev pub IsToken : Written → Token → Type 0
IsToken x token = (token.word ≡ x.word) × Each (λ (p : Place). p ≡ token.place) x.told

-- The first of these tokens are these words, with their places, and the others are the rest.
abbrev pub Spells : List Written → List Token → List Token → Type 0
Spells [] tokens rest = tokens ≡ rest
Spells (x ∷ xs) [] rest = ⊥
Spells (x ∷ xs) (token ∷ tokens) rest = IsToken x token × Spells xs tokens rest

-- the program's words are those of the tokens, and each place in it is the one that they give
abbrev pub Placed : Program → List Token → Type 0
Placed p tokens = Spells (program_written p) tokens []

-- The tokens of a text, ISO/IEC 14882:2017, [lex.phases] and [lex.pptoken]: a cut into pieces by longest match. Where no cut covers the
-- text, the fault: the first rule that is broken directly behind the longest cut.
use Rattle.std.specs.Prelude.{◌≡◌, ℕ, ◌+◌, ◌<◌, ◌≤◌, ◌||◌, Bool, false, is_some, List, [], ◌∷◌, length, take, drop, slice_get, Option, Some}
use Rattle.std.specs.Prelude.{option_map}
use Rattle.std.specs.List.{filter_map}
use Rattle.sl_base.specs.declared.token.Token.{Token}
use Rattle.sl_base.specs.declared.word.Word.{Word}
use Rattle.sl_base.specs.Places.{place_at, IsPlaceBefore}
use Rattle.sl_base.specs.Pieces.{PieceKind, TokenRule, rule_number, word_of, IsLongest, Breaks}

-- a piece of a text: its kind, the offset of its first byte, from 0, and how many bytes it has
pub record Piece : Type 0 where
  pub kind : PieceKind
  pub from : ℕ
  pub len : ℕ

-- the token that a piece is, if it is one
abbrev pub token_of : List ℕ → Piece → Option Token
token_of text p = option_map (λ (w : Word). record { word = w; offset = p.from; place = place_at text p.from })
    (word_of p.kind (take p.len (drop p.from text)))

-- whether a token stands before what follows these pieces, if `seen` says so of what stands before them
abbrev pub seen_after : List ℕ → Bool → List Piece → Bool
seen_after text seen [] = seen
seen_after text seen (p ∷ ps) = seen_after text (seen || is_some (token_of text p)) ps

-- the piece is the longest at its place, and no rule is broken there; `seen` says whether a token stands before it
pub record Stands (text : List ℕ) (seen : Bool) (piece : Piece) : Type 0 where
  pub longest : IsLongest text seen piece.from piece.kind piece.len
  pub unbroken : (rule : TokenRule) (at : ℕ) → Breaks text seen piece.from rule at → ⊥

-- these pieces follow one another from one offset to another; `seen` as above
abbrev pub Follow : List ℕ → Bool → ℕ → List Piece → ℕ → Type 0
Follow text seen from [] to = from ≡ to
Follow text seen from (p ∷ ps) to = (p.from ≡ from) × Stands text seen p × Follow text (seen || is_some (token_of text p)) (from + p.len) ps to

-- a cut of a text: these pieces, from its first byte up to an offset
abbrev pub Cut : List ℕ → List Piece → ℕ → Type 0
Cut text pieces to = Follow text false 0 pieces to

-- the tokens of a text: those of the cut that covers it
abbrev pub Tokens : List ℕ → List Token → Type 0
Tokens text tokens = (pieces : List Piece) × Cut text pieces (length text) × (tokens ≡ filter_map (token_of text) pieces)

-- the places of tokens come in their order, so no two have one place
abbrev pub TokensAscend : List Token → Type 0
TokensAscend tokens = (i j : ℕ) (s t : Token) → i < j → slice_get tokens i ≡ Some s → slice_get tokens j ≡ Some t → IsPlaceBefore s.place t.place

-- what begins behind these pieces breaks a rule
abbrev pub BreaksBehind : List ℕ → List Piece → ℕ → TokenRule → ℕ → Type 0
BreaksBehind text pieces upto rule at = Breaks text (seen_after text false pieces) upto rule at

-- the first rule that is broken behind the longest cut, which ends at `upto`: the least offset, and there the least number
pub record TokenFault (text : List ℕ) (rule : TokenRule) (at : ℕ) : Type 0 where
  pub pieces : List Piece
  pub upto : ℕ
  pub cut : Cut text pieces upto
  pub longest : (others : List Piece) (to : ℕ) → Cut text others to → to ≤ upto
  pub broken : BreaksBehind text pieces upto rule at
  pub first : (other : TokenRule) (there : ℕ) → BreaksBehind text pieces upto other there → at ≤ there
  pub least : (other : TokenRule) → BreaksBehind text pieces upto other at → rule_number rule ≤ rule_number other

-- The tokens of a text, its program and its typed text, or the line that refuses it: by its length, then by its tokens, then by the grammar, and
-- then by typing.
-- The words of a refusal are chosen here.
use Rattle.std.specs.Prelude.{ℕ, ◌<◌, ◌≤◌, List, [], ◌∷◌, ◌++◌, length, map, slice_index_or, codes}
use Rattle.sl_base.specs.declared.limits.TheConstants.{TEXT_BYTES}
use Rattle.sl_base.specs.declared.place.Place.{Place}
use Rattle.sl_base.specs.declared.token.Token.{Token}
use Rattle.sl_base.specs.Pieces.{TokenRule, bad_byte, bad_number, open_comment, open_text, bad_directive}
use Rattle.sl_base.specs.Places.{place_at}
use Rattle.sl_base.specs.Tokens.{Tokens, TokenFault}
use Rattle.sl_syntax.specs.Begins.{IsProgram, Stops, words_in}
use Rattle.sl_syntax.specs.Placed.{Placed}
use Rattle.sl_syntax.specs.Shaped.{Shaped}
use Rattle.sl_syntax.specs.Tree.{Program}
use Rattle.sl_syntax.specs.Typed as t
use Rattle.sl_typing.specs.declared.fault.Fault.{Fault}
use Rattle.sl_typing.specs.Typing.{Typed, FirstBroken}
use Rattle.sl_model.specs.Reports.Texts.{refusal_line}

-- the line that refuses a text that is too long
abbrev pub too_long_line : List ℕ → List ℕ
too_long_line file = file ++ (codes ": refused: longer than 1048576 bytes" ++ 10 ∷ [])

-- the words for a broken rule of tokens
abbrev pub rule_words : TokenRule → List ℕ
rule_words bad_byte = codes "bad byte"
rule_words bad_number = codes "bad number"
rule_words open_comment = codes "open comment"
rule_words open_text = codes "open text"
rule_words bad_directive = codes "bad directive"

-- the place of the token k of a text, from 0, and where there is none the one behind the last byte
abbrev pub stop_place : List ℕ → List Token → ℕ → Place
stop_place text tokens k = slice_index_or (map (λ (t : Token). t.place) tokens) k (place_at text (length text))

-- the words for the rules of typing, by their numbers from 1 on
abbrev pub typing_rules : List (List ℕ)
typing_rules =
    [] ∷ codes "unknown name" ∷ codes "declared twice" ∷ codes "no such call" ∷ codes "wrong type" ∷ codes "write to const" ∷ codes "alias" ∷
    codes "order of effects" ∷ codes "outside a loop" ∷ codes "no main" ∷ codes "library name" ∷ codes "wrong return" ∷ codes "weaker iterator" ∷
    codes "appender" ∷ codes "auto" ∷ codes "too many functions" ∷ codes "too many variables" ∷ codes "too many sites" ∷
    codes "too many parameters" ∷ codes "too many elements" ∷ codes "too many statements" ∷ []

-- the words for a broken rule of typing
abbrev pub typing_words : ℕ → List ℕ
typing_words rule = slice_index_or typing_rules rule []

-- A text that is no program is refused by its length; or by the first rule of tokens that it breaks, where it does; or by the grammar, at the token with which
-- its tokens begin no program, and behind the last byte where they begin one and are none.
pub data IsRefusal (file text : List ℕ) : List ℕ → Type 0 where
  by_length : TEXT_BYTES < length text → IsRefusal file text (too_long_line file)
  by_token : length text ≤ TEXT_BYTES → (rule : TokenRule) (at : ℕ) → TokenFault text rule at
      → IsRefusal file text (refusal_line file (place_at text at) (rule_words rule))
  by_grammar : length text ≤ TEXT_BYTES → (tokens : List Token) → Tokens text tokens → (k : ℕ) → Stops IsProgram (words_in tokens) k
      → IsRefusal file text (refusal_line file (stop_place text tokens k) (codes "grammar"))

-- the text isn't too long, these are its tokens, and they write this program
pub record IsParsed (text : List ℕ) (tokens : List Token) (program : Program) : Type 0 where
  pub short : length text ≤ TEXT_BYTES
  pub cut : Tokens text tokens
  pub shaped : Shaped program
  pub placed : Placed program tokens

-- they write a program that breaks no rule of typing, and it is typed as this
pub record IsTyped (text : List ℕ) (tokens : List Token) (program : Program) (typed : t.Typed) : Type 0 where
  pub parsed : IsParsed text tokens program
  pub typed_so : Typed program typed

-- The line that refuses a text that isn't typed: it is no program, or it is one and breaks a rule of typing, and this is the first one that it breaks.
pub data Leaves (file text : List ℕ) : List ℕ → Type 0 where
  no_program : (line : List ℕ) → IsRefusal file text line → Leaves file text line
  not_typed : (tokens : List Token) (program : Program) → IsParsed text tokens program → (x : Fault) → FirstBroken program x
      → Leaves file text (refusal_line file x.place (typing_words x.rule))

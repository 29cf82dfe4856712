-- The pieces of a text, ISO/IEC 14882:2017, [lex.pptoken] and [lex.token]: which bytes form one, which one stands at an offset,
-- and which rule is broken there. The limits on names and numbers and what may not follow a number are this project's choice.
use Rattle.std.specs.Prelude.{◌≡◌, ℕ, ◌+◌, ◌-◌, ◌*◌, ◌<◌, ◌≤◌, ◌==◌, ◌&&◌, ◌||◌, ◌⊎◌, Bool, true, false, IsTrue, is_some, List, [], ◌∷◌, length, take}
use Rattle.std.specs.Prelude.{drop, fold, codes, Option, Some, None, option_map, Err, if◌then◌else◌}
use Rattle.std.specs.List.{list_all}
use Rattle.std.specs.Str.{bytes_eq}
use Rattle.sl_base.specs.declared.limits.TheConstants.{NAME_BYTES, LARGEST_NUMBER}
use Rattle.sl_base.specs.declared.word.Word.{Word}
use Rattle.sl_base.specs.declared.word.Word.TheVariants.{Name, Lib, Key, Number, Text, Mark}
use Rattle.sl_base.specs.Bytes.{is_blank, is_letter, is_digit, is_name_byte, spoils_number, begins, begins_with, begins_joint}
use Rattle.sl_base.specs.Comments.{counts_all, is_line_comment, is_block_comment}
use Rattle.sl_base.specs.Directives.{IsDirective, opens_directive, closes_directive}
use Rattle.sl_base.specs.Keywords.{is_keyword}
use Rattle.sl_base.specs.Marks.{mark_of}
use Rattle.sl_base.specs.Quoted.{text_end, unescaped, between, written_bytes, is_character}

pub data PieceKind : Type 0 where
  blank_piece : PieceKind
  comment_piece : PieceKind
  directive_piece : PieceKind
  name_piece : PieceKind
  lib_piece : PieceKind
  number_piece : PieceKind
  text_piece : PieceKind
  mark_piece : PieceKind

-- a letter or `_`, then letters, digits and `_`
abbrev pub is_name : List ℕ → Bool
is_name [] = false
is_name (b ∷ bs) = is_letter b && list_all is_name_byte bs

abbrev pub std_colons : List ℕ
std_colons = codes "std::"

-- `std::` and a name, with nothing between
abbrev pub is_lib : List ℕ → Bool
is_lib bytes = bytes_eq (take 5 bytes) std_colons && is_name (drop 5 bytes)

-- `0`, or digits that begin with another
abbrev pub is_number : List ℕ → Bool
is_number [] = false
is_number (b ∷ bs) = is_digit b && (if b == 48 then length bs == 0 else list_all is_digit bs)

-- `"` and what goes up to the first `"` that no backslash escapes, all on one line
abbrev pub is_text : List ℕ → Bool
is_text bytes = begins (λ b. b == 34) bytes && counts_all (text_end false (drop 1 bytes)) (drop 1 bytes)

-- whether these bytes form a piece of this kind
abbrev pub HasForm : PieceKind → List ℕ → Type 0
HasForm blank_piece bytes = IsTrue ((length bytes == 1) && begins is_blank bytes)
HasForm comment_piece bytes = IsTrue (is_line_comment bytes || is_block_comment bytes)
HasForm directive_piece bytes = IsDirective bytes
HasForm name_piece bytes = IsTrue (is_name bytes)
HasForm lib_piece bytes = IsTrue (is_lib bytes)
HasForm number_piece bytes = IsTrue (is_number bytes)
HasForm text_piece bytes = IsTrue (is_text bytes || is_character bytes)
HasForm mark_piece bytes = IsTrue (is_some (mark_of bytes))

-- Whether a piece of this kind may stand between these bytes: it matters for a directive alone.
-- `seen` says whether a token stands before it.
abbrev pub fits : PieceKind → Bool → List ℕ → List ℕ → Bool
fits directive_piece seen before behind = opens_directive seen before && closes_directive behind
fits _ seen before behind = true

-- the number that digits write
abbrev pub decimal : List ℕ → ℕ
decimal digits = fold (λ n b. 10 * n + (b - 48)) 0 digits

-- what a piece says, if it is a token
abbrev pub word_of : PieceKind → List ℕ → Option Word
word_of blank_piece bytes = None
word_of comment_piece bytes = None
word_of directive_piece bytes = None
word_of name_piece bytes = Some (if is_keyword bytes then Key bytes else Name bytes)
word_of lib_piece bytes = Some (Lib (drop 5 bytes))
word_of number_piece bytes = Some (Number (decimal bytes))
word_of text_piece bytes = Some (Text (written_bytes (unescaped false (between bytes))))
word_of mark_piece bytes = option_map Mark (mark_of bytes)

-- the bytes from an offset on form a piece of this kind and length; `seen` says whether a token stands before it
pub record IsPiece (text : List ℕ) (seen : Bool) (from : ℕ) (kind : PieceKind) (len : ℕ) : Type 0 where
  pub within : len ≤ length (drop from text)
  pub form : HasForm kind (take len (drop from text))
  pub fit : IsTrue (fits kind seen (take from text) (drop (from + len) text))

-- and no longer piece of any kind begins there
pub record IsLongest (text : List ℕ) (seen : Bool) (from : ℕ) (kind : PieceKind) (len : ℕ) : Type 0 where
  pub piece : IsPiece text seen from kind len
  pub longest : (other : PieceKind) (more : ℕ) → IsPiece text seen from other more → more ≤ len

-- The rules of tokens, in the order of their numbers.
pub data TokenRule : Type 0 where
  bad_byte : TokenRule
  bad_number : TokenRule
  open_comment : TokenRule
  open_text : TokenRule
  bad_directive : TokenRule

abbrev pub rule_number : TokenRule → ℕ
rule_number bad_byte = 2
rule_number bad_number = 3
rule_number open_comment = 4
rule_number open_text = 5
rule_number bad_directive = 6

-- The rule that a byte breaks where no piece begins with it. At a quote this is a text that its line does not close, or one in single
-- quotes that has not exactly one byte or escape; at `#` it is one that begins no directive.
abbrev pub rule_of : ℕ → TokenRule
rule_of b = if (b == 34) || (b == 39) then open_text else if b == 35 then bad_directive else bad_byte

-- a number past the largest, or one that a name, `.` or `'` directly follows
abbrev pub IsBadNumber : List ℕ → List ℕ → Type 0
IsBadNumber digits rest = (LARGEST_NUMBER < decimal digits) ⊎ IsTrue (begins spoils_number rest)

-- What begins at an offset breaks a rule at an offset. `seen` says whether a token stands before it.
pub data Breaks (text : List ℕ) (seen : Bool) (from : ℕ) : TokenRule → ℕ → Type 0 where
  -- a byte that begins no piece
  begins_nothing : (b : ℕ) (behind : List ℕ) → drop from text ≡ b ∷ behind → ((kind : PieceKind) (len : ℕ) → IsPiece text seen from kind len → ⊥)
      → Breaks text seen from (rule_of b) from
  -- the 65th byte of a name
  long_name : (len : ℕ) → IsLongest text seen from name_piece len → NAME_BYTES < len → Breaks text seen from bad_byte (from + NAME_BYTES)
  -- the 65th byte of a name behind `std::`
  long_lib : (len : ℕ) → IsLongest text seen from lib_piece len → 5 + NAME_BYTES < len → Breaks text seen from bad_byte (from + (5 + NAME_BYTES))
  -- the backslash of a wrong escape
  wrong_escape : (len n : ℕ) → IsLongest text seen from text_piece len → unescaped false (between (take len (drop from text))) ≡ Err n
      → Breaks text seen from bad_byte (from + n)
  -- a backslash directly before a line's end, in a comment
  joint : (len n : ℕ) → IsLongest text seen from comment_piece len → n < len → IsTrue (begins_joint (drop (from + n) text))
      → Breaks text seen from bad_byte (from + n)
  -- a bad number, at its first byte
  no_number : (len : ℕ) → IsLongest text seen from number_piece len → IsBadNumber (take len (drop from text)) (drop (from + len) text)
      → Breaks text seen from bad_number from
  -- a `/*` that no `*/` closes
  no_comment : IsTrue (begins_with (codes "/*") (drop from text)) → ((len : ℕ) → IsPiece text seen from comment_piece len → ⊥)
      → Breaks text seen from open_comment from

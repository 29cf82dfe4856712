-- What the code answers at a rest of the text: `front_of` in the types of the code.
use Rattle.std.specs.Prelude.{◌≡◌, ◌⊎◌, ℕ, ◌+◌, List, take, Result, Ok, Err}
use Rattle.sl_base.specs.Pieces.{PieceKind, TokenRule, bad_byte, bad_number, open_comment, open_text, bad_directive, word_of}
use Rattle.sl_lexer.specs.declared.error.LexErr.{LexErr}
use Rattle.sl_lexer.specs.declared.error.LexErr.TheVariants.{Memory, BadByte, BadNumber, OpenComment, OpenText, BadDirective}
use Rattle.sl_lexer.specs.declared.front.Front.{Front}

-- the error of a rule that is broken at an offset
abbrev pub error_of : TokenRule → ℕ → LexErr
error_of bad_byte at = BadByte at
error_of bad_number at = BadNumber at
error_of open_comment at = OpenComment at
error_of open_text at = OpenText at
error_of bad_directive at = BadDirective at

-- at the rest that begins at an offset
abbrev pub answer_of : ℕ → List ℕ → Result (PieceKind × ℕ) (TokenRule × ℕ) → Result Front LexErr
answer_of from rest (Ok piece) = Ok (record { word = word_of piece.0 (take piece.1 rest); len = piece.1 })
answer_of from rest (Err broken) = Err (error_of broken.0 (from + broken.1))

-- that, or memory ran out
abbrev pub IsAnswer : ℕ → List ℕ → Result (PieceKind × ℕ) (TokenRule × ℕ) → Result Front LexErr → Type 0
IsAnswer from rest front result = (result ≡ answer_of from rest front) ⊎ (result ≡ Err Memory)

-- the bytes that a text writes, or its first wrong escape, or memory ran out; the text stands at an offset
abbrev pub IsUnescaped : ℕ → Result (List ℕ) ℕ → Result (List ℕ) LexErr → Type 0
IsUnescaped from (Ok bytes) result = (result ≡ Ok bytes) ⊎ (result ≡ Err Memory)
IsUnescaped from (Err n) result = (result ≡ Err (BadByte (from + n))) ⊎ (result ≡ Err Memory)

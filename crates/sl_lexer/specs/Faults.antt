-- The fault that an error of the lexer tells.
use Rattle.std.specs.Prelude.{ℕ, Option, Some, None}
use Rattle.sl_base.specs.Pieces.{TokenRule, bad_byte, bad_number, open_comment, open_text, bad_directive}
use Rattle.sl_lexer.specs.declared.error.LexErr.{LexErr}
use Rattle.sl_lexer.specs.declared.error.LexErr.TheVariants.{Memory, BadByte, BadNumber, OpenComment, OpenText, BadDirective}

-- the rule and the offset; want of memory tells none
abbrev pub fault_of : LexErr → Option (TokenRule × ℕ)
fault_of Memory = None
fault_of (BadByte offset) = Some (bad_byte, offset)
fault_of (BadNumber offset) = Some (bad_number, offset)
fault_of (OpenComment offset) = Some (open_comment, offset)
fault_of (OpenText offset) = Some (open_text, offset)
fault_of (BadDirective offset) = Some (bad_directive, offset)

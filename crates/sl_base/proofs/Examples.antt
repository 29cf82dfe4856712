-- Examples of the definitions of tokens, each computed: what forms a piece, what does not, and what a piece says.
use Rattle.std.proofs.Common.{◌≡◌, true, false, [], ◌∷◌, ◌++◌, Some, None, Err, codes, refl}
use Rattle.sl_base.specs.Bytes.{begins_joint}
use Rattle.sl_base.specs.Comments.{is_line_comment, is_block_comment}
use Rattle.sl_base.specs.Directives.{opens_directive, closes_directive}
use Rattle.sl_base.specs.Headers.{is_header}
use Rattle.sl_base.specs.Marks.{mark_of}
use Rattle.sl_base.specs.Pieces.{comment_piece, directive_piece, name_piece, lib_piece, text_piece, HasForm, is_lib, is_number, word_of, open_text}
use Rattle.sl_base.specs.Pieces.{bad_directive, bad_byte, rule_of}
use Rattle.sl_base.specs.Quoted.{unescaped, is_character}
use Rattle.sl_base.specs.declared.mark.Mark.TheVariants.{LessEqual}
use Rattle.sl_base.specs.declared.word.Word.TheVariants.{Key, Name, Lib, Text}

-- ## Comments

line_comment : HasForm comment_piece (codes "// a */ b")
line_comment = refl

-- a line feed is no part of it
line_feed : is_line_comment (codes "//" ++ (10 ∷ [])) ≡ false
line_feed = refl

block_comment : HasForm comment_piece (codes "/* * / **/")
block_comment = refl

-- the star of `/*` closes nothing, and the first `*/` closes
slash_star_slash : is_block_comment (codes "/*/") ≡ false
slash_star_slash = refl

first_close : is_block_comment (codes "/* */ */") ≡ false
first_close = refl

-- a backslash before a line feed, also with a carriage return between, and not before a carriage return alone
joint : begins_joint (92 ∷ 13 ∷ 10 ∷ []) ≡ true
joint = refl

no_joint : begins_joint (92 ∷ 13 ∷ []) ≡ false
no_joint = refl

-- ## Directives

directive : HasForm directive_piece (codes "# include  <iostream>")
directive = record {
  gap = codes " ";
  more = codes "  ";
  header = codes "iostream";
  gap_spaces = refl;
  more_spaces = refl;
  known = refl;
  written = refl;
}

other_header : is_header (codes "string") ≡ false
other_header = refl

-- blanks stand before it on its line, and a comment may follow
indented : opens_directive false (codes "// a" ++ (10 ∷ 32 ∷ 13 ∷ [])) ≡ true
indented = refl

behind_a_comment : opens_directive false (codes "/* a */ ") ≡ false
behind_a_comment = refl

behind_a_token : opens_directive true (10 ∷ []) ≡ false
behind_a_token = refl

before_a_comment : closes_directive (codes "  // a") ≡ true
before_a_comment = refl

before_a_block_comment : closes_directive (codes " /* a */") ≡ false
before_a_block_comment = refl

-- ## Texts

text : HasForm text_piece (codes "\"a\\\"b\"")
text = refl

-- a wrong escape has the form of a text, whose rule it breaks at its backslash, one byte behind the quote and the `a`
wrong_escape : unescaped false (codes "a\\q") ≡ Err 2
wrong_escape = refl

written : word_of text_piece (codes "\"a\\n\"") ≡ Some (Text (97 ∷ 10 ∷ []))
written = refl

character : HasForm text_piece (codes "'\\''")
character = refl

no_character : is_character (codes "'\\q'") ≡ false
no_character = refl

empty_character : is_character (codes "''") ≡ false
empty_character = refl

-- ## Names, libs, numbers and marks

key : word_of name_piece (codes "while") ≡ Some (Key (codes "while"))
key = refl

name : word_of name_piece (codes "whiles") ≡ Some (Name (codes "whiles"))
name = refl

lib : word_of lib_piece (codes "std::int") ≡ Some (Lib (codes "int"))
lib = refl

no_lib : is_lib (codes "std::1") ≡ false
no_lib = refl

leading_zero : is_number (codes "01") ≡ false
leading_zero = refl

mark : mark_of (codes "<=") ≡ Some LessEqual
mark = refl

no_mark : mark_of (codes "<<=") ≡ None
no_mark = refl

-- ## Rules

open_quote : rule_of 34 ≡ open_text
open_quote = refl

hash : rule_of 35 ≡ bad_directive
hash = refl

other_byte : rule_of 200 ≡ bad_byte
other_byte = refl

-- Examples of the tokens and of the fault of a text, shown of the definitions by the laws of `front_of`.
use Rattle.std.proofs.Common.{false, true, [], ◌∷◌, ◌++◌, codes, refl, lit<}
use Rattle.sl_base.specs.Pieces.{blank_piece, directive_piece, name_piece, mark_piece, bad_byte, bad_number, open_comment, open_text, bad_directive}
use Rattle.sl_base.specs.Tokens.{Stands, Tokens, TokenFault}
use Rattle.sl_base.specs.declared.mark.Mark.TheVariants.{Less}
use Rattle.sl_base.specs.declared.word.Word.TheVariants.{Name, Mark}
use Rattle.sl_lexer.proofs.CutLaws.{fault_behind}
use Rattle.sl_lexer.proofs.FrontLaws.{front-ok}

-- `<=` is one mark
mark : Stands (codes "a<=b") true (record { kind = mark_piece; from = 1; len = 2 })
mark = front-ok (codes "a<=b") true 1 mark_piece 2 (lit< tt) refl

-- a directive stands before the first token, and not behind it
directive : Stands (codes "#include<map>") false (record { kind = directive_piece; from = 0; len = 13 })
directive = front-ok (codes "#include<map>") false 0 directive_piece 13 (lit< tt) refl

-- `a <b` has three tokens
tokens : Tokens (codes "a <b") (
    record { word = Name (codes "a"); offset = 0; place = record { line = 1; col = 1 } }
    ∷ record { word = Mark Less; offset = 2; place = record { line = 1; col = 3 } }
    ∷ record { word = Name (codes "b"); offset = 3; place = record { line = 1; col = 4 } }
    ∷ []
    )
tokens = (
  record { kind = name_piece; from = 0; len = 1 }
      ∷ record { kind = blank_piece; from = 1; len = 1 }
      ∷ record { kind = mark_piece; from = 2; len = 1 }
      ∷ record { kind = name_piece; from = 3; len = 1 }
      ∷ [],
  (
    refl,
    front-ok (codes "a <b") false 0 name_piece 1 (lit< tt) refl,
    (
      refl,
      front-ok (codes "a <b") true 1 blank_piece 1 (lit< tt) refl,
      (
        refl,
        front-ok (codes "a <b") true 2 mark_piece 1 (lit< tt) refl,
        (refl, front-ok (codes "a <b") true 3 name_piece 1 (lit< tt) refl, refl),
      ),
    ),
  ),
  refl,
)

-- an open comment behind a name
open_behind : TokenFault (codes "a/*") open_comment 1
open_behind =
    fault_behind (codes "a/*") (record { kind = name_piece; from = 0; len = 1 } ∷ []) 1 open_comment 0
    (refl, front-ok (codes "a/*") false 0 name_piece 1 (lit< tt) refl, refl) (lit< tt) refl

-- the first wrong escape of a text, and the quote of one that its line does not close
wrong_escape : TokenFault (codes "\"a\\q\\r\"") bad_byte 2
wrong_escape = fault_behind (codes "\"a\\q\\r\"") [] 0 bad_byte 2 refl (lit< tt) refl

open_line : TokenFault (codes "\"a\\q" ++ (10 ∷ codes "\"")) open_text 0
open_line = fault_behind (codes "\"a\\q" ++ (10 ∷ codes "\"")) [] 0 open_text 0 refl (lit< tt) refl

-- a backslash before a carriage return and a line feed, in a comment
joint : TokenFault (codes "//a\\" ++ (13 ∷ 10 ∷ [])) bad_byte 3
joint = fault_behind (codes "//a\\" ++ (13 ∷ 10 ∷ [])) [] 0 bad_byte 3 refl (lit< tt) refl

number : TokenFault (codes "2147483648") bad_number 0
number = fault_behind (codes "2147483648") [] 0 bad_number 0 refl (lit< tt) refl

hash : TokenFault (codes "#include <map> 1") bad_directive 0
hash = fault_behind (codes "#include <map> 1") [] 0 bad_directive 0 refl (lit< tt) refl

-- The marks, ISO/IEC 14882:2017, [lex.operators]: one table.
use Rattle.std.specs.Prelude.{ℕ, List, [], ◌∷◌, Option, option_map, find, codes}
use Rattle.std.specs.Str.{bytes_eq}
use Rattle.sl_base.specs.declared.mark.Mark.{Mark}
use Rattle.sl_base.specs.declared.mark.Mark.TheVariants.{LeftBrace, RightBrace, LeftParenthesis, RightParenthesis, LeftBracket, RightBracket, Less}
use Rattle.sl_base.specs.declared.mark.Mark.TheVariants.{Greater, LessEqual, GreaterEqual, EqualEqual, NotEqual, Equal, PlusEqual, MinusEqual}
use Rattle.sl_base.specs.declared.mark.Mark.TheVariants.{StarEqual, SlashEqual, PercentEqual, Plus, Minus, Star, Slash, Percent, PlusPlus, MinusMinus}
use Rattle.sl_base.specs.declared.mark.Mark.TheVariants.{Not, AndAnd, OrOr, And, Comma, Semicolon, Colon, ColonColon, Dot, Arrow, ShiftLeft}
use Rattle.sl_base.specs.declared.mark.Mark.TheVariants.{ShiftRight}

abbrev pub marks : List (List ℕ × Mark)
marks =
    (codes "{", LeftBrace) ∷ (codes "}", RightBrace) ∷ (codes "(", LeftParenthesis) ∷ (codes ")", RightParenthesis) ∷ (codes "[", LeftBracket)
    ∷ (codes "]", RightBracket)
    ∷ (codes "<", Less) ∷ (codes ">", Greater) ∷ (codes "<=", LessEqual) ∷ (codes ">=", GreaterEqual) ∷ (codes "==", EqualEqual)
    ∷ (codes "!=", NotEqual)
    ∷ (codes "=", Equal) ∷ (codes "+=", PlusEqual) ∷ (codes "-=", MinusEqual) ∷ (codes "*=", StarEqual) ∷ (codes "/=", SlashEqual)
    ∷ (codes "%=", PercentEqual)
    ∷ (codes "+", Plus) ∷ (codes "-", Minus) ∷ (codes "*", Star) ∷ (codes "/", Slash) ∷ (codes "%", Percent) ∷ (codes "++", PlusPlus)
    ∷ (codes "--", MinusMinus)
    ∷ (codes "!", Not) ∷ (codes "&&", AndAnd) ∷ (codes "||", OrOr) ∷ (codes "&", And)
    ∷ (codes ",", Comma) ∷ (codes ";", Semicolon) ∷ (codes ":", Colon) ∷ (codes "::", ColonColon) ∷ (codes ".", Dot) ∷ (codes "->", Arrow)
    ∷ (codes "<<", ShiftLeft) ∷ (codes ">>", ShiftRight) ∷ []

-- the mark of the row with these bytes
abbrev pub mark_in : List (List ℕ × Mark) → List ℕ → Option Mark
mark_in rows bytes = option_map (λ m. m.1) (find (λ m. bytes_eq m.0 bytes) rows)

-- the mark that these bytes write
abbrev pub mark_of : List ℕ → Option Mark
mark_of bytes = mark_in marks bytes

-- Programs read, worked by hand.
use Rattle.std.specs.Prelude.{◌≡◌, refl, ℕ, ◌+◌, List, [], ◌∷◌, Some, Ok, codes}
use Rattle.sl_base.specs.declared.mark.Mark.TheVariants as m
use Rattle.sl_base.specs.declared.place.Place.{Place}
use Rattle.sl_base.specs.declared.scalar.Scalar.TheVariants as c
use Rattle.sl_base.specs.declared.token.Token.{Token}
use Rattle.sl_base.specs.declared.word.Word.{Word}
use Rattle.sl_base.specs.declared.word.Word.TheVariants as w
use Rattle.sl_syntax.specs.declared.operator.Arithmetic.TheVariants as a
use Rattle.sl_syntax.specs.declared.operator.BinaryOperator.TheVariants as b
use Rattle.sl_syntax.specs.declared.tree.function.ResultType.TheVariants as z
use Rattle.sl_syntax.specs.Tree as t
use Rattle.sl_syntax.specs.Tree.{Program}
use Rattle.sl_grammar.specs.Means.Declarations.{scalar_declaration, optional_value, params, result}
use Rattle.sl_grammar.specs.Means.Expressions.{expr, from_operand, operand, climb, operation, combined}
use Rattle.sl_grammar.specs.Means.Statements.{program, function, braced, item, stmt}
use Rattle.sl_grammar.specs.Means.Steps.{mark, identifier, repeat}

-- tokens of one line, each in the column of its number
abbrev in_line : ℕ → List Word → List Token
in_line col [] = []
in_line col (x ∷ xs) = record { word = x; offset = 0; place = record { line = 1; col = col } } ∷ in_line (col + 1) xs

abbrev at : ℕ → Place
at col = record { line = 1; col = col }

abbrev head : List Word
head = w.Key (codes "int") ∷ w.Name (codes "main") ∷ w.Mark m.LeftParenthesis ∷ w.Mark m.RightParenthesis ∷ w.Mark m.LeftBrace ∷ []

-- int main() { int x = 1 + 2 * 3; }
sum_words : List Token
sum_words = in_line 1 (w.Key (codes "int") ∷ w.Name (codes "main") ∷ w.Mark m.LeftParenthesis ∷ w.Mark m.RightParenthesis ∷ w.Mark m.LeftBrace
    ∷ w.Key (codes "int") ∷ w.Name (codes "x") ∷ w.Mark m.Equal ∷ w.Number 1 ∷ w.Mark m.Plus ∷ w.Number 2
    ∷ w.Mark m.Star ∷ w.Number 3 ∷ w.Mark m.Semicolon ∷ w.Mark m.RightBrace ∷ [])

sum_program : Program
sum_program = record {
  place = at 1;
  result = z.Scalar c.Int;
  name = record { name = codes "main"; place = at 2 };
  params = [];
  opens = at 5;
  items = t.followed (t.declares (t.declares_scalar (at 6) c.Int (record { name = codes "x"; place = at 7 })
      (Some (t.binary (t.number (at 9) 1) (b.Arithmetic a.Add) (at 10)
      (t.binary (t.number (at 11) 2) (b.Arithmetic a.Multiply) (at 12) (t.number (at 13) 3)))))) t.no_more;
  closes = at 15;
} ∷ []

sum_is_read : program sum_words ≡ Ok ((sum_program, 6), [])
unfolding program function result params braced repeat item scalar_declaration optional_value expr from_operand operand climb operation
    combined
    mark identifier stmt sum_words sum_program
sum_is_read = refl

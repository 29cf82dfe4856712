-- What is read as an operand is the words of one that follows the grammar.
use Rattle.std.proofs.Common.{◌≡◌, ℕ, ◌-◌, ◌<◌, ◌≤◌, List, [], ◌∷◌, ◌++◌, Option, Some, None, Ok, refl, ap, arith, drop}
use Rattle.std.specs.Prelude.{nat_lt}
use Rattle.std.proofs.lemmas.Bool.{ltb-true}
use Rattle.sl_base.specs.declared.mark.Mark.TheVariants as m
use Rattle.sl_base.specs.declared.token.Token.{Token}
use Rattle.sl_base.specs.declared.word.Word.TheVariants as w
use Rattle.sl_syntax.specs.declared.token_kind.TokenKind.{TokenKind}
use Rattle.sl_syntax.specs.declared.token_kind.TokenKind.TheVariants as k
use Rattle.sl_syntax.specs.declared.operator.Arithmetic.TheVariants as arithmetic
use Rattle.sl_syntax.specs.declared.operator.BinaryOperator.{BinaryOperator}
use Rattle.sl_syntax.specs.declared.operator.BinaryOperator.TheVariants as binary
use Rattle.sl_syntax.specs.declared.operator.Comparison.TheVariants as comparison
use Rattle.sl_syntax.specs.declared.operator.PrefixOperator.{PrefixOperator}
use Rattle.sl_syntax.specs.declared.operator.PrefixOperator.TheVariants as prefix
use Rattle.sl_syntax.specs.Depth.{height, list_height}
use Rattle.sl_syntax.specs.Shaped.{binary_level, level, IsExpr, AreExprs}
use Rattle.sl_syntax.specs.Tree.{Expr, Exprs}
use Rattle.sl_syntax.specs.Written as s
use Rattle.sl_syntax.specs.Written.{Written, binary_mark, prefix_mark, written, list_written}
use Rattle.sl_grammar.specs.Means.Expressions.{infix_of, binds_or, piece_level, goes_on, list_before, arguments, named, library_call, parentheses}
use Rattle.sl_grammar.specs.Means.Expressions.{prefixed, operand_by, operand}
use Rattle.sl_grammar.specs.Means.Steps.{Reader, Tall, kind_at, is_mark, mark, identifier, library}
use Rattle.sl_grammar.proofs.KindLaws.{some_one}
use Rattle.sl_grammar.proofs.SoundLists.{list-before-part}
use Rattle.sl_grammar.proofs.SoundSteps.{Took, bound, chosen, guarded, answered, one_word, one_number, mark_plain, identifier_took, library_took}
use Rattle.sl_grammar.proofs.SoundSteps.{Part, Parts}
use Rattle.sl_grammar.proofs.Spelling.{◌⨾◌}

-- what is read, where it stops, and how tightly it binds
pub record Found (depth_left least : ℕ) (ts : List Token) (p : Tall Expr) (rest : List Token) : Type 0 where
  pub part : Part written IsExpr height depth_left ts p rest
  pub tight : least ≤ level p.0
  pub stops : goes_on (kind_at rest) < least

-- how tightly operators bind
pub binary-low : (op : BinaryOperator) → binary_level op ≤ 6
binary-low binary.Or = omega arith
binary-low (binary.Comparison comparison.Equal) = omega arith
binary-low (binary.Arithmetic arithmetic.Add) = omega arith
binary-low _ = omega arith

piece-low : (kind : TokenKind) → piece_level kind ≤ 8
piece-low (k.Mark m.PlusPlus) = omega arith
piece-low (k.Mark m.MinusMinus) = omega arith
piece-low (k.Mark m.LeftBracket) = omega arith
piece-low (k.Mark m.Dot) = omega arith
piece-low (k.Mark m.Arrow) = omega arith
piece-low _ = omega arith

binds-low : (other : ℕ) (op : Option BinaryOperator) → other ≤ 8 → binds_or other op ≤ 8
binds-low other None h = h
binds-low other (Some op) h = omega (arith, binary-low op)

pub goes-low : (kind : TokenKind) → goes_on kind ≤ 8
goes-low kind = binds-low (piece_level kind) (infix_of kind) (piece-low kind)

-- an operator between two operands is the mark that it is written with
pub infix-mark : (kind : TokenKind) (op : BinaryOperator) → infix_of kind ≡ Some op → kind ≡ k.Mark (binary_mark op)
infix-mark (k.Mark m.OrOr) op h = ap (λ (o : BinaryOperator). k.Mark (binary_mark o)) (some_one h)
infix-mark (k.Mark m.AndAnd) op h = ap (λ (o : BinaryOperator). k.Mark (binary_mark o)) (some_one h)
infix-mark (k.Mark m.EqualEqual) op h = ap (λ (o : BinaryOperator). k.Mark (binary_mark o)) (some_one h)
infix-mark (k.Mark m.NotEqual) op h = ap (λ (o : BinaryOperator). k.Mark (binary_mark o)) (some_one h)
infix-mark (k.Mark m.Less) op h = ap (λ (o : BinaryOperator). k.Mark (binary_mark o)) (some_one h)
infix-mark (k.Mark m.LessEqual) op h = ap (λ (o : BinaryOperator). k.Mark (binary_mark o)) (some_one h)
infix-mark (k.Mark m.Greater) op h = ap (λ (o : BinaryOperator). k.Mark (binary_mark o)) (some_one h)
infix-mark (k.Mark m.GreaterEqual) op h = ap (λ (o : BinaryOperator). k.Mark (binary_mark o)) (some_one h)
infix-mark (k.Mark m.Plus) op h = ap (λ (o : BinaryOperator). k.Mark (binary_mark o)) (some_one h)
infix-mark (k.Mark m.Minus) op h = ap (λ (o : BinaryOperator). k.Mark (binary_mark o)) (some_one h)
infix-mark (k.Mark m.Star) op h = ap (λ (o : BinaryOperator). k.Mark (binary_mark o)) (some_one h)
infix-mark (k.Mark m.Slash) op h = ap (λ (o : BinaryOperator). k.Mark (binary_mark o)) (some_one h)
infix-mark (k.Mark m.Percent) op h = ap (λ (o : BinaryOperator). k.Mark (binary_mark o)) (some_one h)
infix-mark _ op h = absurd cc

-- what is read, and what follows may still go on with it
pub record Left (depth_left least : ℕ) (ts : List Token) (p : Tall Expr) (rest : List Token) : Type 0 where
  pub part : Part written IsExpr height depth_left ts p rest
  pub tight : least ≤ level p.0
  pub goes : goes_on (kind_at rest) ≤ level p.0

-- the reader of inner expressions finds trees with one node less
abbrev pub Finds : (ℕ → Reader (Tall Expr)) → ℕ → Type 0
Finds inner depth_left = (least : ℕ) (ts : List Token) (y : Took Expr) → 1 ≤ least → least ≤ 7 → inner least ts ≡ Ok y
    → (0 < depth_left) × Found (depth_left - 1) least ts y.0 y.1

-- what stands in parentheses behind a name, with them
abbrev pub arguments_written : Exprs → List Written
arguments_written xs = s.mark m.LeftParenthesis ∷ (list_written xs ++ s.mark m.RightParenthesis ∷ [])

module _ (inner smaller : ℕ → Reader (Tall Expr)) (depth_left : ℕ) (f : Finds inner depth_left) (g : Finds smaller (depth_left - 1)) where
  pub list-parts : Parts list_written AreExprs list_height (depth_left - 1) (list_before (inner 1) (smaller 1) (depth_left - 1) m.RightParenthesis)
  list-parts =
      list-before-part (inner 1) (smaller 1) (depth_left - 1) (λ us z e. (f 1 us z (omega arith) (omega arith) e).1.part)
      (λ us z e. ((g 1 us z (omega arith) (omega arith) e).0, (g 1 us z (omega arith) (omega arith) e).1.part)) m.RightParenthesis

  pub arguments-part : 0 < depth_left → Parts arguments_written AreExprs list_height (depth_left - 1) (arguments inner smaller depth_left)
  unfolding arguments
  arguments-part high ts y h =
      let P : Took Exprs → Type 0 = λ z. Part arguments_written AreExprs list_height (depth_left - 1) ts z.0 z.1 in
      bound (mark m.LeftParenthesis ts) _ y P h (λ u opened h1.
      bound (list_before (inner 1) (smaller 1) (depth_left - 1) m.RightParenthesis u.1) _ y P h1 (λ xs read h2.
      bound (mark m.RightParenthesis xs.1) _ y P h2 (λ v closed h3.
      let found = list-parts u.1 xs read in
      answered _ y P h3 (record {
        spelled = mark_plain m.LeftParenthesis ts u opened ⨾ (found.spelled ⨾ mark_plain m.RightParenthesis xs.1 v closed);
        fits = found.fits;
        size = found.size;
        low = found.low;
      }))))

  named-left : (ts : List Token) (y : Took Expr) → named inner smaller depth_left ts ≡ Ok y → Left depth_left 7 ts y.0 y.1
  unfolding named
  named-left ts y h =
      let P : Took Expr → Type 0 = λ z. Left depth_left 7 ts z.0 z.1 in
      bound (identifier ts) _ y P h (λ x name h1.
      let first = identifier_took ts x name in
      chosen (is_mark m.LeftParenthesis (kind_at x.1)) _ _ _ (P y) h1
      (λ calls h2.
      guarded (nat_lt 0 depth_left) _ _ y P h2 (λ high h3.
      bound (arguments inner smaller depth_left x.1) _ y P h3 (λ xs read h4.
      let above : 0 < depth_left = ltb-true 0 depth_left high in
      let found = arguments-part above x.1 xs read in
      answered _ y P h4 (record {
        part = record { spelled = first ⨾ found.spelled; fits = found.fits; size = omega (arith, found.size); low = omega (arith, found.low, above) };
        tight = omega arith;
        goes = omega (arith, goes-low (kind_at xs.1));
      }))))
      (λ alone h2.
      answered _ y P h2 (record {
        part = record { spelled = first; fits = tt; size = refl; low = omega arith };
        tight = omega arith;
        goes = omega (arith, goes-low (kind_at x.1));
      })))

  library-left : (ts : List Token) (y : Took Expr) → kind_at ts ≡ k.Library → library_call inner smaller depth_left ts ≡ Ok y
      → Left depth_left 7 ts y.0 y.1
  unfolding library_call
  library-left ts y e h =
      let P : Took Expr → Type 0 = λ z. Left depth_left 7 ts z.0 z.1 in
      guarded (nat_lt 0 depth_left) _ _ y P h (λ high h1.
      bound (library ts) _ y P h1 (λ x name h2.
      bound (arguments inner smaller depth_left x.1) _ y P h2 (λ xs read h3.
      let above : 0 < depth_left = ltb-true 0 depth_left high in
      let first = library_took ts x e name in
      let found = arguments-part above x.1 xs read in
      answered _ y P h3 (record {
        part = record {
          spelled = first.0 ⨾ found.spelled;
          fits = (first.1, found.fits);
          size = omega (arith, found.size);
          low = omega (arith, found.low, above);
        };
        tight = omega arith;
        goes = omega (arith, goes-low (kind_at xs.1));
      }))))

  parentheses-left : (ts : List Token) (y : Took Expr) → kind_at ts ≡ k.Mark m.LeftParenthesis → parentheses inner smaller depth_left ts ≡ Ok y
      → Left depth_left 7 ts y.0 y.1
  unfolding parentheses
  parentheses-left ts y e h =
      let P : Took Expr → Type 0 = λ z. Left depth_left 7 ts z.0 z.1 in
      guarded (nat_lt 0 depth_left) _ _ y P h (λ _ h1.
      bound (inner 1 (drop 1 ts)) _ y P h1 (λ x read h2.
      bound (mark m.RightParenthesis x.1) _ y P h2 (λ v closed h3.
      let found = f 1 (drop 1 ts) x (omega arith) (omega arith) read in
      answered _ y P h3 (record {
        part = record {
          spelled = one_word ts (k.Mark m.LeftParenthesis) (w.Mark m.LeftParenthesis) e refl
              ⨾ (found.1.part.spelled ⨾ mark_plain m.RightParenthesis x.1 v closed);
          fits = found.1.part.fits;
          size = omega (arith, found.1.part.size);
          low = omega (arith, found.0, found.1.part.low);
        };
        tight = omega arith;
        goes = omega (arith, goes-low (kind_at v.1));
      }))))

  prefixed-left : (op : PrefixOperator) (ts : List Token) (y : Took Expr) → kind_at ts ≡ k.Mark (prefix_mark op)
      → prefixed inner smaller depth_left op ts ≡ Ok y → Left depth_left 7 ts y.0 y.1
  unfolding prefixed
  prefixed-left op ts y e h =
      let P : Took Expr → Type 0 = λ z. Left depth_left 7 ts z.0 z.1 in
      guarded (nat_lt 0 depth_left) _ _ y P h (λ _ h1.
      bound (inner 7 (drop 1 ts)) _ y P h1 (λ x read h2.
      let found = f 7 (drop 1 ts) x (omega arith) (omega arith) read in
      answered _ y P h2 (record {
        part = record {
          spelled = one_word ts (k.Mark (prefix_mark op)) (w.Mark (prefix_mark op)) e refl ⨾ found.1.part.spelled;
          fits = (found.1.tight, found.1.part.fits);
          size = omega (arith, found.1.part.size);
          low = omega (arith, found.0, found.1.part.low);
        };
        tight = omega arith;
        goes = omega (arith, found.1.stops);
      })))

  operand-by : (kind : TokenKind) (ts : List Token) (y : Took Expr) → kind_at ts ≡ kind → operand_by inner smaller depth_left kind ts ≡ Ok y
      → Left depth_left 7 ts y.0 y.1
  operand-by k.Number ts y e h = answered _ y (λ z. Left depth_left 7 ts z.0 z.1) h (record {
    part = record { spelled = one_number ts e; fits = tt; size = refl; low = omega arith };
    tight = omega arith;
    goes = omega (arith, goes-low (kind_at (drop 1 ts)));
  })
  operand-by (k.Truth v) ts y e h = answered _ y (λ z. Left depth_left 7 ts z.0 z.1) h (record {
    part = record { spelled = one_word ts (k.Truth v) (s.truth_word v) e refl; fits = tt; size = refl; low = omega arith };
    tight = omega arith;
    goes = omega (arith, goes-low (kind_at (drop 1 ts)));
  })
  operand-by k.Name ts y e h = named-left ts y h
  operand-by k.Library ts y e h = library-left ts y e h
  operand-by (k.Mark m.LeftParenthesis) ts y e h = parentheses-left ts y e h
  operand-by (k.Mark m.Not) ts y e h = prefixed-left prefix.Not ts y e h
  operand-by (k.Mark m.Minus) ts y e h = prefixed-left prefix.Negate ts y e h
  operand-by (k.Mark m.Star) ts y e h = prefixed-left prefix.Dereference ts y e h
  operand-by (k.Mark m.PlusPlus) ts y e h = prefixed-left prefix.Increment ts y e h
  operand-by (k.Mark m.MinusMinus) ts y e h = prefixed-left prefix.Decrement ts y e h
  operand-by _ ts y e h = absurd cc

  pub operand-left : (ts : List Token) (y : Took Expr) → operand inner smaller depth_left ts ≡ Ok y → Left depth_left 7 ts y.0 y.1
  unfolding operand
  operand-left ts y h = operand-by (kind_at ts) ts y refl h

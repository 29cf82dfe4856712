-- How an expression is read, by how tightly its operators bind.
use Rattle.std.specs.Prelude.{ℕ, zero, suc, ◌+◌, ◌-◌, max, nat_lt, drop, [], Option, Some, None, if◌then◌else◌, Ok, Err}
use Rattle.sl_base.specs.declared.mark.Mark.{Mark}
use Rattle.sl_base.specs.declared.mark.Mark.TheVariants as m
use Rattle.sl_base.specs.declared.place.Place.{Place}
use Rattle.sl_syntax.specs.declared.token_kind.TokenKind.{TokenKind}
use Rattle.sl_syntax.specs.declared.token_kind.TokenKind.TheVariants as k
use Rattle.sl_syntax.specs.declared.operator.Arithmetic.TheVariants as a
use Rattle.sl_syntax.specs.declared.operator.BinaryOperator.{BinaryOperator}
use Rattle.sl_syntax.specs.declared.operator.BinaryOperator.TheVariants as b
use Rattle.sl_syntax.specs.declared.operator.Comparison.TheVariants as c
use Rattle.sl_syntax.specs.declared.operator.PostfixOperator.{PostfixOperator}
use Rattle.sl_syntax.specs.declared.operator.PostfixOperator.TheVariants as q
use Rattle.sl_syntax.specs.declared.operator.PrefixOperator.{PrefixOperator}
use Rattle.sl_syntax.specs.declared.operator.PrefixOperator.TheVariants as p
use Rattle.sl_syntax.specs.declared.operator.Selector.TheVariants as s
use Rattle.sl_syntax.specs.declared.tree.identifier.Identifier.{Identifier}
use Rattle.sl_syntax.specs.Shaped.{binary_level}
use Rattle.sl_syntax.specs.Tree as t
use Rattle.sl_syntax.specs.Tree.{Expr, Exprs, exprs_from}
use Rattle.sl_grammar.specs.Means.Steps.{Reader, Tall, ◌>>=◌, ◌>>◌, pure, refuse, refusal, only, skip, kind_at, here, is_mark, mark, identifier}
use Rattle.sl_grammar.specs.Means.Steps.{library, number_at, all_behind}

-- the operator that a word is between two operands
abbrev pub infix_of : TokenKind → Option BinaryOperator
infix_of (k.Mark m.OrOr) = Some b.Or
infix_of (k.Mark m.AndAnd) = Some b.And
infix_of (k.Mark m.EqualEqual) = Some (b.Comparison c.Equal)
infix_of (k.Mark m.NotEqual) = Some (b.Comparison c.NotEqual)
infix_of (k.Mark m.Less) = Some (b.Comparison c.Less)
infix_of (k.Mark m.LessEqual) = Some (b.Comparison c.LessEqual)
infix_of (k.Mark m.Greater) = Some (b.Comparison c.Greater)
infix_of (k.Mark m.GreaterEqual) = Some (b.Comparison c.GreaterEqual)
infix_of (k.Mark m.Plus) = Some (b.Arithmetic a.Add)
infix_of (k.Mark m.Minus) = Some (b.Arithmetic a.Subtract)
infix_of (k.Mark m.Star) = Some (b.Arithmetic a.Multiply)
infix_of (k.Mark m.Slash) = Some (b.Arithmetic a.Divide)
infix_of (k.Mark m.Percent) = Some (b.Arithmetic a.Remainder)
infix_of _ = None

-- how tightly an operator between two operands binds, and where there is none a piece behind an operand
abbrev pub binds_or : ℕ → Option BinaryOperator → ℕ
binds_or other (Some op) = binary_level op
binds_or other None = other

-- how tightly a piece behind an operand binds that begins with this word, and 0 where none does
abbrev pub piece_level : TokenKind → ℕ
piece_level (k.Mark m.PlusPlus) = 8
piece_level (k.Mark m.MinusMinus) = 8
piece_level (k.Mark m.LeftBracket) = 8
piece_level (k.Mark m.Dot) = 8
piece_level (k.Mark m.Arrow) = 8
piece_level _ = 0

-- how tightly a word that goes on with an expression binds, and 0 where it doesn't
abbrev pub goes_on : TokenKind → ℕ
goes_on kind = binds_or (piece_level kind) (infix_of kind)

-- A list of expressions that is at most so high: the first is read by `one`. Where others follow, the list is a node, and they are read by `more`.
module _ (one more : Reader (Tall Expr)) (depth_left : ℕ) where
  abbrev pub comma_expr : Reader (Tall Expr)
  comma_expr = mark m.Comma >> more

  unfoldable pub list_behind : Tall Expr → Reader (Tall Exprs)
  list_behind x = λ ts.
      if is_mark m.Comma (kind_at ts) then
      only (nat_lt x.1 depth_left)
      (all_behind (is_mark m.Comma) comma_expr ([], 0) >>= (λ xs. pure (t.with x.0 (exprs_from xs.0), max x.1 xs.1 + 1))) ts
      else Ok ((t.with x.0 t.none, x.1), ts)

  unfoldable pub list : Reader (Tall Exprs)
  list = one >>= list_behind

  -- a list that may be empty, before this mark
  unfoldable pub list_before : Mark → Reader (Tall Exprs)
  list_before close = λ ts. if is_mark close (kind_at ts) then Ok ((t.none, 0), ts) else list ts

-- The readers of expressions one node and two nodes deeper, and how many nodes may still stand over a leaf.
module _ (inner smaller : ℕ → Reader (Tall Expr)) (depth_left : ℕ) where
  -- what stands in parentheses behind the name of a function, with them
  unfoldable pub arguments : Reader (Tall Exprs)
  arguments = do
    mark m.LeftParenthesis
    xs ← list_before (inner 1) (smaller 1) (depth_left - 1) m.RightParenthesis
    mark m.RightParenthesis
    pure xs

  abbrev pub call : Identifier → Reader (Tall Expr)
  call f = only (nat_lt 0 depth_left) (arguments >>= (λ xs. pure (t.call f xs.0, xs.1 + 1)))

  abbrev pub name_or_call : Identifier → Reader (Tall Expr)
  name_or_call f = λ ts. if is_mark m.LeftParenthesis (kind_at ts) then call f ts else Ok ((t.name f, 0), ts)

  unfoldable pub named : Reader (Tall Expr)
  named = identifier >>= name_or_call

  unfoldable pub library_call : Reader (Tall Expr)
  library_call = only (nat_lt 0 depth_left) (do
    f ← library
    xs ← arguments
    pure (t.library_call f xs.0, xs.1 + 1))

  unfoldable pub parentheses : Reader (Tall Expr)
  parentheses = λ ts. only (nat_lt 0 depth_left) (do
    skip
    x ← inner 1
    mark m.RightParenthesis
    pure (t.parentheses (here ts) x.0, x.1 + 1)) ts

  unfoldable pub prefixed : PrefixOperator → Reader (Tall Expr)
  prefixed op = λ ts. only (nat_lt 0 depth_left) (do
    skip
    x ← inner 7
    pure (t.prefix op (here ts) x.0, x.1 + 1)) ts

  abbrev pub operand_by : TokenKind → Reader (Tall Expr)
  operand_by k.Number = λ ts. Ok ((t.number (here ts) (number_at ts), 0), drop 1 ts)
  operand_by (k.Truth v) = λ ts. Ok ((t.truth (here ts) v, 0), drop 1 ts)
  operand_by k.Name = named
  operand_by k.Library = library_call
  operand_by (k.Mark m.LeftParenthesis) = parentheses
  operand_by (k.Mark m.Not) = prefixed p.Not
  operand_by (k.Mark m.Minus) = prefixed p.Negate
  operand_by (k.Mark m.Star) = prefixed p.Dereference
  operand_by (k.Mark m.PlusPlus) = prefixed p.Increment
  operand_by (k.Mark m.MinusMinus) = prefixed p.Decrement
  operand_by _ = refuse

  -- what begins an expression: an operand with the operators before it
  unfoldable pub operand : Reader (Tall Expr)
  operand = λ ts. operand_by (kind_at ts) ts

  unfoldable pub indexed : Tall Expr → Reader (Tall Expr)
  indexed left = λ ts. (do
    skip
    y ← inner 1
    mark m.RightBracket
    pure (t.index left.0 (here ts) y.0, max left.1 y.1 + 1)) ts

  -- behind the name of a member: a call of it, or itself
  abbrev pub member_by : Tall Expr → Place → Identifier → Reader (Tall Expr)
  member_by left dot f = λ ts.
      if is_mark m.LeftParenthesis (kind_at ts) then (arguments >>= (λ xs. pure (t.member_call left.0 f xs.0, max left.1 xs.1 + 1))) ts
      else Ok ((t.member left.0 s.Dot dot f, left.1 + 1), ts)

  unfoldable pub dotted : Tall Expr → Reader (Tall Expr)
  dotted left = λ ts. (do
    skip
    f ← identifier
    member_by left (here ts) f) ts

  unfoldable pub pointed : Tall Expr → Reader (Tall Expr)
  pointed left = λ ts. (do
    skip
    f ← identifier
    pure (t.member left.0 s.Arrow (here ts) f, left.1 + 1)) ts

  abbrev pub postfixed : Tall Expr → PostfixOperator → Reader (Tall Expr)
  postfixed left op = λ ts. Ok ((t.postfix left.0 op (here ts), left.1 + 1), drop 1 ts)

  abbrev pub piece_by : Tall Expr → TokenKind → Reader (Tall Expr)
  piece_by left (k.Mark m.PlusPlus) = postfixed left q.Increment
  piece_by left (k.Mark m.MinusMinus) = postfixed left q.Decrement
  piece_by left (k.Mark m.LeftBracket) = indexed left
  piece_by left (k.Mark m.Dot) = dotted left
  piece_by left (k.Mark m.Arrow) = pointed left
  piece_by left _ = refuse

  unfoldable pub piece : Tall Expr → Reader (Tall Expr)
  piece left = λ ts. piece_by left (kind_at ts) ts

  unfoldable pub combined : Tall Expr → BinaryOperator → Reader (Tall Expr)
  combined left op = λ ts. (do
    skip
    y ← inner (binary_level op + 1)
    pure (t.binary left.0 op (here ts) y.0, max left.1 y.1 + 1)) ts

  abbrev pub operation_by : Tall Expr → Option BinaryOperator → Reader (Tall Expr)
  operation_by left (Some op) = combined left op
  operation_by left None = piece left

  -- the left side and what goes on with it
  unfoldable pub operation : Tall Expr → Reader (Tall Expr)
  operation left = λ ts. operation_by left (infix_of (kind_at ts)) ts

  -- goes on as long as an operator binds tightly enough. The number bounds the turns; each makes the tree higher.
  unfoldable pub climb : ℕ → ℕ → Tall Expr → Reader (Tall Expr)
  climb least zero left = λ ts. if nat_lt (goes_on (kind_at ts)) least then Ok (left, ts) else Err (refusal ts)
  climb least (suc n) left = λ ts.
      if nat_lt (goes_on (kind_at ts)) least then Ok (left, ts)
      else only (nat_lt left.1 depth_left) (operation left >>= climb least n) ts

  unfoldable pub from_operand : ℕ → Reader (Tall Expr)
  from_operand least = operand >>= climb least depth_left

-- an expression that is less high than the first number, and whose operators bind at least so tightly
unfoldable pub expr : ℕ → ℕ → Reader (Tall Expr)
expr zero least = refuse
expr (suc zero) least = from_operand (expr zero) (expr zero) zero least
expr (suc (suc n)) least = from_operand (expr (suc n)) (expr n) (suc n) least

-- How reads, prints, assignments and conditions are read. The number is how many nodes may stand on a way in what is read.
use Rattle.std.specs.Prelude.{ℕ, ◌+◌, ◌&&◌, max, nat_lt, drop, Bool, true, false, List, [], ◌∷◌, Option, Some, None, if◌then◌else◌, Ok}
use Rattle.sl_base.specs.declared.mark.Mark.TheVariants as m
use Rattle.sl_base.specs.declared.token.Token.{Token}
use Rattle.sl_syntax.specs.declared.token_kind.TokenKind.{TokenKind}
use Rattle.sl_syntax.specs.declared.token_kind.TokenKind.TheVariants as k
use Rattle.sl_syntax.specs.declared.operator.Arithmetic.TheVariants as a
use Rattle.sl_syntax.specs.declared.operator.Assignment.{Assignment}
use Rattle.sl_syntax.specs.declared.operator.Assignment.TheVariants as g
use Rattle.sl_syntax.specs.declared.tree.effect.Read.{Read}
use Rattle.sl_syntax.specs.declared.tree.identifier.Identifier.{Identifier}
use Rattle.sl_syntax.specs.Tree as t
use Rattle.sl_syntax.specs.Tree.{Expr, Out, Effect, Cond}
use Rattle.sl_grammar.specs.Means.Expressions.{expr}
use Rattle.sl_grammar.specs.Means.Steps.{Reader, Tall, and_then, ◌>>=◌, ◌>>◌, pure, only, skip, kind_at, here, is_mark, mark, identifier, text_at}
use Rattle.sl_grammar.specs.Means.Steps.{all_behind}

-- `>> x`
unfoldable pub shifted_name : Reader (Tall Identifier)
shifted_name = do
  mark m.ShiftRight
  x ← identifier
  pure (x, 0)

unfoldable pub read : ℕ → Reader (Tall Read)
read depth_left = λ ts. only (nat_lt 0 depth_left) (do
  skip
  x ← shifted_name
  xs ← all_behind (is_mark m.ShiftRight) shifted_name (x.0 ∷ [], 0)
  pure (record { place = here ts; variables = xs.0 }, 1)) ts

-- the word is `std::cin`
abbrev pub is_input : TokenKind → Bool
is_input k.Input = true
is_input _ = false

module _ (depth_left : ℕ) where
  abbrev pub out_by : TokenKind → Reader (Tall Out)
  out_by k.Text = λ ts. Ok ((t.text (here ts) (text_at ts), 0), drop 1 ts)
  out_by k.EndLine = λ ts. Ok ((t.end_line (here ts), 0), drop 1 ts)
  out_by _ = expr depth_left 5 >>= (λ x. pure (t.value x.0, x.1))

  -- `<< x`, which is less high than the number
  unfoldable pub shifted_out : Reader (Tall Out)
  shifted_out = do
    mark m.ShiftLeft
    (λ ts. out_by (kind_at ts) ts)

  unfoldable pub print : Reader (Tall Effect)
  print = λ ts. only (nat_lt 0 depth_left) (do
    skip
    x ← shifted_out
    xs ← all_behind (is_mark m.ShiftLeft) shifted_out (x.0 ∷ [], x.1)
    pure (t.prints (here ts) xs.0, xs.1 + 1)) ts

  -- the operator of an assignment that a word is
  abbrev pub assignment_of : TokenKind → Option Assignment
  assignment_of (k.Mark m.Equal) = Some g.Set
  assignment_of (k.Mark m.PlusEqual) = Some (g.Update a.Add)
  assignment_of (k.Mark m.MinusEqual) = Some (g.Update a.Subtract)
  assignment_of (k.Mark m.StarEqual) = Some (g.Update a.Multiply)
  assignment_of (k.Mark m.SlashEqual) = Some (g.Update a.Divide)
  assignment_of (k.Mark m.PercentEqual) = Some (g.Update a.Remainder)
  assignment_of _ = None

  abbrev pub assigned_by : Tall Expr → Option Assignment → Reader (Tall Effect)
  assigned_by left (Some op) = λ ts. only (nat_lt left.1 depth_left) (do
    skip
    y ← expr depth_left 1
    pure (t.assigns left.0 op (here ts) y.0, max left.1 y.1 + 1)) ts
  assigned_by left None = λ ts. Ok ((t.evaluates left.0, left.1), ts)

  -- a left side, or a whole effect
  unfoldable pub assigned : Tall Expr → Reader (Tall Effect)
  assigned left = λ ts. assigned_by left (assignment_of (kind_at ts)) ts

  abbrev pub effect_by : TokenKind → Reader (Tall Effect)
  effect_by k.Input = read depth_left >>= (λ r. pure (t.reads r.0, r.1))
  effect_by k.Output = print
  effect_by _ = expr (depth_left + 1) 1 >>= assigned

  unfoldable pub effect : Reader (Tall Effect)
  effect = λ ts. effect_by (kind_at ts) ts

  -- `!(std::cin` begins
  abbrev pub begins_no_read : List Token → Bool
  begins_no_read ts = is_mark m.Not (kind_at ts) && is_mark m.LeftParenthesis (kind_at (drop 1 ts)) && is_input (kind_at (drop 2 ts))

  unfoldable pub no_read : Reader (Tall Cond)
  no_read = λ ts. (do
    skip
    mark m.LeftParenthesis
    r ← read depth_left
    mark m.RightParenthesis
    pure (t.tests_no_read (here ts) r.0, 2)) ts

  abbrev pub cond_by : TokenKind → Reader (Tall Cond)
  cond_by k.Input = read depth_left >>= (λ r. pure (t.tests_read r.0, r.1))
  cond_by _ = λ ts.
      if nat_lt 1 depth_left && begins_no_read ts then no_read ts
      else and_then (expr (depth_left + 1) 1 ts) (λ x. pure (t.tests x.0, x.1))

  unfoldable pub cond : Reader (Tall Cond)
  cond = λ ts. cond_by (kind_at ts) ts

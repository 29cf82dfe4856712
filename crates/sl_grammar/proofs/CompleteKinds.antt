-- What the words of the grammar are to it, and which of them begin an expression.
use Rattle.std.proofs.Common.{◌≡◌, ℕ, ◌<◌, ◌≤◌, Bool, true, false, List, length, Some, refl, arith, length-append}
use Rattle.sl_base.specs.declared.form.Form.{Form}
use Rattle.sl_base.specs.declared.form.Form.TheVariants as f
use Rattle.sl_base.specs.declared.mark.Mark.TheVariants as m
use Rattle.sl_base.specs.declared.scalar.Scalar.{Scalar}
use Rattle.sl_base.specs.declared.scalar.Scalar.TheVariants as c
use Rattle.sl_base.specs.declared.token.Token.{Token}
use Rattle.sl_syntax.specs.declared.token_kind.TokenKind.{TokenKind}
use Rattle.sl_syntax.specs.declared.token_kind.TokenKind.TheVariants as k
use Rattle.sl_syntax.specs.declared.operator.Arithmetic.TheVariants as a
use Rattle.sl_syntax.specs.declared.operator.Assignment.{Assignment}
use Rattle.sl_syntax.specs.declared.operator.Assignment.TheVariants as g
use Rattle.sl_syntax.specs.declared.operator.BinaryOperator.{BinaryOperator}
use Rattle.sl_syntax.specs.declared.operator.BinaryOperator.TheVariants as b
use Rattle.sl_syntax.specs.declared.operator.Comparison.TheVariants as l
use Rattle.sl_syntax.specs.declared.operator.PrefixOperator.{PrefixOperator}
use Rattle.sl_syntax.specs.declared.operator.PrefixOperator.TheVariants as p
use Rattle.sl_syntax.specs.declared.tree.element.ElementType.{ElementType}
use Rattle.sl_syntax.specs.declared.tree.element.ElementType.TheVariants as y
use Rattle.sl_syntax.specs.TokenKinds.{kind_of}
use Rattle.sl_syntax.specs.Shaped.{binary_level, IsExpr}
use Rattle.sl_syntax.specs.Tree as t
use Rattle.sl_syntax.specs.Tree.{Expr}
use Rattle.sl_syntax.specs.Written.{binary_mark, prefix_mark, assignment_mark, truth_word, scalar_word, form_word, element_word, written}
use Rattle.sl_grammar.specs.Means.Effects.{assignment_of}
use Rattle.sl_grammar.specs.Means.Expressions.{infix_of, goes_on}
use Rattle.sl_grammar.specs.Means.Steps.{kind_at, is_mark}
use Rattle.sl_grammar.proofs.Spelling.{Spelled, split, at_word}

-- what the type of an element is to the grammar
abbrev pub element_token : ElementType → TokenKind
element_token y.Int = k.Scalar c.Int
element_token y.Auto = k.Auto

pub truth-kind : (v : Bool) → kind_of (truth_word v) ≡ k.Truth v
truth-kind true = refl
truth-kind false = refl

pub scalar-kind : (s : Scalar) → kind_of (scalar_word s) ≡ k.Scalar s
scalar-kind c.Int = refl
scalar-kind _ = refl

pub element-kind : (x : ElementType) → kind_of (element_word x) ≡ element_token x
element-kind y.Int = refl
element-kind y.Auto = refl

pub form-kind : (x : Form) → kind_of (form_word x) ≡ k.Container x
form-kind f.Vector = refl
form-kind _ = refl

pub infix-mark : (op : BinaryOperator) → infix_of (k.Mark (binary_mark op)) ≡ Some op
infix-mark b.Or = refl
infix-mark (b.Comparison l.Equal) = refl
infix-mark (b.Arithmetic a.Add) = refl
infix-mark _ = refl

pub binary-level : (op : BinaryOperator) → goes_on (k.Mark (binary_mark op)) ≡ binary_level op
binary-level op = rw infix-mark refl

pub binary-level_some : (op : BinaryOperator) → 1 ≤ binary_level op
binary-level_some b.Or = omega arith
binary-level_some (b.Comparison l.Equal) = omega arith
binary-level_some (b.Arithmetic a.Add) = omega arith
binary-level_some _ = omega arith

pub binary-not_call : (op : BinaryOperator) → is_mark m.LeftParenthesis (k.Mark (binary_mark op)) ≡ false
binary-not_call b.Or = refl
binary-not_call (b.Comparison l.Equal) = refl
binary-not_call (b.Arithmetic a.Add) = refl
binary-not_call _ = refl

pub assignment-mark : (depth_left : ℕ) (op : Assignment) → assignment_of depth_left (k.Mark (assignment_mark op)) ≡ Some op
assignment-mark depth_left g.Set = refl
assignment-mark depth_left (g.Update a.Add) = refl
assignment-mark depth_left _ = refl

-- What follows an expression, after which it goes on by no operator that binds so tightly, and not as a call.
pub record Ends (least : ℕ) (kind : TokenKind) : Type 0 where
  pub stops : goes_on kind < least
  pub not_call : is_mark m.LeftParenthesis kind ≡ false

pub assignment-ends : (op : Assignment) → Ends 1 (k.Mark (assignment_mark op))
assignment-ends g.Set = record { stops = omega arith; not_call = refl }
assignment-ends (g.Update a.Add) = record { stops = omega arith; not_call = refl }
assignment-ends _ = record { stops = omega arith; not_call = refl }

-- no word binds exactly as an operator before an operand does
pub sign-level : (kind : TokenKind) → goes_on kind ≤ 7 → goes_on kind < 7
sign-level (k.Mark m.PlusPlus) h = absurd (omega arith)
sign-level (k.Mark m.MinusMinus) h = absurd (omega arith)
sign-level (k.Mark m.LeftBracket) h = absurd (omega arith)
sign-level (k.Mark m.Dot) h = absurd (omega arith)
sign-level (k.Mark m.Arrow) h = absurd (omega arith)
sign-level (k.Mark _) h = omega arith
sign-level _ h = omega arith

-- the word begins an expression
abbrev pub begins_expr : TokenKind → Bool
begins_expr k.Number = true
begins_expr (k.Truth v) = true
begins_expr k.Name = true
begins_expr k.Library = true
begins_expr (k.Mark m.LeftParenthesis) = true
begins_expr (k.Mark m.Not) = true
begins_expr (k.Mark m.Minus) = true
begins_expr (k.Mark m.Star) = true
begins_expr (k.Mark m.PlusPlus) = true
begins_expr (k.Mark m.MinusMinus) = true
begins_expr _ = false

begins-prefix : (op : PrefixOperator) → begins_expr (k.Mark (prefix_mark op)) ≡ true
begins-prefix p.Not = refl
begins-prefix _ = refl

pub expr-begins : (r : Expr) (ts rest : List Token) → IsExpr r → Spelled (written r) ts rest → begins_expr (kind_at ts) ≡ true
expr-begins (t.number place n) ts rest g h = at_word h (λ o us e _. rw e refl)
expr-begins (t.truth place v) ts rest g h = at_word h (λ o us e _. rw (e, truth-kind v) refl)
expr-begins (t.name x) ts rest g h = at_word h (λ o us e _. rw e refl)
expr-begins (t.call f xs) ts rest g h = at_word h (λ o us e _. rw e refl)
expr-begins (t.library_call f xs) ts rest g h = at_word h (λ o us e _. rw (e, g.0) refl)
expr-begins (t.parentheses place x) ts rest g h = at_word h (λ o us e _. rw e refl)
expr-begins (t.prefix op place x) ts rest g h = at_word h (λ o us e _. rw e (begins-prefix op))
expr-begins (t.binary x op place y) ts rest g h = split (written x) h (λ mid p q. expr-begins x ts mid g.2 p)
expr-begins (t.postfix x op place) ts rest g h = split (written x) h (λ mid p q. expr-begins x ts mid g.1 p)
expr-begins (t.index x place y) ts rest g h = split (written x) h (λ mid p q. expr-begins x ts mid g.1 p)
expr-begins (t.member_call x f xs) ts rest g h = split (written x) h (λ mid p q. expr-begins x ts mid g.1 p)
expr-begins (t.member x s place f) ts rest g h = split (written x) h (λ mid p q. expr-begins x ts mid g.1 p)

-- an expression has a word at least
pub expr-some : (r : Expr) → 1 ≤ length (written r)
expr-some (t.binary x op place y) = rw length-append (omega (arith, expr-some x))
expr-some (t.postfix x op place) = rw length-append (omega (arith, expr-some x))
expr-some (t.index x place y) = rw length-append (omega (arith, expr-some x))
expr-some (t.member_call x f xs) = rw length-append (omega (arith, expr-some x))
expr-some (t.member x s place f) = rw length-append (omega (arith, expr-some x))
expr-some _ = omega arith

-- How many nodes a tree has, by which the recursion ends.
use Rattle.std.proofs.Common.{◌≡◌, ℕ, zero, suc, ◌+◌, ◌<◌, ◌≤◌, List, [], ◌∷◌, length, get_or, Box, Vec, ap, arith}
use Rattle.std.specs.declared.alloc.Global.{Global}
use Rattle.sl_base.specs.declared.place.Place.{Place}
use Rattle.sl_syntax.specs.declared.operator.BinaryOperator.{BinaryOperator}
use Rattle.sl_syntax.specs.declared.operator.PostfixOperator.{PostfixOperator}
use Rattle.sl_syntax.specs.declared.operator.PrefixOperator.{PrefixOperator}
use Rattle.sl_syntax.specs.declared.operator.Selector.{Selector}
use Rattle.sl_syntax.specs.declared.tree.expr.Expr.{Expr as ExprCode}
use Rattle.sl_syntax.specs.declared.tree.expr.Expr.TheVariants as e
use Rattle.sl_syntax.specs.declared.tree.identifier.Identifier.{Identifier}
use Rattle.sl_syntax.specs.Tree as s
use Rattle.sl_syntax.specs.Tree.{Expr, Exprs}
use Rattle.sl_syntax.specs.TreeView.{expr_of, exprs_of}
use Rattle.sl_syntax.proofs.TreeViews.{expr_of-Call, expr_of-LibraryCall, expr_of-Parentheses, expr_of-Prefix, expr_of-Binary, expr_of-Postfix}
use Rattle.sl_syntax.proofs.TreeViews.{expr_of-Index, expr_of-MemberCall, expr_of-Member}
use Rattle.sl_typing.specs.declared.scope.Scope.{Scope}
use Rattle.sl_typing.specs.Sites.{site_count}

unfoldable mutual
  -- of an expression
  pub nodes : Expr → ℕ
  nodes (s.call f xs) = nodes_all xs + 1
  nodes (s.library_call f xs) = nodes_all xs + 1
  nodes (s.parentheses at x) = nodes x + 1
  nodes (s.prefix op at x) = nodes x + 1
  nodes (s.binary x op at y) = nodes x + nodes y + 1
  nodes (s.postfix x op at) = nodes x + 1
  nodes (s.index x at y) = nodes x + nodes y + 1
  nodes (s.member_call x f xs) = nodes x + nodes_all xs + 1
  nodes (s.member x selector at f) = nodes x + 1
  nodes x = 1

  -- of expressions
  pub nodes_all : Exprs → ℕ
  nodes_all s.none = 0
  nodes_all (s.with x xs) = nodes x + nodes_all xs + 1

-- of a tree of the code
abbrev pub nodes_of : ExprCode → ℕ
nodes_of x = nodes (expr_of x)

abbrev pub nodes_of_all : List ExprCode → ℕ
nodes_of_all xs = nodes_all (exprs_of xs)

-- how many sites a tree of the code has
abbrev pub sites_of : Scope → ExprCode → ℕ
sites_of g x = site_count g (expr_of x)

nodes_at : (xs : List ExprCode) (i : ℕ) (d : ExprCode) → i < length xs → nodes_of (get_or xs i d) + 1 ≤ nodes_of_all xs
unfolding nodes_all
nodes_at [] i d h = absurd (omega (arith, h))
nodes_at (x ∷ xs) zero d h = omega arith
nodes_at (x ∷ xs) (suc i) d h = omega (arith, nodes_at xs i d (omega (arith, h)))

-- an argument has fewer nodes than all arguments
pub nodes-item : (xs : List ExprCode) (i : ℕ) (x : ExprCode) → i < length xs → x ≡ get_or xs i x → nodes_of x + 1 ≤ nodes_of_all xs
nodes-item xs i x within is = omega (arith, nodes_at xs i x within, ap nodes_of is)

pub nodes-Call : (f : Identifier) (v : Vec ExprCode Global) → nodes_of (e.Call f v) ≡ nodes_of_all v.items + 1
unfolding nodes
nodes-Call f v = ap nodes (expr_of-Call f v)

pub nodes-LibraryCall : (f : Identifier) (v : Vec ExprCode Global) → nodes_of (e.LibraryCall f v) ≡ nodes_of_all v.items + 1
unfolding nodes
nodes-LibraryCall f v = ap nodes (expr_of-LibraryCall f v)

pub nodes-Parentheses : (p : Place) (x : Box ExprCode Global) → nodes_of (e.Parentheses p x) ≡ nodes_of x.value + 1
unfolding nodes
nodes-Parentheses p x = ap nodes (expr_of-Parentheses p x)

pub nodes-Prefix : (op : PrefixOperator) (p : Place) (x : Box ExprCode Global) → nodes_of (e.Prefix op p x) ≡ nodes_of x.value + 1
unfolding nodes
nodes-Prefix op p x = ap nodes (expr_of-Prefix op p x)

pub nodes-Binary : (x : Box ExprCode Global) (op : BinaryOperator) (p : Place) (y : Box ExprCode Global) → nodes_of (e.Binary x op p y) ≡ nodes_of x.value + nodes_of y.value + 1
unfolding nodes
nodes-Binary x op p y = ap nodes (expr_of-Binary x op p y)

pub nodes-Postfix : (x : Box ExprCode Global) (op : PostfixOperator) (p : Place) → nodes_of (e.Postfix x op p) ≡ nodes_of x.value + 1
unfolding nodes
nodes-Postfix x op p = ap nodes (expr_of-Postfix x op p)

pub nodes-Index : (x : Box ExprCode Global) (p : Place) (y : Box ExprCode Global) → nodes_of (e.Index x p y) ≡ nodes_of x.value + nodes_of y.value + 1
unfolding nodes
nodes-Index x p y = ap nodes (expr_of-Index x p y)

pub nodes-MemberCall : (x : Box ExprCode Global) (f : Identifier) (v : Vec ExprCode Global) → nodes_of (e.MemberCall x f v) ≡ nodes_of x.value + nodes_of_all v.items + 1
unfolding nodes
nodes-MemberCall x f v = ap nodes (expr_of-MemberCall x f v)

pub nodes-Member : (x : Box ExprCode Global) (k : Selector) (p : Place) (f : Identifier) → nodes_of (e.Member x k p f) ≡ nodes_of x.value + 1
unfolding nodes
nodes-Member x k p f = ap nodes (expr_of-Member x k p f)

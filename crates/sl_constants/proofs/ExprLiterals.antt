-- The literals of an expression of the code, variant by variant.
use Rattle.std.proofs.Common.{◌≡◌, List, [], ◌∷◌, ◌++◌, Box, Vec, ℕ, refl, ap, ◌∙◌, Bool, ℤ, pos, flat_map}
use Rattle.std.specs.declared.alloc.Global.{Global}
use Rattle.sl_base.specs.declared.place.Place.{Place}
use Rattle.sl_syntax.specs.declared.operator.BinaryOperator.{BinaryOperator}
use Rattle.sl_syntax.specs.declared.operator.PostfixOperator.{PostfixOperator}
use Rattle.sl_syntax.specs.declared.operator.PrefixOperator.{PrefixOperator}
use Rattle.sl_syntax.specs.declared.operator.Selector.{Selector}
use Rattle.sl_syntax.specs.declared.tree.expr.Expr.{Expr as ExprCode}
use Rattle.sl_syntax.specs.declared.tree.expr.Expr.TheVariants as e
use Rattle.sl_syntax.specs.declared.tree.identifier.Identifier.{Identifier}
use Rattle.sl_syntax.specs.Tree.{Expr}
use Rattle.sl_syntax.specs.TreeView.{expr_of, exprs_of}
use Rattle.sl_typing.specs.Literals.{literals, literals_of_all}
use Rattle.sl_typing.specs.Numbering.{truth_number}
use Rattle.sl_syntax.proofs.TreeViews.{expr_of-Call, expr_of-LibraryCall, expr_of-Parentheses, expr_of-Prefix, expr_of-Binary, expr_of-Postfix}
use Rattle.sl_syntax.proofs.TreeViews.{expr_of-Index, expr_of-MemberCall, expr_of-Member}

abbrev pub literals_in : ExprCode → List ℤ
literals_in x = literals (expr_of x)

as_data : (x : ExprCode) (y : Expr) → expr_of x ≡ y → literals_in x ≡ literals y
as_data x y e = ap literals e

pub literals-Number : (p : Place) (n : ℕ) → literals_in (e.Number p n) ≡ pos n ∷ []
unfolding literals literals_of_all
literals-Number p n = refl

pub literals-Truth : (p : Place) (x : Bool) → literals_in (e.Truth p x) ≡ truth_number x ∷ []
unfolding literals literals_of_all
literals-Truth p x = refl

pub literals-Name : (x : Identifier) → literals_in (e.Name x) ≡ []
unfolding literals literals_of_all
literals-Name x = refl

pub literals-Call : (f : Identifier) (v : Vec ExprCode Global) → literals_in (e.Call f v) ≡ literals_of_all (exprs_of v.items)
unfolding literals literals_of_all
literals-Call f v = as_data (e.Call f v) _ (expr_of-Call f v)

pub literals-LibraryCall : (f : Identifier) (v : Vec ExprCode Global) → literals_in (e.LibraryCall f v) ≡ literals_of_all (exprs_of v.items)
unfolding literals literals_of_all
literals-LibraryCall f v = as_data (e.LibraryCall f v) _ (expr_of-LibraryCall f v)

pub literals-Parentheses : (p : Place) (x : Box ExprCode Global) → literals_in (e.Parentheses p x) ≡ literals_in x.value
unfolding literals literals_of_all
literals-Parentheses p x = as_data (e.Parentheses p x) _ (expr_of-Parentheses p x)

pub literals-Prefix : (op : PrefixOperator) (p : Place) (x : Box ExprCode Global) → literals_in (e.Prefix op p x) ≡ literals_in x.value
unfolding literals literals_of_all
literals-Prefix op p x = as_data (e.Prefix op p x) _ (expr_of-Prefix op p x)

pub literals-Binary : (x : Box ExprCode Global) (op : BinaryOperator) (p : Place) (y : Box ExprCode Global) → literals_in (e.Binary x op p y) ≡ literals_in x.value ++ literals_in y.value
unfolding literals literals_of_all
literals-Binary x op p y = as_data (e.Binary x op p y) _ (expr_of-Binary x op p y)

pub literals-Postfix : (x : Box ExprCode Global) (op : PostfixOperator) (p : Place) → literals_in (e.Postfix x op p) ≡ literals_in x.value
unfolding literals literals_of_all
literals-Postfix x op p = as_data (e.Postfix x op p) _ (expr_of-Postfix x op p)

pub literals-Index : (x : Box ExprCode Global) (p : Place) (y : Box ExprCode Global) → literals_in (e.Index x p y) ≡ literals_in x.value ++ literals_in y.value
unfolding literals literals_of_all
literals-Index x p y = as_data (e.Index x p y) _ (expr_of-Index x p y)

pub literals-MemberCall : (x : Box ExprCode Global) (f : Identifier) (v : Vec ExprCode Global) → literals_in (e.MemberCall x f v) ≡ literals_in x.value ++ literals_of_all (exprs_of v.items)
unfolding literals literals_of_all
literals-MemberCall x f v = as_data (e.MemberCall x f v) _ (expr_of-MemberCall x f v)

pub literals-Member : (x : Box ExprCode Global) (s : Selector) (p : Place) (f : Identifier) → literals_in (e.Member x s p f) ≡ literals_in x.value
unfolding literals literals_of_all
literals-Member x s p f = as_data (e.Member x s p f) _ (expr_of-Member x s p f)

pub literals-none : literals_of_all (exprs_of []) ≡ []
unfolding literals_of_all
literals-none = refl

pub literals-with : (x : ExprCode) (xs : List ExprCode) → literals_of_all (exprs_of (x ∷ xs)) ≡ literals_in x ++ literals_of_all (exprs_of xs)
unfolding literals_of_all
literals-with x xs = refl

-- those of each expression, one behind the other
pub each_expr : (xs : List ExprCode) → literals_of_all (exprs_of xs) ≡ flat_map literals_in xs
each_expr [] = literals-none
each_expr (x ∷ xs) = literals-with x xs ∙ ap (λ l. literals_in x ++ l) (each_expr xs)

pub ruleset expr_literals = (
  literals-Number,
  literals-Truth,
  literals-Name,
  literals-Call,
  literals-LibraryCall,
  literals-Parentheses,
  literals-Prefix,
  literals-Binary,
  literals-Postfix,
  literals-Index,
  literals-MemberCall,
  literals-Member,
  literals-none,
  literals-with,
)

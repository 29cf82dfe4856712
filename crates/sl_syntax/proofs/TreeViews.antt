-- What a tree of the code is as data, variant by variant.
use Rattle.std.proofs.Common.{◌≡◌, rules, Box, Vec, refl, ap, Option, Some, None, option_map}
use Rattle.std.specs.declared.alloc.Global.{Global}
use Rattle.sl_base.specs.declared.place.Place.{Place}
use Rattle.sl_syntax.specs.declared.operator.BinaryOperator.{BinaryOperator}
use Rattle.sl_syntax.specs.declared.operator.PostfixOperator.{PostfixOperator}
use Rattle.sl_syntax.specs.declared.operator.PrefixOperator.{PrefixOperator}
use Rattle.sl_syntax.specs.declared.operator.Selector.{Selector}
use Rattle.sl_syntax.specs.declared.tree.effect.Cond.{Cond as CondCode}
use Rattle.sl_syntax.specs.declared.tree.effect.Effect.{Effect as EffectCode}
use Rattle.sl_syntax.specs.declared.tree.element.Element.{Element}
use Rattle.sl_syntax.specs.declared.tree.expr.Expr.{Expr as ExprCode, Row_of-Expr, end_of-Expr, more_of-Expr, items-the_row-Expr}
use Rattle.sl_syntax.specs.declared.tree.expr.Expr.{the_lemmas as expr_lemmas}
use Rattle.sl_syntax.specs.declared.tree.expr.Expr.TheVariants as e
use Rattle.sl_syntax.specs.declared.tree.identifier.Identifier.{Identifier}
use Rattle.sl_syntax.specs.declared.tree.statement.Block.{Block as BlockCode}
use Rattle.sl_syntax.specs.declared.tree.statement.First.{First as FirstCode}
use Rattle.sl_syntax.specs.declared.tree.statement.Stmt.{Stmt as StmtCode, Row_of-Item, end_of-Item, more_of-Item, items-the_row-Item}
use Rattle.sl_syntax.specs.declared.tree.statement.Stmt.{the_lemmas as stmt_lemmas}
use Rattle.sl_syntax.specs.declared.tree.statement.Stmt.TheVariants as s
use Rattle.sl_syntax.specs.Tree as t
use Rattle.sl_syntax.specs.TreeView.{expr_of, exprs_of, row_view, cond_of, first_of, effect_of, stmt_of, item_of, items_of, items_view}

row_view-items : (n : _) (row : Row_of-Expr n) → row_view row ≡ exprs_of (items-the_row-Expr n row)
row_view-items n end_of-Expr = refl
row_view-items n (more_of-Expr x rest) = ap (t.with (expr_of x)) (row_view-items _ rest)

pub expr_of-Call : (f : Identifier) (v : Vec ExprCode Global) → expr_of (e.Call f v) ≡ t.call f (exprs_of v.items)
expr_of-Call f v = search (rules, expr_lemmas, row_view-items)

pub expr_of-LibraryCall : (f : Identifier) (v : Vec ExprCode Global) → expr_of (e.LibraryCall f v) ≡ t.library_call f (exprs_of v.items)
expr_of-LibraryCall f v = search (rules, expr_lemmas, row_view-items)

pub expr_of-Parentheses : (p : Place) (x : Box ExprCode Global) → expr_of (e.Parentheses p x) ≡ t.parentheses p (expr_of x.value)
expr_of-Parentheses p x = search (rules, expr_lemmas)

pub expr_of-Prefix : (op : PrefixOperator) (p : Place) (x : Box ExprCode Global) → expr_of (e.Prefix op p x) ≡ t.prefix op p (expr_of x.value)
expr_of-Prefix op p x = search (rules, expr_lemmas)

pub expr_of-Binary : (x : Box ExprCode Global) (op : BinaryOperator) (p : Place) (y : Box ExprCode Global)
    → expr_of (e.Binary x op p y) ≡ t.binary (expr_of x.value) op p (expr_of y.value)
expr_of-Binary x op p y = search (rules, expr_lemmas)

pub expr_of-Postfix : (x : Box ExprCode Global) (op : PostfixOperator) (p : Place) → expr_of (e.Postfix x op p) ≡ t.postfix (expr_of x.value) op p
expr_of-Postfix x op p = search (rules, expr_lemmas)

pub expr_of-Index : (x : Box ExprCode Global) (p : Place) (y : Box ExprCode Global)
    → expr_of (e.Index x p y) ≡ t.index (expr_of x.value) p (expr_of y.value)
expr_of-Index x p y = search (rules, expr_lemmas)

pub expr_of-MemberCall : (x : Box ExprCode Global) (f : Identifier) (v : Vec ExprCode Global)
    → expr_of (e.MemberCall x f v) ≡ t.member_call (expr_of x.value) f (exprs_of v.items)
expr_of-MemberCall x f v = search (rules, expr_lemmas, row_view-items)

pub expr_of-Member : (x : Box ExprCode Global) (s : Selector) (p : Place) (f : Identifier)
    → expr_of (e.Member x s p f) ≡ t.member (expr_of x.value) s p f
expr_of-Member x s p f = search (rules, expr_lemmas)

items_view-items : (n : _) (row : Row_of-Item n) → items_view row ≡ items_of (items-the_row-Item n row)
items_view-items n end_of-Item = refl
items_view-items n (more_of-Item x rest) = ap (t.followed (item_of x)) (items_view-items _ rest)

pub stmt_of-Block : (b : BlockCode) → stmt_of (s.Block b) ≡ t.block b.place (items_of b.items.items) b.close
stmt_of-Block b = search (rules, stmt_lemmas, items_view-items)

pub stmt_of-If : (p : Place) (c : CondCode) (a : Box StmtCode Global) → stmt_of (s.If p c a None) ≡ t.choice p (cond_of c) (stmt_of a.value)
stmt_of-If p c a = search (rules, stmt_lemmas)

pub stmt_of-If_else : (p : Place) (c : CondCode) (a b : Box StmtCode Global)
    → stmt_of (s.If p c a (Some b)) ≡ t.choice_else p (cond_of c) (stmt_of a.value) (stmt_of b.value)
stmt_of-If_else p c a b = search (rules, stmt_lemmas)

pub stmt_of-While : (p : Place) (c : CondCode) (a : Box StmtCode Global) → stmt_of (s.While p c a) ≡ t.while p (cond_of c) (stmt_of a.value)
stmt_of-While p c a = search (rules, stmt_lemmas)

pub stmt_of-For : (p : Place) (x : Option FirstCode) (y : Option CondCode) (z : Option EffectCode) (a : Box StmtCode Global)
    → stmt_of (s.For p x y z a) ≡ t.for p (option_map first_of x) (option_map cond_of y) (option_map effect_of z) (stmt_of a.value)
stmt_of-For p x y z a = search (rules, stmt_lemmas)

pub stmt_of-RangeFor : (p : Place) (l : Element) (x v : Identifier) (a : Box StmtCode Global)
    → stmt_of (s.RangeFor p l x v a) ≡ t.range_for p l x v (stmt_of a.value)
stmt_of-RangeFor p l x v a = search (rules, stmt_lemmas)

pub ruleset expr_views = (
  expr_of-Call,
  expr_of-LibraryCall,
  expr_of-Parentheses,
  expr_of-Prefix,
  expr_of-Binary,
  expr_of-Postfix,
  expr_of-Index,
  expr_of-MemberCall,
  expr_of-Member,
)

pub ruleset stmt_views = (stmt_of-Block, stmt_of-If, stmt_of-If_else, stmt_of-While, stmt_of-For, stmt_of-RangeFor)

pub ruleset views = (expr_views, stmt_views)

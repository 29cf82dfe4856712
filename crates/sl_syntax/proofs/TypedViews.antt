-- What a typed tree of the code is as data, variant by variant.
use Rattle.std.proofs.Common.{◌≡◌, rules, Box, Vec, refl, ap, Option, Some, None, ℕ, option_map}
use Rattle.std.specs.declared.alloc.Global.{Global}
use Rattle.sl_base.specs.declared.place.Place.{Place}
use Rattle.sl_base.specs.declared.scalar.Scalar.{Scalar}
use Rattle.sl_syntax.specs.declared.operator.Arithmetic.{Arithmetic}
use Rattle.sl_syntax.specs.declared.operator.Comparison.{Comparison}
use Rattle.sl_syntax.specs.declared.typed.cond.Cond.{Cond as CondCode}
use Rattle.sl_syntax.specs.declared.typed.declaration.First.{First as FirstCode}
use Rattle.sl_syntax.specs.declared.typed.effect.Effect.{Effect as EffectCode}
use Rattle.sl_syntax.specs.declared.typed.element.Taken.{Taken}
use Rattle.sl_syntax.specs.declared.typed.expr.Expr.{Expr as ExprCode, Row_of-Expr, end_of-Expr, more_of-Expr, items-the_row-Expr}
use Rattle.sl_syntax.specs.declared.typed.expr.Expr.{the_lemmas as expr_lemmas}
use Rattle.sl_syntax.specs.declared.typed.expr.Expr.TheVariants as e
use Rattle.sl_syntax.specs.declared.typed.head.Head.{Head}
use Rattle.sl_syntax.specs.declared.typed.left.Left.{the_lemmas as left_lemmas}
use Rattle.sl_syntax.specs.declared.typed.left.Left.TheVariants as l
use Rattle.sl_syntax.specs.declared.typed.statement.Block.{Block as BlockCode}
use Rattle.sl_syntax.specs.declared.typed.statement.Stmt.{Stmt as StmtCode, Row_of-Stmt, end_of-Stmt, more_of-Stmt, items-the_row-Stmt}
use Rattle.sl_syntax.specs.declared.typed.statement.Stmt.{the_lemmas as stmt_lemmas}
use Rattle.sl_syntax.specs.declared.typed.statement.Stmt.TheVariants as s
use Rattle.sl_syntax.specs.declared.typed.step.Fix.{Fix}
use Rattle.sl_syntax.specs.Typed as t
use Rattle.sl_syntax.specs.TypedView.{expr_of, left_of, operands_of, row_view, cond_of, first_of, effect_of, stmt_of, stmts_of, stmts_view}

row_view-items : (n : _) (row : Row_of-Expr n) → row_view row ≡ operands_of (items-the_row-Expr n row)
row_view-items n end_of-Expr = refl
row_view-items n (more_of-Expr a rest) = ap (t.with (expr_of a)) (row_view-items _ rest)

pub expr_of-Convert : (ty : Scalar) (a : Box ExprCode Global) → expr_of (e.Convert ty a) ≡ t.convert ty (expr_of a.value)
expr_of-Convert ty a = search (rules, expr_lemmas)

pub expr_of-Negate : (ty : Scalar) (p : Place) (a : Box ExprCode Global) → expr_of (e.Negate ty p a) ≡ t.negate ty p (expr_of a.value)
expr_of-Negate ty p a = search (rules, expr_lemmas)

pub expr_of-LogicalNot : (p : Place) (a : Box ExprCode Global) → expr_of (e.LogicalNot p a) ≡ t.logical_not p (expr_of a.value)
expr_of-LogicalNot p a = search (rules, expr_lemmas)

pub expr_of-LogicalAnd : (p : Place) (a b : Box ExprCode Global)
    → expr_of (e.LogicalAnd p a b) ≡ t.logical_and p (expr_of a.value) (expr_of b.value)
expr_of-LogicalAnd p a b = search (rules, expr_lemmas)

pub expr_of-LogicalOr : (p : Place) (a b : Box ExprCode Global) → expr_of (e.LogicalOr p a b) ≡ t.logical_or p (expr_of a.value) (expr_of b.value)
expr_of-LogicalOr p a b = search (rules, expr_lemmas)

pub expr_of-Arithmetic : (op : Arithmetic) (ty : Scalar) (p : Place) (a b : Box ExprCode Global)
    → expr_of (e.Arithmetic op ty p a b) ≡ t.arithmetic op ty p (expr_of a.value) (expr_of b.value)
expr_of-Arithmetic op ty p a b = search (rules, expr_lemmas)

pub expr_of-Comparison : (op : Comparison) (p : Place) (a b : Box ExprCode Global)
    → expr_of (e.Comparison op p a b) ≡ t.comparison op p (expr_of a.value) (expr_of b.value)
expr_of-Comparison op p a b = search (rules, expr_lemmas)

pub expr_of-Move : (fix : Fix) (x : ℕ) (h : Head) (v : Vec ExprCode Global) → expr_of (e.Move fix x h v) ≡ t.move fix x h (operands_of v.items)
expr_of-Move fix x h v = search (rules, expr_lemmas, row_view-items)

pub expr_of-Call : (h : Head) (v : Vec ExprCode Global) → expr_of (e.Call h v) ≡ t.call h (operands_of v.items)
expr_of-Call h v = search (rules, expr_lemmas, row_view-items)

pub expr_of-OwnCall : (f : ℕ) (p : Place) (v : Vec ExprCode Global) → expr_of (e.OwnCall f p v) ≡ t.own_call f p (operands_of v.items)
expr_of-OwnCall f p v = search (rules, expr_lemmas, row_view-items)

pub expr_of-First : (p : Place) (a : Box ExprCode Global) → expr_of (e.First p a) ≡ t.first p (expr_of a.value)
expr_of-First p a = search (rules, expr_lemmas)

pub expr_of-Second : (p : Place) (a : Box ExprCode Global) → expr_of (e.Second p a) ≡ t.second p (expr_of a.value)
expr_of-Second p a = search (rules, expr_lemmas)

pub left_of-Element : (h : Head) (v : Vec ExprCode Global) → left_of (l.Element h v) ≡ t.element h (operands_of v.items)
left_of-Element h v = search (rules, left_lemmas, row_view-items)

stmts_view-items : (n : _) (row : Row_of-Stmt n) → stmts_view row ≡ stmts_of (items-the_row-Stmt n row)
stmts_view-items n end_of-Stmt = refl
stmts_view-items n (more_of-Stmt a rest) = ap (t.followed (stmt_of a)) (stmts_view-items _ rest)

pub stmt_of-Block : (b : BlockCode) → stmt_of (s.Block b) ≡ t.block b.site (stmts_of b.stmts.items)
stmt_of-Block b = search (rules, stmt_lemmas, stmts_view-items)

pub stmt_of-If : (k : CondCode) (a : Box StmtCode Global) → stmt_of (s.If k a None) ≡ t.choice (cond_of k) (stmt_of a.value)
stmt_of-If k a = search (rules, stmt_lemmas)

pub stmt_of-If_else : (k : CondCode) (a b : Box StmtCode Global)
    → stmt_of (s.If k a (Some b)) ≡ t.choice_else (cond_of k) (stmt_of a.value) (stmt_of b.value)
stmt_of-If_else k a b = search (rules, stmt_lemmas)

pub stmt_of-While : (n : ℕ) (k : CondCode) (a : Box StmtCode Global) → stmt_of (s.While n k a) ≡ t.while n (cond_of k) (stmt_of a.value)
stmt_of-While n k a = search (rules, stmt_lemmas)

pub stmt_of-For : (n : ℕ) (x : FirstCode) (k : CondCode) (z : Option EffectCode) (a : Box StmtCode Global)
    → stmt_of (s.For n x k z a) ≡ t.for n (first_of x) (cond_of k) (option_map effect_of z) (stmt_of a.value)
stmt_of-For n x k z a = search (rules, stmt_lemmas)

pub stmt_of-RangeFor : (n : ℕ) (taken : Taken) (x : ℕ) (p : Place) (name : ℕ) (a : Box StmtCode Global)
    → stmt_of (s.RangeFor n taken x p name a) ≡ t.range_for n taken x p name (stmt_of a.value)
stmt_of-RangeFor n taken x p name a = search (rules, stmt_lemmas)

pub ruleset expr_views = (
  expr_of-Convert,
  expr_of-Negate,
  expr_of-LogicalNot,
  expr_of-LogicalAnd,
  expr_of-LogicalOr,
  expr_of-Arithmetic,
  expr_of-Comparison,
  expr_of-Move,
  expr_of-Call,
  expr_of-OwnCall,
  expr_of-First,
  expr_of-Second,
  left_of-Element,
)

pub ruleset stmt_views = (stmt_of-Block, stmt_of-If, stmt_of-If_else, stmt_of-While, stmt_of-For, stmt_of-RangeFor)

pub ruleset views = (expr_views, stmt_views)

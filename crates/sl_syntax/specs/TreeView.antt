-- What the code's tree is as data.
use Rattle.std.specs.Prelude.{List, map, option_map}
use Rattle.sl_syntax.specs.declared.tree.declaration.Declaration.{Declaration as DeclarationCode}
use Rattle.sl_syntax.specs.declared.tree.declaration.Declaration.TheVariants as d
use Rattle.sl_syntax.specs.declared.tree.declaration.Initializer.{Initializer as InitializerCode}
use Rattle.sl_syntax.specs.declared.tree.declaration.Initializer.TheVariants as n
use Rattle.sl_syntax.specs.declared.tree.effect.Cond.{Cond as CondCode}
use Rattle.sl_syntax.specs.declared.tree.effect.Cond.TheVariants as c
use Rattle.sl_syntax.specs.declared.tree.effect.Effect.{Effect as EffectCode}
use Rattle.sl_syntax.specs.declared.tree.effect.Effect.TheVariants as f
use Rattle.sl_syntax.specs.declared.tree.effect.Out.{Out as OutCode}
use Rattle.sl_syntax.specs.declared.tree.effect.Out.TheVariants as o
use Rattle.sl_syntax.specs.declared.tree.expr.Expr.{Expr as ExprCode, Row_of-Expr, end_of-Expr, more_of-Expr}
use Rattle.sl_syntax.specs.declared.tree.expr.Expr.TheVariants as e
use Rattle.sl_syntax.specs.declared.tree.function.Function.{Function as FunctionCode}
use Rattle.sl_syntax.specs.declared.tree.function.Program.{Program as ProgramCode}
use Rattle.sl_syntax.specs.declared.tree.statement.First.{First as FirstCode}
use Rattle.sl_syntax.specs.declared.tree.statement.First.TheVariants as h
use Rattle.sl_syntax.specs.declared.tree.statement.Item.{Item as ItemCode}
use Rattle.sl_syntax.specs.declared.tree.statement.Item.TheVariants as i
use Rattle.sl_syntax.specs.declared.tree.statement.Stmt.{Stmt as StmtCode, None', Some', Row_of-Item, end_of-Item, more_of-Item}
use Rattle.sl_syntax.specs.declared.tree.statement.Stmt.TheVariants as s
use Rattle.sl_syntax.specs.Tree as t
use Rattle.sl_syntax.specs.Tree.{Expr, Exprs, Initializer, Declaration, Out, Effect, Cond, First, Stmt, Item, Items, Function, Program}

abbrev mutual
  pub expr_of : ExprCode → Expr
  expr_of (e.Number p v) = t.number p v
  expr_of (e.Truth p v) = t.truth p v
  expr_of (e.Name x) = t.name x
  expr_of (e.Call' f shape row) = t.call f (row_view row)
  expr_of (e.LibraryCall' f shape row) = t.library_call f (row_view row)
  expr_of (e.Parentheses' p q x) = t.parentheses p (expr_of x)
  expr_of (e.Prefix' op p q x) = t.prefix op p (expr_of x)
  expr_of (e.Binary' q x op p r y) = t.binary (expr_of x) op p (expr_of y)
  expr_of (e.Postfix' q x op p) = t.postfix (expr_of x) op p
  expr_of (e.Index' q x p r y) = t.index (expr_of x) p (expr_of y)
  expr_of (e.MemberCall' q x f shape row) = t.member_call (expr_of x) f (row_view row)
  expr_of (e.Member' q x s p f) = t.member (expr_of x) s p f

  pub row_view : {m : _} → Row_of-Expr m → Exprs
  row_view end_of-Expr = t.none
  row_view (more_of-Expr x rest) = t.with (expr_of x) (row_view rest)

abbrev pub exprs_of : List ExprCode → Exprs
exprs_of xs = t.exprs_from (map expr_of xs)

abbrev pub initializer_of : InitializerCode → Initializer
initializer_of n.Absent = t.absent
initializer_of (n.Copy x) = t.copies x
initializer_of (n.Braces equal xs) = t.braces equal (exprs_of xs.items)
initializer_of (n.Arguments xs) = t.arguments (exprs_of xs.items)

abbrev pub declaration_of : DeclarationCode → Declaration
declaration_of (d.Scalar p s x v) = t.declares_scalar p s x (option_map expr_of v)
declaration_of (d.Auto p x v) = t.declares_auto p x (expr_of v)
declaration_of (d.Reference h x v) = t.declares_reference h x (expr_of v)
declaration_of (d.Container ct x i) = t.declares_container ct x (initializer_of i)

abbrev pub out_of : OutCode → Out
out_of (o.Text p b) = t.text p b
out_of (o.EndLine p) = t.end_line p
out_of (o.Value x) = t.value (expr_of x)

abbrev pub effect_of : EffectCode → Effect
effect_of (f.Read r) = t.reads r
effect_of (f.Print p) = t.prints p.place (map out_of p.items.items)
effect_of (f.Value x) = t.evaluates (expr_of x)
effect_of (f.Assign x op p y) = t.assigns (expr_of x) op p (expr_of y)

abbrev pub cond_of : CondCode → Cond
cond_of (c.Read r) = t.tests_read r
cond_of (c.NotRead p r) = t.tests_no_read p r
cond_of (c.Value x) = t.tests (expr_of x)

abbrev pub first_of : FirstCode → First
first_of (h.Scalar p s x v) = t.first_scalar p s x (expr_of v)
first_of (h.Auto p x v) = t.first_auto p x (expr_of v)
first_of (h.Effect w) = t.first_effect (effect_of w)

abbrev mutual
  pub stmt_of : StmtCode → Stmt
  stmt_of (s.Block' p shape row q) = t.block p (items_view row) q
  stmt_of (s.If' p x q a None') = t.choice p (cond_of x) (stmt_of a)
  stmt_of (s.If' p x q a (Some' r b)) = t.choice_else p (cond_of x) (stmt_of a) (stmt_of b)
  stmt_of (s.While' p x q a) = t.while p (cond_of x) (stmt_of a)
  stmt_of (s.For' p x y z q a) = t.for p (option_map first_of x) (option_map cond_of y) (option_map effect_of z) (stmt_of a)
  stmt_of (s.RangeFor' p e x y q a) = t.range_for p e x y (stmt_of a)
  stmt_of (s.Break p) = t.break p
  stmt_of (s.Continue p) = t.continue p
  stmt_of (s.Return p v) = t.gives_back p (option_map expr_of v)
  stmt_of (s.Effect p w) = t.does p (effect_of w)

  pub item_of : ItemCode → Item
  item_of (i.Declaration x) = t.declares (declaration_of x)
  item_of (i.Statement x) = t.states (stmt_of x)

  pub items_view : {m : _} → Row_of-Item m → Items
  items_view end_of-Item = t.no_more
  items_view (more_of-Item x rest) = t.followed (item_of x) (items_view rest)

abbrev pub items_of : List ItemCode → Items
items_of xs = t.items_from (map item_of xs)

abbrev pub function_of : FunctionCode → Function
function_of f = record {
  place = f.place;
  result = f.result;
  name = f.name;
  params = f.params.items;
  opens = f.body.place;
  items = items_of f.body.items.items;
  closes = f.body.close;
}

abbrev pub program_of : ProgramCode → Program
program_of p = map function_of p.functions.items

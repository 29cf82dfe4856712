-- What the code's typed tree is as data.
use Rattle.std.specs.Prelude.{List, map, option_map, pos}
use Rattle.sl_syntax.specs.declared.typed.Typed.{Typed as TypedCode}
use Rattle.sl_syntax.specs.declared.typed.cond.Cond.{Cond as CondCode}
use Rattle.sl_syntax.specs.declared.typed.cond.Cond.TheVariants as c
use Rattle.sl_syntax.specs.declared.typed.declaration.Declaration.{Declaration as DeclarationCode}
use Rattle.sl_syntax.specs.declared.typed.declaration.Declaration.TheVariants as d
use Rattle.sl_syntax.specs.declared.typed.declaration.First.{First as FirstCode}
use Rattle.sl_syntax.specs.declared.typed.declaration.First.TheVariants as h
use Rattle.sl_syntax.specs.declared.typed.effect.Effect.{Effect as EffectCode}
use Rattle.sl_syntax.specs.declared.typed.effect.Effect.TheVariants as f
use Rattle.sl_syntax.specs.declared.typed.effect.Printed.{Printed as PrintedCode}
use Rattle.sl_syntax.specs.declared.typed.effect.Printed.TheVariants as o
use Rattle.sl_syntax.specs.declared.typed.expr.Expr.{Expr as ExprCode, Row_of-Expr, end_of-Expr, more_of-Expr}
use Rattle.sl_syntax.specs.declared.typed.expr.Expr.TheVariants as e
use Rattle.sl_syntax.specs.declared.typed.function.Function.{Function as FunctionCode}
use Rattle.sl_syntax.specs.declared.typed.left.Left.{Left as LeftCode}
use Rattle.sl_syntax.specs.declared.typed.left.Left.TheVariants as l
use Rattle.sl_syntax.specs.declared.typed.statement.Stmt.{Stmt as StmtCode, None', Some', Row_of-Stmt, end_of-Stmt, more_of-Stmt}
use Rattle.sl_syntax.specs.declared.typed.statement.Stmt.TheVariants as s
use Rattle.sl_syntax.specs.Typed as t
use Rattle.sl_syntax.specs.Typed.{Expr, Left, Operands, Cond, Printed, Effect, Declaration, First, Stmt, Stmts, Function, Typed}

abbrev mutual
  pub expr_of : ExprCode → Expr
  expr_of (e.Literal ty n) = t.literal ty (pos n)
  expr_of (e.Held x) = t.held (left_of x)
  expr_of (e.Iterator x) = t.iterator x
  expr_of (e.Convert' ty p a) = t.convert ty (expr_of a)
  expr_of (e.Negate' ty at p a) = t.negate ty at (expr_of a)
  expr_of (e.LogicalNot' at p a) = t.logical_not at (expr_of a)
  expr_of (e.LogicalAnd' at p a q b) = t.logical_and at (expr_of a) (expr_of b)
  expr_of (e.LogicalOr' at p a q b) = t.logical_or at (expr_of a) (expr_of b)
  expr_of (e.Arithmetic' op ty at p a q b) = t.arithmetic op ty at (expr_of a) (expr_of b)
  expr_of (e.Comparison' op at p a q b) = t.comparison op at (expr_of a) (expr_of b)
  expr_of (e.Increment step fix ty at x) = t.increment step fix ty at (left_of x)
  expr_of (e.Move' fix x head shape row) = t.move fix x head (row_view row)
  expr_of (e.Call' head shape row) = t.call head (row_view row)
  expr_of (e.OwnCall' f at shape row) = t.own_call f at (row_view row)
  expr_of (e.First' at p a) = t.first at (expr_of a)
  expr_of (e.Second' at p a) = t.second at (expr_of a)
  expr_of (e.Container x) = t.container x
  expr_of (e.HandedScalar x) = t.handed_scalar x

  pub left_of : LeftCode → Left
  left_of (l.Scalar x at) = t.scalar x at
  left_of (l.Reference x at name part) = t.reference x at name part
  left_of (l.Element' head shape row) = t.element head (row_view row)

  pub row_view : {m : _} → Row_of-Expr m → Operands
  row_view end_of-Expr = t.none
  row_view (more_of-Expr a rest) = t.with (expr_of a) (row_view rest)

abbrev pub operands_of : List ExprCode → Operands
operands_of xs = t.operands_from (map expr_of xs)

abbrev pub cond_of : CondCode → Cond
cond_of (c.Read xs) = t.read xs
cond_of (c.NotRead xs) = t.not_read xs
cond_of (c.Test a) = t.test (expr_of a)
cond_of c.Always = t.always

abbrev pub printed_of : PrintedCode → Printed
printed_of (o.Text bytes) = t.text bytes
printed_of o.EndLine = t.endline
printed_of (o.Number a) = t.number (expr_of a)

abbrev pub effect_of : EffectCode → Effect
effect_of (f.Read xs) = t.reads xs
effect_of (f.Print xs) = t.prints (map printed_of xs.items)
effect_of (f.Evaluate a) = t.evaluates (expr_of a)
effect_of (f.Assign x a) = t.assigns (left_of x) (expr_of a)
effect_of (f.Update op ty left_ty at x a) = t.updates op ty left_ty at (left_of x) (expr_of a)
effect_of (f.MoveTo x a) = t.moves_to x (expr_of a)

abbrev pub declaration_of : DeclarationCode → Declaration
declaration_of (d.UnsetScalar ty) = t.unset_scalar ty
declaration_of (d.SetScalar ty a) = t.set_scalar ty (expr_of a)
declaration_of (d.SetIterator a) = t.set_iterator (expr_of a)
declaration_of (d.BindReference head xs) = t.binds_reference head (operands_of xs.items)
declaration_of (d.MakeContainer form head xs) = t.makes form head (operands_of xs.items)

abbrev pub first_of : FirstCode → First
first_of h.Absent = t.no_first
first_of (h.Declaration x) = t.declares_first (declaration_of x)
first_of (h.Effect w) = t.does_first (effect_of w)

abbrev mutual
  pub stmt_of : StmtCode → Stmt
  stmt_of (s.Block' site shape row) = t.block site (stmts_view row)
  stmt_of (s.Declaration x) = t.declares (declaration_of x)
  stmt_of (s.If' k p a None') = t.choice (cond_of k) (stmt_of a)
  stmt_of (s.If' k p a (Some' q b)) = t.choice_else (cond_of k) (stmt_of a) (stmt_of b)
  stmt_of (s.While' n k p a) = t.while n (cond_of k) (stmt_of a)
  stmt_of (s.For' n x k z p a) = t.for n (first_of x) (cond_of k) (option_map effect_of z) (stmt_of a)
  stmt_of (s.RangeFor' n taken x at name p a) = t.range_for n taken x at name (stmt_of a)
  stmt_of s.Break = t.break
  stmt_of s.Continue = t.continue
  stmt_of (s.Return a) = t.gives_back (option_map expr_of a)
  stmt_of (s.Effect w) = t.does (effect_of w)

  pub stmts_view : {m : _} → Row_of-Stmt m → Stmts
  stmts_view end_of-Stmt = t.no_more
  stmts_view (more_of-Stmt a rest) = t.followed (stmt_of a) (stmts_view rest)

abbrev pub stmts_of : List StmtCode → Stmts
stmts_of xs = t.stmts_from (map stmt_of xs)

abbrev pub function_of : FunctionCode → Function
function_of f = record {
  name = f.name;
  parameters = f.parameters;
  result = f.result;
  variables = f.variables;
  body = t.block f.body.site (stmts_of f.body.stmts.items);
  close = f.close;
}

abbrev pub typed_of : TypedCode → Typed
typed_of p = record {
  functions = map function_of p.functions.items;
  main = p.main;
  sites = p.sites;
  loops = p.loops;
  names = p.names;
  constants = p.constants;
}

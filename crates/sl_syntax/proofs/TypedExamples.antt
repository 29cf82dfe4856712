-- A typed text of the code as data, worked by hand.
use denote.RawPtr.{Ptr}
use Rattle.std.proofs.Common.{◌≡◌, refl, ℕ, ◌<◌, ◌^◌, List, [], ◌∷◌, length, Box, Vec, Some, None, pos, negsuc, codes, arith}
use Rattle.std.specs.declared.alloc.Global.{Global}
use Rattle.sl_base.specs.declared.form.Form.TheVariants as f
use Rattle.sl_base.specs.declared.place.Place.{Place}
use Rattle.sl_base.specs.declared.scalar.Scalar.TheVariants as c
use Rattle.sl_syntax.specs.declared.operator.Access.TheVariants as a
use Rattle.sl_syntax.specs.declared.operator.Arithmetic.TheVariants as o
use Rattle.sl_syntax.specs.declared.operator.Comparison.TheVariants as b
use Rattle.sl_syntax.specs.declared.typed.Typed.{Typed as TypedCode}
use Rattle.sl_syntax.specs.declared.typed.callee.Callee.TheVariants as k
use Rattle.sl_syntax.specs.declared.typed.cond.Cond.TheVariants as conds
use Rattle.sl_syntax.specs.declared.typed.declaration.Declaration.TheVariants as d
use Rattle.sl_syntax.specs.declared.typed.effect.Effect.TheVariants as w
use Rattle.sl_syntax.specs.declared.typed.element.ElementPart.TheVariants as part
use Rattle.sl_syntax.specs.declared.typed.element.Taken.TheVariants as taken
use Rattle.sl_syntax.specs.declared.typed.expr.Expr.TheVariants as e
use Rattle.sl_syntax.specs.declared.typed.function.Function.{Function as FunctionCode}
use Rattle.sl_syntax.specs.declared.typed.head.Head.{Head}
use Rattle.sl_syntax.specs.declared.typed.left.Left.{Left as LeftCode}
use Rattle.sl_syntax.specs.declared.typed.left.Left.TheVariants as l
use Rattle.sl_syntax.specs.declared.typed.parameter.ParameterKind.TheVariants as p
use Rattle.sl_syntax.specs.declared.typed.statement.Stmt.TheVariants as s
use Rattle.sl_syntax.specs.declared.typed.variable.Variable.{Variable}
use Rattle.sl_syntax.specs.declared.typed.variable.VariableKind.{VariableKind}
use Rattle.sl_syntax.specs.declared.typed.variable.VariableKind.TheVariants as v
use Rattle.sl_syntax.specs.Typed as t
use Rattle.sl_syntax.specs.Typed.{Left, Stmt, Stmts, Typed}
use Rattle.sl_syntax.specs.TypedView.{typed_of}
use Rattle.sl_syntax.proofs.TypedViews.{views}

abbrev at : ℕ → ℕ → Place
at line col = record { line = line; col = col }

abbrev variable : VariableKind → ℕ → Place → Variable
variable kind name place = record { kind = kind; name = name; place = place }

--  1 int sum(std::vector<int>& v) {
--  2   int s = 0;
--  3   for (auto& x : v) s += x;
--  4   return s;
--  5 }
--  6 int main() {
--  7   std::vector<int> v = {1, 2};
--  8   int& r = v.front();
--  9   while (r < 9) r = sum(v);
-- 10 }
-- Its names are v, s, x and r. In `sum` the two hidden iterators of the range-for are 0 and 1, and x is 2; in `main` r is 0. Only the brace
-- of `main` is a site.
abbrev sum_variables : List Variable
sum_variables = variable v.Container 0 (at 1 27) ∷ variable v.Scalar 1 (at 2 7) ∷ variable v.Reference 2 (at 3 14) ∷ []

abbrev main_variables : List Variable
main_variables = variable v.Container 0 (at 7 20) ∷ variable v.Reference 3 (at 8 8) ∷ []

-- the call that makes v of a list, and v.front()
abbrev making : Head
making = record { callee = k.Row 1; place = at 7 3; site = None; object = None; names = [] }

abbrev front : Head
front = record { callee = k.Row 11; place = at 8 14; site = None; object = Some 0; names = Some 0 ∷ [] }

-- the code's text, wherever its boxes lie
module _ (pointer : Ptr) (alloc : Global) where
  abbrev boxed : {T : Type 0} → T → Box T Global
  boxed x = record { ptr = pointer; alloc = alloc; value = x }

  abbrev row : {T : Type 0} (xs : List T) → length xs < 2 ^ 63 → Vec T Global
  row xs few = record {
    ptr = pointer;
    len = length xs;
    cap = length xs;
    alloc = alloc;
    items = xs;
    ok = (refl, omega arith);
    small = few;
  }

  -- r in line 9
  abbrev r_at : ℕ → LeftCode
  r_at col = l.Reference 0 (at 9 col) 3 part.Whole

  abbrev sum : FunctionCode
  sum = record {
    name = codes "sum";
    parameters = p.Container a.Whole f.Vector ∷ [];
    result = Some (p.Value c.Int);
    variables = sum_variables;
    body = record {
      site = None;
      stmts = row (
          s.Declaration (d.SetScalar c.Int (e.Literal c.Int 0)) ∷
          s.RangeFor 0 taken.Reference 0 (at 3 3) 0 (boxed
          (s.Effect (w.Update o.Add c.Int c.Int (at 3 23) (l.Scalar 0 (at 3 21)) (e.Held (l.Reference 2 (at 3 26) 2 part.Whole))))) ∷
          s.Return (Some (e.Held (l.Scalar 0 (at 4 10)))) ∷ []) (omega arith);
    };
    close = at 5 1;
  }

  abbrev main : FunctionCode
  main = record {
    name = codes "main";
    parameters = [];
    result = Some (p.Value c.Int);
    variables = main_variables;
    body = record {
      site = Some 0;
      stmts = row (
          s.Declaration (d.MakeContainer f.Vector making (row (e.Literal c.Int 1 ∷ e.Literal c.Int 2 ∷ []) (omega arith))) ∷
          s.Declaration (d.BindReference front (row [] (omega arith))) ∷
          s.While 1 (conds.Test (e.Comparison b.Less (at 9 12) (boxed (e.Held (r_at 10))) (boxed (e.Literal c.Int 9))))
          (boxed (s.Effect (w.Assign (r_at 17) (e.OwnCall 0 (at 9 21) (row (e.Container 0 ∷ []) (omega arith)))))) ∷ []) (omega arith);
    };
    close = at 10 1;
  }

  abbrev summing : TypedCode
  summing = record {
    functions = row (sum ∷ main ∷ []) (omega arith);
    main = 1;
    sites = at 10 1 ∷ [];
    loops = at 3 3 ∷ at 9 3 ∷ [];
    names = codes "v" ∷ codes "s" ∷ codes "x" ∷ codes "r" ∷ [];
    constants = negsuc 0 ∷ pos 0 ∷ pos 1 ∷ pos 2 ∷ pos 3 ∷ pos 8 ∷ pos 9 ∷ pos 10 ∷ [];
  }

-- the body of `sum`
abbrev sum_stmts : Stmts
sum_stmts = t.stmts_from (
    t.declares (t.set_scalar c.Int (t.literal c.Int (pos 0))) ∷
    t.range_for 0 taken.Reference 0 (at 3 3) 0
    (t.does (t.updates o.Add c.Int c.Int (at 3 23) (t.scalar 0 (at 3 21)) (t.held (t.reference 2 (at 3 26) 2 part.Whole)))) ∷
    t.gives_back (Some (t.held (t.scalar 0 (at 4 10)))) ∷ [])

-- the body of `main`
abbrev main_stmts : Stmts
main_stmts = t.stmts_from (
    t.declares (t.makes f.Vector making (t.operands_from (t.literal c.Int (pos 1) ∷ t.literal c.Int (pos 2) ∷ []))) ∷
    t.declares (t.binds_reference front t.none) ∷
    t.while 1 (t.test (t.comparison b.Less (at 9 12) (t.held (t.reference 0 (at 9 10) 3 part.Whole)) (t.literal c.Int (pos 9))))
    (t.does (t.assigns (t.reference 0 (at 9 17) 3 part.Whole) (t.own_call 0 (at 9 21) (t.with (t.container 0) t.none)))) ∷ [])

abbrev summing_as_data : Typed
summing_as_data = record {
  functions =
      record {
        name = codes "sum";
        parameters = p.Container a.Whole f.Vector ∷ [];
        result = Some (p.Value c.Int);
        variables = sum_variables;
        body = t.block None sum_stmts;
        close = at 5 1;
      } ∷
      record {
        name = codes "main";
        parameters = [];
        result = Some (p.Value c.Int);
        variables = main_variables;
        body = t.block (Some 0) main_stmts;
        close = at 10 1;
      } ∷
      [];
  main = 1;
  sites = at 10 1 ∷ [];
  loops = at 3 3 ∷ at 9 3 ∷ [];
  names = codes "v" ∷ codes "s" ∷ codes "x" ∷ codes "r" ∷ [];
  constants = negsuc 0 ∷ pos 0 ∷ pos 1 ∷ pos 2 ∷ pos 3 ∷ pos 8 ∷ pos 9 ∷ pos 10 ∷ [];
}

summing_is : (pointer : Ptr) (alloc : Global) → typed_of (summing pointer alloc) ≡ summing_as_data
summing_is pointer alloc = simp views

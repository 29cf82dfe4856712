-- Short ways to write typed texts whose parts are judged, and which parts of being well typed a text breaks.
use Rattle.std.proofs.Common.{sym, ◌∙◌}
use Rattle.std.specs.Prelude.{◌≡◌, refl, ℕ, suc, Bool, true, false, List, [], ◌∷◌, map, replicate, pos, negsuc, Option, Some, None, codes}
use Rattle.sl_base.specs.declared.place.Place.{Place}
use Rattle.sl_base.specs.declared.form.Form.{Form}
use Rattle.sl_base.specs.declared.form.Form.TheVariants as f
use Rattle.sl_base.specs.declared.scalar.Scalar.TheVariants as t
use Rattle.sl_specs.specs.declared.rows.sequences.TheConstants as sequence
use Rattle.sl_syntax.specs.declared.typed.callee.Callee.TheVariants as callees
use Rattle.sl_syntax.specs.declared.typed.head.Head.{Head}
use Rattle.sl_syntax.specs.declared.typed.operator.Operator.{Operator}
use Rattle.sl_syntax.specs.declared.typed.operator.Operator.TheVariants as operators
use Rattle.sl_syntax.specs.declared.typed.parameter.ParameterKind.{ParameterKind}
use Rattle.sl_syntax.specs.declared.typed.parameter.ParameterKind.TheVariants as parameters
use Rattle.sl_syntax.specs.declared.typed.variable.Variable.{Variable}
use Rattle.sl_syntax.specs.declared.typed.variable.VariableKind.{VariableKind}
use Rattle.sl_syntax.specs.declared.typed.variable.VariableKind.TheVariants as variables
use Rattle.sl_syntax.specs.Typed.{Expr, literal, held, iterator, call, Left, scalar, element, none, with, Stmt, block, declares}
use Rattle.sl_syntax.specs.Typed.{makes, set_iterator, does, evaluates, Function, Typed, operands_from, stmts_from}
use Rattle.sl_model.specs.Typing.WellTyped.{has_few, has_main, has_types, has_no_alias, has_order, has_sites, has_numbers, has_names, has_variables}
use Rattle.sl_model.specs.Typing.WellTyped.{has_constants, has_one_asker, WellTyped}

-- a part of being well typed
pub data Part : Type 0 where
  Few Main Types Alias Order Sites Numbers Names Variables Constants Asker : Part

-- the parts whose answers aren't true
abbrev pub untrue : List (Bool × Part) → List Part
untrue [] = []
untrue ((true, part) ∷ rest) = untrue rest
untrue ((false, part) ∷ rest) = part ∷ untrue rest

-- what each part answers
abbrev pub answers : Typed → List (Bool × Part)
answers p =
    (has_few p, Few) ∷ (has_main p, Main) ∷ (has_types p, Types) ∷ (has_no_alias p, Alias) ∷ (has_order p, Order) ∷ (has_sites p, Sites) ∷
    (has_numbers p, Numbers) ∷ (has_names p, Names) ∷ (has_variables p, Variables) ∷ (has_constants p, Constants) ∷ (has_one_asker p, Asker) ∷ []

-- the parts that a text breaks
unfoldable pub broken : Typed → List Part
unfolding has_types has_no_alias has_order has_sites has_numbers has_names has_variables has_constants has_one_asker
broken p = untrue (answers p)

-- where none is untrue, the first is true, and none of the rest is untrue
first_true : (b : Bool) (part : Part) (rest : List (Bool × Part)) → untrue ((b, part) ∷ rest) ≡ [] → (b ≡ true) × (untrue rest ≡ [])
first_true true part rest h = (refl, h)
first_true false part rest h = absurd cc

-- a text that breaks no part is well typed
pub well : (p : Typed) → broken p ≡ [] → WellTyped p
unfolding broken
well p h =
    let a = first_true (has_few p) Few _ h in let b = first_true (has_main p) Main _ a.1 in let c = first_true (has_types p) Types _ b.1 in
    let d = first_true (has_no_alias p) Alias _ c.1 in let e = first_true (has_order p) Order _ d.1 in let g = first_true (has_sites p) Sites _ e.1 in
    let i = first_true (has_numbers p) Numbers _ g.1 in let j = first_true (has_names p) Names _ i.1 in
    let k = first_true (has_variables p) Variables _ j.1 in let l = first_true (has_constants p) Constants _ k.1 in
    let m = first_true (has_one_asker p) Asker _ l.1 in
    record {
      few = a.0;
      main = b.0;
      types = c.0;
      no_alias = d.0;
      order = e.0;
      sites = g.0;
      numbers = i.0;
      names = j.0;
      variables = k.0;
      constants = l.0;
      one_asker = m.0;
    }

-- a text that breaks a part isn't
pub not_well : (p : Typed) (part : Part) → broken p ≡ part ∷ [] → ¬ WellTyped p
unfolding broken
not_well p part h w =
    let none : untrue (answers p) ≡ [] =
    rw (w.few, w.main, w.types, w.no_alias, w.order, w.sites, w.numbers, w.names, w.variables, w.constants, w.one_asker) refl in
    let one : [] ≡ part ∷ [] = sym none ∙ h in absurd cc

-- a place
abbrev pub at : ℕ → ℕ → Place
at l c = record { line = l; col = c }

-- a call of a row on a container
abbrev pub on : ℕ → Place → ℕ → Head
on n at x = record { callee = callees.Row n; place = at; site = None; object = Some x; names = [] }

-- one that is a site
abbrev pub on_site : ℕ → Place → ℕ → ℕ → Head
on_site n at site x = record { callee = callees.Row n; place = at; site = Some site; object = Some x; names = [] }

-- a call of a row without an object
abbrev pub off : ℕ → Place → Head
off n at = record { callee = callees.Row n; place = at; site = None; object = None; names = [] }

-- a call of an algorithm that appends, which is a site
abbrev pub appends : ℕ → Place → ℕ → Head
appends n at site = record { callee = callees.Appends n; place = at; site = Some site; object = None; names = [] }

-- an operator on iterators
abbrev pub operator : Operator → Place → Head
operator o at = record { callee = callees.Operator o; place = at; site = None; object = None; names = [] }

-- an int
abbrev pub int : ℕ → Expr
int n = literal t.Int (pos n)

-- the number that a scalar holds; its place is looked at by no part
abbrev pub value : ℕ → Expr
value x = held (scalar x (at 1 1))

-- a call of the library that gives a value
abbrev pub calls : Head → List Expr → Expr
calls h es = call h (operands_from es)

-- one that gives an element
abbrev pub element_of : Head → List Expr → Expr
element_of h es = held (element h (operands_from es))

-- `*it`
abbrev pub star : Place → ℕ → Left
star at it = element (operator operators.Dereference at) (with (iterator it) none)

-- an expression as a statement
abbrev pub done : Expr → Stmt
done e = does (evaluates e)

-- a container that is made by a call
abbrev pub made : Form → ℕ → Place → List Expr → Stmt
made form n at es = declares (makes form (off n at) (operands_from es))

-- `std::vector<int> v;`
abbrev pub vector : Place → Stmt
vector at = made f.Vector sequence.VECTOR_CONSTRUCTOR at []

-- `auto it = v.begin();`
abbrev pub begun : Place → ℕ → Stmt
begun at v = declares (set_iterator (calls (on sequence.VECTOR_BEGIN at v) []))

-- `v.push_back(n);`
abbrev pub pushed : Place → ℕ → ℕ → Expr → Stmt
pushed at site v e = done (calls (on_site sequence.VECTOR_PUSH_BACK at site v) (e ∷ []))

-- a block
abbrev pub body : List Stmt → Stmt
body all = block None (stmts_from all)

-- one that declares containers, with the site of its brace
abbrev pub body_at : ℕ → List Stmt → Stmt
body_at site all = block (Some site) (stmts_from all)

-- variables of these sorts
abbrev pub listed : List VariableKind → List Variable
listed kinds = map (λ kind. record { kind = kind; name = 0; place = at 1 1 }) kinds

-- a function
abbrev pub function : List ParameterKind → Option ParameterKind → List VariableKind → Stmt → Function
function takes gives kinds b = record { name = codes "f"; parameters = takes; result = gives; variables = listed kinds; body = b; close = at 9 1 }

-- `int main()`
abbrev pub main_of : List VariableKind → Stmt → Function
main_of kinds b = function [] (Some (parameters.Value t.Int)) kinds b

-- a text of functions, of which one is `main`, with so many sites and loops; its constants are those of the literals from 0 to 9
abbrev pub whole : List Function → ℕ → ℕ → ℕ → Typed
whole functions main sites loops = record {
  functions = functions;
  main = main;
  sites = replicate sites (at 1 1);
  loops = replicate loops (at 1 1);
  names = codes "v" ∷ codes "it" ∷ [];
  constants = negsuc 0 ∷ map (λ n. pos n) (0 ∷ 1 ∷ 2 ∷ 3 ∷ 4 ∷ 5 ∷ 6 ∷ 7 ∷ 8 ∷ 9 ∷ 10 ∷ []);
}

-- a text of `main` alone, with so many sites
abbrev pub alone : List VariableKind → Stmt → ℕ → Typed
alone kinds b sites = whole (main_of kinds b ∷ []) 0 sites 0

-- a text of `main` alone that declares a vector first; behind it stand further sorts of variables and statements with so many sites
abbrev pub behind_vector : List VariableKind → ℕ → List Stmt → Typed
behind_vector kinds sites all = alone (variables.Container ∷ kinds) (body_at sites (vector (at 2 3) ∷ all)) (suc sites)

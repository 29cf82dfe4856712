-- What stands before a place only grows along a function, and no function comes.
use Rattle.std.proofs.Common.{◌≡◌, ◌≤◌, List, [], ◌∷◌, ◌++◌, length, length-append, Option, None, Some, refl, ◌∙◌, arith}
use Rattle.sl_base.specs.declared.place.Place.{Place}
use Rattle.sl_syntax.specs.declared.tree.identifier.Identifier.{Identifier}
use Rattle.sl_syntax.specs.Tree as s
use Rattle.sl_syntax.specs.Tree.{Expr, Exprs, Initializer, Declaration, Out, Effect, Cond, First, Stmt, Item, Items}
use Rattle.sl_typing.specs.declared.expr_type.ExprType.{ExprType}
use Rattle.sl_typing.specs.declared.expr_type.ExprType.TheVariants as types
use Rattle.sl_typing.specs.declared.scope.Scope.{Scope}
use Rattle.sl_syntax.specs.declared.operator.Access.TheVariants as access
use Rattle.sl_typing.specs.Types.{value_type}
use Rattle.sl_typing.specs.TypeOf.{type_of}
use Rattle.sl_typing.specs.Ranges.{reference_type}
use Rattle.sl_typing.specs.Contexts.{Context, declare, with_hidden, started, started_loop, with_sites}
use Rattle.sl_typing.specs.Sites.{behind, assignment_site, sites_in, sites_in_all}
use Rattle.sl_typing.specs.Flow.{behind_value, behind_initializer, behind_declaration, behind_out, behind_outs, behind_left, behind_effect}
use Rattle.sl_typing.specs.Flow.{behind_cond, behind_first, behind_test, behind_last}
use Rattle.sl_number_limits.proofs.Positions.{names_stay}

-- the second place stands behind the first, in the same function
pub record Grows (g h : Context) : Type 0 where
  pub sites : length g.sites ≤ length h.sites
  pub loops : length g.loops ≤ length h.loops
  pub statements : g.statements ≤ h.statements
  pub names : length g.names ≤ length h.names
  pub variables : length g.variables ≤ length h.variables
  pub functions : h.scope.functions ≡ g.scope.functions

-- a place stands behind itself
pub stays : (g : Context) → Grows g g
stays g = record {
  sites = omega arith;
  loops = omega arith;
  statements = omega arith;
  names = omega arith;
  variables = omega arith;
  functions = refl;
}

-- one behind another
pub along : (g h k : Context) → Grows g h → Grows h k → Grows g k
along g h k a b = record {
  sites = omega arith;
  loops = omega arith;
  statements = omega arith;
  names = omega arith;
  variables = omega arith;
  functions = b.functions ∙ a.functions;
}

longer : {X : Type 0} (xs ys : List X) → length xs ≤ length (xs ++ ys)
longer {X} xs ys = omega (arith, length-append {A = X})

-- behind sites
pub sites_grow : (places : List Place) (g : Context) → Grows g (with_sites places g)
sites_grow places g = record {
  sites = longer g.sites places;
  loops = omega arith;
  statements = omega arith;
  names = omega arith;
  variables = omega arith;
  functions = refl;
}

-- behind a declared variable
pub declared_grows : (x : Identifier) (type : ExprType) (g : Context) → Grows g (declare x type g)
declared_grows x type g = record {
  sites = omega arith;
  loops = omega arith;
  statements = omega arith;
  names = names_stay x.name g.names;
  variables = longer g.variables _;
  functions = refl;
}

-- where a statement begins, and a loop
pub started_grows : (g : Context) → Grows g (started g)
started_grows g = record {
  sites = omega arith;
  loops = omega arith;
  statements = omega arith;
  names = omega arith;
  variables = omega arith;
  functions = refl;
}

pub started_loop_grows : (at : Place) (g : Context) → Grows g (started_loop at g)
started_loop_grows at g = record {
  sites = omega arith;
  loops = longer g.loops (at ∷ []);
  statements = omega arith;
  names = omega arith;
  variables = omega arith;
  functions = refl;
}

-- where what names mean is another, and the functions the same
pub rescoped : (g h : Context) (scope : Scope) → Grows g h → scope.functions ≡ g.scope.functions → Grows g (record h { scope = scope })
rescoped g h scope a same = record {
  sites = a.sites;
  loops = a.loops;
  statements = a.statements;
  names = a.names;
  variables = a.variables;
  functions = same;
}

-- behind hidden iterators
pub hidden_grows : (u : ExprType) (g : Context) → Grows g (with_hidden u g)
hidden_grows (types.Container access form) g = rescoped g g (with_hidden (types.Container access form) g).scope (stays g) refl
hidden_grows u g = stays g

-- behind an initialiser
pub value_grows : (g : Context) (value : Option Expr) → Grows g (behind_value g value)
value_grows g None = stays g
value_grows g (Some e) = sites_grow (sites_in g.scope e) g

-- behind what a container is made from
pub initializer_grows : (g : Context) (value : Initializer) → Grows g (behind_initializer g value)
initializer_grows g s.absent = stays g
initializer_grows g (s.copies x) = stays g
initializer_grows g (s.braces equal xs) = sites_grow (sites_in_all g.scope xs) g
initializer_grows g (s.arguments xs) = sites_grow (sites_in_all g.scope xs) g

-- behind a declaration
pub declaration_grows : (g : Context) (d : Declaration) → Grows g (behind_declaration g d)
declaration_grows g (s.declares_scalar at type x value) =
    along g (behind_value g value) _ (value_grows g value) (declared_grows x (types.Scalar type) (behind_value g value))
declaration_grows g (s.declares_auto at x e) =
    along g (behind g e) _ (sites_grow (sites_in g.scope e) g) (declared_grows x (value_type (type_of g.scope e)) (behind g e))
declaration_grows g (s.declares_reference head x e) =
    along g (behind g e) _ (sites_grow (sites_in g.scope e) g) (declared_grows x (reference_type head (type_of g.scope e)) (behind g e))
declaration_grows g (s.declares_container ct x value) =
    along g (behind_initializer g value) _ (initializer_grows g value)
    (declared_grows x (types.Container access.Whole ct.form) (behind_initializer g value))

-- behind items of a print
pub out_grows : (g : Context) (o : Out) → Grows g (behind_out g o)
out_grows g (s.value e) = sites_grow (sites_in g.scope e) g
out_grows g o = stays g

pub outs_grow : (g : Context) (os : List Out) → Grows g (behind_outs g os)
outs_grow g [] = stays g
outs_grow g (o ∷ os) = along g (behind_out g o) _ (out_grows g o) (outs_grow (behind_out g o) os)

-- behind an effect
pub effect_grows : (g : Context) (w : Effect) → Grows g (behind_effect g w)
effect_grows g (s.reads r) = stays g
effect_grows g (s.prints at os) = outs_grow g os
effect_grows g (s.evaluates e) = sites_grow (sites_in g.scope e) g
effect_grows g (s.assigns x op at y) =
    let left = behind_left g (s.assigns x op at y) in
    along g left _ (along g (behind g x) left (sites_grow (sites_in g.scope x) g) (sites_grow (assignment_site g.scope x op at) (behind g x)))
    (sites_grow (sites_in left.scope y) left)

-- behind a condition
pub cond_grows : (g : Context) (k : Cond) → Grows g (behind_cond g k)
cond_grows g (s.tests e) = sites_grow (sites_in g.scope e) g
cond_grows g k = stays g

-- behind the parts of a `for`
pub first_grows : (g : Context) (first : Option First) → Grows g (behind_first g first)
first_grows g None = stays g
first_grows g (Some (s.first_scalar at type x e)) = declaration_grows g (s.declares_scalar at type x (Some e))
first_grows g (Some (s.first_auto at x e)) = declaration_grows g (s.declares_auto at x e)
first_grows g (Some (s.first_effect w)) = effect_grows g w

pub test_grows : (g : Context) (k : Option Cond) → Grows g (behind_test g k)
test_grows g None = stays g
test_grows g (Some k) = cond_grows g k

pub last_grows : (g : Context) (last : Option Effect) → Grows g (behind_last g last)
last_grows g None = stays g
last_grows g (Some w) = effect_grows g w

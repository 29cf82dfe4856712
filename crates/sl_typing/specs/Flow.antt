-- What is known behind each part of a function, where it is known what stands before it: what it declares, its sites, its statements.
--
-- Restates ISO/IEC 14882:2017, [basic.scope.block], [stmt.select], [stmt.iter], [stmt.for] and [stmt.ranged].
-- Chosen here: a new variable isn't known in its own initialiser ([basic.scope.pdecl] has it known); a head's variables have a scope of their own; a
-- range-for's two hidden iterators come into scope before its variable.
use Rattle.std.specs.Prelude.{false, List, [], ◌∷◌, ◌++◌, length, map, Option, Some, None}
use Rattle.sl_base.specs.declared.place.Place.{Place}
use Rattle.sl_syntax.specs.declared.operator.Access.TheVariants as a
use Rattle.sl_syntax.specs.declared.tree.element.Element.{Element}
use Rattle.sl_syntax.specs.declared.tree.identifier.Identifier.{Identifier}
use Rattle.sl_syntax.specs.Tree as s
use Rattle.sl_syntax.specs.Tree.{Expr, Initializer, Declaration, Out, Effect, Cond, First, Stmt, Item, Items, Function}
use Rattle.sl_typing.specs.declared.expr_type.ExprType.TheVariants as types
use Rattle.sl_typing.specs.declared.scope.FunctionHead.{FunctionHead}
use Rattle.sl_typing.specs.Types.{value_type}
use Rattle.sl_typing.specs.Scopes.{parameter_kind, result_kind, type_of_name}
use Rattle.sl_typing.specs.Contexts.{Context, declare, declare_parameters, with_hidden, enter, leave, looping, started, started_loop, with_sites}
use Rattle.sl_typing.specs.TypeOf.{type_of}
use Rattle.sl_typing.specs.Sites.{behind, behind_all, assignment_site, brace_site}
use Rattle.sl_typing.specs.Ranges.{reference_type, element_type}

-- behind an initialiser, which may be missing
abbrev pub behind_value : Context → Option Expr → Context
behind_value g None = g
behind_value g (Some e) = behind g e

-- behind what a container is made from
abbrev pub behind_initializer : Context → Initializer → Context
behind_initializer g s.absent = g
behind_initializer g (s.copies x) = g
behind_initializer g (s.braces equal xs) = behind_all g xs
behind_initializer g (s.arguments xs) = behind_all g xs

-- behind a declaration: its variable is in scope
abbrev pub behind_declaration : Context → Declaration → Context
behind_declaration g (s.declares_scalar at type x value) = declare x (types.Scalar type) (behind_value g value)
behind_declaration g (s.declares_auto at x e) = declare x (value_type (type_of g.scope e)) (behind g e)
behind_declaration g (s.declares_reference head x e) = declare x (reference_type head (type_of g.scope e)) (behind g e)
behind_declaration g (s.declares_container ct x value) = declare x (types.Container a.Whole ct.form) (behind_initializer g value)

-- behind an item of a print
abbrev pub behind_out : Context → Out → Context
behind_out g (s.value e) = behind g e
behind_out g o = g

-- behind the items of a print
abbrev pub behind_outs : Context → List Out → Context
behind_outs g [] = g
behind_outs g (o ∷ os) = behind_outs (behind_out g o) os

-- behind the left side of an assignment, and its `=`
abbrev pub behind_left : Context → Effect → Context
behind_left g (s.assigns x op at y) = with_sites (assignment_site g.scope x op at) (behind g x)
behind_left g w = g

-- behind an effect
abbrev pub behind_effect : Context → Effect → Context
behind_effect g (s.reads r) = g
behind_effect g (s.prints at os) = behind_outs g os
behind_effect g (s.evaluates e) = behind g e
behind_effect g (s.assigns x op at y) = behind (behind_left g (s.assigns x op at y)) y

-- behind a condition
abbrev pub behind_cond : Context → Cond → Context
behind_cond g (s.tests e) = behind g e
behind_cond g k = g

-- the first part of a `for` as a declaration, or as an effect
abbrev pub behind_first : Context → Option First → Context
behind_first g None = g
behind_first g (Some (s.first_scalar at type x e)) = behind_declaration g (s.declares_scalar at type x (Some e))
behind_first g (Some (s.first_auto at x e)) = behind_declaration g (s.declares_auto at x e)
behind_first g (Some (s.first_effect w)) = behind_effect g w

-- behind the condition of a `for`, which may be missing
abbrev pub behind_test : Context → Option Cond → Context
behind_test g None = g
behind_test g (Some k) = behind_cond g k

-- behind the last part of a `for`, which may be missing
abbrev pub behind_last : Context → Option Effect → Context
behind_last g None = g
behind_last g (Some w) = behind_effect g w

-- at the condition of a `for`: its head's variable has a scope of its own
abbrev pub at_test : Context → Place → Option First → Context
at_test g at first = behind_first (enter (started_loop at g)) first

-- at its last part
abbrev pub at_last : Context → Place → Option First → Option Cond → Context
at_last g at first k = behind_test (at_test g at first) k

-- in its body
abbrev pub in_for : Context → Place → Option First → Option Cond → Option Effect → Context
in_for g at first k last = looping (behind_last (at_last g at first k) last)

-- behind the two hidden iterators of a range-for over a container
abbrev pub behind_hidden : Context → Place → Identifier → Context
behind_hidden g at over = with_hidden (type_of_name g.scope over.name) (enter (started_loop at g))

-- in its body
abbrev pub in_range : Context → Place → Element → Identifier → Identifier → Context
in_range g at how x over = looping (declare x (element_type how (type_of_name g.scope over.name)) (behind_hidden g at over))

-- in the body of a `while`
abbrev pub in_while : Context → Place → Cond → Context
in_while g at k = looping (behind_cond (started_loop at g) k)

unfoldable mutual
  -- behind a statement
  pub after : Context → Stmt → Context
  after g (s.block at items close) = leave g (with_sites (brace_site items close) (after_items (enter g) items))
  after g (s.choice at k a) = after (behind_cond (started g) k) a
  after g (s.choice_else at k a b) = after (after (behind_cond (started g) k) a) b
  after g (s.while at k a) = leave g (after (in_while g at k) a)
  after g (s.for at first k last a) = leave g (after (in_for g at first k last) a)
  after g (s.range_for at how x over a) = leave g (after (in_range g at how x over) a)
  after g (s.break at) = started g
  after g (s.continue at) = started g
  after g (s.gives_back at value) = behind_value (started g) value
  after g (s.does at w) = behind_effect (started g) w

  -- behind an item of a block
  pub after_item : Context → Item → Context
  after_item g (s.declares d) = behind_declaration (started g) d
  after_item g (s.states a) = after g a

  -- behind items
  pub after_items : Context → Items → Context
  after_items g s.no_more = g
  after_items g (s.followed i rest) = after_items (after_item g i) rest

-- what a call needs to know of a function before which this is known
abbrev pub head_of : Context → Function → FunctionHead
head_of g f = record {
  number = length g.scope.functions;
  name = f.name.name;
  parameters = map parameter_kind f.params;
  result = result_kind f.result;
}

-- before the parameters of a function: it is known itself
abbrev pub before_parameters : Context → Function → Context
before_parameters g f = record g {
  scope = record {
    variables = [];
    outer = 0;
    functions = g.scope.functions ++ head_of g f ∷ [];
    result = result_kind f.result;
    in_loop = false;
  };
  variables = [];
}

-- at the start of a function's body: its parameters and its body have one scope
abbrev pub in_function : Context → Function → Context
in_function g f = declare_parameters f.params (before_parameters g f)

-- at its closing brace, and behind it
abbrev pub at_brace : Context → Function → Context
at_brace g f = after_items (in_function g f) f.items

-- behind a function: the closing brace may be a site
abbrev pub after_function : Context → Function → Context
after_function g f = with_sites (brace_site f.items f.closes) (at_brace g f)

-- behind functions
abbrev pub after_functions : Context → List Function → Context
after_functions g [] = g
after_functions g (f ∷ fs) = after_functions (after_function g f) fs

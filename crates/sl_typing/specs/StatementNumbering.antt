-- Statements and their parts that break no rule with their names, rows and sites as numbers.
use Rattle.std.specs.Prelude.{ℕ, List, [], ◌∷◌, length, map, replicate, Option, Some, None, option_map, if◌then◌else◌}
use Rattle.sl_base.specs.declared.form.Form.{Form}
use Rattle.sl_base.specs.declared.place.Place.{Place}
use Rattle.sl_base.specs.declared.scalar.Scalar.TheVariants as c
use Rattle.sl_syntax.specs.declared.operator.Arithmetic.{Arithmetic}
use Rattle.sl_syntax.specs.declared.operator.Arithmetic.TheVariants as o
use Rattle.sl_syntax.specs.declared.operator.Assignment.{Assignment}
use Rattle.sl_syntax.specs.declared.operator.Assignment.TheVariants as assignments
use Rattle.sl_syntax.specs.declared.tree.effect.Read.{Read}
use Rattle.sl_syntax.specs.declared.tree.element.Element.{Element}
use Rattle.sl_syntax.specs.declared.tree.element.Element.TheVariants as element
use Rattle.sl_syntax.specs.declared.tree.identifier.Identifier.{Identifier}
use Rattle.sl_syntax.specs.declared.typed.callee.Callee.TheVariants as callees
use Rattle.sl_syntax.specs.declared.typed.element.Taken.{Taken}
use Rattle.sl_syntax.specs.declared.typed.element.Taken.TheVariants as taken
use Rattle.sl_syntax.specs.declared.typed.operator.Operator.{Operator}
use Rattle.sl_syntax.specs.declared.typed.operator.Operator.TheVariants as operators
use Rattle.sl_syntax.specs.declared.typed.parameter.ParameterKind.{ParameterKind}
use Rattle.sl_syntax.specs.declared.typed.parameter.ParameterKind.TheVariants as parameters
use Rattle.sl_syntax.specs.declared.typed.step.Fix.TheVariants as fixes
use Rattle.sl_syntax.specs.Tree as s
use Rattle.sl_syntax.specs.Tree.{Expr, Exprs, Initializer, Declaration, Out, Effect, Cond, First, Stmt, Item, Items}
use Rattle.sl_syntax.specs.Typed as t
use Rattle.sl_syntax.specs.Typed.{Operands}
use Rattle.sl_typing.specs.declared.expr_type.ExprType.{ExprType}
use Rattle.sl_typing.specs.declared.expr_type.ExprType.TheVariants as types
use Rattle.sl_typing.specs.Types.{scalar_of, common, is_iterator}
use Rattle.sl_typing.specs.Candidates.{Found, assignment_row, constructor_row, list_constructor}
use Rattle.sl_typing.specs.Scopes.{type_of_name, number_of_name, label_of_name}
use Rattle.sl_typing.specs.Contexts.{Context, enter, started, started_loop}
use Rattle.sl_typing.specs.TypeOf.{size, type_of, types_of}
use Rattle.sl_typing.specs.Sites.{behind, is_assignment_site, declares_container}
use Rattle.sl_typing.specs.Flow.{behind_out, behind_left, behind_cond, at_test, at_last, in_for, in_range, in_while, after, after_item, after_items}
use Rattle.sl_typing.specs.Numbering.{no_expr, left_of, number_in, converted, as_number, ways, told, told_all, head, operator_head, one, letters_of, label_in}
use Rattle.sl_typing.specs.Numbering.{typed, operands}

-- an expression, where this is known before it
abbrev pub typed_expr : Context → Expr → t.Expr
typed_expr g e = typed g.scope (length g.sites) e

-- the variables of a read
abbrev pub read_numbers : Context → Read → List ℕ
read_numbers g r = map (λ (x : Identifier). number_of_name g.scope x.name) r.variables

-- an item of a print
abbrev pub typed_out : Context → Out → t.Printed
typed_out g (s.text at bytes) = t.text bytes
typed_out g (s.end_line at) = t.endline
typed_out g (s.value e) = t.number (typed_expr g e)

-- the items of a print
abbrev pub typed_outs : Context → List Out → List t.Printed
typed_outs g [] = []
typed_outs g (x ∷ xs) = typed_out g x ∷ typed_outs (behind_out g x) xs

-- `=` between containers of a form
abbrev pub assigned_container : Option Found → Place → Option ℕ → ℕ → List (Option ℕ) → Operands → t.Expr
assigned_container None at site object names es = no_expr
assigned_container (Some x) at site object names es = t.call (head (callees.Row x.number) at site (Some object) names) es

-- `x = y`: of a container, of an iterator, of a number
abbrev pub set : Place → Option ℕ → ExprType → ExprType → List (Option ℕ) → t.Expr → t.Expr → t.Effect
set at site (types.Container access form) v names d e =
    t.evaluates (assigned_container (assignment_row form) at site (number_in d) names (one e))
set at site (types.Iterator b form) v names d e = t.moves_to (number_in d) e
set at site u v names d e = t.assigns (left_of d) (converted (scalar_of u) v e)

-- `+=` and `-=` of an iterator
abbrev pub move_operator : Arithmetic → Operator
move_operator o.Subtract = operators.SubtractAssign
move_operator op = operators.AddAssign

-- `x += y` and its like
abbrev pub updated : Arithmetic → Place → ExprType → ExprType → List (Option ℕ) → t.Expr → t.Expr → t.Effect
updated op at (types.Iterator b form) v names d e =
    t.evaluates (t.move fixes.Prefix (number_in d) (operator_head (move_operator op) at (None ∷ names)) (one (converted c.Diff v e)))
updated op at u v names d e = let type = common (scalar_of u) (scalar_of v) in
    t.updates op type (scalar_of u) at (left_of d) (converted type v e)

-- an assignment
abbrev pub assigned : Assignment → Place → Option ℕ → ExprType → ExprType → List (Option ℕ) → t.Expr → t.Expr → t.Effect
assigned assignments.Set at site u v names d e = set at site u v names d e
assigned (assignments.Update op) at site u v names d e = updated op at u v names d e

-- the number of the site that the `=` of an assignment is, if it is one, where this is known behind its left side
abbrev pub assignment_number : Context → Expr → Assignment → Option ℕ
assignment_number g x op = if is_assignment_site g.scope x op then Some (length g.sites) else None

-- an effect
abbrev pub typed_effect : Context → Effect → t.Effect
typed_effect g (s.reads r) = t.reads (read_numbers g r)
typed_effect g (s.prints at xs) = t.prints (typed_outs g xs)
typed_effect g (s.evaluates e) = t.evaluates (typed_expr g e)
typed_effect g (s.assigns x op at y) =
    assigned op at (assignment_number (behind g x) x op) (type_of g.scope x) (type_of g.scope y) (told g.scope x ∷ told g.scope y ∷ [])
    (typed_expr g x) (typed_expr (behind_left g (s.assigns x op at y)) y)

-- a condition
abbrev pub typed_cond : Context → Cond → t.Cond
typed_cond g (s.tests_read r) = t.read (read_numbers g r)
typed_cond g (s.tests_no_read at r) = t.not_read (read_numbers g r)
typed_cond g (s.tests e) = t.test (typed_expr g e)

-- the constructor that makes a container
abbrev pub making_row : Context → Form → Initializer → Option Found
making_row g form s.absent = constructor_row form []
making_row g form (s.copies x) = constructor_row form (type_of_name g.scope x.name ∷ [])
making_row g form (s.braces equal s.none) = constructor_row form []
making_row g form (s.braces equal (s.with x xs)) = list_constructor form
making_row g form (s.arguments xs) = constructor_row form (types_of g.scope xs)

-- the names among what it is made from
abbrev pub told_in : Context → Initializer → List (Option ℕ)
told_in g s.absent = []
told_in g (s.copies x) = label_of_name g.scope x.name ∷ []
told_in g (s.braces equal xs) = told_all g.scope xs
told_in g (s.arguments xs) = told_all g.scope xs

-- the operands; elements of a list are ints
abbrev pub operands_in : Context → Option Found → Initializer → Operands
operands_in g row s.absent = t.none
operands_in g row (s.copies x) = one (t.container (number_of_name g.scope x.name))
operands_in g row (s.braces equal xs) = operands g.scope (length g.sites) (replicate (size xs) (as_number c.Int)) xs
operands_in g row (s.arguments xs) = operands g.scope (length g.sites) (ways (letters_of row)) xs

-- the number of a row
abbrev pub number_of_row : Option Found → ℕ
number_of_row None = 0
number_of_row (Some x) = x.number

-- a declaration of what is a number or an iterator, without a written type
abbrev pub declared_auto : ExprType → t.Expr → t.Declaration
declared_auto u e = if is_iterator u then t.set_iterator e else t.set_scalar (scalar_of u) e

-- a reference to the element that an expression is
abbrev pub bound : t.Expr → t.Declaration
bound (t.held (t.element h es)) = t.binds_reference h es
bound e = t.set_iterator e

-- a declaration
abbrev pub typed_declaration : Context → Declaration → t.Declaration
typed_declaration g (s.declares_scalar at type x None) = t.unset_scalar type
typed_declaration g (s.declares_scalar at type x (Some e)) = t.set_scalar type (converted type (type_of g.scope e) (typed_expr g e))
typed_declaration g (s.declares_auto at x e) = declared_auto (type_of g.scope e) (typed_expr g e)
typed_declaration g (s.declares_reference at x e) = bound (typed_expr g e)
typed_declaration g (s.declares_container ct x value) = let row = making_row g ct.form value in
    t.makes ct.form (head (callees.Row (number_of_row row)) ct.place None None (None ∷ told_in g value)) (operands_in g row value)

-- the first part of a `for`
abbrev pub typed_first : Context → Option First → t.First
typed_first g None = t.no_first
typed_first g (Some (s.first_scalar at type x e)) = t.declares_first (typed_declaration g (s.declares_scalar at type x (Some e)))
typed_first g (Some (s.first_auto at x e)) = t.declares_first (typed_declaration g (s.declares_auto at x e))
typed_first g (Some (s.first_effect w)) = t.does_first (typed_effect g w)

-- its condition, which may be missing
abbrev pub typed_test : Context → Option Cond → t.Cond
typed_test g None = t.always
typed_test g (Some k) = typed_cond g k

-- a returned value has the type of what the function gives
abbrev pub returned : Option ParameterKind → ExprType → t.Expr → t.Expr
returned (Some (parameters.Value type)) u e = converted type u e
returned k u e = e

-- a returned value, which may be missing
abbrev pub typed_value : Context → Option Expr → Option t.Expr
typed_value g None = None
typed_value g (Some e) = Some (returned g.scope.result (type_of g.scope e) (typed_expr g e))

-- how the variable of a range-for takes an element
abbrev pub taken_as : Element → Taken
taken_as (element.Value x) = taken.Value
taken_as (element.Reference head) = taken.Reference

-- the site of a block's closing brace, where there is one
abbrev pub brace_number : Context → Items → Option ℕ
brace_number g items = if declares_container items then Some (length (after_items g items).sites) else None

unfoldable mutual
  -- a statement
  pub typed_stmt : Context → Stmt → t.Stmt
  typed_stmt g (s.block at items close) = t.block (brace_number (enter g) items) (typed_items (enter g) items)
  typed_stmt g (s.choice at k a) = t.choice (typed_cond (started g) k) (typed_stmt (behind_cond (started g) k) a)
  typed_stmt g (s.choice_else at k a b) =
      t.choice_else (typed_cond (started g) k) (typed_stmt (behind_cond (started g) k) a) (typed_stmt (after (behind_cond (started g) k) a) b)
  typed_stmt g (s.while at k a) = t.while (length g.loops) (typed_cond (started_loop at g) k) (typed_stmt (in_while g at k) a)
  typed_stmt g (s.for at first k last a) =
      t.for (length g.loops) (typed_first (enter (started_loop at g)) first) (typed_test (at_test g at first) k)
      (option_map (typed_effect (at_last g at first k)) last) (typed_stmt (in_for g at first k last) a)
  typed_stmt g (s.range_for at how x over a) =
      t.range_for (length g.loops) (taken_as how) (number_of_name g.scope over.name) at (label_in (label_of_name g.scope over.name))
      (typed_stmt (in_range g at how x over) a)
  typed_stmt g (s.break at) = t.break
  typed_stmt g (s.continue at) = t.continue
  typed_stmt g (s.gives_back at value) = t.gives_back (typed_value (started g) value)
  typed_stmt g (s.does at w) = t.does (typed_effect (started g) w)

  -- an item of a block
  pub typed_item : Context → Item → t.Stmt
  typed_item g (s.declares d) = t.declares (typed_declaration (started g) d)
  typed_item g (s.states a) = typed_stmt g a

  -- the items of a block
  pub typed_items : Context → Items → t.Stmts
  typed_items g s.no_more = t.no_more
  typed_items g (s.followed i rest) = t.followed (typed_item g i) (typed_items (after_item g i) rest)

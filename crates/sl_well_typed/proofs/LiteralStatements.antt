-- The literals of typed statements are among the constants.
use Rattle.std.proofs.Common.{◌≡◌, ℕ, ℤ, true, List, [], ◌∷◌, ◌++◌, length, Option, Some, None, refl, sym, subst, option_map}
use Rattle.std.specs.Prelude.{flat_map, replicate}
use Rattle.std.specs.List.{list_all}
use Rattle.std.proofs.lemmas.Bool.{and_from}
use Rattle.sl_base.specs.declared.place.Place.{Place}
use Rattle.sl_base.specs.declared.scalar.Scalar.TheVariants as c
use Rattle.sl_syntax.specs.declared.operator.Arithmetic.{Arithmetic}
use Rattle.sl_syntax.specs.declared.operator.Assignment.{Assignment}
use Rattle.sl_syntax.specs.declared.operator.Assignment.TheVariants as assignments
use Rattle.sl_syntax.specs.declared.typed.parameter.ParameterKind.{ParameterKind}
use Rattle.sl_syntax.specs.declared.typed.parameter.ParameterKind.TheVariants as parameters
use Rattle.sl_syntax.specs.declared.typed.variable.VariableKind.TheVariants as variables
use Rattle.sl_syntax.specs.SubsetView.{constants_of}
use Rattle.sl_syntax.specs.Tree as s
use Rattle.sl_syntax.specs.Tree.{Expr, Initializer, Declaration, Out, Effect, Cond, First, Stmt, Item, Items, Function, Program}
use Rattle.sl_syntax.specs.Typed as t
use Rattle.sl_syntax.specs.Typed.{Typed, Operands}
use Rattle.sl_typing.specs.declared.expr_type.ExprType.{ExprType}
use Rattle.sl_typing.specs.declared.expr_type.ExprType.TheVariants as types
use Rattle.sl_typing.specs.Types.{scalar_of, common}
use Rattle.sl_typing.specs.Candidates.{Found, assignment_row}
use Rattle.sl_typing.specs.TypeOf.{size, type_of}
use Rattle.sl_typing.specs.Contexts.{Context, enter, started, started_loop}
use Rattle.sl_typing.specs.Sites.{behind}
use Rattle.sl_typing.specs.Flow.{behind_cond, behind_left, at_test, at_last, in_for, in_range, in_while, in_function, after_function, after, after_item, after_items}
use Rattle.sl_typing.specs.Literals.{literals, literals_of_value, literals_of_initializer, literals_of_declaration, literals_of_out}
use Rattle.sl_typing.specs.Literals.{literals_of_effect, literals_of_cond, literals_of_first, literals_of_test, literals_of_last, literals_of_stmt, literals_of_item}
use Rattle.sl_typing.specs.Literals.{literals_of_items, literals_of_program}
use Rattle.sl_typing.specs.Numbering.{as_number, ways, letters_of, converted, left_of, one, told}
use Rattle.sl_typing.specs.StatementNumbering.{typed_expr, typed_outs, assigned_container, set, updated, assigned, assignment_number, typed_effect, typed_cond}
use Rattle.sl_typing.specs.StatementNumbering.{making_row, operands_in, declared_auto, bound, typed_declaration, typed_first, typed_test, returned, typed_value}
use Rattle.sl_typing.specs.StatementNumbering.{typed_stmt, typed_item, typed_items}
use Rattle.sl_typing.specs.ProgramFaults.{start}
use Rattle.sl_typing.specs.Typing as typing
use Rattle.sl_typing.specs.Typing.{typed_function, typed_functions, typed_program}
use Rattle.sl_model.specs.Typing.WellTypedNodes.{Node, a_variable, nodes_in, nodes_in_left, nodes_in_operands, nodes_in_value, nodes_in_cond, nodes_in_printed, nodes_in_effect}
use Rattle.sl_model.specs.Typing.WellTypedNodes.{nodes_in_last, nodes_in_declaration, nodes_in_first, nodes_in_stmt, nodes_in_stmts}
use Rattle.sl_model.specs.Typing.WellTypedNumbers.{holds_around, literal_is_held, are_constants}
use Rattle.sl_model.specs.Typing.WellTyped.{has_constants}
use Rattle.sl_well_typed.proofs.Constants.{constants_hold, constants_are}
use Rattle.sl_well_typed.proofs.LiteralNodes.{Held, AllHeld, both_held, held_parts, one_held, converted_held, left_held, expression_held, arguments_held}

-- the literals of these nodes are held
abbrev AreHeld : List ℤ → List Node → Type 0
AreHeld zs nodes = list_all (literal_is_held zs) nodes ≡ true

-- an expression where this is known
expr_held : (zs : List ℤ) (g : Context) (e : Expr) → list_all (holds_around zs) (literals e) ≡ true → Held zs (typed_expr g e)
expr_held zs g e h = expression_held zs g.scope (length g.sites) e h

-- a condition
cond_held : (zs : List ℤ) (g : Context) (k : Cond) → list_all (holds_around zs) (literals_of_cond k) ≡ true → AreHeld zs (nodes_in_cond (typed_cond g k))
cond_held zs g (s.tests_read r) h = refl
cond_held zs g (s.tests_no_read at r) h = refl
cond_held zs g (s.tests e) h = expr_held zs g e h

-- the items of a print
outs_held : (zs : List ℤ) (g : Context) (xs : List Out) → list_all (holds_around zs) (flat_map literals_of_out xs) ≡ true
    → AreHeld zs (flat_map nodes_in_printed (typed_outs g xs))
outs_held zs g [] h = refl
outs_held zs g (s.text at bytes ∷ xs) h = outs_held zs g xs h
outs_held zs g (s.end_line at ∷ xs) h = outs_held zs g xs h
outs_held zs g (s.value e ∷ xs) h =
    let two = held_parts zs (literals e) (flat_map literals_of_out xs) h in
    both_held zs (nodes_in (typed_expr g e)) (flat_map nodes_in_printed (typed_outs (behind g e) xs)) (expr_held zs g e two.0)
    (outs_held zs (behind g e) xs two.1)

-- assignments
container_held : (zs : List ℤ) (o : Option Found) (at : Place) (site : Option ℕ) (k : ℕ) (names : List (Option ℕ)) (e : t.Expr) → Held zs e
    → Held zs (assigned_container o at site k names (one e))
unfolding nodes_in nodes_in_left nodes_in_operands
container_held zs None at site k names e h = refl
container_held zs (Some x) at site k names e h = one_held zs e h

set_held : (zs : List ℤ) (at : Place) (site : Option ℕ) (u v : ExprType) (names : List (Option ℕ)) (d e : t.Expr) → Held zs d → Held zs e
    → AreHeld zs (nodes_in_effect (set at site u v names d e))
set_held zs at site (types.Container access form) v names d e h j = container_held zs (assignment_row form) at site _ names e j
set_held zs at site (types.Iterator b form) v names d e h j = j
set_held zs at site u v names d e h j =
    both_held zs (nodes_in_left (left_of d)) (nodes_in (converted (scalar_of u) v e)) (left_held zs d h) (converted_held zs (scalar_of u) v e j)

updated_held : (zs : List ℤ) (op : Arithmetic) (at : Place) (u v : ExprType) (names : List (Option ℕ)) (d e : t.Expr) → Held zs d → Held zs e
    → AreHeld zs (nodes_in_effect (updated op at u v names d e))
unfolding nodes_in nodes_in_left nodes_in_operands
updated_held zs op at (types.Iterator b form) v names d e h j = one_held zs (converted c.Diff v e) (converted_held zs c.Diff v e j)
updated_held zs op at u v names d e h j =
    let type = common (scalar_of u) (scalar_of v) in
    both_held zs (nodes_in_left (left_of d)) (nodes_in (converted type v e)) (left_held zs d h) (converted_held zs type v e j)

assigned_held : (zs : List ℤ) (op : Assignment) (at : Place) (site : Option ℕ) (u v : ExprType) (names : List (Option ℕ)) (d e : t.Expr) → Held zs d
    → Held zs e → AreHeld zs (nodes_in_effect (assigned op at site u v names d e))
assigned_held zs assignments.Set at site u v names d e h j = set_held zs at site u v names d e h j
assigned_held zs (assignments.Update op) at site u v names d e h j = updated_held zs op at u v names d e h j

-- an effect
effect_held : (zs : List ℤ) (g : Context) (w : Effect) → list_all (holds_around zs) (literals_of_effect w) ≡ true
    → AreHeld zs (nodes_in_effect (typed_effect g w))
effect_held zs g (s.reads r) h = refl
effect_held zs g (s.prints at xs) h = outs_held zs g xs h
effect_held zs g (s.evaluates e) h = expr_held zs g e h
effect_held zs g (s.assigns x op at y) h =
    let two = held_parts zs (literals x) (literals y) h in
    let left = behind_left g (s.assigns x op at y) in
    assigned_held zs op at (assignment_number (behind g x) x op) (type_of g.scope x) (type_of g.scope y) (told g.scope x ∷ told g.scope y ∷ [])
    (typed_expr g x) (typed_expr left y) (expr_held zs g x two.0) (expr_held zs left y two.1)

-- declarations
auto_held : (zs : List ℤ) (u : ExprType) (e : t.Expr) → Held zs e → AreHeld zs (nodes_in_declaration (declared_auto u e))
auto_held zs (types.Iterator b form) e h = both_held zs (nodes_in e) (a_variable variables.Iterator ∷ []) h refl
auto_held zs u e h = both_held zs (nodes_in e) (a_variable variables.Scalar ∷ []) h refl

bound_held : (zs : List ℤ) (e : t.Expr) → Held zs e → AreHeld zs (nodes_in_declaration (bound e))
unfolding nodes_in nodes_in_left nodes_in_operands
bound_held zs (t.held (t.element k es)) h = both_held zs (nodes_in_operands es) (a_variable variables.Reference ∷ []) h refl
bound_held zs (t.held x) h = both_held zs (nodes_in_left x) (a_variable variables.Iterator ∷ []) h refl
bound_held zs e h = both_held zs (nodes_in e) (a_variable variables.Iterator ∷ []) h refl

operands_held : (zs : List ℤ) (g : Context) (row : Option Found) (value : Initializer)
    → list_all (holds_around zs) (literals_of_initializer value) ≡ true → AllHeld zs (operands_in g row value)
unfolding nodes_in nodes_in_left nodes_in_operands
operands_held zs g row s.absent h = refl
operands_held zs g row (s.copies x) h = refl
operands_held zs g row (s.braces equal xs) h = arguments_held zs g.scope (length g.sites) (replicate (size xs) (as_number c.Int)) xs h
operands_held zs g row (s.arguments xs) h = arguments_held zs g.scope (length g.sites) (ways (letters_of row)) xs h

declaration_held : (zs : List ℤ) (g : Context) (d : Declaration) → list_all (holds_around zs) (literals_of_declaration d) ≡ true
    → AreHeld zs (nodes_in_declaration (typed_declaration g d))
declaration_held zs g (s.declares_scalar at type x None) h = refl
declaration_held zs g (s.declares_scalar at type x (Some e)) h =
    both_held zs (nodes_in (converted type (type_of g.scope e) (typed_expr g e))) (a_variable variables.Scalar ∷ [])
    (converted_held zs type (type_of g.scope e) (typed_expr g e) (expr_held zs g e h)) refl
declaration_held zs g (s.declares_auto at x e) h = auto_held zs (type_of g.scope e) (typed_expr g e) (expr_held zs g e h)
declaration_held zs g (s.declares_reference head x e) h = bound_held zs (typed_expr g e) (expr_held zs g e h)
declaration_held zs g (s.declares_container ct x value) h =
    let row = making_row g ct.form value in
    both_held zs (nodes_in_operands (operands_in g row value)) (a_variable variables.Container ∷ []) (operands_held zs g row value h) refl

-- the parts of a `for`
first_held : (zs : List ℤ) (g : Context) (first : Option First) → list_all (holds_around zs) (literals_of_first first) ≡ true
    → AreHeld zs (nodes_in_first (typed_first g first))
first_held zs g None h = refl
first_held zs g (Some (s.first_scalar at type x e)) h = declaration_held zs g (s.declares_scalar at type x (Some e)) h
first_held zs g (Some (s.first_auto at x e)) h = declaration_held zs g (s.declares_auto at x e) h
first_held zs g (Some (s.first_effect w)) h = effect_held zs g w h

test_held : (zs : List ℤ) (g : Context) (k : Option Cond) → list_all (holds_around zs) (literals_of_test k) ≡ true
    → AreHeld zs (nodes_in_cond (typed_test g k))
test_held zs g None h = refl
test_held zs g (Some k) h = cond_held zs g k h

last_held : (zs : List ℤ) (g : Context) (w : Option Effect) → list_all (holds_around zs) (literals_of_last w) ≡ true
    → AreHeld zs (nodes_in_last (option_map (typed_effect g) w))
last_held zs g None h = refl
last_held zs g (Some w) h = effect_held zs g w h

-- a returned value
returned_held : (zs : List ℤ) (k : Option ParameterKind) (u : ExprType) (e : t.Expr) → Held zs e → Held zs (returned k u e)
returned_held zs (Some (parameters.Value type)) u e h = converted_held zs type u e h
returned_held zs None u e h = h
returned_held zs (Some k) u e h = h

value_held : (zs : List ℤ) (g : Context) (value : Option Expr) → list_all (holds_around zs) (literals_of_value value) ≡ true
    → AreHeld zs (nodes_in_value (typed_value g value))
value_held zs g None h = refl
value_held zs g (Some e) h = returned_held zs g.scope.result (type_of g.scope e) (typed_expr g e) (expr_held zs g e h)

mutual
  unfolding typed_stmt typed_item typed_items literals_of_stmt literals_of_item literals_of_items nodes_in_stmt nodes_in_stmts after after_item
      after_items

  -- a statement
  stmt_held : (zs : List ℤ) (g : Context) (a : Stmt) → list_all (holds_around zs) (literals_of_stmt a) ≡ true
      → AreHeld zs (nodes_in_stmt (typed_stmt g a))
  stmt_held zs g (s.block at items close) h =
      both_held zs (nodes_in_stmts (typed_items (enter g) items)) _ (items_held zs (enter g) items h) refl
  stmt_held zs g (s.choice at k a) h =
      let two = held_parts zs (literals_of_cond k) (literals_of_stmt a) h in
      let then = behind_cond (started g) k in
      both_held zs (nodes_in_cond (typed_cond (started g) k)) (nodes_in_stmt (typed_stmt then a)) (cond_held zs (started g) k two.0)
      (stmt_held zs then a two.1)
  stmt_held zs g (s.choice_else at k a b) h =
      let two = held_parts zs (literals_of_cond k) (literals_of_stmt a ++ literals_of_stmt b) h in
      let both = held_parts zs (literals_of_stmt a) (literals_of_stmt b) two.1 in
      let then = behind_cond (started g) k in
      both_held zs (nodes_in_cond (typed_cond (started g) k)) (nodes_in_stmt (typed_stmt then a) ++ nodes_in_stmt (typed_stmt (after then a) b))
      (cond_held zs (started g) k two.0)
      (
      both_held zs (nodes_in_stmt (typed_stmt then a)) (nodes_in_stmt (typed_stmt (after then a) b)) (stmt_held zs then a both.0)
      (stmt_held zs (after then a) b both.1)
      )
  stmt_held zs g (s.while at k a) h =
      let two = held_parts zs (literals_of_cond k) (literals_of_stmt a) h in
      both_held zs (nodes_in_cond (typed_cond (started_loop at g) k)) (nodes_in_stmt (typed_stmt (in_while g at k) a))
      (cond_held zs (started_loop at g) k two.0) (stmt_held zs (in_while g at k) a two.1)
  stmt_held zs g (s.for at first k last a) h =
      let h1 = held_parts zs (literals_of_first first) (literals_of_test k ++ (literals_of_last last ++ literals_of_stmt a)) h in
      let h2 = held_parts zs (literals_of_test k) (literals_of_last last ++ literals_of_stmt a) h1.1 in
      let h3 = held_parts zs (literals_of_last last) (literals_of_stmt a) h2.1 in
      let n1 = nodes_in_first (typed_first (enter (started_loop at g)) first) in
      let n2 = nodes_in_cond (typed_test (at_test g at first) k) in
      let n3 = nodes_in_last (option_map (typed_effect (at_last g at first k)) last) in
      let n4 = nodes_in_stmt (typed_stmt (in_for g at first k last) a) in
      both_held zs n1 (n2 ++ (n3 ++ n4)) (first_held zs (enter (started_loop at g)) first h1.0)
      (
      both_held zs n2 (n3 ++ n4) (test_held zs (at_test g at first) k h2.0)
      (both_held zs n3 n4 (last_held zs (at_last g at first k) last h3.0) (stmt_held zs (in_for g at first k last) a h3.1))
      )
  stmt_held zs g (s.range_for at how x over a) h = stmt_held zs (in_range g at how x over) a h
  stmt_held zs g (s.break at) h = refl
  stmt_held zs g (s.continue at) h = refl
  stmt_held zs g (s.gives_back at value) h = value_held zs (started g) value h
  stmt_held zs g (s.does at w) h = effect_held zs (started g) w h

  -- an item of a block
  item_held : (zs : List ℤ) (g : Context) (i : Item) → list_all (holds_around zs) (literals_of_item i) ≡ true
      → AreHeld zs (nodes_in_stmt (typed_item g i))
  item_held zs g (s.declares d) h = declaration_held zs (started g) d h
  item_held zs g (s.states a) h = stmt_held zs g a h

  -- items
  items_held : (zs : List ℤ) (g : Context) (items : Items) → list_all (holds_around zs) (literals_of_items items) ≡ true
      → AreHeld zs (nodes_in_stmts (typed_items g items))
  items_held zs g s.no_more h = refl
  items_held zs g (s.followed i rest) h =
      let two = held_parts zs (literals_of_item i) (literals_of_items rest) h in
      both_held zs (nodes_in_stmt (typed_item g i)) (nodes_in_stmts (typed_items (after_item g i) rest)) (item_held zs g i two.0)
      (items_held zs (after_item g i) rest two.1)

-- functions
functions_held : (zs : List ℤ) (g : Context) (fs : List Function)
    → list_all (holds_around zs) (flat_map (λ (f : Function). literals_of_items f.items) fs) ≡ true
    → AreHeld zs (flat_map (λ (f : t.Function). nodes_in_stmt f.body) (typed_functions g fs))
unfolding nodes_in_stmt nodes_in_stmts
functions_held zs g [] h = refl
functions_held zs g (f ∷ fs) h =
    let two = held_parts zs (literals_of_items f.items) (flat_map (λ (k : Function). literals_of_items k.items) fs) h in
    let body = nodes_in_stmts (typed_items (in_function g f) f.items) in
    both_held zs (nodes_in_stmt (typed_function g f).body) (flat_map (λ (k : t.Function). nodes_in_stmt k.body) (typed_functions (after_function g f) fs))
    (both_held zs body _ (items_held zs (in_function g f) f.items two.0) refl) (functions_held zs (after_function g f) fs two.1)

-- what is typed has the constants that it needs
pub typed_has_constants : (p : Program) (u : Typed) → typing.Typed p u → has_constants u ≡ true
unfolding has_constants typed_program
typed_has_constants p u h =
    let zs = constants_of (literals_of_program p) in
    let nodes = flat_map (λ (f : t.Function). nodes_in_stmt f.body) (typed_functions start p) in
    subst (λ (v : Typed). has_constants v ≡ true) (sym h.is_it)
    (
    and_from (are_constants zs) (list_all (literal_is_held zs) nodes) (constants_are (literals_of_program p))
    (functions_held zs start p (constants_hold (literals_of_program p)))
    )

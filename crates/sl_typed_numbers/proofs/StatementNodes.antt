-- What the nodes of each sort pass, the nodes of each typed statement pass that breaks no rule.
use Rattle.std.proofs.Common.{◌≡◌, ℕ, ◌+◌, ◌≤◌, Bool, true, List, [], ◌∷◌, ◌++◌, length, length-append, Option, Some, None, refl, sym, subst}
use Rattle.std.proofs.Common.{option_map, arith}
use Rattle.std.specs.Prelude.{flat_map, replicate}
use Rattle.std.proofs.Math.Nat.{le_trans}
use Rattle.sl_base.specs.declared.form.Form.{Form}
use Rattle.sl_base.specs.declared.place.Place.{Place}
use Rattle.sl_base.specs.declared.scalar.Scalar.TheVariants as c
use Rattle.sl_syntax.specs.declared.operator.Access.{Access}
use Rattle.sl_syntax.specs.declared.operator.Arithmetic.{Arithmetic}
use Rattle.sl_syntax.specs.declared.operator.Assignment.{Assignment}
use Rattle.sl_syntax.specs.declared.operator.Assignment.TheVariants as assignments
use Rattle.sl_syntax.specs.declared.tree.identifier.Identifier.{Identifier}
use Rattle.sl_syntax.specs.declared.typed.callee.Callee.TheVariants as callees
use Rattle.sl_syntax.specs.declared.typed.parameter.ParameterKind.{ParameterKind}
use Rattle.sl_syntax.specs.declared.typed.parameter.ParameterKind.TheVariants as parameters
use Rattle.sl_syntax.specs.declared.typed.variable.VariableKind.{VariableKind}
use Rattle.sl_syntax.specs.declared.typed.variable.VariableKind.TheVariants as variables
use Rattle.sl_syntax.specs.Tree as s
use Rattle.sl_syntax.specs.Tree.{Expr, Exprs, Initializer, Declaration, Out, Effect, Cond, First, Stmt, Item, Items}
use Rattle.sl_syntax.specs.Typed as t
use Rattle.sl_syntax.specs.Typed.{Operands}
use Rattle.sl_typing.specs.declared.expr_type.ExprType.{ExprType}
use Rattle.sl_typing.specs.declared.expr_type.ExprType.TheVariants as types
use Rattle.sl_typing.specs.declared.standing.Standing.TheVariants as standing
use Rattle.sl_typing.specs.Types.{scalar_of, common}
use Rattle.sl_typing.specs.Candidates.{Found, assignment_row}
use Rattle.sl_typing.specs.TypeOf.{size, type_of}
use Rattle.sl_typing.specs.Contexts.{Context, enter, started, started_loop}
use Rattle.sl_typing.specs.Sites.{behind, sites_in, site_count}
use Rattle.sl_typing.specs.Flow.{behind_cond, behind_left, behind_last, at_test, at_last, in_for, in_range, in_while}
use Rattle.sl_typing.specs.Flow.{after, after_item, after_items}
use Rattle.sl_typing.specs.Faults.{faults}
use Rattle.sl_typing.specs.StatementFaults.{expr_faults, value_faults, element_faults, initializer_faults, declaration_faults, outs_faults}
use Rattle.sl_typing.specs.StatementFaults.{effect_faults, cond_faults, first_faults, test_faults, last_faults, name_faults}
use Rattle.sl_typing.specs.StatementFaults.{stmt_faults, item_faults, items_faults}
use Rattle.sl_typing.specs.Numbering.{Way, as_number, ways, letters_of, converted, handed, left_of, one, head, told, label_in, first_way, other_ways}
use Rattle.sl_typing.specs.Numbering.{typed, operands}
use Rattle.sl_typing.specs.Scopes.{label_of_name}
use Rattle.sl_typing.specs.StatementNumbering.{typed_expr, typed_outs, assigned_container, set, updated, assigned, assignment_number, typed_effect}
use Rattle.sl_typing.specs.StatementNumbering.{typed_cond, making_row, told_in, operands_in, number_of_row, declared_auto, bound}
use Rattle.sl_typing.specs.StatementNumbering.{typed_declaration, typed_first, typed_test, returned, typed_value, brace_number, taken_as}
use Rattle.sl_typing.specs.StatementNumbering.{typed_stmt, typed_item, typed_items}
use Rattle.sl_model.specs.Typing.WellTypedNodes.{Node, a_call, a_loop, a_range, a_variable, a_brace, has_container, element_variable, nodes_in}
use Rattle.sl_model.specs.Typing.WellTypedNodes.{nodes_in_left}
use Rattle.sl_model.specs.Typing.WellTypedNodes.{nodes_in_operands, nodes_in_value, nodes_in_cond, nodes_in_printed, nodes_in_effect}
use Rattle.sl_model.specs.Typing.WellTypedNodes.{nodes_in_last, nodes_in_declaration, nodes_in_first, nodes_in_stmt, nodes_in_stmts}
use Rattle.sl_number_limits.specs.Fits.{Fits}
use Rattle.sl_number_limits.proofs.PartFaults as part
use Rattle.sl_number_limits.proofs.ValueFaults as value
use Rattle.sl_number_limits.proofs.ContextLaws.{enter_fits}
use Rattle.sl_number_limits.proofs.Growth.{Grows, cond_grows, first_grows, test_grows, last_grows}
use Rattle.sl_number_limits.proofs.Growth.{value_grows, effect_grows, declaration_grows}
use Rattle.sl_number_limits.proofs.StatementGrowth.{after_grows, after_items_grow, range_grows}
use Rattle.sl_number_limits.proofs.StatementParts.{at_choice, in_choice, at_choice_else, in_choice_else, at_while, in_while_fits, at_for}
use Rattle.sl_number_limits.proofs.StatementParts.{at_test_fits, at_last_fits, in_for_fits, in_range_fits, at_value, at_effect, at_declaration}
use Rattle.sl_number_limits.proofs.Statements.{in_else, next_items_fit}
use Rattle.sl_typed_numbers.proofs.Nodes.{Passes, AllPass, Pass, OperandsPass, first_passes, both_pass, one_passes, converted_passes, handed_passes}
use Rattle.sl_typed_numbers.proofs.Nodes.{left_passes, expression_passes, arguments_pass}
use Rattle.sl_typed_numbers.proofs.Told.{tells}

-- a place stands in a text with so many names
pub record Stands (names : ℕ) (g : Context) : Type 0 where
  pub fits : Fits g
  pub few : length g.names ≤ names

-- a place before another that stands so
stands : (names : ℕ) (g h : Context) → Fits g → Grows g h → length h.names ≤ names → Stands names g
stands names g h f a few = record { fits = f; few = le_trans a.names few }

-- a test that the nodes of statements pass, by their sorts
pub record PassesText (ok : Node → Bool) (names : ℕ) : Type 0 where
  pub expressions : (g : Context) → Stands names g → Passes ok g.scope
  pub loops : (n : ℕ) → ok (a_loop n) ≡ true
  pub variables : (kind : VariableKind) → ok (a_variable kind) ≡ true
  pub braces : (g : Context) (items : Items) → ok (a_brace (brace_number g items) (has_container (typed_items g items))) ≡ true
  pub ranges : (g : Context) → Stands names g → (at : Place) (over : Identifier) → name_faults g over ≡ []
      → ok (a_range at (label_in (label_of_name g.scope over.name))) ≡ true
  pub assignments : (g : Context) → Stands names g → (x : Expr) (at : Place) (y : Expr) (access : Access) (form : Form) (f : Found) (k : ℕ)
      (es : Operands) → effect_faults g (s.assigns x assignments.Set at y) ≡ [] → type_of g.scope x ≡ types.Container access form
      → assignment_row form ≡ Some f
      → ok (a_call (head (callees.Row f.number) at (assignment_number (behind g x) x assignments.Set) (Some k)
      (told g.scope x ∷ told g.scope y ∷ [])) es) ≡ true
  pub makings : (g : Context) → Stands names g → (form : Form) (at : Place) (made : Initializer) (es : Operands)
      → ok (a_call (head (callees.Row (number_of_row (making_row g form made))) at None None (None ∷ told_in g made)) es) ≡ true

-- an expression where this is known
expr_passes : (ok : Node → Bool) (g : Context) → Passes ok g.scope → (e : Expr) → expr_faults g e ≡ [] → Pass ok (typed_expr g e)
expr_passes ok g a e none = expression_passes ok g.scope a (tells g.scope) (length g.sites) standing.Plain e none

-- a condition
cond_passes : (ok : Node → Bool) (g : Context) → Passes ok g.scope → (k : Cond) → cond_faults g k ≡ [] → AllPass ok (nodes_in_cond (typed_cond g k))
cond_passes ok g a (s.tests_read r) none = refl
cond_passes ok g a (s.tests_no_read at r) none = refl
cond_passes ok g a (s.tests e) none = expr_passes ok g a e none

-- the items of a print
outs_pass : (ok : Node → Bool) (g : Context) → Passes ok g.scope → (xs : List Out) → outs_faults g xs ≡ []
    → AllPass ok (flat_map nodes_in_printed (typed_outs g xs))
outs_pass ok g a [] none = refl
outs_pass ok g a (s.text at bytes ∷ xs) none = outs_pass ok g a xs none
outs_pass ok g a (s.end_line at ∷ xs) none = outs_pass ok g a xs none
outs_pass ok g a (s.value e ∷ xs) none =
    both_pass ok (nodes_in (typed_expr g e)) (flat_map nodes_in_printed (typed_outs (behind g e) xs))
    (expr_passes ok g a e (value.first_out g (s.value e) xs none)) (outs_pass ok (behind g e) a xs (value.other_outs g (s.value e) xs none))

-- assignments
container_passes : (ok : Node → Bool) (o : Option Found) (at : Place) (site : Option ℕ) (k : ℕ) (names : List (Option ℕ)) (e : t.Expr)
    → ((f : Found) → o ≡ Some f → ok (a_call (head (callees.Row f.number) at site (Some k) names) (one e)) ≡ true) → Pass ok e
    → Pass ok (assigned_container o at site k names (one e))
unfolding nodes_in nodes_in_left nodes_in_operands
container_passes ok None at site k names e j h = refl
container_passes ok (Some f) at site k names e j h = first_passes ok _ (nodes_in_operands (one e)) (j f refl) (one_passes ok e h)

set_passes : (ok : Node → Bool) (names : ℕ) → PassesText ok names → (g : Context) → Stands names g → (x : Expr) (at : Place) (y : Expr)
    (u v : ExprType) (d e : t.Expr) → effect_faults g (s.assigns x assignments.Set at y) ≡ [] → type_of g.scope x ≡ u → Pass ok d → Pass ok e
    → AllPass ok (nodes_in_effect (set at (assignment_number (behind g x) x assignments.Set) u v (told g.scope x ∷ told g.scope y ∷ []) d e))
set_passes ok names p g st x at y (types.Container access form) v d e none is h j =
    container_passes ok (assignment_row form) at _ _ (told g.scope x ∷ told g.scope y ∷ []) e
    (λ f found. p.assignments g st x at y access form f _ (one e) none is found) j
set_passes ok names p g st x at y (types.Iterator b form) v d e none is h j = j
set_passes ok names p g st x at y u v d e none is h j =
    both_pass ok (nodes_in_left (left_of d)) (nodes_in (converted (scalar_of u) v e)) (left_passes ok d h) (converted_passes ok (scalar_of u) v e j)

updated_passes : (ok : Node → Bool) (g : Context) → Passes ok g.scope → (x y : Expr) (op : Arithmetic) (at : Place) (u v : ExprType)
    (d e : t.Expr) → Pass ok d → Pass ok e → AllPass ok (nodes_in_effect (updated op at u v (told g.scope x ∷ told g.scope y ∷ []) d e))
unfolding nodes_in nodes_in_left nodes_in_operands
updated_passes ok g a x y op at (types.Iterator b form) v d e h j =
    first_passes ok _ (nodes_in_operands (one (converted c.Diff v e)))
    (a.iterators _ at (None ∷ told g.scope x ∷ told g.scope y ∷ []) _ ((tells g.scope).two x y))
    (one_passes ok (converted c.Diff v e) (converted_passes ok c.Diff v e j))
updated_passes ok g a x y op at u v d e h j =
    let type = common (scalar_of u) (scalar_of v) in
    both_pass ok (nodes_in_left (left_of d)) (nodes_in (converted type v e)) (left_passes ok d h) (converted_passes ok type v e j)

assigned_passes : (ok : Node → Bool) (names : ℕ) → PassesText ok names → (g : Context) → Stands names g → (x : Expr) (op : Assignment) (at : Place)
    (y : Expr) (d e : t.Expr) → effect_faults g (s.assigns x op at y) ≡ [] → Pass ok d → Pass ok e
    → AllPass ok (nodes_in_effect (assigned op at (assignment_number (behind g x) x op) (type_of g.scope x) (type_of g.scope y)
    (told g.scope x ∷ told g.scope y ∷ []) d e))
assigned_passes ok names p g st x assignments.Set at y d e none h j =
    set_passes ok names p g st x at y (type_of g.scope x) (type_of g.scope y) d e none refl h j
assigned_passes ok names p g st x (assignments.Update op) at y d e none h j =
    updated_passes ok g (p.expressions g st) x y op at (type_of g.scope x) (type_of g.scope y) d e h j

-- an effect
effect_passes : (ok : Node → Bool) (names : ℕ) → PassesText ok names → (g : Context) → Stands names g → (w : Effect) → effect_faults g w ≡ []
    → AllPass ok (nodes_in_effect (typed_effect g w))
effect_passes ok names p g st (s.reads r) none = refl
effect_passes ok names p g st (s.prints at xs) none = outs_pass ok g (p.expressions g st) xs (value.printed g at xs none)
effect_passes ok names p g st (s.evaluates e) none = expr_passes ok g (p.expressions g st) e none
effect_passes ok names p g st (s.assigns x op at y) none =
    let left = behind_left g (s.assigns x op at y) in
    let a = p.expressions g st in
    assigned_passes ok names p g st x op at y (typed_expr g x) (typed_expr left y) none
    (expr_passes ok g a x (value.left_side g x op at y none)) (expr_passes ok left a y (value.right_side g x op at y none))

-- declarations
auto_passes : (ok : Node → Bool) → ((kind : VariableKind) → ok (a_variable kind) ≡ true) → (u : ExprType) (e : t.Expr) → Pass ok e
    → AllPass ok (nodes_in_declaration (declared_auto u e))
auto_passes ok v (types.Iterator b form) e h = both_pass ok (nodes_in e) (a_variable variables.Iterator ∷ []) h (first_passes ok _ [] (v _) refl)
auto_passes ok v u e h = both_pass ok (nodes_in e) (a_variable variables.Scalar ∷ []) h (first_passes ok _ [] (v _) refl)

bound_passes : (ok : Node → Bool) → ((kind : VariableKind) → ok (a_variable kind) ≡ true) → (e : t.Expr) → Pass ok e
    → AllPass ok (nodes_in_declaration (bound e))
unfolding nodes_in nodes_in_left nodes_in_operands
bound_passes ok v (t.held (t.element k es)) h =
    both_pass ok (a_call k es ∷ nodes_in_operands es) (a_variable variables.Reference ∷ []) h (first_passes ok _ [] (v _) refl)
bound_passes ok v (t.held x) h = both_pass ok (nodes_in_left x) (a_variable variables.Iterator ∷ []) h (first_passes ok _ [] (v _) refl)
bound_passes ok v e h = both_pass ok (nodes_in e) (a_variable variables.Iterator ∷ []) h (first_passes ok _ [] (v _) refl)

-- elements in braces, before which so many sites stand
more_sites : (g : Context) (e : Expr) (n : ℕ) → n ≡ length g.sites → n + site_count g.scope e ≡ length (behind g e).sites
unfolding site_count
more_sites g e n same = let l = length-append g.sites (sites_in g.scope e) in omega arith

elements_pass : (ok : Node → Bool) (g : Context) → Passes ok g.scope → (n : ℕ) → n ≡ length g.sites → (k : ℕ) (ws : List Way) (xs : Exprs)
    → element_faults g k xs ≡ [] → OperandsPass ok (operands g.scope n ws xs)
unfolding operands nodes_in nodes_in_left nodes_in_operands
elements_pass ok g a n same k ws s.none none = refl
elements_pass ok g a n same k ws (s.with x xs) none =
    let i = subst (λ m. faults g.scope m standing.Plain x ≡ []) (sym same) (value.first_element g k x xs none) in
    both_pass ok (nodes_in (handed (first_way ws) (type_of g.scope x) (typed g.scope n x)))
    (nodes_in_operands (operands g.scope (n + site_count g.scope x) (other_ways ws) xs))
    (handed_passes ok (first_way ws) (type_of g.scope x) (typed g.scope n x)
    (expression_passes ok g.scope a (tells g.scope) n standing.Plain x i))
    (elements_pass ok (behind g x) a (n + site_count g.scope x) (more_sites g x n same) (k + 1) (other_ways ws) xs
    (value.other_elements g k x xs none))

operands_pass : (ok : Node → Bool) (g : Context) → Passes ok g.scope → (row : Option Found) (made : Initializer) → initializer_faults g made ≡ []
    → OperandsPass ok (operands_in g row made)
unfolding nodes_in nodes_in_left nodes_in_operands
operands_pass ok g a row s.absent none = refl
operands_pass ok g a row (s.copies x) none = refl
operands_pass ok g a row (s.braces equal xs) none = elements_pass ok g a (length g.sites) refl 0 (replicate (size xs) (as_number c.Int)) xs none
operands_pass ok g a row (s.arguments xs) none =
    arguments_pass ok g.scope a (tells g.scope) (length g.sites) standing.Plain (ways (letters_of row)) xs none

declaration_passes : (ok : Node → Bool) (names : ℕ) → PassesText ok names → (g : Context) → Stands names g → (d : Declaration)
    → declaration_faults g d ≡ [] → AllPass ok (nodes_in_declaration (typed_declaration g d))
declaration_passes ok names p g st (s.declares_scalar at type x None) none = first_passes ok _ [] (p.variables _) refl
declaration_passes ok names p g st (s.declares_scalar at type x (Some e)) none =
    both_pass ok (nodes_in (converted type (type_of g.scope e) (typed_expr g e))) (a_variable variables.Scalar ∷ [])
    (converted_passes ok type (type_of g.scope e) (typed_expr g e)
    (expr_passes ok g (p.expressions g st) e (value.scalar_value g at type x (Some e) none)))
    (first_passes ok _ [] (p.variables _) refl)
declaration_passes ok names p g st (s.declares_auto at x e) none =
    auto_passes ok p.variables (type_of g.scope e) (typed_expr g e) (expr_passes ok g (p.expressions g st) e (value.auto_value g at x e none))
declaration_passes ok names p g st (s.declares_reference head x e) none =
    bound_passes ok p.variables (typed_expr g e) (expr_passes ok g (p.expressions g st) e (value.reference_value g head x e none))
declaration_passes ok names p g st (s.declares_container ct x made) none =
    let row = making_row g ct.form made in
    first_passes ok _ _ (p.makings g st ct.form ct.place made _)
    (both_pass ok (nodes_in_operands (operands_in g row made)) (a_variable variables.Container ∷ [])
    (operands_pass ok g (p.expressions g st) row made (value.container_value g ct x made none)) (first_passes ok _ [] (p.variables _) refl))

-- the parts of a `for`
head_passes : (ok : Node → Bool) (names : ℕ) → PassesText ok names → (g : Context) → Stands names g → (first : Option First)
    → first_faults g first ≡ [] → AllPass ok (nodes_in_first (typed_first g first))
head_passes ok names p g st None none = refl
head_passes ok names p g st (Some (s.first_scalar at type x e)) none = declaration_passes ok names p g st (s.declares_scalar at type x (Some e)) none
head_passes ok names p g st (Some (s.first_auto at x e)) none = declaration_passes ok names p g st (s.declares_auto at x e) none
head_passes ok names p g st (Some (s.first_effect w)) none = effect_passes ok names p g st w none

test_passes : (ok : Node → Bool) (g : Context) → Passes ok g.scope → (k : Option Cond) → test_faults g k ≡ []
    → AllPass ok (nodes_in_cond (typed_test g k))
test_passes ok g a None none = refl
test_passes ok g a (Some k) none = cond_passes ok g a k none

last_passes : (ok : Node → Bool) (names : ℕ) → PassesText ok names → (g : Context) → Stands names g → (w : Option Effect) → last_faults g w ≡ []
    → AllPass ok (nodes_in_last (option_map (typed_effect g) w))
last_passes ok names p g st None none = refl
last_passes ok names p g st (Some w) none = effect_passes ok names p g st w none

-- a returned value
returned_passes : (ok : Node → Bool) (k : Option ParameterKind) (u : ExprType) (e : t.Expr) → Pass ok e → Pass ok (returned k u e)
returned_passes ok (Some (parameters.Value type)) u e h = converted_passes ok type u e h
returned_passes ok None u e h = h
returned_passes ok (Some k) u e h = h

value_passes : (ok : Node → Bool) (g : Context) → Passes ok g.scope → (v : Option Expr) → value_faults g v ≡ []
    → AllPass ok (nodes_in_value (typed_value g v))
value_passes ok g a None none = refl
value_passes ok g a (Some e) none = returned_passes ok g.scope.result (type_of g.scope e) (typed_expr g e) (expr_passes ok g a e none)

mutual
  unfolding typed_stmt typed_item typed_items stmt_faults item_faults items_faults nodes_in_stmt nodes_in_stmts after after_item after_items

  -- a statement
  pub stmt_passes : (ok : Node → Bool) (names : ℕ) → PassesText ok names → (g : Context) (a : Stmt) → Fits g → stmt_faults g a ≡ []
      → length (after g a).names ≤ names → AllPass ok (nodes_in_stmt (typed_stmt g a))
  stmt_passes ok names p g (s.block at items close) f none few =
      both_pass ok (nodes_in_stmts (typed_items (enter g) items)) _
      (items_pass ok names p (enter g) items (enter_fits g f) (part.block_items g at items close none) few)
      (first_passes ok _ [] (p.braces (enter g) items) refl)
  stmt_passes ok names p g (s.choice at k a) f none few =
      let h = behind_cond (started g) k in
      let l = le_trans (after_grows h a).names few in
      both_pass ok (nodes_in_cond (typed_cond (started g) k)) (nodes_in_stmt (typed_stmt h a))
      (cond_passes ok (started g)
      (p.expressions (started g) (stands names (started g) h (at_choice g at k a f none) (cond_grows (started g) k) l)) k
      (part.choice_condition g at k a none))
      (stmt_passes ok names p h a (in_choice g at k a f none) (part.choice_body g at k a none) few)
  stmt_passes ok names p g (s.choice_else at k a b) f none few =
      let h = behind_cond (started g) k in
      let m = le_trans (after_grows (after h a) b).names few in
      let l = le_trans (after_grows h a).names m in
      both_pass ok (nodes_in_cond (typed_cond (started g) k)) (nodes_in_stmt (typed_stmt h a) ++ nodes_in_stmt (typed_stmt (after h a) b))
      (cond_passes ok (started g)
      (p.expressions (started g) (stands names (started g) h (at_choice_else g at k a b f none) (cond_grows (started g) k) l)) k
      (part.choice_else_condition g at k a b none))
      (both_pass ok (nodes_in_stmt (typed_stmt h a)) (nodes_in_stmt (typed_stmt (after h a) b))
      (stmt_passes ok names p h a (in_choice_else g at k a b f none) (part.choice_else_body g at k a b none) m)
      (stmt_passes ok names p (after h a) b (in_else g at k a b f none) (part.else_body g at k a b none) few))
  stmt_passes ok names p g (s.while at k a) f none few =
      let h = in_while g at k in
      let l = le_trans (after_grows h a).names few in
      first_passes ok _ _ (p.loops _)
      (both_pass ok (nodes_in_cond (typed_cond (started_loop at g) k)) (nodes_in_stmt (typed_stmt h a))
      (cond_passes ok (started_loop at g)
      (p.expressions (started_loop at g)
      (stands names (started_loop at g) (behind_cond (started_loop at g) k) (at_while g at k a f none) (cond_grows (started_loop at g) k) l)) k
      (part.while_condition g at k a none))
      (stmt_passes ok names p h a (in_while_fits g at k a f none) (part.while_body g at k a none) few))
  stmt_passes ok names p g (s.for at first k last a) f none few =
      let h0 = enter (started_loop at g) in
      let h1 = at_test g at first in
      let h2 = at_last g at first k in
      let h3 = in_for g at first k last in
      let l3 = le_trans (after_grows h3 a).names few in
      let st2 = stands names h2 (behind_last h2 last) (at_last_fits g at first k last a f none) (last_grows h2 last) l3 in
      let st1 = stands names h1 h2 (at_test_fits g at first k last a f none) (test_grows h1 k) st2.few in
      let st0 = stands names h0 h1 (at_for g at first k last a f none) (first_grows h0 first) st1.few in
      let n1 = nodes_in_first (typed_first h0 first) in
      let n2 = nodes_in_cond (typed_test h1 k) in
      let n3 = nodes_in_last (option_map (typed_effect h2) last) in
      let n4 = nodes_in_stmt (typed_stmt h3 a) in
      first_passes ok _ _ (p.loops _)
      (both_pass ok n1 (n2 ++ (n3 ++ n4)) (head_passes ok names p h0 st0 first (part.for_first g at first k last a none))
      (both_pass ok n2 (n3 ++ n4) (test_passes ok h1 (p.expressions h1 st1) k (part.for_test g at first k last a none))
      (both_pass ok n3 n4 (last_passes ok names p h2 st2 last (part.for_last g at first k last a none))
      (stmt_passes ok names p h3 a (in_for_fits g at first k last a f none) (part.for_body g at first k last a none) few))))
  stmt_passes ok names p g (s.range_for at how x over a) f none few =
      let h = in_range g at how x over in
      let l = le_trans (after_grows h a).names few in
      let kind = element_variable (taken_as how) in
      let body = nodes_in_stmt (typed_stmt h a) in
      let label = label_in (label_of_name g.scope over.name) in
      first_passes ok (a_loop (length g.loops)) (a_range at label ∷ a_variable kind ∷ body) (p.loops _)
      (first_passes ok (a_range at label) (a_variable kind ∷ body)
      (p.ranges g (stands names g h f (range_grows g at how x over) l) at over (part.range_container g at how x over a none))
      (first_passes ok (a_variable kind) body (p.variables kind)
      (stmt_passes ok names p h a (in_range_fits g at how x over a f none) (part.range_body g at how x over a none) few)))
  stmt_passes ok names p g (s.break at) f none few = refl
  stmt_passes ok names p g (s.continue at) f none few = refl
  stmt_passes ok names p g (s.gives_back at v) f none few =
      value_passes ok (started g)
      (p.expressions (started g) (stands names (started g) _ (at_value g at v f none) (value_grows (started g) v) few)) v
      (part.given_value g at v none)
  stmt_passes ok names p g (s.does at w) f none few =
      effect_passes ok names p (started g) (stands names (started g) _ (at_effect g at w f none) (effect_grows (started g) w) few) w
      (part.done_effect g at w none)

  -- an item of a block
  pub item_passes : (ok : Node → Bool) (names : ℕ) → PassesText ok names → (g : Context) (i : Item) → Fits g → item_faults g i ≡ []
      → length (after_item g i).names ≤ names → AllPass ok (nodes_in_stmt (typed_item g i))
  item_passes ok names p g (s.declares d) f none few =
      declaration_passes ok names p (started g)
      (stands names (started g) _ (at_declaration g d f none) (declaration_grows (started g) d) few) d (part.declared g d none)
  item_passes ok names p g (s.states a) f none few = stmt_passes ok names p g a f (part.stated g a none) few

  -- items
  pub items_pass : (ok : Node → Bool) (names : ℕ) → PassesText ok names → (g : Context) (items : Items) → Fits g → items_faults g items ≡ []
      → length (after_items g items).names ≤ names → AllPass ok (nodes_in_stmts (typed_items g items))
  items_pass ok names p g s.no_more f none few = refl
  items_pass ok names p g (s.followed i rest) f none few =
      both_pass ok (nodes_in_stmt (typed_item g i)) (nodes_in_stmts (typed_items (after_item g i) rest))
      (item_passes ok names p g i f (part.first_item g i rest none) (le_trans (after_items_grow (after_item g i) rest).names few))
      (items_pass ok names p (after_item g i) rest (next_items_fit g i rest f none) (part.other_items g i rest none) few)

-- What each node of a statement that breaks no rule passes.
use Rattle.std.proofs.Common.{◌≡◌, ℕ, ◌+◌, Bool, true, false, List, [], ◌∷◌, ◌++◌, length, Option, Some, None, refl, subst, option_map, length-append}
use Rattle.std.specs.Prelude.{flat_map, replicate, if◌then◌else◌}
use Rattle.std.specs.List.{list_all, list_any}
use Rattle.sl_base.specs.declared.place.Place.{Place}
use Rattle.sl_base.specs.declared.scalar.Scalar.TheVariants as c
use Rattle.sl_syntax.specs.declared.operator.Arithmetic.{Arithmetic}
use Rattle.sl_syntax.specs.declared.operator.Assignment.{Assignment}
use Rattle.sl_syntax.specs.declared.operator.Assignment.TheVariants as assignments
use Rattle.sl_syntax.specs.declared.typed.parameter.ParameterKind.{ParameterKind}
use Rattle.sl_syntax.specs.declared.typed.parameter.ParameterKind.TheVariants as parameters
use Rattle.sl_syntax.specs.declared.typed.variable.VariableKind.{VariableKind}
use Rattle.sl_syntax.specs.declared.typed.variable.VariableKind.TheVariants as variables
use Rattle.sl_syntax.specs.Tree as s
use Rattle.sl_syntax.specs.Tree.{Expr, Exprs, Initializer, Declaration, Out, Effect, Cond, First, Stmt, Item, Items}
use Rattle.sl_syntax.specs.Typed as t
use Rattle.sl_syntax.specs.Typed.{Function, Operands}
use Rattle.sl_typing.specs.declared.expr_type.ExprType.{ExprType}
use Rattle.sl_typing.specs.declared.expr_type.ExprType.TheVariants as types
use Rattle.sl_typing.specs.declared.rules.TheConstants as rule
use Rattle.sl_typing.specs.declared.standing.Standing.TheVariants as standing
use Rattle.sl_typing.specs.Types.{scalar_of, common, is_iterator}
use Rattle.sl_typing.specs.Candidates.{Found, assignment_row}
use Rattle.sl_typing.specs.Scopes.{label_of_name}
use Rattle.sl_typing.specs.Contexts.{Context, enter, started, started_loop}
use Rattle.sl_typing.specs.TypeOf.{size, type_of}
use Rattle.sl_typing.specs.Sites.{behind, sites_in, site_count}
use Rattle.sl_typing.specs.Faults.{broken}
use Rattle.sl_typing.specs.Flow.{behind_left, behind_cond, behind_last, behind_declaration, at_test, at_last}
use Rattle.sl_typing.specs.Flow.{in_for, in_range, in_while, after, after_item, after_items}
use Rattle.sl_typing.specs.StatementFaults.{expr_faults, outs_faults, wrong_out, effect_faults, cond_faults, value_faults, element_faults}
use Rattle.sl_typing.specs.StatementFaults.{initializer_faults, declaration_faults, first_faults, test_faults, last_faults}
use Rattle.sl_typing.specs.StatementFaults.{statement_faults, declaration_place, stmt_faults, item_faults, items_faults}
use Rattle.sl_typing.specs.Numbering.{Way, as_number, number_in, left_of, converted, handed, first_way, other_ways, ways, told, head, one, letters_of, label_in, operands}
use Rattle.sl_typing.specs.StatementNumbering.{typed_expr, typed_outs, assigned_container, set, updated, assigned, assignment_number}
use Rattle.sl_typing.specs.StatementNumbering.{typed_effect, typed_cond, making_row, operands_in, declared_auto, bound, typed_declaration}
use Rattle.sl_typing.specs.StatementNumbering.{typed_first, typed_test, returned, typed_value, taken_as, brace_number, typed_stmt, typed_item, typed_items}
use Rattle.sl_model.specs.Typing.WellTypedNodes.{Node, a_call, a_loop, a_range, a_variable, nodes_in, nodes_in_left, nodes_in_operands, nodes_in_value}
use Rattle.sl_model.specs.Typing.WellTypedNodes.{nodes_in_cond, nodes_in_printed, nodes_in_effect, nodes_in_last, nodes_in_declaration, nodes_in_first}
use Rattle.sl_model.specs.Typing.WellTypedNodes.{element_variable, has_container, nodes_in_stmt, nodes_in_stmts}
use Rattle.sl_number_limits.proofs.PartFaults.{block_items, choice_condition, choice_body, choice_else_condition, choice_else_body, else_body}
use Rattle.sl_number_limits.proofs.PartFaults.{while_condition, while_body, for_first, for_test, for_last, for_body, range_body, given_value, done_effect}
use Rattle.sl_number_limits.proofs.ValueFaults.{scalar_value, auto_value, reference_value, container_value, left_side, right_side, first_element, other_elements}
use Rattle.sl_well_typed.proofs.Parts.{none_in_both}
use Rattle.sl_well_typed.proofs.Behind.{cond_scope, test_scope, last_scope, after_scope}
use Rattle.sl_typed_order.proofs.Sound.{Sound, same_sound, enter_sound, looping_sound, declaration_sound, first_sound, range_sound}
use Rattle.sl_typed_order.proofs.Kept.{IsKept}
use Rattle.sl_typed_order.proofs.Nodes.{all_both, all_behind, Holds, converted_holds, handed_holds, left_holds, one_holds, nodes_hold, all_nodes_hold}

-- an expression that stands as any part
expr_holds : (fs : List Function) (P : Node → Bool) → IsKept fs P → (g : Context) → Sound fs g.scope → (e : Expr) → expr_faults g e ≡ []
    → Holds P (typed_expr g e)
expr_holds fs P kept g sound e none = nodes_hold fs P kept g.scope sound (length g.sites) standing.Plain e none

-- a condition
cond_holds : (fs : List Function) (P : Node → Bool) → IsKept fs P → (g : Context) → Sound fs g.scope → (k : Cond) → cond_faults g k ≡ []
    → list_all P (nodes_in_cond (typed_cond g k)) ≡ true
cond_holds fs P kept g sound (s.tests_read r) none = refl
cond_holds fs P kept g sound (s.tests_no_read at r) none = refl
cond_holds fs P kept g sound (s.tests e) none = expr_holds fs P kept g sound e none

-- the items of a print
outs_hold : (fs : List Function) (P : Node → Bool) → IsKept fs P → (g : Context) → Sound fs g.scope → (xs : List Out) → outs_faults g xs ≡ []
    → list_all P (flat_map nodes_in_printed (typed_outs g xs)) ≡ true
outs_hold fs P kept g sound [] none = refl
outs_hold fs P kept g sound (s.text at bytes ∷ xs) none = outs_hold fs P kept g sound xs none
outs_hold fs P kept g sound (s.end_line at ∷ xs) none = outs_hold fs P kept g sound xs none
outs_hold fs P kept g sound (s.value e ∷ xs) none =
    let both = none_in_both (expr_faults g e) (outs_faults (behind g e) xs) none in
    all_both P (nodes_in (typed_expr g e)) (flat_map nodes_in_printed (typed_outs (behind g e) xs)) (expr_holds fs P kept g sound e both.0)
    (outs_hold fs P kept (behind g e) sound xs both.1)

-- `=`
container_holds : (fs : List Function) (P : Node → Bool) → IsKept fs P → (o : Option Found) (at : Place) (site : Option ℕ) (object : ℕ)
    (names : List (Option ℕ)) (e : t.Expr) → Holds P e → Holds P (assigned_container o at site object names (one e))
unfolding nodes_in nodes_in_left
container_holds fs P kept None at site object names e h = refl
container_holds fs P kept (Some x) at site object names e h =
    all_behind P _ (nodes_in_operands (one e)) (kept.lone_rows x.number at site (Some object) names e) (one_holds P e h)

set_holds : (fs : List Function) (P : Node → Bool) → IsKept fs P → (at : Place) (site : Option ℕ) (u v : ExprType) (names : List (Option ℕ))
    (d e : t.Expr) → Holds P d → Holds P e → list_all P (nodes_in_effect (set at site u v names d e)) ≡ true
set_holds fs P kept at site (types.Container access form) v names d e h k =
    container_holds fs P kept (assignment_row form) at site (number_in d) names e k
set_holds fs P kept at site (types.Iterator x form) v names d e h k = k
set_holds fs P kept at site u v names d e h k =
    all_both P (nodes_in_left (left_of d)) (nodes_in (converted (scalar_of u) v e)) (left_holds P d h) (converted_holds P (scalar_of u) v e k)

-- `+=` and its like
updated_holds : (fs : List Function) (P : Node → Bool) → IsKept fs P → (op : Arithmetic) (at : Place) (u v : ExprType) (names : List (Option ℕ))
    (d e : t.Expr) → Holds P d → Holds P e → list_all P (nodes_in_effect (updated op at u v names d e)) ≡ true
unfolding nodes_in
updated_holds fs P kept op at (types.Iterator x form) v names d e h k =
    all_behind P _ (nodes_in_operands (one (converted c.Diff v e)))
    (kept.moves op at (None ∷ names) (number_in d) (converted c.Diff v e))
    (one_holds P (converted c.Diff v e) (converted_holds P c.Diff v e k))
updated_holds fs P kept op at u v names d e h k =
    let type = common (scalar_of u) (scalar_of v) in
    all_both P (nodes_in_left (left_of d)) (nodes_in (converted type v e)) (left_holds P d h) (converted_holds P type v e k)

assigned_holds : (fs : List Function) (P : Node → Bool) → IsKept fs P → (op : Assignment) (at : Place) (site : Option ℕ) (u v : ExprType)
    (names : List (Option ℕ)) (d e : t.Expr) → Holds P d → Holds P e → list_all P (nodes_in_effect (assigned op at site u v names d e)) ≡ true
assigned_holds fs P kept assignments.Set at site u v names d e h k = set_holds fs P kept at site u v names d e h k
assigned_holds fs P kept (assignments.Update op) at site u v names d e h k = updated_holds fs P kept op at u v names d e h k

-- the two sides of an assignment
sides_kept : (g : Context) (x : Expr) (op : Assignment) (at : Place) (y : Expr) → effect_faults g (s.assigns x op at y) ≡ []
    → (expr_faults g x ≡ []) × (expr_faults (behind_left g (s.assigns x op at y)) y ≡ [])
sides_kept g x op at y none = (left_side g x op at y none, right_side g x op at y none)

-- an effect
effect_holds : (fs : List Function) (P : Node → Bool) → IsKept fs P → (g : Context) → Sound fs g.scope → (w : Effect) → effect_faults g w ≡ []
    → list_all P (nodes_in_effect (typed_effect g w)) ≡ true
effect_holds fs P kept g sound (s.reads r) none = refl
effect_holds fs P kept g sound (s.prints at xs) none =
    let both = none_in_both (outs_faults g xs) (broken (list_any (wrong_out g) xs) at rule.WRONG_TYPE) none in
    outs_hold fs P kept g sound xs both.0
effect_holds fs P kept g sound (s.evaluates e) none = expr_holds fs P kept g sound e none
effect_holds fs P kept g sound (s.assigns x op at y) none =
    let left = behind_left g (s.assigns x op at y) in
    let both = sides_kept g x op at y none in
    assigned_holds fs P kept op at (assignment_number (behind g x) x op) (type_of g.scope x) (type_of g.scope y) (told g.scope x ∷ told g.scope y ∷ [])
    (typed_expr g x) (typed_expr left y) (expr_holds fs P kept g sound x both.0) (expr_holds fs P kept left sound y both.1)

-- an effect that may be missing
last_holds : (fs : List Function) (P : Node → Bool) → IsKept fs P → (g : Context) → Sound fs g.scope → (w : Option Effect) → last_faults g w ≡ []
    → list_all P (nodes_in_last (option_map (typed_effect g) w)) ≡ true
last_holds fs P kept g sound None none = refl
last_holds fs P kept g sound (Some w) none = effect_holds fs P kept g sound w none

-- a condition that may be missing
test_holds : (fs : List Function) (P : Node → Bool) → IsKept fs P → (g : Context) → Sound fs g.scope → (k : Option Cond) → test_faults g k ≡ []
    → list_all P (nodes_in_cond (typed_test g k)) ≡ true
test_holds fs P kept g sound None none = refl
test_holds fs P kept g sound (Some k) none = cond_holds fs P kept g sound k none

-- a value that is given back
returned_holds : (P : Node → Bool) (k : Option ParameterKind) (u : ExprType) (e : t.Expr) → Holds P e → Holds P (returned k u e)
returned_holds P (Some (parameters.Value type)) u e h = converted_holds P type u e h
returned_holds P k u e h = h

value_holds : (fs : List Function) (P : Node → Bool) → IsKept fs P → (g : Context) → Sound fs g.scope → (value : Option Expr) → value_faults g value ≡ []
    → list_all P (nodes_in_value (typed_value g value)) ≡ true
value_holds fs P kept g sound None none = refl
value_holds fs P kept g sound (Some e) none =
    returned_holds P g.scope.result (type_of g.scope e) (typed_expr g e) (expr_holds fs P kept g sound e none)

-- what declares a variable
variable_behind : (fs : List Function) (P : Node → Bool) → IsKept fs P → (k : VariableKind) (xs : List Node) → list_all P xs ≡ true
    → list_all P (xs ++ a_variable k ∷ []) ≡ true
variable_behind fs P kept k xs h = all_both P xs (a_variable k ∷ []) h (all_behind P (a_variable k) [] (kept.variables k) refl)

auto_holds : (fs : List Function) (P : Node → Bool) → IsKept fs P → (u : ExprType) (e : t.Expr) → Holds P e
    → list_all P (nodes_in_declaration (declared_auto u e)) ≡ true
auto_holds fs P kept u e h = by_type (is_iterator u)
  where
    by_type : (b : Bool) → list_all P (nodes_in_declaration (if b then t.set_iterator e else t.set_scalar (scalar_of u) e)) ≡ true
    by_type true = variable_behind fs P kept variables.Iterator (nodes_in e) h
    by_type false = variable_behind fs P kept variables.Scalar (nodes_in e) h

bound_holds : (fs : List Function) (P : Node → Bool) → IsKept fs P → (e : t.Expr) → Holds P e → list_all P (nodes_in_declaration (bound e)) ≡ true
unfolding nodes_in nodes_in_left
bound_holds fs P kept (t.held (t.element h es)) k = variable_behind fs P kept variables.Reference (a_call h es ∷ nodes_in_operands es) k
bound_holds fs P kept e k = variable_behind fs P kept variables.Iterator (nodes_in e) k

-- elements in braces
elements_hold : (fs : List Function) (P : Node → Bool) → IsKept fs P → (g : Context) → Sound fs g.scope → (k : ℕ) (xs : Exprs) → element_faults g k xs ≡ []
    → (ws : List Way) → list_all P (nodes_in_operands (operands g.scope (length g.sites) ws xs)) ≡ true
unfolding nodes_in_operands operands site_count
elements_hold fs P kept g sound k s.none none ws = refl
elements_hold fs P kept g sound k (s.with x xs) none ws =
    let n = length g.sites in
    let first = expr_holds fs P kept g sound x (first_element g k x xs none) in
    let others = elements_hold fs P kept (behind g x) sound (k + 1) xs (other_elements g k x xs none) (other_ways ws) in
    let same : length (behind g x).sites ≡ n + site_count g.scope x = length-append g.sites (sites_in g.scope x) in
    all_both P (nodes_in (handed (first_way ws) (type_of g.scope x) (typed_expr g x)))
    (nodes_in_operands (operands g.scope (n + site_count g.scope x) (other_ways ws) xs))
    (handed_holds P (first_way ws) (type_of g.scope x) (typed_expr g x) first)
    (subst (λ (m : ℕ). list_all P (nodes_in_operands (operands g.scope m (other_ways ws) xs)) ≡ true) same others)

-- what a container is made from
made_holds : (fs : List Function) (P : Node → Bool) → IsKept fs P → (g : Context) → Sound fs g.scope → (row : Option Found) (value : Initializer)
    → initializer_faults g value ≡ [] → list_all P (nodes_in_operands (operands_in g row value)) ≡ true
unfolding nodes_in nodes_in_operands
made_holds fs P kept g sound row s.absent none = refl
made_holds fs P kept g sound row (s.copies x) none = refl
made_holds fs P kept g sound row (s.braces equal xs) none = elements_hold fs P kept g sound 0 xs none (replicate (size xs) (as_number c.Int))
made_holds fs P kept g sound row (s.arguments xs) none =
    all_nodes_hold fs P kept g.scope sound (length g.sites) standing.Plain (ways (letters_of row)) xs none

-- a declaration
declaration_holds : (fs : List Function) (P : Node → Bool) → IsKept fs P → (g : Context) → Sound fs g.scope → (d : Declaration)
    → declaration_faults g d ≡ [] → list_all P (nodes_in_declaration (typed_declaration g d)) ≡ true
declaration_holds fs P kept g sound (s.declares_scalar at type x None) none = variable_behind fs P kept variables.Scalar [] refl
declaration_holds fs P kept g sound (s.declares_scalar at type x (Some e)) none =
    variable_behind fs P kept variables.Scalar (nodes_in (converted type (type_of g.scope e) (typed_expr g e)))
    (converted_holds P type (type_of g.scope e) (typed_expr g e) (expr_holds fs P kept g sound e (scalar_value g at type x (Some e) none)))
declaration_holds fs P kept g sound (s.declares_auto at x e) none =
    auto_holds fs P kept (type_of g.scope e) (typed_expr g e) (expr_holds fs P kept g sound e (auto_value g at x e none))
declaration_holds fs P kept g sound (s.declares_reference head x e) none =
    bound_holds fs P kept (typed_expr g e) (expr_holds fs P kept g sound e (reference_value g head x e none))
declaration_holds fs P kept g sound (s.declares_container ct x value) none =
    let row = making_row g ct.form value in
    let es = operands_in g row value in
    variable_behind fs P kept variables.Container (_ ∷ nodes_in_operands es)
    (
    all_behind P _ (nodes_in_operands es) (kept.makers g ct x value sound none)
    (made_holds fs P kept g sound row value (container_value g ct x value none))
    )

-- the first part of a `for`
auto_first : (P : Node → Bool) (u : ExprType) (e : t.Expr) → list_all P (nodes_in_declaration (declared_auto u e)) ≡ true
    → list_all P (nodes_in_first (t.declares_first (declared_auto u e))) ≡ true
auto_first P u e h = h

first_holds : (fs : List Function) (P : Node → Bool) → IsKept fs P → (g : Context) → Sound fs g.scope → (first : Option First)
    → first_faults g first ≡ [] → list_all P (nodes_in_first (typed_first g first)) ≡ true
first_holds fs P kept g sound None none = refl
first_holds fs P kept g sound (Some (s.first_scalar at type x e)) none =
    declaration_holds fs P kept g sound (s.declares_scalar at type x (Some e)) none
first_holds fs P kept g sound (Some (s.first_auto at x e)) none = declaration_holds fs P kept g sound (s.declares_auto at x e) none
first_holds fs P kept g sound (Some (s.first_effect w)) none = effect_holds fs P kept g sound w none

mutual
  unfolding nodes_in_stmt nodes_in_stmts typed_stmt typed_item typed_items stmt_faults item_faults items_faults after after_item after_items

  -- a statement
  pub stmt_holds : (fs : List Function) (P : Node → Bool) → IsKept fs P → (g : Context) → Sound fs g.scope → (a : Stmt) → stmt_faults g a ≡ []
      → list_all P (nodes_in_stmt (typed_stmt g a)) ≡ true
  stmt_holds fs P kept g sound (s.block at items close) none =
      all_both P (nodes_in_stmts (typed_items (enter g) items)) (_ ∷ [])
      (items_hold fs P kept (enter g) (enter_sound fs g sound) items (block_items g at items close none))
      (all_behind P _ [] (kept.braces (brace_number (enter g) items) (has_container (typed_items (enter g) items))) refl)
  stmt_holds fs P kept g sound (s.choice at k a) none =
      let chosen = behind_cond (started g) k in
      all_both P (nodes_in_cond (typed_cond (started g) k)) (nodes_in_stmt (typed_stmt chosen a))
      (cond_holds fs P kept (started g) sound k (choice_condition g at k a none))
      (stmt_holds fs P kept chosen (same_sound fs g.scope chosen.scope (cond_scope (started g) k) sound) a (choice_body g at k a none))
  stmt_holds fs P kept g sound (s.choice_else at k a b) none =
      let chosen = behind_cond (started g) k in
      let other = after chosen a in
      let here = same_sound fs g.scope chosen.scope (cond_scope (started g) k) sound in
      all_both P (nodes_in_cond (typed_cond (started g) k)) (nodes_in_stmt (typed_stmt chosen a) ++ nodes_in_stmt (typed_stmt other b))
      (cond_holds fs P kept (started g) sound k (choice_else_condition g at k a b none))
      (
      all_both P (nodes_in_stmt (typed_stmt chosen a)) (nodes_in_stmt (typed_stmt other b))
      (stmt_holds fs P kept chosen here a (choice_else_body g at k a b none))
      (stmt_holds fs P kept other (same_sound fs chosen.scope other.scope (after_scope chosen a) here) b (else_body g at k a b none))
      )
  stmt_holds fs P kept g sound (s.while at k a) none =
      let begun = started_loop at g in
      let inner = looping_sound fs (behind_cond begun k) (same_sound fs g.scope (behind_cond begun k).scope (cond_scope begun k) sound) in
      all_behind P _ _ (kept.loops (length g.loops))
      (
      all_both P (nodes_in_cond (typed_cond begun k)) (nodes_in_stmt (typed_stmt (in_while g at k) a))
      (cond_holds fs P kept begun sound k (while_condition g at k a none)) (stmt_holds fs P kept (in_while g at k) inner a (while_body g at k a none))
      )
  stmt_holds fs P kept g sound (s.for at first k last a) none =
      let begun = enter (started_loop at g) in
      let tested = at_test g at first in
      let ended = at_last g at first k in
      let behind = behind_last ended last in
      let here = first_sound fs begun first (enter_sound fs (started_loop at g) sound) in
      let there = same_sound fs tested.scope ended.scope (test_scope tested k) here in
      let inner = looping_sound fs behind (same_sound fs ended.scope behind.scope (last_scope ended last) there) in
      all_behind P _ _ (kept.loops (length g.loops))
      (
      all_both P (nodes_in_first (typed_first begun first)) _
      (first_holds fs P kept begun (enter_sound fs (started_loop at g) sound) first (for_first g at first k last a none))
      (
      all_both P (nodes_in_cond (typed_test tested k)) _ (test_holds fs P kept tested here k (for_test g at first k last a none))
      (
      all_both P (nodes_in_last (option_map (typed_effect ended) last)) (nodes_in_stmt (typed_stmt (in_for g at first k last) a))
      (last_holds fs P kept ended there last (for_last g at first k last a none))
      (stmt_holds fs P kept (in_for g at first k last) inner a (for_body g at first k last a none))
      )
      )
      )
  stmt_holds fs P kept g sound (s.range_for at how x over a) none =
      let body = nodes_in_stmt (typed_stmt (in_range g at how x over) a) in
      let variable = a_variable (element_variable (taken_as how)) in
      let range = a_range at (label_in (label_of_name g.scope over.name)) in
      all_behind P (a_loop (length g.loops)) (range ∷ variable ∷ body) (kept.loops (length g.loops))
      (
      all_behind P range (variable ∷ body) (kept.ranges at (label_in (label_of_name g.scope over.name)))
      (
      all_behind P variable body (kept.variables (element_variable (taken_as how)))
      (stmt_holds fs P kept (in_range g at how x over) (range_sound fs g at how x over sound) a (range_body g at how x over a none))
      )
      )
  stmt_holds fs P kept g sound (s.break at) none = refl
  stmt_holds fs P kept g sound (s.continue at) none = refl
  stmt_holds fs P kept g sound (s.gives_back at value) none = value_holds fs P kept (started g) sound value (given_value g at value none)
  stmt_holds fs P kept g sound (s.does at w) none = effect_holds fs P kept (started g) sound w (done_effect g at w none)

  -- items
  pub items_hold : (fs : List Function) (P : Node → Bool) → IsKept fs P → (g : Context) → Sound fs g.scope → (items : Items) → items_faults g items ≡ []
      → list_all P (nodes_in_stmts (typed_items g items)) ≡ true
  items_hold fs P kept g sound s.no_more none = refl
  items_hold fs P kept g sound (s.followed (s.declares d) rest) none =
      let behind = behind_declaration (started g) d in
      let both = none_in_both (item_faults g (s.declares d)) (items_faults behind rest) none in
      let kept_all = none_in_both (declaration_faults (started g) d) (statement_faults g (declaration_place d)) both.0 in
      all_both P (nodes_in_declaration (typed_declaration (started g) d)) (nodes_in_stmts (typed_items behind rest))
      (declaration_holds fs P kept (started g) sound d kept_all.0)
      (items_hold fs P kept behind (declaration_sound fs (started g) d sound) rest both.1)
  items_hold fs P kept g sound (s.followed (s.states a) rest) none =
      let both = none_in_both (stmt_faults g a) (items_faults (after g a) rest) none in
      all_both P (nodes_in_stmt (typed_stmt g a)) (nodes_in_stmts (typed_items (after g a) rest)) (stmt_holds fs P kept g sound a both.0)
      (items_hold fs P kept (after g a) (same_sound fs g.scope (after g a).scope (after_scope g a) sound) rest both.1)

-- The sites of a function that breaks no rule are numbered in the order of the text, and so are its loops.
use Rattle.std.proofs.Common.{◌≡◌, ℕ, zero, suc, ◌+◌, ◌≤◌, true, List, [], ◌∷◌, ◌++◌, length, length-append, Option, Some, None}
use Rattle.std.proofs.Common.{refl, sym, ◌∙◌, ap, subst, arith}
use Rattle.std.specs.Prelude.{replicate}
use Rattle.std.specs.List.{list_all, filter_map}
use Rattle.std.proofs.lemmas.Bool.{and_from}
use Rattle.std.proofs.lemmas.List.{append-nil}
use Rattle.std.proofs.Math.Nat.{le_trans}
use Rattle.sl_base.specs.declared.place.Place.{Place}
use Rattle.sl_base.specs.declared.scalar.Scalar.TheVariants as c
use Rattle.sl_syntax.specs.declared.tree.function.Param.{Param}
use Rattle.sl_syntax.specs.declared.tree.function.ResultType.{ResultType}
use Rattle.sl_syntax.specs.declared.tree.function.ResultType.TheVariants as r
use Rattle.sl_syntax.specs.declared.typed.callee.Callee.TheVariants as callees
use Rattle.sl_syntax.specs.declared.typed.parameter.ParameterKind.{ParameterKind}
use Rattle.sl_syntax.specs.declared.typed.parameter.ParameterKind.TheVariants as parameters
use Rattle.sl_syntax.specs.declared.typed.variable.VariableKind.{VariableKind}
use Rattle.sl_syntax.specs.declared.typed.variable.VariableKind.TheVariants as variables
use Rattle.sl_syntax.specs.Tree as s
use Rattle.sl_syntax.specs.Tree.{Expr, Exprs, Initializer, Declaration, Items, Function, Program}
use Rattle.sl_syntax.specs.Typed as t
use Rattle.sl_typing.specs.declared.expr_type.ExprType.{ExprType}
use Rattle.sl_typing.specs.declared.expr_type.ExprType.TheVariants as types
use Rattle.sl_typing.specs.declared.fault.Fault.{Fault}
use Rattle.sl_typing.specs.declared.standing.Standing.TheVariants as standing
use Rattle.sl_typing.specs.Candidates.{Found}
use Rattle.sl_typing.specs.Contexts.{Context, enter, started_loop, declare, declare_parameters, with_hidden, with_sites}
use Rattle.sl_typing.specs.Scopes.{type_of_name, label_of_name, name_of_parameter, type_of_kind, parameter_kind, result_kind}
use Rattle.sl_typing.specs.TypeOf.{size, type_of}
use Rattle.sl_typing.specs.Sites.{site_count, behind, brace_site, declares_container}
use Rattle.sl_typing.specs.Faults.{faults, faults_of_all, standing_before}
use Rattle.sl_typing.specs.Flow.{behind_value, behind_initializer, behind_declaration, in_range, before_parameters, in_function, head_of}
use Rattle.sl_typing.specs.Flow.{after_function, after_functions, after_items}
use Rattle.sl_typing.specs.StatementFaults.{element_faults, initializer_faults, value_faults, declaration_faults}
use Rattle.sl_typing.specs.ProgramFaults.{function_faults, functions_faults, start}
use Rattle.sl_typing.specs.Numbering.{as_number, ways, letters_of, converted, head, label_in}
use Rattle.sl_typing.specs.StatementNumbering.{typed_expr, making_row, told_in, operands_in, number_of_row, declared_auto, bound, taken_as}
use Rattle.sl_typing.specs.StatementNumbering.{typed_declaration, returned, typed_value, brace_number, typed_items}
use Rattle.sl_typing.specs.Typing as typing
use Rattle.sl_typing.specs.Typing.{typed_function, typed_functions, typed_program}
use Rattle.sl_model.specs.Typing.WellTypedNodes.{Node, a_call, a_range, a_variable, a_brace, has_container, element_variable}
use Rattle.sl_model.specs.Typing.WellTypedNodes.{nodes_in, nodes_in_left, nodes_in_operands, nodes_in_value, nodes_in_declaration, nodes_in_stmt}
use Rattle.sl_model.specs.Typing.WellTypedNumbers.{site_in, loop_in, are_numbers_of, is_numbered}
use Rattle.sl_model.specs.Typing.WellTyped.{has_numbers}
use Rattle.sl_model.proofs.Tells.{all_append}
use Rattle.sl_number_limits.proofs.Lasting.{function_grows, functions_last}
use Rattle.sl_number_limits.proofs.Parameters.{parameters_grow}
use Rattle.sl_number_limits.proofs.PartFaults.{first_function, other_functions}
use Rattle.sl_number_limits.proofs.Programs.{functions_break_none}
use Rattle.sl_number_limits.proofs.ValueFaults as value
use Rattle.sl_well_typed.proofs.Matching.{is_plain_result}
use Rattle.sl_typed_numbers.proofs.Counting.{Counts, function_adds}
use Rattle.sl_typed_numbers.proofs.Loops.{loops_are_numbered}
use Rattle.sl_typed_numbers.proofs.NumberedArguments.{is_value, ways_are_values}
use Rattle.sl_typed_numbers.proofs.NumberedNodes.{Numbers, both_number, none_number, chosen_numbers, first_unnumbered, converted_numbers}
use Rattle.sl_typed_numbers.proofs.NumberedParts.{Between, sites_behind, expr_numbers, args_number, cond_numbers, effect_numbers}
use Rattle.sl_typed_numbers.proofs.Objects.{IsPlain, ArePlain}
use Rattle.sl_typed_numbers.proofs.Upto.{upto, added_are_numbers}

-- a variable behind nodes
variable_behind : (n m : ℕ) (xs : List Node) (kind : VariableKind) → Numbers n m xs → Numbers n m (xs ++ a_variable kind ∷ [])
variable_behind n m xs kind h = both_number n m m xs (a_variable kind ∷ []) h (none_number m m (a_variable kind ∷ []) refl refl)

-- declarations
auto_numbers : (n m : ℕ) (u : ExprType) (e : t.Expr) → Numbers n m (nodes_in e) → Numbers n m (nodes_in_declaration (declared_auto u e))
auto_numbers n m (types.Iterator b form) e h = variable_behind n m (nodes_in e) variables.Iterator h
auto_numbers n m u e h = variable_behind n m (nodes_in e) variables.Scalar h

bound_numbers : (n m : ℕ) (e : t.Expr) → Numbers n m (nodes_in e) → Numbers n m (nodes_in_declaration (bound e))
unfolding nodes_in nodes_in_left nodes_in_operands
bound_numbers n m (t.held (t.element k es)) h = variable_behind n m (a_call k es ∷ nodes_in_operands es) variables.Reference h
bound_numbers n m (t.held x) h = variable_behind n m (nodes_in_left x) variables.Iterator h
bound_numbers n m e h = variable_behind n m (nodes_in e) variables.Iterator h

-- elements in braces break no rule as arguments
plain_before : (xs : Exprs) → standing_before xs standing.Plain ≡ standing.Plain
plain_before s.none = refl
plain_before (s.with x xs) = refl

none_together : (xs ys : List Fault) → xs ≡ [] → ys ≡ [] → xs ++ ys ≡ []
none_together xs ys h k = rw (h, k) refl

elements_break_none : (g : Context) (n k : ℕ) (xs : Exprs) → n ≡ length g.sites → element_faults g k xs ≡ []
    → faults_of_all g.scope n standing.Plain xs ≡ []
unfolding faults_of_all
elements_break_none g n k s.none same none = refl
elements_break_none g n k (s.with x xs) same none =
    let first : faults g.scope n (standing_before xs standing.Plain) x ≡ [] =
    rw (plain_before xs, same) (value.first_element g k x xs none) in
    let next : n + site_count g.scope x ≡ length (behind g x).sites = let e = sites_behind g x in omega arith in
    none_together (faults g.scope n (standing_before xs standing.Plain) x) (faults_of_all g.scope (n + site_count g.scope x) standing.Plain xs) first
    (elements_break_none (behind g x) (n + site_count g.scope x) (k + 1) xs next (value.other_elements g k x xs none))

numbers_are_values : (n : ℕ) → list_all is_value (replicate n (as_number c.Int)) ≡ true
numbers_are_values zero = refl
numbers_are_values (suc n) = numbers_are_values n

initializer_numbers : (g : Context) → ArePlain g.scope.functions → (row : Option Found) (made : Initializer) → initializer_faults g made ≡ []
    → Between g (behind_initializer g made) (nodes_in_operands (operands_in g row made))
unfolding nodes_in nodes_in_left nodes_in_operands
initializer_numbers g plain row s.absent none = none_number (length g.sites) (length g.sites) [] refl refl
initializer_numbers g plain row (s.copies x) none = none_number (length g.sites) (length g.sites) [] refl refl
initializer_numbers g plain row (s.braces equal xs) none =
    args_number g plain (replicate (size xs) (as_number c.Int)) xs (numbers_are_values (size xs))
    (elements_break_none g (length g.sites) 0 xs refl none)
initializer_numbers g plain row (s.arguments xs) none =
    args_number g plain (ways (letters_of row)) xs (ways_are_values (letters_of row)) none

declaration_numbers : (g : Context) → ArePlain g.scope.functions → (d : Declaration) → declaration_faults g d ≡ []
    → Between g (behind_declaration g d) (nodes_in_declaration (typed_declaration g d))
declaration_numbers g plain (s.declares_scalar at type x None) none =
    none_number (length g.sites) (length g.sites) (a_variable variables.Scalar ∷ []) refl refl
declaration_numbers g plain (s.declares_scalar at type x (Some e)) none =
    let n = length g.sites in
    let m = length (behind g e).sites in
    let d = converted type (type_of g.scope e) (typed_expr g e) in
    variable_behind n m (nodes_in d) variables.Scalar
    (converted_numbers n m type (type_of g.scope e) (typed_expr g e) (expr_numbers g plain e (value.scalar_value g at type x (Some e) none)))
declaration_numbers g plain (s.declares_auto at x e) none =
    auto_numbers (length g.sites) (length (behind g e).sites) (type_of g.scope e) (typed_expr g e)
    (expr_numbers g plain e (value.auto_value g at x e none))
declaration_numbers g plain (s.declares_reference head x e) none =
    bound_numbers (length g.sites) (length (behind g e).sites) (typed_expr g e) (expr_numbers g plain e (value.reference_value g head x e none))
declaration_numbers g plain (s.declares_container ct x made) none =
    let n = length g.sites in
    let m = length (behind_initializer g made).sites in
    let row = making_row g ct.form made in
    let es = operands_in g row made in
    let h = head (callees.Row (number_of_row row)) ct.place None None (None ∷ told_in g made) in
    first_unnumbered n m (a_call h es) (nodes_in_operands es ++ a_variable variables.Container ∷ []) refl
    (variable_behind n m (nodes_in_operands es) variables.Container (initializer_numbers g plain row made (value.container_value g ct x made none)))

-- a value that is given back
returned_numbers : (n m : ℕ) (k : Option ParameterKind) (u : ExprType) (e : t.Expr) → Numbers n m (nodes_in e)
    → Numbers n m (nodes_in (returned k u e))
returned_numbers n m (Some (parameters.Value type)) u e h = converted_numbers n m type u e h
returned_numbers n m None u e h = h
returned_numbers n m (Some k) u e h = h

value_numbers : (g : Context) → ArePlain g.scope.functions → (v : Option Expr) → value_faults g v ≡ []
    → Between g (behind_value g v) (nodes_in_value (typed_value g v))
value_numbers g plain None none = none_number (length g.sites) (length g.sites) [] refl refl
value_numbers g plain (Some e) none =
    returned_numbers (length g.sites) (length (behind g e).sites) g.scope.result (type_of g.scope e) (typed_expr g e) (expr_numbers g plain e none)

-- a closing brace
brace_numbers : (g : Context) (items : Items) (close : Place)
    → Between (after_items g items) (with_sites (brace_site items close) (after_items g items))
    (a_brace (brace_number g items) (has_container (typed_items g items)) ∷ [])
brace_numbers g items close =
    let h = after_items g items in
    let is = declares_container items in
    let m = length (h.sites ++ brace_site items close) in
    let e : m ≡ length h.sites + length (brace_site items close) = length-append h.sites (brace_site items close) in
    chosen_numbers is (length h.sites) m close (a_brace (brace_number g items) (has_container (typed_items g items))) [] refl
    (none_number (length h.sites + length (brace_site items close)) m [] e refl)

-- hidden iterators are none
hidden_none : (u : ExprType) (h : Context) → length (with_hidden u h).sites ≡ length h.sites
hidden_none (types.Container access form) h = refl
hidden_none u h = refl

-- the numbers of the sites before a place
abbrev sites_before : Context → List ℕ
sites_before g = upto (length g.sites)

-- the sites of each part of a text
counts : Counts ℕ site_in sites_before ArePlain
counts = record {
  conditions = λ g k plain none. cond_numbers g plain k none;
  effects = λ g w plain none. effect_numbers g plain w none;
  declarations = λ g d plain none. declaration_numbers g plain d none;
  returns = λ g v plain none. value_numbers g plain v none;
  begins = λ g. refl;
  enters = λ g. refl;
  leaves = λ g h. refl;
  stays = λ g. refl;
  loops = λ at g. sym (append-nil (sites_before g));
  braces = brace_numbers;
  ranges = λ g at how x over may.
      none_number (length g.sites) (length (in_range g at how x over).sites)
      (a_range at (label_in (label_of_name g.scope over.name)) ∷ a_variable (element_variable (taken_as how)) ∷ [])
      (hidden_none (type_of_name g.scope over.name) (enter (started_loop at g))) refl;
}

-- parameters are none
parameters_keep : (g : Context) (qs : List Param) → sites_before (declare_parameters qs g) ≡ sites_before g
parameters_keep g [] = refl
parameters_keep g (q ∷ qs) = parameters_keep (declare (name_of_parameter q) (type_of_kind (parameter_kind q)) g) qs

-- functions give no containers
result_is_plain : (result : ResultType) → is_plain_result (result_kind result) ≡ true
result_is_plain r.Void = refl
result_is_plain (r.Scalar q) = refl
result_is_plain (r.Iterator i) = refl

one_more_plain : (g : Context) (f : Function) → ArePlain g.scope.functions → ArePlain (g.scope.functions ++ head_of g f ∷ [])
one_more_plain g f plain = all_append IsPlain g.scope.functions (head_of g f ∷ []) plain (result_is_plain f.result, tt)

in_function_plain : (g : Context) (f : Function) → ArePlain g.scope.functions → ArePlain (in_function g f).scope.functions
in_function_plain g f plain = subst ArePlain (sym (parameters_grow (before_parameters g f) f.params).functions) (one_more_plain g f plain)

after_function_plain : (g : Context) (f : Function) → ArePlain g.scope.functions → ArePlain (after_function g f).scope.functions
after_function_plain g f plain = subst ArePlain (sym (function_grows g f).functions) (one_more_plain g f plain)

-- the sites of a function, where the text has so many
sites_are_numbered : (limit : ℕ) (g : Context) (f : Function) → ArePlain g.scope.functions → function_faults g f ≡ []
    → length (after_function g f).sites ≤ limit → are_numbers_of limit (filter_map site_in (nodes_in_stmt (typed_function g f).body)) ≡ true
sites_are_numbered limit g f plain none few =
    let xs = filter_map site_in (nodes_in_stmt (typed_function g f).body) in
    let same = parameters_keep (before_parameters g f) f.params in
    added_are_numbers (length g.sites) (length (after_function g f).sites) limit xs
    (function_adds ℕ site_in sites_before ArePlain counts g f (in_function_plain g f plain) none ∙ ap (λ (l : List ℕ). l ++ xs) same) few

-- functions
functions_are_numbered : (u : t.Typed) (g : Context) (fs : List Function) → ArePlain g.scope.functions → functions_faults g fs ≡ []
    → length (after_functions g fs).sites ≤ length u.sites → length (after_functions g fs).loops ≤ length u.loops
    → list_all (is_numbered u) (typed_functions g fs) ≡ true
functions_are_numbered u g [] plain none sites loops = refl
functions_are_numbered u g (f ∷ fs) plain none sites loops =
    let h = after_function g f in
    let mine = first_function g f fs none in
    let last = functions_last h fs in
    let nodes = nodes_in_stmt (typed_function g f).body in
    and_from (is_numbered u (typed_function g f)) (list_all (is_numbered u) (typed_functions h fs))
    (and_from (are_numbers_of (length u.sites) (filter_map site_in nodes)) (are_numbers_of (length u.loops) (filter_map loop_in nodes))
    (sites_are_numbered (length u.sites) g f plain mine (le_trans last.sites sites))
    (loops_are_numbered (length u.loops) g f mine (le_trans last.loops loops)))
    (functions_are_numbered u h fs (after_function_plain g f plain) (other_functions g f fs none) sites loops)

-- what is typed has its sites and loops numbered
pub numbers_stand : (p : Program) (u : t.Typed) → typing.Typed p u → has_numbers u ≡ true
unfolding has_numbers typed_program
numbers_stand p u h =
    subst (λ (v : t.Typed). has_numbers v ≡ true) (sym h.is_it)
    (functions_are_numbered (typed_program p) start p tt (functions_break_none p h.breaks_none) (omega arith) (omega arith))

-- A function lists the variables that its nodes declare, with names that are there.
use Rattle.std.proofs.Common.{◌≡◌, ℕ, ◌≤◌, Bool, true, false, List, [], ◌∷◌, ◌++◌, append_assoc, length, map, Some, None, refl, sym, subst, ◌∙◌, ap}
use Rattle.std.proofs.Common.{arith}
use Rattle.std.specs.Prelude.{not, nat_lt, ◌||◌, ◌&&◌, if◌then◌else◌}
use Rattle.std.specs.List.{All, list_all, filter_map}
use Rattle.std.proofs.lemmas.Bool.{and_from, lt-ltb}
use Rattle.std.proofs.lemmas.List.{append-nil, map-append}
use Rattle.std.proofs.lemmas.List.Elements.{All-head, All-tail, filter_map-append}
use denote.Enum.Bare.{sameb}
use Rattle.sl_base.specs.declared.place.Place.{Place}
use Rattle.sl_syntax.specs.contracts.typed.variable.VariableKind.{the_type}
use Rattle.sl_syntax.specs.declared.tree.element.Element.{Element}
use Rattle.sl_syntax.specs.declared.tree.element.Element.TheVariants as element
use Rattle.sl_syntax.specs.declared.tree.element.ReferenceHead.{ReferenceHead}
use Rattle.sl_syntax.specs.declared.operator.Access.TheVariants as access
use Rattle.sl_base.specs.declared.scalar.Scalar.TheVariants as scalar
use Rattle.sl_syntax.specs.declared.tree.function.Param.{Param}
use Rattle.sl_syntax.specs.declared.tree.identifier.Identifier.{Identifier}
use Rattle.sl_syntax.specs.declared.typed.parameter.ParameterKind.{ParameterKind}
use Rattle.sl_syntax.specs.declared.typed.parameter.ParameterKind.TheVariants as parameters
use Rattle.sl_syntax.specs.declared.typed.variable.Variable.{Variable}
use Rattle.sl_syntax.specs.declared.typed.variable.VariableKind.{VariableKind}
use Rattle.sl_syntax.specs.declared.typed.variable.VariableKind.TheVariants as variables
use Rattle.sl_syntax.specs.Tree as s
use Rattle.sl_syntax.specs.Tree.{Expr, Initializer, Declaration, Out, Effect, Cond, Function, Items, Program}
use Rattle.sl_syntax.specs.Typed as t
use Rattle.sl_typing.specs.declared.expr_type.ExprType.{ExprType}
use Rattle.sl_typing.specs.declared.expr_type.ExprType.TheVariants as types
use Rattle.sl_typing.specs.declared.rules.TheConstants as rule
use Rattle.sl_typing.specs.declared.standing.Standing.TheVariants as standing
use Rattle.sl_typing.specs.Types.{is_number, is_iterator, is_written, value_type}
use Rattle.sl_typing.specs.TypeOf.{type_of}
use Rattle.sl_typing.specs.Scopes.{parameter_kind, name_of_parameter, type_of_kind, type_of_name, label_of_name}
use Rattle.sl_typing.specs.Contexts.{Context, variable_kind, declare, declare_parameters, with_hidden, enter, started_loop}
use Rattle.sl_typing.specs.Faults.{broken}
use Rattle.sl_syntax.specs.Written.{is_map}
use Rattle.sl_typing.specs.Ranges.{is_auto, head_writes, may_be_bound, may_go_over, element_type}
use Rattle.sl_typing.specs.Sites.{behind}
use Rattle.sl_typing.specs.Flow.{behind_initializer, behind_declaration}
use Rattle.sl_typing.specs.Flow.{before_parameters, at_brace, after_function, after_functions, after_items}
use Rattle.sl_typing.specs.StatementFaults.{declaration_faults}
use Rattle.sl_typing.specs.ProgramFaults.{functions_faults, function_faults, start}
use Rattle.sl_typing.specs.Numbering.{converted, label_in}
use Rattle.sl_typing.specs.StatementNumbering.{typed_expr, typed_declaration, declared_auto, bound}
use Rattle.sl_typing.specs.StatementNumbering.{taken_as, making_row, operands_in}
use Rattle.sl_typing.specs.Typing as typing
use Rattle.sl_typing.specs.Typing.{typed_function, typed_functions, typed_program}
use Rattle.sl_model.specs.Typing.WellTypedNodes.{Node, a_range, a_variable, element_variable, nodes_in, nodes_in_operands}
use Rattle.sl_model.specs.Typing.WellTypedNodes.{nodes_in_declaration, nodes_in_stmt}
use Rattle.sl_model.specs.Typing.WellTypedNumbers.{kind_of, kind_in, are_variables, lists_variables}
use Rattle.sl_model.specs.Typing.WellTyped.{has_variables}
use Rattle.sl_number_limits.specs.Fits.{IsLabelled, Fits}
use Rattle.sl_number_limits.proofs.Lists.{parts, not_broken}
use Rattle.sl_number_limits.proofs.PartFaults.{first_function, other_functions}
use Rattle.sl_number_limits.proofs.ContextLaws.{labels_stay}
use Rattle.sl_number_limits.proofs.Lasting.{brace_lasts}
use Rattle.sl_number_limits.proofs.Functions.{at_function_brace, after_function_fits, start_fits}
use Rattle.sl_number_limits.proofs.Programs.{functions_break_none}
use Rattle.sl_number_limits.proofs.ValueFaults.{reference_value}
use Rattle.sl_well_typed.proofs.Bound.{is_called_element}
use Rattle.std.proofs.Math.Nat.{le_trans}
use Rattle.sl_typed_numbers.proofs.Silent.{Skips, silent, silent_operands}
use Rattle.sl_typed_numbers.proofs.Kept.{Keeps, initializer_keeps, effect_adds_none, cond_adds_none, value_adds_none}
use Rattle.sl_typed_numbers.proofs.Counting.{Adds, Counts, NoneKnown, adds_from, not_not, function_adds}
use Rattle.sl_typed_numbers.proofs.Referred.{referred_is_called}

-- the sorts of variables
abbrev kinds : List Variable → List VariableKind
kinds vs = map (λ (v : Variable). v.kind) vs

-- those that the function declares before a place
abbrev kinds_before : Context → List VariableKind
kinds_before g = kinds g.variables

-- no expression declares one
skips : Skips VariableKind kind_in
skips = record {
  literals = λ z. refl;
  calls = λ h es. refl;
  own_calls = λ k es. refl;
  operators = λ d e. refl;
  steps = λ x. refl;
  uses = λ at name. refl;
}

no_kind : (e : t.Expr) → filter_map kind_in (nodes_in e) ≡ []
no_kind e = silent VariableKind kind_in skips e

-- the kinds of nodes, of which the last alone declares a variable
last_kind : (xs : List Node) (kind : VariableKind) → filter_map kind_in xs ≡ [] → filter_map kind_in (xs ++ a_variable kind ∷ []) ≡ kind ∷ []
last_kind xs kind h = filter_map-append kind_in xs (a_variable kind ∷ []) ∙ ap (λ (ks : List VariableKind). ks ++ kind ∷ []) h

-- a variable comes
one_more : (x : Identifier) (type : ExprType) (g : Context) → kinds (declare x type g).variables ≡ kinds g.variables ++ variable_kind type ∷ []
one_more x type g = map-append (λ (v : Variable). v.kind) g.variables _

declares_kind : (x : Identifier) (type : ExprType) (g : Context) (nodes : List Node) (kind : VariableKind) → filter_map kind_in nodes ≡ kind ∷ []
    → variable_kind type ≡ kind → Adds VariableKind kind_in (kinds_before g) (kinds_before (declare x type g)) nodes
declares_kind x type g nodes kind h same =
    one_more x type g ∙ ap (λ (k : VariableKind). kinds g.variables ++ k ∷ []) same
    ∙ ap (λ (ks : List VariableKind). kinds g.variables ++ ks) (sym h)

-- no site declares one
keeps : Keeps VariableKind kinds_before
keeps places g = refl

-- declarations
auto_adds : (x : Identifier) (g : Context) (u : ExprType) (e : t.Expr) → not (is_number u || is_iterator u) ≡ false
    → Adds VariableKind kind_in (kinds_before g) (kinds_before (declare x (value_type u) g)) (nodes_in_declaration (declared_auto u e))
auto_adds x g (types.Iterator b form) e h =
    declares_kind x (types.Iterator b form) g (nodes_in e ++ a_variable variables.Iterator ∷ []) variables.Iterator
    (last_kind (nodes_in e) variables.Iterator (no_kind e)) refl
auto_adds x g (types.Scalar type) e h =
    declares_kind x (types.Scalar type) g (nodes_in e ++ a_variable variables.Scalar ∷ []) variables.Scalar
    (last_kind (nodes_in e) variables.Scalar (no_kind e)) refl
auto_adds x g (types.Element w) e h =
    declares_kind x (value_type (types.Element w)) g (nodes_in e ++ a_variable variables.Scalar ∷ []) variables.Scalar
    (last_kind (nodes_in e) variables.Scalar (no_kind e)) refl
auto_adds x g u e h = absurd cc

reference_adds : (x : Identifier) (g : Context) (w : Bool) (e : t.Expr) → is_called_element e ≡ true
    → Adds VariableKind kind_in (kinds_before g) (kinds_before (declare x (types.IntReference w) g)) (nodes_in_declaration (bound e))
reference_adds x g w (t.held (t.element h es)) is =
    declares_kind x (types.IntReference w) g (nodes_in_operands es ++ a_variable variables.Reference ∷ []) variables.Reference
    (last_kind (nodes_in_operands es) variables.Reference (silent_operands VariableKind kind_in skips es)) refl
reference_adds x g w e is = absurd cc

may_bind : (g : Context) (head : ReferenceHead) (x : Identifier) (e : Expr) → declaration_faults g (s.declares_reference head x e) ≡ []
    → may_be_bound g.scope e ≡ true
may_bind g head x e none =
    let wrong : broken (not (may_be_bound g.scope e)) head.place rule.WRONG_TYPE ≡ [] = search parts in
    not_not (may_be_bound g.scope e) (not_broken (not (may_be_bound g.scope e)) head.place rule.WRONG_TYPE wrong)

auto_is : (g : Context) (at : Place) (x : Identifier) (e : Expr) → declaration_faults g (s.declares_auto at x e) ≡ []
    → not (is_number (type_of g.scope e) || is_iterator (type_of g.scope e)) ≡ false
auto_is g at x e none =
    let test = not (is_number (type_of g.scope e) || is_iterator (type_of g.scope e)) in
    let wrong : broken (not (is_number (type_of g.scope e) || is_iterator (type_of g.scope e))) x.place rule.AUTO ≡ [] = search parts in
    not_broken test x.place rule.AUTO wrong

declaration_adds : (g : Context) (d : Declaration) → declaration_faults g d ≡ []
    → Adds VariableKind kind_in (kinds_before g) (kinds_before (behind_declaration g d)) (nodes_in_declaration (typed_declaration g d))
declaration_adds g (s.declares_scalar at type x None) none =
    declares_kind x (types.Scalar type) g (a_variable variables.Scalar ∷ []) variables.Scalar refl refl
declaration_adds g (s.declares_scalar at type x (Some e)) none =
    let d = converted type (type_of g.scope e) (typed_expr g e) in
    declares_kind x (types.Scalar type) (behind g e) (nodes_in d ++ a_variable variables.Scalar ∷ []) variables.Scalar
    (last_kind (nodes_in d) variables.Scalar (no_kind d)) refl
declaration_adds g (s.declares_auto at x e) none = auto_adds x (behind g e) (type_of g.scope e) (typed_expr g e) (auto_is g at x e none)
declaration_adds g (s.declares_reference head x e) none =
    reference_adds x (behind g e) (head_writes head (is_written (type_of g.scope e))) (typed_expr g e)
    (referred_is_called g.scope (length g.sites) standing.Plain e (reference_value g head x e none) (may_bind g head x e none))
declaration_adds g (s.declares_container ct x made) none =
    let h = behind_initializer g made in
    let row = making_row g ct.form made in
    let nodes = nodes_in_operands (operands_in g row made) ++ a_variable variables.Container ∷ [] in
    adds_from VariableKind kind_in (kinds_before g) (kinds_before h) _ nodes (initializer_keeps VariableKind kinds_before keeps g made)
    (declares_kind x (types.Container access.Whole ct.form) h nodes variables.Container
    (last_kind (nodes_in_operands (operands_in g row made)) variables.Container
    (silent_operands VariableKind kind_in skips (operands_in g row made))) refl)

-- the variable of a range-for
reference_kind : (b v w : Bool) → variable_kind (if b then types.EntryReference v else types.IntReference w) ≡ variables.Reference
reference_kind true v w = refl
reference_kind false v w = refl

range_adds : (h : Context) (how : Element) (x : Identifier) (u : ExprType) (at : Place) (label : ℕ) → may_go_over how u ≡ true
    → Adds VariableKind kind_in (kinds_before h) (kinds_before (declare x (element_type how u) (with_hidden u h)))
    (a_range at label ∷ a_variable (element_variable (taken_as how)) ∷ [])
range_adds h (element.Value y) x (types.Container access form) at label may =
    declares_kind x (types.Scalar scalar.Int) (with_hidden (types.Container access form) h)
    (a_range at label ∷ a_variable variables.Scalar ∷ []) variables.Scalar refl refl
range_adds h (element.Reference head) x (types.Container access form) at label may =
    declares_kind x (element_type (element.Reference head) (types.Container access form)) (with_hidden (types.Container access form) h)
    (a_range at label ∷ a_variable variables.Reference ∷ []) variables.Reference refl (reference_kind (is_map form && is_auto head.element) _ _)
range_adds h how x u at label may = absurd cc

-- what each part of a text declares
counts : Counts VariableKind kind_in kinds_before NoneKnown
counts = record {
  conditions = λ g k w none. cond_adds_none VariableKind kind_in kinds_before skips keeps g k;
  effects = λ g e w none. effect_adds_none VariableKind kind_in kinds_before skips keeps g e;
  declarations = λ g d w none. declaration_adds g d none;
  returns = λ g v w none. value_adds_none VariableKind kind_in kinds_before skips keeps g v;
  begins = λ g. refl;
  enters = λ g. refl;
  leaves = λ g h. refl;
  stays = λ g. refl;
  loops = λ at g. sym (append-nil (kinds_before g));
  braces = λ g items close. sym (append-nil (kinds_before (after_items g items)));
  ranges = λ g at how x over may.
      range_adds (enter (started_loop at g)) how x (type_of_name g.scope over.name) at (label_in (label_of_name g.scope over.name)) may;
}

-- parameters
parameter_same : (k : ParameterKind) → variable_kind (type_of_kind k) ≡ kind_of k
parameter_same (parameters.Value type) = refl
parameter_same (parameters.Reference type) = refl
parameter_same (parameters.Container access form) = refl
parameter_same (parameters.Iterator b form) = refl

parameters_declare : (g : Context) (qs : List Param) → kinds_before (declare_parameters qs g) ≡ kinds_before g ++ map kind_of (map parameter_kind qs)
parameters_declare g [] = sym (append-nil (kinds_before g))
parameters_declare g (q ∷ qs) =
    let x = name_of_parameter q in
    let type = type_of_kind (parameter_kind q) in
    let ks = map kind_of (map parameter_kind qs) in
    parameters_declare (declare x type g) qs ∙ ap (λ (l : List VariableKind). l ++ ks) (one_more x type g)
    ∙ append_assoc (kinds_before g) (variable_kind type ∷ []) ks
    ∙ ap (λ (k : VariableKind). kinds_before g ++ (k ∷ ks)) (parameter_same (parameter_kind q))

-- the sorts of a function's variables
function_kinds : (g : Context) (f : Function) → function_faults g f ≡ []
    → kinds_before (at_brace g f) ≡ map kind_of (map parameter_kind f.params) ++ filter_map kind_in (nodes_in_stmt (typed_function g f).body)
function_kinds g f none =
    function_adds VariableKind kind_in kinds_before NoneKnown counts g f tt none
    ∙ ap (λ (l : List VariableKind). l ++ filter_map kind_in (nodes_in_stmt (typed_function g f).body))
    (parameters_declare (before_parameters g f) f.params)

-- variables are of their own sorts
same_kind : (k : VariableKind) → sameb the_type k k ≡ true
same_kind variables.Scalar = refl
same_kind variables.Container = refl
same_kind variables.Iterator = refl
same_kind variables.Reference = refl

are_themselves : (n : ℕ) (vs : List Variable) → All (IsLabelled n) vs → are_variables n (kinds vs) vs ≡ true
are_themselves n [] all = refl
are_themselves n (v ∷ vs) all =
    and_from (sameb the_type v.kind v.kind && nat_lt v.name n) (are_variables n (kinds vs) vs)
    (and_from (sameb the_type v.kind v.kind) (nat_lt v.name n) (same_kind v.kind) (lt-ltb v.name n (All-head (IsLabelled n) v vs all)))
    (are_themselves n vs (All-tail (IsLabelled n) v vs all))

function_lists : (names : ℕ) (g : Context) (f : Function) → length (at_brace g f).names ≤ names → Fits g → function_faults g f ≡ []
    → lists_variables names (typed_function g f) ≡ true
function_lists names g f more fits none =
    let h = at_brace g f in
    let fit = at_function_brace g f fits none in
    subst (λ (l : List VariableKind). are_variables names l h.variables ≡ true) (function_kinds g f none)
    (are_themselves names h.variables (labels_stay (length h.names) names more h.variables fit.labels))

functions_list : (names : ℕ) (g : Context) (fs : List Function) → length (after_functions g fs).names ≤ names → Fits g → functions_faults g fs ≡ []
    → list_all (lists_variables names) (typed_functions g fs) ≡ true
functions_list names g [] more fits none = refl
functions_list names g (f ∷ fs) more fits none =
    let mine = first_function g f fs none in
    and_from (lists_variables names (typed_function g f)) (list_all (lists_variables names) (typed_functions (after_function g f) fs))
    (function_lists names g f (le_trans (brace_lasts g f fs).names more) fits mine)
    (functions_list names (after_function g f) fs more (after_function_fits g f fits mine) (other_functions g f fs none))

-- what is typed lists its variables
pub variables_stand : (p : Program) (u : t.Typed) → typing.Typed p u → has_variables u ≡ true
unfolding has_variables typed_program
variables_stand p u h =
    let names = length (after_functions start p).names in
    subst (λ (v : t.Typed). has_variables v ≡ true) (sym h.is_it)
    (functions_list names start p (omega arith) start_fits (functions_break_none p h.breaks_none))

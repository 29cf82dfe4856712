-- A call that breaks no rule binds no variable to two references.
use Rattle.std.proofs.Common.{◌≡◌, ℕ, ◌+◌, ◌==◌, Bool, true, false, ◌&&◌, List, [], ◌∷◌, ◌++◌, length, map, Option, Some, None, refl, sym, subst, ap}
use Rattle.std.proofs.Common.{arith, ◌∙◌}
use Rattle.std.specs.Prelude.{flat_map, is_none, is_some, if◌then◌else◌, codes}
use Rattle.std.specs.Str.{bytes_eq}
use Rattle.std.proofs.lemmas.Bool.{and_parts, or_parts, not-false, false_from_ne_true, eqb-true}
use Rattle.std.proofs.lemmas.Slice.Eq.{bytes_eq-Decides}
use Rattle.sl_base.specs.declared.place.Place.{Place}
use Rattle.sl_base.specs.declared.form.Form.{Form}
use Rattle.sl_base.specs.declared.scalar.Scalar.{Scalar}
use Rattle.sl_specs.specs.declared.return_type.ReturnType.{ReturnType}
use Rattle.sl_specs.specs.declared.return_type.ReturnType.TheVariants as r
use Rattle.sl_syntax.specs.declared.operator.Arithmetic.{Arithmetic}
use Rattle.sl_syntax.specs.declared.operator.BinaryOperator.{BinaryOperator}
use Rattle.sl_syntax.specs.declared.operator.BinaryOperator.TheVariants as b
use Rattle.sl_syntax.specs.declared.operator.PostfixOperator.{PostfixOperator}
use Rattle.sl_syntax.specs.declared.operator.PostfixOperator.TheVariants as q
use Rattle.sl_syntax.specs.declared.operator.PrefixOperator.{PrefixOperator}
use Rattle.sl_syntax.specs.declared.operator.PrefixOperator.TheVariants as p
use Rattle.sl_syntax.specs.declared.operator.Selector.{Selector}
use Rattle.sl_syntax.specs.declared.operator.Selector.TheVariants as l
use Rattle.sl_syntax.specs.declared.tree.identifier.Identifier.{Identifier}
use Rattle.sl_syntax.specs.declared.typed.head.Head.{Head}
use Rattle.sl_syntax.specs.declared.typed.parameter.ParameterKind.{ParameterKind}
use Rattle.sl_syntax.specs.declared.typed.parameter.ParameterKind.TheVariants as parameters
use Rattle.sl_syntax.specs.declared.typed.step.Fix.{Fix}
use Rattle.sl_syntax.specs.declared.typed.step.Step.{Step}
use Rattle.sl_syntax.specs.Tree as s
use Rattle.sl_syntax.specs.Tree.{Expr, Exprs}
use Rattle.sl_syntax.specs.Typed as t
use Rattle.sl_syntax.specs.Typed.{Operands}
use Rattle.sl_typing.specs.declared.expr_type.ExprType.{ExprType}
use Rattle.sl_typing.specs.declared.expr_type.ExprType.TheVariants as types
use Rattle.sl_typing.specs.declared.scope.FunctionHead.{FunctionHead}
use Rattle.sl_typing.specs.declared.scope.Scope.{Scope}
use Rattle.sl_typing.specs.declared.standing.Standing.{Standing}
use Rattle.sl_typing.specs.declared.standing.Standing.TheVariants as standing
use Rattle.sl_typing.specs.Types.{same_scalar, scalar_of, is_number, is_iterator, is_container, is_container_of, goes_into}
use Rattle.sl_typing.specs.Candidates.{Found, algorithm_row}
use Rattle.sl_typing.specs.Scopes.{sort_of, variable_named, function_named, is_among, type_of_name, number_of_name}
use Rattle.sl_typing.specs.TypeOf.{size, appends, is_first, is_back_inserter, type_of_use, type_of, types_of}
use Rattle.sl_typing.specs.Looks.{is_plain, plain_name}
use Rattle.sl_typing.specs.Sites.{site_count}
use Rattle.sl_typing.specs.WrongType.{is_exactly, fits_parameter, fit_parameters, fits_call, wrong_type}
use Rattle.sl_typing.specs.Rules.{is_unknown_variable, takes_others, no_such_call, is_reference, bound_names, some_twice, call_aliases}
use Rattle.sl_typing.specs.Rules.{is_alias, is_lone_appender}
use Rattle.sl_typing.specs.Faults.{standing_before, faults, faults_of_all}
use Rattle.sl_typing.specs.Order.{parameters_of}
use Rattle.sl_typing.specs.Numbering.{number_in, handed, parameter_way, stepped, prefixed}
use Rattle.sl_typing.specs.Numbering.{postfixed, calculated, joined, part_of, selected, row_call, called_row, called_algorithm, row_of_subscript}
use Rattle.sl_typing.specs.Numbering.{row_of_member, number_of_function, variable, typed, operands}
use Rattle.sl_model.specs.Typing.WellTypedNodes.{an_own_call}
use Rattle.sl_model.specs.Typing.WellTypedOrder.{Variable, the_scalar, same_variable, is_among as is_variable_among, are_apart, bound_in, listed, binds_apart}
use Rattle.sl_model.proofs.Tells.{AllOf, all_append}
use Rattle.sl_well_typed.proofs.Parts.{name_kept, call_kept, library_call_kept, parentheses_kept, arguments_kept}
use Rattle.sl_well_typed.proofs.OwnCalls.{is_function}
use Rattle.sl_typed_order.proofs.Numbered.{AllNumbered, variable_of_sort, variable_meant, one_name}

-- one of two that bind nothing
either_binds_none : (test : Bool) (d e : t.Expr) → bound_in d ≡ [] → bound_in e ≡ [] → bound_in (if test then d else e) ≡ []
either_binds_none true d e h k = h
either_binds_none false d e h k = k

-- a name
variable_binds_none : (u : ExprType) (n : ℕ) (at : Place) (label : ℕ) → is_container (type_of_use u) ≡ false → bound_in (variable u n at label) ≡ []
variable_binds_none (types.Container access form) n at label h = absurd cc
variable_binds_none u n at label h = refl

-- `++` and `--`
stepped_binds_none : (step : Step) (fix : Fix) (at : Place) (u : ExprType) (names : List (Option ℕ)) (d : t.Expr)
    → bound_in (stepped step fix at u names d) ≡ []
stepped_binds_none step fix at (types.Iterator c form) names d = refl
stepped_binds_none step fix at u names d = refl

prefixed_binds_none : (op : PrefixOperator) (at : Place) (u : ExprType) (names : List (Option ℕ)) (d : t.Expr)
    → bound_in (prefixed op at u names d) ≡ []
prefixed_binds_none p.Not at u names d = refl
prefixed_binds_none p.Negate at u names d = refl
prefixed_binds_none p.Dereference at u names d = refl
prefixed_binds_none p.Increment at u names d = stepped_binds_none _ _ at u names d
prefixed_binds_none p.Decrement at u names d = stepped_binds_none _ _ at u names d

postfixed_binds_none : (op : PostfixOperator) (at : Place) (u : ExprType) (names : List (Option ℕ)) (d : t.Expr)
    → bound_in (postfixed op at u names d) ≡ []
postfixed_binds_none q.Increment at u names d = stepped_binds_none _ _ at u names d
postfixed_binds_none q.Decrement at u names d = stepped_binds_none _ _ at u names d

-- an operator between two operands
calculated_binds_none : (op : Arithmetic) (at : Place) (u v : ExprType) (names : List (Option ℕ)) (d e : t.Expr)
    → bound_in (calculated op at u v names d e) ≡ []
calculated_binds_none op at (types.Iterator c x) (types.Iterator k y) names d e = refl
calculated_binds_none op at (types.Iterator c x) v names d e = refl
calculated_binds_none op at u v names d e = refl

joined_binds_none : (op : BinaryOperator) (at : Place) (u v : ExprType) (names : List (Option ℕ)) (d e : t.Expr)
    → bound_in (joined op at u v names d e) ≡ []
joined_binds_none b.Or at u v names d e = refl
joined_binds_none b.And at u v names d e = refl
joined_binds_none (b.Comparison op) at u v names d e = either_binds_none (is_iterator u) _ _ refl refl
joined_binds_none (b.Arithmetic op) at u v names d e = calculated_binds_none op at u v names d e

-- a piece
part_binds_none : (at : Place) (first : Bool) (d : t.Expr) → bound_in (part_of at first d) ≡ []
part_binds_none at first (t.held (t.reference x named name old)) = refl
part_binds_none at true d = refl
part_binds_none at false d = refl

selected_binds_none : (selector : Selector) (at : Place) (first : Bool) (names : List (Option ℕ)) (d : t.Expr)
    → bound_in (selected selector at first names d) ≡ []
selected_binds_none l.Dot at first names d = part_binds_none at first d
selected_binds_none l.Arrow at first names d = refl

-- calls of the library
row_binds_none : (gives : ReturnType) (h : Head) (es : Operands) → bound_in (row_call gives h es) ≡ []
row_binds_none r.Element h es = refl
row_binds_none gives h es = refl

called_binds_none : (o : Option Found) (at : Place) (site : Option ℕ) (object : ℕ) (names : List (Option ℕ)) (es : Operands)
    → bound_in (called_row o at site object names es) ≡ []
called_binds_none None at site object names es = refl
called_binds_none (Some x) at site object names es = row_binds_none x.row.gives _ es

algorithm_binds_none : (o : Option Found) (append : Bool) (name : List ℕ) (at : Place) (site : Option ℕ) (names : List (Option ℕ)) (es : Operands)
    → bytes_eq name (codes "back_inserter") ≡ false → bound_in (called_algorithm o append name at site names es) ≡ []
algorithm_binds_none None append name at site names es h = refl
algorithm_binds_none (Some x) append name at site names es h =
    rw h (either_binds_none (bytes_eq name (codes "advance")) _ _ refl (either_binds_none append _ _ refl refl))

-- what stands beside what isn't so
not_output : (test : Bool) → (test && true) ≡ false → test ≡ false
not_output true h = h
not_output false h = h

-- what stands plainly isn't a call of `back_inserter`
no_appender : (e : Expr) → is_lone_appender standing.Plain e ≡ false → is_back_inserter e ≡ false
unfolding is_lone_appender
no_appender e h = not_output (is_back_inserter e) h

-- what is no container binds none
value_binds_none : (g : Scope) (n : ℕ) (e : Expr) → faults g n standing.Plain e ≡ [] → is_container (type_of g e) ≡ false → bound_in (typed g n e) ≡ []
unfolding typed operands type_of types_of
value_binds_none g n (s.number at m) none h = refl
value_binds_none g n (s.truth at x) none h = refl
value_binds_none g n (s.name x) none h = variable_binds_none (type_of_name g x.name) (number_of_name g x.name) x.place _ h
value_binds_none g n (s.call f xs) none h = refl
value_binds_none g n (s.library_call f xs) none h =
    algorithm_binds_none (algorithm_row (appends f.name xs) f.name (types_of g xs)) (appends f.name xs) f.name _ _ _ _
    (no_appender (s.library_call f xs) (library_call_kept g n standing.Plain f xs none).1.appenders)
value_binds_none g n (s.parentheses at x) none h = value_binds_none g n x (parentheses_kept g n standing.Plain at x none) h
value_binds_none g n (s.prefix op at x) none h = prefixed_binds_none op at (type_of g x) _ (typed g n x)
value_binds_none g n (s.binary x op at y) none h =
    joined_binds_none op at (type_of g x) (type_of g y) _ (typed g n x) (typed g (n + site_count g x) y)
value_binds_none g n (s.postfix x op at) none h = postfixed_binds_none op at (type_of g x) _ (typed g n x)
value_binds_none g n (s.index x at y) none h = called_binds_none (row_of_subscript (type_of g x)) _ _ _ _ _
value_binds_none g n (s.member_call x f xs) none h = called_binds_none (row_of_member (type_of g x) f.name (types_of g xs)) _ _ _ _ _
value_binds_none g n (s.member x selector at f) none h = selected_binds_none selector at (is_first f.name) _ (typed g n x)

-- numbers and iterators are no containers
number_is_none : (u : ExprType) → is_number u ≡ true → is_container u ≡ false
number_is_none (types.Container access form) h = absurd cc
number_is_none u h = refl

iterator_is_none : (c : Bool) (form : Form) (u : ExprType) → goes_into c form u ≡ true → is_container u ≡ false
iterator_is_none c form (types.Iterator k x) h = refl
iterator_is_none c form u h = absurd cc

-- a scalar, and a container, by its name
pub scalar_bound : (k : Scalar) (u : ExprType) (n : ℕ) (at : Place) (label : ℕ) → is_exactly k (type_of_use u) ≡ true
    → the_scalar (number_in (variable u n at label)) ∷ [] ≡ variable_of_sort (sort_of u) n ∷ []
scalar_bound k (types.Scalar j) n at label h = refl
scalar_bound k u n at label h = absurd cc

pub container_bound : (form : Form) (u : ExprType) (n : ℕ) (at : Place) (label : ℕ) → is_container_of form (type_of_use u) ≡ true
    → bound_in (variable u n at label) ≡ variable_of_sort (sort_of u) n ∷ []
container_bound form (types.Container access x) n at label h = refl
container_bound form u n at label h = absurd cc

-- the variable that a name that is bound means
named_scalar : (g : Scope) (n : ℕ) (k : Scalar) (e : Expr) → (is_plain e && is_exactly k (type_of g e)) ≡ true
    → the_scalar (number_in (typed g n e)) ∷ [] ≡ map (variable_meant g) (plain_name e)
unfolding typed operands type_of types_of
named_scalar g n k (s.name x) h = scalar_bound k (type_of_name g x.name) (number_of_name g x.name) x.place _ h
named_scalar g n k e h = absurd cc

named_container : (g : Scope) (n : ℕ) (form : Form) (e : Expr) → (is_plain e && is_container_of form (type_of g e)) ≡ true
    → bound_in (typed g n e) ≡ map (variable_meant g) (plain_name e)
unfolding typed operands type_of types_of
named_container g n form (s.name x) h = container_bound form (type_of_name g x.name) (number_of_name g x.name) x.place _ h
named_container g n form e h = absurd cc

-- what a parameter's argument is bound to
argument_bound : (g : Scope) (n : ℕ) (k : ParameterKind) (e : Expr) → faults g n standing.Plain e ≡ [] → fits_parameter g k e ≡ true
    → bound_in (handed (parameter_way k) (type_of g e) (typed g n e)) ≡ map (variable_meant g) (if is_reference k then plain_name e else [])
argument_bound g n (parameters.Value c) e none fits =
    either_binds_none (same_scalar c (scalar_of (type_of g e))) (typed g n e) (t.convert c (typed g n e))
    (value_binds_none g n e none (number_is_none (type_of g e) fits)) refl
argument_bound g n (parameters.Reference c) e none fits = named_scalar g n c e fits
argument_bound g n (parameters.Container access form) e none fits = named_container g n form e fits
argument_bound g n (parameters.Iterator c form) e none fits = value_binds_none g n e none (iterator_is_none c form (type_of g e) fits)

-- arguments that stand plainly
pub plainly : (xs : Exprs) → standing_before xs standing.Plain ≡ standing.Plain
plainly s.none = refl
plainly (s.with x xs) = refl

pub first_plain : (g : Scope) (n : ℕ) (x : Expr) (xs : Exprs) → faults_of_all g n standing.Plain (s.with x xs) ≡ [] → faults g n standing.Plain x ≡ []
first_plain g n x xs none =
    subst (λ (how : Standing). faults g n how x ≡ []) (plainly xs) (arguments_kept g n standing.Plain x xs none).0

pub map_both : (g : Scope) (xs ys : List (List ℕ)) → map (variable_meant g) (xs ++ ys) ≡ map (variable_meant g) xs ++ map (variable_meant g) ys
map_both g [] ys = refl
map_both g (x ∷ xs) ys = ap (λ (vs : List Variable). variable_meant g x ∷ vs) (map_both g xs ys)

pub both_bound : (a b c d : List Variable) → a ≡ b → c ≡ d → a ++ c ≡ b ++ d
both_bound a b c d h k = rw (h, k) refl

-- what all arguments are bound to
arguments_bound : (g : Scope) (n : ℕ) (ks : List ParameterKind) (xs : Exprs) → faults_of_all g n standing.Plain xs ≡ [] → fit_parameters g ks xs ≡ true
    → length ks ≡ size xs → flat_map bound_in (listed (operands g n (map parameter_way ks) xs)) ≡ map (variable_meant g) (bound_names ks xs)
unfolding typed operands
arguments_bound g n [] s.none none fits same = refl
arguments_bound g n (k ∷ ks) s.none none fits same = refl
arguments_bound g n [] (s.with x xs) none fits same = absurd (omega arith)
arguments_bound g n (k ∷ ks) (s.with x xs) none fits same =
    let parts = and_parts (fits_parameter g k x) (fit_parameters g ks xs) fits in
    let rest : length ks ≡ size xs = omega arith in
    both_bound (bound_in (handed (parameter_way k) (type_of g x) (typed g n x))) (map (variable_meant g) (if is_reference k then plain_name x else []))
    (flat_map bound_in (listed (operands g (n + site_count g x) (map parameter_way ks) xs))) (map (variable_meant g) (bound_names ks xs))
    (argument_bound g n k x (first_plain g n x xs none) parts.0)
    (arguments_bound g (n + site_count g x) ks xs (arguments_kept g n standing.Plain x xs none).1 parts.1 rest)
    ∙ sym (map_both g (if is_reference k then plain_name x else []) (bound_names ks xs))

-- names that are known
abbrev pub Known : Scope → List ℕ → Type 0
Known g name = is_unknown_variable g name ≡ false

name_known : (g : Scope) (n : ℕ) (e : Expr) → faults g n standing.Plain e ≡ [] → AllOf (Known g) (plain_name e)
name_known g n (s.name x) none = ((name_kept g n standing.Plain x none).0, tt)
name_known g n e none = tt

pub either_known : (g : Scope) (test : Bool) (xs : List (List ℕ)) → AllOf (Known g) xs → AllOf (Known g) (if test then xs else [])
either_known g true xs h = h
either_known g false xs h = tt

pub bound_known : (g : Scope) (n : ℕ) (ks : List ParameterKind) (xs : Exprs) → faults_of_all g n standing.Plain xs ≡ []
    → AllOf (Known g) (bound_names ks xs)
bound_known g n [] s.none none = tt
bound_known g n (k ∷ ks) s.none none = tt
bound_known g n [] (s.with x xs) none = tt
bound_known g n (k ∷ ks) (s.with x xs) none =
    all_append (Known g) (if is_reference k then plain_name x else []) (bound_names ks xs)
    (either_known g (is_reference k) (plain_name x) (name_known g n x (first_plain g n x xs none)))
    (bound_known g (n + site_count g x) ks xs (arguments_kept g n standing.Plain x xs none).1)

-- two names that differ mean variables that differ
pub names_apart : (g : Scope) → AllNumbered g → (a b : List ℕ) → Known g a → Known g b → bytes_eq b a ≡ false
    → same_variable (variable_meant g a) (variable_meant g b) ≡ false
names_apart g h a b known there apart =
    false_from_ne_true (same_variable (variable_meant g a) (variable_meant g b))
    (λ same. let one : b ≡ a = sym (one_name g h a b known there same) in
    let yes = (bytes_eq-Decides b a).1 one in absurd cc)

pub none_among : (g : Scope) → AllNumbered g → (a : List ℕ) (ns : List (List ℕ)) → Known g a → AllOf (Known g) ns → is_among a ns ≡ false
    → is_variable_among (variable_meant g a) (map (variable_meant g) ns) ≡ false
none_among g h a [] known all apart = refl
none_among g h a (m ∷ ns) known all apart =
    let parts = or_parts (bytes_eq m a) (is_among a ns) apart in
    let first = names_apart g h a m known all.0 parts.0 in
    let rest = none_among g h a ns known all.1 parts.1 in rw (first, rest) refl

names_are_apart : (g : Scope) → AllNumbered g → (ns : List (List ℕ)) → AllOf (Known g) ns → some_twice ns ≡ false
    → are_apart (map (variable_meant g) ns) ≡ true
names_are_apart g h [] all apart = refl
names_are_apart g h (m ∷ ns) all apart =
    let parts = or_parts (is_among m ns) (some_twice ns) apart in
    let first = none_among g h m ns all.0 all.1 parts.0 in
    let rest = names_are_apart g h ns all.1 parts.1 in rw (first, rest) refl

-- a call of a known function
head_binds_apart : (g : Scope) → AllNumbered g → (n : ℕ) (xs : Exprs) (o : Option FunctionHead) → is_none o ≡ false
    → faults_of_all g n standing.Plain xs ≡ [] → takes_others o (size xs) ≡ false → fits_call g o xs ≡ true → call_aliases o xs ≡ false
    → binds_apart (an_own_call (number_of_function o) (operands g n (map parameter_way (parameters_of o)) xs)) ≡ true
head_binds_apart g h n xs None some none count fits apart = absurd cc
head_binds_apart g h n xs (Some f) some none count fits apart =
    let same = eqb-true (length f.parameters) (size xs) (not-false (length f.parameters == size xs) count) in
    subst (λ (vs : List Variable). are_apart vs ≡ true) (sym (arguments_bound g n f.parameters xs none fits same))
    (names_are_apart g h (bound_names f.parameters xs) (bound_known g n f.parameters xs none) apart)

-- a call that breaks no rule
pub call_binds_apart : (g : Scope) → AllNumbered g → (n : ℕ) (how : Standing) (f : Identifier) (xs : Exprs) → faults g n how (s.call f xs) ≡ []
    → let o = function_named g f.name in
    binds_apart (an_own_call (number_of_function o) (operands g n (map parameter_way (parameters_of o)) xs)) ≡ true
unfolding no_such_call wrong_type is_alias
call_binds_apart g h n how f xs none =
    let kept = call_kept g n how f xs none in
    let calls = or_parts (is_some (variable_named g f.name)) (takes_others (function_named g f.name) (size xs)) kept.2.calls in
    head_binds_apart g h n xs (function_named g f.name) (is_function g f.name calls.0 kept.0) kept.1 calls.1
    (not-false (fits_call g (function_named g f.name) xs) kept.2.types) kept.2.aliases

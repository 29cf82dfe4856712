-- Scopes of types and counts of variables go on alike: behind declarations, in a range-for and behind parameters.
use Rattle.std.proofs.Common.{◌≡◌, ℕ, ◌+◌, Bool, true, not, ◌&&◌, List, [], ◌∷◌, ◌++◌, length, refl, ap, ◌∙◌, arith, length-append}
use Rattle.std.specs.Prelude.{if◌then◌else◌}
use Rattle.std.specs.List.{list_all}
use Rattle.std.proofs.lemmas.List.Folds.{list_all-append}
use Rattle.std.proofs.lemmas.Bool.{and_from}
use Rattle.sl_base.specs.declared.scalar.Scalar.TheVariants as t
use Rattle.sl_specs.specs.Forms.{is_keyed}
use Rattle.sl_syntax.specs.declared.operator.Access.TheVariants as a
use Rattle.sl_syntax.specs.declared.typed.element.Taken.{Taken}
use Rattle.sl_syntax.specs.declared.typed.element.Taken.TheVariants as taken
use Rattle.sl_syntax.specs.declared.typed.parameter.ParameterKind.{ParameterKind}
use Rattle.sl_syntax.specs.declared.typed.parameter.ParameterKind.TheVariants as parameters
use Rattle.sl_syntax.specs.Typed.{Declaration, unset_scalar, set_scalar, set_iterator, binds_reference, makes, First, no_first, declares_first}
use Rattle.sl_syntax.specs.Typed.{does_first, Typed, element}
use Rattle.sl_syntax.specs.Written.{is_map}
use Rattle.sl_typing.specs.declared.expr_type.ExprType.{ExprType}
use Rattle.sl_typing.specs.declared.expr_type.ExprType.TheVariants as types
use Rattle.sl_typing.specs.Types.{is_const}
use Rattle.sl_model.specs.Typing.Scoped.{one_scalar, one_container, one_iterator, with_declaration, with_first, with_range}
use Rattle.sl_model.specs.Typing.Scoped.{with_parameter as counting_parameter, with_parameters as counting_parameters}
use Rattle.sl_model.specs.Typing.WellTypedScopes.{Scope, with_scalar, with_container, with_iterator}
use Rattle.sl_model.specs.Typing.WellTypedExpressions.{type_of, type_of_left}
use Rattle.sl_model.specs.Typing.WellTypedStatements.{reference_to, behind, behind_first, may_go_over, in_range, with_parameter, with_parameters}
use Rattle.sl_model.specs.Typing.WellTypedStatements.{no_variables}
use Rattle.sl_model.proofs.ScopedGifts.{scope_counts, is_scalar_type, is_container_type, KnowsText}

-- a list with one more is one longer
one_longer : (us : List ExprType) (u : ExprType) → length (us ++ u ∷ []) ≡ length us + 1
one_longer us u = let more = length-append us (u ∷ []) in omega (arith, more)

-- one scalar more is in scope
scalar_counts : (u : ExprType) (g : Scope) → scope_counts (with_scalar u g) ≡ one_scalar (scope_counts g)
scalar_counts u g = ap (λ (n : ℕ). record { scalars = n; conts = length g.containers; iters = length g.iterators }) (one_longer g.scalars u)

-- one container more
container_counts : (u : ExprType) (g : Scope) → scope_counts (with_container u g) ≡ one_container (scope_counts g)
container_counts u g = ap (λ (n : ℕ). record { scalars = length g.scalars; conts = n; iters = length g.iterators }) (one_longer g.containers u)

-- one iterator more
iterator_counts : (u : ExprType) (g : Scope) → scope_counts (with_iterator u g) ≡ one_iterator (scope_counts g)
iterator_counts u g = ap (λ (n : ℕ). record { scalars = length g.scalars; conts = length g.containers; iters = n }) (one_longer g.iterators u)

-- what is in scope behind a declaration
pub behind_counts : (d : Declaration) (g : Scope) → scope_counts (behind d g) ≡ with_declaration d (scope_counts g)
behind_counts (unset_scalar s) g = scalar_counts (types.Scalar s) g
behind_counts (set_scalar s e) g = scalar_counts (types.Scalar s) g
behind_counts (set_iterator e) g = iterator_counts (type_of g e) g
behind_counts (binds_reference c ops) g = iterator_counts (reference_to (type_of_left g (element c ops))) g
behind_counts (makes form c ops) g = container_counts (types.Container a.Whole form) g

-- behind the first part of a `for`
pub first_counts : (head : First) (g : Scope) → scope_counts (behind_first head g) ≡ with_first head (scope_counts g)
first_counts no_first g = refl
first_counts (declares_first d) g = behind_counts d g
first_counts (does_first w) g = refl

-- two iterators more
two_counts : (u : ExprType) (g : Scope) → scope_counts (with_iterator u (with_iterator u g)) ≡ one_iterator (one_iterator (scope_counts g))
two_counts u g = iterator_counts u (with_iterator u g) ∙ ap one_iterator (iterator_counts u g)

-- in a range-for
pub range_counts : (how : Taken) (u : ExprType) (g : Scope) → may_go_over how u ≡ true
    → scope_counts (in_range how u g) ≡ with_range how (scope_counts g)
range_counts taken.Value (types.Container access x) g h =
    let u = types.Iterator (is_const access) x in
    scalar_counts (types.Scalar t.Int) (with_iterator u (with_iterator u g)) ∙ ap one_scalar (two_counts u g)
range_counts taken.Reference (types.Container access x) g h =
    let u = types.Iterator (is_const access) x in
    iterator_counts (if is_map x then types.EntryReference (not (is_const access))
    else types.IntReference (not (is_const access) && not (is_keyed x)))
    (with_iterator u (with_iterator u g)) ∙ ap one_iterator (two_counts u g)
range_counts taken.Value u g h = absurd cc
range_counts taken.Reference u g h = absurd cc

-- behind a parameter
parameter_counts : (k : ParameterKind) (g : Scope) → scope_counts (with_parameter k g) ≡ counting_parameter k (scope_counts g)
parameter_counts (parameters.Value s) g = scalar_counts (types.Scalar s) g
parameter_counts (parameters.Reference s) g = scalar_counts (types.Scalar s) g
parameter_counts (parameters.Container access x) g = container_counts (types.Container access x) g
parameter_counts (parameters.Iterator b x) g = iterator_counts (types.Iterator b x) g

-- behind parameters
pub parameters_counts : (ks : List ParameterKind) (g : Scope) → scope_counts (with_parameters ks g) ≡ counting_parameters ks (scope_counts g)
parameters_counts [] g = refl
parameters_counts (k ∷ ks) g = parameters_counts ks (with_parameter k g) ∙ ap (counting_parameters ks) (parameter_counts k g)

-- a list of which all pass a test, with one more that does
one_more_passes : (test : ExprType → Bool) (us : List ExprType) (u : ExprType) → list_all test us ≡ true → test u ≡ true
    → list_all test (us ++ u ∷ []) ≡ true
one_more_passes test us u h k =
    list_all-append test us (u ∷ []) ∙ and_from (list_all test us) (test u && true) h (and_from (test u) true k refl)

-- a scope with one scalar more knows the text
scalar_known : (p : Typed) (u : ExprType) (g : Scope) → is_scalar_type u ≡ true → KnowsText p g → KnowsText p (with_scalar u g)
scalar_known p u g h k = record {
  functions = k.functions;
  scalars = one_more_passes is_scalar_type g.scalars u k.scalars h;
  containers = k.containers;
}

-- one with one container more does
container_known : (p : Typed) (u : ExprType) (g : Scope) → is_container_type u ≡ true → KnowsText p g → KnowsText p (with_container u g)
container_known p u g h k = record {
  functions = k.functions;
  scalars = k.scalars;
  containers = one_more_passes is_container_type g.containers u k.containers h;
}

-- one with one iterator more does
iterator_known : (p : Typed) (u : ExprType) (g : Scope) → KnowsText p g → KnowsText p (with_iterator u g)
iterator_known p u g k = record { functions = k.functions; scalars = k.scalars; containers = k.containers }

-- the scope behind a declaration does
pub behind_known : (p : Typed) (d : Declaration) (g : Scope) → KnowsText p g → KnowsText p (behind d g)
behind_known p (unset_scalar s) g k = scalar_known p (types.Scalar s) g refl k
behind_known p (set_scalar s e) g k = scalar_known p (types.Scalar s) g refl k
behind_known p (set_iterator e) g k = iterator_known p (type_of g e) g k
behind_known p (binds_reference c ops) g k = iterator_known p (reference_to (type_of_left g (element c ops))) g k
behind_known p (makes form c ops) g k = container_known p (types.Container a.Whole form) g refl k

-- the one behind the first part of a `for` does
pub first_known : (p : Typed) (head : First) (g : Scope) → KnowsText p g → KnowsText p (behind_first head g)
first_known p no_first g k = k
first_known p (declares_first d) g k = behind_known p d g k
first_known p (does_first w) g k = k

-- the one in a range-for does
pub range_known : (p : Typed) (how : Taken) (u : ExprType) (g : Scope) → may_go_over how u ≡ true → KnowsText p g → KnowsText p (in_range how u g)
range_known p taken.Value (types.Container access x) g h k =
    let u = types.Iterator (is_const access) x in
    scalar_known p (types.Scalar t.Int) (with_iterator u (with_iterator u g)) refl (iterator_known p u (with_iterator u g) (iterator_known p u g k))
range_known p taken.Reference (types.Container access x) g h k =
    let u = types.Iterator (is_const access) x in
    iterator_known p (if is_map x then types.EntryReference (not (is_const access))
    else types.IntReference (not (is_const access) && not (is_keyed x)))
    (with_iterator u (with_iterator u g)) (iterator_known p u (with_iterator u g) (iterator_known p u g k))
range_known p taken.Value u g h k = absurd cc
range_known p taken.Reference u g h k = absurd cc

-- the one behind parameters does
pub parameters_known : (p : Typed) (ks : List ParameterKind) (g : Scope) → KnowsText p g → KnowsText p (with_parameters ks g)
parameters_known p [] g k = k
parameters_known p (parameters.Value s ∷ ks) g k =
    parameters_known p ks (with_parameter (parameters.Value s) g) (scalar_known p (types.Scalar s) g refl k)
parameters_known p (parameters.Reference s ∷ ks) g k =
    parameters_known p ks (with_parameter (parameters.Reference s) g) (scalar_known p (types.Scalar s) g refl k)
parameters_known p (parameters.Container access x ∷ ks) g k =
    parameters_known p ks (with_parameter (parameters.Container access x) g) (container_known p (types.Container access x) g refl k)
parameters_known p (parameters.Iterator b x ∷ ks) g k =
    parameters_known p ks (with_parameter (parameters.Iterator b x) g) (iterator_known p (types.Iterator b x) g k)

-- the scope before parameters does
pub none_known : (p : Typed) → KnowsText p (no_variables p)
none_known p = record { functions = refl; scalars = refl; containers = refl }

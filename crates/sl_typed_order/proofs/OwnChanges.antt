-- The variables that a call of the program's own changes.
use Rattle.std.proofs.Common.{◌≡◌, ℕ, ◌+◌, ◌==◌, true, false, ◌&&◌, List, [], ◌∷◌, map, Option, Some, None, reverse, refl, sym, subst}
use Rattle.std.proofs.Common.{ap, arith, ◌∙◌}
use Rattle.std.specs.Prelude.{length, is_none, is_some, slice_get, if◌then◌else◌}
use Rattle.std.proofs.lemmas.Bool.{and_parts, or_parts, not-false, eqb-true}
use Rattle.sl_base.specs.declared.form.Form.{Form}
use Rattle.sl_base.specs.declared.scalar.Scalar.{Scalar}
use Rattle.sl_syntax.specs.declared.operator.Access.TheVariants as a
use Rattle.sl_syntax.specs.declared.tree.identifier.Identifier.{Identifier}
use Rattle.sl_syntax.specs.declared.typed.parameter.ParameterKind.{ParameterKind}
use Rattle.sl_syntax.specs.declared.typed.parameter.ParameterKind.TheVariants as parameters
use Rattle.sl_syntax.specs.Tree as s
use Rattle.sl_syntax.specs.Tree.{Expr, Exprs}
use Rattle.sl_syntax.specs.Typed.{Function}
use Rattle.sl_typing.specs.declared.scope.FunctionHead.{FunctionHead}
use Rattle.sl_typing.specs.declared.scope.Scope.{Scope}
use Rattle.sl_typing.specs.declared.standing.Standing.{Standing}
use Rattle.sl_typing.specs.declared.standing.Standing.TheVariants as standing
use Rattle.sl_typing.specs.Types.{is_container_of}
use Rattle.sl_typing.specs.Scopes.{function_named, is_function_named, variable_named, type_of_name, number_of_name}
use Rattle.sl_typing.specs.TypeOf.{size, type_of, types_of}
use Rattle.sl_typing.specs.Looks.{is_plain, bare_name}
use Rattle.sl_typing.specs.Sites.{site_count}
use Rattle.sl_typing.specs.WrongType.{is_exactly, fits_parameter, fit_parameters, fits_call, wrong_type}
use Rattle.sl_typing.specs.Rules.{takes_others, no_such_call}
use Rattle.sl_typing.specs.Faults.{faults, faults_of_all}
use Rattle.sl_typing.specs.Order.{changing, changes_argument, handed_names, parameters_of}
use Rattle.sl_typing.specs.Numbering.{number_in, handed, parameter_way, number_of_function, typed, operands}
use Rattle.sl_model.specs.Typing.WellTypedNodes.{an_own_call}
use Rattle.sl_model.specs.Typing.WellTypedOrder as model
use Rattle.sl_model.specs.Typing.WellTypedOrder.{Variable, the_scalar, bound_in, handed_to, all_handed_to}
use Rattle.sl_model.proofs.Tells.{AllOf, all_append}
use Rattle.sl_well_typed.proofs.Parts.{call_kept, arguments_kept}
use Rattle.sl_well_typed.proofs.Names.{all_reversed, found_among}
use Rattle.sl_well_typed.proofs.OwnCalls.{is_function}
use Rattle.sl_typed_order.proofs.Numbered.{variable_meant}
use Rattle.sl_typed_order.proofs.Sound.{IsThere, Sound}
use Rattle.sl_typed_order.proofs.Alias.{Known, first_plain, map_both, both_bound, either_known, scalar_bound, container_bound}
use Rattle.sl_typed_order.proofs.Covers.{Covers, covers_names}
use Rattle.sl_typed_order.proofs.Containers.{bare_known}
use Rattle.sl_typed_order.proofs.Does.{Does, covers_alone}

-- a scalar, and a container, by its name
scalar_handed : (g : Scope) (n : ℕ) (k : Scalar) (e : Expr) → (is_plain e && is_exactly k (type_of g e)) ≡ true
    → the_scalar (number_in (typed g n e)) ∷ [] ≡ map (variable_meant g) (bare_name e)
unfolding typed operands type_of types_of
scalar_handed g n k (s.name x) h = scalar_bound k (type_of_name g x.name) (number_of_name g x.name) x.place _ h
scalar_handed g n k e h = absurd cc

container_handed : (g : Scope) (n : ℕ) (form : Form) (e : Expr) → (is_plain e && is_container_of form (type_of g e)) ≡ true
    → bound_in (typed g n e) ≡ map (variable_meant g) (bare_name e)
unfolding typed operands type_of types_of
container_handed g n form (s.name x) h = container_bound form (type_of_name g x.name) (number_of_name g x.name) x.place _ h
container_handed g n form e h = absurd cc

-- what an argument hands over
argument_handed : (g : Scope) (n : ℕ) (k : ParameterKind) (e : Expr) → fits_parameter g k e ≡ true
    → handed_to k (handed (parameter_way k) (type_of g e) (typed g n e)) ≡ map (variable_meant g) (if changes_argument k then bare_name e else [])
argument_handed g n (parameters.Value c) e fits = refl
argument_handed g n (parameters.Reference c) e fits = scalar_handed g n c e fits
argument_handed g n (parameters.Container a.Whole form) e fits = container_handed g n form e fits
argument_handed g n (parameters.Container a.Const form) e fits = refl
argument_handed g n (parameters.Container a.Elements form) e fits = refl
argument_handed g n (parameters.Iterator c form) e fits = refl

-- what all arguments do
arguments_handed : (g : Scope) (n : ℕ) (ks : List ParameterKind) (xs : Exprs) → fit_parameters g ks xs ≡ true → length ks ≡ size xs
    → all_handed_to ks (operands g n (map parameter_way ks) xs) ≡ map (variable_meant g) (handed_names ks xs)
unfolding typed operands
arguments_handed g n [] s.none fits same = refl
arguments_handed g n (k ∷ ks) s.none fits same = refl
arguments_handed g n [] (s.with x xs) fits same = absurd (omega arith)
arguments_handed g n (k ∷ ks) (s.with x xs) fits same =
    let parts = and_parts (fits_parameter g k x) (fit_parameters g ks xs) fits in
    let rest : length ks ≡ size xs = omega arith in
    both_bound (handed_to k (handed (parameter_way k) (type_of g x) (typed g n x))) (map (variable_meant g) (if changes_argument k then bare_name x else []))
    (all_handed_to ks (operands g (n + site_count g x) (map parameter_way ks) xs)) (map (variable_meant g) (handed_names ks xs))
    (argument_handed g n k x parts.0) (arguments_handed g (n + site_count g x) ks xs parts.1 rest)
    ∙ sym (map_both g (if changes_argument k then bare_name x else []) (handed_names ks xs))

handed_known : (g : Scope) (n : ℕ) (ks : List ParameterKind) (xs : Exprs) → faults_of_all g n standing.Plain xs ≡ [] → AllOf (Known g) (handed_names ks xs)
handed_known g n [] s.none none = tt
handed_known g n (k ∷ ks) s.none none = tt
handed_known g n [] (s.with x xs) none = tt
handed_known g n (k ∷ ks) (s.with x xs) none =
    all_append (Known g) (if changes_argument k then bare_name x else []) (handed_names ks xs)
    (either_known g (changes_argument k) (bare_name x) (bare_known g n standing.Plain x (first_plain g n x xs none)))
    (handed_known g (n + site_count g x) ks xs (arguments_kept g n standing.Plain x xs none).1)

-- the parameters of a function that is there
parameters_there : (fs : List Function) (n : ℕ) (f : Function) → slice_get fs n ≡ Some f → model.parameters_of fs n ≡ f.parameters
parameters_there fs n f e = ap (λ (o : Option Function). elim o as (λ _. List ParameterKind) [ None ↦ [] | Some h ↦ h.parameters ]) e

head_does : (fs : List Function) (g : Scope) → Sound fs g → (n : ℕ) (name : List ℕ) (xs : Exprs) (o : Option FunctionHead) → function_named g name ≡ o
    → is_none o ≡ false → faults_of_all g n standing.Plain xs ≡ [] → takes_others o (size xs) ≡ false → fits_call g o xs ≡ true
    → Does fs g (changing (handed_names (parameters_of o) xs))
    (an_own_call (number_of_function o) (operands g n (map parameter_way (parameters_of o)) xs) ∷ [])
head_does fs g sound n name xs None e some none count fits = absurd cc
head_does fs g sound n name xs (Some h) e some none count fits =
    let same = eqb-true (length h.parameters) (size xs) (not-false (length h.parameters == size xs) count) in
    let is = found_among (IsThere fs) (is_function_named name) (reverse g.functions) (all_reversed (IsThere fs) g.functions sound.functions) h e in
    let ks = h.parameters in
    let es = operands g n (map parameter_way ks) xs in
    let there = parameters_there fs h.number is.function is.there ∙ is.parameters in
    let names = handed_names ks xs in
    let covers = covers_names g sound.numbered names (handed_known g n ks xs none) in
    record {
      changes = λ k. absurd cc;
      changed = covers_alone g names (all_handed_to (model.parameters_of fs h.number) es)
          (
          subst (λ (js : List ParameterKind). Covers g names (all_handed_to js es)) (sym there)
          (subst (λ (vs : List Variable). Covers g names vs) (sym (arguments_handed g n ks xs fits same)) covers)
          );
      writes = λ k. refl;
    }

pub own_call_does : (fs : List Function) (g : Scope) → Sound fs g → (n : ℕ) (how : Standing) (f : Identifier) (xs : Exprs)
    → faults g n how (s.call f xs) ≡ []
    → let o = function_named g f.name in
    Does fs g (changing (handed_names (parameters_of o) xs))
    (an_own_call (number_of_function o) (operands g n (map parameter_way (parameters_of o)) xs) ∷ [])
unfolding no_such_call wrong_type
own_call_does fs g sound n how f xs none =
    let kept = call_kept g n how f xs none in
    let calls = or_parts (is_some (variable_named g f.name)) (takes_others (function_named g f.name) (size xs)) kept.2.calls in
    head_does fs g sound n f.name xs (function_named g f.name) refl (is_function g f.name calls.0 kept.0) kept.1 calls.1
    (not-false (fits_call g (function_named g f.name) xs) kept.2.types)

-- At the places of a function, and behind functions, that break no rule all numbers are within the limits.
use Rattle.std.proofs.Common.{◌≡◌, ℕ, ◌<◌, ◌≤◌, false, List, [], ◌∷◌, length, length-append, arith}
use Rattle.std.specs.Prelude.{◌==◌}
use Rattle.std.proofs.lemmas.Bool.Decides.{nat_tests}
use Rattle.std.proofs.lemmas.List.{length-map}
use Rattle.std.proofs.lemmas.List.Elements.{All-nil, All-push}
use Rattle.sl_base.specs.declared.limits.TheConstants.{FUNCTIONS, PARAMETERS}
use Rattle.sl_syntax.specs.Tree.{Function}
use Rattle.sl_typing.specs.declared.rules.TheConstants as rule
use Rattle.sl_typing.specs.Scopes.{scalars, containers, iterators, parameter_kind}
use Rattle.sl_typing.specs.Contexts.{Context}
use Rattle.sl_typing.specs.Sites.{declares_container}
use Rattle.sl_typing.specs.Faults.{broken}
use Rattle.sl_typing.specs.Flow.{head_of, before_parameters, in_function, at_brace, after_function, after_functions}
use Rattle.sl_typing.specs.ProgramFaults.{function_faults, functions_faults, start}
use Rattle.sl_number_limits.specs.Fits.{FitsVariable, FitsFunction, IsLabelled, Fits, HasRoom}
use Rattle.sl_number_limits.proofs.Lists.{parts, not_broken}
use Rattle.sl_number_limits.proofs.PartFaults.{function_parameters, function_items, function_brace, first_function, other_functions}
use Rattle.sl_number_limits.proofs.ScopeLaws.{AllCounted}
use Rattle.sl_number_limits.proofs.Effects.{site_fits}
use Rattle.sl_number_limits.proofs.Statements.{after_items_fit}
use Rattle.sl_number_limits.proofs.Parameters.{parameter_count_fits, parameters_fit}

below_limit : (n : ℕ) → (n == FUNCTIONS) ≡ false → n ≤ FUNCTIONS → n < FUNCTIONS
below_limit n e h = grind (arith, nat_tests)

-- the function is within the limit
pub function_number_fits : (g : Context) (f : Function) → Fits g → function_faults g f ≡ [] → length g.scope.functions < FUNCTIONS
function_number_fits g f fits none =
    let p : broken (length g.scope.functions == FUNCTIONS) f.name.place rule.TOO_MANY_FUNCTIONS ≡ [] = search parts in
    below_limit (length g.scope.functions) (not_broken (length g.scope.functions == FUNCTIONS) f.name.place rule.TOO_MANY_FUNCTIONS p)
    fits.scope.total

-- so are its parameters
pub function_parameters_fit : (g : Context) (f : Function) → function_faults g f ≡ [] → length f.params ≤ PARAMETERS
function_parameters_fit g f none =
    let l = parameter_count_fits (before_parameters g f) 0 f.params (function_parameters g f none) (omega arith) in
    omega arith

-- nothing is in scope before parameters
none_counted : (g : Context) (f : Function) → AllCounted (before_parameters g f).scope
none_counted g f scalars = omega arith
none_counted g f containers = omega arith
none_counted g f iterators = omega arith

-- what a call needs to know of the function
pub head_fits : (g : Context) (f : Function) → Fits g → function_faults g f ≡ [] → FitsFunction (head_of g f)
head_fits g f fits none =
    let few = function_parameters_fit g f none in
    record { number = function_number_fits g f fits none; parameters = omega (arith, length-map f.params parameter_kind) }

-- before its parameters
pub before_parameters_fit : (g : Context) (f : Function) → Fits g → function_faults g f ≡ [] → Fits (before_parameters g f)
before_parameters_fit g f fits none =
    let below = function_number_fits g f fits none in
    let e = length-append g.scope.functions (head_of g f ∷ []) in
    record {
      scope = record {
        counts = none_counted g f;
        variables = All-nil (FitsVariable (length g.names));
        total = omega arith;
        functions = All-push FitsFunction g.scope.functions (head_of g f) fits.scope.functions (head_fits g f fits none);
      };
      sites = fits.sites;
      statements = fits.statements;
      loops = fits.loops;
      names = omega arith;
      declared = omega arith;
      labels = All-nil (IsLabelled (length g.names));
    }

-- they have room
pub parameters_have_room : (g : Context) (f : Function) → Fits g → function_faults g f ≡ [] → HasRoom (length f.params) (before_parameters g f)
parameters_have_room g f fits none =
    let few = function_parameters_fit g f none in
    let e = length-append g.scope.functions (head_of g f ∷ []) in
    record { for_names = omega arith; for_variables = omega arith }

-- at the start of its body
pub in_function_fits : (g : Context) (f : Function) → Fits g → function_faults g f ≡ [] → Fits (in_function g f)
in_function_fits g f fits none =
    parameters_fit (before_parameters g f) 0 f.params (before_parameters_fit g f fits none) (parameters_have_room g f fits none)
    (function_parameters g f none)

-- at its closing brace
pub at_function_brace : (g : Context) (f : Function) → Fits g → function_faults g f ≡ [] → Fits (at_brace g f)
at_function_brace g f fits none = after_items_fit (in_function g f) f.items (in_function_fits g f fits none) (function_items g f none)

-- behind it
pub after_function_fits : (g : Context) (f : Function) → Fits g → function_faults g f ≡ [] → Fits (after_function g f)
after_function_fits g f fits none =
    site_fits (at_brace g f) (declares_container f.items) f.closes (at_function_brace g f fits none) (function_brace g f none)

-- behind functions
pub after_functions_fit : (g : Context) (fs : List Function) → Fits g → functions_faults g fs ≡ [] → Fits (after_functions g fs)
after_functions_fit g [] fits none = fits
after_functions_fit g (f ∷ fs) fits none =
    after_functions_fit (after_function g f) fs (after_function_fits g f fits (first_function g f fs none)) (other_functions g f fs none)

start_counted : AllCounted start.scope
start_counted scalars = omega arith
start_counted containers = omega arith
start_counted iterators = omega arith

-- at the start of a text
pub start_fits : Fits start
start_fits = record {
  scope = record {
    counts = start_counted;
    variables = All-nil (FitsVariable 0);
    total = omega arith;
    functions = All-nil FitsFunction;
  };
  sites = omega arith;
  statements = omega arith;
  loops = omega arith;
  names = omega arith;
  declared = omega arith;
  labels = All-nil (IsLabelled 0);
}

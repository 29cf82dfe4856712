-- Each function of a typed text is within the limits.
use Rattle.std.proofs.Common.{ℕ, ◌≤◌, length, ◌≡◌, List, [], ◌∷◌, ap, arith}
use Rattle.std.specs.List.{All}
use Rattle.std.proofs.lemmas.List.{length-map}
use Rattle.std.proofs.lemmas.List.Elements.{All-nil, All-cons, All-same}
use Rattle.sl_syntax.specs.Tree.{Function, Program}
use Rattle.sl_syntax.specs.Typed as t
use Rattle.sl_typing.specs.Scopes.{parameter_kind}
use Rattle.sl_typing.specs.Contexts.{Context}
use Rattle.sl_typing.specs.Flow.{at_brace, after_function, after_functions}
use Rattle.sl_typing.specs.ProgramFaults.{function_faults, functions_faults, start}
use Rattle.sl_typing.specs.Typing.{typed_function, typed_functions, typed_program, Typed}
use Rattle.sl_number_limits.specs.Fits.{Fits, FitsTypedFunction}
use Rattle.std.proofs.Math.Nat.{le_trans}
use Rattle.sl_number_limits.proofs.PartFaults.{first_function, other_functions}
use Rattle.sl_number_limits.proofs.ContextLaws.{labels_stay}
use Rattle.sl_number_limits.proofs.Lasting.{brace_lasts}
use Rattle.sl_number_limits.proofs.Functions.{function_parameters_fit, at_function_brace, after_function_fits, start_fits}
use Rattle.sl_number_limits.proofs.Programs.{few_variables, functions_break_none}

-- a function, where the text has more names than at its closing brace
pub typed_function_fits : (names : ℕ) (g : Context) (f : Function) → length (at_brace g f).names ≤ names → Fits g → function_faults g f ≡ []
    → FitsTypedFunction names (typed_function g f)
typed_function_fits names g f more fits none =
    let few = function_parameters_fit g f none in
    let same = length-map f.params parameter_kind in
    let h = at_function_brace g f fits none in
    record {
      parameters = omega arith;
      variables = few_variables (at_brace g f) h;
      labels = labels_stay (length (at_brace g f).names) names more (at_brace g f).variables h.labels;
    }

-- functions
pub typed_functions_fit : (names : ℕ) (g : Context) (fs : List Function) → length (after_functions g fs).names ≤ names → Fits g
    → functions_faults g fs ≡ [] → All (FitsTypedFunction names) (typed_functions g fs)
typed_functions_fit names g [] more fits none = All-nil (FitsTypedFunction names)
typed_functions_fit names g (f ∷ fs) more fits none =
    All-cons (FitsTypedFunction names) (typed_function g f) (typed_functions (after_function g f) fs)
    (typed_function_fits names g f (le_trans (brace_lasts g f fs).names more) fits (first_function g f fs none))
    (typed_functions_fit names (after_function g f) fs more (after_function_fits g f fits (first_function g f fs none))
    (other_functions g f fs none))

-- the functions of a typed text
pub each_function_fits : (p : Program) (u : t.Typed) → Typed p u → All (FitsTypedFunction (length u.names)) u.functions
unfolding typed_program
each_function_fits p u x =
    let names = ap (λ (v : t.Typed). length v.names) x.is_it in
    All-same (FitsTypedFunction (length u.names)) u.functions (typed_functions start p) (ap (λ (v : t.Typed). v.functions) x.is_it)
    (typed_functions_fit (length u.names) start p (omega arith) start_fits (functions_break_none p x.breaks_none))

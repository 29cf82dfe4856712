-- A program that breaks no rule has no more functions and sites than there may be.
use Rattle.std.proofs.Common.{◌≡◌, ◌==◌, ◌≤◌, true, ◌&&◌, not, List, [], ◌∷◌, ◌++◌, length, refl, arith, subst, sym}
use Rattle.std.specs.Prelude.{nat_le, is_some}
use Rattle.std.proofs.lemmas.Bool.{and_from, le-leb}
use Rattle.sl_base.specs.declared.limits.TheConstants.{FUNCTIONS, SITES}
use Rattle.sl_syntax.specs.declared.tree.function.Param.{Param}
use Rattle.sl_syntax.specs.Tree.{Function, Program}
use Rattle.sl_syntax.specs.Typed.{Typed}
use Rattle.sl_typing.specs.declared.rules.TheConstants as rule
use Rattle.sl_typing.specs.Contexts.{Context, declare_parameters}
use Rattle.sl_typing.specs.Faults.{broken}
use Rattle.sl_typing.specs.Scopes.{function_named}
use Rattle.sl_typing.specs.Sites.{declares_container}
use Rattle.sl_typing.specs.Flow.{before_parameters, in_function, at_brace, after_function, after_functions}
use Rattle.sl_typing.specs.StatementFaults.{items_faults, site_faults}
use Rattle.sl_typing.specs.ProgramFaults.{is_main, is_main_head, is_library_name, behind_parameter, result_faults, parameter_faults, function_faults, functions_faults, start}
use Rattle.sl_typing.specs.Typing as typing
use Rattle.sl_typing.specs.Typing.{typed_program}
use Rattle.sl_model.specs.Typing.WellTyped.{has_few}
use Rattle.sl_well_typed.proofs.Parts.{none_in_both, unbroken}
use Rattle.sl_well_typed.proofs.FewParts.{site_few}
use Rattle.sl_well_typed.proofs.FewStatements.{items_few}
use Rattle.sl_well_typed.proofs.Functions.{function_kept, program_kept}
use Rattle.sl_well_typed.proofs.Main.{typed_has_few_functions}

-- parameters are no sites
parameters_sites : (g : Context) (qs : List Param) → (declare_parameters qs g).sites ≡ g.sites
parameters_sites g [] = refl
parameters_sites g (q ∷ qs) = parameters_sites (behind_parameter g q) qs

-- the closing brace of a function
brace_kept : (g : Context) (f : Function) → function_faults g f ≡ [] → site_faults (at_brace g f) (declares_container f.items) f.closes ≡ []
brace_kept g f none =
    let f1 = result_faults f.result in
    let f2 = parameter_faults (before_parameters g f) 0 f.params in
    let f3 = items_faults (in_function g f) f.items in
    let f4 = site_faults (at_brace g f) (declares_container f.items) f.closes in
    let f5 = broken (is_some (function_named g.scope f.name.name)) f.name.place rule.DECLARED_TWICE in
    let f6 = broken (is_main f && not (is_main_head f.result f.params)) f.name.place rule.NO_MAIN in
    let f7 = broken (is_library_name f.name.name) f.name.place rule.LIBRARY_NAME in
    let f8 = broken (length g.scope.functions == FUNCTIONS) f.name.place rule.TOO_MANY_FUNCTIONS in
    let h8 = none_in_both (f1 ++ f2 ++ f3 ++ f4 ++ f5 ++ f6 ++ f7) f8 none in
    let h7 = none_in_both (f1 ++ f2 ++ f3 ++ f4 ++ f5 ++ f6) f7 h8.0 in
    let h6 = none_in_both (f1 ++ f2 ++ f3 ++ f4 ++ f5) f6 h7.0 in
    let h5 = none_in_both (f1 ++ f2 ++ f3 ++ f4) f5 h6.0 in (none_in_both (f1 ++ f2 ++ f3) f4 h5.0).1

-- behind a function
function_few : (g : Context) (f : Function) → function_faults g f ≡ [] → length g.sites ≤ SITES → length (after_function g f).sites ≤ SITES
function_few g f none few =
    let same = parameters_sites (before_parameters g f) f.params in
    let begins : length (in_function g f).sites ≤ SITES = rw same few in
    let all = items_few (in_function g f) f.items (function_kept g f none).items begins in
    site_few (at_brace g f) (declares_container f.items) f.closes
    (unbroken (declares_container f.items && (length (at_brace g f).sites == SITES)) f.closes rule.TOO_MANY_SITES (brace_kept g f none)) all

-- behind functions
functions_few : (g : Context) (fs : List Function) → functions_faults g fs ≡ [] → length g.sites ≤ SITES → length (after_functions g fs).sites ≤ SITES
functions_few g [] none few = few
functions_few g (f ∷ fs) none few =
    let both = none_in_both (function_faults g f) (functions_faults (after_function g f) fs) none in
    functions_few (after_function g f) fs both.1 (function_few g f both.0 few)

-- the sites of a typed text
typed_has_few_sites : (p : Program) (u : Typed) → typing.Typed p u → nat_le (length u.sites) SITES ≡ true
unfolding typed_program
typed_has_few_sites p u h =
    let few = functions_few start p (program_kept p h.breaks_none).0 (omega arith) in
    subst (λ (v : Typed). nat_le (length v.sites) SITES ≡ true) (sym h.is_it) (le-leb (length (after_functions start p).sites) SITES few)

-- what is typed has no more functions and sites than there may be
pub typed_has_few : (p : Program) (u : Typed) → typing.Typed p u → has_few u ≡ true
typed_has_few p u h =
    and_from (nat_le (length u.functions) FUNCTIONS) (nat_le (length u.sites) SITES) (typed_has_few_functions p u h) (typed_has_few_sites p u h)

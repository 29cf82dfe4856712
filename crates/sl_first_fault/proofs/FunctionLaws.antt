-- Functions and the program: their parts in their order, and their own rules behind them.
use Rattle.std.proofs.Common.{◌≡◌, ◌==◌, ◌&&◌, not, List, ◌++◌, Option, Result, is_some, length, sym, ap, ◌∙◌, subst, append_assoc}
use Rattle.std.specs.List.{list_any}
use Rattle.sl_base.specs.declared.limits.TheConstants.{FUNCTIONS}
use Rattle.sl_syntax.specs.Tree.{Function, Program}
use Rattle.sl_typing.specs.declared.fault.Fault.{Fault}
use Rattle.sl_typing.specs.declared.rules.TheConstants as rule
use Rattle.sl_typing.specs.Contexts.{Context, with_sites}
use Rattle.sl_typing.specs.Faults.{broken}
use Rattle.sl_typing.specs.Flow.{before_parameters, in_function, after_items, after_function, after_functions}
use Rattle.sl_typing.specs.ProgramFaults.{result_faults, parameter_faults, is_main, is_main_head, is_library_name, function_faults, functions_faults}
use Rattle.sl_typing.specs.ProgramFaults.{start, first_place, program_faults}
use Rattle.sl_typing.specs.Scopes.{function_named}
use Rattle.sl_typing.specs.Sites.{brace_site, declares_container}
use Rattle.sl_typing.specs.StatementFaults.{items_faults, site_faults}
use Rattle.sl_typing.specs.Typing.{first_of}
use Rattle.sl_first_fault.specs.declared.stop.Stop.{Stop}
use Rattle.sl_first_fault.specs.Means.Steps.{StopsAt, Done, Checks, Answers}
use Rattle.sl_first_fault.proofs.StepLaws.{Answers-along, StopsAt-before, then_done, then_checks, started_at, group-3}

-- a function
pub whole : {A : Type 0} (r : Result A Stop) (own : Option Fault) (g m1 m2 : Context) (f : Function)
    → Done (result_faults f.result ++ parameter_faults (before_parameters g f) 0 f.params) m1 (in_function g f)
    → Done (items_faults m1 f.items ++ site_faults (after_items m1 f.items) (declares_container f.items) f.closes) m2
    (with_sites (brace_site f.items f.closes) (after_items m1 f.items))
    → own ≡ first_of (broken (is_some (function_named g.scope f.name.name)) f.name.place rule.DECLARED_TWICE
    ++ broken (is_main f && not (is_main_head f.result f.params)) f.name.place rule.NO_MAIN
    ++ broken (is_library_name f.name.name) f.name.place rule.LIBRARY_NAME
    ++ broken (length g.scope.functions == FUNCTIONS) f.name.place rule.TOO_MANY_FUNCTIONS)
    → Checks r own → Answers r (function_faults g f) m2 (after_function g f)
whole r own g m1 m2 f d1 d2 e h =
    let inside = in_function g f in
    let heads = result_faults f.result ++ parameter_faults (before_parameters g f) 0 f.params in
    let body = items_faults inside f.items in
    let close = site_faults (after_items inside f.items) (declares_container f.items) f.closes in
    let twice = broken (is_some (function_named g.scope f.name.name)) f.name.place rule.DECLARED_TWICE in
    let main = broken (is_main f && not (is_main_head f.result f.params)) f.name.place rule.NO_MAIN in
    let library = broken (is_library_name f.name.name) f.name.place rule.LIBRARY_NAME in
    let many = broken (length g.scope.functions == FUNCTIONS) f.name.place rule.TOO_MANY_FUNCTIONS in
    let ys = twice ++ main ++ library ++ many in
    Answers-along r ((heads ++ (body ++ close)) ++ ys) m2 (after_function g f)
    (ap (λ (l : List Fault). l ++ ys) (sym (append_assoc heads body close)) ∙ group-3 ((heads ++ body) ++ close) twice main library many)
    (then_checks r own ys
    (then_done (λ (h : Context). items_faults h f.items ++ site_faults (after_items h f.items) (declares_container f.items) f.closes) m2
    (λ (h : Context). with_sites (brace_site f.items f.closes) (after_items h f.items)) d1 d2) e h)

-- a program
pub program : {A : Type 0} (r : Result A Stop) (own : Option Fault) (g m : Context) (p : Program) → g ≡ start
    → Done (functions_faults g p) m (after_functions g p) → own ≡ first_of (broken (not (list_any is_main p)) first_place rule.NO_MAIN) → Checks r own
    → Answers r (program_faults p) m (after_functions start p)
unfolding program_faults
program r own g m p at d e h =
    then_checks r own (broken (not (list_any is_main p)) first_place rule.NO_MAIN)
    (started_at g start (λ (h : Context). functions_faults h p) (λ (h : Context). after_functions h p) m at d) e h

-- a program of which a function breaks a rule
pub program_stops : (e : Stop) (g : Context) (p : Program) → g ≡ start → StopsAt e (first_of (functions_faults g p))
    → StopsAt e (first_of (program_faults p))
unfolding program_faults
program_stops e g p at h =
    StopsAt-before e (functions_faults start p) (broken (not (list_any is_main p)) first_place rule.NO_MAIN)
    (subst (λ (k : Context). StopsAt e (first_of (functions_faults k p))) at h)

-- What a program that breaks no rule is typed as is within the limits.
use Rattle.std.proofs.Common.{◌≡◌, ℕ, ◌+◌, ◌<◌, ◌≤◌, Bool, true, false, List, [], ◌∷◌, ◌++◌, length, length-append, refl, ap, arith}
use Rattle.std.specs.Prelude.{if◌then◌else◌, not}
use Rattle.std.specs.List.{list_any}
use Rattle.sl_base.specs.declared.limits.TheConstants.{FUNCTIONS, SITES, STATEMENTS}
use Rattle.sl_syntax.specs.Tree.{Function, Program}
use Rattle.sl_syntax.specs.Typed as t
use Rattle.sl_typing.specs.declared.rules.TheConstants as rule
use Rattle.sl_typing.specs.declared.scope.FunctionHead.{FunctionHead}
use Rattle.sl_typing.specs.Contexts.{Context}
use Rattle.sl_typing.specs.Faults.{broken}
use Rattle.sl_typing.specs.Flow.{head_of, after_function, after_functions}
use Rattle.sl_typing.specs.ProgramFaults.{is_main, first_place, functions_faults, start, program_faults}
use Rattle.sl_typing.specs.Typing.{typed_functions, main_number, typed_program, Typed}
use Rattle.sl_number_limits.specs.Fits.{Fits, most_names}
use Rattle.sl_number_limits.proofs.Lists.{parts, not_broken}
use Rattle.sl_number_limits.proofs.Lasting.{function_grows}
use Rattle.sl_number_limits.proofs.Functions.{after_functions_fit, start_fits}

-- the functions of a program that breaks no rule break none
pub functions_break_none : (p : Program) → program_faults p ≡ [] → functions_faults start p ≡ []
unfolding program_faults
functions_break_none p none = search parts

-- at the end of a text
pub end_fits : (p : Program) → program_faults p ≡ [] → Fits (after_functions start p)
end_fits p none = after_functions_fit start p start_fits (functions_break_none p none)

-- how many names there are at a place
pub few_names : (g : Context) → Fits g → length g.names ≤ most_names
few_names g f = let n = f.names in let k = f.statements in let l = f.scope.total in omega arith

pub few_variables : (g : Context) → Fits g → length g.variables ≤ most_names
few_variables g f = let n = f.declared in let k = f.statements in let l = f.scope.total in omega arith

-- a function adds itself to those that are known
function_comes : (g : Context) (f : Function) → (after_function g f).scope.functions ≡ g.scope.functions ++ head_of g f ∷ []
function_comes g f = (function_grows g f).functions

-- how many functions are known at the end
pub functions_come : (g : Context) (fs : List Function) → length (after_functions g fs).scope.functions ≡ length g.scope.functions + length fs
functions_come g [] = omega arith
functions_come g (f ∷ fs) =
    let a = functions_come (after_function g f) fs in
    let b = ap (λ (hs : List FunctionHead). length hs) (function_comes g f) in
    let c = length-append g.scope.functions (head_of g f ∷ []) in
    omega arith

-- each function is typed
pub each_is_typed : (g : Context) (fs : List Function) → length (typed_functions g fs) ≡ length fs
each_is_typed g [] = refl
each_is_typed g (f ∷ fs) = let e = each_is_typed (after_function g f) fs in omega arith

not_false : (b : Bool) → not b ≡ false → b ≡ true
not_false true e = refl
not_false false e = absurd (cc)

-- some function is `main`
some_main : (p : Program) → program_faults p ≡ [] → list_any is_main p ≡ true
unfolding program_faults
some_main p none =
    let q : broken (not (list_any is_main p)) first_place rule.NO_MAIN ≡ [] = search parts in
    not_false (list_any is_main p) (not_broken (not (list_any is_main p)) first_place rule.NO_MAIN q)

next_main : (b : Bool) (k n : ℕ) → (b ≡ false → k < n) → (if b then 0 else k + 1) < n + 1
next_main true k n h = omega arith
next_main false k n h = let l : k < n = h refl in omega arith

-- its number is one of theirs
main_below : (fs : List Function) → list_any is_main fs ≡ true → main_number fs < length fs
main_below [] is = absurd (cc)
main_below (f ∷ fs) is = grind (arith, next_main (is_main f) (main_number fs) (length fs), main_below fs)

-- functions and their parameters and variables
pub functions_fit : (p : Program) (u : t.Typed) → Typed p u → length u.functions ≤ FUNCTIONS
unfolding typed_program
functions_fit p u x =
    let a = (end_fits p x.breaks_none).scope.total in
    let b = functions_come start p in
    let c = each_is_typed start p in
    let d = ap (λ (v : t.Typed). length v.functions) x.is_it in
    omega arith

pub main_fits : (p : Program) (u : t.Typed) → Typed p u → u.main < length u.functions
unfolding typed_program
main_fits p u x =
    let a = main_below p (some_main p x.breaks_none) in
    let c = each_is_typed start p in
    let d = ap (λ (v : t.Typed). length v.functions) x.is_it in
    let e = ap (λ (v : t.Typed). v.main) x.is_it in
    omega arith

-- sites, loops and names
pub sites_fit : (p : Program) (u : t.Typed) → Typed p u → length u.sites ≤ SITES
unfolding typed_program
sites_fit p u x =
    let a = (end_fits p x.breaks_none).sites in
    let d = ap (λ (v : t.Typed). length v.sites) x.is_it in
    omega arith

pub loops_fit : (p : Program) (u : t.Typed) → Typed p u → length u.loops ≤ STATEMENTS
unfolding typed_program
loops_fit p u x =
    let a = (end_fits p x.breaks_none).loops in
    let b = (end_fits p x.breaks_none).statements in
    let d = ap (λ (v : t.Typed). length v.loops) x.is_it in
    omega arith

pub names_fit : (p : Program) (u : t.Typed) → Typed p u → length u.names ≤ most_names
unfolding typed_program
names_fit p u x =
    let a = few_names (after_functions start p) (end_fits p x.breaks_none) in
    let d = ap (λ (v : t.Typed). length v.names) x.is_it in
    omega arith

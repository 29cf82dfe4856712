-- What each node of a program that breaks no rule passes.
use Rattle.std.proofs.Common.{◌≡◌, ℕ, suc, ◌+◌, Bool, true, false, List, [], ◌∷◌, ◌++◌, length, Some, refl, sym, subst, arith}
use Rattle.std.proofs.Common.{length-append}
use Rattle.std.specs.Prelude.{slice_get, flat_map}
use Rattle.std.specs.List.{list_all}
use Rattle.sl_syntax.specs.declared.tree.function.ResultType.{ResultType}
use Rattle.sl_syntax.specs.declared.tree.function.ResultType.TheVariants as r
use Rattle.sl_syntax.specs.Tree.{Function, Program}
use Rattle.sl_syntax.specs.Typed as t
use Rattle.sl_syntax.specs.Typed.{Typed}
use Rattle.sl_typing.specs.declared.scope.FunctionHead.{FunctionHead}
use Rattle.sl_typing.specs.Types.{is_container}
use Rattle.sl_typing.specs.TypeOf.{type_given}
use Rattle.sl_typing.specs.Scopes.{result_kind}
use Rattle.sl_typing.specs.Contexts.{Context}
use Rattle.sl_typing.specs.Flow.{head_of, before_parameters, in_function, after_function}
use Rattle.sl_typing.specs.ProgramFaults.{function_faults, functions_faults, start}
use Rattle.sl_typing.specs.StatementNumbering.{brace_number, typed_items}
use Rattle.sl_typing.specs.Typing.{typed_function, typed_functions}
use Rattle.sl_model.specs.Typing.WellTypedNodes.{Node, has_container, nodes_in_stmt, nodes_in_stmts}
use Rattle.sl_model.proofs.Tells.{AllOf, all_append}
use Rattle.sl_number_limits.proofs.PartFaults.{function_items}
use Rattle.sl_well_typed.proofs.Parts.{none_in_both}
use Rattle.sl_well_typed.proofs.Functions.{known_behind}
use Rattle.sl_typed_order.proofs.Sound.{IsThere, Sound, parameters_sound}
use Rattle.sl_typed_order.proofs.Kept.{IsKept}
use Rattle.sl_typed_order.proofs.Nodes.{all_both, all_behind}
use Rattle.sl_typed_order.proofs.Statements.{items_hold}

-- no function gives a container
given_is_none : (result : ResultType) → is_container (type_given (result_kind result)) ≡ false
given_is_none r.Void = refl
given_is_none (r.Scalar k) = refl
given_is_none (r.Iterator i) = refl

-- a function
function_holds : (fs : List t.Function) (P : Node → Bool) → IsKept fs P → (g : Context) (f : Function)
    → AllOf (IsThere fs) (g.scope.functions ++ head_of g f ∷ []) → function_faults g f ≡ [] → list_all P (nodes_in_stmt (typed_function g f).body) ≡ true
unfolding nodes_in_stmt nodes_in_stmts
function_holds fs P kept g f heads none =
    let sound : Sound fs (before_parameters g f).scope = record { numbered = λ sort. tt; functions = heads } in
    all_both P (nodes_in_stmts (typed_items (in_function g f) f.items)) (_ ∷ [])
    (items_hold fs P kept (in_function g f) (parameters_sound fs (before_parameters g f) f.params sound) f.items (function_items g f none))
    (all_behind P _ [] (kept.braces (brace_number (in_function g f) f.items) (has_container (typed_items (in_function g f) f.items))) refl)

-- functions, of which so many stand before
functions_hold : (fs : List t.Function) (P : Node → Bool) → IsKept fs P → (g : Context) (i : ℕ) (hs : List Function) → length g.scope.functions ≡ i
    → AllOf (IsThere fs) g.scope.functions → ((n : ℕ) → slice_get fs (i + n) ≡ slice_get (typed_functions g hs) n) → functions_faults g hs ≡ []
    → list_all P (flat_map (λ (f : t.Function). nodes_in_stmt f.body) (typed_functions g hs)) ≡ true
functions_hold fs P kept g i [] same heads there none = refl
functions_hold fs P kept g i (f ∷ hs) same heads there none =
    let both = none_in_both (function_faults g f) (functions_faults (after_function g f) hs) none in
    let own : slice_get fs (length g.scope.functions) ≡ Some (typed_function g f) =
    let at : i + 0 ≡ length g.scope.functions = omega arith in
    subst (λ (n : ℕ). slice_get fs n ≡ Some (typed_function g f)) at (there 0) in
    let is : IsThere fs (head_of g f) = record { function = typed_function g f; there = own; parameters = refl; result = given_is_none f.result } in
    let all = all_append (IsThere fs) g.scope.functions (head_of g f ∷ []) heads (is, tt) in
    let known = known_behind g f in
    let count : length (after_function g f).scope.functions ≡ i + 1 = rw (known, length-append, same) refl in
    all_both P (nodes_in_stmt (typed_function g f).body) (flat_map (λ (h : t.Function). nodes_in_stmt h.body) (typed_functions (after_function g f) hs))
    (function_holds fs P kept g f all both.0)
    (
    functions_hold fs P kept (after_function g f) (i + 1) hs count
    (subst (λ (xs : List FunctionHead). AllOf (IsThere fs) xs) (sym known) all)
    (λ n. let at : i + suc n ≡ (i + 1) + n = omega arith in
    subst (λ (j : ℕ). slice_get fs j ≡ slice_get (typed_functions (after_function g f) hs) n) at (there (suc n))) both.1
    )

-- the functions of a program
pub program_holds : (p : Program) (P : Node → Bool) → IsKept (typed_functions start p) P → functions_faults start p ≡ []
    → list_all P (flat_map (λ (f : t.Function). nodes_in_stmt f.body) (typed_functions start p)) ≡ true
program_holds p P kept none =
    functions_hold (typed_functions start p) P kept start 0 p refl tt
    (λ n. let at : n ≡ 0 + n = omega arith in
    subst (λ (j : ℕ). slice_get (typed_functions start p) j ≡ slice_get (typed_functions start p) n) at refl) none

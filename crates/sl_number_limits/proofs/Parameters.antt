-- Along the parameters of a function that breaks no rule all numbers are within the limits.
use Rattle.std.proofs.Common.{◌≡◌, ℕ, ◌+◌, ◌≤◌, false, List, [], ◌∷◌, length, arith}
use Rattle.std.specs.Prelude.{◌==◌}
use Rattle.std.proofs.lemmas.Bool.Decides.{nat_tests}
use Rattle.sl_base.specs.declared.limits.TheConstants.{PARAMETERS}
use Rattle.sl_syntax.specs.declared.tree.function.Param.{Param}
use Rattle.sl_typing.specs.declared.rules.TheConstants as rule
use Rattle.sl_typing.specs.Scopes.{name_of_parameter, parameter_kind, type_of_kind}
use Rattle.sl_typing.specs.Contexts.{Context, declare_parameters}
use Rattle.sl_typing.specs.Faults.{broken}
use Rattle.sl_typing.specs.StatementFaults.{limit_faults}
use Rattle.sl_typing.specs.ProgramFaults.{behind_parameter, parameter_faults}
use Rattle.sl_number_limits.specs.Fits.{Fits, HasRoom}
use Rattle.sl_number_limits.proofs.Lists.{parts, not_broken}
use Rattle.sl_number_limits.proofs.ContextLaws.{declare_fits, room_behind_variable}
use Rattle.sl_number_limits.proofs.Growth.{Grows, stays, along, declared_grows}
use Rattle.sl_number_limits.proofs.Declarations.{none_passed}

below_limit : (k : ℕ) → (k == PARAMETERS) ≡ false → k ≤ PARAMETERS → k + 1 ≤ PARAMETERS
below_limit k e h = grind (arith, nat_tests)

-- where so many parameters stand before these, all are within the limit
pub parameter_count_fits : (g : Context) (k : ℕ) (qs : List Param) → parameter_faults g k qs ≡ [] → k ≤ PARAMETERS → k + length qs ≤ PARAMETERS
parameter_count_fits g k [] none h = omega arith
parameter_count_fits g k (q ∷ qs) none h =
    let p : broken (k == PARAMETERS) (name_of_parameter q).place rule.TOO_MANY_PARAMETERS ≡ [] = search parts in
    let r : parameter_faults (behind_parameter g q) (k + 1) qs ≡ [] = search parts in
    let e = not_broken (k == PARAMETERS) (name_of_parameter q).place rule.TOO_MANY_PARAMETERS p in
    let l = parameter_count_fits (behind_parameter g q) (k + 1) qs r (below_limit k e h) in
    omega arith

-- behind a parameter
pub parameter_fits : (g : Context) (k : ℕ) (q : Param) (qs : List Param) → Fits g → HasRoom 1 g → parameter_faults g k (q ∷ qs) ≡ []
    → Fits (behind_parameter g q)
parameter_fits g k q qs f r none =
    let x = name_of_parameter q in
    let p : limit_faults g (behind_parameter g q) (name_of_parameter q).place ≡ [] = search parts in
    declare_fits x (type_of_kind (parameter_kind q)) g.scope g f.scope.counts f r (none_passed g (behind_parameter g q) x.place p)

-- room for some parameters is room for one
pub room_for_one : (more : ℕ) (g : Context) → HasRoom (more + 1) g → HasRoom 1 g
room_for_one more g r = record { for_names = omega arith; for_variables = omega arith }

-- behind parameters, where there is room for them
pub parameters_fit : (g : Context) (k : ℕ) (qs : List Param) → Fits g → HasRoom (length qs) g → parameter_faults g k qs ≡ []
    → Fits (declare_parameters qs g)
parameters_fit g k [] f r none = f
parameters_fit g k (q ∷ qs) f r none =
    let more : HasRoom (length qs + 1) g = record { for_names = omega arith; for_variables = omega arith } in
    let p : parameter_faults (behind_parameter g q) (k + 1) qs ≡ [] = search parts in
    parameters_fit (behind_parameter g q) (k + 1) qs (parameter_fits g k q qs f (room_for_one (length qs) g more) none)
    (room_behind_variable (length qs) (name_of_parameter q) (type_of_kind (parameter_kind q)) g more) p

-- what stands before a place only grows along parameters
pub parameters_grow : (g : Context) (qs : List Param) → Grows g (declare_parameters qs g)
parameters_grow g [] = stays g
parameters_grow g (q ∷ qs) =
    along g (behind_parameter g q) (declare_parameters qs (behind_parameter g q))
    (declared_grows (name_of_parameter q) (type_of_kind (parameter_kind q)) g) (parameters_grow (behind_parameter g q) qs)

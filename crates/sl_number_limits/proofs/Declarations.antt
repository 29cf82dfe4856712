-- Behind a declaration that breaks no rule all numbers are within the limits.
use Rattle.std.proofs.Common.{◌≡◌, ℕ, ◌+◌, ◌≤◌, false, [], length, length-append, Option, None, Some, arith}
use Rattle.sl_base.specs.declared.limits.TheConstants.{SITES}
use Rattle.sl_base.specs.declared.place.Place.{Place}
use Rattle.sl_syntax.specs.declared.operator.Access.TheVariants as access
use Rattle.sl_syntax.specs.Tree as s
use Rattle.sl_syntax.specs.Tree.{Expr, Exprs, Initializer, Declaration}
use Rattle.sl_typing.specs.declared.expr_type.ExprType.TheVariants as types
use Rattle.sl_typing.specs.declared.rules.TheConstants as rule
use Rattle.sl_typing.specs.declared.standing.Standing.TheVariants as standing
use Rattle.sl_typing.specs.Types.{value_type}
use Rattle.sl_typing.specs.Scopes.{passes_some_limit}
use Rattle.sl_typing.specs.Contexts.{Context, declare}
use Rattle.sl_typing.specs.TypeOf.{type_of}
use Rattle.sl_typing.specs.Sites.{behind, behind_all, sites_in, sites_in_all, site_count}
use Rattle.sl_typing.specs.Ranges.{reference_type}
use Rattle.sl_typing.specs.Faults.{faults_of_all}
use Rattle.sl_typing.specs.Flow.{behind_value, behind_initializer, behind_declaration}
use Rattle.sl_typing.specs.StatementFaults.{expr_faults, value_faults, element_faults, initializer_faults, limit_faults, declaration_faults}
use Rattle.sl_number_limits.specs.Fits.{Fits, HasRoom}
use Rattle.sl_number_limits.proofs.ValueFaults.{scalar_value, scalar_limit, auto_value, auto_limit, reference_value, reference_limit}
use Rattle.sl_number_limits.proofs.ValueFaults.{container_value, container_limit, first_element, other_elements}
use Rattle.sl_number_limits.proofs.Lists.{not_broken}
use Rattle.sl_number_limits.proofs.Expressions.{sites_fit, sites_fit_all}
use Rattle.sl_number_limits.proofs.ContextLaws.{sites_come, room_behind_sites, declare_fits}

-- the sites of an expression, and of arguments
pub expr_sites_fit : (g : Context) (e : Expr) → Fits g → expr_faults g e ≡ [] → length g.sites + site_count g.scope e ≤ SITES
expr_sites_fit g e f none = sites_fit g.scope (length g.sites) standing.Plain e none f.sites

pub argument_sites_fit : (g : Context) (xs : Exprs) → Fits g → faults_of_all g.scope (length g.sites) standing.Plain xs ≡ []
    → length g.sites + length (sites_in_all g.scope xs) ≤ SITES
argument_sites_fit g xs f none = sites_fit_all g.scope (length g.sites) standing.Plain xs none f.sites

-- behind an expression
pub behind_fits : (g : Context) (e : Expr) → Fits g → expr_faults g e ≡ [] → Fits (behind g e)
unfolding site_count
behind_fits g e f none = sites_come (sites_in g.scope e) g f (expr_sites_fit g e f none)

-- behind arguments
pub behind_all_fits : (g : Context) (xs : Exprs) → Fits g → faults_of_all g.scope (length g.sites) standing.Plain xs ≡ [] → Fits (behind_all g xs)
behind_all_fits g xs f none = sites_come (sites_in_all g.scope xs) g f (argument_sites_fit g xs f none)

-- behind an initialiser, which may be missing
pub value_fits : (g : Context) (value : Option Expr) → Fits g → value_faults g value ≡ [] → Fits (behind_value g value)
value_fits g None f none = f
value_fits g (Some e) f none = behind_fits g e f none

pub value_has_room : (g : Context) (value : Option Expr) → HasRoom 1 g → HasRoom 1 (behind_value g value)
value_has_room g None r = r
value_has_room g (Some e) r = room_behind_sites 1 (sites_in g.scope e) g r

-- the sites of elements in braces
pub elements_fit : (g : Context) (k : ℕ) (xs : Exprs) → Fits g → element_faults g k xs ≡ []
    → length g.sites + length (sites_in_all g.scope xs) ≤ SITES
unfolding sites_in_all
elements_fit g k s.none f none = let l = f.sites in omega arith
elements_fit g k (s.with x xs) f none =
    let l = elements_fit (behind g x) (k + 1) xs (behind_fits g x f (first_element g k x xs none)) (other_elements g k x xs none) in
    omega (arith, length-append {A = Place})

-- behind what a container is made from
pub initializer_fits : (g : Context) (value : Initializer) → Fits g → initializer_faults g value ≡ [] → Fits (behind_initializer g value)
initializer_fits g s.absent f none = f
initializer_fits g (s.copies x) f none = f
initializer_fits g (s.braces equal xs) f none = sites_come (sites_in_all g.scope xs) g f (elements_fit g 0 xs f none)
initializer_fits g (s.arguments xs) f none = behind_all_fits g xs f none

pub initializer_has_room : (g : Context) (value : Initializer) → HasRoom 1 g → HasRoom 1 (behind_initializer g value)
initializer_has_room g s.absent r = r
initializer_has_room g (s.copies x) r = r
initializer_has_room g (s.braces equal xs) r = room_behind_sites 1 (sites_in_all g.scope xs) g r
initializer_has_room g (s.arguments xs) r = room_behind_sites 1 (sites_in_all g.scope xs) g r

-- no limit is passed between two places
pub none_passed : (g h : Context) (at : Place) → limit_faults g h at ≡ [] → passes_some_limit g.scope h.scope ≡ false
none_passed g h at none = not_broken (passes_some_limit g.scope h.scope) at rule.TOO_MANY_VARIABLES none

-- behind a declaration
pub declaration_fits : (g : Context) (d : Declaration) → Fits g → HasRoom 1 g → declaration_faults g d ≡ [] → Fits (behind_declaration g d)
declaration_fits g (s.declares_scalar at type x value) f r none =
    let u = types.Scalar type in
    let h = behind_value g value in
    declare_fits x u g.scope h f.scope.counts (value_fits g value f (scalar_value g at type x value none)) (value_has_room g value r)
    (none_passed g (declare x u h) x.place (scalar_limit g at type x value none))
declaration_fits g (s.declares_auto at x e) f r none =
    let u = value_type (type_of g.scope e) in
    declare_fits x u g.scope (behind g e) f.scope.counts (behind_fits g e f (auto_value g at x e none))
    (room_behind_sites 1 (sites_in g.scope e) g r) (none_passed g (declare x u (behind g e)) x.place (auto_limit g at x e none))
declaration_fits g (s.declares_reference head x e) f r none =
    let u = reference_type head (type_of g.scope e) in
    declare_fits x u g.scope (behind g e) f.scope.counts (behind_fits g e f (reference_value g head x e none))
    (room_behind_sites 1 (sites_in g.scope e) g r) (none_passed g (declare x u (behind g e)) x.place (reference_limit g head x e none))
declaration_fits g (s.declares_container ct x value) f r none =
    let u = types.Container access.Whole ct.form in
    let h = behind_initializer g value in
    declare_fits x u g.scope h f.scope.counts (initializer_fits g value f (container_value g ct x value none)) (initializer_has_room g value r)
    (none_passed g (declare x u h) x.place (container_limit g ct x value none))

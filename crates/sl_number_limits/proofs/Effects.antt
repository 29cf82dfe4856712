-- Behind an effect, a condition and the parts of a `for` that break no rule all numbers are within the limits.
use Rattle.std.proofs.Common.{◌≡◌, Bool, List, [], ◌∷◌, length, Option, None, Some}
use Rattle.std.specs.Prelude.{◌==◌, ◌&&◌, if◌then◌else◌}
use Rattle.sl_base.specs.declared.limits.TheConstants.{SITES}
use Rattle.sl_base.specs.declared.place.Place.{Place}
use Rattle.sl_syntax.specs.Tree as s
use Rattle.sl_syntax.specs.Tree.{Expr, Out, Effect, Cond, First}
use Rattle.sl_typing.specs.declared.rules.TheConstants as rule
use Rattle.sl_typing.specs.Contexts.{Context, with_sites}
use Rattle.sl_typing.specs.Sites.{behind, is_assignment_site}
use Rattle.sl_typing.specs.Flow.{behind_out, behind_outs, behind_left, behind_effect, behind_cond, behind_first, behind_test, behind_last}
use Rattle.sl_typing.specs.StatementFaults.{out_faults, outs_faults, site_faults, effect_faults, cond_faults, first_faults, test_faults}
use Rattle.sl_typing.specs.StatementFaults.{last_faults}
use Rattle.sl_number_limits.specs.Fits.{Fits, HasRoom}
use Rattle.sl_number_limits.proofs.ValueFaults.{printed, first_out, other_outs, left_side, equals_sign, right_side}
use Rattle.sl_number_limits.proofs.Lists.{not_broken}
use Rattle.sl_number_limits.proofs.Expressions.{one_site_fits}
use Rattle.sl_number_limits.proofs.ContextLaws.{sites_come}
use Rattle.sl_number_limits.proofs.Declarations.{behind_fits, declaration_fits}

-- behind an item of a print
pub out_fits : (g : Context) (o : Out) → Fits g → out_faults g o ≡ [] → Fits (behind_out g o)
out_fits g (s.value e) f none = behind_fits g e f none
out_fits g o f none = f

-- behind the items of a print
pub outs_fit : (g : Context) (os : List Out) → Fits g → outs_faults g os ≡ [] → Fits (behind_outs g os)
outs_fit g [] f none = f
outs_fit g (o ∷ os) f none = outs_fit (behind_out g o) os (out_fits g o f (first_out g o os none)) (other_outs g o os none)

-- a site that stands alone, as a closing brace
pub site_fits : (g : Context) (is : Bool) (at : Place) → Fits g → site_faults g is at ≡ []
    → Fits (with_sites (if is then at ∷ [] else []) g)
site_fits g is at f none =
    sites_come (if is then at ∷ [] else []) g f
    (one_site_fits is (length g.sites) at (not_broken (is && (length g.sites == SITES)) at rule.TOO_MANY_SITES none) f.sites)

-- behind the left side of an assignment, and its `=`
pub left_fits : (g : Context) (w : Effect) → Fits g → effect_faults g w ≡ [] → Fits (behind_left g w)
left_fits g (s.assigns x op at y) f none =
    site_fits (behind g x) (is_assignment_site g.scope x op) at (behind_fits g x f (left_side g x op at y none)) (equals_sign g x op at y none)
left_fits g w f none = f

-- behind an effect
pub effect_fits : (g : Context) (w : Effect) → Fits g → effect_faults g w ≡ [] → Fits (behind_effect g w)
effect_fits g (s.reads r) f none = f
effect_fits g (s.prints at os) f none = outs_fit g os f (printed g at os none)
effect_fits g (s.evaluates e) f none = behind_fits g e f none
effect_fits g (s.assigns x op at y) f none =
    let w = s.assigns x op at y in
    behind_fits (behind_left g w) y (left_fits g w f none) (right_side g x op at y none)

-- behind a condition
pub cond_fits : (g : Context) (k : Cond) → Fits g → cond_faults g k ≡ [] → Fits (behind_cond g k)
cond_fits g (s.tests e) f none = behind_fits g e f none
cond_fits g k f none = f

-- behind the first part of a `for`
pub first_fits : (g : Context) (first : Option First) → Fits g → HasRoom 1 g → first_faults g first ≡ [] → Fits (behind_first g first)
first_fits g None f r none = f
first_fits g (Some (s.first_scalar at type x e)) f r none = declaration_fits g (s.declares_scalar at type x (Some e)) f r none
first_fits g (Some (s.first_auto at x e)) f r none = declaration_fits g (s.declares_auto at x e) f r none
first_fits g (Some (s.first_effect w)) f r none = effect_fits g w f none

-- behind its condition
pub test_fits : (g : Context) (k : Option Cond) → Fits g → test_faults g k ≡ [] → Fits (behind_test g k)
test_fits g None f none = f
test_fits g (Some k) f none = cond_fits g k f none

-- behind its last part
pub last_fits : (g : Context) (last : Option Effect) → Fits g → last_faults g last ≡ [] → Fits (behind_last g last)
last_fits g None f none = f
last_fits g (Some w) f none = effect_fits g w f none

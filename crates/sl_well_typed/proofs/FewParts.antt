-- The parts of statements that break no rule pass no limit of sites.
use Rattle.std.proofs.Common.{◌≡◌, ◌==◌, ◌≤◌, Bool, true, false, ◌&&◌, List, [], ◌∷◌, ◌++◌, length, Option, Some, None, arith, length-append}
use Rattle.std.specs.Prelude.{if◌then◌else◌}
use Rattle.std.specs.List.{list_any}
use Rattle.std.proofs.lemmas.Bool.{eqb-false}
use Rattle.sl_base.specs.declared.limits.TheConstants.{SITES}
use Rattle.sl_base.specs.declared.place.Place.{Place}
use Rattle.sl_syntax.specs.declared.operator.Assignment.{Assignment}
use Rattle.sl_syntax.specs.Tree as s
use Rattle.sl_syntax.specs.Tree.{Expr, Exprs, Out, Effect, Cond}
use Rattle.sl_typing.specs.declared.rules.TheConstants as rule
use Rattle.sl_typing.specs.declared.standing.Standing.TheVariants as standing
use Rattle.sl_typing.specs.Contexts.{Context}
use Rattle.sl_typing.specs.WrongType.{wrong_assignment}
use Rattle.sl_typing.specs.Rules.{assigns_const, assigns_weaker}
use Rattle.sl_typing.specs.Faults.{broken}
use Rattle.sl_typing.specs.Sites.{behind, is_assignment_site}
use Rattle.sl_typing.specs.Flow.{behind_value, behind_outs, behind_left, behind_effect, behind_cond}
use Rattle.sl_typing.specs.StatementFaults.{expr_faults, outs_faults, wrong_out, site_faults, effect_faults, cond_faults, value_faults}
use Rattle.sl_well_typed.proofs.Parts.{none_in_both, none_in_three, unbroken}
use Rattle.sl_well_typed.proofs.Containers.{sites_behind}
use Rattle.sl_well_typed.proofs.FewSites.{expression_few}

-- behind an expression
pub expr_few : (g : Context) (e : Expr) → expr_faults g e ≡ [] → length g.sites ≤ SITES → length (behind g e).sites ≤ SITES
expr_few g e none few =
    let all = expression_few g.scope (length g.sites) standing.Plain e none few in let count = sites_behind g e in omega (arith, all, count)

-- behind a value that may be missing
pub value_few : (g : Context) (v : Option Expr) → value_faults g v ≡ [] → length g.sites ≤ SITES → length (behind_value g v).sites ≤ SITES
value_few g None none few = few
value_few g (Some e) none few = expr_few g e none few

-- behind a condition
pub cond_few : (g : Context) (k : Cond) → cond_faults g k ≡ [] → length g.sites ≤ SITES → length (behind_cond g k).sites ≤ SITES
cond_few g (s.tests e) none few = expr_few g e none few
cond_few g (s.tests_read r) none few = few
cond_few g (s.tests_no_read at r) none few = few

-- behind the items of a print
outs_few : (g : Context) (xs : List Out) → outs_faults g xs ≡ [] → length g.sites ≤ SITES → length (behind_outs g xs).sites ≤ SITES
outs_few g [] none few = few
outs_few g (s.text at bytes ∷ xs) none few = outs_few g xs none few
outs_few g (s.end_line at ∷ xs) none few = outs_few g xs none few
outs_few g (s.value e ∷ xs) none few =
    let both = none_in_both (expr_faults g e) (outs_faults (behind g e) xs) none in
    outs_few (behind g e) xs both.1 (expr_few g e both.0 few)

-- a site that stands here, if it is one
pub site_few : (g : Context) (is_site : Bool) (at : Place) → (is_site && (length g.sites == SITES)) ≡ false → length g.sites ≤ SITES
    → length (g.sites ++ (if is_site then at ∷ [] else [])) ≤ SITES
site_few g true at h few =
    let other = eqb-false (length g.sites) SITES h in let count = length-append g.sites (at ∷ []) in omega (arith, other, count)
site_few g false at h few = let count = length-append g.sites [] in omega (arith, count)

-- behind an assignment
assigns_few : (g : Context) (x : Expr) (op : Assignment) (at : Place) (y : Expr) → effect_faults g (s.assigns x op at y) ≡ []
    → length g.sites ≤ SITES → length (behind_effect g (s.assigns x op at y)).sites ≤ SITES
assigns_few g x op at y none few =
    let left = behind_left g (s.assigns x op at y) in
    let wrong = broken (wrong_assignment g.scope x op y) at rule.WRONG_TYPE in
    let const = broken (assigns_const g.scope x) at rule.WRITE_TO_CONST in
    let weak = broken (assigns_weaker g.scope x op) at rule.WEAKER_ITERATOR in
    let is = is_assignment_site g.scope x op in
    let site = site_faults (behind g x) is at in
    let h5 = none_in_both (expr_faults g x ++ expr_faults left y ++ wrong ++ const ++ weak) site none in
    let h4 = none_in_both (expr_faults g x ++ expr_faults left y ++ wrong ++ const) weak h5.0 in
    let h3 = none_in_both (expr_faults g x ++ expr_faults left y ++ wrong) const h4.0 in
    let h2 = none_in_three (expr_faults g x) (expr_faults left y) wrong h3.0 in
    let first = expr_few g x h2.0 few in
    let own = unbroken (is && (length (behind g x).sites == SITES)) at rule.TOO_MANY_SITES h5.1 in
    expr_few left y h2.1 (site_few (behind g x) is at own first)

-- behind an effect
pub effect_few : (g : Context) (w : Effect) → effect_faults g w ≡ [] → length g.sites ≤ SITES → length (behind_effect g w).sites ≤ SITES
effect_few g (s.reads r) none few = few
effect_few g (s.prints at xs) none few =
    outs_few g xs (none_in_both (outs_faults g xs) (broken (list_any (wrong_out g) xs) at rule.WRONG_TYPE) none).0 few
effect_few g (s.evaluates e) none few = expr_few g e none few
effect_few g (s.assigns x op at y) none few = assigns_few g x op at y none few

-- The number of a site is within the limit: of a node, of the `=` of an assignment, and of a closing brace.
use Rattle.std.proofs.Common.{◌≡◌, ℕ, ◌<◌, ◌≤◌, Bool, true, false, [], length, Some, None, arith}
use Rattle.std.specs.Prelude.{◌==◌, ◌&&◌, if◌then◌else◌}
use Rattle.std.proofs.lemmas.Bool.Decides.{nat_tests}
use Rattle.sl_base.specs.declared.limits.TheConstants.{SITES}
use Rattle.sl_base.specs.declared.place.Place.{Place}
use Rattle.sl_syntax.specs.declared.operator.Assignment.{Assignment}
use Rattle.sl_syntax.specs.Tree as s
use Rattle.sl_syntax.specs.Tree.{Expr, Items}
use Rattle.sl_typing.specs.declared.rules.TheConstants as rule
use Rattle.sl_typing.specs.declared.scope.Scope.{Scope}
use Rattle.sl_typing.specs.declared.standing.Standing.{Standing}
use Rattle.sl_typing.specs.declared.standing.Standing.TheVariants as standing
use Rattle.sl_typing.specs.Contexts.{Context}
use Rattle.sl_typing.specs.Looks.{place_of}
use Rattle.sl_typing.specs.Sites.{is_site, own_site, site_number, at_word, inside, behind, is_assignment_site, declares_container}
use Rattle.sl_typing.specs.Rules.{is_site_too_many}
use Rattle.sl_typing.specs.Faults.{broken, own_faults, faults, faults_of_all}
use Rattle.sl_typing.specs.Flow.{after_items}
use Rattle.sl_typing.specs.StatementFaults.{site_faults, effect_faults}
use Rattle.sl_typing.specs.StatementNumbering.{assignment_number, brace_number}
use Rattle.sl_number_limits.specs.Fits.{Fits}
use Rattle.sl_number_limits.proofs.ValueFaults.{left_side, equals_sign}
use Rattle.sl_number_limits.proofs.Lists.{parts, not_broken}
use Rattle.sl_number_limits.proofs.Expressions.{own_site_fits, sites_fit}
use Rattle.sl_number_limits.proofs.Declarations.{behind_fits}

-- before a node's own word
pub word_fits : (g : Scope) (n : ℕ) (how : Standing) (e : Expr) → faults g n how e ≡ [] → n ≤ SITES → at_word g n e ≤ SITES
unfolding faults faults_of_all at_word
word_fits g n how (s.index x at y) none h =
    let p : faults g n standing.Plain x ≡ [] = search parts in
    sites_fit g n standing.Plain x p h
word_fits g n how (s.member_call x f xs) none h =
    let p : faults g n standing.Plain x ≡ [] = search parts in
    sites_fit g n standing.Plain x p h
word_fits g n how e none h = h

-- before its arguments
pub inside_fits : (g : Scope) (n : ℕ) (how : Standing) (e : Expr) → faults g n how e ≡ [] → n ≤ SITES → inside g n e ≤ SITES
unfolding faults faults_of_all inside own_site is_site at_word
inside_fits g n how (s.library_call f xs) none h =
    let p : own_faults g n how (s.library_call f xs) ≡ [] = search parts in
    own_site_fits g n how (s.library_call f xs) p (word_fits g n how (s.library_call f xs) none h)
inside_fits g n how (s.index x at y) none h =
    let p : own_faults g n how (s.index x at y) ≡ [] = search parts in
    own_site_fits g n how (s.index x at y) p (word_fits g n how (s.index x at y) none h)
inside_fits g n how (s.member_call x f xs) none h =
    let p : own_faults g n how (s.member_call x f xs) ≡ [] = search parts in
    own_site_fits g n how (s.member_call x f xs) p (word_fits g n how (s.member_call x f xs) none h)
inside_fits g n how e none h = omega arith

-- a number is told where the limit isn't reached
number_told : (is : Bool) (n k : ℕ) → (is && (n == SITES)) ≡ false → n ≤ SITES → (if is then Some n else None) ≡ Some k → k < SITES
number_told true n k e h told = let same : n ≡ k = cc in grind (arith, nat_tests)
number_told false n k e h told = absurd (cc)

-- of a node that breaks no rule of its own
pub own_number_fits : (g : Scope) (n : ℕ) (how : Standing) (e : Expr) → own_faults g n how e ≡ [] → at_word g n e ≤ SITES
    → (k : ℕ) → site_number g n e ≡ Some k → k < SITES
unfolding own_faults is_site_too_many site_number
own_number_fits g n how e none h k told =
    let last : broken (is_site_too_many g n e) (place_of e) rule.TOO_MANY_SITES ≡ [] = search parts in
    number_told (is_site g e) (at_word g n e) k (not_broken (is_site_too_many g n e) (place_of e) rule.TOO_MANY_SITES last) h told

-- of a node of an expression that breaks no rule
pub site_number_fits : (g : Scope) (n : ℕ) (how : Standing) (e : Expr) → faults g n how e ≡ [] → n ≤ SITES
    → (k : ℕ) → site_number g n e ≡ Some k → k < SITES
unfolding faults faults_of_all site_number is_site
site_number_fits g n how (s.library_call f xs) none h k told =
    let p : own_faults g n how (s.library_call f xs) ≡ [] = search parts in
    own_number_fits g n how (s.library_call f xs) p (word_fits g n how (s.library_call f xs) none h) k told
site_number_fits g n how (s.index x at y) none h k told =
    let p : own_faults g n how (s.index x at y) ≡ [] = search parts in
    own_number_fits g n how (s.index x at y) p (word_fits g n how (s.index x at y) none h) k told
site_number_fits g n how (s.member_call x f xs) none h k told =
    let p : own_faults g n how (s.member_call x f xs) ≡ [] = search parts in
    own_number_fits g n how (s.member_call x f xs) p (word_fits g n how (s.member_call x f xs) none h) k told
site_number_fits g n how e none h k told = absurd (cc)

-- of the `=` of an assignment
pub assignment_number_fits : (g : Context) (x : Expr) (op : Assignment) (at : Place) (y : Expr) → Fits g
    → effect_faults g (s.assigns x op at y) ≡ [] → (k : ℕ) → assignment_number (behind g x) x op ≡ Some k → k < SITES
assignment_number_fits g x op at y f none k told =
    let p = left_side g x op at y none in
    let q = equals_sign g x op at y none in
    let e = not_broken (is_assignment_site g.scope x op && (length (behind g x).sites == SITES)) at rule.TOO_MANY_SITES q in
    number_told (is_assignment_site g.scope x op) (length (behind g x).sites) k e (behind_fits g x f p).sites told

-- of a closing brace
pub brace_number_fits : (g : Context) (items : Items) (close : Place) → Fits (after_items g items)
    → site_faults (after_items g items) (declares_container items) close ≡ [] → (k : ℕ) → brace_number g items ≡ Some k → k < SITES
brace_number_fits g items close f none k told =
    let e = not_broken (declares_container items && (length (after_items g items).sites == SITES)) close rule.TOO_MANY_SITES none in
    number_told (declares_container items) (length (after_items g items).sites) k e f.sites told

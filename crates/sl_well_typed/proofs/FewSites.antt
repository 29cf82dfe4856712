-- An expression that breaks no rule passes no limit of sites.
use Rattle.std.proofs.Common.{◌≡◌, ℕ, ◌+◌, ◌==◌, ◌≤◌, Bool, true, false, ◌&&◌, List, [], ◌∷◌, ◌++◌, length, refl, arith, length-append}
use Rattle.std.specs.Prelude.{if◌then◌else◌}
use Rattle.std.proofs.lemmas.Bool.{eqb-false}
use Rattle.sl_base.specs.declared.limits.TheConstants.{SITES}
use Rattle.sl_base.specs.declared.place.Place.{Place}
use Rattle.sl_syntax.specs.Tree as s
use Rattle.sl_syntax.specs.Tree.{Expr, Exprs}
use Rattle.sl_typing.specs.declared.scope.Scope.{Scope}
use Rattle.sl_typing.specs.declared.standing.Standing.{Standing}
use Rattle.sl_typing.specs.declared.standing.Standing.TheVariants as standing
use Rattle.sl_typing.specs.Looks.{place_of}
use Rattle.sl_typing.specs.Sites.{is_site, own_site, sites_in, sites_in_all, site_count, at_word, inside}
use Rattle.sl_typing.specs.Rules.{is_site_too_many}
use Rattle.sl_typing.specs.Faults.{part_standing, last_standing, standing_before, faults, faults_of_all}
use Rattle.sl_well_typed.proofs.Parts.{call_kept, library_call_kept, parentheses_kept, prefix_kept, binary_kept, postfix_kept, index_kept}
use Rattle.sl_well_typed.proofs.Parts.{member_call_kept, member_kept, arguments_kept}

-- a node's own site
own_few : (g : Scope) (n : ℕ) (e : Expr) → is_site_too_many g n e ≡ false → at_word g n e ≤ SITES → inside g n e ≤ SITES
unfolding is_site_too_many own_site inside
own_few g n e h few =
    elim (is_site g e) as (λ (b : Bool). (b && (at_word g n e == SITES)) ≡ false
    → at_word g n e + length (if b then place_of e ∷ [] else []) ≤ SITES) [
      | true ↦ λ k. let other = eqb-false (at_word g n e) SITES k in omega (arith, other)
      | false ↦ λ k. omega arith
    ] h

-- three lists of sites, one behind another
three_counted : (xs ys zs : List Place) → length (xs ++ ys ++ zs) ≡ length xs + length ys + length zs
three_counted xs ys zs = rw (length-append, length-append) refl

mutual
  unfolding site_count sites_in sites_in_all at_word inside

  -- an expression before which n sites stand
  pub expression_few : (g : Scope) (n : ℕ) (how : Standing) (e : Expr) → faults g n how e ≡ [] → n ≤ SITES → n + site_count g e ≤ SITES
  expression_few g n how (s.number at k) none few = omega arith
  expression_few g n how (s.truth at x) none few = omega arith
  expression_few g n how (s.name x) none few = omega arith
  expression_few g n how (s.call f xs) none few = arguments_few g n standing.Plain xs (call_kept g n how f xs none).1 few
  expression_few g n how (s.library_call f xs) none few =
      let e = s.library_call f xs in
      let kept = library_call_kept g n how f xs none in
      let inner : inside g n e ≤ SITES = own_few g n e kept.1.sites few in
      let all = arguments_few g (inside g n e) (last_standing f.name xs) xs kept.0 inner in
      let count = length-append (own_site g e) (sites_in_all g xs) in
      omega (arith, all, count)
  expression_few g n how (s.parentheses at x) none few = expression_few g n standing.Plain x (parentheses_kept g n how at x none) few
  expression_few g n how (s.prefix op at x) none few = expression_few g n standing.Plain x (prefix_kept g n how op at x none).0 few
  expression_few g n how (s.binary x op at y) none few =
      let kept = binary_kept g n how x op at y none in
      let first = expression_few g n standing.Plain x kept.0 few in
      let second = expression_few g (n + site_count g x) standing.Plain y kept.1 first in
      let count = length-append (sites_in g x) (sites_in g y) in
      omega (arith, second, count)
  expression_few g n how (s.postfix x op at) none few = expression_few g n standing.Plain x (postfix_kept g n how x op at none).0 few
  expression_few g n how (s.index x at y) none few =
      let e = s.index x at y in
      let kept = index_kept g n how x at y none in
      let first = expression_few g n standing.Plain x kept.0 few in
      let inner : inside g n e ≤ SITES = own_few g n e kept.2.sites first in
      let second = expression_few g (inside g n e) standing.Plain y kept.1 inner in
      let count = three_counted (sites_in g x) (own_site g e) (sites_in g y) in
      omega (arith, second, count)
  expression_few g n how (s.member_call x f xs) none few =
      let e = s.member_call x f xs in
      let kept = member_call_kept g n how x f xs none in
      let first = expression_few g n standing.Plain x kept.0 few in
      let inner : inside g n e ≤ SITES = own_few g n e kept.2.sites first in
      let second = arguments_few g (inside g n e) standing.Plain xs kept.1 inner in
      let count = three_counted (sites_in g x) (own_site g e) (sites_in_all g xs) in
      omega (arith, second, count)
  expression_few g n how (s.member x selector at f) none few =
      expression_few g n (part_standing selector f.name) x (member_kept g n how x selector at f none).0 few

  -- arguments before which n sites stand
  pub arguments_few : (g : Scope) (n : ℕ) (last : Standing) (xs : Exprs) → faults_of_all g n last xs ≡ [] → n ≤ SITES
      → n + length (sites_in_all g xs) ≤ SITES
  arguments_few g n last s.none none few = omega arith
  arguments_few g n last (s.with x xs) none few =
      let kept = arguments_kept g n last x xs none in
      let first = expression_few g n (standing_before xs last) x kept.0 few in
      let rest = arguments_few g (n + site_count g x) last xs kept.1 first in
      let count = length-append (sites_in g x) (sites_in_all g xs) in
      omega (arith, rest, count)

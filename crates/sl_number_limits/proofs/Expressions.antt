-- The sites of an expression that breaks no rule are within the limit.
use Rattle.std.proofs.Common.{◌≡◌, ℕ, ◌+◌, ◌≤◌, Bool, true, false, ◌&&◌, [], ◌∷◌, length, length-append, arith}
use Rattle.std.specs.Prelude.{◌==◌, if◌then◌else◌}
use Rattle.std.proofs.lemmas.Bool.Decides.{nat_tests}
use Rattle.sl_base.specs.declared.limits.TheConstants.{SITES}
use Rattle.sl_base.specs.declared.place.Place.{Place}
use Rattle.sl_syntax.specs.Tree as s
use Rattle.sl_syntax.specs.Tree.{Expr, Exprs}
use Rattle.sl_typing.specs.declared.rules.TheConstants as rule
use Rattle.sl_typing.specs.declared.scope.Scope.{Scope}
use Rattle.sl_typing.specs.declared.standing.Standing.{Standing}
use Rattle.sl_typing.specs.declared.standing.Standing.TheVariants as standing
use Rattle.sl_typing.specs.Looks.{place_of}
use Rattle.sl_typing.specs.Sites.{is_site, own_site, sites_in, sites_in_all, site_count, at_word, inside}
use Rattle.sl_typing.specs.Rules.{is_site_too_many}
use Rattle.sl_typing.specs.Faults.{broken, own_faults, faults, faults_of_all, standing_before, last_standing, part_standing}
use Rattle.sl_number_limits.proofs.Lists.{parts, not_broken}

-- one more site, where the limit isn't reached
pub one_site_fits : (is : Bool) (n : ℕ) (at : Place) → (is && (n == SITES)) ≡ false → n ≤ SITES → n + length (if is then at ∷ [] else []) ≤ SITES
one_site_fits true n at e h = grind (arith, nat_tests)
one_site_fits false n at e h = omega arith

-- a node's own site, where so many stand before it
pub own_site_fits : (g : Scope) (n : ℕ) (how : Standing) (e : Expr) → own_faults g n how e ≡ [] → at_word g n e ≤ SITES → inside g n e ≤ SITES
unfolding own_faults is_site_too_many inside own_site
own_site_fits g n how e none h =
    let last : broken (is_site_too_many g n e) (place_of e) rule.TOO_MANY_SITES ≡ [] = search parts in
    one_site_fits (is_site g e) (at_word g n e) (place_of e) (not_broken (is_site_too_many g n e) (place_of e) rule.TOO_MANY_SITES last) h

mutual
  unfolding faults faults_of_all sites_in sites_in_all site_count inside at_word

  -- the sites of an expression
  pub sites_fit : (g : Scope) (n : ℕ) (how : Standing) (e : Expr) → faults g n how e ≡ [] → n ≤ SITES → n + site_count g e ≤ SITES
  sites_fit g n how (s.number at m) none h = omega arith
  sites_fit g n how (s.truth at x) none h = omega arith
  sites_fit g n how (s.name x) none h = omega arith
  sites_fit g n how (s.call f xs) none h =
      let p : faults_of_all g n standing.Plain xs ≡ [] = search parts in
      sites_fit_all g n standing.Plain xs p h
  sites_fit g n how (s.library_call f xs) none h =
      let p : faults_of_all g (inside g n (s.library_call f xs)) (last_standing f.name xs) xs ≡ [] = search parts in
      let q : own_faults g n how (s.library_call f xs) ≡ [] = search parts in
      let k = sites_fit_all g (inside g n (s.library_call f xs)) (last_standing f.name xs) xs p (own_site_fits g n how (s.library_call f xs) q h) in
      omega (arith, length-append {A = Place})
  sites_fit g n how (s.parentheses at x) none h = sites_fit g n standing.Plain x none h
  sites_fit g n how (s.prefix op at x) none h =
      let p : faults g n standing.Plain x ≡ [] = search parts in
      sites_fit g n standing.Plain x p h
  sites_fit g n how (s.binary x op at y) none h =
      let p : faults g n standing.Plain x ≡ [] = search parts in
      let q : faults g (n + site_count g x) standing.Plain y ≡ [] = search parts in
      let k = sites_fit g (n + site_count g x) standing.Plain y q (sites_fit g n standing.Plain x p h) in
      omega (arith, length-append {A = Place})
  sites_fit g n how (s.postfix x op at) none h =
      let p : faults g n standing.Plain x ≡ [] = search parts in
      sites_fit g n standing.Plain x p h
  sites_fit g n how (s.index x at y) none h =
      let p : faults g n standing.Plain x ≡ [] = search parts in
      let q : faults g (inside g n (s.index x at y)) standing.Plain y ≡ [] = search parts in
      let r : own_faults g n how (s.index x at y) ≡ [] = search parts in
      let k = sites_fit g (inside g n (s.index x at y)) standing.Plain y q
      (own_site_fits g n how (s.index x at y) r (sites_fit g n standing.Plain x p h)) in
      omega (arith, length-append {A = Place})
  sites_fit g n how (s.member_call x f xs) none h =
      let p : faults g n standing.Plain x ≡ [] = search parts in
      let q : faults_of_all g (inside g n (s.member_call x f xs)) standing.Plain xs ≡ [] = search parts in
      let r : own_faults g n how (s.member_call x f xs) ≡ [] = search parts in
      let k = sites_fit_all g (inside g n (s.member_call x f xs)) standing.Plain xs q
      (own_site_fits g n how (s.member_call x f xs) r (sites_fit g n standing.Plain x p h)) in
      omega (arith, length-append {A = Place})
  sites_fit g n how (s.member x selector at f) none h =
      let p : faults g n (part_standing selector f.name) x ≡ [] = search parts in
      sites_fit g n (part_standing selector f.name) x p h

  -- those of arguments
  pub sites_fit_all : (g : Scope) (n : ℕ) (last : Standing) (xs : Exprs) → faults_of_all g n last xs ≡ [] → n ≤ SITES
      → n + length (sites_in_all g xs) ≤ SITES
  sites_fit_all g n last s.none none h = omega arith
  sites_fit_all g n last (s.with x xs) none h =
      let p : faults g n (standing_before xs last) x ≡ [] = search parts in
      let q : faults_of_all g (n + site_count g x) last xs ≡ [] = search parts in
      let k = sites_fit_all g (n + site_count g x) last xs q (sites_fit g n (standing_before xs last) x p h) in
      omega (arith, length-append {A = Place})

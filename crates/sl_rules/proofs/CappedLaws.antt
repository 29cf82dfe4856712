-- The faults of an expression depend on the number of sites before it as far as the limit.
use Rattle.std.proofs.Common.{◌≡◌, refl, ℕ, ◌+◌, ◌==◌, ◌&&◌, ◌++◌, Bool, List, ap, arith, length}
use Rattle.std.proofs.lemmas.Bool.Decides.{nat_tests}
use Rattle.sl_base.specs.declared.limits.TheConstants.{SITES}
use Rattle.sl_syntax.specs.Tree as s
use Rattle.sl_syntax.specs.Tree.{Expr, Exprs}
use Rattle.sl_typing.specs.declared.fault.Fault.{Fault}
use Rattle.sl_typing.specs.declared.scope.Scope.{Scope}
use Rattle.sl_typing.specs.declared.standing.Standing.{Standing}
use Rattle.sl_typing.specs.declared.standing.Standing.TheVariants as standing
use Rattle.sl_typing.specs.Faults.{own_faults, faults, faults_of_all, last_standing, standing_before, part_standing}
use Rattle.sl_typing.specs.Rules.{is_site_too_many}
use Rattle.sl_typing.specs.Sites.{is_site, own_site, site_count, at_word, inside}
use Rattle.sl_expr_types.specs.Capped.{capped}

pub capped-twice : (n : ℕ) → capped (capped n) ≡ capped n
unfolding capped
capped-twice n = omega arith

pub capped-add : (a b : ℕ) → capped (capped a + capped b) ≡ capped (a + b)
unfolding capped
capped-add a b = omega arith

-- a number more on both sides
add-same : (n m k : ℕ) → capped n ≡ capped m → capped (n + k) ≡ capped (m + k)
unfolding capped
add-same n m k h = omega arith

-- whether it is the last number within the limit
pub last-same : (n m : ℕ) → capped n ≡ capped m → (n == SITES) ≡ (m == SITES)
unfolding capped
last-same n m h = grind (arith, nat_tests)

at_word-same : (g : Scope) (n m : ℕ) (e : Expr) → capped n ≡ capped m → capped (at_word g n e) ≡ capped (at_word g m e)
unfolding at_word
at_word-same g n m (s.index x at y) h = add-same n m (site_count g x) h
at_word-same g n m (s.member_call x f xs) h = add-same n m (site_count g x) h
at_word-same g n m (s.number at k) h = h
at_word-same g n m (s.truth at x) h = h
at_word-same g n m (s.name x) h = h
at_word-same g n m (s.call f xs) h = h
at_word-same g n m (s.library_call f xs) h = h
at_word-same g n m (s.parentheses at x) h = h
at_word-same g n m (s.prefix op at x) h = h
at_word-same g n m (s.binary x op at y) h = h
at_word-same g n m (s.postfix x op at) h = h
at_word-same g n m (s.member x selector at f) h = h

inside-same : (g : Scope) (n m : ℕ) (e : Expr) → capped n ≡ capped m → capped (inside g n e) ≡ capped (inside g m e)
unfolding inside
inside-same g n m e h = add-same (at_word g n e) (at_word g m e) (length (own_site g e)) (at_word-same g n m e h)

too_many-same : (g : Scope) (n m : ℕ) (e : Expr) → capped n ≡ capped m → is_site_too_many g n e ≡ is_site_too_many g m e
unfolding is_site_too_many
too_many-same g n m e h =
    ap (λ (b : Bool). is_site g e && b) (last-same (at_word g n e) (at_word g m e) (at_word-same g n m e h))

pub own-same : (g : Scope) (n m : ℕ) (how : Standing) (e : Expr) → capped n ≡ capped m → own_faults g n how e ≡ own_faults g m how e
unfolding own_faults
own-same g n m how e h = rw (too_many-same g n m e h) refl

-- equal lists behind one another
both : {a b c d : List Fault} → a ≡ b → c ≡ d → a ++ c ≡ b ++ d
both p q = cc

mutual
  unfolding faults faults_of_all

  pub faults-same : (g : Scope) (n m : ℕ) (how : Standing) (e : Expr) → capped n ≡ capped m → faults g n how e ≡ faults g m how e
  faults-same g n m how (s.number at k) h = refl
  faults-same g n m how (s.truth at x) h = refl
  faults-same g n m how (s.name x) h = both refl (own-same g n m how (s.name x) h)
  faults-same g n m how (s.call f xs) h =
      both (both refl (all-same g n m standing.Plain xs h)) (own-same g n m how (s.call f xs) h)
  faults-same g n m how (s.library_call f xs) h =
      let e : Expr = s.library_call f xs in
      both (all-same g (inside g n e) (inside g m e) (last_standing f.name xs) xs (inside-same g n m e h)) (own-same g n m how e h)
  faults-same g n m how (s.parentheses at x) h = faults-same g n m standing.Plain x h
  faults-same g n m how (s.prefix op at x) h = both (faults-same g n m standing.Plain x h) (own-same g n m how (s.prefix op at x) h)
  faults-same g n m how (s.binary x op at y) h =
      let k = site_count g x in
      both (both (faults-same g n m standing.Plain x h) (faults-same g (n + k) (m + k) standing.Plain y (add-same n m k h)))
      (own-same g n m how (s.binary x op at y) h)
  faults-same g n m how (s.postfix x op at) h = both (faults-same g n m standing.Plain x h) (own-same g n m how (s.postfix x op at) h)
  faults-same g n m how (s.index x at y) h =
      let e : Expr = s.index x at y in
      both
      (both (faults-same g n m standing.Plain x h) (faults-same g (inside g n e) (inside g m e) standing.Plain y (inside-same g n m e h)))
      (own-same g n m how e h)
  faults-same g n m how (s.member_call x f xs) h =
      let e : Expr = s.member_call x f xs in
      both
      (both (faults-same g n m standing.Plain x h) (all-same g (inside g n e) (inside g m e) standing.Plain xs (inside-same g n m e h)))
      (own-same g n m how e h)
  faults-same g n m how (s.member x selector at f) h =
      both (faults-same g n m (part_standing selector f.name) x h) (own-same g n m how (s.member x selector at f) h)

  pub all-same : (g : Scope) (n m : ℕ) (last : Standing) (xs : Exprs) → capped n ≡ capped m → faults_of_all g n last xs ≡ faults_of_all g m last xs
  all-same g n m last s.none h = refl
  all-same g n m last (s.with x xs) h =
      let k = site_count g x in
      both (faults-same g n m (standing_before xs last) x h) (all-same g (n + k) (m + k) last xs (add-same n m k h))

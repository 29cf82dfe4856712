-- Where no site is among the killers, and where a call leaves them as they are.
use Rattle.std.proofs.Common.{arith, ◌≡◌, ◌≢◌, ℕ, ◌≤◌, Bool, true, false, List, [], ◌∷◌, ◌++◌, length, drop, refl, ap, ◌∙◌, if◌then◌else◌}
use Rattle.std.specs.Prelude.{◌==◌, Contains}
use Rattle.std.proofs.lemmas.Bool.{eqb-true}
use Rattle.std.proofs.lemmas.List.{drop_all}
use Rattle.sl_tool.specs.declared.analysis.Standing.{Standing}
use Rattle.sl_tool.specs.declared.analysis.Push.{Push}
use Rattle.sl_tool.specs.Means.Analysis.{Known, sites_on, killers_of, with_push}
use Rattle.sl_tool.proofs.Killers.{drop-more}

-- nothing is among none
pub none_among : (xs : List ℕ) (x : ℕ) → xs ≡ [] → Contains xs x → ⊥
none_among [] x e h = let lt = h.1 in omega arith
none_among (y ∷ xs) x e h = absurd cc

-- no call is behind all of them
pub killers_of-new : (k : Known) (v : ℕ) (at_element : Bool)
    → killers_of k (record { vector = v; at_element = at_element; since = length k.pushes }) ≡ []
killers_of-new k v at_element = ap (sites_on v) (drop_all (length k.pushes) k.pushes (omega arith))

-- a call on another vector is no site on this one
sites_on-other : (v : ℕ) (ps : List Push) (q : Push) → q.vector ≢ v → sites_on v (ps ++ q ∷ []) ≡ sites_on v ps
sites_on-other v [] q other = by_test (q.vector == v) refl
  where
    by_test : (b : Bool) → (q.vector == v) ≡ b → (if b then q.site ∷ [] else []) ≡ []
    by_test true e = absurd (other (eqb-true q.vector v e))
    by_test false e = refl
sites_on-other v (p ∷ ps) q other = ap (λ sites. if p.vector == v then p.site ∷ sites else sites) (sites_on-other v ps q other)

-- a call on another vector leaves the killers as they are
pub killers_of-other : (k : Known) (standing : Standing) (v site : ℕ) → v ≢ standing.vector → standing.since ≤ length k.pushes
    → killers_of (with_push k v site) standing ≡ killers_of k standing
killers_of-other k standing v site other h =
    ap (sites_on standing.vector) (drop-more standing.since k.pushes (record { vector = v; site = site }) h)
    ∙ sites_on-other standing.vector (drop standing.since k.pushes) (record { vector = v; site = site }) other

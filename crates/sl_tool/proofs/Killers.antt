-- The sites that may have invalidated an iterator.
use Rattle.std.proofs.Common.{arith, ◌≡◌, ℕ, zero, suc, ◌≤◌, Bool, true, false, List, [], ◌∷◌, ◌++◌, length, drop, refl, if◌then◌else◌}
use Rattle.std.specs.Prelude.{◌==◌, Contains}
use Rattle.std.proofs.lemmas.Bool.{eq-eqb}
use Rattle.sl_tool.specs.declared.analysis.Standing.{Standing}
use Rattle.sl_tool.specs.declared.analysis.Push.{Push}
use Rattle.sl_tool.specs.Means.Analysis.{Known, sites_on, killers_of, with_push}

pub Contains-cons : (x y : ℕ) (xs : List ℕ) → Contains xs y → Contains (x ∷ xs) y
Contains-cons x y xs h = (suc h.0, let lt = h.1 in omega arith, h.2)

pub Contains-head : (x : ℕ) (xs : List ℕ) → Contains (x ∷ xs) x
Contains-head x xs = (0, omega arith, refl)

more_case : (b : Bool) (first site : ℕ) (xs ys : List ℕ) → (Contains xs site → Contains ys site) → Contains (if b then first ∷ xs else xs) site
    → Contains (if b then first ∷ ys else ys) site
more_case false first site xs ys tail h = tail h
more_case true first site xs ys tail (zero, lt, e) = (zero, omega arith, e)
more_case true first site xs ys tail (suc i, lt, e) = Contains-cons first site ys (tail (i, omega arith, e))

-- a site stays among those of more calls
sites_on-more : (v : ℕ) (ps : List Push) (q : Push) (site : ℕ) → Contains (sites_on v ps) site → Contains (sites_on v (ps ++ q ∷ [])) site
sites_on-more v [] q site h = absurd (let lt = h.1 in omega arith)
sites_on-more v (p ∷ ps) q site h =
    more_case (p.vector == v) p.site site (sites_on v ps) (sites_on v (ps ++ q ∷ [])) (λ g. sites_on-more v ps q site g) h

last_case : (b : Bool) (first site : ℕ) (xs : List ℕ) → Contains xs site → Contains (if b then first ∷ xs else xs) site
last_case true first site xs h = Contains-cons first site xs h
last_case false first site xs h = h

-- the last call on a vector is among them
sites_on-last : (v site : ℕ) (ps : List Push) → Contains (sites_on v (ps ++ record { vector = v; site = site } ∷ [])) site
sites_on-last v site [] = rw (eq-eqb v v refl) (Contains-head site [])
sites_on-last v site (p ∷ ps) = last_case (p.vector == v) p.site site (sites_on v (ps ++ record { vector = v; site = site } ∷ []))
    (sites_on-last v site ps)

pub drop-more : (n : ℕ) (ps : List Push) (q : Push) → n ≤ length ps → drop n (ps ++ q ∷ []) ≡ drop n ps ++ q ∷ []
drop-more zero ps q h = refl
drop-more (suc n) [] q h = absurd (omega arith)
drop-more (suc n) (p ∷ ps) q h = drop-more n ps q (omega arith)

-- a killer stays one after a call more
pub killers_of-more : (k : Known) (standing : Standing) (v site old : ℕ) → standing.since ≤ length k.pushes → Contains (killers_of k standing) old
    → Contains (killers_of (with_push k v site) standing) old
killers_of-more k standing v site old h c =
    rw (drop-more standing.since k.pushes (record { vector = v; site = site }) h)
    (sites_on-more standing.vector (drop standing.since k.pushes) (record { vector = v; site = site }) old c)

-- a call on its vector is a killer
pub killers_of-last : (k : Known) (standing : Standing) (site : ℕ) → standing.since ≤ length k.pushes
    → Contains (killers_of (with_push k standing.vector site) standing) site
killers_of-last k standing site h =
    rw (drop-more standing.since k.pushes (record { vector = standing.vector; site = site }) h)
    (sites_on-last standing.vector site (drop standing.since k.pushes))

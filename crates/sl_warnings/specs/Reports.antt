-- The order of a report's warnings, and a report after one warning more. No standard says any of it; all of it is chosen here.
use Rattle.std.specs.Prelude.{◌≡◌, ℕ, zero, suc, List, [], ◌∷◌, All}
use Rattle.std.specs.Ordering.{nat_cmp, ordering_then}
use Rattle.std.specs.List.Sorted.{IsStrictlySortedBy}
use Rattle.std.specs.declared.cmp.Ordering.{Ordering}
use Rattle.std.specs.declared.cmp.Ordering.TheVariants.{Less, Equal, Greater}
use Rattle.sl_model.specs.Reports.Covers.{Warning}

-- which of two warnings comes first: by line, then column, kind and argument
abbrev pub warning_cmp : Warning → Warning → Ordering
warning_cmp v w =
    ordering_then (nat_cmp v.place.line w.place.line)
    (ordering_then (nat_cmp v.place.col w.place.col) (ordering_then (nat_cmp v.kind w.kind) (nat_cmp v.argument w.argument)))

-- each warning comes before those after it, so no two have the same place, kind and argument
abbrev pub IsAscending : List Warning → Type 0
IsAscending ws = IsStrictlySortedBy warning_cmp ws

-- sites in ascending order with one more
abbrev pub inserted : ℕ → List ℕ → List ℕ
inserted site [] = site ∷ []
inserted site (s ∷ ss) = elim (nat_cmp s site) [ Less ↦ s ∷ inserted site ss | Equal ↦ s ∷ ss | Greater ↦ site ∷ s ∷ ss ]

-- the sites of two lists in ascending order
abbrev pub joined : List ℕ → List ℕ → List ℕ
joined sites [] = sites
joined sites (s ∷ ss) = joined (inserted s sites) ss

-- a warning with further killers
abbrev pub with_killers : Warning → List ℕ → Warning
with_killers w more = record w { killers = joined w.killers more }

-- the warning at an index with further killers
abbrev pub with_killers_at : List Warning → ℕ → List ℕ → List Warning
with_killers_at [] i more = []
with_killers_at (w ∷ ws) zero more = with_killers w more ∷ ws
with_killers_at (w ∷ ws) (suc i) more = w ∷ with_killers_at ws i more

-- a report after the warning w: one with the same place, kind and argument gets the killers of w, else w goes to its place
abbrev pub added : Warning → List Warning → List Warning
added w [] = w ∷ []
added w (v ∷ vs) = elim (warning_cmp v w) [ Less ↦ v ∷ added w vs | Equal ↦ with_killers v w.killers ∷ vs | Greater ↦ w ∷ v ∷ vs ]

-- the same need of the same call
pub record IsSameNeed (v w : Warning) : Type 0 where
  pub call : v.call ≡ w.call
  pub name : v.name ≡ w.name

-- a warning of the report with the place, kind and argument of w tells of the same need
abbrev pub Agrees : Warning → List Warning → Type 0
Agrees w vs = All (λ v. warning_cmp v w ≡ Equal → IsSameNeed v w) vs

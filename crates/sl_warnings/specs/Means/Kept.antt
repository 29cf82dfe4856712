-- How a report is kept: a map from what tells a warning apart to the warning.
use Rattle.std.specs.Prelude.{◌≡◌, ◌≢◌, List, map, All}
use Rattle.std.specs.Map.{keys_of, values_of}
use Rattle.std.specs.Ordering.{nat_cmp, ordering_then}
use Rattle.std.specs.declared.cmp.Ordering.{Ordering}
use Rattle.std.specs.declared.cmp.Ordering.TheVariants.{Equal}
use Rattle.sl_model.specs.Reports.Covers.{Warning}
use Rattle.sl_warnings.specs.declared.warning.Warning.{Warning as WarningCode}
use Rattle.sl_warnings.specs.declared.spot.Spot.{Spot}
use Rattle.sl_warnings.specs.Reports.{IsAscending}
use Rattle.sl_warnings.specs.Views.{warning_of}

-- what tells a warning apart
abbrev pub spot_of : Warning → Spot
spot_of w = record { line = w.place.line; col = w.place.col; kind = w.kind; argument = w.argument }

-- what the entries of a map tell
abbrev pub listed : List (Spot × WarningCode) → List Warning
listed es = map warning_of (values_of es)

-- the order of spots
abbrev pub spot_cmp : Spot → Spot → Ordering
spot_cmp a b =
    ordering_then (nat_cmp a.line b.line)
    (ordering_then (nat_cmp a.col b.col) (ordering_then (nat_cmp a.kind b.kind) (nat_cmp a.argument b.argument)))

-- none of these is the spot
abbrev pub IsNew : Spot → List Spot → Type 0
IsNew s ss = All (λ t. spot_cmp t s ≢ Equal) ss

-- each entry stands under its own spot, and they are in order
pub record IsKept (es : List (Spot × WarningCode)) : Type 0 where
  pub keyed : keys_of es ≡ map spot_of (listed es)
  pub ascending : IsAscending (listed es)

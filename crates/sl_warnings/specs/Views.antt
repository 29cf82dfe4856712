-- What a warning tells, and what a report tells, as contracts see them.
use Rattle.std.specs.Prelude.{ℕ, List, filter}
use Rattle.sl_base.specs.declared.limits.TheConstants.{SITES}
use Rattle.sl_kind.specs.declared.kills.Kills.{Kills}
use Rattle.sl_kind.specs.Kills.{has}
use Rattle.sl_model.specs.Memory.Edits.{numbers}
use Rattle.sl_model.specs.Reports.Covers.{Warning}
use Rattle.sl_warnings.specs.declared.warning.Warning.{Warning as WarningCode}

-- the sites of a set in ascending order
unfoldable pub sites_in : Kills → List ℕ
sites_in k = filter (has k) (numbers 0 SITES)

-- what a warning tells
abbrev pub warning_of : WarningCode → Warning
warning_of w = record { place = w.place; kind = w.kind; call = w.call; argument = w.argument; name = w.name; killers = sites_in w.killers }

-- what a report tells
abbrev pub Told : Type 0
Told = List Warning

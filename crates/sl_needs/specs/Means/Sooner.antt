-- The failure that counts, put together from two.
use Rattle.std.specs.Prelude.{ℕ, Option, Some, None, if◌then◌else◌}
use Rattle.sl_model.specs.LibraryCalls.Needs.{is_before}

-- of two failures that there may be the one that counts
abbrev pub sooner : Option (ℕ × ℕ) → Option (ℕ × ℕ) → Option (ℕ × ℕ)
sooner None g = g
sooner (Some f) None = Some f
sooner (Some f) (Some g) = if is_before g f then Some g else Some f

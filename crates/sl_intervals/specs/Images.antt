-- What the members of an interval become in a type.
use Rattle.std.specs.Prelude.{◌≡◌, ℤ}
use Rattle.sl_base.specs.declared.scalar.Scalar.{Scalar}
use Rattle.sl_model.specs.Numbers.{converted}
use Rattle.sl_intervals.specs.declared.interval.Interval.{Interval}
use Rattle.sl_intervals.specs.Intervals.{Holds, IsWithin}

-- r is the least interval that holds what the members of a become: its ends are such numbers themselves
pub record IsImage (to : Scalar) (a r : Interval) : Type 0 where
  pub holds : (z : ℤ) → Holds a z → Holds r (converted to z)
  pub low : (z : ℤ) × Holds a z × (converted to z ≡ r.low)
  pub high : (z : ℤ) × Holds a z × (converted to z ≡ r.high)
  pub within : IsWithin to r

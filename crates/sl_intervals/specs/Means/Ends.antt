-- The inner and the outer ends of two intervals.
use Rattle.std.specs.Prelude.{ℤ, ◌≤ℤ◌}
use Rattle.sl_intervals.specs.declared.interval.Interval.{Interval}

-- the ends of r are the inner ones of a and b
pub record IsInner (a b r : Interval) : Type 0 where
  pub low_first : a.low ≤ℤ r.low
  pub low_second : b.low ≤ℤ r.low
  pub low_least : (z : ℤ) → a.low ≤ℤ z → b.low ≤ℤ z → r.low ≤ℤ z
  pub high_first : r.high ≤ℤ a.high
  pub high_second : r.high ≤ℤ b.high
  pub high_most : (z : ℤ) → z ≤ℤ a.high → z ≤ℤ b.high → z ≤ℤ r.high

-- the ends of r are the outer ones of a and b
pub record IsOuter (a b r : Interval) : Type 0 where
  pub low_first : r.low ≤ℤ a.low
  pub low_second : r.low ≤ℤ b.low
  pub low_most : (z : ℤ) → z ≤ℤ a.low → z ≤ℤ b.low → z ≤ℤ r.low
  pub high_first : a.high ≤ℤ r.high
  pub high_second : b.high ≤ℤ r.high
  pub high_least : (z : ℤ) → a.high ≤ℤ z → b.high ≤ℤ z → r.high ≤ℤ z

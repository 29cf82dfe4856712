-- What an interval of remainders holds and says.
--
-- Restates ISO/IEC 14882:2017, [expr.mul]: division truncates toward zero, so a remainder has its dividend's sign.
use Rattle.std.specs.Prelude.{◌≢◌, ℤ, pos, neg_ℤ, ◌-ℤ◌, ◌≤ℤ◌, int_rem}
use Rattle.sl_intervals.specs.declared.interval.Interval.{Interval}
use Rattle.sl_intervals.specs.Intervals.{Holds, IsAtLeast, IsAtMost}

-- i holds the remainders of members; its ends have a's sign, are no further from 0 than a's, and nearer than b's furthest
pub record IsRemainders (a b i : Interval) : Type 0 where
  pub holds : (x y : ℤ) → Holds a x → Holds b y → y ≢ pos 0 → Holds i (int_rem x y)
  pub not_negative : pos 0 ≤ℤ a.low → IsAtLeast i (pos 0)
  pub not_positive : a.high ≤ℤ pos 0 → IsAtMost i (pos 0)
  pub low : a.low ≤ℤ pos 0 → IsAtLeast i a.low
  pub high : pos 0 ≤ℤ a.high → IsAtMost i a.high
  pub low_near : (z : ℤ) → neg_ℤ z ≤ℤ b.low → b.high ≤ℤ z → IsAtLeast i (pos 1 -ℤ z)
  pub high_near : (z : ℤ) → neg_ℤ z ≤ℤ b.low → b.high ≤ℤ z → IsAtMost i (z -ℤ pos 1)

-- Ends whose products are numbers of 128 bits, and all of a type.
use Rattle.std.specs.Prelude.{◌≡◌, ◌*ℤ◌, FitsSigned}
use Rattle.std.specs.Int.{w128}
use Rattle.sl_base.specs.declared.scalar.Scalar.{Scalar}
use Rattle.sl_model.specs.Numbers.{lowest, highest}
use Rattle.sl_intervals.specs.declared.interval.Interval.{Interval}

-- each product of an end of a and one of b is a number of 128 bits
pub record HaveProducts (a b : Interval) : Type 0 where
  pub low_low : FitsSigned w128 (a.low *ℤ b.low)
  pub low_high : FitsSigned w128 (a.low *ℤ b.high)
  pub high_low : FitsSigned w128 (a.high *ℤ b.low)
  pub high_high : FitsSigned w128 (a.high *ℤ b.high)

-- the members are all numbers of the type
pub record IsWhole (ty : Scalar) (i : Interval) : Type 0 where
  pub low : i.low ≡ lowest ty
  pub high : i.high ≡ highest ty

-- The products of the ends of two intervals.
--
-- Restates ISO/IEC 14882:2017, [basic.fundamental], for products of an unsigned type, which are taken modulo.
use Rattle.std.specs.Prelude.{◌≢◌, ◌⊎◌, ℤ, ◌*ℤ◌, ◌≤ℤ◌}
use Rattle.std.specs.Int.{int_min, int_max}
use Rattle.sl_base.specs.declared.scalar.Scalar.{Scalar}
use Rattle.sl_base.specs.declared.scalar.Scalar.TheVariants.{Size}
use Rattle.sl_model.specs.Numbers.{highest}
use Rattle.sl_intervals.specs.declared.interval.Interval.{Interval}

-- the least product of an end of a and one of b
abbrev pub least_product : Interval → Interval → ℤ
least_product a b = int_min (int_min (a.low *ℤ b.low) (a.low *ℤ b.high)) (int_min (a.high *ℤ b.low) (a.high *ℤ b.high))

-- the greatest of them
abbrev pub greatest_product : Interval → Interval → ℤ
greatest_product a b = int_max (int_max (a.low *ℤ b.low) (a.low *ℤ b.high)) (int_max (a.high *ℤ b.low) (a.high *ℤ b.high))

-- no product of members is taken modulo: the type is signed, or it has the product of the high ends
abbrev pub IsPlain : Scalar → Interval → Interval → Type 0
IsPlain ty a b = ty ≢ Size ⊎ (a.high *ℤ b.high) ≤ℤ highest ty

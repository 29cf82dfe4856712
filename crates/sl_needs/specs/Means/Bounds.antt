-- Bounds of keys.
use Rattle.std.specs.Prelude.{ℤ, Bool, not, int_lt}
use Rattle.sl_needs.specs.declared.orders.Bound.{Bound}
use Rattle.sl_needs.specs.declared.orders.Bound.TheVariants.{Below, UpTo}

-- a key is within a bound
abbrev pub is_within : Bound → ℤ → Bool
is_within (Below x) y = int_lt y x
is_within (UpTo x) y = not (int_lt x y)

-- Ends of joins, meets and comparisons.
use Rattle.std.proofs.Common.{◌≡◌, ℤ, pos, ◌≤ℤ◌, ◌<ℤ◌, int_lt, ⊎_elim, arith}
use Rattle.std.proofs.lemmas.Int.{ints}
use Rattle.sl_base.specs.declared.scalar.Scalar.{Scalar}
use Rattle.sl_model.specs.Numbers.{truth}
use Rattle.sl_intervals.specs.declared.interval.Interval.{Interval}
use Rattle.sl_intervals.specs.Intervals.{Holds, IsEmpty, IsFilled, IsWithin, LiesIn}

-- a comparison's answer as a number
pub truth_below : (x y : ℤ) → x <ℤ y → truth (int_lt x y) ≡ pos 1
truth_below x y h = grind (arith, ints)

pub truth_not_below : (x y : ℤ) → y ≤ℤ x → truth (int_lt x y) ≡ pos 0
truth_not_below x y h = grind (arith, ints)

-- what shows membership shows it of a wider interval
pub held_wider : (a r : Interval) (z : ℤ) → r.low ≤ℤ a.low → a.high ≤ℤ r.high → Holds a z → Holds r z
held_wider a r z p q h = let l = h.low in let m = h.high in record { low = omega (arith, ints); high = omega (arith, ints) }

-- an interval that isn't empty lies in a type by its ends
pub within_of : (ty : Scalar) (a : Interval) → IsFilled a → LiesIn ty a → IsWithin ty a
within_of ty a f h = ⊎_elim (λ (e : IsEmpty a). absurd (omega (arith, ints))) (λ (w : IsWithin ty a). w) h

-- what is empty isn't filled
pub no_filled : (a : Interval) → IsEmpty a → IsFilled a → ⊥
no_filled a e f = omega (arith, ints)

-- and has no members
pub no_member : (a : Interval) (z : ℤ) → IsEmpty a → Holds a z → ⊥
no_member a z e h = let l = h.low in let m = h.high in omega (arith, ints)

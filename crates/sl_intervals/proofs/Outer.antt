-- What the ends of a join say.
use Rattle.std.proofs.Common.{ℤ, ◌≤ℤ◌, ◌⊎◌, inr, ⊎_elim, arith}
use Rattle.std.proofs.lemmas.Int.{ints}
use Rattle.sl_base.specs.declared.scalar.Scalar.{Scalar}
use Rattle.sl_intervals.specs.declared.interval.Interval.{Interval}
use Rattle.sl_intervals.specs.Intervals.{Holds, IsEmpty, IsFilled, LiesIn, IsAtLeast, IsAtMost}
use Rattle.sl_intervals.specs.Means.Ends.{IsOuter}
use Rattle.sl_intervals.proofs.Joined.{held_wider, within_of}

-- a member of either is a member of the join
pub joined_holds : (a b r : Interval) (z : ℤ) → IsOuter a b r → (Holds a z ⊎ Holds b z) → Holds r z
joined_holds a b r z m h = ⊎_elim
    (λ (p : Holds a z). held_wider a r z m.low_first m.high_first p)
    (λ (p : Holds b z). held_wider b r z m.low_second m.high_second p)
    h

-- what all members are at least, the low end of an interval that isn't empty is at least
pub least_of : (a : Interval) (z : ℤ) → IsFilled a → IsAtLeast a z → z ≤ℤ a.low
least_of a z f p = ⊎_elim (λ (e : IsEmpty a). absurd (omega (arith, ints))) (λ (h : z ≤ℤ a.low). h) p

-- and what they are at most, its high end is at most
pub most_of : (a : Interval) (z : ℤ) → IsFilled a → IsAtMost a z → a.high ≤ℤ z
most_of a z f p = ⊎_elim (λ (e : IsEmpty a). absurd (omega (arith, ints))) (λ (h : a.high ≤ℤ z). h) p

-- what bounds two intervals that aren't empty from below bounds their join
pub joined_least : (a b r : Interval) (z : ℤ) → IsOuter a b r → IsFilled a → IsFilled b → IsAtLeast a z → IsAtLeast b z → IsAtLeast r z
joined_least a b r z m f g p q = inr (m.low_most z (least_of a z f p) (least_of b z g q))

-- and likewise from above
pub joined_most : (a b r : Interval) (z : ℤ) → IsOuter a b r → IsFilled a → IsFilled b → IsAtMost a z → IsAtMost b z → IsAtMost r z
joined_most a b r z m f g p q = inr (m.high_least z (most_of a z f p) (most_of b z g q))

-- a type that has both has their join
pub joined_within : (ty : Scalar) (a b r : Interval) → IsOuter a b r → IsFilled a → IsFilled b → LiesIn ty a → LiesIn ty b → LiesIn ty r
joined_within ty a b r m f g p q =
    let v = within_of ty a f p in
    let w = within_of ty b g q in
    inr (record { low = m.low_most _ v.low w.low; high = m.high_least _ v.high w.high })

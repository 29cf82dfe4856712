-- What the ends of a meet say.
use Rattle.std.proofs.Common.{ℤ, ◌≤ℤ◌, ◌⊎◌, ◌↔◌, inl, inr, ⊎_elim, arith}
use Rattle.std.proofs.lemmas.Int.{ints}
use Rattle.sl_base.specs.declared.scalar.Scalar.{Scalar}
use Rattle.sl_intervals.specs.declared.interval.Interval.{Interval}
use Rattle.sl_intervals.specs.Intervals.{Holds, IsEmpty, IsWithin, LiesIn, IsAtLeast, IsAtMost}
use Rattle.sl_intervals.specs.Means.Ends.{IsInner}
use Rattle.sl_intervals.proofs.Joined.{held_wider}

both_held : (a b r : Interval) (z : ℤ) → IsInner a b r → Holds a z → Holds b z → Holds r z
both_held a b r z m p q =
    record { low = m.low_least z p.low q.low; high = m.high_most z p.high q.high }

pub met_holds : (a b r : Interval) (z : ℤ) → IsInner a b r → (Holds r z ↔ (Holds a z × Holds b z))
met_holds a b r z m = (
  λ h. (held_wider r a z m.low_first m.high_first h, held_wider r b z m.low_second m.high_second h),
  λ h. both_held a b r z m h.0 h.1,
)

-- an interval inside another, from both ends
least_in : (a r : Interval) (z : ℤ) → a.low ≤ℤ r.low → r.high ≤ℤ a.high → IsAtLeast a z → IsAtLeast r z
least_in a r z l h p = ⊎_elim (λ (e : IsEmpty a). inl (omega (arith, ints))) (λ (b : z ≤ℤ a.low). inr (omega (arith, ints))) p

most_in : (a r : Interval) (z : ℤ) → a.low ≤ℤ r.low → r.high ≤ℤ a.high → IsAtMost a z → IsAtMost r z
most_in a r z l h p = ⊎_elim (λ (e : IsEmpty a). inl (omega (arith, ints))) (λ (b : a.high ≤ℤ z). inr (omega (arith, ints))) p

within_in : (ty : Scalar) (a r : Interval) → a.low ≤ℤ r.low → r.high ≤ℤ a.high → LiesIn ty a → LiesIn ty r
within_in ty a r l h p = ⊎_elim
    (λ (e : IsEmpty a). inl (omega (arith, ints)))
    (λ (w : IsWithin ty a). let wl = w.low in let wh = w.high in inr (record { low = omega (arith, ints); high = omega (arith, ints) }))
    p

pub met_least : (a b r : Interval) (z : ℤ) → IsInner a b r → (IsAtLeast a z ⊎ IsAtLeast b z) → IsAtLeast r z
met_least a b r z m p = ⊎_elim
    (λ (q : IsAtLeast a z). least_in a r z m.low_first m.high_first q)
    (λ (q : IsAtLeast b z). least_in b r z m.low_second m.high_second q)
    p

pub met_most : (a b r : Interval) (z : ℤ) → IsInner a b r → (IsAtMost a z ⊎ IsAtMost b z) → IsAtMost r z
met_most a b r z m p = ⊎_elim
    (λ (q : IsAtMost a z). most_in a r z m.low_first m.high_first q)
    (λ (q : IsAtMost b z). most_in b r z m.low_second m.high_second q)
    p

pub met_within : (ty : Scalar) (a b r : Interval) → IsInner a b r → (LiesIn ty a ⊎ LiesIn ty b) → LiesIn ty r
met_within ty a b r m p = ⊎_elim
    (λ (q : LiesIn ty a). within_in ty a r m.low_first m.high_first q)
    (λ (q : LiesIn ty b). within_in ty b r m.low_second m.high_second q)
    p

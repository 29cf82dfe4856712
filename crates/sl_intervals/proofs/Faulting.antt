-- Whether divisions of members fault, by the ends of both.
use Rattle.std.proofs.Common.{◌≡◌, ◌≢◌, ℤ, pos, negsuc, ◌≤ℤ◌, ◌<ℤ◌, arith}
use Rattle.std.proofs.lemmas.Int.{ints, by_lt_z}
use Rattle.sl_base.specs.declared.scalar.Scalar.{Scalar}
use Rattle.sl_base.specs.declared.scalar.Scalar.TheVariants as kind
use Rattle.sl_model.specs.Numbers.{lowest}
use Rattle.sl_intervals.specs.declared.interval.Interval.{Interval}
use Rattle.sl_intervals.specs.declared.sure.Sure.{Sure}
use Rattle.sl_intervals.specs.declared.sure.Sure.TheVariants.{Never, May, Always}
use Rattle.sl_intervals.specs.Intervals.{Holds, IsFilled, IsWithin}
use Rattle.sl_intervals.specs.Means.Dividing.{IsDivisionVerdict}
use Rattle.sl_intervals.proofs.Divisions.{IsFine, are_of, zero_faults, least_faults, none_do, all_do, some_do}

module _ (ty : Scalar) (a b : Interval) (f : Sure) (number : ty ≢ kind.Bool) (v : IsWithin ty a) (w : IsWithin ty b)
    (fa : IsFilled a) (fb : IsFilled b) where
  first_low : Holds a a.low
  first_low = record { low = omega (arith, ints); high = fa }

  first_high : Holds a a.high
  first_high = record { low = fa; high = omega (arith, ints) }

  second_low : Holds b b.low
  second_low = record { low = omega (arith, ints); high = fb }

  second_high : Holds b b.high
  second_high = record { low = fb; high = omega (arith, ints) }

  -- a pair that doesn't fault and one that does
  pair : (x y p q : ℤ) → Holds a x → Holds b y → IsFine ty x y → Holds a p → Holds b q → (q ≡ pos 0) → f ≡ May → IsDivisionVerdict ty a b f
  pair x y p q h k fine s t zero e =
      some_do ty a b f x y p q number (are_of ty a b x y v w h k) h k fine s t (λ z. zero_faults ty p q z zero) e

  least_pair : (x y p q : ℤ) → Holds a x → Holds b y → IsFine ty x y → Holds a p → Holds b q → p ≤ℤ lowest ty → q ≡ negsuc 0 → f ≡ May
      → IsDivisionVerdict ty a b f
  least_pair x y p q h k fine s t least one e =
      some_do ty a b f x y p q number (are_of ty a b x y v w h k) h k fine s t
      (λ z. least_faults ty p q z number (are_of ty a b p q v w s t) least one) e

  pub above_verdict : pos 0 <ℤ b.low → f ≡ Never → IsDivisionVerdict ty a b f
  above_verdict up e = none_do ty a b f number v w
      (λ x y p q. let ql = q.low in record { some = λ z. omega (arith, ints); other = λ l z. omega (arith, ints) }) e

  pub below_verdict : b.high ≤ℤ negsuc 0 → (b.high <ℤ negsuc 0 → f ≡ Never) → (lowest ty <ℤ a.low → f ≡ Never)
      → (a.low ≤ℤ lowest ty → negsuc 0 ≤ℤ b.high → b.low <ℤ negsuc 0 → f ≡ May)
      → (a.low ≤ℤ lowest ty → negsuc 0 ≤ℤ b.high → lowest ty <ℤ a.high → f ≡ May)
      → (a.low ≤ℤ lowest ty → negsuc 0 ≤ℤ b.low → a.high ≤ℤ lowest ty → f ≡ Always) → IsDivisionVerdict ty a b f
  below_verdict down far greater divisors others least = by_lt_z b.high (negsuc 0)
      (λ (h : b.high <ℤ negsuc 0). none_do ty a b f number v w
      (λ x y p q. let qh = q.high in record { some = λ z. omega (arith, ints); other = λ l z. omega (arith, ints) }) (far h))
      (λ (h : negsuc 0 ≤ℤ b.high). by_lt_z (lowest ty) a.low
      (λ (k : lowest ty <ℤ a.low). none_do ty a b f number v w
      (λ x y p q. let pl = p.low in let qh = q.high in record { some = λ z. omega (arith, ints); other = λ l z. omega (arith, ints) }) (greater k))
      (λ (k : a.low ≤ℤ lowest ty). by_lt_z b.low (negsuc 0)
      (λ (m : b.low <ℤ negsuc 0). least_pair a.low b.low a.low b.high first_low second_low
      (record { some = λ z. omega (arith, ints); other = λ l z. omega (arith, ints) }) first_low second_high k (omega (arith, ints)) (divisors k h m))
      (λ (m : negsuc 0 ≤ℤ b.low). by_lt_z (lowest ty) a.high
      (λ (n : lowest ty <ℤ a.high). least_pair a.high b.high a.low b.high first_high second_high
      (record { some = λ z. omega (arith, ints); other = λ l z. omega (arith, ints) }) first_low second_high k (omega (arith, ints)) (others k h n))
      (λ (n : a.high ≤ℤ lowest ty). all_do ty a b f fa fb
      (λ x y z p q. let ph = p.high in let ql = q.low in let qh = q.high in
      least_faults ty x y z number (are_of ty a b x y v w p q) (omega (arith, ints)) (omega (arith, ints))) (least k m n)))))

  zero_held : b.low ≤ℤ pos 0 → pos 0 ≤ℤ b.high → Holds b (pos 0)
  zero_held p q = record { low = p; high = q }

  pub zero_verdict : b.low ≤ℤ pos 0 → pos 0 ≤ℤ b.high → (pos 1 ≤ℤ b.high → f ≡ May) → (b.low <ℤ negsuc 0 → f ≡ May)
      → (pos 0 ≤ℤ b.low → b.high ≤ℤ pos 0 → f ≡ Always) → (b.high ≤ℤ pos 0 → negsuc 0 ≤ℤ b.low → a.high ≤ℤ lowest ty → f ≡ Always)
      → (b.low ≤ℤ negsuc 0 → lowest ty <ℤ a.high → f ≡ May) → IsDivisionVerdict ty a b f
  zero_verdict low high above below only least other = by_lt_z (pos 0) b.high
      (λ (h : pos 0 <ℤ b.high). pair a.low b.high a.low (pos 0) first_low second_high
      (record { some = λ z. omega (arith, ints); other = λ l z. omega (arith, ints) }) first_low (zero_held low high) (omega (arith, ints))
      (above (omega (arith, ints))))
      (λ (h : b.high ≤ℤ pos 0). by_lt_z b.low (negsuc 0)
      (λ (k : b.low <ℤ negsuc 0). pair a.low b.low a.low (pos 0) first_low second_low
      (record { some = λ z. omega (arith, ints); other = λ l z. omega (arith, ints) }) first_low (zero_held low high) (omega (arith, ints)) (below k))
      (λ (k : negsuc 0 ≤ℤ b.low). by_lt_z b.low (pos 0)
      (λ (m : b.low <ℤ pos 0). by_lt_z (lowest ty) a.high
      (λ (n : lowest ty <ℤ a.high). pair a.high b.low a.low (pos 0) first_high second_low
      (record { some = λ z. omega (arith, ints); other = λ l z. omega (arith, ints) }) first_low (zero_held low high) (omega (arith, ints))
      (other (omega (arith, ints)) n))
      (λ (n : a.high ≤ℤ lowest ty). all_do ty a b f fa fb
      (λ x y z p q. let ph = p.high in let ql = q.low in let qh = q.high in
      by_lt_z y (pos 0)
      (λ (o : y <ℤ pos 0). least_faults ty x y z number (are_of ty a b x y v w p q) (omega (arith, ints)) (omega (arith, ints)))
      (λ (o : pos 0 ≤ℤ y). zero_faults ty x y z (omega (arith, ints)))) (least h k n)))
      (λ (m : pos 0 ≤ℤ b.low). all_do ty a b f fa fb
      (λ x y z p q. let ql = q.low in let qh = q.high in zero_faults ty x y z (omega (arith, ints))) (only m h))))

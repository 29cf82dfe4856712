-- A list is partitioned exactly where a test holds of a front part of it and of no later element.
use Rattle.std.proofs.Common.{ℕ, zero, suc, ℤ, ◌≤ℤ◌, ◌<ℤ◌, List, [], ◌∷◌, take, drop, ◌⊎◌, ◌↔◌, inl, inr, ⊎_elim, arith}
use Rattle.std.proofs.lemmas.Int.{ints, by_lt_z}
use Rattle.std.specs.List.{AllByRecursion}
use Rattle.sl_cells.specs.Orders.{IsOrdered, IsPartitionedBelow, IsPartitionedAbove}
use Rattle.sl_cells.proofs.Each.{each_weaker}

each_of : (Q : (ℤ × ℤ) → Type 0) → ((y : ℤ × ℤ) → Q y) → (xs : List (ℤ × ℤ)) → AllByRecursion Q xs
each_of Q every [] = tt
each_of Q every (x ∷ xs) = (every x, each_of Q every xs)

module _ (P : ℤ → Type 0) where
  -- P holds of the keys of the first k elements, and of no later one
  pub record IsFront (xs : List (ℤ × ℤ)) (k : ℕ) : Type 0 where
    pub holds : AllByRecursion (λ (y : ℤ × ℤ). P y.0) (take k xs)
    pub fails : AllByRecursion (λ (y : ℤ × ℤ). P y.0 → ⊥) (drop k xs)

  front_in : ((p : ℤ) → P p ⊎ (P p → ⊥)) → (xs : List (ℤ × ℤ)) → IsOrdered (λ p q. P q → P p) xs → (k : ℕ) × IsFront xs k
  front_in test [] o = (0, record { holds = tt; fails = tt })
  front_in test (x ∷ xs) o = ⊎_elim
      (λ (h : P x.0). let r = front_in test xs o.1 in (suc r.0, record { holds = (h, r.1.holds); fails = r.1.fails }))
      (λ (n : P x.0 → ⊥). (
        0,
        record {
          holds = tt;
          fails = (n, each_weaker (λ (y : ℤ × ℤ). P y.0 → P x.0) (λ (y : ℤ × ℤ). P y.0 → ⊥) (λ y h p. n (h p)) xs o.0);
        },
      ))
      (test x.0)

  from_none : (xs : List (ℤ × ℤ)) → AllByRecursion (λ (y : ℤ × ℤ). P y.0 → ⊥) xs → IsOrdered (λ p q. P q → P p) xs
  from_none [] f = tt
  from_none (x ∷ xs) f =
      (each_weaker (λ (y : ℤ × ℤ). P y.0 → ⊥) (λ (y : ℤ × ℤ). P y.0 → P x.0) (λ y n p. absurd (n p)) xs f.1, from_none xs f.1)

  from_front : (xs : List (ℤ × ℤ)) (k : ℕ) → IsFront xs k → IsOrdered (λ p q. P q → P p) xs
  from_front xs zero f = from_none xs f.fails
  from_front [] (suc k) f = tt
  from_front (x ∷ xs) (suc k) f =
      let h = f.holds.0 in
      (each_of (λ (y : ℤ × ℤ). P y.0 → P x.0) (λ y p. h) xs, from_front xs k (record { holds = f.holds.1; fails = f.fails }))

below_or_not : (z p : ℤ) → (p <ℤ z) ⊎ (p <ℤ z → ⊥)
below_or_not z p = by_lt_z p z (λ l. inl l) (λ l. inr (λ h. omega (arith, ints)))

upto_or_not : (z p : ℤ) → (p ≤ℤ z) ⊎ (p ≤ℤ z → ⊥)
upto_or_not z p = by_lt_z z p (λ l. inr (λ h. omega (arith, ints))) (λ l. inl l)

-- partitioned with respect to e < z, and to not z < e
pub partitioned_below : (z : ℤ) (xs : List (ℤ × ℤ)) → (IsPartitionedBelow z xs ↔ ((k : ℕ) × IsFront (λ p. p <ℤ z) xs k))
partitioned_below z xs = (front_in (λ p. p <ℤ z) (below_or_not z) xs, λ r. from_front (λ p. p <ℤ z) xs r.0 r.1)

pub partitioned_above : (z : ℤ) (xs : List (ℤ × ℤ)) → (IsPartitionedAbove z xs ↔ ((k : ℕ) × IsFront (λ p. p ≤ℤ z) xs k))
partitioned_above z xs = (front_in (λ p. p ≤ℤ z) (upto_or_not z) xs, λ r. from_front (λ p. p ≤ℤ z) xs r.0 r.1)

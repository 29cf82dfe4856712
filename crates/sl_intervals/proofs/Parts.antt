-- Quotients by the divisors above 0 and by those below it.
use Rattle.std.proofs.Common.{◌≡◌, ◌⊎◌, inl, inr, ℤ, pos, negsuc, neg_ℤ, ◌≤ℤ◌, ◌<ℤ◌, int_div, refl, sym, ◌∙◌, subst, arith}
use Rattle.std.proofs.lemmas.Int.{ints, clamps, by_lt_z}
use Rattle.std.specs.Int.{int_min, int_max}
use Rattle.sl_base.specs.declared.scalar.Scalar.{Scalar}
use Rattle.sl_model.specs.Numbers.{lowest}
use Rattle.sl_intervals.specs.declared.interval.Interval.{Interval}
use Rattle.sl_intervals.specs.Intervals.{Holds, IsEmpty, IsFilled}
use Rattle.sl_intervals.specs.Means.Dividing.{IsQuotients, IsDivisor, IsDivided}
use Rattle.sl_intervals.proofs.Corners.{lesser_has, greater_has}
use Rattle.sl_intervals.proofs.Truncation.{under_quotient, over_quotient, both_opposite}

-- by divisors above 0, from the quotients of the ends
module _ (a b r : Interval) (f : IsFilled a) (g : IsFilled b) (up : pos 1 ≤ℤ b.low)
    (low : r.low ≡ int_min (int_div a.low b.low) (int_div a.low b.high))
    (high : r.high ≡ int_max (int_div a.high b.low) (int_div a.high b.high)) where
  abbrev Has : ℤ → Type 0
  Has z = (x : ℤ) × (y : ℤ) × Holds a x × Holds b y × (int_div x y ≡ z)

  first_low : Holds a a.low
  first_low = record { low = omega (arith, ints); high = f }

  first_high : Holds a a.high
  first_high = record { low = f; high = omega (arith, ints) }

  second_low : Holds b b.low
  second_low = record { low = omega (arith, ints); high = g }

  second_high : Holds b b.high
  second_high = record { low = g; high = omega (arith, ints) }

  pub quotients_of_ends : IsQuotients a b r
  quotients_of_ends = record {
    holds = λ x y p q. record {
      low = under_quotient a.low x b.low y b.high r.low up q.low q.high p.low (omega (arith, ints, clamps)) (omega (arith, ints, clamps));
      high = over_quotient a.high x b.low y b.high r.high up q.low q.high p.high (omega (arith, ints, clamps)) (omega (arith, ints, clamps));
    };
    low = λ h. subst Has (sym low) (lesser_has Has (int_div a.low b.low) (int_div a.low b.high)
        (a.low, b.low, first_low, second_low, refl) (a.low, b.high, first_low, second_high, refl));
    high = λ h. subst Has (sym high) (greater_has Has (int_div a.high b.low) (int_div a.high b.high)
        (a.high, b.low, first_high, second_low, refl) (a.high, b.high, first_high, second_high, refl));
  }

-- by divisors below 0, with both signs turned round
pub turned : (i n : Interval) (z : ℤ) → n.low ≡ neg_ℤ i.high → n.high ≡ neg_ℤ i.low → Holds i z → Holds n (neg_ℤ z)
turned i n z l h p = let pl = p.low in let ph = p.high in record { low = omega (arith, ints); high = omega (arith, ints) }

pub turned_back : (i n : Interval) (z : ℤ) → n.low ≡ neg_ℤ i.high → n.high ≡ neg_ℤ i.low → Holds n z → Holds i (neg_ℤ z)
turned_back i n z l h p = let pl = p.low in let ph = p.high in record { low = omega (arith, ints); high = omega (arith, ints) }

module _ (a b m n r : Interval) (ml : m.low ≡ neg_ℤ a.high) (mh : m.high ≡ neg_ℤ a.low) (nl : n.low ≡ neg_ℤ b.high) (nh : n.high ≡ neg_ℤ b.low)
    (h : IsQuotients m n r) where
  pub quotients_turned : IsQuotients a b r
  quotients_turned = record {
    holds = λ x y p q. subst (Holds r) (both_opposite x y)
        (h.holds (neg_ℤ x) (neg_ℤ y) (turned a m x ml mh p) (turned b n y nl nh q));
    low = λ f. let w = h.low f in
        (neg_ℤ w.0, neg_ℤ w.1, turned_back a m w.0 ml mh w.2, turned_back b n w.1 nl nh w.3, both_opposite w.0 w.1 ∙ w.4);
    high = λ f. let w = h.high f in
        (neg_ℤ w.0, neg_ℤ w.1, turned_back a m w.0 ml mh w.2, turned_back b n w.1 nl nh w.3, both_opposite w.0 w.1 ∙ w.4);
  }

-- both parts together: d and u are the divisors below and above 0, p and q their quotients, and j holds both
module _ (ty : Scalar) (a b d u p q j : Interval) (dl : d.low ≡ b.low) (least : a.high ≤ℤ lowest ty → d.high ≡ int_min b.high (negsuc 1))
    (other : lowest ty <ℤ a.high → d.high ≡ int_min b.high (negsuc 0)) (ul : u.low ≡ int_max b.low (pos 1)) (uh : u.high ≡ b.high)
    (no_d : IsEmpty d → IsEmpty p) (by_d : IsFilled d → IsQuotients a d p) (no_u : IsEmpty u → IsEmpty q) (by_u : IsFilled u → IsQuotients a u q)
    (first : IsEmpty p → j ≡ q) (second : IsFilled p → IsEmpty q → j ≡ p) (low : IsFilled p → IsFilled q → j.low ≡ int_min p.low q.low)
    (high : IsFilled p → IsFilled q → j.high ≡ int_max p.high q.high) (both : (z : ℤ) → (Holds p z ⊎ Holds q z) → Holds j z) where
  abbrev IsOne : ℤ → Type 0
  IsOne z = (x : ℤ) × (y : ℤ) × Holds a x × Holds b y × IsDivisor ty a y × (int_div x y ≡ z)

  below_divisor : (y : ℤ) → Holds d y → IsDivisor ty a y
  below_divisor y h =
      let hh = h.high in
      record {
        some = λ e. by_lt_z (lowest ty) a.high
            (λ (k : lowest ty <ℤ a.high). let o = other k in omega (arith, ints, clamps))
            (λ (k : a.high ≤ℤ lowest ty). let o = least k in omega (arith, ints, clamps));
        other = λ k e. let o = least k in omega (arith, ints, clamps);
      }

  below_held : (y : ℤ) → Holds d y → Holds b y
  below_held y h =
      let hl = h.low in let hh = h.high in
      by_lt_z (lowest ty) a.high
      (λ (k : lowest ty <ℤ a.high). let o = other k in record { low = omega (arith, ints); high = omega (arith, ints, clamps) })
      (λ (k : a.high ≤ℤ lowest ty). let o = least k in record { low = omega (arith, ints); high = omega (arith, ints, clamps) })

  is_below : (y : ℤ) → y <ℤ pos 0 → IsDivisor ty a y → Holds b y → Holds d y
  is_below y down v h =
      let hl = h.low in let hh = h.high in
      by_lt_z (lowest ty) a.high
      (λ (k : lowest ty <ℤ a.high). let o = other k in record { low = omega (arith, ints); high = omega (arith, ints, clamps) })
      (λ (k : a.high ≤ℤ lowest ty). let o = least k in let w = v.other k in
      record { low = omega (arith, ints); high = omega (arith, ints, clamps) })

  above_held : (y : ℤ) → Holds u y → Holds b y
  above_held y h = let hl = h.low in let hh = h.high in record { low = omega (arith, ints, clamps); high = omega (arith, ints) }

  above_divisor : (y : ℤ) → Holds u y → IsDivisor ty a y
  above_divisor y h = let hl = h.low in record { some = λ e. omega (arith, ints, clamps); other = λ k e. omega (arith, ints, clamps) }

  is_above : (y : ℤ) → pos 0 <ℤ y → Holds b y → Holds u y
  is_above y up h = let hl = h.low in let hh = h.high in record { low = omega (arith, ints, clamps); high = omega (arith, ints) }

  filled_by : (i : Interval) (y : ℤ) → Holds i y → IsFilled i
  filled_by i y h = let hl = h.low in let hh = h.high in omega (arith, ints)

  all_held : (x y : ℤ) → Holds a x → Holds b y → IsDivisor ty a y → Holds j (int_div x y)
  all_held x y h k v = by_lt_z y (pos 0)
      (λ (down : y <ℤ pos 0). let m = is_below y down v k in both (int_div x y) (inl ((by_d (filled_by d y m)).holds x y h m)))
      (λ (o : pos 0 ≤ℤ y). by_lt_z (pos 0) y
      (λ (up : pos 0 <ℤ y). let m = is_above y up k in both (int_div x y) (inr ((by_u (filled_by u y m)).holds x y h m)))
      (λ (zero : y ≤ℤ pos 0). absurd (v.some (omega (arith, ints)))))

  -- the divisors that a filled part has
  d_filled : IsFilled p → IsFilled d
  d_filled f = by_lt_z d.high d.low (λ (e : d.high <ℤ d.low). let n = no_d e in absurd (omega (arith, ints))) (λ (o : d.low ≤ℤ d.high). o)

  u_filled : IsFilled q → IsFilled u
  u_filled f = by_lt_z u.high u.low (λ (e : u.high <ℤ u.low). let n = no_u e in absurd (omega (arith, ints))) (λ (o : u.low ≤ℤ u.high). o)

  low_below : IsFilled p → IsOne p.low
  low_below f = let w = (by_d (d_filled f)).low f in (w.0, w.1, w.2, below_held w.1 w.3, below_divisor w.1 w.3, w.4)

  high_below : IsFilled p → IsOne p.high
  high_below f = let w = (by_d (d_filled f)).high f in (w.0, w.1, w.2, below_held w.1 w.3, below_divisor w.1 w.3, w.4)

  low_above : IsFilled q → IsOne q.low
  low_above f = let w = (by_u (u_filled f)).low f in (w.0, w.1, w.2, above_held w.1 w.3, above_divisor w.1 w.3, w.4)

  high_above : IsFilled q → IsOne q.high
  high_above f = let w = (by_u (u_filled f)).high f in (w.0, w.1, w.2, above_held w.1 w.3, above_divisor w.1 w.3, w.4)

  low_one : IsFilled j → IsOne j.low
  low_one f = by_lt_z p.high p.low
      (λ (e : p.high <ℤ p.low). let same = first e in
      subst (λ (v : Interval). IsOne v.low) (sym same) (low_above (subst IsFilled same f)))
      (λ (o : p.low ≤ℤ p.high). by_lt_z q.high q.low
      (λ (e : q.high <ℤ q.low). subst (λ (v : Interval). IsOne v.low) (sym (second o e)) (low_below o))
      (λ (k : q.low ≤ℤ q.high). subst IsOne (sym (low o k)) (lesser_has IsOne p.low q.low (low_below o) (low_above k))))

  high_one : IsFilled j → IsOne j.high
  high_one f = by_lt_z p.high p.low
      (λ (e : p.high <ℤ p.low). let same = first e in
      subst (λ (v : Interval). IsOne v.high) (sym same) (high_above (subst IsFilled same f)))
      (λ (o : p.low ≤ℤ p.high). by_lt_z q.high q.low
      (λ (e : q.high <ℤ q.low). subst (λ (v : Interval). IsOne v.high) (sym (second o e)) (high_below o))
      (λ (k : q.low ≤ℤ q.high). subst IsOne (sym (high o k)) (greater_has IsOne p.high q.high (high_below o) (high_above k))))

  pub divided_parts : IsDivided ty a b j
  divided_parts = record { holds = all_held; low = low_one; high = high_one }

-- What remainders of members lie between, and what they give in a type.
use Rattle.std.proofs.Common.{◌≡◌, ◌≢◌, ◌⊎◌, inl, inr, ⊎_elim, ℤ, pos, neg_ℤ, ◌-ℤ◌, ◌≤ℤ◌, ◌<ℤ◌, int_rem, subst, arith}
use Rattle.std.proofs.lemmas.Int.{ints, clamps, by_lt_z}
use Rattle.std.specs.Int.{int_min, int_max}
use Rattle.sl_base.specs.declared.scalar.Scalar.{Scalar}
use Rattle.sl_base.specs.declared.scalar.Scalar.TheVariants as kind
use Rattle.sl_syntax.specs.declared.operator.Arithmetic.TheVariants as operator
use Rattle.sl_model.specs.Numbers.{value, operated, lowest, highest}
use Rattle.sl_intervals.specs.declared.interval.Interval.{Interval}
use Rattle.sl_intervals.specs.declared.outcome.Outcome.{Outcome}
use Rattle.sl_intervals.specs.Intervals.{Holds, IsEmpty, IsFilled, IsSingle, IsWithin, LiesIn, IsAtLeast, IsAtMost}
use Rattle.sl_intervals.specs.Outcomes.{IsOutcome}
use Rattle.sl_intervals.specs.Remainders.{IsRemainders}
use Rattle.sl_intervals.specs.Means.Dividing.{IsSingleDivision, IsDivisionVerdict}
use Rattle.sl_intervals.proofs.Divided.{has_zero}
use Rattle.sl_intervals.proofs.Divisions.{are_of, good}
use Rattle.sl_intervals.proofs.Truncation.{is_near}

-- where there are no members
pub empty_remainders : (a b r : Interval) → (IsEmpty a ⊎ IsEmpty b) → IsEmpty r → IsRemainders a b r
empty_remainders a b r none e = record {
  holds = λ x y p q some.
      let pl = p.low in let ph = p.high in let ql = q.low in let qh = q.high in
      absurd (⊎_elim (λ (h : IsEmpty a). omega (arith, ints)) (λ (h : IsEmpty b). omega (arith, ints)) none);
  not_negative = λ h. inl e;
  not_positive = λ h. inl e;
  low = λ h. inl e;
  high = λ h. inl e;
  low_near = λ z h k. inl e;
  high_near = λ z h k. inl e;
}

-- where 0 is the only divisor
pub no_remainders : (a b r : Interval) → pos 0 ≤ℤ b.low → b.high ≤ℤ pos 0 → IsEmpty r → IsRemainders a b r
no_remainders a b r p q e = record {
  holds = λ x y h k some. let kl = k.low in let kh = k.high in absurd (some (omega (arith, ints)));
  not_negative = λ h. inl e;
  not_positive = λ h. inl e;
  low = λ h. inl e;
  high = λ h. inl e;
  low_near = λ z h k. inl e;
  high_near = λ z h k. inl e;
}

-- by the furthest divisor
module _ (a b r : Interval) (limit : ℤ) (fa : IsFilled a) (fb : IsFilled b) (is : limit ≡ int_max (neg_ℤ b.low) b.high) (some : pos 1 ≤ℤ limit)
    (low_zero : pos 0 ≤ℤ a.low → r.low ≡ pos 0) (low : a.low ≤ℤ pos 0 → r.low ≡ int_max a.low (pos 1 -ℤ limit))
    (high_zero : a.high ≤ℤ pos 0 → r.high ≡ pos 0) (high : pos 0 ≤ℤ a.high → r.high ≡ int_min a.high (limit -ℤ pos 1)) where
  low_held : (x y : ℤ) → Holds a x → Holds b y → y ≢ pos 0 → r.low ≤ℤ int_rem x y
  low_held x y p q ne =
      let n = is_near x y in
      let pl = p.low in let ql = q.low in let qh = q.high in
      let near = n.nearer limit (omega (arith, ints, clamps)) (omega (arith, ints, clamps)) ne in
      let nl = near.1 in
      by_lt_z x (pos 0)
      (λ (down : x <ℤ pos 0). let e = low (omega (arith, ints)) in let k = n.below (omega (arith, ints)) in let kl = k.0 in
      omega (arith, ints, clamps))
      (λ (up : pos 0 ≤ℤ x). let k = n.above up in let kl = k.0 in by_lt_z a.low (pos 0)
      (λ (mixed : a.low <ℤ pos 0). let e = low (omega (arith, ints)) in omega (arith, ints, clamps))
      (λ (all : pos 0 ≤ℤ a.low). let e = low_zero all in omega (arith, ints)))

  high_held : (x y : ℤ) → Holds a x → Holds b y → y ≢ pos 0 → int_rem x y ≤ℤ r.high
  high_held x y p q ne =
      let n = is_near x y in
      let ph = p.high in let ql = q.low in let qh = q.high in
      let near = n.nearer limit (omega (arith, ints, clamps)) (omega (arith, ints, clamps)) ne in
      let nh = near.0 in
      by_lt_z (pos 0) x
      (λ (up : pos 0 <ℤ x). let e = high (omega (arith, ints)) in let k = n.above (omega (arith, ints)) in let kh = k.1 in
      omega (arith, ints, clamps))
      (λ (down : x ≤ℤ pos 0). let k = n.below down in let kh = k.1 in by_lt_z (pos 0) a.high
      (λ (mixed : pos 0 <ℤ a.high). let e = high (omega (arith, ints)) in omega (arith, ints, clamps))
      (λ (all : a.high ≤ℤ pos 0). let e = high_zero all in omega (arith, ints)))

  pub rough : IsRemainders a b r
  rough = record {
    holds = λ x y p q ne. record { low = low_held x y p q ne; high = high_held x y p q ne };
    not_negative = λ h. let e = low_zero h in inr (omega (arith, ints));
    not_positive = λ h. let e = high_zero h in inr (omega (arith, ints));
    low = λ h. let e = low h in inr (omega (arith, ints, clamps));
    high = λ h. let e = high h in inr (omega (arith, ints, clamps));
    low_near = λ z p q. inr (by_lt_z a.low (pos 0)
        (λ (h : a.low <ℤ pos 0). let e = low (omega (arith, ints)) in omega (arith, ints, clamps))
        (λ (h : pos 0 ≤ℤ a.low). let e = low_zero h in omega (arith, ints, clamps)));
    high_near = λ z p q. inr (by_lt_z (pos 0) a.high
        (λ (h : pos 0 <ℤ a.high). let e = high (omega (arith, ints)) in omega (arith, ints, clamps))
        (λ (h : a.high ≤ℤ pos 0). let e = high_zero h in omega (arith, ints, clamps)));
  }

-- of two numbers
pub single_remainders : (a b r : Interval) → IsSingleDivision a b → r.low ≡ int_rem a.low b.low → r.high ≡ int_rem a.low b.low → IsRemainders a b r
single_remainders a b r d low high =
    let n = is_near a.low b.low in
    let first = d.first in let second = d.second in
    record {
      holds = λ x y p q ne.
          let pl = p.low in let ph = p.high in let ql = q.low in let qh = q.high in
          let i : x ≡ a.low = omega (arith, ints) in
          let j : y ≡ b.low = omega (arith, ints) in
          let e : int_rem x y ≡ int_rem a.low b.low = cc in
          record { low = omega (arith, ints); high = omega (arith, ints) };
      not_negative = λ h. let k = n.above h in let l = k.0 in inr (omega (arith, ints));
      not_positive = λ h. let k = n.below (omega (arith, ints)) in let l = k.1 in inr (omega (arith, ints));
      low = λ h. let k = n.below h in let l = k.0 in inr (omega (arith, ints));
      high = λ h. let k = n.above (omega (arith, ints)) in let l = k.1 in inr (omega (arith, ints));
      low_near = λ z p q. let k = n.nearer z p (omega (arith, ints)) d.some in let l = k.1 in inr (omega (arith, ints));
      high_near = λ z p q. let k = n.nearer z p (omega (arith, ints)) d.some in let l = k.0 in inr (omega (arith, ints));
    }

zero_has : (ty : Scalar) → pos 0 ≤ℤ highest ty
zero_has kind.Int = omega (arith, ints)
zero_has kind.Bool = omega (arith, ints)
zero_has kind.Size = omega (arith, ints)
zero_has kind.Diff = omega (arith, ints)

-- a bound of an interval that isn't empty
at_least_of : (i : Interval) (z : ℤ) → IsFilled i → IsAtLeast i z → z ≤ℤ i.low
at_least_of i z f h = ⊎_elim (λ (e : IsEmpty i). absurd (omega (arith, ints))) (λ (b : z ≤ℤ i.low). b) h

at_most_of : (i : Interval) (z : ℤ) → IsFilled i → IsAtMost i z → i.high ≤ℤ z
at_most_of i z f h = ⊎_elim (λ (e : IsEmpty i). absurd (omega (arith, ints))) (λ (b : i.high ≤ℤ z). b) h

module _ (ty : Scalar) (a b : Interval) (r : Outcome) (number : ty ≢ kind.Bool) (v : IsWithin ty a) (w : IsWithin ty b)
    (rests : IsRemainders a b r.value) (single : IsSingleDivision a b → IsSingle r.value (int_rem a.low b.low))
    (d : IsDivisionVerdict ty a b r.fault) where
  low_within : IsFilled r.value → lowest ty ≤ℤ r.value.low
  low_within f =
      let z = has_zero ty in let vl = v.low in
      by_lt_z a.low (pos 0)
      (λ (h : a.low <ℤ pos 0). let k = at_least_of r.value a.low f (rests.low (omega (arith, ints))) in omega (arith, ints))
      (λ (h : pos 0 ≤ℤ a.low). let k = at_least_of r.value (pos 0) f (rests.not_negative h) in omega (arith, ints))

  high_within : IsFilled r.value → r.value.high ≤ℤ highest ty
  high_within f =
      let z = zero_has ty in let vh = v.high in
      by_lt_z (pos 0) a.high
      (λ (h : pos 0 <ℤ a.high). let k = at_most_of r.value a.high f (rests.high (omega (arith, ints))) in omega (arith, ints))
      (λ (h : a.high ≤ℤ pos 0). let k = at_most_of r.value (pos 0) f (rests.not_positive h) in omega (arith, ints))

  remainder_within : LiesIn ty r.value
  remainder_within = by_lt_z r.value.high r.value.low
      (λ (h : r.value.high <ℤ r.value.low). inl h)
      (λ (h : r.value.low ≤ℤ r.value.high). inr (record { low = low_within h; high = high_within h }))

  remainder_held : (x y z : ℤ) → Holds a x → Holds b y → operated operator.Remainder ty x y ≡ value z → Holds r.value z
  remainder_held x y z p q e =
      let g = good ty x y (int_rem x y) z number (are_of ty a b x y v w p q) e in
      subst (Holds r.value) g.same (rests.holds x y p q g.fine.some)

  remainder_exact : (x y z : ℤ) → IsSingle a x → IsSingle b y → operated operator.Remainder ty x y ≡ value z → IsSingle r.value z
  remainder_exact x y z p q e =
      let pl = p.low in let ph = p.high in let ql = q.low in let qh = q.high in
      let ha : Holds a x = record { low = omega (arith, ints); high = omega (arith, ints) } in
      let hb : Holds b y = record { low = omega (arith, ints); high = omega (arith, ints) } in
      let g = good ty x y (int_rem x y) z number (are_of ty a b x y v w ha hb) e in
      let same = g.same in
      let s = single (record { first = omega (arith, ints); second = omega (arith, ints); some = λ zero. g.fine.some (omega (arith, ints)) }) in
      subst (IsSingle r.value) (cc) s

  pub remainders_outcome : IsOutcome (operated operator.Remainder ty) ty a b r
  remainders_outcome = record {
    holds = remainder_held;
    exact = remainder_exact;
    within = remainder_within;
    never = d.never (λ x y. int_rem x y);
    always = d.always (λ x y. int_rem x y);
  }

-- What quotients of members give in a type.
use Rattle.std.proofs.Common.{◌≡◌, ◌≢◌, inl, inr, ℤ, pos, negsuc, neg_ℤ, ◌+ℤ◌, ◌≤ℤ◌, ◌<ℤ◌, int_div, refl, sym, ◌∙◌, ap, subst, arith}
use Rattle.std.proofs.lemmas.Int.{ints, clamps, by_lt_z}
use Rattle.std.specs.Int.{int_min, int_max}
use Rattle.sl_base.specs.declared.scalar.Scalar.{Scalar}
use Rattle.sl_base.specs.declared.scalar.Scalar.TheVariants as kind
use Rattle.sl_syntax.specs.declared.operator.Arithmetic.TheVariants as operator
use Rattle.sl_model.specs.Numbers.{Answer, value, operated, lowest, highest}
use Rattle.sl_intervals.specs.declared.interval.Interval.{Interval}
use Rattle.sl_intervals.specs.declared.outcome.Outcome.{Outcome}
use Rattle.sl_intervals.specs.Intervals.{Holds, IsFilled, IsWithin, LiesIn}
use Rattle.sl_intervals.specs.Outcomes.{IsOutcome, IsTight}
use Rattle.sl_intervals.specs.Means.Dividing.{IsDivisor, IsDivided, IsDivisionVerdict}
use Rattle.sl_intervals.proofs.Divisions.{IsFine, AreOf, are_of, has_quotient, divided_fits, good, signed_of}
use Rattle.sl_intervals.proofs.Spanning.{tight_exact}
use Rattle.sl_intervals.proofs.Truncation.{under_dividend, over_least, quotient_falls, under_quotient, over_quotient}

-- a type has 0, and its least number's negation is next to its greatest
pub record IsRound (ty : Scalar) : Type 0 where
  pub below : lowest ty ≤ℤ pos 0
  pub above : pos 0 ≤ℤ highest ty
  pub even : lowest ty ≤ℤ neg_ℤ (highest ty)

round : (ty : Scalar) → lowest ty ≤ℤ negsuc 0 → IsRound ty
round kind.Int h = record { below = omega (arith, ints); above = omega (arith, ints); even = omega (arith, ints) }
round kind.Bool h = absurd (omega (arith, ints))
round kind.Size h = absurd (omega (arith, ints))
round kind.Diff h = record { below = omega (arith, ints); above = omega (arith, ints); even = omega (arith, ints) }

pub has_zero : (ty : Scalar) → lowest ty ≤ℤ pos 0
has_zero kind.Int = omega (arith, ints)
has_zero kind.Bool = omega (arith, ints)
has_zero kind.Size = omega (arith, ints)
has_zero kind.Diff = omega (arith, ints)

-- no quotient is below the type
over_type : (ty : Scalar) (x y : ℤ) → AreOf ty x y → y ≢ pos 0 → lowest ty ≤ℤ int_div x y
over_type ty x y o some =
    let xl = o.first_low in let xh = o.first_high in let yl = o.second_low in
    by_lt_z y (pos 0)
    (λ (down : y <ℤ pos 0). let r = round ty (omega (arith, ints)) in let re = r.even in
    over_least x y (lowest ty) (omega (arith, ints)) (omega (arith, ints)) (has_zero ty))
    (λ (o : pos 0 ≤ℤ y). by_lt_z (pos 0) y
    (λ (up : pos 0 <ℤ y). under_dividend x y (lowest ty) (omega (arith, ints)) xl (has_zero ty))
    (λ (zero : y ≤ℤ pos 0). absurd (some (omega (arith, ints)))))

-- one past it is the least number's by -1
pub record IsLeastOne (ty : Scalar) (x y : ℤ) : Type 0 where
  pub first : x ≤ℤ lowest ty
  pub second : y ≡ negsuc 0

past_type : (ty : Scalar) (x y : ℤ) → ty ≢ kind.Bool → AreOf ty x y → y ≢ pos 0 → highest ty <ℤ int_div x y → IsLeastOne ty x y
past_type ty x y number o some past = by_lt_z (lowest ty) x
    (λ (h : lowest ty <ℤ x).
    let q = has_quotient ty x y number o (record { some = some; other = λ l e. omega (arith, ints) }) in
    let k = q.high in absurd (omega (arith, ints)))
    (λ (h : x ≤ℤ lowest ty). by_lt_z y (negsuc 0)
    (λ (k : y <ℤ negsuc 0).
    let q = has_quotient ty x y number o (record { some = some; other = λ l e. omega (arith, ints) }) in
    let k = q.high in absurd (omega (arith, ints)))
    (λ (k : negsuc 0 ≤ℤ y). by_lt_z (negsuc 0) y
    (λ (m : negsuc 0 <ℤ y).
    let q = has_quotient ty x y number o (record { some = some; other = λ l e. omega (arith, ints) }) in
    let k = q.high in absurd (omega (arith, ints)))
    (λ (m : y ≤ℤ negsuc 0). record { first = h; second = omega (arith, ints) })))

-- the number next to the least one by -1 is the greatest
next_by_one : (ty : Scalar) → ty ≢ kind.Bool → ty ≢ kind.Size → operated operator.Divide ty (lowest ty +ℤ pos 1) (negsuc 0) ≡ value (highest ty)
next_by_one kind.Int number signed = refl
next_by_one kind.Bool number signed = absurd (number refl)
next_by_one kind.Size number signed = absurd (signed refl)
next_by_one kind.Diff number signed = refl

next_is : (ty : Scalar) (z : ℤ) → ty ≢ kind.Bool → ty ≢ kind.Size → z ≡ highest ty
    → operated operator.Divide ty (lowest ty +ℤ pos 1) (negsuc 0) ≡ value z
next_is ty z number signed e = next_by_one ty number signed ∙ ap value (sym e)

-- a quotient that the type has, by name
quotient_is : (ty : Scalar) (x y z : ℤ) → y ≢ pos 0 → lowest ty ≤ℤ int_div x y → z ≤ℤ highest ty → int_div x y ≡ z
    → operated operator.Divide ty x y ≡ value z
quotient_is ty x y z some p q same = divided_fits ty x y (int_div x y) some p (omega (arith, ints)) ∙ ap value same

module _ (ty : Scalar) (a b s : Interval) (r : Outcome) (number : ty ≢ kind.Bool) (v : IsWithin ty a) (w : IsWithin ty b)
    (parts : IsDivided ty a b s) (low : r.value.low ≡ int_max s.low (lowest ty)) (high : r.value.high ≡ int_min s.high (highest ty)) where
  abbrev op : ℤ → ℤ → Answer
  op = operated operator.Divide ty

  quotient_held : (x y z : ℤ) → Holds a x → Holds b y → op x y ≡ value z → Holds r.value z
  quotient_held x y z p q e =
      let g = good ty x y (int_div x y) z number (are_of ty a b x y v w p q) e in
      let ph = p.high in
      let f = g.fine in
      let h = parts.holds x y p q (record { some = f.some; other = λ l. f.other (omega (arith, ints)) }) in
      let hl = h.low in let hh = h.high in let gl = g.low in let gh = g.high in let same = g.same in
      record { low = omega (arith, ints, clamps); high = omega (arith, ints, clamps) }

  -- an end that the type has
  low_of : (x y : ℤ) → Holds a x → Holds b y → IsDivisor ty a y → int_div x y ≡ s.low → IsFilled r.value → op x y ≡ value r.value.low
  low_of x y p q d e f =
      let k = over_type ty x y (are_of ty a b x y v w p q) d.some in
      quotient_is ty x y r.value.low d.some k (omega (arith, ints, clamps)) (omega (arith, ints, clamps))

  high_of : (x y : ℤ) → Holds a x → Holds b y → IsDivisor ty a y → int_div x y ≡ s.high → s.high ≤ℤ highest ty → IsFilled r.value
      → op x y ≡ value r.value.high
  high_of x y p q d e h f =
      let k = over_type ty x y (are_of ty a b x y v w p q) d.some in
      quotient_is ty x y r.value.high d.some k (omega (arith, ints, clamps)) (omega (arith, ints, clamps))

  -- where the least number by -1 is among them, the greatest number is the next one's quotient
  past_of : (x y : ℤ) → Holds a x → Holds b y → IsDivisor ty a y → int_div x y ≡ s.high → highest ty <ℤ s.high → IsFilled r.value
      → (u : ℤ) × (t : ℤ) × Holds a u × Holds b t × (op u t ≡ value r.value.high)
  past_of x y p q d e h f =
      let o = are_of ty a b x y v w p q in
      let yl = o.second_low in
      let m = past_type ty x y number o d.some (omega (arith, ints)) in
      let one = m.second in let first = m.first in let pl = p.low in
      let wide : lowest ty <ℤ a.high = by_lt_z (lowest ty) a.high (λ (k : lowest ty <ℤ a.high). k)
      (λ (k : a.high ≤ℤ lowest ty). absurd (d.other k one)) in (
        lowest ty +ℤ pos 1,
        negsuc 0,
        record { low = omega (arith, ints); high = omega (arith, ints) },
        subst (Holds b) one q,
        next_is ty r.value.high number (signed_of ty (omega (arith, ints))) (omega (arith, ints, clamps)),
      )

  pub quotients_tight : IsTight (operated operator.Divide ty) a b r.value
  quotients_tight = record {
    low = λ f. let t = parts.low (omega (arith, ints, clamps)) in (t.0, t.1, t.2, t.3, low_of t.0 t.1 t.2 t.3 t.4 t.5 f);
    high = λ f. let t = parts.high (omega (arith, ints, clamps)) in by_lt_z (highest ty) s.high
        (λ (h : highest ty <ℤ s.high). past_of t.0 t.1 t.2 t.3 t.4 t.5 h f)
        (λ (h : s.high ≤ℤ highest ty). (t.0, t.1, t.2, t.3, high_of t.0 t.1 t.2 t.3 t.4 t.5 h f));
  }

  value_within : LiesIn ty r.value
  value_within = by_lt_z r.value.high r.value.low
      (λ (h : r.value.high <ℤ r.value.low). inl h)
      (λ (h : r.value.low ≤ℤ r.value.high). inr (record { low = omega (arith, ints, clamps); high = omega (arith, ints, clamps) }))

  pub quotients_outcome : IsDivisionVerdict ty a b r.fault → IsOutcome (operated operator.Divide ty) ty a b r
  quotients_outcome d = record {
    holds = quotient_held;
    exact = tight_exact (operated operator.Divide ty) a b r.value quotient_held quotients_tight;
    within = value_within;
    never = d.never (λ x y. int_div x y);
    always = d.always (λ x y. int_div x y);
  }

-- quotients of numbers that aren't negative by numbers above 0
module _ (ty : Scalar) (a b : Interval) (r : Outcome) (number : ty ≢ kind.Bool) (v : IsWithin ty a) (w : IsWithin ty b) (fa : IsFilled a)
    (fb : IsFilled b) (up : pos 0 ≤ℤ a.low) (above : pos 1 ≤ℤ b.low) (o : IsOutcome (operated operator.Divide ty) ty a b r)
    (t : IsTight (operated operator.Divide ty) a b r.value) where
  is_fine : (x y : ℤ) → Holds b y → IsFine ty x y
  is_fine x y q = let ql = q.low in record { some = λ e. omega (arith, ints); other = λ l e. omega (arith, ints) }

  gives : (x y : ℤ) → Holds a x → Holds b y → operated operator.Divide ty x y ≡ value (int_div x y)
  gives x y p q =
      let f = is_fine x y q in
      let k = has_quotient ty x y number (are_of ty a b x y v w p q) f in
      divided_fits ty x y (int_div x y) f.some k.low k.high

  held : (x y : ℤ) → Holds a x → Holds b y → Holds r.value (int_div x y)
  held x y p q = o.holds x y (int_div x y) p q (gives x y p q)

  first_low : Holds a a.low
  first_low = record { low = omega (arith, ints); high = fa }

  first_high : Holds a a.high
  first_high = record { low = fa; high = omega (arith, ints) }

  second_low : Holds b b.low
  second_low = record { low = omega (arith, ints); high = fb }

  second_high : Holds b b.high
  second_high = record { low = fb; high = omega (arith, ints) }

  some_value : IsFilled r.value
  some_value = let h = held a.low b.low first_low second_low in let hl = h.low in let hh = h.high in omega (arith, ints)

  same_value : (x y z : ℤ) → Holds a x → Holds b y → operated operator.Divide ty x y ≡ value z → int_div x y ≡ z
  same_value x y z p q e = let g = gives x y p q in cc

  pub low_quotient : r.value.low ≡ int_div a.low b.high
  low_quotient =
      let h = held a.low b.high first_low second_high in let hl = h.low in
      let k = t.low some_value in
      let e = same_value k.0 k.1 r.value.low k.2 k.3 k.4 in
      let pl = k.2.low in let ql = k.3.low in let qh = k.3.high in
      let n = quotient_falls a.low k.1 b.high up (omega (arith, ints)) qh in
      let m = under_quotient a.low k.0 k.1 k.1 b.high (int_div a.low b.high) (omega (arith, ints)) (omega (arith, ints)) qh pl n
      (omega (arith, ints)) in
      omega (arith, ints)

  pub high_quotient : r.value.high ≡ int_div a.high b.low
  high_quotient =
      let h = held a.high b.low first_high second_low in let hh = h.high in
      let k = t.high some_value in
      let e = same_value k.0 k.1 r.value.high k.2 k.3 k.4 in
      let ph = k.2.high in let ql = k.3.low in let qh = k.3.high in
      let n = quotient_falls a.high b.low k.1 (omega (arith, ints)) above ql in
      let m = over_quotient a.high k.0 b.low k.1 k.1 (int_div a.high b.low) above ql (omega (arith, ints)) ph (omega (arith, ints)) n in
      omega (arith, ints)

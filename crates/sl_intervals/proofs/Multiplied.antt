-- What products of members give in a type.
use Rattle.std.proofs.Common.{◌≡◌, ◌≢◌, inr, ℤ, pos, ◌*ℤ◌, ◌≤ℤ◌, ◌<ℤ◌, true, false, refl, sym, ap, subst, arith}
use Rattle.std.proofs.lemmas.Int.{ints, clamps, by_lt_z}
use Rattle.std.specs.Int.{int_min, int_max}
use Rattle.sl_base.specs.declared.scalar.Scalar.{Scalar}
use Rattle.sl_base.specs.declared.scalar.Scalar.TheVariants as kind
use Rattle.sl_syntax.specs.declared.operator.Arithmetic.TheVariants as operator
use Rattle.sl_model.specs.Numbers.{value, settled, converted, operated, lowest, highest}
use Rattle.sl_intervals.specs.declared.interval.Interval.{Interval}
use Rattle.sl_intervals.specs.declared.outcome.Outcome.{Outcome}
use Rattle.sl_intervals.specs.declared.sure.Sure.TheVariants.{Never}
use Rattle.sl_intervals.specs.Intervals.{Holds, IsFilled, IsSingle, IsWithin, is_fault}
use Rattle.sl_intervals.specs.Outcomes.{IsOutcome, IsSettled}
use Rattle.sl_intervals.specs.Means.Multiplying.{IsWhole}
use Rattle.sl_intervals.proofs.Corners.{IsProduct, IsHull}
use Rattle.sl_intervals.proofs.Spanning.{only, its_own}
use Rattle.sl_intervals.proofs.Turns.{is_converted, only_converted}
use Rattle.sl_intervals.proofs.Verdicts.{settled_in, settled_under, settled_over, settled_own}

-- single numbers have one product
single_product : (a b : Interval) (x y z : ℤ) → IsSingle a x → IsSingle b y → IsProduct a b z → x *ℤ y ≡ z
single_product a b x y z p q h =
    let i = only a x h.0 p h.2 in
    let j = only b y h.1 q h.3 in
    let e = h.4 in
    cc

-- so what is held of it is exact, where the type has it
pub exact_product : (ty : Scalar) (a b s : Interval) (r : Outcome) (x y z : ℤ) → IsHull a b s → IsSingle a x → IsSingle b y
    → lowest ty ≤ℤ z → z ≤ℤ highest ty → z ≡ x *ℤ y → r.value.low ≡ int_max s.low (lowest ty) → r.value.high ≡ int_min s.high (highest ty)
    → IsSingle r.value z
exact_product ty a b s r x y z hull p q above below e low high =
    let l = single_product a b x y s.low p q hull.low in
    let h = single_product a b x y s.high p q hull.high in
    record { low = omega (arith, ints, clamps); high = omega (arith, ints, clamps) }

module _ (ty : Scalar) (a b s : Interval) (r : Outcome) (signed : ty ≢ kind.Size) (hull : IsHull a b s) (so : IsSettled ty s r)
    (low : r.value.low ≡ int_max s.low (lowest ty)) (high : r.value.high ≡ int_min s.high (highest ty)) where
  -- whether a product that members have faults, where all members' products do, or none
  has_none : (z : ℤ) → ((x y : ℤ) → Holds a x → Holds b y → is_fault (settled ty (x *ℤ y)) ≡ false) → IsProduct a b z
      → is_fault (settled ty z) ≡ false
  has_none z all h = subst (λ (v : ℤ). is_fault (settled ty v) ≡ false) h.4 (all h.0 h.1 h.2 h.3)

  has_all : (z : ℤ) → ((x y : ℤ) → Holds a x → Holds b y → is_fault (settled ty (x *ℤ y)) ≡ true) → IsProduct a b z → is_fault (settled ty z) ≡ true
  has_all z all h = subst (λ (v : ℤ). is_fault (settled ty v) ≡ true) h.4 (all h.0 h.1 h.2 h.3)

  fine_low : (z : ℤ) → is_fault (settled ty z) ≡ false → lowest ty ≤ℤ z
  fine_low z e = by_lt_z z (lowest ty)
      (λ (h : z <ℤ lowest ty). let f = ap is_fault (settled_under ty z signed h) in absurd (cc))
      (λ (h : lowest ty ≤ℤ z). h)

  fine_high : (z : ℤ) → is_fault (settled ty z) ≡ false → z ≤ℤ highest ty
  fine_high z e = by_lt_z (highest ty) z
      (λ (h : highest ty <ℤ z). let f = ap is_fault (settled_over ty z signed h) in absurd (cc))
      (λ (h : z ≤ℤ highest ty). h)

  clash : (z : ℤ) → lowest ty ≤ℤ z → z ≤ℤ highest ty → is_fault (settled ty z) ≡ true → ⊥
  clash z p q e = let f = ap is_fault (settled_in ty z signed p q) in absurd (cc)

  all_within : ((x y : ℤ) → Holds a x → Holds b y → is_fault (settled ty (x *ℤ y)) ≡ false) → (t : ℤ) → Holds s t → is_fault (settled ty t) ≡ false
  all_within all t h =
      let l = h.low in let m = h.high in
      let p = fine_low s.low (has_none s.low all hull.low) in
      let q = fine_high s.high (has_none s.high all hull.high) in
      ap is_fault (settled_in ty t signed (omega (arith, ints)) (omega (arith, ints)))

  -- where all products fault, they are all on one side of the type
  both_sides : (lowest ty ≤ℤ s.high) → (s.low ≤ℤ highest ty) → ((x y : ℤ) → Holds a x → Holds b y → is_fault (settled ty (x *ℤ y)) ≡ true)
      → lowest ty ≤ℤ pos 0 → pos 0 ≤ℤ highest ty → ⊥
  both_sides p q all u v = by_lt_z s.low (lowest ty)
      (λ (below : s.low <ℤ lowest ty). by_lt_z (highest ty) s.high
      (λ (above : highest ty <ℤ s.high). clash (pos 0) u v
      (has_all (pos 0) all (hull.zero (omega (arith, ints)) (omega (arith, ints)))))
      (λ (inside : s.high ≤ℤ highest ty). clash s.high p inside (has_all s.high all hull.high)))
      (λ (inside : lowest ty ≤ℤ s.low). clash s.low inside q (has_all s.low all hull.low))

  all_outside : lowest ty ≤ℤ pos 0 → pos 0 ≤ℤ highest ty → ((x y : ℤ) → Holds a x → Holds b y → is_fault (settled ty (x *ℤ y)) ≡ true)
      → (t : ℤ) → Holds s t → is_fault (settled ty t) ≡ true
  all_outside u v all t h =
      let l = h.low in let m = h.high in
      by_lt_z s.high (lowest ty)
      (λ (below : s.high <ℤ lowest ty). ap is_fault (settled_under ty t signed (omega (arith, ints))))
      (λ (p : lowest ty ≤ℤ s.high). by_lt_z (highest ty) s.low
      (λ (above : highest ty <ℤ s.low). ap is_fault (settled_over ty t signed (omega (arith, ints))))
      (λ (q : s.low ≤ℤ highest ty). absurd (both_sides p q all u v)))

  pub signed_products : lowest ty ≤ℤ pos 0 → pos 0 ≤ℤ highest ty → IsOutcome (λ x y. settled ty (x *ℤ y)) ty a b r
  signed_products u v = record {
    holds = λ x y z p q e. so.holds (x *ℤ y) z (hull.holds x y p q) e;
    exact = λ x y z p q e.
        let own = settled_own ty (x *ℤ y) z signed e in
        let same = own.same in let ol = own.low in let oh = own.high in
        exact_product ty a b s r x y z hull p q (omega (arith, ints)) (omega (arith, ints)) (sym same) low high;
    within = so.within;
    never = (λ e x y p q. so.never.0 e (x *ℤ y) (hull.holds x y p q), λ h. so.never.1 (all_within h));
    always = λ ne. (λ e x y p q. (so.always ne).0 e (x *ℤ y) (hull.holds x y p q), λ h. (so.always ne).1 (all_outside u v h));
  }

-- a size is its own result
own_size : (t : ℤ) → pos 0 ≤ℤ t → t ≤ℤ highest kind.Size → converted kind.Size t ≡ t
own_size t p q = only_converted kind.Size t t (λ e. cc) (record { down = 0; up = 0; is = refl }) p q

result_of : (t z : ℤ) → settled kind.Size t ≡ value z → converted kind.Size t ≡ z
result_of t z e = cc

-- products of sizes that are sizes
pub plain_sizes : (a b s : Interval) (r : Outcome) → IsHull a b s → pos 0 ≤ℤ s.low → s.high ≤ℤ highest kind.Size → r.fault ≡ Never
    → r.value.low ≡ int_max s.low (lowest kind.Size) → r.value.high ≡ int_min s.high (highest kind.Size)
    → IsOutcome (operated operator.Multiply kind.Size) kind.Size a b r
plain_sizes a b s r hull up within fine low high = record {
  holds = λ x y z p q e.
      let h = hull.holds x y p q in let hl = h.low in let hh = h.high in
      let o = own_size (x *ℤ y) (omega (arith, ints)) (omega (arith, ints)) in
      let f = result_of (x *ℤ y) z e in
      record { low = omega (arith, ints, clamps); high = omega (arith, ints, clamps) };
  exact = λ x y z p q e.
      let h = hull.holds x y (its_own a x p) (its_own b y q) in let hl = h.low in let hh = h.high in
      let o = own_size (x *ℤ y) (omega (arith, ints)) (omega (arith, ints)) in
      let f = result_of (x *ℤ y) z e in
      exact_product kind.Size a b s r x y z hull p q (omega (arith, ints)) (omega (arith, ints)) (omega (arith, ints)) low high;
  within = inr (record { low = omega (arith, ints, clamps); high = omega (arith, ints, clamps) });
  never = (λ e x y p q. refl, λ h. fine);
  always = λ ne. absurd (ne fine);
}

-- products of sizes, taken modulo
whole_holds : (t z : ℤ) (i : Interval) → settled kind.Size t ≡ value z → IsWhole kind.Size i → Holds i z
whole_holds t z i e w =
    let k = is_converted kind.Size t (λ e. cc) in let kl = k.low in let kh = k.high in
    let f = result_of t z e in
    let l = w.low in let h = w.high in
    record { low = omega (arith, ints); high = omega (arith, ints) }

module _ (a b : Interval) (r : Outcome) (f : IsFilled a) (g : IsFilled b) (fine : r.fault ≡ Never)
    (first : a.low <ℤ a.high → IsWhole kind.Size r.value) (second : b.low <ℤ b.high → IsWhole kind.Size r.value)
    (single : a.low ≡ a.high → b.low ≡ b.high → IsSingle r.value (converted kind.Size (a.low *ℤ b.low))) where
  wrapped_single : (x y z : ℤ) → IsSingle a x → IsSingle b y → settled kind.Size (x *ℤ y) ≡ value z → IsSingle r.value z
  wrapped_single x y z p q e =
      let pl = p.low in let ph = p.high in let ql = q.low in let qh = q.high in
      let k = result_of (x *ℤ y) z e in
      subst (λ (v : ℤ). IsSingle r.value v) (cc) (single (cc) (cc))

  wrapped_holds : (x y z : ℤ) → Holds a x → Holds b y → settled kind.Size (x *ℤ y) ≡ value z → Holds r.value z
  wrapped_holds x y z p q e = by_lt_z a.low a.high
      (λ (wide : a.low <ℤ a.high). whole_holds (x *ℤ y) z r.value e (first wide))
      (λ (one : a.high ≤ℤ a.low). by_lt_z b.low b.high
      (λ (wide : b.low <ℤ b.high). whole_holds (x *ℤ y) z r.value e (second wide))
      (λ (other : b.high ≤ℤ b.low).
      let pl = p.low in let ph = p.high in let ql = q.low in let qh = q.high in
      its_own r.value z (wrapped_single x y z (record { low = omega (arith, ints); high = omega (arith, ints) })
      (record { low = omega (arith, ints); high = omega (arith, ints) }) e)))

  wrapped_within : IsWithin kind.Size r.value
  wrapped_within = by_lt_z a.low a.high
      (λ (wide : a.low <ℤ a.high). let w = first wide in let l = w.low in let h = w.high in
      record { low = omega (arith, ints); high = omega (arith, ints) })
      (λ (one : a.high ≤ℤ a.low). by_lt_z b.low b.high
      (λ (wide : b.low <ℤ b.high). let w = second wide in let l = w.low in let h = w.high in
      record { low = omega (arith, ints); high = omega (arith, ints) })
      (λ (other : b.high ≤ℤ b.low).
      let k = is_converted kind.Size (a.low *ℤ b.low) (λ e. cc) in let kl = k.low in let kh = k.high in
      let w = single (omega (arith, ints)) (omega (arith, ints)) in let l = w.low in let h = w.high in
      record { low = omega (arith, ints); high = omega (arith, ints) }))

  pub wrapped_sizes : IsOutcome (operated operator.Multiply kind.Size) kind.Size a b r
  wrapped_sizes = record {
    holds = wrapped_holds;
    exact = wrapped_single;
    within = inr wrapped_within;
    never = (λ e x y p q. refl, λ h. fine);
    always = λ ne. absurd (ne fine);
  }

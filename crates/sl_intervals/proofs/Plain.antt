-- Products that aren't taken modulo.
use Rattle.std.proofs.Common.{◌≡◌, ◌≢◌, ⊎_elim, ℤ, pos, negsuc, ◌*ℤ◌, ◌≤ℤ◌, FitsSigned, refl, arith}
use Rattle.std.proofs.lemmas.Int.{ints, fits_signed_mul, fits_signed_from_abs}
use Rattle.std.specs.Int.{int_min, int_max, w128}
use Rattle.std.proofs.Math.IntN.{*ℤ_comm}
use Rattle.sl_base.specs.declared.scalar.Scalar.{Scalar}
use Rattle.sl_base.specs.declared.scalar.Scalar.TheVariants as kind
use Rattle.sl_syntax.specs.declared.operator.Arithmetic.TheVariants as operator
use Rattle.sl_model.specs.Numbers.{operated, lowest, highest}
use Rattle.sl_intervals.specs.declared.interval.Interval.{Interval}
use Rattle.sl_intervals.specs.declared.outcome.Outcome.{Outcome}
use Rattle.sl_intervals.specs.declared.sure.Sure.TheVariants.{Never}
use Rattle.sl_intervals.specs.Intervals.{Holds, IsFilled, IsWithin}
use Rattle.sl_intervals.specs.Outcomes.{IsOutcome, IsSettled}
use Rattle.sl_intervals.specs.Means.Multiplying.{HaveProducts}
use Rattle.sl_intervals.specs.Products.{IsPlain}
use Rattle.sl_intervals.proofs.Corners.{IsProduct, IsHull, both_up}
use Rattle.sl_intervals.proofs.Factors.{product_rises}
use Rattle.sl_intervals.proofs.Multiplied.{signed_products, plain_sizes}
use Rattle.sl_intervals.proofs.Truncation.{IsFromTo, size_bound}

-- products of numbers that aren't negative rise with both
products_rise : (x y h k : ℤ) → pos 0 ≤ℤ x → x ≤ℤ h → pos 0 ≤ℤ y → y ≤ℤ k → (x *ℤ y) ≤ℤ (h *ℤ k)
products_rise x (negsuc n) h k p q r s = absurd (omega (arith, ints))
products_rise (negsuc m) (pos n) h k p q r s = absurd (omega (arith, ints))
products_rise (pos m) (pos n) (negsuc h) k p q r s = absurd (omega (arith, ints))
products_rise (pos m) (pos n) (pos h) k p q r s =
    let a = product_rises (pos m) (pos h) n q in
    let b = product_rises (pos n) k h s in
    let c = *ℤ_comm (pos h) (pos n) in
    let d = *ℤ_comm (pos h) k in
    omega (arith, ints)

-- sizes whose products are sizes
module _ (a b : Interval) (v : IsWithin kind.Size a) (w : IsWithin kind.Size b) (fa : IsFilled a) (fb : IsFilled b)
    (plain : (a.high *ℤ b.high) ≤ℤ highest kind.Size) where
  size_bounds : (x y : ℤ) → Holds a x → Holds b y → IsFromTo (pos 0) (highest kind.Size) (x *ℤ y)
  size_bounds x y p q =
      let vl = v.low in let wl = w.low in
      let pl = p.low in let ql = q.low in
      let k = products_rise x y a.high b.high (omega (arith, ints)) p.high (omega (arith, ints)) q.high in
      record { low = both_up x y (omega (arith, ints)) (omega (arith, ints)); high = omega (arith, ints) }

  pub plain_low : (z : ℤ) → IsProduct a b z → pos 0 ≤ℤ z
  plain_low z h = let k = size_bounds h.0 h.1 h.2 h.3 in let l = k.low in let e = h.4 in omega (arith, ints)

  pub plain_high : (z : ℤ) → IsProduct a b z → z ≤ℤ highest kind.Size
  plain_high z h = let k = size_bounds h.0 h.1 h.2 h.3 in let l = k.high in let e = h.4 in omega (arith, ints)

  size_fits : (x y : ℤ) → Holds a x → Holds b y → FitsSigned w128 (x *ℤ y)
  size_fits x y p q =
      let k = size_bounds x y p q in
      let l = k.low in
      let u = size_bound (x *ℤ y) (highest kind.Size) (omega (arith, ints)) k.high in
      fits_signed_from_abs w128 (x *ℤ y) (omega (arith, ints))

  pub sizes_have : HaveProducts a b
  sizes_have = record {
    low_low = size_fits a.low b.low (record { low = omega (arith, ints); high = fa }) (record { low = omega (arith, ints); high = fb });
    low_high = size_fits a.low b.high (record { low = omega (arith, ints); high = fa }) (record { low = fb; high = omega (arith, ints) });
    high_low = size_fits a.high b.low (record { low = fa; high = omega (arith, ints) }) (record { low = omega (arith, ints); high = fb });
    high_high = size_fits a.high b.high (record { low = fa; high = omega (arith, ints) }) (record { low = fb; high = omega (arith, ints) });
  }

-- numbers of 64 bits have products
signed_fits : (x y : ℤ) → negsuc 9223372036854775807 ≤ℤ x → x ≤ℤ pos 9223372036854775807 → negsuc 9223372036854775807 ≤ℤ y
    → y ≤ℤ pos 9223372036854775807 → FitsSigned w128 (x *ℤ y)
signed_fits x y p q r s =
    let u = size_bound x (pos 9223372036854775808) (omega (arith, ints)) (omega (arith, ints)) in
    let v = size_bound y (pos 9223372036854775808) (omega (arith, ints)) (omega (arith, ints)) in
    fits_signed_mul w128 x y 9223372036854775808 9223372036854775808 (omega (arith, ints)) (omega (arith, ints)) (omega arith)

signed_have : (ty : Scalar) (a b : Interval) → negsuc 9223372036854775807 ≤ℤ lowest ty → highest ty ≤ℤ pos 9223372036854775807 → IsWithin ty a
    → IsWithin ty b → IsFilled a → IsFilled b → HaveProducts a b
signed_have ty a b low high v w fa fb =
    let vl = v.low in let vh = v.high in let wl = w.low in let wh = w.high in
    record {
      low_low = signed_fits a.low b.low (omega (arith, ints)) (omega (arith, ints)) (omega (arith, ints)) (omega (arith, ints));
      low_high = signed_fits a.low b.high (omega (arith, ints)) (omega (arith, ints)) (omega (arith, ints)) (omega (arith, ints));
      high_low = signed_fits a.high b.low (omega (arith, ints)) (omega (arith, ints)) (omega (arith, ints)) (omega (arith, ints));
      high_high = signed_fits a.high b.high (omega (arith, ints)) (omega (arith, ints)) (omega (arith, ints)) (omega (arith, ints));
    }

-- a size's products are plain where its type isn't signed
size_plain : (a b : Interval) → IsPlain kind.Size a b → (a.high *ℤ b.high) ≤ℤ highest kind.Size
size_plain a b h = ⊎_elim (λ (ne : kind.Size ≢ kind.Size). absurd (ne refl)) (λ (p : (a.high *ℤ b.high) ≤ℤ highest kind.Size). p) h

pub have_products : (ty : Scalar) (a b : Interval) → ty ≢ kind.Bool → IsPlain ty a b → IsWithin ty a → IsWithin ty b → IsFilled a → IsFilled b
    → HaveProducts a b
have_products kind.Int a b number plain v w fa fb = signed_have kind.Int a b (omega (arith, ints)) (omega (arith, ints)) v w fa fb
have_products kind.Bool a b number plain v w fa fb = absurd (number refl)
have_products kind.Size a b number plain v w fa fb = sizes_have a b v w fa fb (size_plain a b plain)
have_products kind.Diff a b number plain v w fa fb = signed_have kind.Diff a b (omega (arith, ints)) (omega (arith, ints)) v w fa fb

-- products of ends have a least and a greatest
pub hull_filled : (a b s : Interval) → IsHull a b s → IsFilled a → IsFilled b → IsFilled s
hull_filled a b s h fa fb =
    let k = h.holds a.low b.low (record { low = omega (arith, ints); high = fa }) (record { low = omega (arith, ints); high = fb }) in
    let l = k.low in let m = k.high in
    omega (arith, ints)

pub plain_outcome : (ty : Scalar) (a b s : Interval) (r : Outcome) → ty ≢ kind.Bool → IsPlain ty a b → IsWithin ty a → IsWithin ty b → IsFilled a
    → IsFilled b → IsHull a b s → (ty ≢ kind.Size → IsSettled ty s r) → (IsWithin ty s → r.fault ≡ Never)
    → r.value.low ≡ int_max s.low (lowest ty) → r.value.high ≡ int_min s.high (highest ty) → IsOutcome (operated operator.Multiply ty) ty a b r
plain_outcome kind.Int a b s r number plain v w fa fb hull so fine low high =
    signed_products kind.Int a b s r (λ e. cc) hull (so (λ e. cc)) low high (omega (arith, ints)) (omega (arith, ints))
plain_outcome kind.Bool a b s r number plain v w fa fb hull so fine low high = absurd (number refl)
plain_outcome kind.Size a b s r number plain v w fa fb hull so fine low high =
    let p = size_plain a b plain in
    let l = plain_low a b v w fa fb p s.low hull.low in
    let h = plain_high a b v w fa fb p s.high hull.high in
    plain_sizes a b s r hull l h (fine (record { low = l; high = h })) low high
plain_outcome kind.Diff a b s r number plain v w fa fb hull so fine low high =
    signed_products kind.Diff a b s r (λ e. cc) hull (so (λ e. cc)) low high (omega (arith, ints)) (omega (arith, ints))

-- What the members of an interval become, by its ends.
use Rattle.std.proofs.Common.{zero, suc, ◌+◌, ◌*◌, ◌<◌, ◌≡◌, ◌≢◌, ℤ, pos, negsuc, ◌+ℤ◌, ◌-ℤ◌, ◌≤ℤ◌, ◌<ℤ◌, refl, sym, ◌∙◌, subst, arith}
use Rattle.std.proofs.lemmas.Int.{ints, by_lt_z}
use Rattle.std.specs.Int.{int_rem_euclid}
use Rattle.std.proofs.Math.Nat.{add-mul}
use Rattle.sl_base.specs.declared.scalar.Scalar.{Scalar}
use Rattle.sl_base.specs.declared.scalar.Scalar.TheVariants as t
use Rattle.sl_model.specs.Numbers.{converted, lowest, highest}
use Rattle.sl_intervals.specs.declared.interval.Interval.{Interval}
use Rattle.sl_intervals.specs.Intervals.{IsFilled}
use Rattle.sl_intervals.specs.Images.{IsImage}
use Rattle.sl_intervals.proofs.Turns.{IsConverted, count, span, euclid, rest_turn}
use Rattle.sl_intervals.proofs.Turns.{modulo_small, is_converted, only_converted, converted_further, converted_around}

-- a number's rest, or the rest less the count of the type, where that is of the type
pub by_rest : (ty : Scalar) (z rest r h : ℤ) → ty ≢ t.Bool → rest ≡ int_rem_euclid z (pos (count ty)) → 0 < count ty
    → (rest <ℤ h → r ≡ rest) → (h ≤ℤ rest → r ≡ rest -ℤ (h +ℤ h)) → (highest ty +ℤ pos 1) ≡ h → (lowest ty +ℤ h) ≡ pos 0
    → r ≡ converted ty z
by_rest ty z rest r h scalar is some small large top bottom =
    let s = span ty in
    let e = euclid z (count ty) in
    let l = modulo_small z (count ty) some in
    let turn = rest_turn z (count ty) some in
    let same = turn.is in
    let more : (turn.up + 1) * count ty ≡ turn.up * count ty + 1 * count ty = add-mul turn.up 1 (count ty) in
    by_lt_z rest h
    (λ (below : rest <ℤ h). let v = small below in sym (only_converted ty z r scalar
    (record { down = turn.down; up = turn.up; is = omega (arith, ints) }) (omega (arith, ints)) (omega (arith, ints))))
    (λ (above : h ≤ℤ rest). let v = large above in sym (only_converted ty z r scalar
    (record { down = turn.down; up = turn.up + 1; is = omega (arith, ints) }) (omega (arith, ints)) (omega (arith, ints))))

-- the low end's number by name
pub named : (ty : Scalar) (z r : ℤ) → ty ≢ t.Bool → r ≡ converted ty z → IsConverted ty z r
named ty z r scalar e = let k = is_converted ty z scalar in subst (λ (v : ℤ). IsConverted ty z v) (sym e) k

-- the members become numbers in a row
pub near_image : (to : Scalar) (a r : Interval) (first : ℤ) → to ≢ t.Bool → IsFilled a → IsConverted to a.low first
    → a.high ≤ℤ (a.low +ℤ (highest to -ℤ first)) → r.low ≡ first → r.high ≡ first +ℤ (a.high -ℤ a.low) → IsImage to a r
near_image to a r first scalar filled k near low high =
    let kl = k.low in
    record {
      holds = λ z h.
          let hl = h.low in let hh = h.high in
          let e : converted to z ≡ first +ℤ (z -ℤ a.low) = converted_further to a.low z first scalar k (omega (arith, ints)) (omega (arith, ints)) in
          record { low = omega (arith, ints); high = omega (arith, ints) };
      low = (
        a.low,
        record { low = omega (arith, ints); high = filled },
        let e : converted to a.low ≡ first +ℤ (a.low -ℤ a.low) = converted_further to a.low a.low first scalar k (omega (arith, ints))
            (omega (arith, ints)) in
            omega (arith, ints),
      );
      high = (
        a.high,
        record { low = filled; high = omega (arith, ints) },
        let e : converted to a.high ≡ first +ℤ (a.high -ℤ a.low) = converted_further to a.low a.high first scalar k (omega (arith, ints))
            (omega (arith, ints)) in
            omega (arith, ints),
      );
      within = record { low = omega (arith, ints); high = omega (arith, ints) };
    }

-- they go past the type's end
pub far_image : (to : Scalar) (a r : Interval) (first : ℤ) → to ≢ t.Bool → IsConverted to a.low first
    → (a.low +ℤ (highest to -ℤ first)) <ℤ a.high → r.low ≡ lowest to → r.high ≡ highest to → IsImage to a r
far_image to a r first scalar k far low high =
    let kl = k.low in let kh = k.high in
    let last : ℤ = a.low +ℤ (highest to -ℤ first) in
    record {
      holds = λ z h.
          let n = is_converted to z scalar in
          let nl = n.low in let nh = n.high in
          record { low = omega (arith, ints); high = omega (arith, ints) };
      low = (
        a.low +ℤ ((highest to -ℤ first) +ℤ pos 1),
        record { low = omega (arith, ints); high = omega (arith, ints) },
        let e : converted to (a.low +ℤ ((highest to -ℤ first) +ℤ pos 1)) ≡ lowest to =
            converted_around to a.low (a.low +ℤ ((highest to -ℤ first) +ℤ pos 1)) first scalar k (omega (arith, ints)) (omega (arith, ints)) in
            e ∙ sym low,
      );
      high = (
        a.low +ℤ (highest to -ℤ first),
        record { low = omega (arith, ints); high = omega (arith, ints) },
        let e : converted to (a.low +ℤ (highest to -ℤ first)) ≡ first +ℤ ((a.low +ℤ (highest to -ℤ first)) -ℤ a.low) =
            converted_further to a.low (a.low +ℤ (highest to -ℤ first)) first scalar k (omega (arith, ints)) (omega (arith, ints)) in
            omega (arith, ints),
      );
      within = record { low = omega (arith, ints); high = omega (arith, ints) };
    }

-- conversion to bool
truth_of : (z : ℤ) → z ≢ pos 0 → converted t.Bool z ≡ pos 1
truth_of z h = grind (arith, ints)

by_truth : {P : Type 0} (z : ℤ) → (converted t.Bool z ≡ pos 0 → P) → (converted t.Bool z ≡ pos 1 → P) → P
by_truth {P} (pos zero) f g = f refl
by_truth {P} (pos (suc n)) f g = g (truth_of (pos (suc n)) (omega (arith, ints)))
by_truth {P} (negsuc n) f g = g refl

-- a zero among other members
pub mixed_image : (a r : Interval) → a.low ≤ℤ pos 0 → pos 0 ≤ℤ a.high → a.low <ℤ a.high → r.low ≡ pos 0 → r.high ≡ pos 1 → IsImage t.Bool a r
mixed_image a r l h some low high = record {
  holds = λ z k. by_truth z (λ e. record { low = omega (arith, ints); high = omega (arith, ints) })
      (λ e. record { low = omega (arith, ints); high = omega (arith, ints) });
  low = (pos 0, record { low = l; high = h }, sym low);
  high = by_lt_z a.low (pos 0)
      (λ (under : a.low <ℤ pos 0). (
        a.low,
        record { low = omega (arith, ints); high = omega (arith, ints) },
        truth_of a.low
            (omega (arith, ints)) ∙ sym high,
      ))
      (λ (over : pos 0 ≤ℤ a.low). (
        a.high,
        record { low = omega (arith, ints); high = omega (arith, ints) },
        truth_of a.high
            (omega (arith, ints)) ∙ sym high,
      ));
  within = record { low = omega (arith, ints); high = omega (arith, ints) };
}

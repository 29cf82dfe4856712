-- How far a search for a stop has come.
use Rattle.std.proofs.Common.{◌≡◌, ◌⊎◌, ℕ, ◌+◌, ◌<◌, ◌≤◌, ℤ, pos, ◌≤ℤ◌, ◌<ℤ◌, List, length, get_or, sym, subst, inl, ⊎_elim, arith}
use Rattle.std.proofs.lemmas.Int.{ints, by_lt_z}
use Rattle.std.proofs.lemmas.Bool.{cases_lt}
use Rattle.sl_base.specs.declared.scalar.Scalar.{Scalar}
use Rattle.sl_model.specs.Numbers.{lowest, highest}
use Rattle.sl_intervals.specs.Stops.{IsOneOf, IsStopAbove, IsStopBelow}

-- e is the stop above z by the first i numbers
pub record IsSoFarAbove (ty : Scalar) (numbers : List ℤ) (z e : ℤ) (i : ℕ) : Type 0 where
  pub above : z ≤ℤ e
  pub within : e ≤ℤ highest ty
  pub one : IsOneOf ty numbers e ⊎ (e ≡ highest ty)
  pub least : (k : ℕ) → k < i → z ≤ℤ get_or numbers k (pos 0) → e ≤ℤ get_or numbers k (pos 0)

-- e is the stop below z by the first i numbers
pub record IsSoFarBelow (ty : Scalar) (numbers : List ℤ) (z e : ℤ) (i : ℕ) : Type 0 where
  pub below : e ≤ℤ z
  pub within : lowest ty ≤ℤ e
  pub one : IsOneOf ty numbers e ⊎ (e ≡ lowest ty)
  pub greatest : (k : ℕ) → k < i → get_or numbers k (pos 0) ≤ℤ z → get_or numbers k (pos 0) ≤ℤ e

module _ (ty : Scalar) (numbers : List ℤ) (z e n r : ℤ) (i : ℕ) (inside : i < length numbers) (is : n ≡ get_or numbers i (pos 0)) where
  -- a number that the stop passes over
  passed_above : (z ≤ℤ n → e ≤ℤ n) → IsSoFarAbove ty numbers z e i → IsSoFarAbove ty numbers z e (i + 1)
  passed_above far so = record {
    above = so.above;
    within = so.within;
    one = so.one;
    least = λ k h p. ⊎_elim
        (λ (before : k < i). so.least k before p)
        (λ (last : i ≤ k).
        let same : k ≡ i = omega arith in
        subst (λ (j : ℕ). e ≤ℤ get_or numbers j (pos 0)) (sym same)
        (subst (λ (v : ℤ). e ≤ℤ v) is (far (subst (λ (v : ℤ). z ≤ℤ v) (sym is) (subst (λ (j : ℕ). z ≤ℤ get_or numbers j (pos 0)) same p)))))
        (cases_lt k i);
  }

  passed_below : (n ≤ℤ z → n ≤ℤ e) → IsSoFarBelow ty numbers z e i → IsSoFarBelow ty numbers z e (i + 1)
  passed_below far so = record {
    below = so.below;
    within = so.within;
    one = so.one;
    greatest = λ k h p. ⊎_elim
        (λ (before : k < i). so.greatest k before p)
        (λ (last : i ≤ k).
        let same : k ≡ i = omega arith in
        subst (λ (j : ℕ). get_or numbers j (pos 0) ≤ℤ e) (sym same)
        (subst (λ (v : ℤ). v ≤ℤ e) is (far (subst (λ (v : ℤ). v ≤ℤ z) (sym is) (subst (λ (j : ℕ). get_or numbers j (pos 0) ≤ℤ z) same p)))))
        (cases_lt k i);
  }

  -- a number that becomes the stop
  taken_above : lowest ty ≤ℤ z → z ≤ℤ n → n ≤ℤ e → IsSoFarAbove ty numbers z e i → IsSoFarAbove ty numbers z n (i + 1)
  taken_above bottom p q so =
      let w = so.within in
      record {
        above = p;
        within = omega (arith, ints);
        one = inl (i, record { inside = inside; low = omega (arith, ints); high = omega (arith, ints) }, sym is);
        least = λ k h s. ⊎_elim
            (λ (before : k < i). let m = so.least k before s in omega (arith, ints))
            (λ (last : i ≤ k). let same : k ≡ i = omega arith in subst (λ (j : ℕ). n ≤ℤ get_or numbers j (pos 0)) (sym same) (omega (arith, ints)))
            (cases_lt k i);
      }

  taken_below : z ≤ℤ highest ty → n ≤ℤ z → e ≤ℤ n → IsSoFarBelow ty numbers z e i → IsSoFarBelow ty numbers z n (i + 1)
  taken_below top p q so =
      let w = so.within in
      record {
        below = p;
        within = omega (arith, ints);
        one = inl (i, record { inside = inside; low = omega (arith, ints); high = omega (arith, ints) }, sym is);
        greatest = λ k h s. ⊎_elim
            (λ (before : k < i). let m = so.greatest k before s in omega (arith, ints))
            (λ (last : i ≤ k). let same : k ≡ i = omega arith in subst (λ (j : ℕ). get_or numbers j (pos 0) ≤ℤ n) (sym same) (omega (arith, ints)))
            (cases_lt k i);
      }

  pub next_above : lowest ty ≤ℤ z → (z ≤ℤ n → n ≤ℤ e → r ≡ n) → (n <ℤ z → r ≡ e) → (e <ℤ n → r ≡ e)
      → IsSoFarAbove ty numbers z e i → IsSoFarAbove ty numbers z r (i + 1)
  next_above bottom taken under over so = by_lt_z n z
      (λ (h : n <ℤ z). subst (λ (v : ℤ). IsSoFarAbove ty numbers z v (i + 1)) (sym (under h)) (passed_above (λ p. omega (arith, ints)) so))
      (λ (h : z ≤ℤ n). by_lt_z e n
      (λ (g : e <ℤ n). subst (λ (v : ℤ). IsSoFarAbove ty numbers z v (i + 1)) (sym (over g)) (passed_above (λ p. omega (arith, ints)) so))
      (λ (g : n ≤ℤ e). subst (λ (v : ℤ). IsSoFarAbove ty numbers z v (i + 1)) (sym (taken h g)) (taken_above bottom h g so)))

  pub next_below : z ≤ℤ highest ty → (n ≤ℤ z → e ≤ℤ n → r ≡ n) → (z <ℤ n → r ≡ e) → (n <ℤ e → r ≡ e)
      → IsSoFarBelow ty numbers z e i → IsSoFarBelow ty numbers z r (i + 1)
  next_below top taken over under so = by_lt_z z n
      (λ (h : z <ℤ n). subst (λ (v : ℤ). IsSoFarBelow ty numbers z v (i + 1)) (sym (over h)) (passed_below (λ p. omega (arith, ints)) so))
      (λ (h : n ≤ℤ z). by_lt_z n e
      (λ (g : n <ℤ e). subst (λ (v : ℤ). IsSoFarBelow ty numbers z v (i + 1)) (sym (under g)) (passed_below (λ p. omega (arith, ints)) so))
      (λ (g : e ≤ℤ n). subst (λ (v : ℤ). IsSoFarBelow ty numbers z v (i + 1)) (sym (taken h g)) (taken_below top h g so)))

pub stops_above : (ty : Scalar) (numbers : List ℤ) (z e : ℤ) (i : ℕ) → length numbers ≤ i → IsSoFarAbove ty numbers z e i → IsStopAbove ty numbers z e
stops_above ty numbers z e i all so = record {
  above = so.above;
  within = so.within;
  one = so.one;
  least = λ k of p. let inside = of.inside in so.least k (omega arith) p;
}

pub stops_below : (ty : Scalar) (numbers : List ℤ) (z e : ℤ) (i : ℕ) → length numbers ≤ i → IsSoFarBelow ty numbers z e i → IsStopBelow ty numbers z e
stops_below ty numbers z e i all so = record {
  below = so.below;
  within = so.within;
  one = so.one;
  greatest = λ k of p. let inside = of.inside in so.greatest k (omega arith) p;
}

-- what stands below both ends stands below a stop
pub kept_below : (ty : Scalar) (numbers : List ℤ) (z e w : ℤ) → IsStopBelow ty numbers z e → IsOneOf ty numbers w → w ≤ℤ z → w ≤ℤ e
kept_below ty numbers z e w stop one below =
    subst (λ (v : ℤ). v ≤ℤ e) one.2 (stop.greatest one.0 one.1 (subst (λ (v : ℤ). v ≤ℤ z) (sym one.2) below))

pub kept_above : (ty : Scalar) (numbers : List ℤ) (z e w : ℤ) → IsStopAbove ty numbers z e → IsOneOf ty numbers w → z ≤ℤ w → e ≤ℤ w
kept_above ty numbers z e w stop one above =
    subst (λ (v : ℤ). e ≤ℤ v) one.2 (stop.least one.0 one.1 (subst (λ (v : ℤ). z ≤ℤ v) (sym one.2) above))

-- what a widened low end keeps to
pub record IsWidenedLow (ty : Scalar) (numbers : List ℤ) (old new r : ℤ) : Type 0 where
  pub under_old : r ≤ℤ old
  pub under_new : r ≤ℤ new
  pub within : lowest ty ≤ℤ old → lowest ty ≤ℤ r
  pub keeps : (w : ℤ) → IsOneOf ty numbers w → w ≤ℤ old → w ≤ℤ new → w ≤ℤ r

pub widened_low_of : (ty : Scalar) (numbers : List ℤ) (old new r : ℤ) → (old ≤ℤ new → r ≡ old) → (new <ℤ old → IsStopBelow ty numbers new r)
    → IsWidenedLow ty numbers old new r
widened_low_of ty numbers old new r kept fallen = by_lt_z new old
    (λ (h : new <ℤ old).
    let stop = fallen h in
    let below = stop.below in
    record {
      under_old = omega (arith, ints);
      under_new = below;
      within = λ p. stop.within;
      keeps =
          λ w one p q. kept_below ty numbers new r w stop one q;
    })
    (λ (h : old ≤ℤ new).
    let e = kept h in
    record {
      under_old = omega (arith, ints);
      under_new = omega (arith, ints);
      within = λ p. omega (arith, ints);
      keeps = λ w one p q. omega
          (arith, ints);
    })

-- what a widened high end keeps to
pub record IsWidenedHigh (ty : Scalar) (numbers : List ℤ) (old new r : ℤ) : Type 0 where
  pub over_old : old ≤ℤ r
  pub over_new : new ≤ℤ r
  pub within : old ≤ℤ highest ty → r ≤ℤ highest ty
  pub keeps : (w : ℤ) → IsOneOf ty numbers w → old ≤ℤ w → new ≤ℤ w → r ≤ℤ w

pub widened_high_of : (ty : Scalar) (numbers : List ℤ) (old new r : ℤ) → (new ≤ℤ old → r ≡ old) → (old <ℤ new → IsStopAbove ty numbers new r)
    → IsWidenedHigh ty numbers old new r
widened_high_of ty numbers old new r kept grown = by_lt_z old new
    (λ (h : old <ℤ new).
    let stop = grown h in
    let above = stop.above in
    record {
      over_old = omega (arith, ints);
      over_new = above;
      within = λ p. stop.within;
      keeps =
          λ w one p q. kept_above ty numbers new r w stop one q;
    })
    (λ (h : new ≤ℤ old).
    let e = kept h in
    record {
      over_old = omega (arith, ints);
      over_new = omega (arith, ints);
      within = λ p. omega (arith, ints);
      keeps = λ w one p q. omega
          (arith, ints);
    })

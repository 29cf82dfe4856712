-- Products of members lie between the least and the greatest product of ends, and those are products of members.
use Rattle.std.proofs.Common.{zero, suc, ◌≡◌, ℤ, pos, negsuc, ◌*ℤ◌, ◌≤ℤ◌, ◌<ℤ◌, refl, sym, subst, arith}
use Rattle.std.proofs.lemmas.Int.{ints, clamps, by_lt_z}
use Rattle.std.specs.Int.{int_min, int_max}
use Rattle.std.proofs.Math.IntN.{zero-*ℤ, *ℤ-zero, *ℤ_comm}
use Rattle.sl_intervals.specs.declared.interval.Interval.{Interval}
use Rattle.sl_intervals.specs.Intervals.{Holds, IsFilled}
use Rattle.sl_intervals.specs.Products.{least_product, greatest_product}
use Rattle.sl_intervals.proofs.Factors.{product_rises, product_falls, under_product, over_product}

-- the sign of a product
pub both_up : (x y : ℤ) → pos 0 ≤ℤ x → pos 0 ≤ℤ y → pos 0 ≤ℤ (x *ℤ y)
both_up x (pos n) p q = let k = product_rises (pos 0) x n p in let e = zero-*ℤ (pos n) in omega (arith, ints)
both_up x (negsuc n) p q = absurd (omega (arith, ints))

both_down : (x y : ℤ) → x ≤ℤ pos 0 → y ≤ℤ pos 0 → pos 0 ≤ℤ (x *ℤ y)
both_down x (pos zero) p q = let e = *ℤ-zero x in omega (arith, ints)
both_down x (pos (suc n)) p q = absurd (omega (arith, ints))
both_down x (negsuc n) p q = let k = product_falls x (pos 0) n p in let e = zero-*ℤ (negsuc n) in omega (arith, ints)

down_up : (x y : ℤ) → x ≤ℤ pos 0 → pos 0 ≤ℤ y → (x *ℤ y) ≤ℤ pos 0
down_up x (pos n) p q = let k = product_rises x (pos 0) n p in let e = zero-*ℤ (pos n) in omega (arith, ints)
down_up x (negsuc n) p q = absurd (omega (arith, ints))

up_down : (x y : ℤ) → pos 0 ≤ℤ x → y ≤ℤ pos 0 → (x *ℤ y) ≤ℤ pos 0
up_down x y p q = let k = down_up y x q p in let e = *ℤ_comm x y in omega (arith, ints)

-- a product that members have
abbrev pub IsProduct : Interval → Interval → ℤ → Type 0
IsProduct a b z = (x : ℤ) × (y : ℤ) × Holds a x × Holds b y × (x *ℤ y ≡ z)

-- the lesser and the greater of two numbers is one of them
pub lesser_has : (P : ℤ → Type 0) (x y : ℤ) → P x → P y → P (int_min x y)
lesser_has P x y p q = by_lt_z y x
    (λ (h : y <ℤ x). let e : y ≡ int_min x y = omega (arith, ints, clamps) in subst P e q)
    (λ (h : x ≤ℤ y). let e : x ≡ int_min x y = omega (arith, ints, clamps) in subst P e p)

pub greater_has : (P : ℤ → Type 0) (x y : ℤ) → P x → P y → P (int_max x y)
greater_has P x y p q = by_lt_z y x
    (λ (h : y <ℤ x). let e : x ≡ int_max x y = omega (arith, ints, clamps) in subst P e p)
    (λ (h : x ≤ℤ y). let e : y ≡ int_max x y = omega (arith, ints, clamps) in subst P e q)

-- products of members of a and b lie in s, whose ends are such products; where those have both signs, one is 0
pub record IsHull (a b s : Interval) : Type 0 where
  pub holds : (x y : ℤ) → Holds a x → Holds b y → Holds s (x *ℤ y)
  pub low : IsProduct a b s.low
  pub high : IsProduct a b s.high
  pub zero : s.low <ℤ pos 0 → pos 0 <ℤ s.high → IsProduct a b (pos 0)

module _ (a b : Interval) (f : IsFilled a) (g : IsFilled b) where
  first_low : Holds a a.low
  first_low = record { low = omega (arith, ints); high = f }

  first_high : Holds a a.high
  first_high = record { low = f; high = omega (arith, ints) }

  second_low : Holds b b.low
  second_low = record { low = omega (arith, ints); high = g }

  second_high : Holds b b.high
  second_high = record { low = g; high = omega (arith, ints) }

  low_low : IsProduct a b (a.low *ℤ b.low)
  low_low = (a.low, b.low, first_low, second_low, refl)

  low_high : IsProduct a b (a.low *ℤ b.high)
  low_high = (a.low, b.high, first_low, second_high, refl)

  high_low : IsProduct a b (a.high *ℤ b.low)
  high_low = (a.high, b.low, first_high, second_low, refl)

  high_high : IsProduct a b (a.high *ℤ b.high)
  high_high = (a.high, b.high, first_high, second_high, refl)

  least_is : IsProduct a b (least_product a b)
  least_is = lesser_has (IsProduct a b) _ _ (lesser_has (IsProduct a b) _ _ low_low low_high)
      (lesser_has (IsProduct a b) _ _ high_low high_high)

  greatest_is : IsProduct a b (greatest_product a b)
  greatest_is = greater_has (IsProduct a b) _ _ (greater_has (IsProduct a b) _ _ low_low low_high)
      (greater_has (IsProduct a b) _ _ high_low high_high)

  -- below all four products of ends, and above them
  record IsUnder (z : ℤ) : Type 0 where
    pub low_low : z ≤ℤ (a.low *ℤ b.low)
    pub low_high : z ≤ℤ (a.low *ℤ b.high)
    pub high_low : z ≤ℤ (a.high *ℤ b.low)
    pub high_high : z ≤ℤ (a.high *ℤ b.high)

  record IsOver (z : ℤ) : Type 0 where
    pub low_low : (a.low *ℤ b.low) ≤ℤ z
    pub low_high : (a.low *ℤ b.high) ≤ℤ z
    pub high_low : (a.high *ℤ b.low) ≤ℤ z
    pub high_high : (a.high *ℤ b.high) ≤ℤ z

  under_all : (z : ℤ) → z ≡ least_product a b → IsUnder z
  under_all z e = record {
    low_low = omega (arith, ints, clamps);
    low_high = omega (arith, ints, clamps);
    high_low = omega (arith, ints, clamps);
    high_high = omega (arith, ints, clamps);
  }

  over_all : (z : ℤ) → z ≡ greatest_product a b → IsOver z
  over_all z e = record {
    low_low = omega (arith, ints, clamps);
    low_high = omega (arith, ints, clamps);
    high_low = omega (arith, ints, clamps);
    high_high = omega (arith, ints, clamps);
  }

  under_members : (z x y : ℤ) → IsUnder z → Holds a x → Holds b y → z ≤ℤ (x *ℤ y)
  under_members z x y u p q =
      let cl = *ℤ_comm a.low y in let ch = *ℤ_comm a.high y in
      let ll = u.low_low in let lh = u.low_high in let hl = u.high_low in let hh = u.high_high in
      let dl = *ℤ_comm a.low b.low in let dh = *ℤ_comm a.low b.high in
      let el = *ℤ_comm a.high b.low in let eh = *ℤ_comm a.high b.high in
      let r = under_product b.low b.high y a.low z q.low q.high (omega (arith, ints)) (omega (arith, ints)) in
      let s = under_product b.low b.high y a.high z q.low q.high (omega (arith, ints)) (omega (arith, ints)) in
      under_product a.low a.high x y z p.low p.high (omega (arith, ints)) (omega (arith, ints))

  over_members : (z x y : ℤ) → IsOver z → Holds a x → Holds b y → (x *ℤ y) ≤ℤ z
  over_members z x y u p q =
      let cl = *ℤ_comm a.low y in let ch = *ℤ_comm a.high y in
      let ll = u.low_low in let lh = u.low_high in let hl = u.high_low in let hh = u.high_high in
      let dl = *ℤ_comm a.low b.low in let dh = *ℤ_comm a.low b.high in
      let el = *ℤ_comm a.high b.low in let eh = *ℤ_comm a.high b.high in
      let r = over_product b.low b.high y a.low z q.low q.high (omega (arith, ints)) (omega (arith, ints)) in
      let s = over_product b.low b.high y a.high z q.low q.high (omega (arith, ints)) (omega (arith, ints)) in
      over_product a.low a.high x y z p.low p.high (omega (arith, ints)) (omega (arith, ints))

  -- where neither interval holds 0 the products have one sign
  not_below : (s : Interval) → s.low <ℤ pos 0 → IsProduct a b s.low → ((x y : ℤ) → Holds a x → Holds b y → pos 0 ≤ℤ (x *ℤ y)) → ⊥
  not_below s h p all = let k = all p.0 p.1 p.2 p.3 in let e = p.4 in omega (arith, ints)

  not_above : (s : Interval) → pos 0 <ℤ s.high → IsProduct a b s.high → ((x y : ℤ) → Holds a x → Holds b y → (x *ℤ y) ≤ℤ pos 0) → ⊥
  not_above s h p all = let k = all p.0 p.1 p.2 p.3 in let e = p.4 in omega (arith, ints)

  first_zero : a.low ≤ℤ pos 0 → pos 0 ≤ℤ a.high → IsProduct a b (pos 0)
  first_zero p q = (pos 0, b.low, record { low = p; high = q }, second_low, zero-*ℤ b.low)

  second_zero : b.low ≤ℤ pos 0 → pos 0 ≤ℤ b.high → IsProduct a b (pos 0)
  second_zero p q = (a.low, pos 0, first_low, record { low = p; high = q }, *ℤ-zero a.low)

  first_up : (s : Interval) → s.low <ℤ pos 0 → pos 0 <ℤ s.high → IsProduct a b s.low → IsProduct a b s.high → pos 0 <ℤ a.low → IsProduct a b (pos 0)
  first_up s p q l h up = by_lt_z (pos 0) b.low
      (λ (o : pos 0 <ℤ b.low). absurd (not_below s p l
      (λ x y u v. let ul = u.low in let vl = v.low in both_up x y (omega (arith, ints)) (omega (arith, ints)))))
      (λ (o : b.low ≤ℤ pos 0). by_lt_z b.high (pos 0)
      (λ (w : b.high <ℤ pos 0). absurd (not_above s q h
      (λ x y u v. let ul = u.low in let vh = v.high in up_down x y (omega (arith, ints)) (omega (arith, ints)))))
      (λ (w : pos 0 ≤ℤ b.high). second_zero o w))

  first_down : (s : Interval) → s.low <ℤ pos 0 → pos 0 <ℤ s.high → IsProduct a b s.low → IsProduct a b s.high → a.high <ℤ pos 0
      → IsProduct a b (pos 0)
  first_down s p q l h down = by_lt_z (pos 0) b.low
      (λ (o : pos 0 <ℤ b.low). absurd (not_above s q h
      (λ x y u v. let uh = u.high in let vl = v.low in down_up x y (omega (arith, ints)) (omega (arith, ints)))))
      (λ (o : b.low ≤ℤ pos 0). by_lt_z b.high (pos 0)
      (λ (w : b.high <ℤ pos 0). absurd (not_below s p l
      (λ x y u v. let uh = u.high in let vh = v.high in both_down x y (omega (arith, ints)) (omega (arith, ints)))))
      (λ (w : pos 0 ≤ℤ b.high). second_zero o w))

  zero_product : (s : Interval) → s.low <ℤ pos 0 → pos 0 <ℤ s.high → IsProduct a b s.low → IsProduct a b s.high → IsProduct a b (pos 0)
  zero_product s p q l h = by_lt_z (pos 0) a.low
      (λ (o : pos 0 <ℤ a.low). first_up s p q l h o)
      (λ (o : a.low ≤ℤ pos 0). by_lt_z a.high (pos 0)
      (λ (w : a.high <ℤ pos 0). first_down s p q l h w)
      (λ (w : pos 0 ≤ℤ a.high). first_zero o w))

  pub hull : (s : Interval) → s.low ≡ least_product a b → s.high ≡ greatest_product a b → IsHull a b s
  hull s low high =
      let u = under_all s.low low in
      let o = over_all s.high high in
      let l = subst (IsProduct a b) (sym low) least_is in
      let h = subst (IsProduct a b) (sym high) greatest_is in
      record {
        holds = λ x y p q. record { low = under_members s.low x y u p q; high = over_members s.high x y o p q };
        low = l;
        high = h;
        zero = λ p q. zero_product s p q l h;
      }

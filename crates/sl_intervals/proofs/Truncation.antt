-- Quotients of members lie between those of the ends.
use Rattle.std.proofs.Common.{ℕ, zero, suc, ◌/◌, ◌<◌, ◌≤◌, ◌≡◌, ◌≢◌, ℤ, pos, negsuc, neg_ℤ, ◌≤ℤ◌, ◌<ℤ◌, int_div, int_rem, unsigned_abs, refl, arith}
use Rattle.std.proofs.lemmas.Int.{ints, by_lt_z}
use Rattle.std.proofs.lemmas.Nat.{le-div}
use Rattle.std.proofs.Math.Nat.{div-mul-le_self, mul-le-mul_left, div-le_self, mod-le, mod-lt}

-- natural quotients rise with the dividend and fall with the divisor
dividend_rises : (a b n : ℕ) → 0 < n → a ≤ b → a / n ≤ b / n
dividend_rises a b n some h = let e = div-mul-le_self a n in le-div (a / n) b n some (omega arith)

divisor_falls : (a m n : ℕ) → 0 < m → m ≤ n → a / n ≤ a / m
divisor_falls a m n some h =
    let e = div-mul-le_self a n in
    let k = mul-le-mul_left (a / n) h in
    le-div (a / n) a m some (omega arith)

-- a quotient by a number above 0 rises with the dividend
rises : (x y : ℤ) (n : ℕ) → 0 < n → x ≤ℤ y → int_div x (pos n) ≤ℤ int_div y (pos n)
rises (pos a) (pos b) n some h = let k = dividend_rises a b n some (omega (arith, ints)) in omega (arith, ints)
rises (pos a) (negsuc b) n some h = absurd (omega (arith, ints))
rises (negsuc a) (pos b) n some h = omega (arith, ints)
rises (negsuc a) (negsuc b) n some h = let k = dividend_rises (suc b) (suc a) n some (omega (arith, ints)) in omega (arith, ints)

-- what is below the quotients of the low end by both ends is below each quotient
pub under_quotient : (l x c y d z : ℤ) → pos 1 ≤ℤ c → c ≤ℤ y → y ≤ℤ d → l ≤ℤ x → z ≤ℤ int_div l c → z ≤ℤ int_div l d → z ≤ℤ int_div x y
under_quotient l x (negsuc c) y d z p q r s t u = absurd (omega (arith, ints))
under_quotient l x (pos c) (negsuc y) d z p q r s t u = absurd (omega (arith, ints))
under_quotient l x (pos c) (pos y) (negsuc d) z p q r s t u = absurd (omega (arith, ints))
under_quotient (pos l) x (pos c) (pos y) (pos d) z p q r s t u =
    let k = divisor_falls l y d (omega (arith, ints)) (omega (arith, ints)) in
    let m = rises (pos l) x y (omega (arith, ints)) s in
    omega (arith, ints)
under_quotient (negsuc l) x (pos c) (pos y) (pos d) z p q r s t u =
    let k = divisor_falls (suc l) c y (omega (arith, ints)) (omega (arith, ints)) in
    let m = rises (negsuc l) x y (omega (arith, ints)) s in
    omega (arith, ints)

pub over_quotient : (h x c y d z : ℤ) → pos 1 ≤ℤ c → c ≤ℤ y → y ≤ℤ d → x ≤ℤ h → int_div h c ≤ℤ z → int_div h d ≤ℤ z → int_div x y ≤ℤ z
over_quotient h x (negsuc c) y d z p q r s t u = absurd (omega (arith, ints))
over_quotient h x (pos c) (negsuc y) d z p q r s t u = absurd (omega (arith, ints))
over_quotient h x (pos c) (pos y) (negsuc d) z p q r s t u = absurd (omega (arith, ints))
over_quotient (pos h) x (pos c) (pos y) (pos d) z p q r s t u =
    let k = divisor_falls h c y (omega (arith, ints)) (omega (arith, ints)) in
    let m = rises x (pos h) y (omega (arith, ints)) s in
    omega (arith, ints)
over_quotient (negsuc h) x (pos c) (pos y) (pos d) z p q r s t u =
    let k = divisor_falls (suc h) y d (omega (arith, ints)) (omega (arith, ints)) in
    let m = rises x (negsuc h) y (omega (arith, ints)) s in
    omega (arith, ints)

-- turning both signs round changes no quotient
pub both_opposite : (x y : ℤ) → int_div (neg_ℤ x) (neg_ℤ y) ≡ int_div x y
both_opposite (pos zero) (pos zero) = refl
both_opposite (pos zero) (pos (suc b)) = grind (arith, ints)
both_opposite (pos zero) (negsuc b) = grind (arith, ints)
both_opposite (pos (suc a)) (pos zero) = grind (arith, ints)
both_opposite (pos (suc a)) (pos (suc b)) = refl
both_opposite (pos (suc a)) (negsuc b) = refl
both_opposite (negsuc a) (pos zero) = grind (arith, ints)
both_opposite (negsuc a) (pos (suc b)) = refl
both_opposite (negsuc a) (negsuc b) = refl

-- a quotient by a number above 0 is no further from 0 than its dividend
pub under_dividend : (x y z : ℤ) → pos 1 ≤ℤ y → z ≤ℤ x → z ≤ℤ pos 0 → z ≤ℤ int_div x y
under_dividend (pos a) (pos b) z p q r = omega (arith, ints)
under_dividend (negsuc a) (pos b) z p q r = let k = div-le_self (suc a) b in omega (arith, ints)
under_dividend x (negsuc b) z p q r = absurd (omega (arith, ints))

pub over_dividend : (x y z : ℤ) → pos 1 ≤ℤ y → x ≤ℤ z → pos 0 ≤ℤ z → int_div x y ≤ℤ z
over_dividend (pos a) (pos b) z p q r = let k = div-le_self a b in omega (arith, ints)
over_dividend (negsuc a) (pos b) z p q r = omega (arith, ints)
over_dividend x (negsuc b) z p q r = absurd (omega (arith, ints))

-- from 2 on it is at most half the dividend
halved : (x : ℤ) (n m : ℕ) → 0 < m → x ≤ℤ pos (suc m) → int_div x (pos (suc (suc n))) ≤ℤ pos m
halved x n m some h =
    let k = rises x (pos (suc m)) (suc (suc n)) (omega arith) h in
    let l = divisor_falls (suc m) 2 (suc (suc n)) (omega arith) (omega arith) in
    let e : suc m / 2 ≤ m = omega arith in
    omega (arith, ints)

-- z is from one number to another
pub record IsFromTo (l h z : ℤ) : Type 0 where
  pub low : l ≤ℤ z
  pub high : z ≤ℤ h

-- a signed type has a quotient, except of its least number by -1
pub quotient_fits : (m : ℕ) (x y : ℤ) → 0 < m → negsuc m ≤ℤ x → x ≤ℤ pos m → y ≢ pos 0 → (x ≤ℤ negsuc m → y ≢ negsuc 0)
    → IsFromTo (negsuc m) (pos m) (int_div x y)
quotient_fits m x (pos zero) some p q r s = absurd (r refl)
quotient_fits m x (pos (suc n)) some p q r s = record {
  low = under_dividend x (pos (suc n)) (negsuc m) (omega (arith, ints)) p (omega (arith, ints));
  high = over_dividend x (pos (suc n)) (pos m) (omega (arith, ints)) q (omega (arith, ints));
}
quotient_fits m x (negsuc zero) some p q r s =
    let e = both_opposite x (negsuc zero) in
    by_lt_z (negsuc m) x
    (λ (above : negsuc m <ℤ x).
    let u = under_dividend (neg_ℤ x) (pos 1) (negsuc m) (omega (arith, ints)) (omega (arith, ints)) (omega (arith, ints)) in
    let v = over_dividend (neg_ℤ x) (pos 1) (pos m) (omega (arith, ints)) (omega (arith, ints)) (omega (arith, ints)) in
    record { low = omega (arith, ints); high = omega (arith, ints) })
    (λ (least : x ≤ℤ negsuc m). absurd (s least refl))
quotient_fits m x (negsuc (suc n)) some p q r s =
    let e = both_opposite x (negsuc (suc n)) in
    let u = under_dividend (neg_ℤ x) (pos (suc (suc n))) (negsuc m) (omega (arith, ints)) (omega (arith, ints)) (omega (arith, ints)) in
    let v = halved (neg_ℤ x) n m some (omega (arith, ints)) in
    record { low = omega (arith, ints); high = omega (arith, ints) }

-- how far a number is from 0
some_size : (y : ℤ) → y ≢ pos 0 → 0 < unsigned_abs y
some_size (pos zero) s = absurd (s refl)
some_size (pos (suc n)) s = omega arith
some_size (negsuc n) s = omega arith

pub size_bound : (y z : ℤ) → neg_ℤ z ≤ℤ y → y ≤ℤ z → pos (unsigned_abs y) ≤ℤ z
size_bound (pos n) z p q = q
size_bound (negsuc n) z p q = omega (arith, ints)

-- a remainder: its sign, and that it is no further from 0 than the dividend, and nearer than the divisor
pub record IsNear (x y r : ℤ) : Type 0 where
  pub above : pos 0 ≤ℤ x → (pos 0 ≤ℤ r) × (r ≤ℤ x)
  pub below : x ≤ℤ pos 0 → (x ≤ℤ r) × (r ≤ℤ pos 0)
  pub nearer : (z : ℤ) → neg_ℤ z ≤ℤ y → y ≤ℤ z → y ≢ pos 0 → (r <ℤ z) × (neg_ℤ z <ℤ r)

pub is_near : (x y : ℤ) → IsNear x y (int_rem x y)
is_near (pos a) y = record {
  above = λ h. let l = mod-le a (unsigned_abs y) in (omega (arith, ints), omega (arith, ints));
  below = λ h. let l = mod-le a (unsigned_abs y) in (omega (arith, ints), omega (arith, ints));
  nearer = λ z p q s. let l = mod-lt a (some_size y s) in let k = size_bound y z p q in (omega (arith, ints), omega (arith, ints));
}
is_near (negsuc a) y = record {
  above = λ h. absurd (omega (arith, ints));
  below = λ h. let l = mod-le (suc a) (unsigned_abs y) in (omega (arith, ints), omega (arith, ints));
  nearer = λ z p q s. let l = mod-lt (suc a) (some_size y s) in let k = size_bound y z p q in (omega (arith, ints), omega (arith, ints));
}

-- a quotient that isn't negative falls with the divisor
pub quotient_falls : (x y d : ℤ) → pos 0 ≤ℤ x → pos 1 ≤ℤ y → y ≤ℤ d → int_div x d ≤ℤ int_div x y
quotient_falls (negsuc a) y d p q r = absurd (omega (arith, ints))
quotient_falls (pos a) (negsuc n) d p q r = absurd (omega (arith, ints))
quotient_falls (pos a) (pos n) (negsuc m) p q r = absurd (omega (arith, ints))
quotient_falls (pos a) (pos n) (pos m) p q r = let k = divisor_falls a n m (omega (arith, ints)) (omega (arith, ints)) in omega (arith, ints)

-- a quotient by a number below 0 is above the least number of its dividend's type
pub over_least : (x y z : ℤ) → y ≤ℤ negsuc 0 → z ≤ℤ neg_ℤ x → z ≤ℤ pos 0 → z ≤ℤ int_div x y
over_least x (pos n) z p q r = absurd (omega (arith, ints))
over_least x (negsuc n) z p q r =
    let e = both_opposite x (negsuc n) in
    let u = under_dividend (neg_ℤ x) (pos (suc n)) z (omega (arith, ints)) q r in
    omega (arith, ints)

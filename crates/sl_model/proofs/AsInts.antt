-- Numbers that are converted to ints: each becomes an int, and an int stays what it is.
use Rattle.std.proofs.Common.{◌≡◌, ℕ, ◌<◌, ℤ, pos, negsuc, ◌+ℤ◌, ◌-ℤ◌, IsTrue, arith, refl, ap, ◌∙◌, int_le}
use Rattle.std.proofs.Math.Nat.{mod-lt, mod-eq_of_lt}
use Rattle.std.proofs.lemmas.Int.{ints}
use Rattle.sl_base.specs.declared.scalar.Scalar.TheVariants as t
use Rattle.sl_model.specs.Numbers.{modulo, converted, fits}

-- a rest is less than its divisor
modulo-low : (z : ℤ) (n : ℕ) → 0 < n → modulo z n < n
modulo-low (pos a) n h = mod-lt a h
modulo-low (negsuc a) n h = omega arith

-- what a number becomes is an int
pub converted-fits : (z : ℤ) → IsTrue (fits t.Int (converted t.Int z))
converted-fits z = low_enough (modulo (z +ℤ pos 2147483648) 4294967296) (modulo-low (z +ℤ pos 2147483648) 4294967296 (omega arith))
  where
    low_enough : (n : ℕ) → n < 4294967296 → IsTrue (fits t.Int (pos n -ℤ pos 2147483648))
    low_enough n h = grind (arith, ints)

-- a rest of what is less than the divisor is that
same_rest : (y : ℤ) (n a : ℕ) → y ≡ pos a → a < n → modulo y n ≡ a
same_rest y n a e h = ap (λ (x : ℤ). modulo x n) e ∙ mod-eq_of_lt h

-- a number that isn't negative
natural : (y : ℤ) → IsTrue (int_le (pos 0) y) → (a : ℕ) × (y ≡ pos a)
natural (pos a) h = (a, refl)
natural (negsuc a) h = absurd (cc)

-- an int stays what it is
pub converted-same : (z : ℤ) → IsTrue (fits t.Int z) → converted t.Int z ≡ z
converted-same z h =
    let low : IsTrue (int_le (pos 0) (z +ℤ pos 2147483648)) = grind (arith, ints) in
    let r = natural (z +ℤ pos 2147483648) low in
    let same : z +ℤ pos 2147483648 ≡ pos r.0 = r.1 in
    let small : r.0 < 4294967296 = grind (arith, ints) in
    let e : modulo (z +ℤ pos 2147483648) 4294967296 ≡ r.0 = same_rest (z +ℤ pos 2147483648) 4294967296 r.0 same small in
    back (modulo (z +ℤ pos 2147483648) 4294967296) r.0 e same
  where
    back : (n a : ℕ) → n ≡ a → z +ℤ pos 2147483648 ≡ pos a → pos n -ℤ pos 2147483648 ≡ z
    back n a e same = omega (arith, ints)

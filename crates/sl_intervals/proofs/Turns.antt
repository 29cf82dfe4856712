-- Numbers that differ by a multiple of n, and what a conversion makes of them.
use Rattle.std.proofs.Common.{◌≡◌, ◌≢◌, ℕ, ◌+◌, ◌*◌, ◌/◌, ◌%◌, ◌<◌, ℤ, pos, negsuc, ◌+ℤ◌, ◌-ℤ◌, ◌≤ℤ◌, ◌<ℤ◌, refl, arith}
use Rattle.std.proofs.Math.Nat.{mod-lt, mod-add-div', add-mul, zero-mul}
use Rattle.std.proofs.lemmas.Nat.{mod-mul-add}
use Rattle.std.proofs.lemmas.Int.{ints, int_rem_euclid_is}
use Rattle.std.specs.Int.{int_rem_euclid}
use Rattle.sl_base.specs.declared.scalar.Scalar.{Scalar}
use Rattle.sl_base.specs.declared.scalar.Scalar.TheVariants as t
use Rattle.sl_model.specs.Numbers.{modulo, converted, lowest, highest}

-- z and r differ by a multiple of n
pub record IsTurn (n : ℕ) (z r : ℤ) : Type 0 where
  pub down : ℕ
  pub up : ℕ
  pub is : z +ℤ pos (down * n) ≡ r +ℤ pos (up * n)

pub euclid : (z : ℤ) (n : ℕ) → int_rem_euclid z (pos n) ≡ pos (modulo z n)
euclid (pos a) n = refl
euclid (negsuc a) n = refl

-- the one number below n that differs from z by a multiple of n
only_rest : (n r : ℕ) (z : ℤ) → IsTurn n z (pos r) → r < n → modulo z n ≡ r
only_rest n r z h small =
    let m = h.up * n + r in
    let is = h.is in
    let e : int_rem_euclid z (pos n) ≡ pos (m % n) = int_rem_euclid_is z (pos n) n h.down m (omega arith) refl (omega (arith, ints)) in
    let f : m % n ≡ r = mod-mul-add h.up n r small in
    let g = euclid z n in
    omega (arith, ints)

-- a number differs from its rest by a multiple of n
pub rest_turn : (z : ℤ) (n : ℕ) → 0 < n → IsTurn n z (pos (modulo z n))
rest_turn (pos a) n h =
    let e : a % n + a / n * n ≡ a = mod-add-div' a n in
    let f : 0 * n ≡ 0 = zero-mul n in
    record { down = 0; up = a / n; is = omega (arith, ints) }
rest_turn (negsuc a) n h =
    let e : a % n + a / n * n ≡ a = mod-add-div' a n in
    let f : (a / n + 1) * n ≡ a / n * n + 1 * n = add-mul (a / n) 1 n in
    let g : 0 * n ≡ 0 = zero-mul n in
    let l : a % n < n = mod-lt a h in
    record { down = a / n + 1; up = 0; is = omega (arith, ints) }

-- a number that isn't negative
natural : (z : ℤ) → pos 0 ≤ℤ z → (n : ℕ) × (z ≡ pos n)
natural (pos n) h = (n, refl)
natural (negsuc n) h = absurd (omega (arith, ints))

-- the one number from -off to n - off - 1 that differs from z by a multiple of n
only_centred : (n off : ℕ) (z r : ℤ) → IsTurn n z r → pos 0 ≤ℤ (r +ℤ pos off) → (r +ℤ pos off) <ℤ pos n
    → (pos (modulo (z +ℤ pos off) n) -ℤ pos off) ≡ r
only_centred n off z r h low high =
    let s = natural (r +ℤ pos off) low in
    let is = h.is in
    let same = s.1 in
    let e : modulo (z +ℤ pos off) n ≡ s.0 = only_rest n s.0 (z +ℤ pos off) (record { down = h.down; up = h.up; is = omega (arith, ints) })
    (omega (arith, ints)) in
    omega (arith, ints)

-- how many numbers a type has
abbrev pub count : Scalar → ℕ
count t.Int = 4294967296
count t.Bool = 2
count t.Size = 18446744073709551616
count t.Diff = 18446744073709551616

-- the one number of the type that differs from z by a multiple of their count
pub only_converted : (ty : Scalar) (z r : ℤ) → ty ≢ t.Bool → IsTurn (count ty) z r → lowest ty ≤ℤ r → r ≤ℤ highest ty → converted ty z ≡ r
only_converted t.Int z r scalar h low high = only_centred 4294967296 2147483648 z r h (omega (arith, ints)) (omega (arith, ints))
only_converted t.Bool z r scalar h low high = absurd (scalar refl)
only_converted t.Size z r scalar h low high =
    let s = natural r low in
    let is = h.is in
    let same = s.1 in
    let e : modulo z 18446744073709551616 ≡ s.0 = only_rest 18446744073709551616 s.0 z
    (record { down = h.down; up = h.up; is = omega (arith, ints) }) (omega (arith, ints)) in
    omega (arith, ints)
only_converted t.Diff z r scalar h low high = only_centred 18446744073709551616 9223372036854775808 z r h (omega (arith, ints)) (omega (arith, ints))

-- r is the number of the type that z becomes
pub record IsConverted (ty : Scalar) (z r : ℤ) : Type 0 where
  pub turn : IsTurn (count ty) z r
  pub low : lowest ty ≤ℤ r
  pub high : r ≤ℤ highest ty

centred_turn : (n off : ℕ) (z : ℤ) → 0 < n → IsTurn n z (pos (modulo (z +ℤ pos off) n) -ℤ pos off)
centred_turn n off z h =
    let e = rest_turn (z +ℤ pos off) n h in
    let is = e.is in
    record { down = e.down; up = e.up; is = omega (arith, ints) }

pub modulo_small : (z : ℤ) (n : ℕ) → 0 < n → modulo z n < n
modulo_small (pos a) n h = mod-lt a h
modulo_small (negsuc a) n h = omega arith

pub is_converted : (ty : Scalar) (z : ℤ) → ty ≢ t.Bool → IsConverted ty z (converted ty z)
is_converted t.Int z scalar =
    let s = modulo_small (z +ℤ pos 2147483648) 4294967296 (omega arith) in
    record { turn = centred_turn 4294967296 2147483648 z (omega arith); low = omega (arith, ints); high = omega (arith, ints) }
is_converted t.Bool z scalar = absurd (scalar refl)
is_converted t.Size z scalar =
    let s = modulo_small z 18446744073709551616 (omega arith) in
    record { turn = rest_turn z 18446744073709551616 (omega arith); low = omega (arith, ints); high = omega (arith, ints) }
is_converted t.Diff z scalar =
    let s = modulo_small (z +ℤ pos 9223372036854775808) 18446744073709551616 (omega arith) in
    record { turn = centred_turn 18446744073709551616 9223372036854775808 z (omega arith); low = omega (arith, ints); high = omega (arith, ints) }

-- a number from an earlier one, as far as the type goes
pub converted_further : (ty : Scalar) (x z r : ℤ) → ty ≢ t.Bool → IsConverted ty x r → lowest ty ≤ℤ (r +ℤ (z -ℤ x)) → (r +ℤ (z -ℤ x)) ≤ℤ highest ty
    → converted ty z ≡ r +ℤ (z -ℤ x)
converted_further ty x z r scalar h low high =
    let e = h.turn in
    let is = e.is in
    only_converted ty z (r +ℤ (z -ℤ x)) scalar (record { down = e.down; up = e.up; is = omega (arith, ints) }) low high

-- the type's number count is that from its least to its greatest
pub span : (ty : Scalar) → (highest ty +ℤ pos 1) ≡ (lowest ty +ℤ pos (count ty))
span t.Int = refl
span t.Bool = refl
span t.Size = refl
span t.Diff = refl

-- the number behind one that becomes the greatest becomes the least
pub converted_around : (ty : Scalar) (x z r : ℤ) → ty ≢ t.Bool → IsConverted ty x r → (r +ℤ (z -ℤ x)) ≡ highest ty +ℤ pos 1 → lowest ty ≤ℤ highest ty
    → converted ty z ≡ lowest ty
converted_around ty x z r scalar h beyond some =
    let e = h.turn in
    let is = e.is in
    let s = span ty in
    let more : (e.up + 1) * count ty ≡ e.up * count ty + 1 * count ty = add-mul e.up 1 (count ty) in
    only_converted ty z (lowest ty) scalar (record { down = e.down; up = e.up + 1; is = omega (arith, ints) }) (omega (arith, ints)) some

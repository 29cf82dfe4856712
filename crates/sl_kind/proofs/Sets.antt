-- One bit of a list of words.
use Rattle.std.proofs.Common.{◌≡◌, ◌≢◌, ℕ, zero, suc, ◌*◌, ◌/◌, ◌%◌, ◌^◌, ◌<◌, ◌||◌, ◌==◌, true, false, List, length, set, get_or, replicate}
use Rattle.std.proofs.Common.{get_or-set_same, get_or-set_other, refl, arith, ⊎_elim, w64, bit_or, ap, ◌&&◌, nat_lt, Bool}
use Rattle.std.specs.Int.{bit_at}
use Rattle.std.proofs.lemmas.Bool.{cases_eq, ltb-true, lt-ltb}
use Rattle.std.proofs.lemmas.Bool.Decides.{nat_tests}
use Rattle.std.proofs.lemmas.Nat.Bits.{bit_at-zero, bit_at_or, bit_at_set_same, bit_at_set_other, bit_at-lt}
use Rattle.sl_base.specs.declared.limits.TheConstants.{SITES}
use Rattle.sl_kind.specs.declared.kills.Kills.{Kills}
use Rattle.sl_kind.specs.Kills.{has, has_bit}

-- each word of the empty set
zeros : (n k : ℕ) → let z : ℕ = 0 in get_or (replicate n z) k z ≡ z
zeros zero k = refl
zeros (suc n) zero = refl
zeros (suc n) (suc k) = zeros n k

-- no word of the empty set has a bit
no_bit_in_zeros : (n s : ℕ) → has_bit (record { words = replicate n 0 }) s ≡ false
unfolding has_bit
no_bit_in_zeros n s = let e : get_or (replicate n 0) (s / 64) 0 ≡ 0 = zeros n (s / 64) in rw (e, bit_at-zero)

-- a word with a bit more has that bit
pub in_set_same : (ws : List ℕ) (w s : ℕ) → s / 64 < length ws → w ≡ get_or ws (s / 64) 0
    → has_bit (record { words = set ws (s / 64) (bit_or w (1 * 2 ^ (s % 64) % 2 ^ 64)) }) s ≡ true
unfolding has_bit
in_set_same ws w s h e =
    let b = bit_at_set_same w64 w (s % 64) (omega arith) in
    rw (get_or-set_same) (grind (arith, nat_tests))

-- and at each other place what it had
pub in_set_other : (ws : List ℕ) (w s t : ℕ) → s / 64 < length ws → w ≡ get_or ws (s / 64) 0 → t ≢ s
    → has_bit (record { words = set ws (s / 64) (bit_or w (1 * 2 ^ (s % 64) % 2 ^ 64)) }) t ≡ has_bit (record { words = ws }) t
unfolding has_bit
in_set_other ws w s t h e ne =
    ⊎_elim
    (λ (same : t / 64 ≡ s / 64).
    let apart : t % 64 ≢ s % 64 = λ q. ne (omega arith) in
    let read : get_or (set ws (s / 64) (bit_or w (1 * 2 ^ (s % 64) % 2 ^ 64))) (s / 64) 0 ≡ bit_or w (1 * 2 ^ (s % 64) % 2 ^ 64) =
    get_or-set_same ws (s / 64) _ 0 h in
    rw (same, read, bit_at_set_other w64 w (s % 64) (omega arith) (t % 64) apart, e))
    (λ (apart : t / 64 ≢ s / 64). rw get_or-set_other refl)
    (cases_eq (t / 64) (s / 64))

-- a bit of two words joined
pub in_or : (a b t : ℕ) → (bit_at (bit_or a b) t == 1) ≡ ((bit_at a t == 1) || (bit_at b t == 1))
in_or a b t =
    let e = bit_at_or a b t in
    let p = bit_at-lt a t in
    let q = bit_at-lt b t in
    rw e (grind (arith, nat_tests))

-- a set has the numbers of sites alone
pub has-site : (k : Kills) (s : ℕ) → has k s ≡ true → s < SITES
unfolding has
has-site k s h = both (nat_lt s SITES) refl h
  where
    both : (b : Bool) → nat_lt s SITES ≡ b → (b && has_bit k s) ≡ true → s < SITES
    both true e t = ltb-true s SITES e
    both false e t = absurd cc

-- a site is in a set by its bit
pub has-bit : (k : Kills) (s : ℕ) → s < SITES → has k s ≡ has_bit k s
unfolding has
has-bit k s h = rw (lt-ltb s SITES h) refl

-- two sets with the same bit at a place agree there
pub has-same : (k l : Kills) (s : ℕ) → has_bit k s ≡ has_bit l s → has k s ≡ has l s
unfolding has
has-same k l s h = ap (λ b. nat_lt s SITES && b) h

-- the empty set has nothing
pub none_in_zeros : (n s : ℕ) → has (record { words = replicate n 0 }) s ≡ false
unfolding has
none_in_zeros n s =
    elim (nat_lt s SITES) as (λ b. (b && has_bit (record { words = replicate n 0 }) s) ≡ false) [ true ↦ no_bit_in_zeros n s | false ↦ refl ]

-- what two sets have together
pub has-either : (k l m : Kills) (s : ℕ) → has_bit m s ≡ (has_bit k s || has_bit l s) → has m s ≡ (has k s || has l s)
unfolding has
has-either k l m s h =
    rw h
    (elim (nat_lt s SITES) as (λ b. (b && (has_bit k s || has_bit l s)) ≡ ((b && has_bit k s) || (b && has_bit l s))) [
      | true ↦ refl
      | false ↦ refl
    ])

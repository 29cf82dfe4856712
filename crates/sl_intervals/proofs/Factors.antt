-- Products of members lie between those of the ends.
use Rattle.std.proofs.Common.{ℕ, zero, suc, ◌≡◌, ℤ, pos, negsuc, ◌+ℤ◌, ◌*ℤ◌, ◌≤ℤ◌, arith}
use Rattle.std.proofs.lemmas.Int.{ints}
use Rattle.std.proofs.Math.IntN.{suc_ℤ-*ℤ, *ℤ_comm, *ℤ-zero, *ℤ-negsuc}

-- one more in the second factor
more : (x : ℤ) (n : ℕ) → x *ℤ pos (suc n) ≡ x *ℤ pos n +ℤ x
more x n =
    let c = *ℤ_comm x (pos (suc n)) in
    let d = suc_ℤ-*ℤ (pos n) x in
    let e = *ℤ_comm (pos n) x in
    omega (arith, ints)

-- a factor that isn't negative keeps the order
pub product_rises : (x y : ℤ) (n : ℕ) → x ≤ℤ y → (x *ℤ pos n) ≤ℤ (y *ℤ pos n)
product_rises x y zero h = let a = *ℤ-zero x in let b = *ℤ-zero y in omega (arith, ints)
product_rises x y (suc n) h =
    let k = product_rises x y n h in
    let a = more x n in
    let b = more y n in
    omega (arith, ints)

-- a negative one turns it round
pub product_falls : (x y : ℤ) (n : ℕ) → x ≤ℤ y → (y *ℤ negsuc n) ≤ℤ (x *ℤ negsuc n)
product_falls x y n h =
    let k = product_rises x y (suc n) h in
    let a = *ℤ-negsuc x n in
    let b = *ℤ-negsuc y n in
    omega (arith, ints)

-- what is below the products of both ends is below that of a member, and likewise above
pub under_product : (l h x y z : ℤ) → l ≤ℤ x → x ≤ℤ h → z ≤ℤ (l *ℤ y) → z ≤ℤ (h *ℤ y) → z ≤ℤ (x *ℤ y)
under_product l h x (pos n) z p q r s = let k = product_rises l x n p in omega (arith, ints)
under_product l h x (negsuc n) z p q r s = let k = product_falls x h n q in omega (arith, ints)

pub over_product : (l h x y z : ℤ) → l ≤ℤ x → x ≤ℤ h → (l *ℤ y) ≤ℤ z → (h *ℤ y) ≤ℤ z → (x *ℤ y) ≤ℤ z
over_product l h x (pos n) z p q r s = let k = product_rises x h n q in omega (arith, ints)
over_product l h x (negsuc n) z p q r s = let k = product_falls l x n p in omega (arith, ints)

-- Numbers in turn that are cut in two.
use Rattle.std.proofs.Common.{◌≡◌, ℕ, zero, suc, ◌+◌, ◌-◌, ◌≤◌, ◌∷◌, take, drop, refl, ap, ◌∙◌, arith, List}
use Rattle.sl_model.specs.Memory.Edits.{numbers}

-- the first p of them
pub take_numbers : (p n i : ℕ) → p ≤ n → take p (numbers i n) ≡ numbers i p
take_numbers zero n i h = refl
take_numbers (suc p) zero i h = absurd (omega arith)
take_numbers (suc p) (suc n) i h = ap (λ (l : List ℕ). i ∷ l) (take_numbers p n (i + 1) (omega arith))

-- the others
pub drop_numbers : (p n i : ℕ) → p ≤ n → drop p (numbers i n) ≡ numbers (i + p) (n - p)
drop_numbers zero n i h =
    let a : i ≡ i + 0 = omega arith in
    let b : n ≡ n - 0 = omega arith in
    ap (λ (k : ℕ). numbers k n) a ∙ ap (numbers (i + 0)) b
drop_numbers (suc p) zero i h = absurd (omega arith)
drop_numbers (suc p) (suc n) i h =
    let a : (i + 1) + p ≡ i + suc p = omega arith in
    let b : n - p ≡ suc n - suc p = omega arith in
    drop_numbers p n (i + 1) (omega arith) ∙ (ap (λ (k : ℕ). numbers k (n - p)) a ∙ ap (numbers (i + suc p)) b)

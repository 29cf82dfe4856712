-- Elements that are put into a hash order one by one.
use Rattle.std.proofs.Common.{◌≡◌, ℕ, suc, ◌+◌, ◌-◌, ◌<◌, List, ◌∷◌, length, drop, ap, sym, ◌∙◌, arith}
use Rattle.std.specs.List.{insert}
use Rattle.sl_model.specs.Memory.Edits.{numbers}
use Rattle.sl_model.specs.Memory.Schedule.{pick, put_at, put_all, hash_place}

-- the numbers that are left begin with the next one
numbers_next : (i n : ℕ) → i < n → numbers i (n - i) ≡ i ∷ numbers (i + 1) (n - (i + 1))
numbers_next i n low = let e : n - i ≡ suc (n - (i + 1)) = omega arith in ap (numbers i) e

-- one is put in, and the others are to come
pub put_next : (order later picks picks' all : List ℕ) (i n at p : ℕ) → i < n → length order ≡ i → put_all order picks (numbers i (n - i)) ≡ all
    → p ≡ pick picks → picks' ≡ drop 1 picks → at ≡ hash_place i p → later ≡ insert order at i
    → put_all later picks' (numbers (i + 1) (n - (i + 1))) ≡ all
put_next order later picks picks' all i n at p low long so_far is_pick left is_place put =
    ap (λ (l : List ℕ). put_all l picks' (numbers (i + 1) (n - (i + 1)))) put
    ∙ (ap (λ (l : List ℕ). put_all (insert order at i) l (numbers (i + 1) (n - (i + 1)))) left
    ∙ (ap (λ (k : ℕ). put_all (put_at k i order) (drop 1 picks) (numbers (i + 1) (n - (i + 1))))
    (is_place ∙ (ap (hash_place i) is_pick ∙ ap (λ (k : ℕ). hash_place k (pick picks)) (sym long)))
    ∙ (sym (ap (put_all order picks) (numbers_next i n low)) ∙ so_far)))

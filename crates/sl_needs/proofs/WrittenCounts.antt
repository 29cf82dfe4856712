-- How many elements an algorithm writes, counted from its two ranges.
use Rattle.std.proofs.Common.{◌≡◌, ℕ, ℤ, ◌+◌, Bool, true, false, ◌&&◌, not, List, ◌++◌, length, map, refl, ap, sym, ◌∙◌, arith, length-append}
use Rattle.std.proofs.lemmas.List.{length-map}
use Rattle.sl_specs.specs.declared.call.Call.{Call}
use Rattle.sl_specs.specs.declared.call.Call.TheVariants as c
use Rattle.sl_model.specs.Memory.Orders.{sorted, sorted_entries, minus, is_ascending}
use Rattle.sl_model.specs.LibraryCalls.Operands.{written_keys, is_set_operation, are_ascending}
use Rattle.sl_model.specs.LibraryCalls.Situation.{Situation, range_keys}
use Rattle.sl_model.proofs.Counts.{length-sorted}
use Rattle.sl_needs.specs.Means.Merging.{counted, left_over}
use Rattle.sl_needs.proofs.MergeLaws.{left_counts, both_count}

-- a sort keeps the number
length-of-sorted : (xs : List ℤ) → length (sorted xs) ≡ length xs
length-of-sorted xs = length-map (sorted_entries (map (λ (x : ℤ). (x, 0)) xs)) (λ (x : ℤ × ℕ). x.0)
    ∙ (length-sorted (map (λ (x : ℤ). (x, 0)) xs) ∙ length-map xs (λ (x : ℤ). (x, 0)))

-- both tests hold where not both fail to
both_hold : (a b : Bool) → (true && not (a && b)) ≡ false → (a ≡ true) × (b ≡ true)
both_hold true true e = (refl, refl)
both_hold true false e = absurd (cc)
both_hold false b e = absurd (cc)

-- both ranges ascend
ascend : (s : Situation) → (true && not (are_ascending s)) ≡ false
    → (is_ascending (range_keys s 1) ≡ true) × (is_ascending (range_keys s 3) ≡ true)
ascend s e = both_hold (is_ascending (range_keys s 1)) (is_ascending (range_keys s 3)) e

-- those of both, and of one what the other leaves
merged : (xs ys : List ℤ) → length xs + length ys ≡ length (sorted (xs ++ ys))
merged xs ys = sym (length-append xs ys) ∙ sym (length-of-sorted (xs ++ ys))

-- how many are written
pub counts_written : (call : Call) (s : Situation) → (is_set_operation call && not (are_ascending s)) ≡ false
    → counted call (range_keys s 1) (range_keys s 3) ≡ length (written_keys call s)
counts_written c.Merge s e = merged (range_keys s 1) (range_keys s 3)
counts_written c.SetUnion s e =
    let a = ascend s e in
    ap (λ (n : ℕ). length (range_keys s 1) + n) (left_counts (range_keys s 3) (range_keys s 1) a.1 a.0)
    ∙ merged (range_keys s 1) (minus (range_keys s 3) (range_keys s 1))
counts_written c.SetIntersection s e = let a = ascend s e in both_count (range_keys s 1) (range_keys s 3) a.0 a.1
counts_written c.SetDifference s e = let a = ascend s e in left_counts (range_keys s 1) (range_keys s 3) a.0 a.1
counts_written call s e = refl

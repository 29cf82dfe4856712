-- The places of a text come in the order of its offsets.
use Rattle.std.proofs.Common.{arith, ◌≡◌, ℕ, zero, suc, ◌+◌, ◌-◌, ◌<◌, ◌≤◌, Bool, true, false, not, List, [], ◌∷◌, length, take, reverse, get_or, inl}
use Rattle.std.proofs.Common.{inr, refl, ap, sym, subst, ◌∙◌, if◌then◌else◌}
use Rattle.std.specs.List.{prefix_len}
use Rattle.std.proofs.lemmas.List.{take_more, reverse-append}
use Rattle.std.proofs.lemmas.List.Sums.{count_by_more_yes, count_by_more_no}
use Rattle.sl_base.specs.declared.place.Place.{Place}
use Rattle.sl_base.specs.Places.{is_line_feed, place_at, IsPlaceBefore}

-- what comes before what comes before
place_trans : (p q r : Place) → IsPlaceBefore p q → IsPlaceBefore q r → IsPlaceBefore p r
place_trans p q r (inl a) (inl b) = inl (omega arith)
place_trans p q r (inl a) (inr b) = inl (let e = b.0 in omega arith)
place_trans p q r (inr a) (inl b) = inl (let e = a.0 in omega arith)
place_trans p q r (inr a) (inr b) = inr (a.0 ∙ b.0, (let m = a.1 in let n = b.1 in omega arith))

-- no line feed
abbrev is_other : ℕ → Bool
is_other b = not (is_line_feed b)

-- the place of an offset comes before that of the next
next_place : (text : List ℕ) (i : ℕ) → i < length text → IsPlaceBefore (place_at text i) (place_at text (i + 1))
next_place text i within = by_byte (is_line_feed (get_or text i 0)) refl
  where
    last : reverse (take (i + 1) text) ≡ get_or text i 0 ∷ reverse (take i text)
    last = ap reverse (take_more text i 0 within) ∙ reverse-append (take i text) (get_or text i 0 ∷ [])

    by_byte : (b : Bool) → is_line_feed (get_or text i 0) ≡ b → IsPlaceBefore (place_at text i) (place_at text (i + 1))
    by_byte true e = inl (let n = count_by_more_yes is_line_feed text i 0 within e in omega arith)
    by_byte false e = inr (
      ap (λ n. n + 1) (sym (count_by_more_no is_line_feed text i 0 within e)),
      (let n : prefix_len is_other (reverse (take (i + 1) text)) ≡ 1 + prefix_len is_other (reverse (take i text)) = ap (prefix_len is_other) last
          ∙ ap (λ b. if not b then 1 + prefix_len is_other (reverse (take i text)) else 0) e in
          omega arith),
    )

-- the place of an offset comes before that of a later one
later_place : (text : List ℕ) (i d : ℕ) → i + suc d ≤ length text → IsPlaceBefore (place_at text i) (place_at text (i + suc d))
later_place text i zero h = let e : i + 1 ≡ i + suc zero = omega arith in subst (λ n. IsPlaceBefore (place_at text i) (place_at text n)) e
    (next_place text i (omega arith))
later_place text i (suc d) h =
    let e : i + suc d + 1 ≡ i + suc (suc d) = omega arith in
    subst (λ n. IsPlaceBefore (place_at text i) (place_at text n)) e
    (place_trans (place_at text i) (place_at text (i + suc d)) (place_at text (i + suc d + 1)) (later_place text i d (omega arith))
    (next_place text (i + suc d) (omega arith)))

-- an earlier offset has an earlier place
pub place-ascends : (text : List ℕ) (i j : ℕ) → i < j → j ≤ length text → IsPlaceBefore (place_at text i) (place_at text j)
place-ascends text i j lt h =
    let e : i + suc (j - i - 1) ≡ j = omega arith in
    subst (λ n. IsPlaceBefore (place_at text i) (place_at text n)) e (later_place text i (j - i - 1) (omega arith))

-- Values and the sorts that they are of, one letter after the other.
use Rattle.std.proofs.Common.{◌≡◌, ℕ, suc, ◌+◌, ◌-◌, ◌<◌, ◌==◌, Bool, true, false, List, [], ◌∷◌, length, drop, get_or, Option, refl, ap, sym, ◌∙◌, drop-cons, add-one, length-drop, arith}
use Rattle.sl_base.specs.declared.form.Form.{Form}
use Rattle.sl_specs.specs.declared.letter.Letter.{Letter}
use Rattle.sl_model.specs.LibraryCalls.Operands.{all_sorts}
use Rattle.sl_slots.specs.declared.slot.Value.{Value}
use Rattle.sl_arguments.specs.Means.Sorts.{are_shown, is_nil}

-- one is not none
not_zero : (n : ℕ) → false ≡ (suc n == 0)
not_zero n = grind arith

-- none is there where there are none
nil-length : (xs : List Letter) → is_nil xs ≡ (length xs == 0)
nil-length [] = refl
nil-length (x ∷ xs) = not_zero (length xs)

-- the next is the last
last-nil : (n i : ℕ) → i < n → (i + 1 == n) ≡ ((n - suc i) == 0)
last-nil n i low = grind arith

-- the last letter has none behind it
pub last_letter : (letters : List Letter) (i : ℕ) → i < length letters → (i + 1 == length letters) ≡ is_nil (drop (suc i) letters)
last_letter letters i low = last-nil (length letters) i low
    ∙ (ap (λ (n : ℕ). n == 0) (sym (length-drop (suc i) letters)) ∙ sym (nil-length (drop (suc i) letters)))

-- one letter more
pub letter_taken : (forms : ℕ → Option Form) (form : Form) (appends : Bool) (letters : List Letter) (i : ℕ) (d : Letter) (vs : List Value)
    (total : Bool) (next : List Letter → Bool) → i < length letters
    → ((xs : List Letter) → (i + 1 == length letters) ≡ is_nil xs
    → are_shown forms (all_sorts form appends (get_or letters i d ∷ xs)) vs ≡ next xs)
    → total ≡ are_shown forms (all_sorts form appends (drop i letters)) vs
    → total ≡ next (drop (i + 1) letters)
letter_taken forms form appends letters i d vs total next low taken so_far = so_far
    ∙ (ap (λ (l : List Letter). are_shown forms (all_sorts form appends l) vs) (drop-cons letters i d low)
    ∙ (taken (drop (suc i) letters) (last_letter letters i low) ∙ ap (λ (k : ℕ). next (drop k letters)) (sym (add-one i))))

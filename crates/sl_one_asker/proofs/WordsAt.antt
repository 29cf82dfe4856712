-- How many words of a tree tell a place.
use Rattle.std.proofs.Common.{arith, ◌≡◌, ℕ, ◌≤◌, Bool, true, false, List, [], ◌∷◌, refl}
use Rattle.std.specs.Prelude.{◌||◌, if◌then◌else◌}
use Rattle.std.specs.List.{list_any}
use Rattle.std.proofs.lemmas.Bool.{or_right}
use Rattle.sl_base.specs.declared.place.Place.{Place}
use Rattle.sl_syntax.specs.Written.{Written, from_place}
use Rattle.sl_model.specs.Typing.WellTypedNumbers.{same_place}
use Rattle.sl_one_asker.proofs.Totals.{total, SkipsMarks}
use Rattle.sl_one_asker.proofs.Askers.{told_at}

-- one, if a place is among these
abbrev pub among : Place → List Place → ℕ
among q [] = 0
among q (p ∷ ps) = told_at q p ps

-- one, if a word tells the place
abbrev pub tells : Place → Written → ℕ
tells q x = among q x.told

-- how many of these words do
abbrev pub words_at : Place → List Written → ℕ
words_at q words = total (tells q) words

-- one where this test holds is no more than one where another does that holds then too
pub one_if : (a b : Bool) → (a ≡ true → b ≡ true) → (if a then 1 else 0) ≤ (if b then 1 else 0)
one_if true true h = omega arith
one_if true false h = absurd (let no : false ≡ true = h refl in cc)
one_if false true h = omega arith
one_if false false h = omega arith

-- a further place of the first word
more_told : (q p : Place) (ps : List Place) → among q ps ≤ told_at q p ps
unfolding told_at
more_told q p [] = one_if false (same_place q p || false) (λ e. absurd cc)
more_told q p (x ∷ xs) =
    let rest = list_any (same_place q) (x ∷ xs) in one_if rest (same_place q p || rest) (λ e. or_right (same_place q p) rest e)

pub words_at-from_place : (q p : Place) (xs : List Written) → words_at q xs ≤ words_at q (from_place p xs)
words_at-from_place q p [] = omega arith
words_at-from_place q p (x ∷ xs) = let more = more_told q p x.told in omega arith

-- a mark tells none
pub skips_marks : (q : Place) → SkipsMarks (tells q)
skips_marks q x = refl

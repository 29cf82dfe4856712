-- What is left of names that are read one by one, from the first.
use Rattle.std.proofs.Common.{◌≡◌, ℕ, ◌+◌, ◌<◌, List, [], ◌∷◌, ◌++◌, length, get_or, take, Option, Some, None, is_some, true, false, refl, ap, ◌∙◌}
use Rattle.std.proofs.lemmas.List.{take_more}
use Rattle.sl_typing.specs.Numbering.{trimmed, none_before}

none_before-some : (xs : List (Option ℕ)) (x : Option ℕ) → none_before (xs ++ x ∷ []) ≡ None ∷ (xs ++ x ∷ [])
none_before-some [] x = refl
none_before-some (y ∷ ys) x = refl

-- a name that is told stays, with all before it
pub trimmed-told : (xs : List (Option ℕ)) (n : ℕ) → trimmed (xs ++ Some n ∷ []) ≡ xs ++ Some n ∷ []
trimmed-told [] n = refl
trimmed-told (Some m ∷ xs) n = ap (λ (ys : List (Option ℕ)). Some m ∷ ys) (trimmed-told xs n)
trimmed-told (None ∷ xs) n = ap none_before (trimmed-told xs n) ∙ none_before-some xs (Some n)

-- one that isn't told goes
pub trimmed-untold : (xs : List (Option ℕ)) → trimmed (xs ++ None ∷ []) ≡ trimmed xs
trimmed-untold [] = refl
trimmed-untold (Some m ∷ xs) = ap (λ (ys : List (Option ℕ)). Some m ∷ ys) (trimmed-untold xs)
trimmed-untold (None ∷ xs) = ap none_before (trimmed-untold xs)

-- what is left one name further, where that name is told, and where it isn't
pub kept-told : (xs : List (Option ℕ)) (i : ℕ) (d x : Option ℕ) → i < length xs → get_or xs i d ≡ x → is_some x ≡ true
    → trimmed (take (i + 1) xs) ≡ take (i + 1) xs
kept-told xs i d (Some n) within is told = rw (take_more xs i d within, is) (trimmed-told (take i xs) n)
kept-told xs i d None within is told = absurd (cc)

pub kept-untold : (xs : List (Option ℕ)) (i : ℕ) (d x : Option ℕ) → i < length xs → get_or xs i d ≡ x → is_some x ≡ false
    → trimmed (take (i + 1) xs) ≡ trimmed (take i xs)
kept-untold xs i d (Some n) within is untold = absurd (cc)
kept-untold xs i d None within is untold = rw (take_more xs i d within, is) (trimmed-untold (take i xs))

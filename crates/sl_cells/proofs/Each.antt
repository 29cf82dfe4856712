-- What holds of each element of a list that is cut, joined or turned round.
use Rattle.std.proofs.Common.{ℕ, zero, suc, List, [], ◌∷◌, ◌++◌, take, drop, reverse, sym, subst}
use Rattle.std.specs.List.{AllByRecursion}
use Rattle.std.proofs.lemmas.List.{reverse-append}

module _ {A : Type 0} (P : A → Type 0) where
  pub each_append : (xs ys : List A) → AllByRecursion P xs → AllByRecursion P ys → AllByRecursion P (xs ++ ys)
  each_append [] ys p q = q
  each_append (x ∷ xs) ys p q = (p.0, each_append xs ys p.1 q)

  pub each_take : (n : ℕ) (xs : List A) → AllByRecursion P xs → AllByRecursion P (take n xs)
  each_take zero xs p = tt
  each_take (suc n) [] p = tt
  each_take (suc n) (x ∷ xs) p = (p.0, each_take n xs p.1)

  pub each_drop : (n : ℕ) (xs : List A) → AllByRecursion P xs → AllByRecursion P (drop n xs)
  each_drop zero xs p = p
  each_drop (suc n) [] p = tt
  each_drop (suc n) (x ∷ xs) p = each_drop n xs p.1

  -- with one more element at a place
  pub each_put : (k : ℕ) (xs : List A) (x : A) → AllByRecursion P xs → P x → AllByRecursion P (take k xs ++ x ∷ drop k xs)
  each_put k xs x p q = each_append (take k xs) (x ∷ drop k xs) (each_take k xs p) (q, each_drop k xs p)

  -- without a stretch
  pub each_cut : (f t : ℕ) (xs : List A) → AllByRecursion P xs → AllByRecursion P (take f xs ++ drop t xs)
  each_cut f t xs p = each_append (take f xs) (drop t xs) (each_take f xs p) (each_drop t xs p)

  pub each_reverse : (xs : List A) → AllByRecursion P xs → AllByRecursion P (reverse xs)
  each_reverse [] p = tt
  each_reverse (x ∷ xs) p =
      subst (AllByRecursion P) (sym (reverse-append (x ∷ []) xs)) (each_append (reverse xs) (x ∷ []) (each_reverse xs p.1) (p.0, tt))

pub each_weaker : {A : Type 0} (P Q : A → Type 0) → ((x : A) → P x → Q x) → (xs : List A) → AllByRecursion P xs → AllByRecursion Q xs
each_weaker P Q w [] p = tt
each_weaker P Q w (x ∷ xs) p = (w x p.0, each_weaker P Q w xs p.1)

-- Lists whose elements go together, cut, joined and turned round.
use Rattle.std.proofs.Common.{◌≡◌, ℕ, zero, suc, ◌<◌, List, [], ◌∷◌, ◌++◌, length, take, drop, get_or, reverse, refl, ap, sym, subst, arith}
use Rattle.std.specs.List.{AllZip, slice_range}
use Rattle.std.proofs.lemmas.List.{reverse-append}

module _ {A B : Type 0} (R : A → B → Type 0) where
  pub zip_take : (n : ℕ) (xs : List A) (ys : List B) → AllZip R xs ys → AllZip R (take n xs) (take n ys)
  zip_take zero xs ys z = tt
  zip_take (suc n) [] [] z = tt
  zip_take (suc n) [] (y ∷ ys) z = absurd z
  zip_take (suc n) (x ∷ xs) [] z = absurd z
  zip_take (suc n) (x ∷ xs) (y ∷ ys) z = (z.0, zip_take n xs ys z.1)

  pub zip_drop : (n : ℕ) (xs : List A) (ys : List B) → AllZip R xs ys → AllZip R (drop n xs) (drop n ys)
  zip_drop zero xs ys z = z
  zip_drop (suc n) [] [] z = tt
  zip_drop (suc n) [] (y ∷ ys) z = absurd z
  zip_drop (suc n) (x ∷ xs) [] z = absurd z
  zip_drop (suc n) (x ∷ xs) (y ∷ ys) z = zip_drop n xs ys z.1

  pub zip_append : (xs us : List A) (ys vs : List B) → AllZip R xs ys → AllZip R us vs → AllZip R (xs ++ us) (ys ++ vs)
  zip_append [] us [] vs z w = w
  zip_append [] us (y ∷ ys) vs z w = absurd z
  zip_append (x ∷ xs) us [] vs z w = absurd z
  zip_append (x ∷ xs) us (y ∷ ys) vs z w = (z.0, zip_append xs us ys vs z.1 w)

  -- without a stretch
  pub zip_cut : (f t : ℕ) (xs : List A) (ys : List B) → AllZip R xs ys → AllZip R (take f xs ++ drop t xs) (take f ys ++ drop t ys)
  zip_cut f t xs ys z = zip_append (take f xs) (drop t xs) (take f ys) (drop t ys) (zip_take f xs ys z) (zip_drop t xs ys z)

  -- a part
  pub zip_part : (f t : ℕ) (xs : List A) (ys : List B) → AllZip R xs ys → AllZip R (slice_range xs f t) (slice_range ys f t)
  zip_part f t xs ys z = zip_take _ (drop f xs) (drop f ys) (zip_drop f xs ys z)

  -- turned round
  pub zip_reverse : (xs : List A) (ys : List B) → AllZip R xs ys → AllZip R (reverse xs) (reverse ys)
  zip_reverse [] [] z = tt
  zip_reverse [] (y ∷ ys) z = absurd z
  zip_reverse (x ∷ xs) [] z = absurd z
  zip_reverse (x ∷ xs) (y ∷ ys) z =
      let w = zip_append (reverse xs) (x ∷ []) (reverse ys) (y ∷ []) (zip_reverse xs ys z.1) (z.0, tt) in
      subst (λ us. AllZip R us (reverse (y ∷ ys))) (sym (reverse-append (x ∷ []) xs))
      (subst (AllZip R (reverse xs ++ x ∷ [])) (sym (reverse-append (y ∷ []) ys)) w)

  pub zip_length : (xs : List A) (ys : List B) → AllZip R xs ys → length xs ≡ length ys
  zip_length [] [] z = refl
  zip_length [] (y ∷ ys) z = absurd z
  zip_length (x ∷ xs) [] z = absurd z
  zip_length (x ∷ xs) (y ∷ ys) z = ap suc (zip_length xs ys z.1)

  -- what goes together at a place
  pub zip_at : (xs : List A) (ys : List B) (k : ℕ) (d : A) (e : B) → AllZip R xs ys → k < length xs → R (get_or xs k d) (get_or ys k e)
  zip_at [] ys k d e z l = absurd (omega arith)
  zip_at (x ∷ xs) [] k d e z l = absurd z
  zip_at (x ∷ xs) (y ∷ ys) zero d e z l = z.0
  zip_at (x ∷ xs) (y ∷ ys) (suc k) d e z l = zip_at xs ys k d e z.1 (omega arith)

-- what goes with xs goes with ys too
pub zip_weaker : {A B : Type 0} (R S : A → B → Type 0) → ((x : A) (y : B) → R x y → S x y) → (xs : List A) (ys : List B) → AllZip R xs ys
    → AllZip S xs ys
zip_weaker R S w [] [] z = tt
zip_weaker R S w [] (y ∷ ys) z = absurd z
zip_weaker R S w (x ∷ xs) [] z = absurd z
zip_weaker R S w (x ∷ xs) (y ∷ ys) z = (w x y z.0, zip_weaker R S w xs ys z.1)

-- Types of arguments as far as a call may have so many.
use Rattle.std.proofs.Common.{◌≡◌, ℕ, ◌≤◌, ◌<◌, ◌+◌, List, [], ◌∷◌, ◌++◌, length, take, slice_set, Option, Some, None, refl, sym, ap, ◌∙◌, arith, inl, inr, lit<}
use Rattle.std.proofs.lemmas.List.{length-append, length-take-le, take_more_set}
use Rattle.std.proofs.lemmas.Grind.{common_steps}
use Rattle.std.proofs.lemmas.Bool.{cases_lt}  -- `cases_lt` is `lt_or_ge` in other libraries, and gives their `le_total`
use Rattle.sl_expr_types.specs.Few.{few, pushed_to, listed}
use Rattle.sl_typing.specs.declared.expr_type.ExprType.{ExprType}

-- up to eight are kept
pub few-few : (us : List ExprType) → length us ≤ 8 → few us ≡ Some us
unfolding few
few-few us h = grind (arith, common_steps)

-- nine are too many
pub few-many : (us : List ExprType) → 8 < length us → few us ≡ None
unfolding few
few-many us h = grind (arith, common_steps)

-- one more behind eight
pub few-full : (us xs : List ExprType) (n : ℕ) (u : ExprType) → us ≡ take n xs → n ≡ 8 → length xs ≡ 8 → None ≡ few (us ++ u ∷ [])
few-full us xs n u e is full =
    let k : length us ≡ n = ap length e ∙ length-take-le n xs (omega arith) in
    sym (few-many (us ++ u ∷ []) (omega (arith, length-append us (u ∷ []))))

-- and where there is room
pub few-room : (us xs : List ExprType) (n : ℕ) (u : ExprType) → us ≡ take n xs → n < 8 → length xs ≡ 8
    → Some (take (n + 1) (slice_set xs n u)) ≡ few (us ++ u ∷ [])
few-room us xs n u e room full =
    let k : length us ≡ n = ap length e ∙ length-take-le n xs (omega arith) in
    let long : n < length xs = omega arith in
    rw (take_more_set xs n u long, ← e) (sym (few-few (us ++ u ∷ []) (omega (arith, length-append us (u ∷ [])))))

pushed_to-some : (us : List ExprType) (u : ExprType) (o : Option (List ExprType)) → o ≡ Some us → pushed_to o u ≡ few (us ++ u ∷ [])
unfolding pushed_to
pushed_to-some us u o e = rw e refl

pushed_to-none : (us : List ExprType) (u : ExprType) (o : Option (List ExprType)) → o ≡ None → few (us ++ u ∷ []) ≡ None
    → pushed_to o u ≡ few (us ++ u ∷ [])
unfolding pushed_to
pushed_to-none us u o e k = rw (e, k) refl

-- types and one more
pub pushed_to-few : (us : List ExprType) (u : ExprType) → pushed_to (few us) u ≡ few (us ++ u ∷ [])
pushed_to-few us u = elim (cases_lt 8 (length us)) as (λ _. pushed_to (few us) u ≡ few (us ++ u ∷ [])) [
  | inl h ↦ pushed_to-none us u (few us) (few-many us h) (few-many (us ++ u ∷ []) (omega (arith, length-append us (u ∷ []))))
  | inr h ↦ pushed_to-some us u (few us) (few-few us h)
]

-- what is listed of these types
pub listed-few : (us : List ExprType) → length us ≤ 8 → listed (few us) ≡ us
unfolding listed
listed-few us h = rw (few-few us h) refl

pub listed-many : (us : List ExprType) → 8 < length us → 8 < length (listed (few us))
unfolding listed
listed-many us h = rw (few-many us h) (lit< tt)

-- What stands last in a list, by its place.
use Rattle.std.proofs.Common.{◌≡◌, ◌-◌, ℕ, zero, suc, List, [], ◌∷◌, length, Some, refl, sym, ap, ◌∙◌, arith}
use Rattle.std.specs.Prelude.{slice_get}
use Rattle.sl_specs.specs.declared.letter.Letter.{Letter}
use Rattle.sl_typing.specs.declared.expr_type.ExprType.{ExprType}
use Rattle.sl_typing.specs.Signatures.{last_type, is_output}
use Rattle.sl_typing.specs.Candidates.{end_in_output}

-- the type at the last place
last_there : (us : List ExprType) (k : ℕ) (u : ExprType) → suc k ≡ length us → slice_get us k ≡ Some u → u ≡ last_type us
last_there [] k u e h = absurd cc
last_there (v ∷ []) zero u e h = cc
last_there (v ∷ []) (suc k) u e h = absurd (omega arith)
last_there (v ∷ w ∷ us) zero u e h = absurd (omega arith)
last_there (v ∷ w ∷ us) (suc k) u e h = last_there (w ∷ us) k u (omega arith) h

-- the letter there
end_there : (us : List Letter) (k : ℕ) (u : Letter) → suc k ≡ length us → slice_get us k ≡ Some u → is_output u ≡ end_in_output us
end_there [] k u e h = absurd cc
end_there (v ∷ []) zero u e h = let same : v ≡ u = cc in let both : is_output v ≡ is_output u = ap is_output same in cc
end_there (v ∷ []) (suc k) u e h = absurd (omega arith)
end_there (v ∷ w ∷ us) zero u e h = absurd (omega arith)
end_there (v ∷ w ∷ us) (suc k) u e h = end_there (w ∷ us) k u (omega arith) h

-- the same, where the place is counted from the length
pub last_found : (us : List ExprType) (u : ExprType) → Some u ≡ slice_get us (length us - 1) → u ≡ last_type us
last_found [] u h = absurd cc
last_found (v ∷ us) u h =
    let e : length (v ∷ us) - 1 ≡ length us = omega arith in last_there (v ∷ us) (length us) u refl (sym (h ∙ ap (slice_get (v ∷ us)) e))

pub end_found : (us : List Letter) (u : Letter) → Some u ≡ slice_get us (length us - 1) → is_output u ≡ end_in_output us
end_found [] u h = absurd cc
end_found (v ∷ us) u h =
    let e : length (v ∷ us) - 1 ≡ length us = omega arith in end_there (v ∷ us) (length us) u refl (sym (h ∙ ap (slice_get (v ∷ us)) e))

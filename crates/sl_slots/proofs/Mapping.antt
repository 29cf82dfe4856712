-- Lists whose items are written one after another.
use Rattle.std.proofs.Common.{◌≡◌, ℕ, ◌+◌, ◌<◌, List, ◌++◌, map, length, take, drop, get_or, ap, ◌∙◌, arith}
use Rattle.std.proofs.Math.ListN.{set}
use Rattle.std.proofs.lemmas.List.{get_or_default}
use Rattle.std.proofs.lemmas.List.Edits.{map_over_more}

-- one item more is written
pub map_step : {X : Type 0} (f : X → X) (xs ys : List X) (i : ℕ) (x d : X) → i < length xs → length ys ≡ length xs
    → ys ≡ map f (take i xs) ++ drop i xs → x ≡ f (get_or ys i d) → set ys i x ≡ map f (take (i + 1) xs) ++ drop (i + 1) xs
map_step f xs ys i x d low same so_far e = ap (set ys i) e
    ∙ map_over_more f xs ys i (get_or ys i d) low so_far (get_or_default ys i d (get_or ys i d) (omega arith))

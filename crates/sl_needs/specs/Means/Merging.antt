-- How many elements a set operation writes, by one walk over both lists of keys.
use Rattle.std.specs.Prelude.{ℕ, ℤ, ◌+◌, ◌-◌, int_lt, Bool, true, false, List, [], ◌∷◌, length, if◌then◌else◌}
use Rattle.sl_specs.specs.declared.call.Call.{Call}
use Rattle.sl_specs.specs.declared.call.Call.TheVariants.{Merge, SetUnion, SetIntersection, SetDifference}
use Rattle.sl_model.specs.Memory.Orders.{same}

-- from the first on that isn't below x
abbrev pub from_key : ℤ → List ℤ → List ℤ
from_key x [] = []
from_key x (y ∷ ys) = if int_lt y x then from_key x ys else y ∷ ys

-- the first is x
abbrev pub starts_with : ℤ → List ℤ → Bool
starts_with x [] = false
starts_with x (y ∷ ys) = same x y

-- behind the first where that is x
abbrev pub behind_key : ℤ → List ℤ → List ℤ
behind_key x [] = []
behind_key x (y ∷ ys) = if same x y then ys else y ∷ ys

-- 1 where the first isn't x
abbrev pub missed : ℤ → List ℤ → ℕ
missed x ys = if starts_with x ys then 0 else 1

-- how many are left of the first list
abbrev pub left_over : List ℤ → List ℤ → ℕ
left_over [] ys = 0
left_over (x ∷ xs) ys = missed x (from_key x ys) + left_over xs (behind_key x (from_key x ys))

-- how many elements an algorithm writes, from its two ranges
abbrev pub counted : Call → List ℤ → List ℤ → ℕ
counted Merge xs ys = length xs + length ys
counted SetUnion xs ys = length xs + left_over ys xs
counted SetIntersection xs ys = length xs - left_over xs ys
counted SetDifference xs ys = left_over xs ys
counted call xs ys = length xs

-- The lines that the tool prints beside reports.
use Rattle.std.specs.Prelude.{ℕ, List, [], ◌∷◌, ◌++◌, codes}

-- a text, and then a line's rest and its end
abbrev pub line : List ℕ → List ℕ → List ℕ
line text rest = text ++ (rest ++ 10 ∷ [])

abbrev pub usage_line : List ℕ
usage_line = line [] (codes "usage: stllint check FILE | run FILE INPUT SCHEDULE STEPS | specs | self N")

abbrev pub fault_line : List ℕ → List ℕ
fault_line file = codes "read fault: " ++ line file []

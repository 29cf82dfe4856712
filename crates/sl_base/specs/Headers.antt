-- The headers that a directive may name, ISO/IEC 14882:2017, [headers].
use Rattle.std.specs.Prelude.{ℕ, Bool, List, [], ◌∷◌, codes}
use Rattle.std.specs.List.{list_any}
use Rattle.std.specs.Str.{bytes_eq}

abbrev pub headers : List (List ℕ)
headers =
    codes "vector" ∷ codes "deque" ∷ codes "list" ∷ codes "set" ∷ codes "map" ∷ codes "unordered_set" ∷ codes "unordered_map" ∷
    codes "algorithm" ∷ codes "numeric" ∷ codes "iterator" ∷ codes "iostream" ∷ codes "cstddef" ∷ []

abbrev pub is_header : List ℕ → Bool
is_header name = list_any (λ h. bytes_eq h name) headers

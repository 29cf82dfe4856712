-- A name that was declared is one of the names.
use Rattle.std.proofs.Common.{◌≡◌, ℕ, ◌+◌, ◌<◌, ◌≤◌, Bool, true, false, List, [], ◌∷◌, ◌++◌, length, length-append, refl, arith}
use Rattle.std.specs.Prelude.{if◌then◌else◌}
use Rattle.std.specs.Str.{bytes_eq}
use Rattle.std.proofs.lemmas.Slice.Eq.{bytes_eq-Decides}
use Rattle.sl_typing.specs.Scopes.{is_among}
use Rattle.sl_typing.specs.Contexts.{with_name, position}

-- a name is itself
same_bytes : (name : List ℕ) → bytes_eq name name ≡ true
same_bytes name = let d = bytes_eq-Decides name name in grind arith

next_position : (b : Bool) (k n : ℕ) → (b ≡ false → k < n) → (if b then 0 else k + 1) < n + 1
next_position true k n h = omega arith
next_position false k n h = let l : k < n = h refl in omega arith

-- the position of a name that is there
pub position_below : (name : List ℕ) (names : List (List ℕ)) → is_among name names ≡ true → position name names < length names
position_below name [] is = absurd (cc)
position_below name (n ∷ ns) is = grind (arith, next_position (bytes_eq n name) (position name ns) (length ns), position_below name ns)

-- the position of a name behind which it is put, where it isn't there
pub new_position : (name : List ℕ) (names : List (List ℕ)) → position name (names ++ name ∷ []) < length names + 1
new_position name [] = let e = same_bytes name in grind arith
new_position name (n ∷ ns) =
    let k = new_position name ns in
    let l = next_position (bytes_eq n name) (position name (ns ++ name ∷ [])) (length ns + 1) (λ _. k) in
    omega arith

put_in : (b : Bool) (name : List ℕ) (names : List (List ℕ)) → is_among name names ≡ b →
    position name (if b then names else names ++ name ∷ []) < length (if b then names else names ++ name ∷ [])
put_in true name names is = position_below name names is
put_in false name names is = let k = new_position name names in grind (arith, length-append {A = List ℕ})

-- the number of a declared name
pub label_below : (name : List ℕ) (names : List (List ℕ)) → position name (with_name name names) < length (with_name name names)
label_below name names = put_in (is_among name names) name names refl

more : (b : Bool) (name : List ℕ) (names : List (List ℕ)) → length names ≤ length (if b then names else names ++ name ∷ [])
more true name names = omega arith
more false name names = omega (arith, length-append {A = List ℕ})

-- names stay
pub names_stay : (name : List ℕ) (names : List (List ℕ)) → length names ≤ length (with_name name names)
names_stay name names = more (is_among name names) name names

at_most : (b : Bool) (name : List ℕ) (names : List (List ℕ)) → length (if b then names else names ++ name ∷ []) ≤ length names + 1
at_most true name names = omega arith
at_most false name names = omega (arith, length-append {A = List ℕ})

-- one more at most
pub one_more_name : (name : List ℕ) (names : List (List ℕ)) → length (with_name name names) ≤ length names + 1
one_more_name name names = at_most (is_among name names) name names

-- The first place of a name among names is its number; a name that isn't there gets the next.
use Rattle.std.proofs.Common.{◌≡◌, ℕ, suc, ◌+◌, Bool, true, false, cond, List, [], ◌∷◌, ◌++◌, length, Some, None, refl, ap, sym, ◌∙◌, arith}
use Rattle.std.specs.Prelude.{◌||◌, not, nat_lt, if◌then◌else◌}
use Rattle.std.specs.List.{list_any, position_or_len, position}
use Rattle.std.specs.Str.{bytes_eq}
use Rattle.std.proofs.lemmas.Slice.Eq.{bytes_eq-Decides}
use Rattle.std.proofs.lemmas.Bool.Decides.{nat_tests}
use Rattle.sl_typing.specs.Scopes.{is_among}
use Rattle.sl_typing.specs.Contexts as spec
use Rattle.sl_typing.specs.Contexts.{with_name}

-- a name is this one
abbrev is_it : List ℕ → List ℕ → Bool
is_it name own = bytes_eq own name

-- one step of a place
step : (b : Bool) (m n : ℕ) → m ≡ n → cond (not b) (1 + m) 0 ≡ (if b then 0 else n + 1)
step true m n e = refl
step false m n e = omega arith

-- the number of a name is the first place at which it stands
counted : (name : List ℕ) (names : List (List ℕ)) → position_or_len (is_it name) names ≡ spec.position name names
counted name [] = refl
counted name (n ∷ ns) = step (bytes_eq n name) (position_or_len (is_it name) ns) (spec.position name ns) (counted name ns)

-- a name is among these where its number is one of theirs
nearer : (b c : Bool) (m n : ℕ) → c ≡ nat_lt m n → (b || c) ≡ nat_lt (if b then 0 else m + 1) (suc n)
nearer true c m n e = grind (arith, nat_tests)
nearer false c m n e = e ∙ grind (arith, nat_tests)

among : (name : List ℕ) (names : List (List ℕ)) → is_among name names ≡ nat_lt (spec.position name names) (length names)
among name [] = grind (arith, nat_tests)
among name (n ∷ ns) = nearer (bytes_eq n name) (list_any (λ own. bytes_eq own name) ns) (spec.position name ns) (length ns) (among name ns)

-- the number of a name that isn't there comes next
next : (name : List ℕ) (names : List (List ℕ)) → is_among name names ≡ false → spec.position name (names ++ name ∷ []) ≡ length names
next name [] h = rw ((bytes_eq-Decides name name).1 refl) refl
next name (n ∷ ns) h = elim (bytes_eq n name) as (λ b. (b || is_among name ns) ≡ false → (if b then 0 else spec.position name (ns ++ name ∷ []) + 1) ≡ length (n ∷ ns)) [
  | true ↦ λ e. cc
  | false ↦ λ e. rw (next name ns e) (omega arith)
] h

-- what a found place says, and that none was found
told_some : (b : Bool) (m n : ℕ) → Some n ≡ cond b (Some m) None → (b ≡ true) × (m ≡ n)
told_some true m n e = (refl, cc)
told_some false m n e = cc

told_none : (b : Bool) (m : ℕ) → None ≡ cond b (Some m) None → b ≡ false
told_none true m e = cc
told_none false m e = refl

-- a name that is found is among these, at its number
pub there : (name own : List ℕ) (names here : List (List ℕ)) (n : ℕ) → own ≡ name → here ≡ names
    → Some n ≡ position (λ x. bytes_eq x own) here → (names ≡ with_name name names) × (n ≡ spec.position name (with_name name names))
there name own names here n is_name is_names found =
    let e : Some n ≡ position (is_it name) names = found ∙ ap (λ y. position (is_it y) here) is_name ∙ ap (λ y. position (is_it name) y) is_names in
    let told = told_some (nat_lt (position_or_len (is_it name) names) (length names)) (position_or_len (is_it name) names) n e in
    let inside : is_among name names ≡ true = among name names ∙ rw (← counted name names) told.0 in
    rw inside (refl, sym told.1 ∙ counted name names)

-- a name that isn't found comes behind these
pub absent : (name own : List ℕ) (names here : List (List ℕ)) → own ≡ name → here ≡ names
    → None ≡ position (λ x. bytes_eq x own) here → (names ++ name ∷ [] ≡ with_name name names) × (length names ≡ spec.position name (with_name name names))
absent name own names here is_name is_names found =
    let e : None ≡ position (is_it name) names = found ∙ ap (λ y. position (is_it y) here) is_name ∙ ap (λ y. position (is_it name) y) is_names in
    let told = told_none (nat_lt (position_or_len (is_it name) names) (length names)) (position_or_len (is_it name) names) e in
    let outside : is_among name names ≡ false = among name names ∙ rw (← counted name names) told in
    rw outside (refl, sym (next name names outside))

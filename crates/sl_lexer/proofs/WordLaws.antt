-- Names, libs and numbers at the front of a rest: the run of their bytes forms one, and none is longer.
use Rattle.std.proofs.Common.{◌≡◌, ℕ, zero, suc, ◌+◌, ◌-◌, ◌<◌, ◌≤◌, ◌==◌, inl, inr, Bool, true, false, cond, List, [], ◌∷◌, ◌++◌, length, take, drop}
use Rattle.std.proofs.Common.{Ok, Err, refl, sym, ap, ◌∙◌, subst, arith, one-add}
use Rattle.std.specs.List.{prefix_len, list_all}
use Rattle.std.specs.Str.{bytes_eq}
use Rattle.std.proofs.lemmas.Bool.{and_parts, and_from, cond_both, both_ways, eqb-true, cases_lt}
use Rattle.std.proofs.lemmas.List.{take-take, drop-take, drop_all, length-take, length-take-le, length-drop, take-append-drop}
use Rattle.std.proofs.lemmas.List.Sums.{prefix_len-le-length}
use Rattle.std.proofs.lemmas.Slice.Eq.{bytes_eq-Decides}
use Rattle.sl_base.specs.Bytes.{is_letter, is_digit, is_name_byte, begins}
use Rattle.sl_base.specs.Pieces.{std_colons, is_name, is_lib, is_number}
use Rattle.sl_lexer.specs.Means.Front.{begins_lib, number_len}
use Rattle.sl_lexer.specs.declared.error.LexErr.{LexErr}

-- ## Runs of a class

-- the bytes that are counted are of the class
pub run-all : (p : ℕ → Bool) (bs : List ℕ) → list_all p (take (prefix_len p bs) bs) ≡ true
run-all p [] = refl
run-all p (b ∷ bs) =
    elim (p b) as (λ t. p b ≡ t → list_all p (take (cond t (1 + prefix_len p bs) 0) (b ∷ bs)) ≡ true) [
      | true ↦ λ e. rw (one-add, e) (run-all p bs)
      | false ↦ λ e. refl
    ] refl

-- and no longer front is
pub run-most : (p : ℕ → Bool) (bs : List ℕ) (m : ℕ) → m ≤ length bs → list_all p (take m bs) ≡ true → m ≤ prefix_len p bs
run-most p [] m h e = omega arith
run-most p (b ∷ bs) zero h e = omega arith
run-most p (b ∷ bs) (suc m) h e =
    let parts = and_parts (p b) (list_all p (take m bs)) e in
    rw parts.0 (omega (arith, run-most p bs m (omega arith) parts.1))

-- ## Names

-- the run of a name that begins with a letter is a name
pub name-form : (rest : List ℕ) → begins is_letter rest ≡ true → is_name (take (prefix_len is_name_byte rest) rest) ≡ true
name-form [] l = absurd cc
name-form (b ∷ bs) l = rw (l, one-add, l) (run-all is_name_byte bs)

-- a name begins with a letter and is no longer than that run
pub name-shape : (rest : List ℕ) (m : ℕ) → m ≤ length rest → is_name (take m rest) ≡ true → (begins is_letter rest ≡ true)
    × (m ≤ prefix_len is_name_byte rest)
name-shape rest zero h e = absurd cc
name-shape [] (suc m) h e = absurd cc
name-shape (b ∷ bs) (suc m) h e =
    let parts = and_parts (is_letter b) (list_all is_name_byte (take m bs)) e in
    let l : is_letter b ≡ true = parts.0 in
    (l, rw l (omega (arith, run-most is_name_byte bs m (omega arith) parts.1)))

pub name-run : (rest : List ℕ) → begins is_letter rest ≡ true → 0 < prefix_len is_name_byte rest
name-run [] l = absurd cc
name-run (b ∷ bs) l = rw l (omega arith)

-- a name that is taken is short enough
pub taken : (long : Bool) (e : LexErr) (name bytes : List ℕ) → Ok name ≡ cond long (Err e) (Ok bytes) → (long ≡ false) × (name ≡ bytes)
taken true e name bytes h = absurd cc
taken false e name bytes h = (refl, cc)

-- ## Libs

pub lib-text : (rest : List ℕ) → begins_lib rest ≡ true → rest ≡ std_colons ++ drop 5 rest
lib-text rest h =
    sym (take-append-drop 5 rest) ∙ ap (λ front. front ++ drop 5 rest)
    ((bytes_eq-Decides (take 5 rest) std_colons).0 (and_parts (bytes_eq (take 5 rest) std_colons) (begins is_letter (drop 5 rest)) h).0)

pub lib-letter : (rest : List ℕ) → begins_lib rest ≡ true → begins is_letter rest ≡ true
lib-letter rest h = subst (λ r. begins is_letter r ≡ true) (sym (lib-text rest h)) refl

-- the name at the front of a lib is `std`
pub lib-std : (rest : List ℕ) → begins_lib rest ≡ true → prefix_len is_name_byte rest ≡ 3
lib-std rest h = subst (λ r. prefix_len is_name_byte r ≡ 3) (sym (lib-text rest h)) refl

pub lib-long : (rest : List ℕ) (n : ℕ) → begins_lib rest ≡ true → n ≤ length (drop 5 rest) → 5 + n ≤ length rest
lib-long rest n h k = omega (arith, ap length (lib-text rest h))

pub lib-form : (rest : List ℕ) → begins_lib rest ≡ true → is_lib (take (5 + prefix_len is_name_byte (drop 5 rest)) rest) ≡ true
lib-form rest h =
    let n = prefix_len is_name_byte (drop 5 rest) in
    let parts = and_parts (bytes_eq (take 5 rest) std_colons) (begins is_letter (drop 5 rest)) h in
    let front : bytes_eq (take 5 (take (5 + n) rest)) std_colons ≡ true = rw (take-take 5 (5 + n) rest (omega arith)) parts.0 in
    let behind : is_name (drop 5 (take (5 + n) rest)) ≡ true = rw (drop-take 5 n rest) (name-form (drop 5 rest) parts.1) in
    and_from _ _ front behind

-- a lib is longer than what stands before its name
pub lib-least : (rest : List ℕ) (m : ℕ) → is_lib (take m rest) ≡ true → 5 ≤ m
lib-least rest m e =
    let named : is_name (drop 5 (take m rest)) ≡ true =
    (and_parts (bytes_eq (take 5 (take m rest)) std_colons) (is_name (drop 5 (take m rest))) e).1 in
    elim (cases_lt m 5) [
      | inl short ↦ absurd (both_ways _ (ap is_name (drop_all 5 (take m rest) (omega (arith, length-take m rest)))) named)
      | inr long ↦ long
    ]

pub lib-shape_at : (rest : List ℕ) (k : ℕ) → 5 + k ≤ length rest → is_lib (take (5 + k) rest) ≡ true → (begins_lib rest ≡ true)
    × (k ≤ prefix_len is_name_byte (drop 5 rest))
lib-shape_at rest k h e =
    let parts = and_parts (bytes_eq (take 5 (take (5 + k) rest)) std_colons) (is_name (drop 5 (take (5 + k) rest))) e in
    let front : bytes_eq (take 5 rest) std_colons ≡ true = rw (take-take 5 (5 + k) rest (omega arith)) at parts.0 in
    let behind : is_name (take k (drop 5 rest)) ≡ true = rw (drop-take 5 k rest) at parts.1 in
    let name = name-shape (drop 5 rest) k (omega (arith, length-drop 5 rest)) behind in
    (and_from _ _ front name.0, name.1)

pub lib-shape : (rest : List ℕ) (m : ℕ) → m ≤ length rest → is_lib (take m rest) ≡ true → (begins_lib rest ≡ true)
    × (m ≤ 5 + prefix_len is_name_byte (drop 5 rest))
lib-shape rest m h e =
    let same : 5 + (m - 5) ≡ m = omega (arith, lib-least rest m e) in
    let at = lib-shape_at rest (m - 5) (omega arith) (subst (λ n. is_lib (take n rest) ≡ true) (sym same) e) in
    (at.0, omega (arith, at.1))

-- ## Numbers

pub number-form : (rest : List ℕ) → begins is_digit rest ≡ true → is_number (take (number_len rest) rest) ≡ true
number-form [] d = absurd cc
number-form (b ∷ bs) d =
    cond_both (b == 48) 1 (prefix_len is_digit (b ∷ bs)) (λ n. is_number (take n (b ∷ bs)) ≡ true)
    (λ e. rw (d, e) refl)
    (λ e. rw (d, one-add, d, e) (run-all is_digit bs))

pub number-digits : (rest : List ℕ) → begins is_digit rest ≡ true → list_all is_digit (take (number_len rest) rest) ≡ true
number-digits [] d = absurd cc
number-digits (b ∷ bs) d =
    cond_both (b == 48) 1 (prefix_len is_digit (b ∷ bs)) (λ n. list_all is_digit (take n (b ∷ bs)) ≡ true) (λ _. rw d refl)
    (λ _. run-all is_digit (b ∷ bs))

pub number-shape : (rest : List ℕ) (m : ℕ) → m ≤ length rest → is_number (take m rest) ≡ true → (begins is_digit rest ≡ true) × (m ≤ number_len rest)
number-shape rest zero h e = absurd cc
number-shape [] (suc m) h e = absurd cc
number-shape (b ∷ bs) (suc m) h e =
    let parts = and_parts (is_digit b) (cond (b == 48) (length (take m bs) == 0) (list_all is_digit (take m bs))) e in
    let d : is_digit b ≡ true = parts.0 in
    let more : suc m ≤ number_len (b ∷ bs) =
    elim (b == 48) as (λ t. cond t (length (take m bs) == 0) (list_all is_digit (take m bs)) ≡ true
    → suc m ≤ cond t 1 (prefix_len is_digit (b ∷ bs))) [
      | true ↦ λ z. omega (arith, eqb-true (length (take m bs)) 0 z, length-take-le m bs (omega arith))
      | false ↦ λ a. rw d (omega (arith, run-most is_digit bs m (omega arith) a))
    ] parts.1 in
    (d, more)

pub number-within : (rest : List ℕ) → begins is_digit rest ≡ true → number_len rest ≤ length rest
number-within [] d = absurd cc
number-within (b ∷ bs) d =
    cond_both (b == 48) 1 (prefix_len is_digit (b ∷ bs)) (λ n. n ≤ suc (length bs)) (λ _. omega arith) (λ _. prefix_len-le-length is_digit (b ∷ bs))

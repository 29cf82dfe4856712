-- The class of the first byte: which bytes have it, and which rule is broken where nothing begins.
use Rattle.std.proofs.Common.{◌≡◌, ℕ, zero, suc, ◌<◌, ◌==◌, ◌||◌, inl, inr, Bool, true, false, List, [], ◌∷◌, ◌++◌, length, take, drop, get_or, refl}
use Rattle.std.proofs.Common.{sym, ap, ◌∙◌, subst, arith, append_assoc}
use Rattle.std.proofs.lemmas.Bool.{cond_both, eqb-true, or_cases, or_parts}
use Rattle.std.proofs.lemmas.Bool.Decides.{nat_tests, Decides-eqb}
use Rattle.std.proofs.lemmas.List.{take-append-drop}
use Rattle.std.proofs.lemmas.Slice.Eq.{starts_is}
use Rattle.sl_base.specs.Bytes.{is_blank, is_letter, is_digit, begins, begins_with}
use Rattle.sl_base.specs.Pieces.{bad_byte, rule_of}
use Rattle.sl_lexer.specs.Means.Front.{first_of, first_at, rule_for}
use Rattle.sl_lexer.specs.declared.byte.First.{First}
use Rattle.sl_lexer.specs.declared.byte.First.TheVariants.{Blank, Letter, Digit, Quote, Apostrophe, Hash, Other}

-- ## From the byte to its class

letter-no_blank : (b : ℕ) → is_letter b ≡ true → is_blank b ≡ false
letter-no_blank b l = grind (arith, nat_tests)

digit-no_blank : (b : ℕ) → is_digit b ≡ true → is_blank b ≡ false
digit-no_blank b d = grind (arith, nat_tests)

digit-no_letter : (b : ℕ) → is_digit b ≡ true → is_letter b ≡ false
digit-no_letter b d = grind (arith, nat_tests)

pub at-blank : (rest : List ℕ) → begins is_blank rest ≡ true → first_at rest ≡ Blank
at-blank [] e = absurd cc
at-blank (b ∷ bs) e = rw e refl

pub at-letter : (rest : List ℕ) → begins is_letter rest ≡ true → first_at rest ≡ Letter
at-letter [] e = absurd cc
at-letter (b ∷ bs) e = rw (letter-no_blank b e, e) refl

pub at-digit : (rest : List ℕ) → begins is_digit rest ≡ true → first_at rest ≡ Digit
at-digit [] e = absurd cc
at-digit (b ∷ bs) e = rw (digit-no_blank b e, digit-no_letter b e, e) refl

pub at-byte : (a : ℕ) (rest : List ℕ) → begins (λ b. b == a) rest ≡ true → first_at rest ≡ first_of a
at-byte a [] e = absurd cc
at-byte a (b ∷ bs) e = ap first_of (eqb-true b a e)

-- as code reads it
pub at-read : (rest : List ℕ) (first : First) → 0 < length rest → first ≡ first_of (get_or rest 0 0) → first_at rest ≡ first
at-read [] first some e = absurd (omega arith)
at-read (b ∷ bs) first some e = sym e

pub at-take : (rest : List ℕ) (m : ℕ) → 0 < m → first_at (take m rest) ≡ first_at rest
at-take rest zero some = absurd (omega arith)
at-take [] (suc m) some = refl
at-take (b ∷ bs) (suc m) some = refl

-- ## From the class to the byte

abbrev pub Tells : First → ℕ → Type 0
Tells Blank b = is_blank b ≡ true
Tells Letter b = is_letter b ≡ true
Tells Digit b = is_digit b ≡ true
Tells Quote b = b ≡ 34
Tells Apostrophe b = b ≡ 39
Tells Hash b = b ≡ 35
Tells Other b = Unit {0}

tells : (b : ℕ) → Tells (first_of b) b
tells b =
    cond_both (is_blank b) Blank _ (λ f. Tells f b) (λ e. e) (λ _.
    cond_both (is_letter b) Letter _ (λ f. Tells f b) (λ e. e) (λ _.
    cond_both (is_digit b) Digit _ (λ f. Tells f b) (λ e. e) (λ _.
    cond_both (b == 34) Quote _ (λ f. Tells f b) (λ e. eqb-true b 34 e) (λ _.
    cond_both (b == 39) Apostrophe _ (λ f. Tells f b) (λ e. eqb-true b 39 e) (λ _.
    cond_both (b == 35) Hash Other (λ f. Tells f b) (λ e. eqb-true b 35 e) (λ _. tt))))))

abbrev pub TellsAt : First → List ℕ → Type 0
TellsAt first [] = first ≡ Other
TellsAt first (b ∷ bs) = Tells first b

pub tells_at : (rest : List ℕ) (first : First) → first_at rest ≡ first → TellsAt first rest
tells_at [] first e = sym e
tells_at (b ∷ bs) first e = subst (λ f. Tells f b) e (tells b)

-- the rule that is broken where nothing begins, by the byte
pub rule-for : (b : ℕ) → rule_for (first_of b) ≡ rule_of b
rule-for b =
    cond_both ((b == 34) || (b == 39)) _ _ (λ r. rule_for (first_of b) ≡ r)
    (λ e.
    elim (or_cases (b == 34) (b == 39) e) [
      | inl quote ↦ ap (λ n. rule_for (first_of n)) (eqb-true b 34 quote)
      | inr apostrophe ↦ ap (λ n. rule_for (first_of n)) (eqb-true b 39 apostrophe)
    ])
    (λ e.
    let parts = or_parts (b == 34) (b == 39) e in
    cond_both (b == 35) _ _ (λ r. rule_for (first_of b) ≡ r) (λ hash. ap (λ n. rule_for (first_of n)) (eqb-true b 35 hash))
    (λ no_hash. plain parts.0 parts.1 no_hash))
  where
    plain : (b == 34) ≡ false → (b == 39) ≡ false → (b == 35) ≡ false → rule_for (first_of b) ≡ bad_byte
    plain no_quote no_apostrophe no_hash =
        cond_both (is_blank b) Blank _ (λ f. rule_for f ≡ bad_byte) (λ _. refl) (λ _.
        cond_both (is_letter b) Letter _ (λ f. rule_for f ≡ bad_byte) (λ _. refl) (λ _.
        cond_both (is_digit b) Digit _ (λ f. rule_for f ≡ bad_byte) (λ _. refl) (λ _. rw (no_quote, no_apostrophe, no_hash) refl)))

-- ## Fronts

-- a front begins as the whole does
pub begins-take : (p : ℕ → Bool) (rest : List ℕ) (m : ℕ) → 0 < m → begins p (take m rest) ≡ begins p rest
begins-take p rest zero some = absurd (omega arith)
begins-take p [] (suc m) some = refl
begins-take p (b ∷ bs) (suc m) some = refl

-- what a front begins with the whole begins with
pub front-begins : (p : ℕ → Bool) (rest : List ℕ) (m : ℕ) → begins p (take m rest) ≡ true → begins p rest ≡ true
front-begins p rest zero e = absurd cc
front-begins p [] (suc m) e = absurd cc
front-begins p (b ∷ bs) (suc m) e = e

pub begins-is : (front bytes : List ℕ) → begins_with front bytes ≡ true → bytes ≡ front ++ drop (length front) bytes
begins-is front bytes e = (starts_is Decides-eqb bytes front (begins_with front bytes) refl).0 e

pub is-begins : (front bytes behind : List ℕ) → bytes ≡ front ++ behind → begins_with front bytes ≡ true
is-begins front bytes behind e = (starts_is Decides-eqb bytes front (begins_with front bytes) refl).1 behind e

-- what begins a front of bytes begins the bytes
pub begins-more : (front rest : List ℕ) (m : ℕ) → begins_with front (take m rest) ≡ true → begins_with front rest ≡ true
begins-more front rest m e =
    is-begins front rest (drop (length front) (take m rest) ++ drop m rest)
    (sym (take-append-drop m rest) ∙ ap (λ xs. xs ++ drop m rest) (begins-is front (take m rest) e)
    ∙ append_assoc front (drop (length front) (take m rest)) (drop m rest))

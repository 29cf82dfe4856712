-- How the letters of a row are tried in turn.
use Rattle.std.proofs.Common.{◌≡◌, ◌+◌, ◌<◌, ℕ, List, [], ◌∷◌, length, get_or, take, drop, refl, sym, ap, ◌∙◌}
use Rattle.std.specs.Prelude.{Bool, true, false, ◌&&◌, ◌||◌}
use Rattle.std.proofs.lemmas.List.{drop_more}
use Rattle.sl_base.specs.declared.form.Form.{Form}
use Rattle.sl_specs.specs.declared.letter.Letter.{Letter}
use Rattle.sl_typing.specs.declared.expr_type.ExprType.{ExprType}
use Rattle.sl_typing.specs.Signatures.{width}
use Rattle.sl_typing.specs.Arguments.{letter_takes, letters_take, letters_seen, some_letter}
use Rattle.sl_candidates.specs.Means.Operands.{seen}

and_assoc : (a b c : Bool) → ((a && b) && c) ≡ (a && (b && c))
and_assoc true b c = refl
and_assoc false b c = refl

or_assoc : (a b c : Bool) → ((a || b) || c) ≡ (a || (b || c))
or_assoc true b c = refl
or_assoc false b c = refl

seen_more : (appends : Bool) (x : Letter) (xs : List Letter) → letters_seen appends (x ∷ xs) ≡ seen appends x ∷ letters_seen appends xs
seen_more true x xs = refl
seen_more false x xs = refl

pub seen_none : (appends : Bool) → letters_seen appends [] ≡ []
seen_none true = refl
seen_none false = refl

-- the letters from a place on begin with the one there
seen_drop : (appends : Bool) (xs : List Letter) (i : ℕ) (x : Letter) → i < length xs → x ≡ get_or xs i x
    → letters_seen appends (drop i xs) ≡ seen appends x ∷ letters_seen appends (drop (i + 1) xs)
seen_drop appends xs i x within is =
    ap (letters_seen appends) (drop_more xs i x within ∙ ap (λ (y : Letter). y ∷ drop (i + 1) xs) (sym is)) ∙ seen_more appends x (drop (i + 1) xs)

-- one letter more takes its operands
pub take_step : (form : Form) (appends : Bool) (xs : List Letter) (i : ℕ) (x : Letter) (fits : Bool) (us : List ExprType)
    → i < length xs → x ≡ get_or xs i x
    → ((fits && letter_takes form (seen appends x) (take (width (seen appends x) us) us))
    && letters_take form (letters_seen appends (drop (i + 1) xs)) (drop (width (seen appends x) us) us))
    ≡ (fits && letters_take form (letters_seen appends (drop i xs)) us)
take_step form appends xs i x fits us within is =
    and_assoc fits (letter_takes form (seen appends x) (take (width (seen appends x) us) us))
    (letters_take form (letters_seen appends (drop (i + 1) xs)) (drop (width (seen appends x) us) us))
    ∙ sym (ap (λ (ys : List Letter). fits && letters_take form ys us) (seen_drop appends xs i x within is))

-- one letter more has a test of its operands
pub some_step : (test : Letter → List ExprType → Bool) (appends : Bool) (xs : List Letter) (i : ℕ) (x : Letter) (found : Bool) (us : List ExprType)
    → i < length xs → x ≡ get_or xs i x
    → ((found || test (seen appends x) (take (width (seen appends x) us) us))
    || some_letter test (letters_seen appends (drop (i + 1) xs)) (drop (width (seen appends x) us) us))
    ≡ (found || some_letter test (letters_seen appends (drop i xs)) us)
some_step test appends xs i x found us within is =
    or_assoc found (test (seen appends x) (take (width (seen appends x) us) us))
    (some_letter test (letters_seen appends (drop (i + 1) xs)) (drop (width (seen appends x) us) us))
    ∙ sym (ap (λ (ys : List Letter). found || some_letter test ys us) (seen_drop appends xs i x within is))

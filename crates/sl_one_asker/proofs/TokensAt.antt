-- No more words of a tree tell a place than tokens that spell them stand there, and where no two tokens stand at one place, at most one does.
use Rattle.std.proofs.Common.{arith, ◌≡◌, ℕ, suc, ◌<◌, ◌≤◌, Bool, true, false, List, [], ◌∷◌, Some, refl, sym, ap, subst, ◌∙◌}
use Rattle.std.specs.Prelude.{◌==◌, ◌||◌, slice_get}
use Rattle.std.specs.List.{list_any}
use Rattle.std.proofs.lemmas.Bool.{and_parts, cases_Bool, eqb-true, or_cases}
use Rattle.std.proofs.Common.{⊎_elim}
use Rattle.sl_base.specs.declared.place.Place.{Place}
use Rattle.sl_base.specs.declared.token.Token.{Token}
use Rattle.sl_base.specs.Tokens.{TokensAscend}
use Rattle.sl_syntax.specs.Placed.{Spells}
use Rattle.sl_syntax.specs.Shaped.{Each}
use Rattle.sl_syntax.specs.Written.{Written}
use Rattle.sl_model.specs.Typing.WellTypedNumbers.{same_place}
use Rattle.sl_one_asker.specs.OwnPlaces.{HaveOwnPlaces}
use Rattle.sl_one_asker.proofs.Totals.{total}
use Rattle.sl_one_asker.proofs.Askers.{told_at, here}
use Rattle.sl_one_asker.proofs.WordsAt.{among, words_at, one_if}

-- how many of these tokens stand at a place
abbrev pub tokens_at : Place → List Token → ℕ
tokens_at q tokens = total (λ (t : Token). here q t.place) tokens

-- what is among places that are all one is that one
any_is_here : (q p : Place) (ps : List Place) → Each (λ (x : Place). x ≡ p) ps → list_any (same_place q) ps ≡ true → same_place q p ≡ true
any_is_here q p [] all any = absurd cc
any_is_here q p (x ∷ xs) all any =
    ⊎_elim (λ first. subst (λ (y : Place). same_place q y ≡ true) all.0 first) (λ rest. any_is_here q p xs all.1 rest)
    (or_cases (same_place q x) (list_any (same_place q) xs) any)

or_false : (b : Bool) → b ≡ true → (b || false) ≡ true
or_false true h = refl
or_false false h = absurd cc

-- places that are told of a word are that of its token
token_told : (q p : Place) (ps : List Place) → Each (λ (x : Place). x ≡ p) ps → among q ps ≤ here q p
unfolding told_at
token_told q p [] all = one_if false (same_place q p || false) (λ e. absurd cc)
token_told q p (x ∷ xs) all =
    one_if (list_any (same_place q) (x ∷ xs)) (same_place q p || false)
    (λ any. or_false (same_place q p) (any_is_here q p (x ∷ xs) all any))

-- of words that tokens spell
pub spelled : (q : Place) (xs : List Written) (tokens rest : List Token) → Spells xs tokens rest → words_at q xs ≤ tokens_at q tokens
spelled q [] tokens rest h = omega arith
spelled q (x ∷ xs) [] rest h = absurd h
spelled q (x ∷ xs) (t ∷ ts) rest h =
    let first = token_told q t.place x.told h.0.1 in let others = spelled q xs ts rest h.1 in omega arith

-- two places with one line and one column are one
pub place_same : (x y : Place) → same_place x y ≡ true → x ≡ y
place_same x y h =
    let two = and_parts (x.line == y.line) (x.col == y.col) h in
    let first : x ≡ record { line = y.line; col = x.col } = ap (λ (n : ℕ). record { line = n; col = x.col }) (eqb-true x.line y.line two.0) in
    let last : record { line = y.line; col = x.col } ≡ y = ap (λ (n : ℕ). record { line = y.line; col = n }) (eqb-true x.col y.col two.1) in
    first ∙ last

-- at a place or not
pub is_here : (q p : Place) → same_place q p ≡ true → here q p ≡ 1
unfolding told_at
is_here q p h = rw h refl

pub not_here : (q p : Place) → same_place q p ≡ false → here q p ≡ 0
unfolding told_at
not_here q p h = rw h refl

-- at a place where a token stands, no token with another place does
none_there : (q : Place) (t : Token) (ts : List Token) → same_place q t.place ≡ true
    → ((j : ℕ) (s : Token) → slice_get ts j ≡ Some s → t.place ≡ s.place → ⊥) → tokens_at q ts ≡ 0
none_there q t [] at apart = refl
none_there q t (s ∷ ts) at apart =
    let others = none_there q t ts at (λ j r there. apart (suc j) r there) in
    ⊎_elim
    (λ (same : same_place q s.place ≡ true). absurd (apart 0 s refl (sym (place_same q t.place at) ∙ place_same q s.place same)))
    (λ (other : same_place q s.place ≡ false). let none = not_here q s.place other in omega arith) (cases_Bool (same_place q s.place))

-- so at most one stands at a place
pub one_token : (q : Place) (tokens : List Token) → HaveOwnPlaces tokens → tokens_at q tokens ≤ 1
one_token q [] own = omega arith
one_token q (t ∷ ts) own =
    ⊎_elim
    (λ (same : same_place q t.place ≡ true).
    let first = is_here q t.place same in
    let others = none_there q t ts same (λ j s there. own 0 (suc j) t s (omega arith) refl there) in
    omega arith)
    (λ (other : same_place q t.place ≡ false).
    let first = not_here q t.place other in
    let others = one_token q ts (λ i j s r less a b. own (suc i) (suc j) s r (omega arith) a b) in
    omega arith) (cases_Bool (same_place q t.place))

-- tokens that come in the order of their places have places of their own
pub ascending : (tokens : List Token) → TokensAscend tokens → HaveOwnPlaces tokens
ascending tokens up i j s t less a b same =
    let line = ap (λ (p : Place). p.line) same in
    let col = ap (λ (p : Place). p.col) same in
    ⊎_elim (λ (first : s.place.line < t.place.line). absurd (omega arith)) (λ later. let last = later.1 in absurd (omega arith)) (up i j s t less a b)

-- The first tokens are some words: how such words are put together and taken apart.
use Rattle.std.proofs.Common.{◌≡◌, ℕ, ◌+◌, ◌≤◌, List, [], ◌∷◌, ◌++◌, length, refl, sym, ap, subst, ◌∙◌, arith}
use Rattle.sl_base.specs.declared.place.Place.{Place}
use Rattle.sl_base.specs.declared.token.Token.{Token}
use Rattle.sl_base.specs.declared.word.Word.{Word}
use Rattle.sl_syntax.specs.Placed.{Spells}
use Rattle.sl_syntax.specs.Written.{Written, at, plain, from_place}
use Rattle.sl_grammar.specs.Means.Steps.{here}

-- the tokens begin with these words
pub record Spelled (xs : List Written) (ts rest : List Token) : Type 0 where
  pub spells : Spells xs ts rest

spells-append : (xs ys : List Written) (ts mid rest : List Token) → Spells xs ts mid → Spells ys mid rest → Spells (xs ++ ys) ts rest
spells-append [] ys ts mid rest a b = subst (λ (us : List Token). Spells ys us rest) (sym a) b
spells-append (x ∷ xs) ys [] mid rest a b = a
spells-append (x ∷ xs) ys (t ∷ ts) mid rest a b = (a.0, spells-append xs ys ts mid rest a.1 b)

-- words, and words behind them
infixr 5 ◌⨾◌
pub ◌⨾◌ : {xs ys : List Written} {ts mid rest : List Token} → Spelled xs ts mid → Spelled ys mid rest → Spelled (xs ++ ys) ts rest
a ⨾ b = record { spells = spells-append _ _ _ _ _ a.spells b.spells }

pub no_words : (ts : List Token) → Spelled [] ts ts
no_words ts = record { spells = refl }

-- the same words, written in another way
pub respelled : {xs ys : List Written} {ts rest : List Token} → xs ≡ ys → Spelled xs ts rest → Spelled ys ts rest
respelled {ts = ts} {rest = rest} e a = subst (λ (l : List Written). Spelled l ts rest) e a

abbrev pub token : Word → ℕ → Place → Token
token word offset place = record { word = word; offset = offset; place = place }

splits : {C : Type 0} (a b : List Written) (ts rest : List Token) → Spells (a ++ b) ts rest
    → ((mid : List Token) → Spelled a ts mid → Spelled b mid rest → C) → C
splits [] b ts rest h go = go ts (record { spells = refl }) (record { spells = h })
splits (x ∷ a) b [] rest h go = absurd h
splits (x ∷ a) b (t ∷ ts) rest h go = splits a b ts rest h.1 (λ mid p q. go mid (record { spells = (h.0, p.spells) }) q)

-- words behind words: between them some tokens are left
pub split : {C : Type 0} (a : List Written) {b : List Written} {ts rest : List Token} → Spelled (a ++ b) ts rest
    → ((mid : List Token) → Spelled a ts mid → Spelled b mid rest → C) → C
split a {b} {ts} {rest} h go = splits a b ts rest h.spells go

at_words : {C : Type 0} (place : Place) (word : Word) (xs : List Written) (ts rest : List Token) → Spells (at place word ∷ xs) ts rest
    → ((offset : ℕ) (us : List Token) → ts ≡ token word offset place ∷ us → Spelled xs us rest → C) → C
at_words place word xs [] rest h go = absurd h
at_words place word xs (t ∷ us) rest h go =
    go t.offset us (ap (λ (v : Word). token v t.offset t.place ∷ us) h.0.0 ∙ ap (λ (p : Place). token word t.offset p ∷ us) (sym h.0.1.0))
    (record { spells = h.1 })

-- a word whose place is told
pub at_word : {C : Type 0} {place : Place} {word : Word} {xs : List Written} {ts rest : List Token} → Spelled (at place word ∷ xs) ts rest
    → ((offset : ℕ) (us : List Token) → ts ≡ token word offset place ∷ us → Spelled xs us rest → C) → C
at_word {place} {word} {xs} {ts} {rest} h go = at_words place word xs ts rest h.spells go

plain_words : {C : Type 0} (word : Word) (xs : List Written) (ts rest : List Token) → Spells (plain word ∷ xs) ts rest
    → ((offset : ℕ) (place : Place) (us : List Token) → ts ≡ token word offset place ∷ us → Spelled xs us rest → C) → C
plain_words word xs [] rest h go = absurd h
plain_words word xs (t ∷ us) rest h go = go t.offset t.place us (ap (λ (v : Word). token v t.offset t.place ∷ us) h.0.0) (record { spells = h.1 })

-- a word whose place isn't told
pub plain_word : {C : Type 0} {word : Word} {xs : List Written} {ts rest : List Token} → Spelled (plain word ∷ xs) ts rest
    → ((offset : ℕ) (place : Place) (us : List Token) → ts ≡ token word offset place ∷ us → Spelled xs us rest → C) → C
plain_word {C} {word} {xs} {ts} {rest} h go = plain_words word xs ts rest h.spells go

-- words the first of which has this place too
from_words : (place : Place) (xs : List Written) (ts rest : List Token) → 1 ≤ length xs → Spells (from_place place xs) ts rest
    → Spelled xs ts rest × (place ≡ here ts)
from_words place [] ts rest l h = absurd (omega arith)
from_words place (x ∷ xs) [] rest l h = absurd h
from_words place (x ∷ xs) (t ∷ ts) rest l h = (record { spells = ((h.0.0, h.0.1.1), h.1) }, h.0.1.0)

pub from_word : (place : Place) (xs : List Written) {ts rest : List Token} → 1 ≤ length xs → Spelled (from_place place xs) ts rest
    → Spelled xs ts rest × (place ≡ here ts)
from_word place xs {ts} {rest} l h = from_words place xs ts rest l h.spells

-- the first word has the place of the first token
pub begun : {xs : List Written} {ts rest : List Token} → Spelled xs ts rest → Spelled (from_place (here ts) xs) ts rest
begun a = record { spells = spells-begun _ _ _ a.spells }
  where
    spells-begun : (xs : List Written) (ts rest : List Token) → Spells xs ts rest → Spells (from_place (here ts) xs) ts rest
    spells-begun [] ts rest a = a
    spells-begun (x ∷ xs) [] rest a = a
    spells-begun (x ∷ xs) (t ∷ ts) rest a = ((a.0.0, (refl, a.0.1)), a.1)

pub spells-length : (xs : List Written) (ts rest : List Token) → Spells xs ts rest → length ts ≡ length xs + length rest
spells-length [] ts rest h = ap length h ∙ omega arith
spells-length (x ∷ xs) [] rest h = absurd h
spells-length (x ∷ xs) (t ∷ ts) rest h = omega (arith, spells-length xs ts rest h.1)

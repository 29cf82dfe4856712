-- Steps of a reader over tokens: a value and the tokens behind it, or the fault of the first token that can't stand there.
use Rattle.std.specs.Prelude.{ℕ, zero, suc, ◌≡◌, ◌≢◌, ◌++◌, List, [], ◌∷◌, drop, length, max, Bool, false, if◌then◌else◌, Result, Ok, Err}
use denote.Enum.Bare.{sameb}
use Rattle.sl_base.specs.contracts.mark.Mark.{the_type}
use Rattle.sl_base.specs.declared.mark.Mark.{Mark}
use Rattle.sl_base.specs.declared.place.Place.{Place}
use Rattle.sl_base.specs.declared.token.Token.{Token}
use Rattle.sl_base.specs.declared.word.Word.{Word}
use Rattle.sl_base.specs.declared.word.Word.TheVariants as w
use Rattle.sl_syntax.specs.declared.token_kind.TokenKind.{TokenKind}
use Rattle.sl_syntax.specs.declared.token_kind.TokenKind.TheVariants as k
use Rattle.sl_syntax.specs.declared.tree.identifier.Identifier.{Identifier}
use Rattle.sl_syntax.specs.TokenKinds.{kind_of}
use Rattle.sl_grammar.specs.declared.fault.Fault.{Fault}
use Rattle.sl_grammar.specs.declared.fault.Fault.TheVariants.{Memory, Grammar}

-- the fault of the first of these tokens
abbrev pub refusal : List Token → Fault
refusal ts = Grammar (length ts)

abbrev pub Outcome : Type 0 → Type 0
Outcome A = Result (A × List Token) Fault

abbrev pub Reader : Type 0 → Type 0
Reader A = List Token → Outcome A

-- what is read, and its height
abbrev pub Tall : Type 0 → Type 0
Tall A = A × ℕ

abbrev pub and_then : {A B : Type 0} → Outcome A → (A → Reader B) → Outcome B
and_then (Ok p) f = f p.0 p.1
and_then (Err e) f = Err e

infixl 10 ◌>>=◌
abbrev pub ◌>>=◌ : {A B : Type 0} → Reader A → (A → Reader B) → Reader B
p >>= f = λ ts. and_then (p ts) f

infixl 10 ◌>>◌
abbrev pub ◌>>◌ : {A B : Type 0} → Reader A → Reader B → Reader B
p >> q = p >>= (λ _. q)

abbrev pub pure : {A : Type 0} → A → Reader A
pure a = λ ts. Ok (a, ts)

abbrev pub refuse : {A : Type 0} → Reader A
refuse = λ ts. Err (refusal ts)

-- reads only under a test
abbrev pub only : {A : Type 0} → Bool → Reader A → Reader A
only test p = λ ts. if test then p ts else Err (refusal ts)

abbrev pub skip : Reader (Unit {0})
skip = λ ts. Ok (tt, drop 1 ts)

-- what the next word is to the grammar
abbrev pub kind_at : List Token → TokenKind
kind_at [] = k.End
kind_at (t ∷ ts) = kind_of t.word

-- the place of the next token
abbrev pub here : List Token → Place
here [] = record { line = 1; col = 1 }
here (t ∷ ts) = t.place

abbrev pub number_in : Word → ℕ
number_in (w.Number n) = n
number_in _ = 0

abbrev pub text_in : Word → List ℕ
text_in (w.Text bytes) = bytes
text_in _ = []

abbrev pub is_mark : Mark → TokenKind → Bool
is_mark m (k.Mark x) = sameb the_type x m
is_mark m _ = false

-- this mark, and its place
unfoldable pub mark : Mark → Reader Place
mark m = λ ts. if is_mark m (kind_at ts) then Ok (here ts, drop 1 ts) else Err (refusal ts)

-- reads by the place and the word of the next token
abbrev pub by_word : {A : Type 0} → (Place → Word → Reader A) → Reader A
by_word f [] = refuse []
by_word f (t ∷ ts) = f t.place t.word (t ∷ ts)

abbrev pub identifier_by : Place → Word → Reader Identifier
identifier_by place (w.Name n) = λ ts. Ok (record { name = n; place = place }, drop 1 ts)
identifier_by place _ = refuse

-- a name, at its place
unfoldable pub identifier : Reader Identifier
identifier = by_word identifier_by

abbrev pub library_by : Place → Word → Reader Identifier
library_by place (w.Lib n) = λ ts. Ok (record { name = n; place = place }, drop 1 ts)
library_by place _ = refuse

-- the name of a lib, which is one of a function where the word's kind says so
unfoldable pub library : Reader Identifier
library = by_word library_by

abbrev pub number_at : List Token → ℕ
number_at [] = 0
number_at (t ∷ ts) = number_in t.word

abbrev pub text_at : List Token → List ℕ
text_at [] = []
text_at (t ∷ ts) = text_in t.word

-- Reads items while the next word goes on, behind those that are done; with them their greatest height. The number bounds the turns.
unfoldable pub repeat : {A : Type 0} → (TokenKind → Bool) → Reader (Tall A) → ℕ → Tall (List A) → Reader (Tall (List A))
repeat goes item zero done = λ ts. if goes (kind_at ts) then Err (refusal ts) else Ok (done, ts)
repeat goes item (suc n) done = λ ts.
    if goes (kind_at ts) then (item >>= (λ x. repeat goes item n (done.0 ++ x.0 ∷ [], max done.1 x.1))) ts
    else Ok (done, ts)

-- each turn takes a token, so there are no more turns than tokens
abbrev pub all_behind : {A : Type 0} → (TokenKind → Bool) → Reader (Tall A) → Tall (List A) → Reader (Tall (List A))
all_behind goes item done = λ ts. repeat goes item (length ts) done ts

-- What a function that reads ensures: the reader's outcome, seen by view, unless memory ran out.
abbrev pub Reads : {A X : Type 0} → (X → A) → Outcome A → Result X Fault → List Token → Type 0
Reads view outcome (Ok x) new = outcome ≡ Ok (view x, new)
Reads view outcome (Err e) new = e ≢ Memory → outcome ≡ Err e

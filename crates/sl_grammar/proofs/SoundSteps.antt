-- What follows from the answer of a step: which words it took.
use Rattle.std.proofs.Common.{drop, length, ◌≡◌, ℕ, zero, suc, ◌≤◌, max, Bool, true, false, cond, List, [], ◌∷◌, ◌++◌, Some, Result, Ok, Err, refl}
use Rattle.std.proofs.Common.{sym, ap, subst, ◌∙◌, arith, append_assoc}
use Rattle.std.specs.Prelude.{flat_map}
use Rattle.std.proofs.lemmas.Bool.{false≢true}
use Rattle.std.proofs.lemmas.List.{append-nil}
use Rattle.sl_base.specs.declared.mark.Mark.{Mark}
use Rattle.sl_base.specs.declared.place.Place.{Place}
use Rattle.sl_base.specs.declared.token.Token.{Token}
use Rattle.sl_base.specs.declared.word.Word.{Word}
use Rattle.sl_base.specs.declared.word.Word.TheVariants as w
use Rattle.sl_syntax.specs.declared.token_kind.TokenKind.{TokenKind}
use Rattle.sl_syntax.specs.declared.token_kind.TokenKind.TheVariants as k
use Rattle.sl_syntax.specs.declared.tree.identifier.Identifier.{Identifier}
use Rattle.sl_syntax.specs.Depth.{highest}
use Rattle.sl_syntax.specs.TokenKinds.{kind_of}
use Rattle.sl_syntax.specs.Placed.{Spells}
use Rattle.sl_syntax.specs.Shaped.{Each, AreSome}
use Rattle.sl_syntax.specs.Written.{Written, at, plain, named}
use Rattle.sl_syntax.specs.Written as s
use Rattle.sl_grammar.specs.declared.fault.Fault.{Fault}
use Rattle.sl_grammar.specs.Means.Steps.{Outcome, Reader, Tall, and_then, kind_at, here, is_mark, mark, number_at, text_at, identifier_by, identifier}
use Rattle.sl_grammar.specs.Means.Steps.{library_by, library, repeat, all_behind}
use Rattle.sl_grammar.proofs.KindLaws.{fixed, word_of_kind, number_word, text_word, is_mark_kind}
use Rattle.sl_grammar.proofs.Spelling.{Spelled, ◌⨾◌, no_words}

-- what is read, with its height, and the tokens behind it
abbrev pub Took : Type 0 → Type 0
Took A = Tall A × List Token

-- Eliminations of a step that answered Ok, each with a name for what it bound.
pub bound : {A B : Type 0} (o : Outcome A) (f : A → Reader B) (y : B × List Token) (P : B × List Token → Type 0) → and_then o f ≡ Ok y
    → ((p : A × List Token) → o ≡ Ok p → f p.0 p.1 ≡ Ok y → P y) → P y
bound (Ok p) f y P h go = go p refl h
bound (Err e) f y P h go = absurd cc

-- a choice by a test
pub chosen : {A : Type 0} (b : Bool) (o q z : A) (P : Type 0) → cond b o q ≡ z → (b ≡ true → o ≡ z → P) → (b ≡ false → q ≡ z → P) → P
chosen true o q z P h then other = then refl h
chosen false o q z P h then other = other refl h

-- a step that may only go on under a test
pub guarded : {A : Type 0} (b : Bool) (o : Outcome A) (e : Fault) (y : A × List Token) (P : A × List Token → Type 0) → cond b o (Err e) ≡ Ok y
    → (b ≡ true → o ≡ Ok y → P y) → P y
guarded true o e y P h then = then refl h
guarded false o e y P h then = absurd cc

pub ok_one : {A E : Type 0} {a b : A} → ◌≡◌ {A = Result A E} (Ok a) (Ok b) → a ≡ b
ok_one h = cc

pub answered : {A : Type 0} (a y : A × List Token) (P : A × List Token → Type 0) → ◌≡◌ {A = Outcome A} (Ok a) (Ok y) → P a → P y
answered a y P h p = subst P (ok_one h) p

-- one word, at its place
pub one_word : (ts : List Token) (kind : TokenKind) (x : Word) → kind_at ts ≡ kind → fixed kind ≡ Some x
    → Spelled (at (here ts) x ∷ []) ts (drop 1 ts)
one_word [] kind x h e = absurd cc
one_word (t ∷ ts) kind x h e = record { spells = ((word_of_kind t.word kind x h e, (refl, tt)), refl) }

-- one word whose place isn't told
pub one_plain : (ts : List Token) (kind : TokenKind) (x : Word) → kind_at ts ≡ kind → fixed kind ≡ Some x → Spelled (plain x ∷ []) ts (drop 1 ts)
one_plain [] kind x h e = absurd cc
one_plain (t ∷ ts) kind x h e = record { spells = ((word_of_kind t.word kind x h e, tt), refl) }

pub one_number : (ts : List Token) → kind_at ts ≡ k.Number → Spelled (at (here ts) (w.Number (number_at ts)) ∷ []) ts (drop 1 ts)
one_number [] h = absurd cc
one_number (t ∷ ts) h = record { spells = ((number_word t.word h, (refl, tt)), refl) }

pub one_text : (ts : List Token) → kind_at ts ≡ k.Text → Spelled (at (here ts) (w.Text (text_at ts)) ∷ []) ts (drop 1 ts)
one_text [] h = absurd cc
one_text (t ∷ ts) h = record { spells = ((text_word t.word h, (refl, tt)), refl) }

-- a mark that was seen is the first word
pub seen : (x : Mark) (ts : List Token) → is_mark x (kind_at ts) ≡ true → Spelled (s.mark x ∷ []) ts (drop 1 ts)
seen x ts h = one_plain ts (k.Mark x) (w.Mark x) (is_mark_kind x (kind_at ts) h) refl

pub mark_took : (x : Mark) (ts : List Token) (y : Place × List Token) → mark x ts ≡ Ok y → Spelled (at y.0 (w.Mark x) ∷ []) ts y.1
unfolding mark
mark_took x ts y h =
    let P : Place × List Token → Type 0 = λ z. Spelled (at z.0 (w.Mark x) ∷ []) ts z.1 in
    guarded (is_mark x (kind_at ts)) _ _ y P h (λ sees h1.
    answered _ y P h1 (one_word ts (k.Mark x) (w.Mark x) (is_mark_kind x (kind_at ts) sees) refl))

-- a mark that was read stood at the first place
pub mark_here : (x : Mark) (ts : List Token) (y : Place × List Token) → mark x ts ≡ Ok y → Spelled (at (here ts) (w.Mark x) ∷ []) ts y.1
unfolding mark
mark_here x ts y h =
    let P : Place × List Token → Type 0 = λ z. Spelled (at (here ts) (w.Mark x) ∷ []) ts z.1 in
    guarded (is_mark x (kind_at ts)) _ _ y P h (λ sees h1.
    answered _ y P h1 (one_word ts (k.Mark x) (w.Mark x) (is_mark_kind x (kind_at ts) sees) refl))

untold : (x : Word) (place : Place) (ts rest : List Token) → Spells (at place x ∷ []) ts rest → Spells (plain x ∷ []) ts rest
untold x place [] rest a = a
untold x place (t ∷ ts) rest a = ((a.0.0, tt), a.1)

pub mark_plain : (x : Mark) (ts : List Token) (y : Place × List Token) → mark x ts ≡ Ok y → Spelled (s.mark x ∷ []) ts y.1
mark_plain x ts y h = record { spells = untold (w.Mark x) y.0 ts y.1 (mark_took x ts y h).spells }

-- the tokens behind a mark
pub mark_rest : (x : Mark) (ts : List Token) (y : Place × List Token) → mark x ts ≡ Ok y → y.1 ≡ drop 1 ts
unfolding mark
mark_rest x ts y h =
    let P : Place × List Token → Type 0 = λ z. z.1 ≡ drop 1 ts in
    guarded (is_mark x (kind_at ts)) _ _ y P h (λ sees h1. answered _ y P h1 refl)

name_took : (x : Word) (t : Token) (ts : List Token) (y : Identifier × List Token) → t.word ≡ x → identifier_by t.place x (t ∷ ts) ≡ Ok y
    → Spelled (named y.0 ∷ []) (t ∷ ts) y.1
name_took (w.Name n) t ts y e h = answered _ y (λ z. Spelled (named z.0 ∷ []) (t ∷ ts) z.1) h (record { spells = ((e, (refl, tt)), refl) })
name_took _ t ts y e h = absurd cc

pub identifier_took : (ts : List Token) (y : Identifier × List Token) → identifier ts ≡ Ok y → Spelled (named y.0 ∷ []) ts y.1
unfolding identifier
identifier_took [] y h = absurd cc
identifier_took (t ∷ ts) y h = name_took t.word t ts y refl h

-- the name of a function of the library
abbrev pub TookLibrary : List Token → Identifier × List Token → Type 0
TookLibrary ts y = Spelled (at y.0.place (w.Lib y.0.name) ∷ []) ts y.1 × (kind_of (w.Lib y.0.name) ≡ k.Library)

lib_took : (x : Word) (t : Token) (ts : List Token) (y : Identifier × List Token) → t.word ≡ x → kind_of x ≡ k.Library
    → library_by t.place x (t ∷ ts) ≡ Ok y → TookLibrary (t ∷ ts) y
lib_took (w.Lib n) t ts y e is h = answered _ y (TookLibrary (t ∷ ts)) h (record { spells = ((e, (refl, tt)), refl) }, is)
lib_took _ t ts y e is h = absurd cc

pub library_took : (ts : List Token) (y : Identifier × List Token) → kind_at ts ≡ k.Library → library ts ≡ Ok y → TookLibrary ts y
unfolding library
library_took [] y is h = absurd cc
library_took (t ∷ ts) y is h = lib_took t.word t ts y refl is h

-- What is read: its words, that it fits, and its height, which is at most what is left of the depth.
pub record Part {A : Type 0} (written : A → List Written) (Fits : A → Type 0) (height : A → ℕ) (depth_left : ℕ) (ts : List Token) (p : Tall A)
    (rest : List Token) : Type 0 where
  pub spelled : Spelled (written p.0) ts rest
  pub fits : Fits p.0
  pub size : p.1 ≡ height p.0
  pub low : p.1 ≤ depth_left

-- what a reader answers is such a part
abbrev pub Parts : {A : Type 0} → (A → List Written) → (A → Type 0) → (A → ℕ) → ℕ → Reader (Tall A) → Type 0
Parts {A} written Fits height depth_left item = (ts : List Token) (y : Took A) → item ts ≡ Ok y → Part written Fits height depth_left ts y.0 y.1

-- the items that were read behind those that are done
pub record More {A : Type 0} (written : A → List Written) (Fits : A → Type 0) (height : A → ℕ) (depth_left : ℕ) (goes : TokenKind → Bool)
    (done : Tall (List A)) (ts : List Token) (p : Tall (List A)) (rest : List Token) : Type 0 where
  pub items : List A
  pub all : p.0 ≡ done.0 ++ items
  pub spelled : Spelled (flat_map written items) ts rest
  pub each : Each Fits items
  pub size : p.1 ≡ max done.1 (highest height items)
  pub low : highest height items ≤ depth_left
  pub stops : goes (kind_at rest) ≡ false

module _ {A : Type 0} (written : A → List Written) (Fits : A → Type 0) (height : A → ℕ) (depth_left : ℕ) (goes : TokenKind → Bool)
    (item : Reader (Tall A))
    (f : Parts written Fits height depth_left item) where
  stopped : (done : Tall (List A)) (ts : List Token) → goes (kind_at ts) ≡ false → More written Fits height depth_left goes done ts done ts
  stopped done ts stop = record {
    items = [];
    all = sym (append-nil done.0);
    spelled = no_words ts;
    each = tt;
    size = omega arith;
    low = omega arith;
    stops = stop;
  }

  repeat-more : (turns : ℕ) (done : Tall (List A)) (ts : List Token) (y : Took (List A)) → repeat goes item turns done ts ≡ Ok y
      → More written Fits height depth_left goes done ts y.0 y.1
  unfolding repeat
  repeat-more zero done ts y h =
      let P : Took (List A) → Type 0 = λ z. More written Fits height depth_left goes done ts z.0 z.1 in
      chosen (goes (kind_at ts)) _ _ _ (P y) h (λ on h1. absurd cc) (λ stop h1. answered _ y P h1 (stopped done ts stop))
  repeat-more (suc n) done ts y h =
      let P : Took (List A) → Type 0 = λ z. More written Fits height depth_left goes done ts z.0 z.1 in
      chosen (goes (kind_at ts)) _ _ _ (P y) h
      (λ on h1.
      bound (item ts) _ y P h1 (λ x read h2.
      let first = f ts x read in
      let others = repeat-more n (done.0 ++ x.0.0 ∷ [], max done.1 x.0.1) x.1 y h2 in
      record {
        items = x.0.0 ∷ others.items;
        all = others.all ∙ append_assoc done.0 (x.0.0 ∷ []) others.items;
        spelled = first.spelled ⨾ others.spelled;
        each = (first.fits, others.each);
        size = omega (arith, others.size, first.size);
        low = omega (arith, others.low, first.size, first.low);
        stops = others.stops;
      }))
      (λ stop h1. answered _ y P h1 (stopped done ts stop))

  -- the items that follow
  pub behind : (done : Tall (List A)) (ts : List Token) (y : Took (List A)) → all_behind goes item done ts ≡ Ok y
      → More written Fits height depth_left goes done ts y.0 y.1
  behind done ts y h = repeat-more (length ts) done ts y h

-- where the first word goes on and the last doesn't, there is an item
pub some_items : {A : Type 0} (written : A → List Written) (goes : TokenKind → Bool) (items : List A) (ts rest : List Token)
    → Spelled (flat_map written items) ts rest → goes (kind_at ts) ≡ true → goes (kind_at rest) ≡ false → AreSome items
some_items written goes [] ts rest spelled on stop =
    absurd (false≢true (sym stop ∙ ap (λ (us : List Token). goes (kind_at us)) (sym spelled.spells) ∙ on))
some_items written goes (x ∷ items) ts rest spelled on stop = omega arith

-- What a fault tells: the tokens before it begin the words of something that the reader reads.
use Rattle.std.proofs.Common.{length, map, ◌≡◌, ℕ, zero, suc, ◌≤◌, max, Bool, true, false, cond, List, [], ◌∷◌, ◌++◌, Ok, Err, refl, sym, ap, subst}
use Rattle.std.proofs.Common.{◌∙◌, arith, append_assoc}
use Rattle.std.specs.Prelude.{flat_map, codes}
use Rattle.std.proofs.lemmas.List.{append-nil, map-append}
use Rattle.sl_base.specs.declared.mark.Mark.{Mark}
use Rattle.sl_base.specs.declared.place.Place.{Place}
use Rattle.sl_base.specs.declared.token.Token.{Token}
use Rattle.sl_base.specs.declared.word.Word.{Word}
use Rattle.sl_base.specs.declared.word.Word.TheVariants as w
use Rattle.sl_syntax.specs.declared.token_kind.TokenKind.{TokenKind}
use Rattle.sl_syntax.specs.declared.tree.identifier.Identifier.{Identifier}
use Rattle.sl_syntax.specs.Begins.{words_in}
use Rattle.sl_syntax.specs.Blank.{nowhere}
use Rattle.sl_syntax.specs.Depth.{highest}
use Rattle.sl_syntax.specs.Placed.{Spells}
use Rattle.sl_syntax.specs.Shaped.{Each}
use Rattle.sl_syntax.specs.Tree as t
use Rattle.sl_syntax.specs.Tree.{Expr}
use Rattle.sl_syntax.specs.Written.{Written, from_place, words_of}
use Rattle.sl_syntax.proofs.WrittenLaws.{words_of-append, words_of-from_place}
use Rattle.sl_grammar.specs.declared.fault.Fault.TheVariants.{Grammar}
use Rattle.sl_grammar.specs.Means.Steps.{Outcome, Reader, Tall, and_then, kind_at, is_mark, mark, identifier_by, identifier, library_by, library}
use Rattle.sl_grammar.specs.Means.Steps.{repeat, all_behind}
use Rattle.sl_grammar.proofs.SoundSteps.{Parts, chosen}
use Rattle.sl_grammar.proofs.Spelling.{Spelled}

-- The tokens before a fault with n tokens left, and a tree whose words they begin.
pub record Viable {A : Type 0} (Fits : A → Type 0) (written : A → List Written) (ts : List Token) (n : ℕ) : Type 0 where
  -- the tokens before the fault
  pub front : List Token
  -- those from it on
  pub rest : List Token
  pub whole : ts ≡ front ++ rest
  pub left : length rest ≡ n
  pub tree : A
  -- it follows the grammar and is low enough
  pub fits : Fits tree
  pub more : List Word
  pub words : words_of (written tree) ≡ map (λ (t : Token). t.word) front ++ more

-- the tokens before a fault with n tokens left begin these words
pub record Begun (xs : List Written) (ts : List Token) (n : ℕ) : Type 0 where
  pub front : List Token
  pub rest : List Token
  pub whole : ts ≡ front ++ rest
  pub left : length rest ≡ n
  pub more : List Word
  pub words : words_of xs ≡ map (λ (t : Token). t.word) front ++ more

pub viable : {A : Type 0} {Fits : A → Type 0} {written : A → List Written} {ts : List Token} {n : ℕ} (tree : A) → Fits tree
    → Begun (written tree) ts n → Viable Fits written ts n
viable tree fits b = record {
  front = b.front;
  rest = b.rest;
  whole = b.whole;
  left = b.left;
  tree = tree;
  fits = fits;
  more = b.more;
  words = b.words;
}

pub begun : {A : Type 0} {Fits : A → Type 0} {written : A → List Written} {ts : List Token} {n : ℕ} (v : Viable Fits written ts n)
    → Begun (written v.tree) ts n
begun v = record { front = v.front; rest = v.rest; whole = v.whole; left = v.left; more = v.more; words = v.words }

-- the same, of what fits in another way
pub refitted : {A : Type 0} {Fits Also : A → Type 0} {written : A → List Written} {ts : List Token} {n : ℕ} → ((x : A) → Fits x → Also x)
    → Viable Fits written ts n → Viable Also written ts n
refitted other v = viable v.tree (other v.tree v.fits) (begun v)

-- a fault at the first token: any words are begun
pub at_once : (xs : List Written) (ts : List Token) (n : ℕ) → length ts ≡ n → Begun xs ts n
at_once xs ts n h = record { front = []; rest = ts; whole = refl; left = h; more = words_of xs; words = refl }

-- the tokens that words took
pub record Taken (xs : List Written) (ts rest : List Token) : Type 0 where
  pub front : List Token
  pub whole : ts ≡ front ++ rest
  pub words : words_of xs ≡ map (λ (t : Token). t.word) front

spells-taken : (xs : List Written) (ts rest : List Token) → Spells xs ts rest → Taken xs ts rest
spells-taken [] ts rest h = record { front = []; whole = h; words = refl }
spells-taken (x ∷ xs) [] rest h = absurd h
spells-taken (x ∷ xs) (t ∷ ts) rest h =
    let others = spells-taken xs ts rest h.1 in
    record { front = t ∷ others.front; whole = ap (λ (l : List Token). t ∷ l) others.whole; words = rw (h.0.0, others.words) refl }

pub taken : {xs : List Written} {ts rest : List Token} → Spelled xs ts rest → Taken xs ts rest
taken a = spells-taken _ _ _ a.spells

-- words, and what is begun behind them
infixr 5 ◌⨠◌
pub ◌⨠◌ : {xs ys : List Written} {ts mid : List Token} {n : ℕ} → Spelled xs ts mid → Begun ys mid n → Begun (xs ++ ys) ts n
◌⨠◌ {xs = xs} {ys = ys} a b =
    let first = taken a in
    record {
      front = first.front ++ b.front;
      rest = b.rest;
      whole = first.whole ∙ ap (λ (l : List Token). first.front ++ l) b.whole ∙ sym (append_assoc first.front b.front b.rest);
      left = b.left;
      more = b.more;
      words = rw (words_of-append xs ys, first.words, b.words, map-append (λ (t : Token). t.word) first.front b.front)
          (sym (append_assoc (words_in first.front) (words_in b.front) b.more));
    }

-- what is begun, and words behind it that are missing
pub unfinished : {xs : List Written} {ts : List Token} {n : ℕ} → Begun xs ts n → (ys : List Written) → Begun (xs ++ ys) ts n
unfinished {xs = xs} b ys = record {
  front = b.front;
  rest = b.rest;
  whole = b.whole;
  left = b.left;
  more = b.more ++ words_of ys;
  words = rw (words_of-append xs ys, b.words) (append_assoc (words_in b.front) b.more (words_of ys));
}

-- words that are there, at whose end the fault is
pub ended : {xs : List Written} {ts rest : List Token} {n : ℕ} → Spelled xs ts rest → length rest ≡ n → Begun xs ts n
ended {xs = xs} {ts = ts} {rest = rest} {n = n} a h = subst (λ (l : List Written). Begun l ts n) (append-nil xs) (a ⨠ at_once [] rest n h)

-- the same words, written in another way
pub rewritten : {xs ys : List Written} {ts : List Token} {n : ℕ} → xs ≡ ys → Begun xs ts n → Begun ys ts n
rewritten {ts = ts} {n = n} e b = subst (λ (l : List Written). Begun l ts n) e b

-- the place of the first word is none of the words
pub placed-begun : {xs : List Written} {ts : List Token} {n : ℕ} (place : Place) → Begun xs ts n → Begun (from_place place xs) ts n
placed-begun {xs = xs} place b = record {
  front = b.front;
  rest = b.rest;
  whole = b.whole;
  left = b.left;
  more = b.more;
  words = words_of-from_place place xs ∙ b.words;
}

-- Defaults, for what is missing.
abbrev pub some_name : Identifier
some_name = record { name = codes "a"; place = nowhere }

abbrev pub some_expr : Expr
some_expr = t.number nowhere 0

-- Eliminations of a step that stopped at a fault.
pub faulted : {A B : Type 0} (o : Outcome A) (f : A → Reader B) (n : ℕ) (P : Type 0) → and_then o f ≡ Err (Grammar n)
    → (o ≡ Err (Grammar n) → P) → ((p : A × List Token) → o ≡ Ok p → f p.0 p.1 ≡ Err (Grammar n) → P) → P
faulted (Ok p) f n P h first later = later p refl h
faulted (Err e) f n P h first later = first cc

pub one_fault : {A : Type 0} (m n : ℕ) → ◌≡◌ {A = Outcome A} (Err (Grammar m)) (Err (Grammar n)) → m ≡ n
one_fault m n h = cc

-- a step that may only go on under a test: the fault is at this token, or in what goes on
pub tested : {A : Type 0} (b : Bool) (o : Outcome A) (m n : ℕ) (P : Type 0) → cond b o (Err (Grammar m)) ≡ Err (Grammar n)
    → (b ≡ true → o ≡ Err (Grammar n) → P) → (b ≡ false → m ≡ n → P) → P
tested {A} true o m n P h then other = then refl h
tested {A} false o m n P h then other = other refl (one_fault {A = A} m n h)

-- what answers has no fault
pub no_fault : {A : Type 0} (y : A × List Token) (n : ℕ) (P : Type 0) → ◌≡◌ {A = Outcome A} (Ok y) (Err (Grammar n)) → P
no_fault y n P h = absurd cc

-- the fault of one word is at that word
pub mark_fault : (x : Mark) (ts : List Token) (n : ℕ) → mark x ts ≡ Err (Grammar n) → length ts ≡ n
unfolding mark
mark_fault x ts n h = tested (is_mark x (kind_at ts)) _ (length ts) n (length ts ≡ n) h (λ _ h1. no_fault _ n (length ts ≡ n) h1) (λ _ e. e)

name_fault : (x : Word) (place : Place) (ts : List Token) (n : ℕ) → identifier_by place x ts ≡ Err (Grammar n) → length ts ≡ n
name_fault (w.Name m) place ts n h = absurd cc
name_fault _ place ts n h = cc

pub identifier_fault : (ts : List Token) (n : ℕ) → identifier ts ≡ Err (Grammar n) → length ts ≡ n
unfolding identifier
identifier_fault [] n h = cc
identifier_fault (t ∷ ts) n h = name_fault t.word t.place (t ∷ ts) n h

lib_fault : (x : Word) (place : Place) (ts : List Token) (n : ℕ) → library_by place x ts ≡ Err (Grammar n) → length ts ≡ n
lib_fault (w.Lib m) place ts n h = absurd cc
lib_fault _ place ts n h = cc

pub library_fault : (ts : List Token) (n : ℕ) → library ts ≡ Err (Grammar n) → length ts ≡ n
unfolding library
library_fault [] n h = cc
library_fault (t ∷ ts) n h = lib_fault t.word t.place (t ∷ ts) n h

-- what a reader stops in, where it stops at a fault: it fits and is low enough
abbrev pub Stops : {A : Type 0} → (A → List Written) → (A → Type 0) → (A → ℕ) → ℕ → Reader (Tall A) → Type 0
Stops {A} written Fits height depth_left item =
    (ts : List Token) (n : ℕ) → item ts ≡ Err (Grammar n) → Viable (λ (x : A). Fits x × (height x ≤ depth_left)) written ts n

-- items that fit and are low enough
abbrev pub Low : {A : Type 0} → (A → Type 0) → (A → ℕ) → ℕ → List A → Type 0
Low Fits height depth_left items = Each Fits items × (highest height items ≤ depth_left)

-- where one item stops at a fault, items begin
module _ {A : Type 0} (written : A → List Written) (Fits : A → Type 0) (height : A → ℕ) (depth_left : ℕ) (goes : TokenKind → Bool)
    (item : Reader (Tall A))
    (f : Parts written Fits height depth_left item)
    (stops : (ts : List Token) (n : ℕ) → item ts ≡ Err (Grammar n) → Viable (Low Fits height depth_left) (flat_map written) ts n) where
  repeat-viable : (turns : ℕ) (done : Tall (List A)) (ts : List Token) (n : ℕ) → repeat goes item turns done ts ≡ Err (Grammar n)
      → Viable (Low Fits height depth_left) (flat_map written) ts n
  unfolding repeat
  repeat-viable zero done ts n h =
      let P : Type 0 = Viable (Low Fits height depth_left) (flat_map written) ts n in
      chosen (goes (kind_at ts)) _ _ _ P h
      (λ on h1. viable [] (tt, omega arith) (at_once [] ts n (one_fault {A = Tall (List A)} _ n h1)))
      (λ stop h1. no_fault _ n P h1)
  repeat-viable (suc m) done ts n h =
      let P : Type 0 = Viable (Low Fits height depth_left) (flat_map written) ts n in
      chosen (goes (kind_at ts)) _ _ _ P h
      (λ on h1.
      faulted (item ts) _ n P h1 (λ h2. stops ts n h2) (λ x read h2.
      let first = f ts x read in
      let others = repeat-viable m (done.0 ++ x.0.0 ∷ [], max done.1 x.0.1) x.1 n h2 in
      viable (x.0.0 ∷ others.tree) ((first.fits, others.fits.0), omega (arith, first.size, first.low, others.fits.1))
      (first.spelled ⨠ begun others)))
      (λ stop h1. no_fault _ n P h1)

  pub row-viable : (done : Tall (List A)) (ts : List Token) (n : ℕ) → all_behind goes item done ts ≡ Err (Grammar n)
      → Viable (Low Fits height depth_left) (flat_map written) ts n
  row-viable done ts n h = repeat-viable (length ts) done ts n h

module _ {A : Type 0} (written : A → List Written) (Fits : A → Type 0) (height : A → ℕ) (depth_left : ℕ) (goes : TokenKind → Bool)
    (item : Reader (Tall A))
    (f : Parts written Fits height depth_left item) (stops : Stops written Fits height depth_left item) where
  alone-viable : (ts : List Token) (n : ℕ) → item ts ≡ Err (Grammar n) → Viable (Low Fits height depth_left) (flat_map written) ts n
  alone-viable ts n h =
      let v = stops ts n h in
      viable (v.tree ∷ []) ((v.fits.0, tt), omega (arith, v.fits.1)) (unfinished (begun v) [])

  -- the fault is in the items that follow
  pub behind-viable : (done : Tall (List A)) (ts : List Token) (n : ℕ) → all_behind goes item done ts ≡ Err (Grammar n)
      → Viable (Low Fits height depth_left) (flat_map written) ts n
  behind-viable done ts n h = row-viable written Fits height depth_left goes item f alone-viable done ts n h

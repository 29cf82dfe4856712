-- What a kind tells of its word: a key, a lib or a mark that the grammar names is the kind's own word, and a name, a number and a text are what
-- they hold.
use Rattle.std.proofs.Common.{◌≡◌, ℕ, ◌<◌, nat_lt, Bool, true, false, cond, List, [], ◌∷◌, length, Option, Some, None, refl, sym, ap, subst, ◌∙◌}
use Rattle.std.proofs.Common.{arith, rules}
use Rattle.std.specs.Prelude.{codes, find, option_map, ◌&&◌}
use Rattle.std.specs.Str.{bytes_eq}
use Rattle.std.proofs.lemmas.Bool.{false≢true, ltb-true}
use Rattle.std.proofs.lemmas.Slice.Eq.{bytes_eq-Decides}
use denote.Enum.Bare.{same_true}
use Rattle.sl_base.specs.contracts.mark.Mark.{the_type}
use Rattle.sl_base.specs.declared.mark.Mark.{Mark}
use Rattle.sl_base.specs.declared.word.Word.{Word}
use Rattle.sl_base.specs.declared.word.Word.TheVariants as w
use Rattle.sl_syntax.specs.declared.token_kind.TokenKind.{TokenKind}
use Rattle.sl_syntax.specs.declared.token_kind.TokenKind.TheVariants as k
use Rattle.sl_syntax.specs.TokenKinds.{keys, libs, kind_or, kind_in, kind_of}
use Rattle.sl_syntax.specs.Shaped.{Each}
use Rattle.sl_syntax.specs.Written.{truth_word, scalar_word, form_word}
use Rattle.sl_grammar.specs.Means.Steps.{is_mark, number_in, text_in}

pub some_one : {A : Type 0} {a b : A} → Some a ≡ Some b → a ≡ b
some_one h = cc

-- both of two tests
pub both : (a b : Bool) → a && b ≡ true → (a ≡ true) × (b ≡ true)
both true b h = (refl, h)
both false b h = absurd (false≢true h)

-- the word of a kind that has just one
abbrev pub fixed : TokenKind → Option Word
fixed (k.Scalar s) = Some (scalar_word s)
fixed (k.Container f) = Some (form_word f)
fixed (k.Truth v) = Some (truth_word v)
fixed k.Void = Some (w.Key (codes "void"))
fixed k.Const = Some (w.Key (codes "const"))
fixed k.Auto = Some (w.Key (codes "auto"))
fixed k.If = Some (w.Key (codes "if"))
fixed k.Else = Some (w.Key (codes "else"))
fixed k.While = Some (w.Key (codes "while"))
fixed k.For = Some (w.Key (codes "for"))
fixed k.Break = Some (w.Key (codes "break"))
fixed k.Continue = Some (w.Key (codes "continue"))
fixed k.Return = Some (w.Key (codes "return"))
fixed k.Input = Some (w.Lib (codes "cin"))
fixed k.Output = Some (w.Lib (codes "cout"))
fixed k.EndLine = Some (w.Lib (codes "endl"))
fixed (k.Mark m) = Some (w.Mark m)
fixed _ = None

-- what a row gives: its kind where its bytes are those, and else what the others give
row_gives : (Q : List ℕ → TokenKind → Type 0) (bytes : List ℕ) (instead : TokenKind) (row : List ℕ × TokenKind) (others : Option (List ℕ × TokenKind))
    (test : Bool)
    → (test ≡ true → row.0 ≡ bytes) → Q row.0 row.1 → Q bytes (kind_or instead (option_map (λ m. m.1) others))
    → Q bytes (kind_or instead (option_map (λ m. m.1) (cond test (Some row) others)))
row_gives Q bytes instead row others true same here there = subst (λ (b : List ℕ). Q b row.1) (same refl) here
row_gives Q bytes instead row others false same here there = there

-- what holds of each row and of what stands instead holds of the kind
pub in_rows : (Q : List ℕ → TokenKind → Type 0) (bytes : List ℕ) (instead : TokenKind) → Q bytes instead → (rows : List (List ℕ × TokenKind))
    → Each (λ (row : List ℕ × TokenKind). Q row.0 row.1) rows → Q bytes (kind_in rows instead bytes)
in_rows Q bytes instead other [] each = other
in_rows Q bytes instead other (row ∷ rows) each =
    row_gives Q bytes instead row (find (λ m. bytes_eq m.0 bytes) rows) (bytes_eq row.0 bytes) (bytes_eq-Decides row.0 bytes).0 each.0
    (in_rows Q bytes instead other rows each.1)

-- a key or lib is the only word of its kind
abbrev Only : (List ℕ → Word) → List ℕ → TokenKind → Type 0
Only make bytes kind = (x : Word) → fixed kind ≡ Some x → make bytes ≡ x

none_fixed : (make : List ℕ → Word) (bytes : List ℕ) (kind : TokenKind) → fixed kind ≡ None → Only make bytes kind
none_fixed make bytes kind h x e = absurd cc

-- rows of which each is its kind's own word
only_rows : (make : List ℕ → Word) (rows : List (List ℕ × TokenKind)) → Each (λ (row : List ℕ × TokenKind). fixed row.1 ≡ Some (make row.0)) rows
    → Each (λ (row : List ℕ × TokenKind). Only make row.0 row.1) rows
only_rows make [] h = tt
only_rows make (row ∷ rows) h = (λ x e. some_one (sym h.0 ∙ e), only_rows make rows h.1)

-- the bytes of a key, and those of a lib
abbrev key_bytes : Option Word → List ℕ
key_bytes (Some (w.Key bytes)) = bytes
key_bytes _ = []

abbrev lib_bytes : Option Word → List ℕ
lib_bytes (Some (w.Lib bytes)) = bytes
lib_bytes _ = []

-- each row of a table has bytes, which are those of its kind's own word
abbrev own_bytes : (Option Word → List ℕ) → List (List ℕ × TokenKind) → Bool
own_bytes bytes_of [] = true
own_bytes bytes_of (row ∷ rows) = nat_lt 0 (length row.0) && (bytes_eq (bytes_of (fixed row.1)) row.0 && own_bytes bytes_of rows)

-- where that is so of words of one sort, each is its kind's own word
own_rows : (bytes_of : Option Word → List ℕ) (make : List ℕ → Word)
    → ((x : Option Word) → 0 < length (bytes_of x) → x ≡ Some (make (bytes_of x)))
    → (rows : List (List ℕ × TokenKind)) → own_bytes bytes_of rows ≡ true
    → Each (λ (row : List ℕ × TokenKind). fixed row.1 ≡ Some (make row.0)) rows
own_rows bytes_of make one [] h = tt
own_rows bytes_of make one (row ∷ rows) h =
    let some = both (nat_lt 0 (length row.0)) _ h in
    let same = both (bytes_eq (bytes_of (fixed row.1)) row.0) (own_bytes bytes_of rows) some.1 in
    let e : bytes_of (fixed row.1) ≡ row.0 = (bytes_eq-Decides (bytes_of (fixed row.1)) row.0).0 same.0 in
    let long : 0 < length (bytes_of (fixed row.1)) = rw e (ltb-true 0 (length row.0) some.0) in
    (one (fixed row.1) long ∙ ap (λ (b : List ℕ). Some (make b)) e, own_rows bytes_of make one rows same.1)

key_of_bytes : (x : Option Word) → 0 < length (key_bytes x) → x ≡ Some (w.Key (key_bytes x))
key_of_bytes (Some (w.Key bytes)) h = refl
key_of_bytes (Some _) h = absurd (omega (arith, h))
key_of_bytes None h = absurd (omega (arith, h))

lib_of_bytes : (x : Option Word) → 0 < length (lib_bytes x) → x ≡ Some (w.Lib (lib_bytes x))
lib_of_bytes (Some (w.Lib bytes)) h = refl
lib_of_bytes (Some _) h = absurd (omega (arith, h))
lib_of_bytes None h = absurd (omega (arith, h))

key_fixed : (bytes : List ℕ) → Only w.Key bytes (kind_in keys k.Other bytes)
key_fixed bytes = in_rows (Only w.Key) bytes k.Other (none_fixed w.Key bytes k.Other refl) keys
    (only_rows w.Key keys (own_rows key_bytes w.Key key_of_bytes keys refl))

lib_fixed : (bytes : List ℕ) → Only w.Lib bytes (kind_in libs k.Library bytes)
lib_fixed bytes = in_rows (Only w.Lib) bytes k.Library (none_fixed w.Lib bytes k.Library refl) libs
    (only_rows w.Lib libs (own_rows lib_bytes w.Lib lib_of_bytes libs refl))

-- a word of a kind that has one word is that word
pub fixed_word : (y x : Word) → fixed (kind_of y) ≡ Some x → y ≡ x
fixed_word (w.Name name) x e = absurd cc
fixed_word (w.Lib name) x e = lib_fixed name x e
fixed_word (w.Key name) x e = key_fixed name x e
fixed_word (w.Number n) x e = absurd cc
fixed_word (w.Text bytes) x e = absurd cc
fixed_word (w.Mark m) x e = cc

-- the same, by its kind
pub word_of_kind : (y : Word) (kind : TokenKind) (x : Word) → kind_of y ≡ kind → fixed kind ≡ Some x → y ≡ x
word_of_kind y kind x h e = fixed_word y x (ap fixed h ∙ e)

-- whether a table may have the kind
abbrev of_table : TokenKind → Bool
of_table k.Name = false
of_table k.Number = false
of_table k.Text = false
of_table _ = true

-- a test that all kinds of a table pass
abbrev all_pass : (TokenKind → Bool) → List (List ℕ × TokenKind) → Bool
all_pass test [] = true
all_pass test (row ∷ rows) = test row.1 && all_pass test rows

each_passes : (test : TokenKind → Bool) (rows : List (List ℕ × TokenKind)) → all_pass test rows ≡ true
    → Each (λ (row : List ℕ × TokenKind). test row.1 ≡ true) rows
each_passes test [] h = tt
each_passes test (row ∷ rows) h =
    let of = both (test row.1) (all_pass test rows) h in
    (of.0, each_passes test rows of.1)

key_passes : (test : TokenKind → Bool) (bytes : List ℕ) → test k.Other ≡ true → all_pass test keys ≡ true → test (kind_in keys k.Other bytes) ≡ true
key_passes test bytes other all = in_rows (λ _ kind. test kind ≡ true) bytes k.Other other keys (each_passes test keys all)

lib_passes : (test : TokenKind → Bool) (bytes : List ℕ) → test k.Library ≡ true → all_pass test libs ≡ true
    → test (kind_in libs k.Library bytes) ≡ true
lib_passes test bytes other all = in_rows (λ _ kind. test kind ≡ true) bytes k.Library other libs (each_passes test libs all)

-- two kinds that a test tells apart
apart : (test : TokenKind → Bool) (a b : TokenKind) → test a ≡ true → test b ≡ false → a ≡ b → ⊥
apart test a b yes_a no_b e = false≢true (sym no_b ∙ ap test (sym e) ∙ yes_a)

pub number_word : (y : Word) → kind_of y ≡ k.Number → y ≡ w.Number (number_in y)
number_word (w.Name name) h = absurd cc
number_word (w.Lib name) h = absurd (apart of_table _ _ (lib_passes of_table name refl refl) refl h)
number_word (w.Key name) h = absurd (apart of_table _ _ (key_passes of_table name refl refl) refl h)
number_word (w.Number n) h = refl
number_word (w.Text bytes) h = absurd cc
number_word (w.Mark m) h = absurd cc

pub text_word : (y : Word) → kind_of y ≡ k.Text → y ≡ w.Text (text_in y)
text_word (w.Name name) h = absurd cc
text_word (w.Lib name) h = absurd (apart of_table _ _ (lib_passes of_table name refl refl) refl h)
text_word (w.Key name) h = absurd (apart of_table _ _ (key_passes of_table name refl refl) refl h)
text_word (w.Number n) h = absurd cc
text_word (w.Text bytes) h = refl
text_word (w.Mark m) h = absurd cc

abbrev no_end : TokenKind → Bool
no_end k.End = false
no_end _ = true

-- a word is no end
pub not_end : (y : Word) → kind_of y ≡ k.End → ⊥
not_end (w.Name name) h = absurd cc
not_end (w.Lib name) h = apart no_end _ _ (lib_passes no_end name refl refl) refl h
not_end (w.Key name) h = apart no_end _ _ (key_passes no_end name refl refl) refl h
not_end (w.Number n) h = absurd cc
not_end (w.Text bytes) h = absurd cc
not_end (w.Mark m) h = absurd cc

-- a kind that is seen to be this mark
pub is_mark_kind : (x : Mark) (kind : TokenKind) → is_mark x kind ≡ true → kind ≡ k.Mark x
is_mark_kind x (k.Mark y) h = ap k.Mark (same_true the_type (search rules) y x h)
is_mark_kind x _ h = absurd (false≢true h)

-- a kind that passes a test is none of a mark that doesn't
pub not_mark : (test : TokenKind → Bool) (x : Mark) (kind : TokenKind) → test (k.Mark x) ≡ false → test kind ≡ true → is_mark x kind ≡ false
not_mark test x kind fails passes = by_test (is_mark x kind) refl where
  by_test : (b : Bool) → is_mark x kind ≡ b → is_mark x kind ≡ false
  by_test true e = absurd (apart test kind (k.Mark x) passes fails (is_mark_kind x kind e))
  by_test false e = e

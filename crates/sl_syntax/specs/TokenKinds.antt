-- What a word is to the grammar: two tables, of its keys and of the libs that it names. Any other lib is a function of the library, any other
-- key stands nowhere.
use Rattle.std.specs.Prelude.{ℕ, true, false, List, [], ◌∷◌, Option, Some, None, option_map, find, codes}
use Rattle.std.specs.Str.{bytes_eq}
use Rattle.sl_base.specs.declared.form.Form.TheVariants as form
use Rattle.sl_base.specs.declared.scalar.Scalar.TheVariants as scalar
use Rattle.sl_base.specs.declared.word.Word.{Word}
use Rattle.sl_base.specs.declared.word.Word.TheVariants as w
use Rattle.sl_syntax.specs.declared.token_kind.TokenKind.{TokenKind}
use Rattle.sl_syntax.specs.declared.token_kind.TokenKind.TheVariants as kind

abbrev pub keys : List (List ℕ × TokenKind)
keys =
    (codes "int", kind.Scalar scalar.Int) ∷ (codes "bool", kind.Scalar scalar.Bool) ∷ (codes "true", kind.Truth true)
    ∷ (codes "false", kind.Truth false)
    ∷ (codes "void", kind.Void) ∷ (codes "const", kind.Const) ∷ (codes "auto", kind.Auto) ∷ (codes "if", kind.If) ∷ (codes "else", kind.Else)
    ∷ (codes "while", kind.While) ∷ (codes "for", kind.For) ∷ (codes "break", kind.Break) ∷ (codes "continue", kind.Continue)
    ∷ (codes "return", kind.Return) ∷ []

abbrev pub libs : List (List ℕ × TokenKind)
libs =
    (codes "size_t", kind.Scalar scalar.Size) ∷ (codes "ptrdiff_t", kind.Scalar scalar.Diff) ∷ (codes "vector", kind.Container form.Vector)
    ∷ (codes "deque", kind.Container form.Deque)
    ∷ (codes "list", kind.Container form.List) ∷ (codes "set", kind.Container form.Set) ∷ (codes "map", kind.Container form.Map)
    ∷ (codes "unordered_set", kind.Container form.HashSet)
    ∷ (codes "unordered_map", kind.Container form.HashMap) ∷ (codes "multiset", kind.Container form.MultiSet)
    ∷ (codes "multimap", kind.Container form.MultiMap) ∷ (codes "cin", kind.Input) ∷ (codes "cout", kind.Output) ∷ (codes "endl", kind.EndLine)
    ∷ []

abbrev pub kind_or : TokenKind → Option TokenKind → TokenKind
kind_or instead None = instead
kind_or instead (Some found) = found

-- the kind in the first row with these bytes, and where there is none another
abbrev pub kind_in : List (List ℕ × TokenKind) → TokenKind → List ℕ → TokenKind
kind_in rows instead bytes = kind_or instead (option_map (λ m. m.1) (find (λ m. bytes_eq m.0 bytes) rows))

abbrev pub kind_of : Word → TokenKind
kind_of (w.Name name) = kind.Name
kind_of (w.Lib name) = kind_in libs kind.Library name
kind_of (w.Key name) = kind_in keys kind.Other name
kind_of (w.Number n) = kind.Number
kind_of (w.Text bytes) = kind.Text
kind_of (w.Mark m) = kind.Mark m

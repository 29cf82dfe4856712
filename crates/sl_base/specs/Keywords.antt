-- The names that are no names of a program: the keywords, ISO/IEC 14882:2017, [lex.key], the alternative tokens, [lex.digraph], and `std`.
use Rattle.std.specs.Prelude.{ℕ, Bool, List, [], ◌∷◌, codes}
use Rattle.std.specs.List.{list_any}
use Rattle.std.specs.Str.{bytes_eq}

abbrev pub keywords : List (List ℕ)
keywords =
    codes "alignas" ∷ codes "alignof" ∷ codes "and" ∷ codes "and_eq" ∷ codes "asm" ∷ codes "auto" ∷ codes "bitand" ∷
    codes "bitor" ∷ codes "bool" ∷ codes "break" ∷ codes "case" ∷ codes "catch" ∷ codes "char" ∷ codes "char16_t" ∷
    codes "char32_t" ∷ codes "class" ∷ codes "compl" ∷ codes "const" ∷ codes "constexpr" ∷ codes "const_cast" ∷
    codes "continue" ∷ codes "decltype" ∷ codes "default" ∷ codes "delete" ∷ codes "do" ∷ codes "double" ∷
    codes "dynamic_cast" ∷ codes "else" ∷ codes "enum" ∷ codes "explicit" ∷ codes "export" ∷ codes "extern" ∷
    codes "false" ∷ codes "float" ∷ codes "for" ∷ codes "friend" ∷ codes "goto" ∷ codes "if" ∷ codes "inline" ∷
    codes "int" ∷ codes "long" ∷ codes "mutable" ∷ codes "namespace" ∷ codes "new" ∷ codes "noexcept" ∷ codes "not" ∷
    codes "not_eq" ∷ codes "nullptr" ∷ codes "operator" ∷ codes "or" ∷ codes "or_eq" ∷ codes "private" ∷
    codes "protected" ∷ codes "public" ∷ codes "register" ∷ codes "reinterpret_cast" ∷ codes "return" ∷
    codes "short" ∷ codes "signed" ∷ codes "sizeof" ∷ codes "static" ∷ codes "static_assert" ∷ codes "static_cast" ∷
    codes "struct" ∷ codes "switch" ∷ codes "template" ∷ codes "this" ∷ codes "thread_local" ∷ codes "throw" ∷
    codes "true" ∷ codes "try" ∷ codes "typedef" ∷ codes "typeid" ∷ codes "typename" ∷ codes "union" ∷
    codes "unsigned" ∷ codes "using" ∷ codes "virtual" ∷ codes "void" ∷ codes "volatile" ∷ codes "wchar_t" ∷
    codes "while" ∷ codes "xor" ∷ codes "xor_eq" ∷ codes "std" ∷ []

abbrev pub is_keyword : List ℕ → Bool
is_keyword name = list_any (λ k. bytes_eq k name) keywords

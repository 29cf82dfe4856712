-- Classes of bytes, ISO/IEC 14882:2017, [lex.charset] and [lex.name].
use Rattle.std.specs.Prelude.{ℕ, nat_eq, ◌==◌, ◌&&◌, ◌||◌, Bool, false, nat_le, List, [], ◌∷◌, fold}
use Rattle.std.specs.List.{starts_with}
use Rattle.sl_base.specs.Places.{is_line_feed}

-- space and tab
abbrev pub is_space : ℕ → Bool
is_space b = (b == 32) || (b == 9)

-- space, tab, carriage return, line feed
abbrev pub is_blank : ℕ → Bool
is_blank b = is_space b || (b == 13) || is_line_feed b

abbrev pub is_digit : ℕ → Bool
is_digit b = nat_le 48 b && nat_le b 57

-- a letter or `_`
abbrev pub is_letter : ℕ → Bool
is_letter b = (nat_le 97 b && nat_le b 122) || (nat_le 65 b && nat_le b 90) || (b == 95)

-- what a name goes on with
abbrev pub is_name_byte : ℕ → Bool
is_name_byte b = is_letter b || is_digit b

-- what may not stand directly behind a number: a byte of a name, `.` or `'`
abbrev pub spoils_number : ℕ → Bool
spoils_number b = is_name_byte b || (b == 46) || (b == 39)

-- there is a first byte, and it is of this class
abbrev pub begins : (ℕ → Bool) → List ℕ → Bool
begins class [] = false
begins class (b ∷ bs) = class b

-- these bytes begin with those
abbrev pub begins_with : List ℕ → List ℕ → Bool
begins_with front bytes = starts_with nat_eq bytes front

-- a line's end begins these bytes: a line feed, or a carriage return and a line feed
abbrev pub begins_line_end : List ℕ → Bool
begins_line_end [] = false
begins_line_end (b ∷ bs) = is_line_feed b || ((b == 13) && begins is_line_feed bs)

-- a backslash directly before a line's end begins these bytes
abbrev pub begins_joint : List ℕ → Bool
begins_joint [] = false
begins_joint (b ∷ bs) = (b == 92) && begins_line_end bs

-- whether nothing but blanks stands behind the last line feed; `blank` says so of the line on which these bytes begin
abbrev pub blank_line_after : Bool → List ℕ → Bool
blank_line_after blank bytes = fold (λ so_far b. is_line_feed b || (so_far && is_blank b)) blank bytes

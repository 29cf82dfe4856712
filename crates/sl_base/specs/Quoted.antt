-- Texts in quotes, ISO/IEC 14882:2017, [lex.string] and [lex.ccon]: where one ends, and which bytes it writes.
use Rattle.std.specs.Prelude.{ℕ, ◌+◌, ◌==◌, ◌&&◌, ◌||◌, Bool, true, false, not, is_some, List, [], ◌∷◌, ◌++◌, drop, take, length, ◌-◌, Option, Some}
use Rattle.std.specs.Prelude.{None, option_map, Result, Ok, Err, if◌then◌else◌}
use Rattle.sl_base.specs.Places.{is_line_feed}

-- the byte that an escape writes, by the byte behind its backslash: `\n`, `\t`, `\\`, `\"` and `\'`
abbrev pub escape_of : ℕ → Option ℕ
escape_of b =
    if b == 110 then Some 10
    else if b == 116 then Some 9
    else if (b == 92) || (b == 34) || (b == 39) then Some b
    else None

-- How many bytes there are up to and with the first `"` that no backslash escapes; none where a line feed or the end comes before.
-- `escaped` says whether such a backslash stands directly before these bytes.
abbrev pub text_end : Bool → List ℕ → Option ℕ
text_end escaped [] = None
text_end escaped (b ∷ bs) =
    if is_line_feed b then None
    else if not escaped && (b == 34) then Some 1
    else option_map (λ n. n + 1) (text_end (not escaped && (b == 92)) bs)

-- a byte more in front of what bytes write, or of a wrong escape; `written` is what that byte adds
abbrev pub with_byte : List ℕ → Result (List ℕ) ℕ → Result (List ℕ) ℕ
with_byte written (Ok bytes) = Ok (written ++ bytes)
with_byte written (Err n) = Err (n + 1)

-- an escape, by the byte that it writes, in front of what bytes write
abbrev pub with_escape : Option ℕ → Result (List ℕ) ℕ → Result (List ℕ) ℕ
with_escape None behind = Err 0
with_escape (Some b) behind = with_byte (b ∷ []) behind

-- The bytes that the bytes between the quotes write, or how many there are up to and with the backslash of the first wrong escape.
-- `escaped` as above.
abbrev pub unescaped : Bool → List ℕ → Result (List ℕ) ℕ
unescaped escaped [] = Ok []
unescaped false (b ∷ bs) = if b == 92 then with_byte [] (unescaped true bs) else with_byte (b ∷ []) (unescaped false bs)
unescaped true (b ∷ bs) = with_escape (escape_of b) (unescaped false bs)

-- the bytes between the quotes
abbrev pub between : List ℕ → List ℕ
between bytes = take (length bytes - 2) (drop 1 bytes)

abbrev pub written_bytes : Result (List ℕ) ℕ → List ℕ
written_bytes (Ok bytes) = bytes
written_bytes (Err n) = []

-- `'`, one byte other than `'`, a backslash and a line feed, or one escape, and `'`
abbrev pub is_character : List ℕ → Bool
is_character (q ∷ b ∷ r ∷ []) = (q == 39) && not ((b == 39) || (b == 92) || is_line_feed b) && (r == 39)
is_character (q ∷ s ∷ b ∷ r ∷ []) = (q == 39) && (s == 92) && is_some (escape_of b) && (r == 39)
is_character _ = false

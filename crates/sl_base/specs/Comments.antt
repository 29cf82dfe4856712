-- Comments, ISO/IEC 14882:2017, [lex.comment].
use Rattle.std.specs.Prelude.{ℕ, ◌+◌, ◌==◌, ◌&&◌, Bool, false, not, List, [], ◌∷◌, length, drop, codes, Option, Some, None, option_map, if◌then◌else◌}
use Rattle.std.specs.List.{list_all}
use Rattle.sl_base.specs.Bytes.{begins, begins_with}
use Rattle.sl_base.specs.Places.{is_line_feed}

-- what is counted is all of these bytes
abbrev pub counts_all : Option ℕ → List ℕ → Bool
counts_all None bytes = false
counts_all (Some n) bytes = n == length bytes

-- `//` and bytes other than line feeds: the longest such piece goes up to the line feed or the text's end
abbrev pub is_line_comment : List ℕ → Bool
is_line_comment bytes = begins_with (codes "//") bytes && list_all (λ b. not (is_line_feed b)) bytes

-- how many bytes there are up to and with the first `*/`, if there is one
abbrev pub comment_end : List ℕ → Option ℕ
comment_end [] = None
comment_end (b ∷ bs) = if (b == 42) && begins (λ c. c == 47) bs then Some 2 else option_map (λ n. n + 1) (comment_end bs)

-- `/*` and what goes up to the first `*/` behind it
abbrev pub is_block_comment : List ℕ → Bool
is_block_comment bytes = begins_with (codes "/*") bytes && counts_all (comment_end (drop 2 bytes)) (drop 2 bytes)

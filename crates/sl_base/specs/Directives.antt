-- Directives, ISO/IEC 14882:2017, [cpp.include]: their form, and what may stand before and behind one on its line.
use Rattle.std.specs.Prelude.{◌≡◌, ℕ, ◌&&◌, ◌||◌, ◌==◌, Bool, true, not, IsTrue, List, ◌++◌, length, drop, codes}
use Rattle.std.specs.List.{list_all, prefix_len}
use Rattle.sl_base.specs.Bytes.{is_space, begins_with, begins_line_end, blank_line_after}
use Rattle.sl_base.specs.Headers.{is_header}

-- `#`, `include`, `<`, the name of a header and `>`; spaces and tabs may stand behind `#` and behind `include`
pub record IsDirective (bytes : List ℕ) : Type 0 where
  pub gap : List ℕ
  pub more : List ℕ
  pub header : List ℕ
  pub gap_spaces : IsTrue (list_all is_space gap)
  pub more_spaces : IsTrue (list_all is_space more)
  pub known : IsTrue (is_header header)
  pub written : bytes ≡ codes "#" ++ (gap ++ (codes "include" ++ (more ++ (codes "<" ++ (header ++ codes ">")))))

-- What stands before a directive, `before`, has no token, and of its line nothing but blanks.
-- `seen` says whether a token stands in it.
abbrev pub opens_directive : Bool → List ℕ → Bool
opens_directive seen before = not seen && blank_line_after true before

-- `//`, the line's end or the text's end
abbrev pub ends_line : List ℕ → Bool
ends_line rest = (length rest == 0) || begins_line_end rest || begins_with (codes "//") rest

-- what stands behind a directive: spaces and tabs, and then such an end
abbrev pub closes_directive : List ℕ → Bool
closes_directive behind = ends_line (drop (prefix_len is_space behind) behind)

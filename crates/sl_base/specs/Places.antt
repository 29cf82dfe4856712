-- Lines and columns of a text, from 1. Only a line feed ends a line; a column is a byte.
use Rattle.std.specs.Prelude.{◌≡◌, ◌<◌, ◌⊎◌, ℕ, ◌+◌, ◌==◌, Bool, not, List, take, reverse, count_by}
use Rattle.std.specs.List.{prefix_len}
use Rattle.sl_base.specs.declared.place.Place.{Place}

abbrev pub is_line_feed : ℕ → Bool
is_line_feed b = b == 10

-- one more than the line feeds so far
abbrev pub line_after : List ℕ → ℕ
line_after front = count_by is_line_feed front + 1

-- one more than the bytes since the last line feed
abbrev pub col_after : List ℕ → ℕ
col_after front = prefix_len (λ b. not (is_line_feed b)) (reverse front) + 1

-- the place directly behind these bytes, which begin a text
pub record IsAfter (front : List ℕ) (place : Place) : Type 0 where
  pub line : place.line ≡ line_after front
  pub col : place.col ≡ col_after front

-- the place of an offset
abbrev pub place_at : List ℕ → ℕ → Place
place_at text offset = record { line = line_after (take offset text); col = col_after (take offset text) }

-- a place comes before another in a text
abbrev pub IsPlaceBefore : Place → Place → Type 0
IsPlaceBefore p q = (p.line < q.line) ⊎ ((p.line ≡ q.line) × (p.col < q.col))

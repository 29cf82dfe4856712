-- Where the elements of a changed container come from: a place of its own, or one of another container.
--
-- Restates ISO/IEC 14882:2017, [container.requirements.general] (`swap` and `splice` let elements go over to another container).
-- Chosen here: an element whose key is written over is still the element of its place.
use Rattle.std.specs.Prelude.{◌≡◌, ◌⊎◌, ℕ, ℤ, Some, slice_get}
use Rattle.sl_model.specs.Memory.Edits.{Change, old, written, theirs}

-- the element at place h after the change stood at place k before it, maybe with another key
abbrev pub ComesFrom : Change → ℕ → ℕ → Type 0
ComesFrom ch h k = (slice_get ch.sources h ≡ Some (old k)) ⊎ ((x : ℤ) × (slice_get ch.sources h ≡ Some (written k x)))

-- the element at place h after the change stood at place k of the other container
abbrev pub ComesOver : Change → ℕ → ℕ → Type 0
ComesOver ch h k = slice_get ch.sources h ≡ Some (theirs k)

-- no element comes from another container
abbrev pub TakesNoneOver : Change → Type 0
TakesNoneOver ch = (h k : ℕ) → ComesOver ch h k → ⊥

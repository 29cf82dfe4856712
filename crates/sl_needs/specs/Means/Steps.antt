-- How iterators can't be moved, by where they stand and the size and form of their container.
use Rattle.std.specs.Prelude.{ℕ, ℤ, ◌==◌, ◌||◌, List, [], ◌∷◌, Option, Some, None, is_none}
use Rattle.sl_base.specs.declared.failures.TheConstants.{INVALID_ITERATOR, OUT_OF_RANGE, END_ITERATOR}
use Rattle.sl_base.specs.declared.form.Form.{Form}
use Rattle.sl_model.specs.Memory.Forms.{step_of, is_moved_back}
use Rattle.sl_model.specs.LibraryCalls.Needs.{fails_if}

-- by an operator
abbrev pub step_fails_at : Option (ℕ × ℕ) → ℕ → ℤ → List (ℕ × ℕ)
step_fails_at None size n = (INVALID_ITERATOR, 1) ∷ []
step_fails_at (Some p) size n = fails_if (is_none (step_of size p.1 n)) OUT_OF_RANGE 1

-- by a call
abbrev pub movable_fails_at : Option (ℕ × ℕ) → ℕ → Form → ℤ → List (ℕ × ℕ)
movable_fails_at None size form n = (INVALID_ITERATOR, 1) ∷ []
movable_fails_at (Some p) size form n = fails_if (is_none (step_of size p.1 n) || is_moved_back form n) OUT_OF_RANGE 1

-- one that has to stand on an element
abbrev pub dereference_at : Option (ℕ × ℕ) → ℕ → ℕ → List (ℕ × ℕ)
dereference_at None size a = (INVALID_ITERATOR, a) ∷ []
dereference_at (Some p) size a = fails_if (p.1 == size) END_ITERATOR a

-- What the forms of containers are to a run: which may hold equal keys, and how far their iterators go.
--
-- Restates ISO/IEC 14882:2017, [associative.reqmts], [unord.req] and [iterator.requirements] (which iterators go back).
-- Chosen here: hash forms have forward iterators.
use Rattle.std.specs.Prelude.{ℕ, ◌+◌, ◌-◌, ◌&&◌, nat_lt, nat_le, Bool, true, false, ℤ, pos, negsuc, Option, Some, None, if◌then◌else◌}
use Rattle.sl_base.specs.declared.form.Form.{Form}
use Rattle.sl_base.specs.declared.form.Form.TheVariants as f
use Rattle.sl_specs.specs.Forms.{is_hash}

-- it may hold equal keys
abbrev pub holds_equal_keys : Form → Bool
holds_equal_keys f.MultiSet = true
holds_equal_keys f.MultiMap = true
holds_equal_keys form = false

-- the place that lies so far from place k, from the beginning to the end of a container of this size
abbrev pub step_of : ℕ → ℕ → ℤ → Option ℕ
step_of size k (pos n) = if nat_le (k + n) size then Some (k + n) else None
step_of size k (negsuc n) = if nat_lt n k then Some ((k - n) - 1) else None

-- a number is below zero
abbrev pub is_negative : ℤ → Bool
is_negative (pos n) = false
is_negative (negsuc n) = true

-- a forward iterator would go back
abbrev pub is_moved_back : Form → ℤ → Bool
is_moved_back form n = is_hash form && is_negative n

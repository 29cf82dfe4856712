use Rattle.std.proofs.Common.{◌≡◌, ◌<◌, ℕ, string_bytes, get_or}
use Rattle.sl_base.specs.Memory.{MemFile}
use Rattle.sl_base.proofs.outside.mem_files.place_of_name.Given as goal

abbrev pub invariant-loop-i : goal.invariant-loop-i
invariant-loop-i l = (k : ℕ) (d : MemFile) → k < l.i → string_bytes (get_or l.files k d).0 ≡ l.name → ⊥

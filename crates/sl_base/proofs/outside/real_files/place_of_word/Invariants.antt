use Rattle.std.proofs.Common.{◌≡◌, ◌<◌, ℕ, string_bytes, String, get_or}
use Rattle.std.specs.declared.alloc.Global.{Global}
use Rattle.sl_base.proofs.outside.real_files.place_of_word.Given as goal

abbrev pub invariant-loop-i : goal.invariant-loop-i
invariant-loop-i l = (k : ℕ) (d : String Global) → k < l.i → string_bytes (get_or l.words k d) ≡ l.name → ⊥

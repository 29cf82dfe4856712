-- The entry at a place is the row with that number.
use Rattle.std.proofs.Common.{◌≡◌, ◌+◌, ◌<◌, ◌≤◌, ℕ, zero, suc, List, [], ◌∷◌, length, get_or, Some, None, refl, arith}
use Rattle.std.specs.Prelude.{slice_get}
use Rattle.sl_specs.specs.declared.entry.Entry.{Entry}
use Rattle.sl_specs.specs.Entries.{entry_lib_row, entries_from}

pub entries_from-there : (n k m : ℕ) (es : List Entry) (e : Entry) → m ≡ n + k → k < length es → e ≡ get_or es k e
    → slice_get (entries_from n es) k ≡ Some (entry_lib_row m e)
entries_from-there n k m [] e sum lt is = absurd (omega arith)
entries_from-there n zero m (x ∷ xs) e sum lt is = let same : n ≡ m = omega arith in rw (same, ← is) refl
entries_from-there n (suc k) m (x ∷ xs) e sum lt is = entries_from-there (n + 1) k m xs e (omega arith) (omega arith) is

pub entries_from-past : (n k : ℕ) (es : List Entry) → length es ≤ k → slice_get (entries_from n es) k ≡ None
entries_from-past n k [] le = refl
entries_from-past n zero (x ∷ xs) le = absurd (omega arith)
entries_from-past n (suc k) (x ∷ xs) le = entries_from-past (n + 1) k xs (omega arith)

-- Counts that stay at the last value of 64 bits.
use Rattle.std.specs.Prelude.{ℕ, ◌+◌, ◌-◌, ◌^◌, min, if◌then◌else◌, Result, is_ok}

-- one more, or the last value
abbrev pub one_more : ℕ → ℕ
one_more n = min (n + 1) (2 ^ 64 - 1)

-- the count of faults after a call
abbrev pub faults_after : {T E : Type 0} → Result T E → ℕ → ℕ
faults_after result n = if is_ok result then n else one_more n

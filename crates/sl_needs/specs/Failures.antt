-- Failures of needs in the words of the model.
use Rattle.std.specs.Prelude.{ℕ, Option, option_map}
use Rattle.sl_needs.specs.declared.failure.Failure.{Failure}

-- a failure by its numbers
abbrev pub pair_of : Failure → ℕ × ℕ
pair_of f = (f.kind, f.argument)

-- one that there may be
abbrev pub told : Option Failure → Option (ℕ × ℕ)
told f = option_map pair_of f

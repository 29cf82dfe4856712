-- Which sites a set has.
use Rattle.std.specs.Prelude.{ℕ, ◌/◌, ◌%◌, ◌==◌, ◌&&◌, nat_lt, Bool, slice_index}
use Rattle.std.specs.Int.{bit_at}
use Rattle.sl_base.specs.declared.limits.TheConstants.{SITES}
use Rattle.sl_kind.specs.declared.kills.Kills.{Kills}

-- the bit of a number: each word has 64 of them
unfoldable pub has_bit : Kills → ℕ → Bool
has_bit k s = bit_at (slice_index k.words (s / 64)) (s % 64) == 1

-- whether this is the number of a site in the set
unfoldable pub has : Kills → ℕ → Bool
has k s = nat_lt s SITES && has_bit k s

-- Numbers of sites as far as they count.
--
-- Chosen here: how far a number passes the number of sites that a text may have changes nothing.
use Rattle.std.specs.Prelude.{ℕ, ◌+◌, min}
use Rattle.sl_base.specs.declared.limits.TheConstants.{SITES}

-- a number, or the least that is too many
unfoldable pub capped : ℕ → ℕ
capped n = min n (SITES + 1)

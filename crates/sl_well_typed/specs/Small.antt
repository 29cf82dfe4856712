-- Which literals a text can have: no token is a greater number.
use Rattle.std.specs.Prelude.{Bool, ℤ, pos, int_le}
use Rattle.std.specs.List.{list_all}
use Rattle.sl_base.specs.declared.limits.TheConstants.{LARGEST_NUMBER}
use Rattle.sl_syntax.specs.Tree.{Program}
use Rattle.sl_typing.specs.Literals.{literals_of_program}

-- a number that a token may be
abbrev pub is_small : ℤ → Bool
is_small z = int_le z (pos LARGEST_NUMBER)

-- each literal of a program is one
abbrev pub has_small_literals : Program → Bool
has_small_literals p = list_all is_small (literals_of_program p)

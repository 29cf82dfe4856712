-- Letters of rows.
use Rattle.std.specs.Prelude.{ℕ, Bool, true, false, if◌then◌else◌}
use Rattle.sl_specs.specs.declared.letter.Letter.{Letter}
use Rattle.sl_specs.specs.declared.letter.Letter.TheVariants.{IntRange, SecondIntRange, WrittenRange, RandomAccessRange, AnyRange}

-- a letter stands for a range
abbrev pub takes_range : Letter → Bool
takes_range IntRange = true
takes_range SecondIntRange = true
takes_range WrittenRange = true
takes_range RandomAccessRange = true
takes_range AnyRange = true
takes_range x = false

-- how many arguments a letter stands for, for the places at which ranges begin
abbrev pub arguments_of : Letter → ℕ
arguments_of x = if takes_range x then 2 else 1

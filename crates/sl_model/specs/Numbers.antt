-- Numbers of the types int, bool, std::size_t and std::ptrdiff_t: which ones a type has, conversions, operators and their faults.
--
-- Restates ISO/IEC 14882:2017, [basic.fundamental], [conv.integral], [conv.bool], [expr.mul], [expr.add], [expr.rel],
-- [expr.eq], and [expr] for what a type doesn't hold.
-- Chosen here: an int has 32 bits and the two others have 64, in two's complement; a conversion to a signed type that
-- doesn't hold the number takes it modulo. The faults are those of Ends: 1 is an overflow, 2 a zero divisor.
use Rattle.std.specs.Prelude.{ℕ, ◌+◌, ◌-◌, ◌%◌, ◌==◌, Bool, false, not, ◌&&◌, ℤ, pos, negsuc, ◌+ℤ◌, ◌-ℤ◌, ◌*ℤ◌, int_lt, int_le, int_div, int_rem}
use Rattle.std.specs.Prelude.{if◌then◌else◌}
use Rattle.sl_base.specs.declared.scalar.Scalar.{Scalar}
use Rattle.sl_base.specs.declared.scalar.Scalar.TheVariants as t
use Rattle.sl_syntax.specs.declared.operator.Arithmetic.{Arithmetic}
use Rattle.sl_syntax.specs.declared.operator.Arithmetic.TheVariants as o
use Rattle.sl_syntax.specs.declared.operator.Comparison.{Comparison}
use Rattle.sl_syntax.specs.declared.operator.Comparison.TheVariants as c

-- the least number of a type
abbrev pub lowest : Scalar → ℤ
lowest t.Int = negsuc 2147483647
lowest t.Bool = pos 0
lowest t.Size = pos 0
lowest t.Diff = negsuc 9223372036854775807

-- the greatest number of a type
abbrev pub highest : Scalar → ℤ
highest t.Int = pos 2147483647
highest t.Bool = pos 1
highest t.Size = pos 18446744073709551615
highest t.Diff = pos 9223372036854775807

-- z is a number of the type
abbrev pub fits : Scalar → ℤ → Bool
fits ty z = int_le (lowest ty) z && int_le z (highest ty)

-- z modulo n, from 0 to n - 1
abbrev pub modulo : ℤ → ℕ → ℕ
modulo (pos a) n = a % n
modulo (negsuc a) n = n - 1 - a % n

-- the number from -h to h - 1 that differs from z by a multiple of h + h
abbrev pub centred : ℕ → ℤ → ℤ
centred h z = pos (modulo (z +ℤ pos h) (h + h)) -ℤ pos h

-- a number is zero
abbrev pub is_zero : ℤ → Bool
is_zero (pos n) = n == 0
is_zero (negsuc n) = false

-- a test's answer as a number
abbrev pub truth : Bool → ℤ
truth b = if b then pos 1 else pos 0

-- z converted to a type
abbrev pub converted : Scalar → ℤ → ℤ
converted t.Int z = centred 2147483648 z
converted t.Bool z = truth (not (is_zero z))
converted t.Size z = pos (modulo z 18446744073709551616)
converted t.Diff z = centred 9223372036854775808 z

-- what an operator gives: a number, or a language fault by its number
pub data Answer : Type 0 where
  value : ℤ → Answer
  fault : ℕ → Answer

-- a result in its type: an unsigned one is taken modulo, a signed one overflows
abbrev pub settled : Scalar → ℤ → Answer
settled t.Size z = value (converted t.Size z)
settled ty z = if fits ty z then value z else fault 1

-- a quotient or remainder, where the divisor isn't zero and the quotient fits
abbrev pub divided : Scalar → ℤ → ℤ → ℤ → Answer
divided ty a b z = if is_zero b then fault 2 else if fits ty (int_div a b) then value z else fault 1

-- an operator on two numbers of one type; division truncates toward zero
abbrev pub operated : Arithmetic → Scalar → ℤ → ℤ → Answer
operated o.Add ty a b = settled ty (a +ℤ b)
operated o.Subtract ty a b = settled ty (a -ℤ b)
operated o.Multiply ty a b = settled ty (a *ℤ b)
operated o.Divide ty a b = divided ty a b (int_div a b)
operated o.Remainder ty a b = divided ty a b (int_rem a b)

-- a comparison of two numbers of one type
abbrev pub compared : Comparison → ℤ → ℤ → Bool
compared c.Equal a b = int_le a b && int_le b a
compared c.NotEqual a b = not (int_le a b && int_le b a)
compared c.Less a b = int_lt a b
compared c.LessEqual a b = int_le a b
compared c.Greater a b = int_lt b a
compared c.GreaterEqual a b = int_le b a

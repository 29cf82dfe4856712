-- The fact rules of scalars and of tests: `set_literal`, `copy_variable`, `increment`, `take_size`; `test_literal`,
-- `test_below_size`, `test_not_size`, `test_empty`, `test_not_end` and `test_not_begin`.
--
-- Restates ISO/IEC 14882:2017, [expr.pre.incr], [expr.rel], [expr.eq] and [basic.fundamental] (an unsigned number starts again at 0
-- behind the greatest, a signed one that passes its type's end ends the run).
-- Chosen here: the facts that they carry; a rule of a test names the fact of its true side.
use Rattle.std.specs.Prelude.{ℕ, ◌==◌, nat_lt, Bool, true, ◌&&◌, ◌||◌, List, ℤ, pos, ◌+ℤ◌, ◌-ℤ◌, int_le}
use Rattle.sl_base.specs.declared.scalar.Scalar.{Scalar}
use Rattle.sl_base.specs.declared.scalar.Scalar.TheVariants as t
use Rattle.sl_syntax.specs.declared.operator.Comparison.{Comparison}
use Rattle.sl_syntax.specs.declared.operator.Comparison.TheVariants as c
use Rattle.sl_model.specs.Numbers.{highest, is_zero}
use Rattle.sl_model.specs.Outlines.Facts.{Facts, inside, before, behind, size_at_least, lower_bound, upper_bound, up_to_size, below_size, given_too}
use Rattle.sl_model.specs.Outlines.Facts.{some_below, scaled, no_container, no_number, at_least_constant, at_most_constant, smaller}

-- `set_literal`, `x = k`: both bounds, and at most the size of each of the n containers in scope if k is 0
abbrev pub set_literal : ℕ → ℤ → ℕ → Facts → Facts
set_literal n k x F = scaled x (λ a. int_le a k) (λ b. int_le k b) (λ d. is_zero k && nat_lt d n) no_container F

-- `take_size`, `x = c.size()`: at most size(c)
abbrev pub take_size : ℕ → ℕ → Facts → Facts
take_size c x F = scaled x no_number no_number (λ d. d == c) no_container F

-- x is surely below the greatest number of its type: it is less than a size, or has such a bound
abbrev pub is_below_end : ℕ → Scalar → ℕ → Facts → Bool
is_below_end n ty x F = F (upper_bound x (highest ty -ℤ pos 1)) || some_below n (λ d. F (below_size x d))

-- x doesn't start again at 0: a std::size_t might
abbrev pub surely_rises : ℕ → Scalar → ℕ → Facts → Bool
surely_rises n t.Size x F = is_below_end n t.Size x F
surely_rises n ty x F = true

-- `increment`, `++x` with n containers in scope: bounds rise by 1, an upper one where it is below the end of the type; less than a size
-- becomes at most it
abbrev pub increment : List ℤ → ℕ → Scalar → ℕ → Facts → Facts
increment constants n ty x F = scaled x
    (λ a. surely_rises n ty x F && at_least_constant constants a (λ m. F (lower_bound x (m -ℤ pos 1))))
    (λ b. surely_rises n ty x F && at_most_constant constants b (λ m. F (upper_bound x (smaller (m -ℤ pos 1) (highest ty -ℤ pos 1)))))
    (λ d. F (below_size x d)) no_container F

-- x is at most k
abbrev pub at_most : ℕ → ℤ → Facts → Facts
at_most x k F = given_too true (upper_bound x k) F

-- x is at least k
abbrev pub at_least : ℕ → ℤ → Facts → Facts
at_least x k F = given_too true (lower_bound x k) F

-- `test_literal`, a test of x with k: what it gives where it is true
abbrev pub test_literal : Comparison → ℕ → ℤ → Facts → Facts
test_literal c.Equal x k F = at_most x k (at_least x k F)
test_literal c.NotEqual x k F = F
test_literal c.Less x k F = at_most x (k -ℤ pos 1) F
test_literal c.LessEqual x k F = at_most x k F
test_literal c.Greater x k F = at_least x (k +ℤ pos 1) F
test_literal c.GreaterEqual x k F = at_least x k F

-- the comparison that is true where another is false
abbrev pub opposite : Comparison → Comparison
opposite c.Equal = c.NotEqual
opposite c.NotEqual = c.Equal
opposite c.Less = c.GreaterEqual
opposite c.LessEqual = c.Greater
opposite c.Greater = c.LessEqual
opposite c.GreaterEqual = c.Less

-- the comparison with its sides changed
abbrev pub turned : Comparison → Comparison
turned c.Less = c.Greater
turned c.LessEqual = c.GreaterEqual
turned c.Greater = c.Less
turned c.GreaterEqual = c.LessEqual
turned op = op

-- `test_below_size`, `x < c.size()`
abbrev pub test_below_size : ℕ → ℕ → Facts → Facts
test_below_size x c F = given_too true (below_size x c) F

-- `test_not_size`, `x != c.size()`: it gives something where x is at most size(c)
abbrev pub test_not_size : ℕ → ℕ → Facts → Facts
test_not_size x c F = given_too (F (up_to_size x c)) (below_size x c) F

-- `test_empty`, `c.empty()` where it is false
abbrev pub test_empty : ℕ → Facts → Facts
test_empty c F = given_too true (size_at_least c (pos 1)) F

-- `test_not_end`, `it != c.end()` for an iterator that is inside
abbrev pub test_not_end : ℕ → ℕ → Facts → Facts
test_not_end it c F = given_too (F (inside it c)) (before it c) F

-- `test_not_begin`, `it != c.begin()` for an iterator that is inside
abbrev pub test_not_begin : ℕ → ℕ → Facts → Facts
test_not_begin it c F = given_too (F (inside it c)) (behind it c) F

-- What tests of scalars give.
use Rattle.sl_base.specs.declared.form.Form.TheVariants as f
use Rattle.sl_base.specs.declared.scalar.Scalar.TheVariants as t
use Rattle.sl_model.proofs.Examples.FactsShort.{compares, head_at, here, int, member, member_element, numbers_to, shows, size_number, value_of}
use Rattle.sl_model.specs.Outlines.Facts.{below_size, lower_bound, size_at_least, up_to_size, upper_bound}
use Rattle.sl_specs.specs.declared.rows.sequences.TheConstants as sequence
use Rattle.sl_syntax.specs.Typed.{choice, convert, declares, does, gives_back, held, literal, logical_and, logical_not, logical_or, makes, negate}
use Rattle.sl_syntax.specs.Typed.{operands_from, reads, set_scalar, test, unset_scalar}
use Rattle.sl_syntax.specs.declared.operator.Comparison.TheVariants as comparisons
use Rattle.sl_syntax.specs.declared.typed.callee.Callee.TheVariants as callees
use Rattle.std.specs.Prelude.{None, Some, [], negsuc, pos, refl, true, ◌∷◌, ◌≡◌}

-- `test_literal`: where `x < 3` is false, x is at least 3
--   int x;
--   std::cin >> x;
--   if (x < 3) return 0;
-- given: 3 <= x
-- not given: 4 <= x, x <= 2
tested_less : shows (negsuc 0 ∷ numbers_to 4)
    (declares (unset_scalar t.Int) ∷ does (reads (0 ∷ [])) ∷
    choice (test (compares comparisons.Less (value_of 0) (int 3))) (gives_back (Some (int 0))) ∷ [])
    (lower_bound 0 (pos 3) ∷ []) (lower_bound 0 (pos 4) ∷ upper_bound 0 (pos 2) ∷ []) ≡ true
unfolding shows
tested_less = refl

-- `test_literal`: where `x <= 3` is false, x is at least 4
--   int x;
--   std::cin >> x;
--   if (x <= 3) return 0;
-- given: 4 <= x
-- not given: x <= 4
tested_less_equal : shows (negsuc 0 ∷ numbers_to 4)
    (declares (unset_scalar t.Int) ∷ does (reads (0 ∷ [])) ∷
    choice (test (compares comparisons.LessEqual (value_of 0) (int 3))) (gives_back (Some (int 0))) ∷ [])
    (lower_bound 0 (pos 4) ∷ []) (upper_bound 0 (pos 4) ∷ []) ≡ true
unfolding shows
tested_less_equal = refl

-- `test_literal`: where `x > 3` is false, x is at most 3
--   int x;
--   std::cin >> x;
--   if (x > 3) return 0;
-- given: x <= 3
-- not given: x <= 2, 3 <= x
tested_greater : shows (negsuc 0 ∷ numbers_to 4)
    (declares (unset_scalar t.Int) ∷ does (reads (0 ∷ [])) ∷
    choice (test (compares comparisons.Greater (value_of 0) (int 3))) (gives_back (Some (int 0))) ∷ [])
    (upper_bound 0 (pos 3) ∷ []) (upper_bound 0 (pos 2) ∷ lower_bound 0 (pos 3) ∷ []) ≡ true
unfolding shows
tested_greater = refl

-- `test_literal`: where `x >= 3` is false, x is at most 2
--   int x;
--   std::cin >> x;
--   if (x >= 3) return 0;
-- given: x <= 2
-- not given: 2 <= x
tested_greater_equal : shows (negsuc 0 ∷ numbers_to 4)
    (declares (unset_scalar t.Int) ∷ does (reads (0 ∷ [])) ∷
    choice (test (compares comparisons.GreaterEqual (value_of 0) (int 3))) (gives_back (Some (int 0))) ∷ [])
    (upper_bound 0 (pos 2) ∷ []) (lower_bound 0 (pos 2) ∷ []) ≡ true
unfolding shows
tested_greater_equal = refl

-- `test_literal`: where `x != 3` is false, x is 3
--   int x;
--   std::cin >> x;
--   if (x != 3) return 0;
-- given: 3 <= x, x <= 3
-- not given: 4 <= x
tested_not_equal : shows (negsuc 0 ∷ numbers_to 4)
    (declares (unset_scalar t.Int) ∷ does (reads (0 ∷ [])) ∷
    choice (test (compares comparisons.NotEqual (value_of 0) (int 3))) (gives_back (Some (int 0))) ∷ [])
    (lower_bound 0 (pos 3) ∷ upper_bound 0 (pos 3) ∷ []) (lower_bound 0 (pos 4) ∷ []) ≡ true
unfolding shows
tested_not_equal = refl

-- `test_literal`: where `x == 3` is false, nothing is known
--   int x;
--   std::cin >> x;
--   if (x == 3) return 0;
-- not given: 3 <= x, x <= 3, 4 <= x, x <= 2
tested_equal : shows (negsuc 0 ∷ numbers_to 4)
    (declares (unset_scalar t.Int) ∷ does (reads (0 ∷ [])) ∷
    choice (test (compares comparisons.Equal (value_of 0) (int 3))) (gives_back (Some (int 0))) ∷ [])
    [] (lower_bound 0 (pos 3) ∷ upper_bound 0 (pos 3) ∷ lower_bound 0 (pos 4) ∷ upper_bound 0 (pos 2) ∷ []) ≡ true
unfolding shows
tested_equal = refl

-- `test_literal`: where `3 <= x` is false, x is at most 2
--   int x;
--   std::cin >> x;
--   if (3 <= x) return 0;
-- given: x <= 2
-- not given: x <= 0, 2 <= x
tested_turned : shows (negsuc 0 ∷ numbers_to 4)
    (declares (unset_scalar t.Int) ∷ does (reads (0 ∷ [])) ∷
    choice (test (compares comparisons.LessEqual (int 3) (value_of 0))) (gives_back (Some (int 0))) ∷ [])
    (upper_bound 0 (pos 2) ∷ []) (upper_bound 0 (pos 0) ∷ lower_bound 0 (pos 2) ∷ []) ≡ true
unfolding shows
tested_turned = refl

-- `test_literal` and `connective`: both tests are true behind this
--   int x;
--   std::cin >> x;
--   if (!(x < 3 && x > 1)) return 0;
-- given: 2 <= x, x <= 2
-- not given: 3 <= x
true_side_is_told : shows (negsuc 0 ∷ numbers_to 4)
    (declares (unset_scalar t.Int) ∷ does (reads (0 ∷ [])) ∷
    choice (test (logical_not here (logical_and here (compares comparisons.Less (value_of 0) (int 3)) (compares comparisons.Greater (value_of 0)
    (int 1))))) (gives_back (Some (int 0))) ∷
    [])
    (lower_bound 0 (pos 2) ∷ upper_bound 0 (pos 2) ∷ []) (lower_bound 0 (pos 3) ∷ []) ≡ true
unfolding shows
true_side_is_told = refl

-- a bool is compared as an int, and `-3` is no literal: nothing is known
--   bool b = true;
--   int x;
--   if (b < 1) return 0;
--   if (x > -3) return 0;
-- given: 1 <= b
-- not given: x <= 2, x <= 0
no_literal_in_the_type : shows (negsuc 0 ∷ numbers_to 4)
    (declares (set_scalar t.Bool (literal t.Bool (pos 1))) ∷ declares (unset_scalar t.Int) ∷
    choice (test (compares comparisons.Less (convert t.Int (value_of 0)) (int 1))) (gives_back (Some (int 0))) ∷
    choice (test (compares comparisons.Greater (value_of 1) (negate t.Int here (int 3)))) (gives_back (Some (int 0))) ∷ [])
    (lower_bound 0 (pos 1) ∷ []) (upper_bound 1 (pos 2) ∷ upper_bound 1 (pos 0) ∷ []) ≡ true
unfolding shows
no_literal_in_the_type = refl

-- `test_not_size`, turned round: at most the size and not it is less
--   std::vector<int> v;
--   std::size_t i = 0;
--   if (i == v.size()) return 0;
-- given: i < size(v), i <= size(v)
-- not given: 1 <= i
not_the_size : shows (negsuc 0 ∷ numbers_to 1)
    (declares (makes f.Vector (head_at here (callees.Row sequence.VECTOR_CONSTRUCTOR) None) (operands_from [])) ∷
    declares (set_scalar t.Size (size_number 0)) ∷
    choice (test (compares comparisons.Equal (value_of 0) (member sequence.VECTOR_SIZE 0 []))) (gives_back (Some (int 0))) ∷ [])
    (below_size 0 0 ∷ up_to_size 0 0 ∷ []) (lower_bound 0 (pos 1) ∷ []) ≡ true
unfolding shows
not_the_size = refl

-- `test_not_size` without that: nothing, and nothing is missing
--   std::vector<int> v;
--   std::size_t i = 3;
--   if (i == v.size()) return 0;
-- given: 3 <= i
-- not given: i < size(v), i <= size(v)
not_the_size_needs : shows (negsuc 0 ∷ numbers_to 4)
    (declares (makes f.Vector (head_at here (callees.Row sequence.VECTOR_CONSTRUCTOR) None) (operands_from [])) ∷
    declares (set_scalar t.Size (size_number 3)) ∷
    choice (test (compares comparisons.Equal (value_of 0) (member sequence.VECTOR_SIZE 0 []))) (gives_back (Some (int 0))) ∷ [])
    (lower_bound 0 (pos 3) ∷ []) (below_size 0 0 ∷ up_to_size 0 0 ∷ []) ≡ true
unfolding shows
not_the_size_needs = refl

-- `v.size() <= i` has no rule
--   std::vector<int> v;
--   std::size_t i = 0;
--   if (v.size() <= i) return 0;
-- given: i <= size(v)
-- not given: i < size(v)
size_on_the_left : shows (negsuc 0 ∷ numbers_to 1)
    (declares (makes f.Vector (head_at here (callees.Row sequence.VECTOR_CONSTRUCTOR) None) (operands_from [])) ∷
    declares (set_scalar t.Size (size_number 0)) ∷
    choice (test (compares comparisons.LessEqual (member sequence.VECTOR_SIZE 0 []) (value_of 0))) (gives_back (Some (int 0))) ∷ [])
    (up_to_size 0 0 ∷ []) (below_size 0 0 ∷ []) ≡ true
unfolding shows
size_on_the_left = refl

-- `connective`, `e || g`
--   std::vector<int> v;
--   std::size_t i = 0;
--   if (v.empty() || i >= v.size()) return 0;
-- given: size(v) >= 1, i < size(v)
tests_are_joined : shows (negsuc 0 ∷ numbers_to 1)
    (declares (makes f.Vector (head_at here (callees.Row sequence.VECTOR_CONSTRUCTOR) None) (operands_from [])) ∷
    declares (set_scalar t.Size (size_number 0)) ∷
    choice (test (logical_or here (member sequence.VECTOR_EMPTY 0 []) (compares comparisons.GreaterEqual (value_of 0) (member
    sequence.VECTOR_SIZE 0 [])))) (gives_back (Some (int 0))) ∷
    [])
    (size_at_least 0 (pos 1) ∷ below_size 0 0 ∷ []) [] ≡ true
unfolding shows
tests_are_joined = refl

-- `connective` in a value: the right side is read where the left one is true
--   std::vector<int> v;
--   bool b = !v.empty() && v.front() == 3;
-- given: size(v) >= 0
-- not given: size(v) >= 1, 0 <= b
tests_in_values : shows (numbers_to 4)
    (declares (makes f.Vector (head_at here (callees.Row sequence.VECTOR_CONSTRUCTOR) None) (operands_from [])) ∷
    declares (set_scalar t.Bool (logical_and here (logical_not here (member sequence.VECTOR_EMPTY 0 [])) (compares comparisons.Equal (held
    (member_element sequence.VECTOR_FRONT 0 [])) (int 3)))) ∷
    [])
    (size_at_least 0 (pos 0) ∷ []) (size_at_least 0 (pos 1) ∷ lower_bound 0 (pos 0) ∷ []) ≡ true
unfolding shows
tests_in_values = refl

-- What the rules of scalars and of their tests give, and what they drop.
use Rattle.sl_base.specs.declared.form.Form.TheVariants as f
use Rattle.sl_base.specs.declared.scalar.Scalar.TheVariants as t
use Rattle.sl_model.proofs.Examples.FactsShort.{compares, head_at, here, int, member, numbers_to, shows, size_number, up_int, up_size, value_of}
use Rattle.sl_model.specs.Outlines.Facts.{below_size, lower_bound, size_at_least, up_to_size, upper_bound}
use Rattle.sl_specs.specs.declared.rows.sequences.TheConstants as sequence
use Rattle.sl_syntax.specs.Typed.{assigns, choice, convert, declares, does, evaluates, gives_back, increment, literal, makes, operands_from, reads}
use Rattle.sl_syntax.specs.Typed.{scalar, set_scalar, test, unset_scalar, updates}
use Rattle.sl_syntax.specs.declared.operator.Arithmetic.TheVariants as o
use Rattle.sl_syntax.specs.declared.operator.Comparison.TheVariants as comparisons
use Rattle.sl_syntax.specs.declared.typed.callee.Callee.TheVariants as callees
use Rattle.sl_syntax.specs.declared.typed.step.Fix.TheVariants.{Postfix, Prefix}
use Rattle.sl_syntax.specs.declared.typed.step.Step.TheVariants.{Down, Up}
use Rattle.std.specs.Prelude.{None, Some, [], negsuc, pos, refl, true, ◌++◌, ◌∷◌, ◌≡◌}

-- `set_literal`: both bounds; 0 is at most each size in scope, as a bool too
--   std::vector<int> v;
--   int x = 3;
--   int y = 0;
--   bool b = false;
--   std::size_t n = 3;
-- given: 3 <= x, x <= 3, 0 <= y, y <= 0, y <= size(v), b <= size(v), 3 <= n, n <= 3
-- not given: 4 <= x, x <= 2, x <= size(v), n <= size(v)
literals_are_bounds : shows (negsuc 0 ∷ numbers_to 4)
    (declares (makes f.Vector (head_at here (callees.Row sequence.VECTOR_CONSTRUCTOR) None) (operands_from [])) ∷
    declares (set_scalar t.Int (int 3)) ∷ declares (set_scalar t.Int (int 0)) ∷ declares (set_scalar t.Bool (literal t.Bool (pos 0))) ∷
    declares (set_scalar t.Size (size_number 3)) ∷ [])
    (lower_bound 0 (pos 3) ∷ upper_bound 0 (pos 3) ∷ lower_bound 1 (pos 0) ∷ upper_bound 1 (pos 0) ∷ up_to_size 1 0 ∷ up_to_size 2 0 ∷
    lower_bound 3 (pos 3) ∷ upper_bound 3 (pos 3) ∷ [])
    (lower_bound 0 (pos 4) ∷ upper_bound 0 (pos 2) ∷ up_to_size 0 0 ∷ up_to_size 3 0 ∷ []) ≡ true
unfolding shows
literals_are_bounds = refl

-- `set_literal` in the type of the variable: 2 as a bool is 1, `true` as an int too
--   bool b = 2;
--   int x = true;
-- given: 1 <= b, b <= 1, 1 <= x, x <= 1
-- not given: 2 <= b
literals_in_their_type : shows (numbers_to 3)
    (declares (set_scalar t.Bool (convert t.Bool (int 2))) ∷ declares (set_scalar t.Int (convert t.Int (literal t.Bool (pos 1)))) ∷ [])
    (lower_bound 0 (pos 1) ∷ upper_bound 0 (pos 1) ∷ lower_bound 1 (pos 1) ∷ upper_bound 1 (pos 1) ∷ []) (lower_bound 0 (pos 2) ∷ []) ≡ true
unfolding shows
literals_in_their_type = refl

-- `copy_variable` of a scalar: all facts, where the types are one
--   std::vector<int> v;
--   std::size_t i = 0;
--   std::size_t j = i;
--   int x = i;
-- given: 0 <= j, j <= 0, j <= size(v)
-- not given: 0 <= x, x <= 0, x <= size(v)
variables_are_copied : shows (negsuc 0 ∷ numbers_to 1)
    (declares (makes f.Vector (head_at here (callees.Row sequence.VECTOR_CONSTRUCTOR) None) (operands_from [])) ∷
    declares (set_scalar t.Size (size_number 0)) ∷ declares (set_scalar t.Size (value_of 0)) ∷
    declares (set_scalar t.Int (convert t.Int (value_of 0))) ∷ [])
    (lower_bound 1 (pos 0) ∷ upper_bound 1 (pos 0) ∷ up_to_size 1 0 ∷ [])
    (lower_bound 2 (pos 0) ∷ upper_bound 2 (pos 0) ∷ up_to_size 2 0 ∷ []) ≡ true
unfolding shows
variables_are_copied = refl

-- an assignment first drops the facts on its left side
--   std::vector<int> v;
--   int x = 0;
--   x = v.size();
-- given: size(v) >= 0
-- not given: 0 <= x, x <= 0, x <= size(v)
assignment_drops_first : shows (negsuc 0 ∷ numbers_to 1)
    (declares (makes f.Vector (head_at here (callees.Row sequence.VECTOR_CONSTRUCTOR) None) (operands_from [])) ∷
    declares (set_scalar t.Int (int 0)) ∷ does (assigns (scalar 0 here) (convert t.Int (member sequence.VECTOR_SIZE 0 []))) ∷ [])
    (size_at_least 0 (pos 0) ∷ []) (lower_bound 0 (pos 0) ∷ upper_bound 0 (pos 0) ∷ up_to_size 0 0 ∷ []) ≡ true
unfolding shows
assignment_drops_first = refl

-- `take_size`: of a std::size_t alone
--   std::vector<int> v;
--   std::size_t n = v.size();
--   int m = v.size();
-- given: n <= size(v)
-- not given: n < size(v), 0 <= n, m <= size(v)
sizes_are_taken : shows (numbers_to 1)
    (declares (makes f.Vector (head_at here (callees.Row sequence.VECTOR_CONSTRUCTOR) None) (operands_from [])) ∷
    declares (set_scalar t.Size (member sequence.VECTOR_SIZE 0 [])) ∷
    declares (set_scalar t.Int (convert t.Int (member sequence.VECTOR_SIZE 0 []))) ∷ [])
    (up_to_size 0 0 ∷ []) (below_size 0 0 ∷ lower_bound 0 (pos 0) ∷ up_to_size 1 0 ∷ []) ≡ true
unfolding shows
sizes_are_taken = refl

-- `increment`: bounds rise by 1, and so do those of its value
--   int x = 3;
--   int y = ++x;
-- given: 4 <= x, x <= 4, 4 <= y, y <= 4
-- not given: 5 <= y, y <= 3
ints_rise : shows (numbers_to 4)
    (declares (set_scalar t.Int (int 3)) ∷ declares (set_scalar t.Int (up_int 0)) ∷ [])
    (lower_bound 0 (pos 4) ∷ upper_bound 0 (pos 4) ∷ lower_bound 1 (pos 4) ∷ upper_bound 1 (pos 4) ∷ [])
    (lower_bound 1 (pos 5) ∷ upper_bound 1 (pos 3) ∷ []) ≡ true
unfolding shows
ints_rise = refl

-- `increment`: 7 is no constant, so the lower bound is 6, and no upper one is left
--   int x = 5;
--   ++x;
--   ++x;
-- given: 6 <= x
-- not given: x <= 6
bounds_stay_constants : shows (numbers_to 1 ++ (pos 4 ∷ pos 5 ∷ pos 6 ∷ []))
    (declares (set_scalar t.Int (int 5)) ∷ does (evaluates (up_int 0)) ∷ does (evaluates (up_int 0)) ∷ [])
    (lower_bound 0 (pos 6) ∷ []) (upper_bound 0 (pos 6) ∷ []) ≡ true
unfolding shows
bounds_stay_constants = refl

-- `increment` at the greatest int: the upper bound is dropped
--   int x = 2147483647;
--   ++x;
-- given: 2147483648 <= x
-- not given: x <= 2147483648
ints_at_their_end : shows (numbers_to 1 ++ (pos 2147483646 ∷ pos 2147483647 ∷ pos 2147483648 ∷ []))
    (declares (set_scalar t.Int (int 2147483647)) ∷ does (evaluates (up_int 0)) ∷ [])
    (lower_bound 0 (pos 2147483648) ∷ []) (upper_bound 0 (pos 2147483648) ∷ []) ≡ true
unfolding shows
ints_at_their_end = refl

-- `increment` of a std::size_t that may start again at 0: both bounds are dropped
--   std::size_t i;
--   if (i < 3) return 0;
--   ++i;
-- not given: 3 <= i, 0 <= i
sizes_start_again : shows (negsuc 0 ∷ numbers_to 4)
    (declares (unset_scalar t.Size) ∷ choice (test (compares comparisons.Less (value_of 0) (size_number 3))) (gives_back (Some (int 0))) ∷
    does (evaluates (up_size 0)) ∷ [])
    [] (lower_bound 0 (pos 3) ∷ lower_bound 0 (pos 0) ∷ []) ≡ true
unfolding shows
sizes_start_again = refl

-- `increment` of a std::size_t that is less than a size: it doesn't start again, and is at most that size
--   std::vector<int> v;
--   std::size_t i;
--   if (i < 3) return 0;
--   if (i >= v.size()) return 0;
--   ++i;
-- given: 4 <= i, i <= size(v)
-- not given: i < size(v)
sizes_below_a_size_rise : shows (negsuc 0 ∷ numbers_to 4)
    (declares (makes f.Vector (head_at here (callees.Row sequence.VECTOR_CONSTRUCTOR) None) (operands_from [])) ∷
    declares (unset_scalar t.Size) ∷ choice (test (compares comparisons.Less (value_of 0) (size_number 3))) (gives_back (Some (int 0))) ∷
    choice (test (compares comparisons.GreaterEqual (value_of 0) (member sequence.VECTOR_SIZE 0 []))) (gives_back (Some (int 0))) ∷
    does (evaluates (up_size 0)) ∷ [])
    (lower_bound 0 (pos 4) ∷ up_to_size 0 0 ∷ []) (below_size 0 0 ∷ []) ≡ true
unfolding shows
sizes_below_a_size_rise = refl

-- `x++`, `--x`, `x += 1` and a read have no rule
--   int a = 3;
--   int b = 3;
--   int c = 3;
--   int d = 3;
--   int e = a++;
--   --b;
--   c += 1;
--   std::cin >> d;
-- not given: 3 <= a, 0 <= a, 0 <= b, 3 <= c, 3 <= d, 3 <= e
other_steps_drop : shows (numbers_to 4)
    (declares (set_scalar t.Int (int 3)) ∷ declares (set_scalar t.Int (int 3)) ∷ declares (set_scalar t.Int (int 3)) ∷
    declares (set_scalar t.Int (int 3)) ∷ declares (set_scalar t.Int (increment Up Postfix t.Int here (scalar 0 here))) ∷
    does (evaluates (increment Down Prefix t.Int here (scalar 1 here))) ∷ does (updates o.Add t.Int t.Int here (scalar 2 here) (int 1)) ∷
    does (reads (3 ∷ [])) ∷ [])
    []
    (lower_bound 0 (pos 3) ∷ lower_bound 0 (pos 0) ∷ lower_bound 1 (pos 0) ∷ lower_bound 2 (pos 3) ∷ lower_bound 3 (pos 3) ∷
    lower_bound 4 (pos 3) ∷ []) ≡ true
unfolding shows
other_steps_drop = refl

-- `declare`: 3 is no constant, so the size is at least 1
--   std::vector<int> v = {7, 7, 7};
-- given: size(v) >= 1
-- not given: size(v) >= 6
sizes_stay_constants : shows (numbers_to 1 ++ (pos 6 ∷ pos 7 ∷ pos 8 ∷ []))
    (declares (makes f.Vector (head_at here (callees.Row sequence.VECTOR_CONSTRUCTOR_LIST) None) (operands_from (int 7 ∷ int 7 ∷ int 7 ∷ []))) ∷
    [])
    (size_at_least 0 (pos 1) ∷ []) (size_at_least 0 (pos 6) ∷ []) ≡ true
unfolding shows
sizes_stay_constants = refl

-- `pop`: from 5 to 4, to 3, which is no constant, so at least 1, and to 0
--   std::vector<int> v = {5, 5, 5, 5, 5};
--   std::vector<int> w = {5, 5, 5, 5, 5};
--   v.pop_back(); v.pop_back();
--   w.pop_back(); w.pop_back(); w.pop_back();
-- given: size(v) >= 1, size(w) >= 0
-- not given: size(v) >= 4, size(w) >= 1
sizes_fall_to_constants : shows (numbers_to 1 ++ (pos 4 ∷ pos 5 ∷ pos 6 ∷ []))
    (declares (makes f.Vector (head_at here (callees.Row sequence.VECTOR_CONSTRUCTOR_LIST) None) (operands_from (int 5 ∷ int 5 ∷ int 5 ∷ int 5 ∷
    int 5 ∷ []))) ∷
    declares (makes f.Vector (head_at here (callees.Row sequence.VECTOR_CONSTRUCTOR_LIST) None) (operands_from (int 5 ∷ int 5 ∷ int 5 ∷ int 5 ∷
    int 5 ∷ []))) ∷
    does (evaluates (member sequence.VECTOR_POP_BACK 0 [])) ∷ does (evaluates (member sequence.VECTOR_POP_BACK 0 [])) ∷
    does (evaluates (member sequence.VECTOR_POP_BACK 1 [])) ∷ does (evaluates (member sequence.VECTOR_POP_BACK 1 [])) ∷
    does (evaluates (member sequence.VECTOR_POP_BACK 1 [])) ∷ [])
    (size_at_least 0 (pos 1) ∷ size_at_least 1 (pos 0) ∷ []) (size_at_least 0 (pos 4) ∷ size_at_least 1 (pos 1) ∷ []) ≡ true
unfolding shows
sizes_fall_to_constants = refl

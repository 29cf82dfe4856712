-- Forms that have no rule and a need of the library: a text with one of them has no outline, whatever is known.
use Rattle.sl_base.specs.declared.form.Form.TheVariants as f
use Rattle.sl_base.specs.declared.scalar.Scalar.TheVariants as t
use Rattle.sl_model.proofs.Examples.FactsShort.{algorithm, compared_at, differ, head_at, here, int, member, member_element, numbers_to, shows}
use Rattle.sl_model.proofs.Examples.FactsShort.{size_number, value_of}
use Rattle.sl_specs.specs.declared.rows.algorithms.TheConstants as algorithms
use Rattle.sl_specs.specs.declared.rows.sequences.TheConstants as sequence
use Rattle.sl_syntax.specs.Typed.{Stmt, arithmetic, call, choice, container, convert, declares, does, evaluates, gives_back, held, iterator, makes}
use Rattle.sl_syntax.specs.Typed.{move, moves_to, none, number, operands_from, prints, set_iterator, set_scalar, test, with}
use Rattle.sl_syntax.specs.declared.operator.Arithmetic.TheVariants as o
use Rattle.sl_syntax.specs.declared.operator.Comparison.TheVariants as comparisons
use Rattle.sl_syntax.specs.declared.typed.callee.Callee.TheVariants as callees
use Rattle.sl_syntax.specs.declared.typed.operator.Operator.TheVariants as operators
use Rattle.sl_syntax.specs.declared.typed.step.Fix.TheVariants.{Postfix, Prefix}
use Rattle.std.specs.Prelude.{List, None, Some, [], false, negsuc, refl, ◌++◌, ◌∷◌, ◌≡◌}

-- a vector with elements
--   std::vector<int> v = {1, 2, 3};
--   auto it = v.begin();
--   auto jt = v.end();
--   std::size_t i = 0;
abbrev pub known : List Stmt
known =
    (declares (makes f.Vector (head_at here (callees.Row sequence.VECTOR_CONSTRUCTOR_LIST) None) (operands_from (int 1 ∷ int 2 ∷ int 3 ∷ []))) ∷
    declares (set_iterator (member sequence.VECTOR_BEGIN 0 [])) ∷ declares (set_iterator (member sequence.VECTOR_END 0 [])) ∷
    declares (set_scalar t.Size (size_number 0)) ∷ [])

-- `it++`
--   it++;
no_step_behind : shows (negsuc 0 ∷ numbers_to 4)
    (known ++
    (does (evaluates (move Postfix 0 (head_at here (callees.Operator operators.Increment) None) none)) ∷ []))
    [] [] ≡ false
unfolding shows
no_step_behind = refl

-- `it += 1`
--   it += 1;
no_jump : shows (negsuc 0 ∷ numbers_to 4)
    (known ++
    (does (evaluates (move Prefix 0 (head_at here (callees.Operator operators.AddAssign) None) (with (convert t.Diff (int 1)) none))) ∷ []))
    [] [] ≡ false
unfolding shows
no_jump = refl

-- `it + 1`
--   jt = it + 1;
no_sum : shows (negsuc 0 ∷ numbers_to 4)
    (known ++
    (does (moves_to 1 (call (head_at here (callees.Operator operators.Add) None) (with (iterator 0) (with (convert t.Diff (int 1)) none)))) ∷
    []))
    [] [] ≡ false
unfolding shows
no_sum = refl

-- `std::advance`
--   std::advance(it, 1);
no_advance : shows (negsuc 0 ∷ numbers_to 4)
    (known ++
    (does (evaluates (move Prefix 0 (head_at here (callees.Row algorithms.STD_ADVANCE) None) (with (convert t.Diff (int 1)) none))) ∷ []))
    [] [] ≡ false
unfolding shows
no_advance = refl

-- `std::next` with a number
--   jt = std::next(it, 1);
no_next_by_a_number : shows (negsuc 0 ∷ numbers_to 4)
    (known ++ (does (moves_to 1 (algorithm algorithms.STD_NEXT (iterator 0 ∷ convert t.Diff (int 1) ∷ []))) ∷ []))
    [] [] ≡ false
unfolding shows
no_next_by_a_number = refl

-- `std::distance`
--   std::cout << std::distance(it, v.end());
no_distance : shows (negsuc 0 ∷ numbers_to 4)
    (known ++
    (does (prints (number (algorithm algorithms.STD_DISTANCE (iterator 0 ∷ member sequence.VECTOR_END 0 [] ∷ [])) ∷ [])) ∷ []))
    [] [] ≡ false
unfolding shows
no_distance = refl

-- `jt - it`
--   std::cout << jt - it;
no_difference : shows (negsuc 0 ∷ numbers_to 4)
    (known ++
    (does (prints (number (call (head_at here (callees.Operator operators.Difference) None) (with (iterator 1) (with (iterator 0) none))) ∷ [])) ∷
    []))
    [] [] ≡ false
unfolding shows
no_difference = refl

-- `jt = v.erase(it)`, with two variables
--   jt = v.erase(it);
no_erased_elsewhere : shows (negsuc 0 ∷ numbers_to 4)
    (known ++ (does (moves_to 1 (member sequence.VECTOR_ERASE 0 (iterator 0 ∷ []))) ∷ []))
    [] [] ≡ false
unfolding shows
no_erased_elsewhere = refl

-- `auto kt = v.erase(it)`
--   auto kt = v.erase(it);
no_erased_and_declared : shows (negsuc 0 ∷ numbers_to 4)
    (known ++ (declares (set_iterator (member sequence.VECTOR_ERASE 0 (iterator 0 ∷ []))) ∷ []))
    [] [] ≡ false
unfolding shows
no_erased_and_declared = refl

-- `v.insert(it, 1)` without `it =`
--   v.insert(it, 1);
no_inserted_alone : shows (negsuc 0 ∷ numbers_to 4)
    (known ++ (does (evaluates (member sequence.VECTOR_INSERT 0 (iterator 0 ∷ int 1 ∷ []))) ∷ []))
    [] [] ≡ false
unfolding shows
no_inserted_alone = refl

-- `v.insert(it, 2, 1)`
--   it = v.insert(it, 2, 1);
no_inserted_often : shows (negsuc 0 ∷ numbers_to 4)
    (known ++
    (does (moves_to 0 (member sequence.VECTOR_INSERT_FILL 0 (iterator 0 ∷ size_number 2 ∷ int 1 ∷ []))) ∷ []))
    [] [] ≡ false
unfolding shows
no_inserted_often = refl

-- `v.erase(it, jt)`
--   v.erase(it, jt);
no_erased_range : shows (negsuc 0 ∷ numbers_to 4)
    (known ++ (does (evaluates (member sequence.VECTOR_ERASE_RANGE 0 (iterator 0 ∷ iterator 1 ∷ []))) ∷ []))
    [] [] ≡ false
unfolding shows
no_erased_range = refl

-- `it < jt`
--   if (it < jt) return 0;
no_less_than : shows (negsuc 0 ∷ numbers_to 4)
    (known ++
    (choice (test (compared_at here comparisons.Less (iterator 0) (iterator 1))) (gives_back (Some (int 0))) ∷ []))
    [] [] ≡ false
unfolding shows
no_less_than = refl

-- `it != jt`
--   if (it != jt) return 0;
no_two_variables : shows (negsuc 0 ∷ numbers_to 4)
    (known ++ (choice (test (differ (iterator 0) (iterator 1))) (gives_back (Some (int 0))) ∷ []))
    [] [] ≡ false
unfolding shows
no_two_variables = refl

-- `v.end() != it`
--   if (v.end() != it) return 0;
no_end_on_the_left : shows (negsuc 0 ∷ numbers_to 4)
    (known ++
    (choice (test (differ (member sequence.VECTOR_END 0 []) (iterator 0))) (gives_back (Some (int 0))) ∷ []))
    [] [] ≡ false
unfolding shows
no_end_on_the_left = refl

-- `it != v.end()` that is no test
--   bool b = it != v.end();
no_comparison_as_value : shows (negsuc 0 ∷ numbers_to 4)
    (known ++ (declares (set_scalar t.Bool (differ (iterator 0) (member sequence.VECTOR_END 0 []))) ∷ []))
    [] [] ≡ false
unfolding shows
no_comparison_as_value = refl

-- `v[i + 1]`
--   std::cout << v[i + 1];
no_index_by_a_sum : shows (negsuc 0 ∷ numbers_to 4)
    (known ++
    (does (prints (number (held (member_element sequence.VECTOR_SUBSCRIPT 0 (arithmetic o.Add t.Size here (value_of 0) (size_number 1) ∷ []))) ∷
    [])) ∷
    []))
    [] [] ≡ false
unfolding shows
no_index_by_a_sum = refl

-- a range of two variables
--   std::cout << std::count(it, jt, 1);
no_two_iterators : shows (negsuc 0 ∷ numbers_to 4)
    (known ++
    (does (prints (number (algorithm algorithms.STD_COUNT (iterator 0 ∷ iterator 1 ∷ int 1 ∷ [])) ∷ [])) ∷ []))
    [] [] ≡ false
unfolding shows
no_two_iterators = refl

-- `std::sort` of a part
--   std::sort(it, v.end());
no_sorted_in_part : shows (negsuc 0 ∷ numbers_to 4)
    (known ++
    (does (evaluates (algorithm algorithms.STD_SORT (iterator 0 ∷ member sequence.VECTOR_END 0 [] ∷ []))) ∷ []))
    [] [] ≡ false
unfolding shows
no_sorted_in_part = refl

-- `std::fill`
--   std::fill(v.begin(), v.end(), 1);
no_filled : shows (negsuc 0 ∷ numbers_to 4)
    (known ++
    (does (evaluates (algorithm algorithms.STD_FILL (member sequence.VECTOR_BEGIN 0 [] ∷ member sequence.VECTOR_END 0 [] ∷ int 1 ∷ []))) ∷
    []))
    [] [] ≡ false
unfolding shows
no_filled = refl

-- `std::copy` to an iterator
--   std::vector<int> w = {1};
--   std::copy(w.begin(), w.end(), v.begin());
no_copied_to_an_iterator : shows (negsuc 0 ∷ numbers_to 4)
    (known ++
    (declares (makes f.Vector (head_at here (callees.Row sequence.VECTOR_CONSTRUCTOR_LIST) None) (operands_from (int 1 ∷ []))) ∷
    does (evaluates (algorithm algorithms.STD_COPY (member sequence.VECTOR_BEGIN 1 [] ∷ member sequence.VECTOR_END 1 [] ∷ member
    sequence.VECTOR_BEGIN 0 [] ∷ []))) ∷
    []))
    [] [] ≡ false
unfolding shows
no_copied_to_an_iterator = refl

-- `std::copy` to the end of the same vector
--   std::copy(v.begin(), v.end(), std::back_inserter(v));
no_copied_to_itself : shows (negsuc 0 ∷ numbers_to 4)
    (known ++
    (does (evaluates (call (head_at here (callees.Appends algorithms.STD_COPY) None) (operands_from (member sequence.VECTOR_BEGIN 0 [] ∷ member
    sequence.VECTOR_END 0 [] ∷ container 0 ∷ [])))) ∷
    []))
    [] [] ≡ false
unfolding shows
no_copied_to_itself = refl

-- a vector made from a range
--   std::vector<int> w(v.begin(), v.end());
no_made_from_a_range : shows (negsuc 0 ∷ numbers_to 4)
    (known ++
    (declares (makes f.Vector (head_at here (callees.Row sequence.VECTOR_CONSTRUCTOR_RANGE) None) (operands_from (member sequence.VECTOR_BEGIN 0
    [] ∷ member sequence.VECTOR_END 0 [] ∷ []))) ∷
    []))
    [] [] ≡ false
unfolding shows
no_made_from_a_range = refl

-- `std::unique` alone
--   it = std::unique(v.begin(), v.end());
no_unique_alone : shows (negsuc 0 ∷ numbers_to 4)
    (known ++
    (does (moves_to 0 (algorithm algorithms.STD_UNIQUE (member sequence.VECTOR_BEGIN 0 [] ∷ member sequence.VECTOR_END 0 [] ∷ []))) ∷ []))
    [] [] ≡ false
unfolding shows
no_unique_alone = refl

-- the form of `erase_tail` that isn't a whole effect
--   it = v.erase(std::unique(v.begin(), v.end()), v.end());
no_tail_with_a_result : shows (negsuc 0 ∷ numbers_to 4)
    (known ++
    (does (moves_to 0 (member sequence.VECTOR_ERASE_RANGE 0 (algorithm algorithms.STD_UNIQUE (member sequence.VECTOR_BEGIN 0 [] ∷ member
    sequence.VECTOR_END 0 [] ∷ []) ∷ member sequence.VECTOR_END 0 [] ∷ []))) ∷
    []))
    [] [] ≡ false
unfolding shows
no_tail_with_a_result = refl

-- the form of `erase_tail` over two vectors
--   std::vector<int> w;
--   v.erase(std::unique(w.begin(), w.end()), v.end());
no_tail_of_another : shows (negsuc 0 ∷ numbers_to 4)
    (known ++
    (declares (makes f.Vector (head_at here (callees.Row sequence.VECTOR_CONSTRUCTOR) None) (operands_from [])) ∷
    does (evaluates (member sequence.VECTOR_ERASE_RANGE 0 (algorithm algorithms.STD_UNIQUE (member sequence.VECTOR_BEGIN 1 [] ∷ member
    sequence.VECTOR_END 1 [] ∷ []) ∷ member sequence.VECTOR_END 0 [] ∷ []))) ∷
    []))
    [] [] ≡ false
unfolding shows
no_tail_of_another = refl

-- `splice` and `merge` of lists
--   std::list<int> a;
--   std::list<int> b;
--   a.splice(a.begin(), b);
spliced : shows (numbers_to 1)
    (declares (makes f.List (head_at here (callees.Row sequence.LIST_CONSTRUCTOR) None) (operands_from [])) ∷
    declares (makes f.List (head_at here (callees.Row sequence.LIST_CONSTRUCTOR) None) (operands_from [])) ∷
    does (evaluates (member sequence.LIST_SPLICE 0 (member sequence.LIST_BEGIN 0 [] ∷ container 1 ∷ []))) ∷ [])
    [] [] ≡ false
unfolding shows
spliced = refl

-- `merge` of lists
--   std::list<int> a;
--   std::list<int> b;
--   a.merge(b);
merged : shows (numbers_to 1)
    (declares (makes f.List (head_at here (callees.Row sequence.LIST_CONSTRUCTOR) None) (operands_from [])) ∷
    declares (makes f.List (head_at here (callees.Row sequence.LIST_CONSTRUCTOR) None) (operands_from [])) ∷
    does (evaluates (member sequence.LIST_MERGE 0 (container 1 ∷ []))) ∷ [])
    [] [] ≡ false
unfolding shows
merged = refl

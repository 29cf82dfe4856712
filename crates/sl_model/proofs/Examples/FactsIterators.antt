-- What the rules of iterators and of their tests give, and what a fresh variable brings.
use Rattle.sl_base.specs.declared.form.Form.TheVariants as f
use Rattle.sl_model.proofs.Examples.FactsShort.{algorithm, compared_at, differ, down, head_at, here, int, member, member_element, numbers_to, shows}
use Rattle.sl_model.proofs.Examples.FactsShort.{star, up}
use Rattle.sl_model.specs.Outlines.Facts.{before, behind, inside, size_at_least, sorted}
use Rattle.sl_specs.specs.declared.rows.algorithms.TheConstants as algorithms
use Rattle.sl_specs.specs.declared.rows.sequences.TheConstants as sequence
use Rattle.sl_syntax.specs.Typed.{choice, declares, does, evaluates, gives_back, held, iterator, logical_not, makes, moves_to, number}
use Rattle.sl_syntax.specs.Typed.{operands_from, prints, set_iterator, test}
use Rattle.sl_syntax.specs.declared.operator.Comparison.TheVariants as comparisons
use Rattle.sl_syntax.specs.declared.typed.callee.Callee.TheVariants as callees
use Rattle.std.specs.Prelude.{None, Some, [], negsuc, pos, refl, true, ◌∷◌, ◌≡◌}

-- `begin` and `end` of a vector that may be empty
--   std::vector<int> v;
--   auto it = v.begin();
--   auto jt = v.end();
-- given: inside(it, v), inside(jt, v), size(v) >= 0, sorted(v)
-- not given: before(it, v), behind(jt, v), size(v) >= 1
ends_of_an_empty_one : shows (numbers_to 1)
    (declares (makes f.Vector (head_at here (callees.Row sequence.VECTOR_CONSTRUCTOR) None) (operands_from [])) ∷
    declares (set_iterator (member sequence.VECTOR_BEGIN 0 [])) ∷ declares (set_iterator (member sequence.VECTOR_END 0 [])) ∷ [])
    (inside 0 0 ∷ inside 1 0 ∷ size_at_least 0 (pos 0) ∷ sorted 0 ∷ []) (before 0 0 ∷ behind 1 0 ∷ size_at_least 0 (pos 1) ∷ []) ≡ true
unfolding shows
ends_of_an_empty_one = refl

-- `copy_variable` of an iterator
--   std::vector<int> v = {1};
--   auto it = v.begin();
--   auto jt = v.end();
--   jt = it;
-- given: before(jt, v), before(it, v)
-- not given: behind(jt, v)
iterators_are_copied : shows (numbers_to 2)
    (declares (makes f.Vector (head_at here (callees.Row sequence.VECTOR_CONSTRUCTOR_LIST) None) (operands_from (int 1 ∷ []))) ∷
    declares (set_iterator (member sequence.VECTOR_BEGIN 0 [])) ∷ declares (set_iterator (member sequence.VECTOR_END 0 [])) ∷
    does (moves_to 1 (iterator 0)) ∷ [])
    (before 1 0 ∷ before 0 0 ∷ []) (behind 1 0 ∷ []) ≡ true
unfolding shows
iterators_are_copied = refl

-- `step_forward`: behind the beginning, and no more
--   std::vector<int> v = {1};
--   auto it = v.begin();
--   ++it;
-- given: behind(it, v), inside(it, v)
-- not given: before(it, v)
moved_forward : shows (numbers_to 2)
    (declares (makes f.Vector (head_at here (callees.Row sequence.VECTOR_CONSTRUCTOR_LIST) None) (operands_from (int 1 ∷ []))) ∷
    declares (set_iterator (member sequence.VECTOR_BEGIN 0 [])) ∷ does (evaluates (up 0)) ∷ [])
    (behind 0 0 ∷ inside 0 0 ∷ []) (before 0 0 ∷ []) ≡ true
unfolding shows
moved_forward = refl

-- `step_forward` by `std::next`: the other one stays
--   std::vector<int> v = {1};
--   auto it = v.begin();
--   auto jt = std::next(it);
-- given: before(it, v), behind(jt, v)
-- not given: before(jt, v), behind(it, v)
next_leaves : shows (numbers_to 2)
    (declares (makes f.Vector (head_at here (callees.Row sequence.VECTOR_CONSTRUCTOR_LIST) None) (operands_from (int 1 ∷ []))) ∷
    declares (set_iterator (member sequence.VECTOR_BEGIN 0 [])) ∷ declares (set_iterator (algorithm algorithms.STD_NEXT (iterator 0 ∷ []))) ∷
    [])
    (before 0 0 ∷ behind 1 0 ∷ []) (before 1 0 ∷ behind 0 0 ∷ []) ≡ true
unfolding shows
next_leaves = refl

-- `step_back`
--   std::vector<int> v = {1};
--   auto it = v.end();
--   --it;
-- given: before(it, v)
-- not given: behind(it, v)
moved_back : shows (numbers_to 2)
    (declares (makes f.Vector (head_at here (callees.Row sequence.VECTOR_CONSTRUCTOR_LIST) None) (operands_from (int 1 ∷ []))) ∷
    declares (set_iterator (member sequence.VECTOR_END 0 [])) ∷ does (evaluates (down 0)) ∷ [])
    (before 0 0 ∷ []) (behind 0 0 ∷ []) ≡ true
unfolding shows
moved_back = refl

-- `step_back` by `std::prev`
--   std::vector<int> v = {1};
--   auto it = v.end();
--   auto jt = std::prev(it);
-- given: behind(it, v), before(jt, v)
-- not given: before(it, v), behind(jt, v)
prev_leaves : shows (numbers_to 2)
    (declares (makes f.Vector (head_at here (callees.Row sequence.VECTOR_CONSTRUCTOR_LIST) None) (operands_from (int 1 ∷ []))) ∷
    declares (set_iterator (member sequence.VECTOR_END 0 [])) ∷ declares (set_iterator (algorithm algorithms.STD_PREV (iterator 0 ∷ []))) ∷
    [])
    (behind 0 0 ∷ before 1 0 ∷ []) (before 0 0 ∷ behind 1 0 ∷ []) ≡ true
unfolding shows
prev_leaves = refl

-- `insert_at` in a vector of which no size is known: there is an element then
--   std::vector<int> v = {1};
--   v.clear();
--   auto it = v.begin();
--   it = v.insert(it, 2);
--   std::cout << v.front();
-- given: before(it, v), size(v) >= 1, inside(it, v)
-- not given: behind(it, v)
inserted_is_there : shows (numbers_to 3)
    (declares (makes f.Vector (head_at here (callees.Row sequence.VECTOR_CONSTRUCTOR_LIST) None) (operands_from (int 1 ∷ []))) ∷
    does (evaluates (member sequence.VECTOR_CLEAR 0 [])) ∷ declares (set_iterator (member sequence.VECTOR_BEGIN 0 [])) ∷
    does (moves_to 0 (member sequence.VECTOR_INSERT 0 (iterator 0 ∷ int 2 ∷ []))) ∷
    does (prints (number (held (member_element sequence.VECTOR_FRONT 0 [])) ∷ [])) ∷ [])
    (before 0 0 ∷ size_at_least 0 (pos 1) ∷ inside 0 0 ∷ []) (behind 0 0 ∷ []) ≡ true
unfolding shows
inserted_is_there = refl

-- `push` on one of which no size is known, not even that it is at least 0: nothing is known of the size
--   std::vector<int> v;
--   v.clear();
--   v.push_back(1);
-- not given: size(v) >= 1, size(v) >= 0
pushed_is_not_known : shows (numbers_to 2)
    (declares (makes f.Vector (head_at here (callees.Row sequence.VECTOR_CONSTRUCTOR) None) (operands_from [])) ∷
    does (evaluates (member sequence.VECTOR_CLEAR 0 [])) ∷ does (evaluates (member sequence.VECTOR_PUSH_BACK 0 (int 1 ∷ []))) ∷ [])
    [] (size_at_least 0 (pos 1) ∷ size_at_least 0 (pos 0) ∷ []) ≡ true
unfolding shows
pushed_is_not_known = refl

-- `test_not_end`, turned round: and there is an element
--   std::vector<int> v;
--   auto it = v.begin();
--   if (it == v.end()) return 0;
-- given: before(it, v), size(v) >= 1
-- not given: behind(it, v)
tested_for_the_end : shows (negsuc 0 ∷ numbers_to 1)
    (declares (makes f.Vector (head_at here (callees.Row sequence.VECTOR_CONSTRUCTOR) None) (operands_from [])) ∷
    declares (set_iterator (member sequence.VECTOR_BEGIN 0 [])) ∷
    choice (test (compared_at here comparisons.Equal (iterator 0) (member sequence.VECTOR_END 0 []))) (gives_back (Some (int 0))) ∷ [])
    (before 0 0 ∷ size_at_least 0 (pos 1) ∷ []) (behind 0 0 ∷ []) ≡ true
unfolding shows
tested_for_the_end = refl

-- `test_not_begin`, turned round
--   std::vector<int> v;
--   auto it = v.end();
--   if (!(it != v.begin())) return 0;
-- given: behind(it, v), size(v) >= 1
-- not given: before(it, v)
tested_for_the_beginning : shows (negsuc 0 ∷ numbers_to 1)
    (declares (makes f.Vector (head_at here (callees.Row sequence.VECTOR_CONSTRUCTOR) None) (operands_from [])) ∷
    declares (set_iterator (member sequence.VECTOR_END 0 [])) ∷
    choice (test (logical_not here (differ (iterator 0) (member sequence.VECTOR_BEGIN 0 [])))) (gives_back (Some (int 0))) ∷ [])
    (behind 0 0 ∷ size_at_least 0 (pos 1) ∷ []) (before 0 0 ∷ []) ≡ true
unfolding shows
tested_for_the_beginning = refl

-- `test_empty`
--   std::vector<int> v;
--   if (v.empty()) return 0;
-- given: size(v) >= 1
tested_for_elements : shows (negsuc 0 ∷ numbers_to 1)
    (declares (makes f.Vector (head_at here (callees.Row sequence.VECTOR_CONSTRUCTOR) None) (operands_from [])) ∷
    choice (test (member sequence.VECTOR_EMPTY 0 [])) (gives_back (Some (int 0))) ∷ [])
    (size_at_least 0 (pos 1) ∷ []) [] ≡ true
unfolding shows
tested_for_elements = refl

-- an operand that is a call is assigned to a fresh variable first: `begin`, `access`; `end`, `step_back`, `access`
--   std::list<int> v = {1};
--   std::cout << *v.begin() << *std::prev(v.end());
-- given: size(v) >= 1
operands_are_fresh : shows (numbers_to 2)
    (declares (makes f.List (head_at here (callees.Row sequence.LIST_CONSTRUCTOR_LIST) None) (operands_from (int 1 ∷ []))) ∷
    does (prints (number (held (star (member sequence.LIST_BEGIN 0 []))) ∷ number (held (star (algorithm algorithms.STD_PREV (member
    sequence.LIST_END 0 [] ∷ [])))) ∷ [])) ∷
    [])
    (size_at_least 0 (pos 1) ∷ []) [] ≡ true
unfolding shows
operands_are_fresh = refl

-- the value of `++it` has the facts of the iterator behind it
--   std::vector<int> v = {1};
--   auto it = v.begin();
--   auto jt = ++it;
-- given: behind(it, v), behind(jt, v)
-- not given: before(jt, v)
steps_are_fresh : shows (numbers_to 2)
    (declares (makes f.Vector (head_at here (callees.Row sequence.VECTOR_CONSTRUCTOR_LIST) None) (operands_from (int 1 ∷ []))) ∷
    declares (set_iterator (member sequence.VECTOR_BEGIN 0 [])) ∷ declares (set_iterator (up 0)) ∷ [])
    (behind 0 0 ∷ behind 1 0 ∷ []) (before 1 0 ∷ []) ≡ true
unfolding shows
steps_are_fresh = refl

-- `test_not_end` of what `begin` gives: there is an element
--   std::vector<int> v;
--   if (v.begin() == v.end()) return 0;
-- given: size(v) >= 1
calls_compare : shows (negsuc 0 ∷ numbers_to 1)
    (declares (makes f.Vector (head_at here (callees.Row sequence.VECTOR_CONSTRUCTOR) None) (operands_from [])) ∷
    choice (test (compared_at here comparisons.Equal (member sequence.VECTOR_BEGIN 0 []) (member sequence.VECTOR_END 0 []))) (gives_back (Some
    (int 0))) ∷
    [])
    (size_at_least 0 (pos 1) ∷ []) [] ≡ true
unfolding shows
calls_compare = refl

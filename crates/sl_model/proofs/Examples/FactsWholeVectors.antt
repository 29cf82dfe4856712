-- What the rules that change a vector as a whole give and leave, and what forms that have no rule drop.
use Rattle.sl_base.specs.declared.form.Form.TheVariants as f
use Rattle.sl_base.specs.declared.scalar.Scalar.TheVariants as t
use Rattle.sl_model.proofs.Examples.FactsShort.{algorithm, head_at, here, int, member, member_element, numbers_to, shows, size_number, star}
use Rattle.sl_model.proofs.Examples.FactsShort.{value_of}
use Rattle.sl_model.proofs.Examples.FactsVectors.{known}
use Rattle.sl_model.specs.Outlines.Facts.{alive, before, behind, below_size, inside, lower_bound, size_at_least, sorted, spare_at_least, up_to_size}
use Rattle.sl_model.specs.Outlines.Facts.{upper_bound}
use Rattle.sl_specs.specs.declared.rows.algorithms.TheConstants as algorithms
use Rattle.sl_specs.specs.declared.rows.sequences.TheConstants as sequence
use Rattle.sl_syntax.specs.Typed.{arithmetic, assigns, call, container, declares, does, evaluates, held, iterator, makes, number, operands_from}
use Rattle.sl_syntax.specs.Typed.{prints}
use Rattle.sl_syntax.specs.declared.operator.Arithmetic.TheVariants as o
use Rattle.sl_syntax.specs.declared.typed.callee.Callee.TheVariants as callees
use Rattle.std.specs.Prelude.{None, [], negsuc, pos, refl, true, ◌++◌, ◌∷◌, ◌≡◌}

-- `clear`: the order is given, room stays; no size is known, not even that it is at least 0
--   c.clear();
-- given: sorted(c), spare(c) >= 3, 0 <= i
-- not given: size(c) >= 0, i <= size(c), inside(it, c), alive(r, c)
clear_leaves : shows (negsuc 0 ∷ numbers_to 4)
    (known ++ (does (evaluates (member sequence.VECTOR_CLEAR 0 [])) ∷ []))
    (sorted 0 ∷ spare_at_least 0 (pos 3) ∷ lower_bound 0 (pos 0) ∷ [])
    (size_at_least 0 (pos 0) ∷ up_to_size 0 0 ∷ inside 0 0 ∷ alive 3 0 ∷ []) ≡ true
unfolding shows
clear_leaves = refl

-- `reserve_more`: iterators are dropped
--   c.reserve(c.size() + 2);
-- given: size(c) >= 3, spare(c) >= 3, sorted(c), i < size(c), j <= size(c)
-- not given: inside(it, c), inside(jt, c), alive(r, c), spare(c) >= 4
reserve_leaves : shows (negsuc 0 ∷ numbers_to 4)
    (known ++
    (does (evaluates (member sequence.VECTOR_RESERVE 0 (arithmetic o.Add t.Size here (member sequence.VECTOR_SIZE 0 []) (size_number 2) ∷ []))) ∷
    []))
    (size_at_least 0 (pos 3) ∷ spare_at_least 0 (pos 3) ∷ sorted 0 ∷ below_size 0 0 ∷ up_to_size 1 0 ∷ [])
    (inside 0 0 ∷ inside 1 0 ∷ alive 3 0 ∷ spare_at_least 0 (pos 4) ∷ []) ≡ true
unfolding shows
reserve_leaves = refl

-- `index` by a scalar and by a literal: writes drop sorted
--   c[i] = 2;
--   c[2] = 1;
-- given: size(c) >= 3, spare(c) >= 3, before(it, c), behind(jt, c), before(kt, c), behind(kt, c), 0 <= i, i <= 0, i < size(c), j <= size(c),
-- alive(r, c)
-- not given: sorted(c)
index_writes : shows (negsuc 0 ∷ numbers_to 4)
    (known ++
    (does (assigns (member_element sequence.VECTOR_SUBSCRIPT 0 (value_of 0 ∷ [])) (int 2)) ∷
    does (assigns (member_element sequence.VECTOR_SUBSCRIPT 0 (size_number 2 ∷ [])) (int 1)) ∷ []))
    (size_at_least 0 (pos 3) ∷ spare_at_least 0 (pos 3) ∷ before 0 0 ∷ behind 1 0 ∷ before 2 0 ∷ behind 2 0 ∷ lower_bound 0 (pos 0) ∷
    upper_bound 0 (pos 0) ∷ below_size 0 0 ∷ up_to_size 1 0 ∷ alive 3 0 ∷ [])
    (sorted 0 ∷ []) ≡ true
unfolding shows
index_writes = refl

-- `sort`: all else is kept
--   *it = 2;
--   std::sort(c.begin(), c.end());
-- given: size(c) >= 3, spare(c) >= 3, sorted(c), before(it, c), behind(jt, c), before(kt, c), behind(kt, c), 0 <= i, i <= 0, i < size(c), j <=
-- size(c), alive(r, c)
-- not given: behind(it, c)
sort_leaves : shows (negsuc 0 ∷ numbers_to 4)
    (known ++
    (does (assigns (star (iterator 0)) (int 2)) ∷
    does (evaluates (algorithm algorithms.STD_SORT (member sequence.VECTOR_BEGIN 0 [] ∷ member sequence.VECTOR_END 0 [] ∷ []))) ∷ []))
    (size_at_least 0 (pos 3) ∷ spare_at_least 0 (pos 3) ∷ sorted 0 ∷ before 0 0 ∷ behind 1 0 ∷ before 2 0 ∷ behind 2 0 ∷
    lower_bound 0 (pos 0) ∷ upper_bound 0 (pos 0) ∷ below_size 0 0 ∷ up_to_size 1 0 ∷ alive 3 0 ∷ [])
    (behind 0 0 ∷ []) ≡ true
unfolding shows
sort_leaves = refl

-- `append_copy`: what is known of the size stays
--   std::vector<int> d;
--   std::copy(d.begin(), d.end(), std::back_inserter(c));
-- given: size(c) >= 3, i < size(c), j <= size(c), sorted(d), size(d) >= 0
-- not given: size(c) >= 4, spare(c) >= 0, sorted(c), inside(it, c), inside(jt, c), alive(r, c)
append_copy_leaves : shows (negsuc 0 ∷ numbers_to 4)
    (known ++
    (declares (makes f.Vector (head_at here (callees.Row sequence.VECTOR_CONSTRUCTOR) None) (operands_from [])) ∷
    does (evaluates (call (head_at here (callees.Appends algorithms.STD_COPY) None) (operands_from (member sequence.VECTOR_BEGIN 1 [] ∷ member
    sequence.VECTOR_END 1 [] ∷ container 0 ∷ [])))) ∷
    []))
    (size_at_least 0 (pos 3) ∷ below_size 0 0 ∷ up_to_size 1 0 ∷ sorted 1 ∷ size_at_least 1 (pos 0) ∷ [])
    (size_at_least 0 (pos 4) ∷ spare_at_least 0 (pos 0) ∷ sorted 0 ∷ inside 0 0 ∷ inside 1 0 ∷ alive 3 0 ∷ []) ≡ true
unfolding shows
append_copy_leaves = refl

-- `erase_tail`, with `std::unique` and with `std::remove`: sorted stays
--   c.erase(std::unique(c.begin(), c.end()), c.end());
--   c.erase(std::remove(c.begin(), c.end(), 2), c.end());
-- given: sorted(c), 0 <= i
-- not given: size(c) >= 0, spare(c) >= 0, i < size(c), i <= size(c), j <= size(c), inside(it, c), alive(r, c)
erase_tail_leaves : shows (negsuc 0 ∷ numbers_to 4)
    (known ++
    (does (evaluates (member sequence.VECTOR_ERASE_RANGE 0 (algorithm algorithms.STD_UNIQUE (member sequence.VECTOR_BEGIN 0 [] ∷ member
    sequence.VECTOR_END 0 [] ∷ []) ∷ member sequence.VECTOR_END 0 [] ∷ []))) ∷
    does (evaluates (member sequence.VECTOR_ERASE_RANGE 0 (algorithm algorithms.STD_REMOVE (member sequence.VECTOR_BEGIN 0 [] ∷ member
    sequence.VECTOR_END 0 [] ∷ int 2 ∷ []) ∷ member sequence.VECTOR_END 0 [] ∷ []))) ∷
    []))
    (sorted 0 ∷ lower_bound 0 (pos 0) ∷ [])
    (size_at_least 0 (pos 0) ∷ spare_at_least 0 (pos 0) ∷ below_size 0 0 ∷ up_to_size 0 0 ∷ up_to_size 1 0 ∷ inside 0 0 ∷ alive 3 0 ∷ []) ≡ true
unfolding shows
erase_tail_leaves = refl

-- `swap`: facts change places; an iterator that is not before the end is dropped
--   std::vector<int> d;
--   c.swap(d);
-- given: size(d) >= 3, spare(d) >= 3, sorted(d), before(it, d), before(kt, d), behind(kt, d), i < size(d), j <= size(d), alive(r, d), size(c) >= 0,
-- sorted(c)
-- not given: size(c) >= 1, spare(c) >= 0, inside(it, c), inside(jt, c), inside(jt, d), i < size(c), alive(r, c)
swap_changes_places : shows (negsuc 0 ∷ numbers_to 4)
    (known ++
    (declares (makes f.Vector (head_at here (callees.Row sequence.VECTOR_CONSTRUCTOR) None) (operands_from [])) ∷
    does (evaluates (member sequence.VECTOR_SWAP 0 (container 1 ∷ []))) ∷ []))
    (size_at_least 1 (pos 3) ∷ spare_at_least 1 (pos 3) ∷ sorted 1 ∷ before 0 1 ∷ before 2 1 ∷ behind 2 1 ∷ below_size 0 1 ∷
    up_to_size 1 1 ∷ alive 3 1 ∷ size_at_least 0 (pos 0) ∷ sorted 0 ∷ [])
    (size_at_least 0 (pos 1) ∷ spare_at_least 0 (pos 0) ∷ inside 0 0 ∷ inside 1 0 ∷ inside 1 1 ∷ below_size 0 0 ∷ alive 3 0 ∷ []) ≡ true
unfolding shows
swap_changes_places = refl

-- `swap` of a container with itself
--   c.swap(c);
-- given: size(c) >= 3, spare(c) >= 3, sorted(c), before(it, c), behind(kt, c), i < size(c), alive(r, c)
-- not given: inside(jt, c)
swap_with_itself : shows (negsuc 0 ∷ numbers_to 4)
    (known ++ (does (evaluates (member sequence.VECTOR_SWAP 0 (container 0 ∷ []))) ∷ []))
    (size_at_least 0 (pos 3) ∷ spare_at_least 0 (pos 3) ∷ sorted 0 ∷ before 0 0 ∷ behind 2 0 ∷ below_size 0 0 ∷ alive 3 0 ∷ [])
    (inside 1 0 ∷ []) ≡ true
unfolding shows
swap_with_itself = refl

-- forms that have no rule and no need drop every fact on what they may change
--   c.resize(2);
-- given: 0 <= i, i <= 0
-- not given: size(c) >= 0, spare(c) >= 0, sorted(c), inside(it, c), i < size(c), j <= size(c), alive(r, c)
other_forms_drop : shows (negsuc 0 ∷ numbers_to 4)
    (known ++ (does (evaluates (member sequence.VECTOR_RESIZE 0 (size_number 2 ∷ []))) ∷ []))
    (lower_bound 0 (pos 0) ∷ upper_bound 0 (pos 0) ∷ [])
    (size_at_least 0 (pos 0) ∷ spare_at_least 0 (pos 0) ∷ sorted 0 ∷ inside 0 0 ∷ below_size 0 0 ∷ up_to_size 1 0 ∷ alive 3 0 ∷ []) ≡ true
unfolding shows
other_forms_drop = refl

-- `at` has no rule: a write of its element may change the container
--   std::cout << c.at(0);
--   c.at(0) = 1;
-- given: 0 <= i
-- not given: size(c) >= 0, sorted(c), inside(it, c), alive(r, c)
at_is_written : shows (negsuc 0 ∷ numbers_to 4)
    (known ++
    (does (prints (number (held (member_element sequence.VECTOR_AT 0 (size_number 0 ∷ []))) ∷ [])) ∷
    does (assigns (member_element sequence.VECTOR_AT 0 (size_number 0 ∷ [])) (int 1)) ∷ []))
    (lower_bound 0 (pos 0) ∷ []) (size_at_least 0 (pos 0) ∷ sorted 0 ∷ inside 0 0 ∷ alive 3 0 ∷ []) ≡ true
unfolding shows
at_is_written = refl

-- `=` has no rule: its left side is dropped, its right side stays
--   std::vector<int> d = {1};
--   d = c;
-- given: size(c) >= 3, spare(c) >= 3, sorted(c), before(it, c), behind(jt, c), before(kt, c), behind(kt, c), 0 <= i, i <= 0, i < size(c), j <=
-- size(c), alive(r, c)
-- not given: size(d) >= 0, sorted(d)
assignment_drops : shows (negsuc 0 ∷ numbers_to 4)
    (known ++
    (declares (makes f.Vector (head_at here (callees.Row sequence.VECTOR_CONSTRUCTOR_LIST) None) (operands_from (int 1 ∷ []))) ∷
    does (evaluates (member sequence.VECTOR_ASSIGNMENT 1 (container 0 ∷ []))) ∷ []))
    (size_at_least 0 (pos 3) ∷ spare_at_least 0 (pos 3) ∷ sorted 0 ∷ before 0 0 ∷ behind 1 0 ∷ before 2 0 ∷ behind 2 0 ∷
    lower_bound 0 (pos 0) ∷ upper_bound 0 (pos 0) ∷ below_size 0 0 ∷ up_to_size 1 0 ∷ alive 3 0 ∷ [])
    (size_at_least 1 (pos 0) ∷ sorted 1 ∷ []) ≡ true
unfolding shows
assignment_drops = refl

-- a constructor other than the empty and the listed one gives nothing
--   std::vector<int> d(2, 7);
--   d.push_back(1);
-- given: size(c) >= 3
-- not given: size(d) >= 0, sorted(d), spare(d) >= 0
other_constructors_give_nothing : shows (negsuc 0 ∷ (numbers_to 4 ++ (pos 6 ∷ pos 7 ∷ pos 8 ∷ [])))
    (known ++
    (declares (makes f.Vector (head_at here (callees.Row sequence.VECTOR_CONSTRUCTOR_FILL) None) (operands_from (size_number 2 ∷ int 7 ∷ []))) ∷
    does (evaluates (member sequence.VECTOR_PUSH_BACK 1 (int 1 ∷ []))) ∷ []))
    (size_at_least 0 (pos 3) ∷ []) (size_at_least 1 (pos 0) ∷ sorted 1 ∷ spare_at_least 1 (pos 0) ∷ []) ≡ true
unfolding shows
other_constructors_give_nothing = refl

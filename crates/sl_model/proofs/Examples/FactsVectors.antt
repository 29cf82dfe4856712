-- What each rule of a vector gives and leaves, column by column: the facts behind statements, and those that are dropped.
use Rattle.sl_base.specs.declared.form.Form.TheVariants as f
use Rattle.sl_base.specs.declared.scalar.Scalar.TheVariants as t
use Rattle.sl_model.proofs.Examples.FactsShort.{algorithm, compared_at, compares, head_at, here, int, member, member_element, numbers_to, shows}
use Rattle.sl_model.proofs.Examples.FactsShort.{size_number, star, value_of}
use Rattle.sl_model.specs.Outlines.Facts.{alive, before, behind, below_size, inside, lower_bound, size_at_least, sorted, spare_at_least, up_to_size}
use Rattle.sl_model.specs.Outlines.Facts.{upper_bound}
use Rattle.sl_specs.specs.declared.rows.algorithms.TheConstants as algorithms
use Rattle.sl_specs.specs.declared.rows.sequences.TheConstants as sequence
use Rattle.sl_syntax.specs.Typed.{Stmt, arithmetic, assigns, binds_reference, choice, declares, does, evaluates, gives_back, held, iterator, makes}
use Rattle.sl_syntax.specs.Typed.{moves_to, number, operands_from, prints, set_iterator, set_scalar, test}
use Rattle.sl_syntax.specs.declared.operator.Arithmetic.TheVariants as o
use Rattle.sl_syntax.specs.declared.operator.Comparison.TheVariants as comparisons
use Rattle.sl_syntax.specs.declared.typed.callee.Callee.TheVariants as callees
use Rattle.std.specs.Prelude.{List, None, Some, [], negsuc, pos, refl, true, ◌++◌, ◌∷◌, ◌≡◌}

-- a vector of which much is known
--   std::vector<int> c = {1, 2, 3};
--   c.reserve(c.size() + 3);
--   std::sort(c.begin(), c.end());
--   auto it = c.begin();
--   auto jt = c.end();
--   auto kt = std::next(it);
--   if (kt == c.end()) return 0;
--   std::size_t i = 0;
--   if (i >= c.size()) return 0;
--   std::size_t j = c.size();
--   int& r = c.front();
abbrev pub known : List Stmt
known =
    (declares (makes f.Vector (head_at here (callees.Row sequence.VECTOR_CONSTRUCTOR_LIST) None) (operands_from (int 1 ∷ int 2 ∷ int 3 ∷ []))) ∷
    does (evaluates (member sequence.VECTOR_RESERVE 0 (arithmetic o.Add t.Size here (member sequence.VECTOR_SIZE 0 []) (size_number 3) ∷ []))) ∷
    does (evaluates (algorithm algorithms.STD_SORT (member sequence.VECTOR_BEGIN 0 [] ∷ member sequence.VECTOR_END 0 [] ∷ []))) ∷
    declares (set_iterator (member sequence.VECTOR_BEGIN 0 [])) ∷ declares (set_iterator (member sequence.VECTOR_END 0 [])) ∷
    declares (set_iterator (algorithm algorithms.STD_NEXT (iterator 0 ∷ []))) ∷
    choice (test (compared_at here comparisons.Equal (iterator 2) (member sequence.VECTOR_END 0 []))) (gives_back (Some (int 0))) ∷
    declares (set_scalar t.Size (size_number 0)) ∷
    choice (test (compares comparisons.GreaterEqual (value_of 0) (member sequence.VECTOR_SIZE 0 []))) (gives_back (Some (int 0))) ∷
    declares (set_scalar t.Size (member sequence.VECTOR_SIZE 0 [])) ∷
    declares (binds_reference (head_at here (callees.Row sequence.VECTOR_FRONT) (Some 0)) (operands_from [])) ∷ [])

-- `declare`, `reserve_more`, `sort`, `begin`, `end`, `step_forward`, `test_not_end`, `set_literal`, `test_below_size`, `take_size` and
-- `bind_reference`: what they give
-- given: size(c) >= 3, spare(c) >= 3, sorted(c), before(it, c), behind(jt, c), before(kt, c), behind(kt, c), 0 <= i, i <= 0, i < size(c), j <=
-- size(c), alive(r, c)
-- not given: size(c) >= 4, spare(c) >= 4, before(jt, c), behind(it, c), j < size(c), 0 <= j
much_is_known : shows (negsuc 0 ∷ numbers_to 4)
    known
    (size_at_least 0 (pos 3) ∷ spare_at_least 0 (pos 3) ∷ sorted 0 ∷ before 0 0 ∷ behind 1 0 ∷ before 2 0 ∷ behind 2 0 ∷
    lower_bound 0 (pos 0) ∷ upper_bound 0 (pos 0) ∷ below_size 0 0 ∷ up_to_size 1 0 ∷ alive 3 0 ∷ [])
    (size_at_least 0 (pos 4) ∷ spare_at_least 0 (pos 4) ∷ before 1 0 ∷ behind 0 0 ∷ below_size 1 0 ∷ lower_bound 1 (pos 0) ∷ []) ≡ true
unfolding shows
much_is_known = refl

-- `access`: a read leaves all facts
--   std::cout << *it;
-- given: size(c) >= 3, spare(c) >= 3, sorted(c), before(it, c), behind(jt, c), before(kt, c), behind(kt, c), 0 <= i, i <= 0, i < size(c), j <=
-- size(c), alive(r, c)
-- not given: behind(it, c)
access_reads : shows (negsuc 0 ∷ numbers_to 4)
    (known ++ (does (prints (number (held (star (iterator 0))) ∷ [])) ∷ []))
    (size_at_least 0 (pos 3) ∷ spare_at_least 0 (pos 3) ∷ sorted 0 ∷ before 0 0 ∷ behind 1 0 ∷ before 2 0 ∷ behind 2 0 ∷
    lower_bound 0 (pos 0) ∷ upper_bound 0 (pos 0) ∷ below_size 0 0 ∷ up_to_size 1 0 ∷ alive 3 0 ∷ [])
    (behind 0 0 ∷ []) ≡ true
unfolding shows
access_reads = refl

-- `access`: a write drops sorted
--   *it = 2;
-- given: size(c) >= 3, spare(c) >= 3, before(it, c), behind(jt, c), before(kt, c), behind(kt, c), 0 <= i, i <= 0, i < size(c), j <= size(c),
-- alive(r, c)
-- not given: sorted(c)
access_writes : shows (negsuc 0 ∷ numbers_to 4)
    (known ++ (does (assigns (star (iterator 0)) (int 2)) ∷ []))
    (size_at_least 0 (pos 3) ∷ spare_at_least 0 (pos 3) ∷ before 0 0 ∷ behind 1 0 ∷ before 2 0 ∷ behind 2 0 ∷ lower_bound 0 (pos 0) ∷
    upper_bound 0 (pos 0) ∷ below_size 0 0 ∷ up_to_size 1 0 ∷ alive 3 0 ∷ [])
    (sorted 0 ∷ []) ≡ true
unfolding shows
access_writes = refl

-- `erase_at`: the size falls, and less than the size becomes at most it; the iterator is inside, others are dropped
--   it = c.erase(it);
-- given: inside(it, c), size(c) >= 2, i <= size(c), spare(c) >= 3, sorted(c), 0 <= i, i <= 0
-- not given: before(it, c), behind(it, c), size(c) >= 3, inside(jt, c), inside(kt, c), i < size(c), j <= size(c), alive(r, c)
erase_at_gives_back : shows (negsuc 0 ∷ numbers_to 4)
    (known ++ (does (moves_to 0 (member sequence.VECTOR_ERASE 0 (iterator 0 ∷ []))) ∷ []))
    (inside 0 0 ∷ size_at_least 0 (pos 2) ∷ up_to_size 0 0 ∷ spare_at_least 0 (pos 3) ∷ sorted 0 ∷ lower_bound 0 (pos 0) ∷
    upper_bound 0 (pos 0) ∷ [])
    (before 0 0 ∷ behind 0 0 ∷ size_at_least 0 (pos 3) ∷ inside 1 0 ∷ inside 2 0 ∷ below_size 0 0 ∷ up_to_size 1 0 ∷ alive 3 0 ∷ []) ≡ true
unfolding shows
erase_at_gives_back = refl

-- `erase_at` without its result: all iterators are dropped
--   c.erase(kt);
-- given: size(c) >= 2, i <= size(c), spare(c) >= 3, sorted(c)
-- not given: inside(kt, c), inside(it, c), inside(jt, c), alive(r, c), i < size(c), j <= size(c)
erase_at_alone : shows (negsuc 0 ∷ numbers_to 4)
    (known ++ (does (evaluates (member sequence.VECTOR_ERASE 0 (iterator 2 ∷ []))) ∷ []))
    (size_at_least 0 (pos 2) ∷ up_to_size 0 0 ∷ spare_at_least 0 (pos 3) ∷ sorted 0 ∷ [])
    (inside 2 0 ∷ inside 0 0 ∷ inside 1 0 ∷ alive 3 0 ∷ below_size 0 0 ∷ up_to_size 1 0 ∷ []) ≡ true
unfolding shows
erase_at_alone = refl

-- `insert_at`: the size rises, spare room falls
--   it = c.insert(it, 3);
-- given: before(it, c), inside(it, c), size(c) >= 4, spare(c) >= 2, i < size(c), j <= size(c)
-- not given: behind(it, c), spare(c) >= 3, sorted(c), inside(jt, c), inside(kt, c), alive(r, c)
insert_at_gives_back : shows (negsuc 0 ∷ numbers_to 4)
    (known ++ (does (moves_to 0 (member sequence.VECTOR_INSERT 0 (iterator 0 ∷ int 3 ∷ []))) ∷ []))
    (before 0 0 ∷ inside 0 0 ∷ size_at_least 0 (pos 4) ∷ spare_at_least 0 (pos 2) ∷ below_size 0 0 ∷ up_to_size 1 0 ∷ [])
    (behind 0 0 ∷ spare_at_least 0 (pos 3) ∷ sorted 0 ∷ inside 1 0 ∷ inside 2 0 ∷ alive 3 0 ∷ []) ≡ true
unfolding shows
insert_at_gives_back = refl

-- `push` with spare room: an iterator before the end stays so, and is not known to be behind the beginning
--   c.push_back(2);
-- given: before(it, c), before(kt, c), inside(kt, c), size(c) >= 4, spare(c) >= 2, i < size(c), j <= size(c), alive(r, c)
-- not given: behind(kt, c), inside(jt, c), spare(c) >= 3, sorted(c)
push_with_room : shows (negsuc 0 ∷ numbers_to 4)
    (known ++ (does (evaluates (member sequence.VECTOR_PUSH_BACK 0 (int 2 ∷ []))) ∷ []))
    (before 0 0 ∷ before 2 0 ∷ inside 2 0 ∷ size_at_least 0 (pos 4) ∷ spare_at_least 0 (pos 2) ∷ below_size 0 0 ∷ up_to_size 1 0 ∷
    alive 3 0 ∷ [])
    (behind 2 0 ∷ inside 1 0 ∷ spare_at_least 0 (pos 3) ∷ sorted 0 ∷ []) ≡ true
unfolding shows
push_with_room = refl

-- `push` until no room is left
--   c.push_back(2); c.push_back(2); c.push_back(2);
--   c.push_back(2);
-- given: size(c) >= 4, i < size(c)
-- not given: inside(it, c), alive(r, c), spare(c) >= 0, sorted(c)
push_uses_up_room : shows (negsuc 0 ∷ numbers_to 4)
    (known ++
    (does (evaluates (member sequence.VECTOR_PUSH_BACK 0 (int 2 ∷ []))) ∷
    does (evaluates (member sequence.VECTOR_PUSH_BACK 0 (int 2 ∷ []))) ∷
    does (evaluates (member sequence.VECTOR_PUSH_BACK 0 (int 2 ∷ []))) ∷
    does (evaluates (member sequence.VECTOR_PUSH_BACK 0 (int 2 ∷ []))) ∷ []))
    (size_at_least 0 (pos 4) ∷ below_size 0 0 ∷ []) (inside 0 0 ∷ alive 3 0 ∷ spare_at_least 0 (pos 0) ∷ sorted 0 ∷ []) ≡ true
unfolding shows
push_uses_up_room = refl

-- `pop`: the size falls, iterators are dropped, sorted stays
--   c.pop_back();
-- given: size(c) >= 2, i <= size(c), spare(c) >= 3, sorted(c)
-- not given: size(c) >= 3, inside(it, c), inside(kt, c), i < size(c), j <= size(c), alive(r, c)
pop_leaves : shows (negsuc 0 ∷ numbers_to 4)
    (known ++ (does (evaluates (member sequence.VECTOR_POP_BACK 0 [])) ∷ []))
    (size_at_least 0 (pos 2) ∷ up_to_size 0 0 ∷ spare_at_least 0 (pos 3) ∷ sorted 0 ∷ [])
    (size_at_least 0 (pos 3) ∷ inside 0 0 ∷ inside 2 0 ∷ below_size 0 0 ∷ up_to_size 1 0 ∷ alive 3 0 ∷ []) ≡ true
unfolding shows
pop_leaves = refl

-- `front_or_back`: a write drops sorted
--   c.back() = 2;
-- given: size(c) >= 3, spare(c) >= 3, before(it, c), behind(jt, c), before(kt, c), behind(kt, c), 0 <= i, i <= 0, i < size(c), j <= size(c),
-- alive(r, c)
-- not given: sorted(c)
back_is_written : shows (negsuc 0 ∷ numbers_to 4)
    (known ++ (does (assigns (member_element sequence.VECTOR_BACK 0 []) (int 2)) ∷ []))
    (size_at_least 0 (pos 3) ∷ spare_at_least 0 (pos 3) ∷ before 0 0 ∷ behind 1 0 ∷ before 2 0 ∷ behind 2 0 ∷ lower_bound 0 (pos 0) ∷
    upper_bound 0 (pos 0) ∷ below_size 0 0 ∷ up_to_size 1 0 ∷ alive 3 0 ∷ [])
    (sorted 0 ∷ []) ≡ true
unfolding shows
back_is_written = refl

-- What rules give and leave for the other forms: lists, deques and forms with keys.
use Rattle.sl_base.specs.declared.form.Form.TheVariants as f
use Rattle.sl_model.proofs.Examples.FactsShort.{algorithm, compared_at, head_at, here, int, member, member_element, numbers_to, shows, size_number}
use Rattle.sl_model.proofs.Examples.FactsShort.{star}
use Rattle.sl_model.specs.Outlines.Facts.{alive, before, behind, inside, size_at_least, sorted}
use Rattle.sl_specs.specs.declared.rows.algorithms.TheConstants as algorithms
use Rattle.sl_specs.specs.declared.rows.associative.TheConstants as associative
use Rattle.sl_specs.specs.declared.rows.sequences.TheConstants as sequence
use Rattle.sl_syntax.specs.Typed.{Stmt, assigns, binds_reference, call, choice, container, declares, does, evaluates, first, gives_back, held}
use Rattle.sl_syntax.specs.Typed.{iterator, makes, moves_to, none, operands_from, set_iterator, test, with}
use Rattle.sl_syntax.specs.declared.operator.Comparison.TheVariants as comparisons
use Rattle.sl_syntax.specs.declared.typed.callee.Callee.TheVariants as callees
use Rattle.sl_syntax.specs.declared.typed.operator.Operator.TheVariants as operators
use Rattle.std.specs.Prelude.{List, None, Some, [], negsuc, pos, refl, true, ◌++◌, ◌∷◌, ◌≡◌}

-- a list of which much is known
--   std::list<int> c = {1, 2, 3};
--   c.sort();
--   auto it = c.begin();
--   auto jt = c.end();
--   auto kt = std::next(it);
--   if (kt == c.end()) return 0;
--   int& r = c.front();
abbrev pub known : List Stmt
known =
    (declares (makes f.List (head_at here (callees.Row sequence.LIST_CONSTRUCTOR_LIST) None) (operands_from (int 1 ∷ int 2 ∷ int 3 ∷ []))) ∷
    does (evaluates (member sequence.LIST_SORT 0 [])) ∷ declares (set_iterator (member sequence.LIST_BEGIN 0 [])) ∷
    declares (set_iterator (member sequence.LIST_END 0 [])) ∷ declares (set_iterator (algorithm algorithms.STD_NEXT (iterator 0 ∷ []))) ∷
    choice (test (compared_at here comparisons.Equal (iterator 2) (member sequence.LIST_END 0 []))) (gives_back (Some (int 0))) ∷
    declares (binds_reference (head_at here (callees.Row sequence.LIST_FRONT) (Some 0)) (operands_from [])) ∷ [])

-- `sort` of a list: what was behind the beginning is only inside
--   c.sort();
-- given: before(it, c), inside(jt, c), before(kt, c), inside(kt, c), sorted(c), alive(r, c), size(c) >= 3
-- not given: behind(jt, c), behind(kt, c)
list_sort_moves : shows (negsuc 0 ∷ numbers_to 4)
    (known ++ (does (evaluates (member sequence.LIST_SORT 0 [])) ∷ []))
    (before 0 0 ∷ inside 1 0 ∷ before 2 0 ∷ inside 2 0 ∷ sorted 0 ∷ alive 3 0 ∷ size_at_least 0 (pos 3) ∷ [])
    (behind 1 0 ∷ behind 2 0 ∷ []) ≡ true
unfolding shows
list_sort_moves = refl

-- `push` on a list keeps iterators and references
--   c.push_front(2);
-- given: before(it, c), behind(jt, c), before(kt, c), behind(kt, c), alive(r, c), size(c) >= 4
-- not given: sorted(c)
list_push_keeps : shows (negsuc 0 ∷ numbers_to 4)
    (known ++ (does (evaluates (member sequence.LIST_PUSH_FRONT 0 (int 2 ∷ []))) ∷ []))
    (before 0 0 ∷ behind 1 0 ∷ before 2 0 ∷ behind 2 0 ∷ alive 3 0 ∷ size_at_least 0 (pos 4) ∷ []) (sorted 0 ∷ []) ≡ true
unfolding shows
list_push_keeps = refl

-- `insert_at` in a list keeps others
--   it = c.insert(it, *kt);
-- given: before(it, c), behind(jt, c), before(kt, c), behind(kt, c), alive(r, c), size(c) >= 4
-- not given: behind(it, c), sorted(c)
list_insert_keeps : shows (negsuc 0 ∷ numbers_to 4)
    (known ++
    (does (moves_to 0 (member sequence.LIST_INSERT 0 (iterator 0 ∷ held (star (iterator 2)) ∷ []))) ∷ []))
    (before 0 0 ∷ behind 1 0 ∷ before 2 0 ∷ behind 2 0 ∷ alive 3 0 ∷ size_at_least 0 (pos 4) ∷ []) (behind 0 0 ∷ sorted 0 ∷ []) ≡ true
unfolding shows
list_insert_keeps = refl

-- `erase_at` in a list: others are dropped
--   it = c.erase(it);
-- given: inside(it, c), size(c) >= 2, sorted(c)
-- not given: inside(kt, c), inside(jt, c), alive(r, c)
list_erase_drops : shows (negsuc 0 ∷ numbers_to 4)
    (known ++ (does (moves_to 0 (member sequence.LIST_ERASE 0 (iterator 0 ∷ []))) ∷ []))
    (inside 0 0 ∷ size_at_least 0 (pos 2) ∷ sorted 0 ∷ []) (inside 2 0 ∷ inside 1 0 ∷ alive 3 0 ∷ []) ≡ true
unfolding shows
list_erase_drops = refl

-- `pop` at the front of a list
--   c.pop_front();
-- given: size(c) >= 2, sorted(c)
-- not given: inside(kt, c), alive(r, c)
list_pop_drops : shows (negsuc 0 ∷ numbers_to 4)
    (known ++ (does (evaluates (member sequence.LIST_POP_FRONT 0 [])) ∷ []))
    (size_at_least 0 (pos 2) ∷ sorted 0 ∷ []) (inside 2 0 ∷ alive 3 0 ∷ []) ≡ true
unfolding shows
list_pop_drops = refl

-- `append_copy` to a list keeps iterators and references
--   std::vector<int> d = {1};
--   std::copy(d.begin(), d.end(), std::back_inserter(c));
-- given: before(it, c), behind(jt, c), behind(kt, c), alive(r, c), size(c) >= 3
-- not given: sorted(c)
list_append_keeps : shows (negsuc 0 ∷ numbers_to 4)
    (known ++
    (declares (makes f.Vector (head_at here (callees.Row sequence.VECTOR_CONSTRUCTOR_LIST) None) (operands_from (int 1 ∷ []))) ∷
    does (evaluates (call (head_at here (callees.Appends algorithms.STD_COPY) None) (operands_from (member sequence.VECTOR_BEGIN 1 [] ∷ member
    sequence.VECTOR_END 1 [] ∷ container 0 ∷ [])))) ∷
    []))
    (before 0 0 ∷ behind 1 0 ∷ behind 2 0 ∷ alive 3 0 ∷ size_at_least 0 (pos 3) ∷ []) (sorted 0 ∷ []) ≡ true
unfolding shows
list_append_keeps = refl

-- `reverse` of a list has no rule
--   c.reverse();
-- not given: size(c) >= 0, inside(it, c), alive(r, c), sorted(c)
list_reverse_drops : shows (negsuc 0 ∷ numbers_to 4)
    (known ++ (does (evaluates (member sequence.LIST_REVERSE 0 [])) ∷ []))
    [] (size_at_least 0 (pos 0) ∷ inside 0 0 ∷ alive 3 0 ∷ sorted 0 ∷ []) ≡ true
unfolding shows
list_reverse_drops = refl

-- `push` on a deque: iterators are dropped, references stay
--   std::deque<int> d = {1, 2};
--   auto it = d.begin();
--   int& r = d.back();
--   d.push_front(3);
-- given: alive(r, d), size(d) >= 3
-- not given: inside(it, d), sorted(d)
deque_push_keeps_references : shows (numbers_to 4)
    (declares (makes f.Deque (head_at here (callees.Row sequence.DEQUE_CONSTRUCTOR_LIST) None) (operands_from (int 1 ∷ int 2 ∷ []))) ∷
    declares (set_iterator (member sequence.DEQUE_BEGIN 0 [])) ∷
    declares (binds_reference (head_at here (callees.Row sequence.DEQUE_BACK) (Some 0)) (operands_from [])) ∷
    does (evaluates (member sequence.DEQUE_PUSH_FRONT 0 (int 3 ∷ []))) ∷ [])
    (alive 1 0 ∷ size_at_least 0 (pos 3) ∷ []) (inside 0 0 ∷ sorted 0 ∷ []) ≡ true
unfolding shows
deque_push_keeps_references = refl

-- `append_copy` to a deque
--   std::deque<int> d = {1, 2};
--   std::vector<int> v;
--   auto it = d.begin();
--   int& r = d[1];
--   std::copy(v.begin(), v.end(), std::back_inserter(d));
-- given: alive(r, d), size(d) >= 2
-- not given: inside(it, d), sorted(d)
deque_append_keeps_references : shows (numbers_to 3)
    (declares (makes f.Deque (head_at here (callees.Row sequence.DEQUE_CONSTRUCTOR_LIST) None) (operands_from (int 1 ∷ int 2 ∷ []))) ∷
    declares (makes f.Vector (head_at here (callees.Row sequence.VECTOR_CONSTRUCTOR) None) (operands_from [])) ∷
    declares (set_iterator (member sequence.DEQUE_BEGIN 0 [])) ∷
    declares (binds_reference (head_at here (callees.Row sequence.DEQUE_SUBSCRIPT) (Some 0)) (with (size_number 1) none)) ∷
    does (evaluates (call (head_at here (callees.Appends algorithms.STD_COPY) None) (operands_from (member sequence.VECTOR_BEGIN 1 [] ∷ member
    sequence.VECTOR_END 1 [] ∷ container 0 ∷ [])))) ∷
    [])
    (alive 1 0 ∷ size_at_least 0 (pos 2) ∷ []) (inside 0 0 ∷ sorted 0 ∷ []) ≡ true
unfolding shows
deque_append_keeps_references = refl

-- `erase_at` in a deque drops references too
--   std::deque<int> d = {1, 2};
--   auto it = d.begin();
--   int& r = d.at(1);
--   it = d.erase(it);
-- given: inside(it, d), size(d) >= 1
-- not given: alive(r, d), size(d) >= 2
deque_erase_drops : shows (numbers_to 3)
    (declares (makes f.Deque (head_at here (callees.Row sequence.DEQUE_CONSTRUCTOR_LIST) None) (operands_from (int 1 ∷ int 2 ∷ []))) ∷
    declares (set_iterator (member sequence.DEQUE_BEGIN 0 [])) ∷
    declares (binds_reference (head_at here (callees.Row sequence.DEQUE_AT) (Some 0)) (operands_from (size_number 1 ∷ []))) ∷
    does (moves_to 0 (member sequence.DEQUE_ERASE 0 (iterator 0 ∷ []))) ∷ [])
    (inside 0 0 ∷ size_at_least 0 (pos 1) ∷ []) (alive 1 0 ∷ size_at_least 0 (pos 2) ∷ []) ≡ true
unfolding shows
deque_erase_drops = refl

-- `insert_key` in a set: listed elements count as one; iterators stay
--   std::set<int> s = {1, 2};
--   auto it = s.begin();
--   s.insert(3);
-- given: before(it, s), size(s) >= 1
-- not given: size(s) >= 2, sorted(s)
set_insert_keeps : shows (numbers_to 4)
    (declares (makes f.Set (head_at here (callees.Row associative.SET_CONSTRUCTOR_LIST) None) (operands_from (int 1 ∷ int 2 ∷ []))) ∷
    declares (set_iterator (member associative.SET_BEGIN 0 [])) ∷ does (evaluates (member associative.SET_INSERT 0 (int 3 ∷ []))) ∷ [])
    (before 0 0 ∷ size_at_least 0 (pos 1) ∷ []) (size_at_least 0 (pos 2) ∷ sorted 0 ∷ []) ≡ true
unfolding shows
set_insert_keeps = refl

-- `insert_key` in an unordered_set: iterators are dropped, references stay
--   std::unordered_set<int> s = {1};
--   auto it = s.begin();
--   const int& r = *it;
--   s.insert(3);
-- given: alive(r, s), size(s) >= 1
-- not given: inside(it, s), sorted(s)
hash_set_insert_drops : shows (numbers_to 4)
    (declares (makes f.HashSet (head_at here (callees.Row associative.HASH_SET_CONSTRUCTOR_LIST) None) (operands_from (int 1 ∷ []))) ∷
    declares (set_iterator (member associative.HASH_SET_BEGIN 0 [])) ∷
    declares (binds_reference (head_at here (callees.Operator operators.Dereference) None) (with (iterator 0) none)) ∷
    does (evaluates (member associative.HASH_SET_INSERT 0 (int 3 ∷ []))) ∷ [])
    (alive 1 0 ∷ size_at_least 0 (pos 1) ∷ []) (inside 0 0 ∷ sorted 0 ∷ []) ≡ true
unfolding shows
hash_set_insert_drops = refl

-- `insert_key` by `[]` of a map, and `emplace`
--   std::map<int, int> m;
--   auto it = m.end();
--   m[1] = 2;
--   m.emplace(2, 3);
-- given: inside(it, m), size(m) >= 1
-- not given: sorted(m), behind(it, m)
map_index_inserts : shows (numbers_to 4)
    (declares (makes f.Map (head_at here (callees.Row associative.MAP_CONSTRUCTOR) None) (operands_from [])) ∷
    declares (set_iterator (member associative.MAP_END 0 [])) ∷
    does (assigns (member_element associative.MAP_SUBSCRIPT 0 (int 1 ∷ [])) (int 2)) ∷
    does (evaluates (member associative.MAP_EMPLACE 0 (int 2 ∷ int 3 ∷ []))) ∷ [])
    (inside 0 0 ∷ size_at_least 0 (pos 1) ∷ []) (sorted 0 ∷ behind 0 0 ∷ []) ≡ true
unfolding shows
map_index_inserts = refl

-- `bind_reference` to an element that `[]` of an unordered_map gives
--   std::unordered_map<int, int> m;
--   auto it = m.end();
--   int& r = m[1];
--   m.emplace(2, 3);
-- given: alive(r, m), size(m) >= 1
-- not given: inside(it, m)
hash_map_index_binds : shows (numbers_to 4)
    (declares (makes f.HashMap (head_at here (callees.Row associative.HASH_MAP_CONSTRUCTOR) None) (operands_from [])) ∷
    declares (set_iterator (member associative.HASH_MAP_END 0 [])) ∷
    declares (binds_reference (head_at here (callees.Row associative.HASH_MAP_SUBSCRIPT) (Some 0)) (with (int 1) none)) ∷
    does (evaluates (member associative.HASH_MAP_EMPLACE 0 (int 2 ∷ int 3 ∷ []))) ∷ [])
    (alive 1 0 ∷ size_at_least 0 (pos 1) ∷ []) (inside 0 0 ∷ []) ≡ true
unfolding shows
hash_map_index_binds = refl

-- `insert_key` in a multiset
--   std::multiset<int> s = {1, 1};
--   auto it = s.begin();
--   s.insert(1);
-- given: before(it, s), size(s) >= 1
-- not given: size(s) >= 2, sorted(s)
multiset_insert_keeps : shows (numbers_to 2)
    (declares (makes f.MultiSet (head_at here (callees.Row associative.MULTI_SET_CONSTRUCTOR_LIST) None) (operands_from (int 1 ∷ int 1 ∷ []))) ∷
    declares (set_iterator (member associative.MULTI_SET_BEGIN 0 [])) ∷
    does (evaluates (member associative.MULTI_SET_INSERT 0 (int 1 ∷ []))) ∷ [])
    (before 0 0 ∷ size_at_least 0 (pos 1) ∷ []) (size_at_least 0 (pos 2) ∷ sorted 0 ∷ []) ≡ true
unfolding shows
multiset_insert_keeps = refl

-- `insert_key` in a multimap, and `erase_at` there
--   std::multimap<int, int> m;
--   m.emplace(1, 1);
--   auto it = m.begin();
--   m.emplace(1, 2);
--   it = m.erase(it);
-- given: inside(it, m), size(m) >= 0
-- not given: size(m) >= 1, before(it, m)
multimap_emplace_keeps : shows (numbers_to 3)
    (declares (makes f.MultiMap (head_at here (callees.Row associative.MULTI_MAP_CONSTRUCTOR) None) (operands_from [])) ∷
    does (evaluates (member associative.MULTI_MAP_EMPLACE 0 (int 1 ∷ int 1 ∷ []))) ∷
    declares (set_iterator (member associative.MULTI_MAP_BEGIN 0 [])) ∷
    does (evaluates (member associative.MULTI_MAP_EMPLACE 0 (int 1 ∷ int 2 ∷ []))) ∷
    does (moves_to 0 (member associative.MULTI_MAP_ERASE 0 (iterator 0 ∷ []))) ∷ [])
    (inside 0 0 ∷ size_at_least 0 (pos 0) ∷ []) (size_at_least 0 (pos 1) ∷ before 0 0 ∷ []) ≡ true
unfolding shows
multimap_emplace_keeps = refl

-- `look_up`: the result is inside
--   std::map<int, int> m;
--   auto it = m.find(1);
--   auto jt = m.lower_bound(2);
--   auto kt = m.upper_bound(3);
-- given: inside(it, m), inside(jt, m), inside(kt, m), sorted(m)
-- not given: before(it, m), behind(jt, m)
looked_up : shows (numbers_to 4)
    (declares (makes f.Map (head_at here (callees.Row associative.MAP_CONSTRUCTOR) None) (operands_from [])) ∷
    declares (set_iterator (member associative.MAP_FIND 0 (int 1 ∷ []))) ∷
    declares (set_iterator (member associative.MAP_LOWER_BOUND 0 (int 2 ∷ []))) ∷
    declares (set_iterator (member associative.MAP_UPPER_BOUND 0 (int 3 ∷ []))) ∷ [])
    (inside 0 0 ∷ inside 1 0 ∷ inside 2 0 ∷ sorted 0 ∷ []) (before 0 0 ∷ behind 1 0 ∷ []) ≡ true
unfolding shows
looked_up = refl

-- what `insert` of a set gives has no facts
--   std::set<int> s;
--   auto it = s.insert(1).first;
--   auto jt = s.find(1);
-- given: size(s) >= 1, inside(jt, s)
-- not given: inside(it, s)
inserted_tells_nothing : shows (numbers_to 2)
    (declares (makes f.Set (head_at here (callees.Row associative.SET_CONSTRUCTOR) None) (operands_from [])) ∷
    declares (set_iterator (first here (member associative.SET_INSERT 0 (int 1 ∷ [])))) ∷
    declares (set_iterator (member associative.SET_FIND 0 (int 1 ∷ []))) ∷ [])
    (size_at_least 0 (pos 1) ∷ inside 1 0 ∷ []) (inside 0 0 ∷ []) ≡ true
unfolding shows
inserted_tells_nothing = refl

-- `erase` of a key has no rule and no need
--   std::set<int> s = {1};
--   auto it = s.begin();
--   s.erase(1);
-- not given: size(s) >= 0, inside(it, s), sorted(s)
erase_key_drops : shows (numbers_to 2)
    (declares (makes f.Set (head_at here (callees.Row associative.SET_CONSTRUCTOR_LIST) None) (operands_from (int 1 ∷ []))) ∷
    declares (set_iterator (member associative.SET_BEGIN 0 [])) ∷ does (evaluates (member associative.SET_ERASE_KEY 0 (int 1 ∷ []))) ∷ [])
    [] (size_at_least 0 (pos 0) ∷ inside 0 0 ∷ sorted 0 ∷ []) ≡ true
unfolding shows
erase_key_drops = refl

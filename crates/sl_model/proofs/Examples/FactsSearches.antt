-- What the rules of algorithms that read a range give, and what they need.
use Rattle.sl_base.specs.declared.form.Form.TheVariants as f
use Rattle.sl_base.specs.declared.scalar.Scalar.TheVariants as t
use Rattle.sl_model.proofs.Examples.FactsShort.{algorithm, head_at, here, int, member, numbers_to, shows}
use Rattle.sl_model.specs.Outlines.Facts.{before, behind, inside, lower_bound, size_at_least, sorted}
use Rattle.sl_specs.specs.declared.rows.algorithms.TheConstants as algorithms
use Rattle.sl_specs.specs.declared.rows.associative.TheConstants as associative
use Rattle.sl_specs.specs.declared.rows.sequences.TheConstants as sequence
use Rattle.sl_syntax.specs.Typed.{call, container, declares, does, evaluates, iterator, makes, number, operands_from, prints, set_iterator}
use Rattle.sl_syntax.specs.Typed.{set_scalar}
use Rattle.sl_syntax.specs.declared.typed.callee.Callee.TheVariants as callees
use Rattle.std.specs.Prelude.{None, [], false, negsuc, pos, refl, true, ◌∷◌, ◌≡◌}

-- `scan`: over all, and with an iterator for one side
--   std::vector<int> v = {2};
--   auto it = v.begin();
--   auto m = std::max_element(it, v.end());
--   auto n = std::find(v.begin(), it, 3);
--   auto k = std::min_element(v.begin(), v.end());
--   std::cout << std::count(it, v.end(), 1) << std::accumulate(v.begin(), v.end(), 0);
-- given: inside(m, v), inside(n, v), inside(k, v), before(it, v), size(v) >= 1
-- not given: before(m, v), behind(n, v)
scans_find : shows (negsuc 0 ∷ numbers_to 4)
    (declares (makes f.Vector (head_at here (callees.Row sequence.VECTOR_CONSTRUCTOR_LIST) None) (operands_from (int 2 ∷ []))) ∷
    declares (set_iterator (member sequence.VECTOR_BEGIN 0 [])) ∷
    declares (set_iterator (algorithm algorithms.STD_MAX_ELEMENT (iterator 0 ∷ member sequence.VECTOR_END 0 [] ∷ []))) ∷
    declares (set_iterator (algorithm algorithms.STD_FIND (member sequence.VECTOR_BEGIN 0 [] ∷ iterator 0 ∷ int 3 ∷ []))) ∷
    declares (set_iterator (algorithm algorithms.STD_MIN_ELEMENT (member sequence.VECTOR_BEGIN 0 [] ∷ member sequence.VECTOR_END 0 [] ∷ []))) ∷
    does (prints (number (algorithm algorithms.STD_COUNT (iterator 0 ∷ member sequence.VECTOR_END 0 [] ∷ int 1 ∷ [])) ∷ number (algorithm
    algorithms.STD_ACCUMULATE (member sequence.VECTOR_BEGIN 0 [] ∷ member sequence.VECTOR_END 0 [] ∷ int 0 ∷ [])) ∷ [])) ∷
    [])
    (inside 1 0 ∷ inside 2 0 ∷ inside 3 0 ∷ before 0 0 ∷ size_at_least 0 (pos 1) ∷ []) (before 1 0 ∷ behind 2 0 ∷ []) ≡ true
unfolding shows
scans_find = refl

-- `search_sorted`: where sorted is given
--   std::vector<int> v;
--   auto it = v.begin();
--   auto m = std::lower_bound(v.begin(), v.end(), 1);
--   auto n = std::upper_bound(it, v.end(), 1);
--   bool b = std::binary_search(v.begin(), v.end(), 1);
-- given: inside(m, v), inside(n, v), sorted(v)
-- not given: before(m, v), 0 <= b
searches_find : shows (numbers_to 2)
    (declares (makes f.Vector (head_at here (callees.Row sequence.VECTOR_CONSTRUCTOR) None) (operands_from [])) ∷
    declares (set_iterator (member sequence.VECTOR_BEGIN 0 [])) ∷
    declares (set_iterator (algorithm algorithms.STD_LOWER_BOUND (member sequence.VECTOR_BEGIN 0 [] ∷ member sequence.VECTOR_END 0 [] ∷ int 1 ∷
    []))) ∷
    declares (set_iterator (algorithm algorithms.STD_UPPER_BOUND (iterator 0 ∷ member sequence.VECTOR_END 0 [] ∷ int 1 ∷ []))) ∷
    declares (set_scalar t.Bool (algorithm algorithms.STD_BINARY_SEARCH (member sequence.VECTOR_BEGIN 0 [] ∷ member sequence.VECTOR_END 0 [] ∷
    int 1 ∷ []))) ∷
    [])
    (inside 1 0 ∷ inside 2 0 ∷ sorted 0 ∷ []) (before 1 0 ∷ lower_bound 0 (pos 0) ∷ []) ≡ true
unfolding shows
searches_find = refl

-- `search_sorted` over a set and a multiset, which need no fact
--   std::set<int> s = {2};
--   std::multiset<int> u = {2};
--   auto m = std::lower_bound(s.begin(), s.end(), 1);
--   auto n = std::lower_bound(u.begin(), u.end(), 1);
-- given: inside(m, s), inside(n, u)
-- not given: sorted(s)
sets_ascend : shows (numbers_to 3)
    (declares (makes f.Set (head_at here (callees.Row associative.SET_CONSTRUCTOR_LIST) None) (operands_from (int 2 ∷ []))) ∷
    declares (makes f.MultiSet (head_at here (callees.Row associative.MULTI_SET_CONSTRUCTOR_LIST) None) (operands_from (int 2 ∷ []))) ∷
    declares (set_iterator (algorithm algorithms.STD_LOWER_BOUND (member associative.SET_BEGIN 0 [] ∷ member associative.SET_END 0 [] ∷ int 1 ∷
    []))) ∷
    declares (set_iterator (algorithm algorithms.STD_LOWER_BOUND (member associative.MULTI_SET_BEGIN 1 [] ∷ member associative.MULTI_SET_END 1 []
    ∷ int 1 ∷ []))) ∷
    [])
    (inside 0 0 ∷ inside 1 1 ∷ []) (sorted 0 ∷ []) ≡ true
unfolding shows
sets_ascend = refl

-- `search_sorted` without
--   std::vector<int> v = {2, 1};
--   auto m = std::lower_bound(v.begin(), v.end(), 1);
searching_needs_order : shows (numbers_to 3)
    (declares (makes f.Vector (head_at here (callees.Row sequence.VECTOR_CONSTRUCTOR_LIST) None) (operands_from (int 2 ∷ int 1 ∷ []))) ∷
    declares (set_iterator (algorithm algorithms.STD_LOWER_BOUND (member sequence.VECTOR_BEGIN 0 [] ∷ member sequence.VECTOR_END 0 [] ∷ int 1 ∷
    []))) ∷
    [])
    [] [] ≡ false
unfolding shows
searching_needs_order = refl

-- `search_sorted` over an unordered_set
--   std::unordered_set<int> s = {2};
--   auto m = std::lower_bound(s.begin(), s.end(), 1);
searching_a_hash_set : shows (numbers_to 3)
    (declares (makes f.HashSet (head_at here (callees.Row associative.HASH_SET_CONSTRUCTOR_LIST) None) (operands_from (int 2 ∷ []))) ∷
    declares (set_iterator (algorithm algorithms.STD_LOWER_BOUND (member associative.HASH_SET_BEGIN 0 [] ∷ member associative.HASH_SET_END 0 [] ∷
    int 1 ∷ []))) ∷
    [])
    [] [] ≡ false
unfolding shows
searching_a_hash_set = refl

-- `append_copy` of a range with an iterator for one side
--   std::vector<int> v = {2};
--   std::list<int> l;
--   auto it = v.begin();
--   std::copy(it, v.end(), std::back_inserter(l));
-- given: size(l) >= 0, before(it, v)
-- not given: sorted(l)
appends_from_an_iterator : shows (numbers_to 3)
    (declares (makes f.Vector (head_at here (callees.Row sequence.VECTOR_CONSTRUCTOR_LIST) None) (operands_from (int 2 ∷ []))) ∷
    declares (makes f.List (head_at here (callees.Row sequence.LIST_CONSTRUCTOR) None) (operands_from [])) ∷
    declares (set_iterator (member sequence.VECTOR_BEGIN 0 [])) ∷
    does (evaluates (call (head_at here (callees.Appends algorithms.STD_COPY) None) (operands_from (iterator 0 ∷ member sequence.VECTOR_END 0 []
    ∷ container 1 ∷ [])))) ∷
    [])
    (size_at_least 1 (pos 0) ∷ before 0 0 ∷ []) (sorted 1 ∷ []) ≡ true
unfolding shows
appends_from_an_iterator = refl

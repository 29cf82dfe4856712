-- The number of each row by its name, and the call that it is of as it is printed.
use Rattle.std.specs.Prelude.{ℕ, ◌+◌, List, [], ◌∷◌, codes}
use Rattle.sl_specs.specs.declared.rows.sequences.TheConstants as sequence
use Rattle.sl_specs.specs.declared.rows.associative.TheConstants as associative
use Rattle.sl_specs.specs.declared.rows.algorithms.TheConstants as algorithm
use Rattle.sl_specs.specs.Rows.{Row}
use Rattle.sl_specs.specs.Printed.{call_line}

-- these rows as they are printed, each with its place, of which the first is n
abbrev pub places : ℕ → List Row → List (ℕ × List ℕ)
places n [] = []
places n (r ∷ rs) = (n, call_line r) ∷ places (n + 1) rs

-- the names
abbrev pub named_rows : List (ℕ × List ℕ)
named_rows =
    (sequence.VECTOR_CONSTRUCTOR, codes "vector.constructor()") ∷
    (sequence.VECTOR_CONSTRUCTOR_LIST, codes "vector.constructor(list)") ∷
    (sequence.VECTOR_CONSTRUCTOR_COPY, codes "vector.constructor(c)") ∷
    (sequence.VECTOR_CONSTRUCTOR_COUNT, codes "vector.constructor(n)") ∷
    (sequence.VECTOR_CONSTRUCTOR_FILL, codes "vector.constructor(n, x)") ∷
    (sequence.VECTOR_CONSTRUCTOR_RANGE, codes "vector.constructor(f, l)") ∷
    (sequence.VECTOR_ASSIGNMENT, codes "vector.=(c)") ∷
    (sequence.VECTOR_BEGIN, codes "vector.begin()") ∷
    (sequence.VECTOR_END, codes "vector.end()") ∷
    (sequence.VECTOR_SIZE, codes "vector.size()") ∷
    (sequence.VECTOR_EMPTY, codes "vector.empty()") ∷
    (sequence.VECTOR_FRONT, codes "vector.front()") ∷
    (sequence.VECTOR_BACK, codes "vector.back()") ∷
    (sequence.VECTOR_AT, codes "vector.at(n)") ∷
    (sequence.VECTOR_SUBSCRIPT, codes "vector.[](n)") ∷
    (sequence.VECTOR_PUSH_BACK, codes "vector.push_back(x)") ∷
    (sequence.VECTOR_POP_BACK, codes "vector.pop_back()") ∷
    (sequence.VECTOR_INSERT, codes "vector.insert(p, x)") ∷
    (sequence.VECTOR_INSERT_FILL, codes "vector.insert(p, n, x)") ∷
    (sequence.VECTOR_INSERT_RANGE, codes "vector.insert(p, f, l)") ∷
    (sequence.VECTOR_ERASE, codes "vector.erase(p)") ∷
    (sequence.VECTOR_ERASE_RANGE, codes "vector.erase(f, l)") ∷
    (sequence.VECTOR_CLEAR, codes "vector.clear()") ∷
    (sequence.VECTOR_RESIZE, codes "vector.resize(n)") ∷
    (sequence.VECTOR_RESIZE_FILL, codes "vector.resize(n, x)") ∷
    (sequence.VECTOR_ASSIGN, codes "vector.assign(n, x)") ∷
    (sequence.VECTOR_RESERVE, codes "vector.reserve(n)") ∷
    (sequence.VECTOR_SWAP, codes "vector.swap(c)") ∷
    (sequence.DEQUE_CONSTRUCTOR, codes "deque.constructor()") ∷
    (sequence.DEQUE_CONSTRUCTOR_LIST, codes "deque.constructor(list)") ∷
    (sequence.DEQUE_CONSTRUCTOR_COPY, codes "deque.constructor(c)") ∷
    (sequence.DEQUE_CONSTRUCTOR_COUNT, codes "deque.constructor(n)") ∷
    (sequence.DEQUE_CONSTRUCTOR_FILL, codes "deque.constructor(n, x)") ∷
    (sequence.DEQUE_CONSTRUCTOR_RANGE, codes "deque.constructor(f, l)") ∷
    (sequence.DEQUE_ASSIGNMENT, codes "deque.=(c)") ∷
    (sequence.DEQUE_BEGIN, codes "deque.begin()") ∷
    (sequence.DEQUE_END, codes "deque.end()") ∷
    (sequence.DEQUE_SIZE, codes "deque.size()") ∷
    (sequence.DEQUE_EMPTY, codes "deque.empty()") ∷
    (sequence.DEQUE_FRONT, codes "deque.front()") ∷
    (sequence.DEQUE_BACK, codes "deque.back()") ∷
    (sequence.DEQUE_AT, codes "deque.at(n)") ∷
    (sequence.DEQUE_SUBSCRIPT, codes "deque.[](n)") ∷
    (sequence.DEQUE_PUSH_BACK, codes "deque.push_back(x)") ∷
    (sequence.DEQUE_PUSH_FRONT, codes "deque.push_front(x)") ∷
    (sequence.DEQUE_POP_BACK, codes "deque.pop_back()") ∷
    (sequence.DEQUE_POP_FRONT, codes "deque.pop_front()") ∷
    (sequence.DEQUE_INSERT, codes "deque.insert(p, x)") ∷
    (sequence.DEQUE_INSERT_FILL, codes "deque.insert(p, n, x)") ∷
    (sequence.DEQUE_INSERT_RANGE, codes "deque.insert(p, f, l)") ∷
    (sequence.DEQUE_ERASE, codes "deque.erase(p)") ∷
    (sequence.DEQUE_ERASE_RANGE, codes "deque.erase(f, l)") ∷
    (sequence.DEQUE_CLEAR, codes "deque.clear()") ∷
    (sequence.DEQUE_RESIZE, codes "deque.resize(n)") ∷
    (sequence.DEQUE_RESIZE_FILL, codes "deque.resize(n, x)") ∷
    (sequence.DEQUE_ASSIGN, codes "deque.assign(n, x)") ∷
    (sequence.DEQUE_SWAP, codes "deque.swap(c)") ∷
    (sequence.LIST_CONSTRUCTOR, codes "list.constructor()") ∷
    (sequence.LIST_CONSTRUCTOR_LIST, codes "list.constructor(list)") ∷
    (sequence.LIST_CONSTRUCTOR_COPY, codes "list.constructor(c)") ∷
    (sequence.LIST_CONSTRUCTOR_COUNT, codes "list.constructor(n)") ∷
    (sequence.LIST_CONSTRUCTOR_FILL, codes "list.constructor(n, x)") ∷
    (sequence.LIST_CONSTRUCTOR_RANGE, codes "list.constructor(f, l)") ∷
    (sequence.LIST_ASSIGNMENT, codes "list.=(c)") ∷
    (sequence.LIST_BEGIN, codes "list.begin()") ∷
    (sequence.LIST_END, codes "list.end()") ∷
    (sequence.LIST_SIZE, codes "list.size()") ∷
    (sequence.LIST_EMPTY, codes "list.empty()") ∷
    (sequence.LIST_FRONT, codes "list.front()") ∷
    (sequence.LIST_BACK, codes "list.back()") ∷
    (sequence.LIST_PUSH_BACK, codes "list.push_back(x)") ∷
    (sequence.LIST_PUSH_FRONT, codes "list.push_front(x)") ∷
    (sequence.LIST_POP_BACK, codes "list.pop_back()") ∷
    (sequence.LIST_POP_FRONT, codes "list.pop_front()") ∷
    (sequence.LIST_INSERT, codes "list.insert(p, x)") ∷
    (sequence.LIST_INSERT_FILL, codes "list.insert(p, n, x)") ∷
    (sequence.LIST_INSERT_RANGE, codes "list.insert(p, f, l)") ∷
    (sequence.LIST_ERASE, codes "list.erase(p)") ∷
    (sequence.LIST_ERASE_RANGE, codes "list.erase(f, l)") ∷
    (sequence.LIST_CLEAR, codes "list.clear()") ∷
    (sequence.LIST_RESIZE, codes "list.resize(n)") ∷
    (sequence.LIST_RESIZE_FILL, codes "list.resize(n, x)") ∷
    (sequence.LIST_ASSIGN, codes "list.assign(n, x)") ∷
    (sequence.LIST_SWAP, codes "list.swap(c)") ∷
    (sequence.LIST_SORT, codes "list.sort()") ∷
    (sequence.LIST_REVERSE, codes "list.reverse()") ∷
    (sequence.LIST_UNIQUE, codes "list.unique()") ∷
    (sequence.LIST_REMOVE, codes "list.remove(x)") ∷
    (sequence.LIST_MERGE, codes "list.merge(c)") ∷
    (sequence.LIST_SPLICE, codes "list.splice(p, c)") ∷
    (sequence.LIST_SPLICE_ONE, codes "list.splice(p, c, i)") ∷
    (sequence.LIST_SPLICE_RANGE, codes "list.splice(p, c, f, l)") ∷
    (associative.SET_CONSTRUCTOR, codes "set.constructor()") ∷
    (associative.SET_CONSTRUCTOR_LIST, codes "set.constructor(list)") ∷
    (associative.SET_CONSTRUCTOR_COPY, codes "set.constructor(c)") ∷
    (associative.SET_CONSTRUCTOR_RANGE, codes "set.constructor(f, l)") ∷
    (associative.SET_ASSIGNMENT, codes "set.=(c)") ∷
    (associative.SET_BEGIN, codes "set.begin()") ∷
    (associative.SET_END, codes "set.end()") ∷
    (associative.SET_SIZE, codes "set.size()") ∷
    (associative.SET_EMPTY, codes "set.empty()") ∷
    (associative.SET_INSERT, codes "set.insert(x)") ∷
    (associative.SET_INSERT_RANGE, codes "set.insert(f, l)") ∷
    (associative.SET_ERASE, codes "set.erase(p)") ∷
    (associative.SET_ERASE_RANGE, codes "set.erase(f, l)") ∷
    (associative.SET_ERASE_KEY, codes "set.erase(k)") ∷
    (associative.SET_CLEAR, codes "set.clear()") ∷
    (associative.SET_SWAP, codes "set.swap(c)") ∷
    (associative.SET_FIND, codes "set.find(k)") ∷
    (associative.SET_COUNT, codes "set.count(k)") ∷
    (associative.SET_LOWER_BOUND, codes "set.lower_bound(k)") ∷
    (associative.SET_UPPER_BOUND, codes "set.upper_bound(k)") ∷
    (associative.MAP_CONSTRUCTOR, codes "map.constructor()") ∷
    (associative.MAP_CONSTRUCTOR_COPY, codes "map.constructor(c)") ∷
    (associative.MAP_ASSIGNMENT, codes "map.=(c)") ∷
    (associative.MAP_BEGIN, codes "map.begin()") ∷
    (associative.MAP_END, codes "map.end()") ∷
    (associative.MAP_SIZE, codes "map.size()") ∷
    (associative.MAP_EMPTY, codes "map.empty()") ∷
    (associative.MAP_AT, codes "map.at(k)") ∷
    (associative.MAP_SUBSCRIPT, codes "map.[](k)") ∷
    (associative.MAP_EMPLACE, codes "map.emplace(k, x)") ∷
    (associative.MAP_ERASE, codes "map.erase(p)") ∷
    (associative.MAP_ERASE_RANGE, codes "map.erase(f, l)") ∷
    (associative.MAP_ERASE_KEY, codes "map.erase(k)") ∷
    (associative.MAP_CLEAR, codes "map.clear()") ∷
    (associative.MAP_SWAP, codes "map.swap(c)") ∷
    (associative.MAP_FIND, codes "map.find(k)") ∷
    (associative.MAP_COUNT, codes "map.count(k)") ∷
    (associative.MAP_LOWER_BOUND, codes "map.lower_bound(k)") ∷
    (associative.MAP_UPPER_BOUND, codes "map.upper_bound(k)") ∷
    (associative.HASH_SET_CONSTRUCTOR, codes "unordered_set.constructor()") ∷
    (associative.HASH_SET_CONSTRUCTOR_LIST, codes "unordered_set.constructor(list)") ∷
    (associative.HASH_SET_CONSTRUCTOR_COPY, codes "unordered_set.constructor(c)") ∷
    (associative.HASH_SET_CONSTRUCTOR_RANGE, codes "unordered_set.constructor(f, l)") ∷
    (associative.HASH_SET_ASSIGNMENT, codes "unordered_set.=(c)") ∷
    (associative.HASH_SET_BEGIN, codes "unordered_set.begin()") ∷
    (associative.HASH_SET_END, codes "unordered_set.end()") ∷
    (associative.HASH_SET_SIZE, codes "unordered_set.size()") ∷
    (associative.HASH_SET_EMPTY, codes "unordered_set.empty()") ∷
    (associative.HASH_SET_INSERT, codes "unordered_set.insert(x)") ∷
    (associative.HASH_SET_INSERT_RANGE, codes "unordered_set.insert(f, l)") ∷
    (associative.HASH_SET_ERASE, codes "unordered_set.erase(p)") ∷
    (associative.HASH_SET_ERASE_RANGE, codes "unordered_set.erase(f, l)") ∷
    (associative.HASH_SET_ERASE_KEY, codes "unordered_set.erase(k)") ∷
    (associative.HASH_SET_CLEAR, codes "unordered_set.clear()") ∷
    (associative.HASH_SET_RESERVE, codes "unordered_set.reserve(n)") ∷
    (associative.HASH_SET_SWAP, codes "unordered_set.swap(c)") ∷
    (associative.HASH_SET_FIND, codes "unordered_set.find(k)") ∷
    (associative.HASH_SET_COUNT, codes "unordered_set.count(k)") ∷
    (associative.HASH_MAP_CONSTRUCTOR, codes "unordered_map.constructor()") ∷
    (associative.HASH_MAP_CONSTRUCTOR_COPY, codes "unordered_map.constructor(c)") ∷
    (associative.HASH_MAP_ASSIGNMENT, codes "unordered_map.=(c)") ∷
    (associative.HASH_MAP_BEGIN, codes "unordered_map.begin()") ∷
    (associative.HASH_MAP_END, codes "unordered_map.end()") ∷
    (associative.HASH_MAP_SIZE, codes "unordered_map.size()") ∷
    (associative.HASH_MAP_EMPTY, codes "unordered_map.empty()") ∷
    (associative.HASH_MAP_AT, codes "unordered_map.at(k)") ∷
    (associative.HASH_MAP_SUBSCRIPT, codes "unordered_map.[](k)") ∷
    (associative.HASH_MAP_EMPLACE, codes "unordered_map.emplace(k, x)") ∷
    (associative.HASH_MAP_ERASE, codes "unordered_map.erase(p)") ∷
    (associative.HASH_MAP_ERASE_RANGE, codes "unordered_map.erase(f, l)") ∷
    (associative.HASH_MAP_ERASE_KEY, codes "unordered_map.erase(k)") ∷
    (associative.HASH_MAP_CLEAR, codes "unordered_map.clear()") ∷
    (associative.HASH_MAP_RESERVE, codes "unordered_map.reserve(n)") ∷
    (associative.HASH_MAP_SWAP, codes "unordered_map.swap(c)") ∷
    (associative.HASH_MAP_FIND, codes "unordered_map.find(k)") ∷
    (associative.HASH_MAP_COUNT, codes "unordered_map.count(k)") ∷
    (associative.MULTI_SET_CONSTRUCTOR, codes "multiset.constructor()") ∷
    (associative.MULTI_SET_CONSTRUCTOR_COPY, codes "multiset.constructor(c)") ∷
    (associative.MULTI_SET_CONSTRUCTOR_LIST, codes "multiset.constructor(list)") ∷
    (associative.MULTI_SET_CONSTRUCTOR_RANGE, codes "multiset.constructor(f, l)") ∷
    (associative.MULTI_SET_ASSIGNMENT, codes "multiset.=(c)") ∷
    (associative.MULTI_SET_BEGIN, codes "multiset.begin()") ∷
    (associative.MULTI_SET_END, codes "multiset.end()") ∷
    (associative.MULTI_SET_SIZE, codes "multiset.size()") ∷
    (associative.MULTI_SET_EMPTY, codes "multiset.empty()") ∷
    (associative.MULTI_SET_INSERT, codes "multiset.insert(x)") ∷
    (associative.MULTI_SET_INSERT_RANGE, codes "multiset.insert(f, l)") ∷
    (associative.MULTI_SET_ERASE, codes "multiset.erase(p)") ∷
    (associative.MULTI_SET_ERASE_RANGE, codes "multiset.erase(f, l)") ∷
    (associative.MULTI_SET_ERASE_KEY, codes "multiset.erase(k)") ∷
    (associative.MULTI_SET_CLEAR, codes "multiset.clear()") ∷
    (associative.MULTI_SET_SWAP, codes "multiset.swap(c)") ∷
    (associative.MULTI_SET_FIND, codes "multiset.find(k)") ∷
    (associative.MULTI_SET_COUNT, codes "multiset.count(k)") ∷
    (associative.MULTI_SET_LOWER_BOUND, codes "multiset.lower_bound(k)") ∷
    (associative.MULTI_SET_UPPER_BOUND, codes "multiset.upper_bound(k)") ∷
    (associative.MULTI_SET_EQUAL_RANGE, codes "multiset.equal_range(k)") ∷
    (associative.MULTI_MAP_CONSTRUCTOR, codes "multimap.constructor()") ∷
    (associative.MULTI_MAP_CONSTRUCTOR_COPY, codes "multimap.constructor(c)") ∷
    (associative.MULTI_MAP_ASSIGNMENT, codes "multimap.=(c)") ∷
    (associative.MULTI_MAP_BEGIN, codes "multimap.begin()") ∷
    (associative.MULTI_MAP_END, codes "multimap.end()") ∷
    (associative.MULTI_MAP_SIZE, codes "multimap.size()") ∷
    (associative.MULTI_MAP_EMPTY, codes "multimap.empty()") ∷
    (associative.MULTI_MAP_EMPLACE, codes "multimap.emplace(k, x)") ∷
    (associative.MULTI_MAP_ERASE, codes "multimap.erase(p)") ∷
    (associative.MULTI_MAP_ERASE_RANGE, codes "multimap.erase(f, l)") ∷
    (associative.MULTI_MAP_ERASE_KEY, codes "multimap.erase(k)") ∷
    (associative.MULTI_MAP_CLEAR, codes "multimap.clear()") ∷
    (associative.MULTI_MAP_SWAP, codes "multimap.swap(c)") ∷
    (associative.MULTI_MAP_FIND, codes "multimap.find(k)") ∷
    (associative.MULTI_MAP_COUNT, codes "multimap.count(k)") ∷
    (associative.MULTI_MAP_LOWER_BOUND, codes "multimap.lower_bound(k)") ∷
    (associative.MULTI_MAP_UPPER_BOUND, codes "multimap.upper_bound(k)") ∷
    (associative.MULTI_MAP_EQUAL_RANGE, codes "multimap.equal_range(k)") ∷
    (algorithm.STD_FIND, codes "std::find(f, l, x)") ∷
    (algorithm.STD_COUNT, codes "std::count(f, l, x)") ∷
    (algorithm.STD_SORT, codes "std::sort(f, l)") ∷
    (algorithm.STD_LOWER_BOUND, codes "std::lower_bound(f, l, x)") ∷
    (algorithm.STD_UPPER_BOUND, codes "std::upper_bound(f, l, x)") ∷
    (algorithm.STD_BINARY_SEARCH, codes "std::binary_search(f, l, x)") ∷
    (algorithm.STD_MERGE, codes "std::merge(f, l, f2, l2, o)") ∷
    (algorithm.STD_INCLUDES, codes "std::includes(f, l, f2, l2)") ∷
    (algorithm.STD_SET_UNION, codes "std::set_union(f, l, f2, l2, o)") ∷
    (algorithm.STD_SET_INTERSECTION, codes "std::set_intersection(f, l, f2, l2, o)") ∷
    (algorithm.STD_SET_DIFFERENCE, codes "std::set_difference(f, l, f2, l2, o)") ∷
    (algorithm.STD_COPY, codes "std::copy(f, l, o)") ∷
    (algorithm.STD_FILL, codes "std::fill(f, l, x)") ∷
    (algorithm.STD_REVERSE, codes "std::reverse(f, l)") ∷
    (algorithm.STD_UNIQUE, codes "std::unique(f, l)") ∷
    (algorithm.STD_REMOVE, codes "std::remove(f, l, x)") ∷
    (algorithm.STD_ACCUMULATE, codes "std::accumulate(f, l, x)") ∷
    (algorithm.STD_DISTANCE, codes "std::distance(f, l)") ∷
    (algorithm.STD_ADVANCE, codes "std::advance(it, n)") ∷
    (algorithm.STD_NEXT, codes "std::next(it, n)") ∷
    (algorithm.STD_PREV, codes "std::prev(it, n)") ∷
    (algorithm.STD_MIN_ELEMENT, codes "std::min_element(f, l)") ∷
    (algorithm.STD_MAX_ELEMENT, codes "std::max_element(f, l)") ∷
    (algorithm.STD_BACK_INSERTER, codes "std::back_inserter(c)") ∷
    []

-- Closed calls on vectors, deques and lists, each worked out by hand.
use Rattle.std.specs.Prelude.{◌≡◌, refl, [], ◌∷◌, Some, None, pos}
use Rattle.sl_base.specs.declared.form.Form.TheVariants as f
use Rattle.sl_specs.specs.declared.rows.sequences.TheConstants as row
use Rattle.sl_specs.specs.Table.{table}
use Rattle.sl_model.specs.LibraryCalls.Values.{number, iterator, container_at, trapped, thrown}
use Rattle.sl_model.proofs.Examples.Outcomes.{outcome, in_first, in_second, three, three_and_two, on_first}

-- insert(p, x) of a vector that is full: all is invalidated
vector_insert_grows : outcome 4 (on_first row.VECTOR_INSERT (iterator 1 ∷ number (pos 15) ∷ []) (three f.Vector 3 10 20 30) [])
    ≡ Some (record {
      given = in_first 1 ∷ [];
      number = None;
      keys = (pos 10 ∷ pos 15 ∷ pos 20 ∷ pos 30 ∷ []) ∷ [];
      iterators = None ∷ None ∷ None ∷ None ∷ [];
      references = None ∷ None ∷ None ∷ None ∷ [];
    })
unfolding table
vector_insert_grows = refl

-- where there is room, only from the position on
vector_insert_fits : outcome 4 (on_first row.VECTOR_INSERT (iterator 1 ∷ number (pos 15) ∷ []) (three f.Vector 4 10 20 30) [])
    ≡ Some (record {
      given = in_first 1 ∷ [];
      number = None;
      keys = (pos 10 ∷ pos 15 ∷ pos 20 ∷ pos 30 ∷ []) ∷ [];
      iterators = in_first 0 ∷ None ∷ None ∷ None ∷ [];
      references = in_first 0 ∷ None ∷ None ∷ None ∷ [];
    })
unfolding table
vector_insert_fits = refl

vector_insert_elsewhere : on_first row.VECTOR_INSERT (iterator 4 ∷ number (pos 15) ∷ []) (three_and_two f.Vector 3) [] ≡ trapped 2 1
unfolding table
vector_insert_elsewhere = refl

-- insert(p, f, l) of another container's range
vector_insert_range : outcome 4 (on_first row.VECTOR_INSERT_RANGE (iterator 1 ∷ iterator 4 ∷ iterator 6 ∷ []) (three_and_two f.Vector 5) [])
    ≡ Some (record {
      given = in_first 1 ∷ [];
      number = None;
      keys = (pos 10 ∷ pos 15 ∷ pos 25 ∷ pos 20 ∷ pos 30 ∷ []) ∷ (pos 15 ∷ pos 25 ∷ []) ∷ [];
      iterators = in_first 0 ∷ None ∷ None ∷ None ∷ [];
      references = in_first 0 ∷ None ∷ None ∷ None ∷ [];
    })
unfolding table
vector_insert_range = refl

-- and of its own
vector_insert_own_range : on_first row.VECTOR_INSERT_RANGE (iterator 1 ∷ iterator 0 ∷ iterator 3 ∷ []) (three f.Vector 9 10 20 30) [] ≡ trapped 7 2
unfolding table
vector_insert_own_range = refl

-- erase(p) invalidates from the position on
vector_erase : outcome 4 (on_first row.VECTOR_ERASE (iterator 1 ∷ []) (three f.Vector 3 10 20 30) []) ≡ Some (record {
  given = in_first 1 ∷ [];
  number = None;
  keys = (pos 10 ∷ pos 30 ∷ []) ∷ [];
  iterators = in_first 0 ∷ None ∷ None ∷ None ∷ [];
  references = in_first 0 ∷ None ∷ None ∷ None ∷ [];
})
unfolding table
vector_erase = refl

vector_erase_end : on_first row.VECTOR_ERASE (iterator 3 ∷ []) (three f.Vector 3 10 20 30) [] ≡ trapped 4 1
unfolding table
vector_erase_end = refl

vector_erase_range : outcome 4 (on_first row.VECTOR_ERASE_RANGE (iterator 0 ∷ iterator 2 ∷ []) (three f.Vector 3 10 20 30) []) ≡ Some (record {
  given = in_first 0 ∷ [];
  number = None;
  keys = (pos 30 ∷ []) ∷ [];
  iterators = None ∷ None ∷ None ∷ None ∷ [];
  references = None ∷ None ∷ None ∷ None ∷ [];
})
unfolding table
vector_erase_range = refl

vector_erase_range_backwards : on_first row.VECTOR_ERASE_RANGE (iterator 2 ∷ iterator 1 ∷ []) (three f.Vector 3 10 20 30) [] ≡ trapped 3 1
unfolding table
vector_erase_range_backwards = refl

-- nothing goes, and nothing is invalidated
vector_erase_no_range : outcome 4 (on_first row.VECTOR_ERASE_RANGE (iterator 1 ∷ iterator 1 ∷ []) (three f.Vector 3 10 20 30) []) ≡ Some (record {
  given = in_first 1 ∷ [];
  number = None;
  keys = (pos 10 ∷ pos 20 ∷ pos 30 ∷ []) ∷ [];
  iterators = in_first 0 ∷ in_first 1 ∷ in_first 2 ∷ in_first 3 ∷ [];
  references = in_first 0 ∷ in_first 1 ∷ in_first 2 ∷ None ∷ [];
})
unfolding table
vector_erase_no_range = refl

-- reserve(n) of more than the room invalidates all, and of less nothing
vector_reserve_more : outcome 4 (on_first row.VECTOR_RESERVE (number (pos 9) ∷ []) (three f.Vector 3 10 20 30) []) ≡ Some (record {
  given = [];
  number = None;
  keys = (pos 10 ∷ pos 20 ∷ pos 30 ∷ []) ∷ [];
  iterators = None ∷ None ∷ None ∷ None ∷ [];
  references = None ∷ None ∷ None ∷ None ∷ [];
})
unfolding table
vector_reserve_more = refl

vector_reserve_less : outcome 4 (on_first row.VECTOR_RESERVE (number (pos 3) ∷ []) (three f.Vector 3 10 20 30) []) ≡ Some (record {
  given = [];
  number = None;
  keys = (pos 10 ∷ pos 20 ∷ pos 30 ∷ []) ∷ [];
  iterators = in_first 0 ∷ in_first 1 ∷ in_first 2 ∷ in_first 3 ∷ [];
  references = in_first 0 ∷ in_first 1 ∷ in_first 2 ∷ None ∷ [];
})
unfolding table
vector_reserve_less = refl

-- resize(n) to less invalidates what goes and what is behind
vector_resize : outcome 4 (on_first row.VECTOR_RESIZE (number (pos 1) ∷ []) (three f.Vector 3 10 20 30) []) ≡ Some (record {
  given = [];
  number = None;
  keys = (pos 10 ∷ []) ∷ [];
  iterators = in_first 0 ∷ None ∷ None ∷ None ∷ [];
  references = in_first 0 ∷ None ∷ None ∷ None ∷ [];
})
unfolding table
vector_resize = refl

-- assign(n, x) replaces all
vector_assign : outcome 4 (on_first row.VECTOR_ASSIGN (number (pos 2) ∷ number (pos 7) ∷ []) (three f.Vector 3 10 20 30) []) ≡ Some (record {
  given = [];
  number = None;
  keys = (pos 7 ∷ pos 7 ∷ []) ∷ [];
  iterators = None ∷ None ∷ None ∷ None ∷ [];
  references = None ∷ None ∷ None ∷ None ∷ [];
})
unfolding table
vector_assign = refl

-- swap(c): what stood in one stands in the other, but for the ends
vector_swap : outcome 7 (on_first row.VECTOR_SWAP (container_at 1 ∷ []) (three_and_two f.Vector 3) []) ≡ Some (record {
  given = [];
  number = None;
  keys = (pos 15 ∷ pos 25 ∷ []) ∷ (pos 10 ∷ pos 20 ∷ pos 30 ∷ []) ∷ [];
  iterators = in_second 0 ∷ in_second 1 ∷ in_second 2 ∷ None ∷ in_first 0 ∷ in_first 1 ∷ None ∷ [];
  references = in_second 0 ∷ in_second 1 ∷ in_second 2 ∷ None ∷ in_first 0 ∷ in_first 1 ∷ None ∷ [];
})
unfolding table
vector_swap = refl

vector_at_throws : on_first row.VECTOR_AT (number (pos 3) ∷ []) (three f.Vector 3 10 20 30) [] ≡ thrown
unfolding table
vector_at_throws = refl

-- insert(p, n, x) with n as great as a std::size_t may be: too many elements, whatever the room
vector_insert_too_many : on_first row.VECTOR_INSERT_FILL (iterator 1 ∷ number (pos 18446744073709551615) ∷ number (pos 15) ∷ [])
    (three f.Vector 3 10 20 30) [] ≡ thrown
unfolding table
vector_insert_too_many = refl

vector_subscript_traps : on_first row.VECTOR_SUBSCRIPT (number (pos 3) ∷ []) (three f.Vector 3 10 20 30) [] ≡ trapped 5 0
unfolding table
vector_subscript_traps = refl

-- push_front(x) invalidates all iterators of a deque, and no reference
deque_push_front : outcome 4 (on_first row.DEQUE_PUSH_FRONT (number (pos 5) ∷ []) (three f.Deque 0 10 20 30) []) ≡ Some (record {
  given = [];
  number = None;
  keys = (pos 5 ∷ pos 10 ∷ pos 20 ∷ pos 30 ∷ []) ∷ [];
  iterators = None ∷ None ∷ None ∷ None ∷ [];
  references = in_first 1 ∷ in_first 2 ∷ in_first 3 ∷ None ∷ [];
})
unfolding table
deque_push_front = refl

-- insert(p, x) in the middle invalidates the references too
deque_insert : outcome 4 (on_first row.DEQUE_INSERT (iterator 1 ∷ number (pos 15) ∷ []) (three f.Deque 0 10 20 30) []) ≡ Some (record {
  given = in_first 1 ∷ [];
  number = None;
  keys = (pos 10 ∷ pos 15 ∷ pos 20 ∷ pos 30 ∷ []) ∷ [];
  iterators = None ∷ None ∷ None ∷ None ∷ [];
  references = None ∷ None ∷ None ∷ None ∷ [];
})
unfolding table
deque_insert = refl

-- pop_front() invalidates the first element alone
deque_pop_front : outcome 4 (on_first row.DEQUE_POP_FRONT [] (three f.Deque 0 10 20 30) []) ≡ Some (record {
  given = [];
  number = None;
  keys = (pos 20 ∷ pos 30 ∷ []) ∷ [];
  iterators = None ∷ in_first 0 ∷ in_first 1 ∷ in_first 2 ∷ [];
  references = None ∷ in_first 0 ∷ in_first 1 ∷ None ∷ [];
})
unfolding table
deque_pop_front = refl

-- pop_back() invalidates the last element and the end
deque_pop_back : outcome 4 (on_first row.DEQUE_POP_BACK [] (three f.Deque 0 10 20 30) []) ≡ Some (record {
  given = [];
  number = None;
  keys = (pos 10 ∷ pos 20 ∷ []) ∷ [];
  iterators = in_first 0 ∷ in_first 1 ∷ None ∷ None ∷ [];
  references = in_first 0 ∷ in_first 1 ∷ None ∷ None ∷ [];
})
unfolding table
deque_pop_back = refl

-- erase(p) in the middle invalidates all
deque_erase : outcome 4 (on_first row.DEQUE_ERASE (iterator 1 ∷ []) (three f.Deque 0 10 20 30) []) ≡ Some (record {
  given = in_first 1 ∷ [];
  number = None;
  keys = (pos 10 ∷ pos 30 ∷ []) ∷ [];
  iterators = None ∷ None ∷ None ∷ None ∷ [];
  references = None ∷ None ∷ None ∷ None ∷ [];
})
unfolding table
deque_erase = refl

-- insert(p, x) of a list invalidates nothing
list_insert : outcome 4 (on_first row.LIST_INSERT (iterator 1 ∷ number (pos 15) ∷ []) (three f.List 0 10 20 30) []) ≡ Some (record {
  given = in_first 1 ∷ [];
  number = None;
  keys = (pos 10 ∷ pos 15 ∷ pos 20 ∷ pos 30 ∷ []) ∷ [];
  iterators = in_first 0 ∷ in_first 2 ∷ in_first 3 ∷ in_first 4 ∷ [];
  references = in_first 0 ∷ in_first 2 ∷ in_first 3 ∷ None ∷ [];
})
unfolding table
list_insert = refl

-- erase(p) what goes
list_erase : outcome 4 (on_first row.LIST_ERASE (iterator 1 ∷ []) (three f.List 0 10 20 30) []) ≡ Some (record {
  given = in_first 1 ∷ [];
  number = None;
  keys = (pos 10 ∷ pos 30 ∷ []) ∷ [];
  iterators = in_first 0 ∷ None ∷ in_first 1 ∷ in_first 2 ∷ [];
  references = in_first 0 ∷ None ∷ in_first 1 ∷ None ∷ [];
})
unfolding table
list_erase = refl

-- sort(): each iterator goes with its element
list_sort : outcome 4 (on_first row.LIST_SORT [] (three f.List 0 30 10 20) []) ≡ Some (record {
  given = [];
  number = None;
  keys = (pos 10 ∷ pos 20 ∷ pos 30 ∷ []) ∷ [];
  iterators = in_first 2 ∷ in_first 0 ∷ in_first 1 ∷ in_first 3 ∷ [];
  references = in_first 2 ∷ in_first 0 ∷ in_first 1 ∷ None ∷ [];
})
unfolding table
list_sort = refl

-- unique() takes out the second of two equal ones
list_unique : outcome 4 (on_first row.LIST_UNIQUE [] (three f.List 0 10 10 30) []) ≡ Some (record {
  given = [];
  number = None;
  keys = (pos 10 ∷ pos 30 ∷ []) ∷ [];
  iterators = in_first 0 ∷ None ∷ in_first 1 ∷ in_first 2 ∷ [];
  references = in_first 0 ∷ None ∷ in_first 1 ∷ None ∷ [];
})
unfolding table
list_unique = refl

-- merge(c): all elements go over, with their iterators
list_merge : outcome 7 (on_first row.LIST_MERGE (container_at 1 ∷ []) (three_and_two f.List 0) []) ≡ Some (record {
  given = [];
  number = None;
  keys = (pos 10 ∷ pos 15 ∷ pos 20 ∷ pos 25 ∷ pos 30 ∷ []) ∷ [] ∷ [];
  iterators = in_first 0 ∷ in_first 2 ∷ in_first 4 ∷ in_first 5 ∷ in_first 1 ∷ in_first 3 ∷ in_second 0 ∷ [];
  references = in_first 0 ∷ in_first 2 ∷ in_first 4 ∷ None ∷ in_first 1 ∷ in_first 3 ∷ None ∷ [];
})
unfolding table
list_merge = refl

-- splice(p, c, i): one element goes over
list_splice_one : outcome 7 (on_first row.LIST_SPLICE_ONE (iterator 3 ∷ container_at 1 ∷ iterator 4 ∷ []) (three_and_two f.List 0) []) ≡ Some
    (record {
      given = [];
      number = None;
      keys = (pos 10 ∷ pos 20 ∷ pos 30 ∷ pos 15 ∷ []) ∷ (pos 25 ∷ []) ∷ [];
      iterators = in_first 0 ∷ in_first 1 ∷ in_first 2 ∷ in_first 4 ∷ in_first 3 ∷ in_second 0 ∷ in_second 1 ∷ [];
      references = in_first 0 ∷ in_first 1 ∷ in_first 2 ∷ None ∷ in_first 3 ∷ in_second 0 ∷ None ∷ [];
    })
unfolding table
list_splice_one = refl

-- so does the second of the other list
list_splice_second : outcome 7 (on_first row.LIST_SPLICE_ONE (iterator 3 ∷ container_at 1 ∷ iterator 5 ∷ []) (three_and_two f.List 0) []) ≡ Some
    (record {
      given = [];
      number = None;
      keys = (pos 10 ∷ pos 20 ∷ pos 30 ∷ pos 25 ∷ []) ∷ (pos 15 ∷ []) ∷ [];
      iterators = in_first 0 ∷ in_first 1 ∷ in_first 2 ∷ in_first 4 ∷ in_second 0 ∷ in_first 3 ∷ in_second 1 ∷ [];
      references = in_first 0 ∷ in_first 1 ∷ in_first 2 ∷ None ∷ in_second 0 ∷ in_first 3 ∷ None ∷ [];
    })
unfolding table
list_splice_second = refl

-- splice(p, c, f, l): a range
list_splice_range : outcome 7
    (on_first row.LIST_SPLICE_RANGE (iterator 1 ∷ container_at 1 ∷ iterator 5 ∷ iterator 6 ∷ []) (three_and_two f.List 0) [])
    ≡ Some (record {
      given = [];
      number = None;
      keys = (pos 10 ∷ pos 25 ∷ pos 20 ∷ pos 30 ∷ []) ∷ (pos 15 ∷ []) ∷ [];
      iterators = in_first 0 ∷ in_first 2 ∷ in_first 3 ∷ in_first 4 ∷ in_second 0 ∷ in_first 1 ∷ in_second 1 ∷ [];
      references = in_first 0 ∷ in_first 2 ∷ in_first 3 ∷ None ∷ in_second 0 ∷ in_first 1 ∷ None ∷ [];
    })
unfolding table
list_splice_range = refl

-- splice(p, c): all of them
list_splice : outcome 7 (on_first row.LIST_SPLICE (iterator 0 ∷ container_at 1 ∷ []) (three_and_two f.List 0) []) ≡ Some (record {
  given = [];
  number = None;
  keys = (pos 15 ∷ pos 25 ∷ pos 10 ∷ pos 20 ∷ pos 30 ∷ []) ∷ [] ∷ [];
  iterators = in_first 2 ∷ in_first 3 ∷ in_first 4 ∷ in_first 5 ∷ in_first 0 ∷ in_first 1 ∷ in_second 0 ∷ [];
  references = in_first 2 ∷ in_first 3 ∷ in_first 4 ∷ None ∷ in_first 0 ∷ in_first 1 ∷ None ∷ [];
})
unfolding table
list_splice = refl

-- the last element of a list goes in front of its first
list_splice_within : outcome 4 (on_first row.LIST_SPLICE_ONE (iterator 0 ∷ container_at 0 ∷ iterator 2 ∷ []) (three f.List 0 10 20 30) []) ≡ Some
    (record {
      given = [];
      number = None;
      keys = (pos 30 ∷ pos 10 ∷ pos 20 ∷ []) ∷ [];
      iterators = in_first 1 ∷ in_first 2 ∷ in_first 0 ∷ in_first 3 ∷ [];
      references = in_first 1 ∷ in_first 2 ∷ in_first 0 ∷ None ∷ [];
    })
unfolding table
list_splice_within = refl

list_splice_into_itself : on_first row.LIST_SPLICE (iterator 0 ∷ container_at 0 ∷ []) (three f.List 0 10 20 30) [] ≡ trapped 7 2
unfolding table
list_splice_into_itself = refl

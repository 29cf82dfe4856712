-- Closed calls of algorithms, each worked out by hand.
use Rattle.std.specs.Prelude.{◌≡◌, refl, [], ◌∷◌, Some, None, pos, negsuc}
use Rattle.sl_base.specs.declared.form.Form.TheVariants as f
use Rattle.sl_specs.specs.declared.rows.algorithms.TheConstants as row
use Rattle.sl_specs.specs.Table.{table}
use Rattle.sl_model.specs.LibraryCalls.Values.{number, iterator, trapped, faulted}
use Rattle.sl_model.proofs.Examples.Outcomes.{outcome, in_first, in_second, three, three_and_two, algorithm}

-- find(f, l, x), and the end of the range where there is none
find_there : outcome 4 (algorithm row.STD_FIND (iterator 0 ∷ iterator 3 ∷ number (pos 20) ∷ []) (three f.Vector 3 10 20 30) []) ≡ Some (record {
  given = in_first 1 ∷ [];
  number = None;
  keys = (pos 10 ∷ pos 20 ∷ pos 30 ∷ []) ∷ [];
  iterators = in_first 0 ∷ in_first 1 ∷ in_first 2 ∷ in_first 3 ∷ [];
  references = in_first 0 ∷ in_first 1 ∷ in_first 2 ∷ None ∷ [];
})
unfolding table
find_there = refl

find_none : outcome 4 (algorithm row.STD_FIND (iterator 0 ∷ iterator 2 ∷ number (pos 30) ∷ []) (three f.Vector 3 10 20 30) []) ≡ Some (record {
  given = in_first 2 ∷ [];
  number = None;
  keys = (pos 10 ∷ pos 20 ∷ pos 30 ∷ []) ∷ [];
  iterators = in_first 0 ∷ in_first 1 ∷ in_first 2 ∷ in_first 3 ∷ [];
  references = in_first 0 ∷ in_first 1 ∷ in_first 2 ∷ None ∷ [];
})
unfolding table
find_none = refl

-- the range is one of two containers
find_in_two : algorithm row.STD_FIND (iterator 0 ∷ iterator 5 ∷ number (pos 20) ∷ []) (three_and_two f.Vector 3) [] ≡ trapped 2 2
unfolding table
find_in_two = refl

find_backwards : algorithm row.STD_FIND (iterator 2 ∷ iterator 1 ∷ number (pos 20) ∷ []) (three f.Vector 3 10 20 30) [] ≡ trapped 3 1
unfolding table
find_backwards = refl

find_invalid : algorithm row.STD_FIND (iterator 9 ∷ iterator 3 ∷ number (pos 20) ∷ []) (three f.Vector 3 10 20 30) [] ≡ trapped 1 1
unfolding table
find_invalid = refl

-- lower_bound(f, l, x) of a range that it parts
lower_bound : outcome 4 (algorithm row.STD_LOWER_BOUND (iterator 0 ∷ iterator 3 ∷ number (pos 25) ∷ []) (three f.Vector 3 10 20 30) []) ≡ Some
    (record {
      given = in_first 2 ∷ [];
      number = None;
      keys = (pos 10 ∷ pos 20 ∷ pos 30 ∷ []) ∷ [];
      iterators = in_first 0 ∷ in_first 1 ∷ in_first 2 ∷ in_first 3 ∷ [];
      references = in_first 0 ∷ in_first 1 ∷ in_first 2 ∷ None ∷ [];
    })
unfolding table
lower_bound = refl

-- and of one that it doesn't
lower_bound_not_partitioned : algorithm row.STD_LOWER_BOUND (iterator 0 ∷ iterator 3 ∷ number (pos 15) ∷ [])
    (three f.Vector 3 30 10 20) [] ≡ trapped 10 1
unfolding table
lower_bound_not_partitioned = refl

-- sort(f, l) writes over the elements: each iterator stays where it is
sort : outcome 4 (algorithm row.STD_SORT (iterator 0 ∷ iterator 3 ∷ []) (three f.Vector 3 30 10 20) []) ≡ Some (record {
  given = [];
  number = None;
  keys = (pos 10 ∷ pos 20 ∷ pos 30 ∷ []) ∷ [];
  iterators = in_first 0 ∷ in_first 1 ∷ in_first 2 ∷ in_first 3 ∷ [];
  references = in_first 0 ∷ in_first 1 ∷ in_first 2 ∷ None ∷ [];
})
unfolding table
sort = refl

-- reverse(f, l) of a part
reverse : outcome 4 (algorithm row.STD_REVERSE (iterator 1 ∷ iterator 3 ∷ []) (three f.Vector 3 10 20 30) []) ≡ Some (record {
  given = [];
  number = None;
  keys = (pos 10 ∷ pos 30 ∷ pos 20 ∷ []) ∷ [];
  iterators = in_first 0 ∷ in_first 1 ∷ in_first 2 ∷ in_first 3 ∷ [];
  references = in_first 0 ∷ in_first 1 ∷ in_first 2 ∷ None ∷ [];
})
unfolding table
reverse = refl

-- fill(f, l, x)
fill : outcome 4 (algorithm row.STD_FILL (iterator 0 ∷ iterator 2 ∷ number (pos 7) ∷ []) (three f.Vector 3 10 20 30) []) ≡ Some (record {
  given = [];
  number = None;
  keys = (pos 7 ∷ pos 7 ∷ pos 30 ∷ []) ∷ [];
  iterators = in_first 0 ∷ in_first 1 ∷ in_first 2 ∷ in_first 3 ∷ [];
  references = in_first 0 ∷ in_first 1 ∷ in_first 2 ∷ None ∷ [];
})
unfolding table
fill = refl

-- unique(f, l) leaves a picked number behind the end that it gives
unique : outcome 4 (algorithm row.STD_UNIQUE (iterator 0 ∷ iterator 3 ∷ []) (three f.Vector 3 10 10 30) (7 ∷ [])) ≡ Some (record {
  given = in_first 2 ∷ [];
  number = None;
  keys = (pos 10 ∷ pos 30 ∷ pos 7 ∷ []) ∷ [];
  iterators = in_first 0 ∷ in_first 1 ∷ in_first 2 ∷ in_first 3 ∷ [];
  references = in_first 0 ∷ in_first 1 ∷ in_first 2 ∷ None ∷ [];
})
unfolding table
unique = refl

-- remove(f, l, x)
remove : outcome 4 (algorithm row.STD_REMOVE (iterator 0 ∷ iterator 3 ∷ number (pos 20) ∷ []) (three f.Vector 3 10 20 30) []) ≡ Some (record {
  given = in_first 2 ∷ [];
  number = None;
  keys = (pos 10 ∷ pos 30 ∷ pos 0 ∷ []) ∷ [];
  iterators = in_first 0 ∷ in_first 1 ∷ in_first 2 ∷ in_first 3 ∷ [];
  references = in_first 0 ∷ in_first 1 ∷ in_first 2 ∷ None ∷ [];
})
unfolding table
remove = refl

-- copy(f, l, o) gives the place behind what it wrote
copy : outcome 7 (algorithm row.STD_COPY (iterator 0 ∷ iterator 2 ∷ iterator 4 ∷ []) (three_and_two f.Vector 3) []) ≡ Some (record {
  given = in_second 2 ∷ [];
  number = None;
  keys = (pos 10 ∷ pos 20 ∷ pos 30 ∷ []) ∷ (pos 10 ∷ pos 20 ∷ []) ∷ [];
  iterators = in_first 0 ∷ in_first 1 ∷ in_first 2 ∷ in_first 3 ∷ in_second 0 ∷ in_second 1 ∷ in_second 2 ∷ [];
  references = in_first 0 ∷ in_first 1 ∷ in_first 2 ∷ None ∷ in_second 0 ∷ in_second 1 ∷ None ∷ [];
})
unfolding table
copy = refl

-- three elements don't fit over two
copy_no_room : algorithm row.STD_COPY (iterator 0 ∷ iterator 3 ∷ iterator 4 ∷ []) (three_and_two f.Vector 3) [] ≡ trapped 8 3
unfolding table
copy_no_room = refl

-- the output stands in the range
copy_overlaps : algorithm row.STD_COPY (iterator 0 ∷ iterator 2 ∷ iterator 1 ∷ []) (three f.Vector 3 10 20 30) [] ≡ trapped 9 3
unfolding table
copy_overlaps = refl

-- it may stand in front of it
copy_to_the_left : outcome 4 (algorithm row.STD_COPY (iterator 1 ∷ iterator 3 ∷ iterator 0 ∷ []) (three f.Vector 3 10 20 30) []) ≡ Some (record {
  given = in_first 2 ∷ [];
  number = None;
  keys = (pos 20 ∷ pos 30 ∷ pos 30 ∷ []) ∷ [];
  iterators = in_first 0 ∷ in_first 1 ∷ in_first 2 ∷ in_first 3 ∷ [];
  references = in_first 0 ∷ in_first 1 ∷ in_first 2 ∷ None ∷ [];
})
unfolding table
copy_to_the_left = refl

-- includes(f, l, f2, l2) of a range out of order
includes_not_sorted : algorithm row.STD_INCLUDES (iterator 0 ∷ iterator 3 ∷ iterator 1 ∷ iterator 3 ∷ [])
    (three f.Vector 3 30 10 20) [] ≡ trapped 11 1
unfolding table
includes_not_sorted = refl

-- and of ranges in order
includes : outcome 4 (algorithm row.STD_INCLUDES (iterator 0 ∷ iterator 3 ∷ iterator 1 ∷ iterator 3 ∷ []) (three f.Vector 3 10 20 30) []) ≡ Some
    (record {
      given = [];
      number = Some (pos 1);
      keys = (pos 10 ∷ pos 20 ∷ pos 30 ∷ []) ∷ [];
      iterators = in_first 0 ∷ in_first 1 ∷ in_first 2 ∷ in_first 3 ∷ [];
      references = in_first 0 ∷ in_first 1 ∷ in_first 2 ∷ None ∷ [];
    })
unfolding table
includes = refl

-- accumulate(f, l, x)
accumulate : outcome 4 (algorithm row.STD_ACCUMULATE (iterator 0 ∷ iterator 3 ∷ number (pos 5) ∷ []) (three f.Vector 3 10 20 30) []) ≡ Some (record {
  given = [];
  number = Some (pos 65);
  keys = (pos 10 ∷ pos 20 ∷ pos 30 ∷ []) ∷ [];
  iterators = in_first 0 ∷ in_first 1 ∷ in_first 2 ∷ in_first 3 ∷ [];
  references = in_first 0 ∷ in_first 1 ∷ in_first 2 ∷ None ∷ [];
})
unfolding table
accumulate = refl

-- a sum that passes an int
accumulate_overflows : algorithm row.STD_ACCUMULATE (iterator 0 ∷ iterator 3 ∷ number (pos 2147483640) ∷ [])
    (three f.Vector 3 10 20 30) [] ≡ faulted 1
unfolding table
accumulate_overflows = refl

-- distance(f, l)
distance : outcome 4 (algorithm row.STD_DISTANCE (iterator 0 ∷ iterator 2 ∷ []) (three f.Vector 3 10 20 30) []) ≡ Some (record {
  given = [];
  number = Some (pos 2);
  keys = (pos 10 ∷ pos 20 ∷ pos 30 ∷ []) ∷ [];
  iterators = in_first 0 ∷ in_first 1 ∷ in_first 2 ∷ in_first 3 ∷ [];
  references = in_first 0 ∷ in_first 1 ∷ in_first 2 ∷ None ∷ [];
})
unfolding table
distance = refl

-- backwards, where iterators are random access ones
distance_back : outcome 4 (algorithm row.STD_DISTANCE (iterator 2 ∷ iterator 0 ∷ []) (three f.Vector 3 10 20 30) []) ≡ Some (record {
  given = [];
  number = Some (negsuc 1);
  keys = (pos 10 ∷ pos 20 ∷ pos 30 ∷ []) ∷ [];
  iterators = in_first 0 ∷ in_first 1 ∷ in_first 2 ∷ in_first 3 ∷ [];
  references = in_first 0 ∷ in_first 1 ∷ in_first 2 ∷ None ∷ [];
})
unfolding table
distance_back = refl

-- and where they aren't
distance_back_in_a_list : algorithm row.STD_DISTANCE (iterator 2 ∷ iterator 0 ∷ []) (three f.List 0 10 20 30) [] ≡ trapped 3 1
unfolding table
distance_back_in_a_list = refl

-- next(it, n) up to the end
next : outcome 4 (algorithm row.STD_NEXT (iterator 1 ∷ number (pos 2) ∷ []) (three f.Vector 3 10 20 30) []) ≡ Some (record {
  given = in_first 3 ∷ [];
  number = None;
  keys = (pos 10 ∷ pos 20 ∷ pos 30 ∷ []) ∷ [];
  iterators = in_first 0 ∷ in_first 1 ∷ in_first 2 ∷ in_first 3 ∷ [];
  references = in_first 0 ∷ in_first 1 ∷ in_first 2 ∷ None ∷ [];
})
unfolding table
next = refl

-- and no further
next_too_far : algorithm row.STD_NEXT (iterator 1 ∷ number (pos 3) ∷ []) (three f.Vector 3 10 20 30) [] ≡ trapped 5 1
unfolding table
next_too_far = refl

-- prev(it)
prev : outcome 4 (algorithm row.STD_PREV (iterator 1 ∷ []) (three f.Vector 3 10 20 30) []) ≡ Some (record {
  given = in_first 0 ∷ [];
  number = None;
  keys = (pos 10 ∷ pos 20 ∷ pos 30 ∷ []) ∷ [];
  iterators = in_first 0 ∷ in_first 1 ∷ in_first 2 ∷ in_first 3 ∷ [];
  references = in_first 0 ∷ in_first 1 ∷ in_first 2 ∷ None ∷ [];
})
unfolding table
prev = refl

prev_too_far : algorithm row.STD_PREV (iterator 0 ∷ []) (three f.Vector 3 10 20 30) [] ≡ trapped 5 1
unfolding table
prev_too_far = refl

-- min_element(f, l) and max_element(f, l)
min_element : outcome 4 (algorithm row.STD_MIN_ELEMENT (iterator 0 ∷ iterator 3 ∷ []) (three f.Vector 3 30 10 20) []) ≡ Some (record {
  given = in_first 1 ∷ [];
  number = None;
  keys = (pos 30 ∷ pos 10 ∷ pos 20 ∷ []) ∷ [];
  iterators = in_first 0 ∷ in_first 1 ∷ in_first 2 ∷ in_first 3 ∷ [];
  references = in_first 0 ∷ in_first 1 ∷ in_first 2 ∷ None ∷ [];
})
unfolding table
min_element = refl

max_element : outcome 4 (algorithm row.STD_MAX_ELEMENT (iterator 1 ∷ iterator 3 ∷ []) (three f.Vector 3 30 10 20) []) ≡ Some (record {
  given = in_first 2 ∷ [];
  number = None;
  keys = (pos 30 ∷ pos 10 ∷ pos 20 ∷ []) ∷ [];
  iterators = in_first 0 ∷ in_first 1 ∷ in_first 2 ∷ in_first 3 ∷ [];
  references = in_first 0 ∷ in_first 1 ∷ in_first 2 ∷ None ∷ [];
})
unfolding table
max_element = refl

-- set_union(f, l, f2, l2, o) of two parts of one range into another
set_union : outcome 7
    (algorithm row.STD_SET_UNION (iterator 0 ∷ iterator 1 ∷ iterator 1 ∷ iterator 2 ∷ iterator 4 ∷ []) (three_and_two f.Vector 3) []) ≡ Some (record {
      given = in_second 2 ∷ [];
      number = None;
      keys = (pos 10 ∷ pos 20 ∷ pos 30 ∷ []) ∷ (pos 10 ∷ pos 20 ∷ []) ∷ [];
      iterators = in_first 0 ∷ in_first 1 ∷ in_first 2 ∷ in_first 3 ∷ in_second 0 ∷ in_second 1 ∷ in_second 2 ∷ [];
      references = in_first 0 ∷ in_first 1 ∷ in_first 2 ∷ None ∷ in_second 0 ∷ in_second 1 ∷ None ∷ [];
    })
unfolding table
set_union = refl

-- nothing is in both
set_intersection : outcome 7
    (algorithm row.STD_SET_INTERSECTION (iterator 0 ∷ iterator 1 ∷ iterator 1 ∷ iterator 2 ∷ iterator 4 ∷ []) (three_and_two f.Vector 3) []) ≡ Some
    (record {
      given = in_second 0 ∷ [];
      number = None;
      keys = (pos 10 ∷ pos 20 ∷ pos 30 ∷ []) ∷ (pos 15 ∷ pos 25 ∷ []) ∷ [];
      iterators = in_first 0 ∷ in_first 1 ∷ in_first 2 ∷ in_first 3 ∷ in_second 0 ∷ in_second 1 ∷ in_second 2 ∷ [];
      references = in_first 0 ∷ in_first 1 ∷ in_first 2 ∷ None ∷ in_second 0 ∷ in_second 1 ∷ None ∷ [];
    })
unfolding table
set_intersection = refl

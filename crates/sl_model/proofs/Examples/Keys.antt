-- Closed calls on sets, maps, hash forms and those with equal keys, each worked out by hand.
use Rattle.std.specs.Prelude.{◌≡◌, refl, [], ◌∷◌, Some, None, pos}
use Rattle.sl_base.specs.declared.form.Form.TheVariants as f
use Rattle.sl_specs.specs.declared.rows.associative.TheConstants as row
use Rattle.sl_specs.specs.Table.{table}
use Rattle.sl_model.specs.LibraryCalls.Values.{number, iterator, thrown}
use Rattle.sl_model.proofs.Examples.Outcomes.{outcome, in_first, in_second, three, three_and_two, on_first}

-- insert(x) of a new key puts it where the order does, and invalidates nothing
set_insert : outcome 4 (on_first row.SET_INSERT (number (pos 15) ∷ []) (three f.Set 0 10 20 30) []) ≡ Some (record {
  given = in_first 1 ∷ [];
  number = Some (pos 1);
  keys = (pos 10 ∷ pos 15 ∷ pos 20 ∷ pos 30 ∷ []) ∷ [];
  iterators = in_first 0 ∷ in_first 2 ∷ in_first 3 ∷ in_first 4 ∷ [];
  references = in_first 0 ∷ in_first 2 ∷ in_first 3 ∷ None ∷ [];
})
unfolding table
set_insert = refl

-- a key that is there stays alone
set_insert_known : outcome 4 (on_first row.SET_INSERT (number (pos 20) ∷ []) (three f.Set 0 10 20 30) []) ≡ Some (record {
  given = in_first 1 ∷ [];
  number = Some (pos 0);
  keys = (pos 10 ∷ pos 20 ∷ pos 30 ∷ []) ∷ [];
  iterators = in_first 0 ∷ in_first 1 ∷ in_first 2 ∷ in_first 3 ∷ [];
  references = in_first 0 ∷ in_first 1 ∷ in_first 2 ∷ None ∷ [];
})
unfolding table
set_insert_known = refl

-- erase(k)
set_erase_key : outcome 4 (on_first row.SET_ERASE_KEY (number (pos 20) ∷ []) (three f.Set 0 10 20 30) []) ≡ Some (record {
  given = [];
  number = Some (pos 1);
  keys = (pos 10 ∷ pos 30 ∷ []) ∷ [];
  iterators = in_first 0 ∷ None ∷ in_first 1 ∷ in_first 2 ∷ [];
  references = in_first 0 ∷ None ∷ in_first 1 ∷ None ∷ [];
})
unfolding table
set_erase_key = refl

-- of a key that isn't there
set_erase_no_key : outcome 4 (on_first row.SET_ERASE_KEY (number (pos 25) ∷ []) (three f.Set 0 10 20 30) []) ≡ Some (record {
  given = [];
  number = Some (pos 0);
  keys = (pos 10 ∷ pos 20 ∷ pos 30 ∷ []) ∷ [];
  iterators = in_first 0 ∷ in_first 1 ∷ in_first 2 ∷ in_first 3 ∷ [];
  references = in_first 0 ∷ in_first 1 ∷ in_first 2 ∷ None ∷ [];
})
unfolding table
set_erase_no_key = refl

-- find(k), and the end where there is no such key
set_find : outcome 4 (on_first row.SET_FIND (number (pos 30) ∷ []) (three f.Set 0 10 20 30) []) ≡ Some (record {
  given = in_first 2 ∷ [];
  number = None;
  keys = (pos 10 ∷ pos 20 ∷ pos 30 ∷ []) ∷ [];
  iterators = in_first 0 ∷ in_first 1 ∷ in_first 2 ∷ in_first 3 ∷ [];
  references = in_first 0 ∷ in_first 1 ∷ in_first 2 ∷ None ∷ [];
})
unfolding table
set_find = refl

set_find_none : outcome 4 (on_first row.SET_FIND (number (pos 25) ∷ []) (three f.Set 0 10 20 30) []) ≡ Some (record {
  given = in_first 3 ∷ [];
  number = None;
  keys = (pos 10 ∷ pos 20 ∷ pos 30 ∷ []) ∷ [];
  iterators = in_first 0 ∷ in_first 1 ∷ in_first 2 ∷ in_first 3 ∷ [];
  references = in_first 0 ∷ in_first 1 ∷ in_first 2 ∷ None ∷ [];
})
unfolding table
set_find_none = refl

-- the first that isn't less
set_lower_bound : outcome 4 (on_first row.SET_LOWER_BOUND (number (pos 20) ∷ []) (three f.Set 0 10 20 30) []) ≡ Some (record {
  given = in_first 1 ∷ [];
  number = None;
  keys = (pos 10 ∷ pos 20 ∷ pos 30 ∷ []) ∷ [];
  iterators = in_first 0 ∷ in_first 1 ∷ in_first 2 ∷ in_first 3 ∷ [];
  references = in_first 0 ∷ in_first 1 ∷ in_first 2 ∷ None ∷ [];
})
unfolding table
set_lower_bound = refl

-- the first that is greater
set_upper_bound : outcome 4 (on_first row.SET_UPPER_BOUND (number (pos 20) ∷ []) (three f.Set 0 10 20 30) []) ≡ Some (record {
  given = in_first 2 ∷ [];
  number = None;
  keys = (pos 10 ∷ pos 20 ∷ pos 30 ∷ []) ∷ [];
  iterators = in_first 0 ∷ in_first 1 ∷ in_first 2 ∷ in_first 3 ∷ [];
  references = in_first 0 ∷ in_first 1 ∷ in_first 2 ∷ None ∷ [];
})
unfolding table
set_upper_bound = refl

-- insert(f, l) of another container's range, one by one
set_insert_range : outcome 7 (on_first row.SET_INSERT_RANGE (iterator 4 ∷ iterator 6 ∷ []) (three_and_two f.Set 0) []) ≡ Some (record {
  given = [];
  number = None;
  keys = (pos 10 ∷ pos 15 ∷ pos 20 ∷ pos 25 ∷ pos 30 ∷ []) ∷ (pos 15 ∷ pos 25 ∷ []) ∷ [];
  iterators = in_first 0 ∷ in_first 2 ∷ in_first 4 ∷ in_first 5 ∷ in_second 0 ∷ in_second 1 ∷ in_second 2 ∷ [];
  references = in_first 0 ∷ in_first 2 ∷ in_first 4 ∷ None ∷ in_second 0 ∷ in_second 1 ∷ None ∷ [];
})
unfolding table
set_insert_range = refl

-- m[k] of a new key, under which stands 0
map_subscript : outcome 4 (on_first row.MAP_SUBSCRIPT (number (pos 5) ∷ []) (three f.Map 0 10 20 30) []) ≡ Some (record {
  given = [];
  number = Some (pos 0);
  keys = (pos 5 ∷ pos 10 ∷ pos 20 ∷ pos 30 ∷ []) ∷ [];
  iterators = in_first 1 ∷ in_first 2 ∷ in_first 3 ∷ in_first 4 ∷ [];
  references = in_first 1 ∷ in_first 2 ∷ in_first 3 ∷ None ∷ [];
})
unfolding table
map_subscript = refl

-- at(k) of a key that isn't there
map_at_throws : on_first row.MAP_AT (number (pos 5) ∷ []) (three f.Map 0 10 20 30) [] ≡ thrown
unfolding table
map_at_throws = refl

-- insert(x) where there is room goes where the pick puts it, and invalidates nothing
hash_insert : outcome 4 (on_first row.HASH_SET_INSERT (number (pos 15) ∷ []) (three f.HashSet 4 10 20 30) (2 ∷ [])) ≡ Some (record {
  given = in_first 2 ∷ [];
  number = Some (pos 1);
  keys = (pos 10 ∷ pos 20 ∷ pos 15 ∷ pos 30 ∷ []) ∷ [];
  iterators = in_first 0 ∷ in_first 1 ∷ in_first 3 ∷ in_first 4 ∷ [];
  references = in_first 0 ∷ in_first 1 ∷ in_first 3 ∷ None ∷ [];
})
unfolding table
hash_insert = refl

-- where there is none, all are put in again, each in front here, and 15 then at 1: all iterators are invalidated, and no reference
hash_insert_grows : outcome 4 (on_first row.HASH_SET_INSERT (number (pos 15) ∷ []) (three f.HashSet 3 10 20 30) (1 ∷ 0 ∷ 0 ∷ 0 ∷ 1 ∷ [])) ≡ Some
    (record {
      given = in_first 1 ∷ [];
      number = Some (pos 1);
      keys = (pos 30 ∷ pos 15 ∷ pos 20 ∷ pos 10 ∷ []) ∷ [];
      iterators = None ∷ None ∷ None ∷ None ∷ [];
      references = in_first 3 ∷ in_first 2 ∷ in_first 0 ∷ None ∷ [];
    })
unfolding table
hash_insert_grows = refl

-- a key that is there takes no pick
hash_insert_known : outcome 4 (on_first row.HASH_SET_INSERT (number (pos 20) ∷ []) (three f.HashSet 3 10 20 30) []) ≡ Some (record {
  given = in_first 1 ∷ [];
  number = Some (pos 0);
  keys = (pos 10 ∷ pos 20 ∷ pos 30 ∷ []) ∷ [];
  iterators = in_first 0 ∷ in_first 1 ∷ in_first 2 ∷ in_first 3 ∷ [];
  references = in_first 0 ∷ in_first 1 ∷ in_first 2 ∷ None ∷ [];
})
unfolding table
hash_insert_known = refl

-- reserve(n) puts all in again, each at the end here
hash_reserve : outcome 4 (on_first row.HASH_SET_RESERVE (number (pos 2) ∷ []) (three f.HashSet 9 10 20 30) (0 ∷ 0 ∷ 1 ∷ 2 ∷ [])) ≡ Some (record {
  given = [];
  number = None;
  keys = (pos 10 ∷ pos 20 ∷ pos 30 ∷ []) ∷ [];
  iterators = None ∷ None ∷ None ∷ None ∷ [];
  references = in_first 0 ∷ in_first 1 ∷ in_first 2 ∷ None ∷ [];
})
unfolding table
hash_reserve = refl

-- erase(p) invalidates what goes
hash_erase : outcome 4 (on_first row.HASH_SET_ERASE (iterator 1 ∷ []) (three f.HashSet 3 10 20 30) []) ≡ Some (record {
  given = in_first 1 ∷ [];
  number = None;
  keys = (pos 10 ∷ pos 30 ∷ []) ∷ [];
  iterators = in_first 0 ∷ None ∷ in_first 1 ∷ in_first 2 ∷ [];
  references = in_first 0 ∷ None ∷ in_first 1 ∷ None ∷ [];
})
unfolding table
hash_erase = refl

-- insert(x) puts an equal key behind those that are there
multi_insert : outcome 4 (on_first row.MULTI_SET_INSERT (number (pos 20) ∷ []) (three f.MultiSet 0 10 20 20) []) ≡ Some (record {
  given = in_first 3 ∷ [];
  number = None;
  keys = (pos 10 ∷ pos 20 ∷ pos 20 ∷ pos 20 ∷ []) ∷ [];
  iterators = in_first 0 ∷ in_first 1 ∷ in_first 2 ∷ in_first 4 ∷ [];
  references = in_first 0 ∷ in_first 1 ∷ in_first 2 ∷ None ∷ [];
})
unfolding table
multi_insert = refl

-- equal_range(k)
multi_equal_range : outcome 4 (on_first row.MULTI_SET_EQUAL_RANGE (number (pos 20) ∷ []) (three f.MultiSet 0 10 20 20) []) ≡ Some (record {
  given = in_first 1 ∷ in_first 3 ∷ [];
  number = None;
  keys = (pos 10 ∷ pos 20 ∷ pos 20 ∷ []) ∷ [];
  iterators = in_first 0 ∷ in_first 1 ∷ in_first 2 ∷ in_first 3 ∷ [];
  references = in_first 0 ∷ in_first 1 ∷ in_first 2 ∷ None ∷ [];
})
unfolding table
multi_equal_range = refl

-- find(k) gives the first
multi_find : outcome 4 (on_first row.MULTI_SET_FIND (number (pos 20) ∷ []) (three f.MultiSet 0 10 20 20) []) ≡ Some (record {
  given = in_first 1 ∷ [];
  number = None;
  keys = (pos 10 ∷ pos 20 ∷ pos 20 ∷ []) ∷ [];
  iterators = in_first 0 ∷ in_first 1 ∷ in_first 2 ∷ in_first 3 ∷ [];
  references = in_first 0 ∷ in_first 1 ∷ in_first 2 ∷ None ∷ [];
})
unfolding table
multi_find = refl

-- count(k)
multi_count : outcome 4 (on_first row.MULTI_SET_COUNT (number (pos 20) ∷ []) (three f.MultiSet 0 10 20 20) []) ≡ Some (record {
  given = [];
  number = Some (pos 2);
  keys = (pos 10 ∷ pos 20 ∷ pos 20 ∷ []) ∷ [];
  iterators = in_first 0 ∷ in_first 1 ∷ in_first 2 ∷ in_first 3 ∷ [];
  references = in_first 0 ∷ in_first 1 ∷ in_first 2 ∷ None ∷ [];
})
unfolding table
multi_count = refl

-- erase(k) takes all of them
multi_erase_key : outcome 4 (on_first row.MULTI_SET_ERASE_KEY (number (pos 20) ∷ []) (three f.MultiSet 0 10 20 20) []) ≡ Some (record {
  given = [];
  number = Some (pos 2);
  keys = (pos 10 ∷ []) ∷ [];
  iterators = in_first 0 ∷ None ∷ None ∷ in_first 1 ∷ [];
  references = in_first 0 ∷ None ∷ None ∷ None ∷ [];
})
unfolding table
multi_erase_key = refl

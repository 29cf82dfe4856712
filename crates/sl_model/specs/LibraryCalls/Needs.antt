-- What a call needs of its arguments, and by which failure it ends where needs fail.
--
-- Restates ISO/IEC 14882:2017, [iterator.requirements.general] (valid and dereferenceable iterators, ranges), [sequence.reqmts] and
-- [associative.reqmts] (positions and ranges in the object or not), [list.ops] (`splice`, `merge`), [alg.sorting] (ranges in order,
-- partitions), [algorithms] (outputs), [iterator.operations], [structure.specifications] and [res.on.required].
-- Chosen here: the kinds of failures by their numbers (the constants' names say which), the object as argument 0, and that of
-- several failures the one of least kind counts, and of one kind the one of least argument. A failure may be listed that an earlier
-- one makes meaningless, since only the least counts. An output behind the end of whose container there is no room fails, and so
-- does an appender to a container that holds the input.
use Rattle.std.specs.Prelude.{ℕ, ◌+◌, ◌-◌, ◌==◌, ◌&&◌, ◌||◌, nat_lt, nat_le, Bool, true, false, not, max, min, List, [], ◌∷◌, ◌++◌, length}
use Rattle.std.specs.Prelude.{ℤ, Option, Some, None, slice_index_or, int_lt, if◌then◌else◌}
use Rattle.sl_base.specs.declared.failures.TheConstants.{INVALID_ITERATOR, WRONG_CONTAINER, BAD_RANGE, END_ITERATOR, OUT_OF_RANGE, EMPTY_CONTAINER}
use Rattle.sl_base.specs.declared.failures.TheConstants.{OWN_ELEMENTS, NO_ROOM, OVERLAP, NOT_PARTITIONED, NOT_SORTED}
use Rattle.sl_specs.specs.declared.need.Need.{Need}
use Rattle.sl_specs.specs.declared.need.Need.TheVariants as n
use Rattle.sl_specs.specs.Forms.{is_random_access}
use Rattle.sl_specs.specs.Rows.{Row}
use Rattle.sl_model.specs.Memory.Containers.{Cont, Memory, cont_at, size, keys}
use Rattle.sl_model.specs.Memory.Forms.{step_of, is_moved_back}
use Rattle.sl_model.specs.Memory.Orders.{is_ascending, is_partitioned}
use Rattle.sl_model.specs.LibraryCalls.Values.{Value, container_at}
use Rattle.sl_model.specs.LibraryCalls.Situation.{Situation, own, own_size, argument, place_of, index, container_of, their, their_size, int_of, count_of}
use Rattle.sl_model.specs.LibraryCalls.Situation.{range_keys, range_size}
use Rattle.sl_model.specs.LibraryCalls.Operands.{ranges_of, may_go_back, steps_of, is_copy, output_count}

-- one failure of this kind at this argument, where the test holds
abbrev pub fails_if : Bool → ℕ → ℕ → List (ℕ × ℕ)
fails_if test kind a = if test then (kind, a) ∷ [] else []

-- an iterator that has to stand somewhere
abbrev pub invalid_fails : Option (ℕ × ℕ) → ℕ → List (ℕ × ℕ)
invalid_fails None a = (INVALID_ITERATOR, a) ∷ []
invalid_fails (Some p) a = []

-- an iterator that has to stand in container j
abbrev pub place_fails : ℕ → Option (ℕ × ℕ) → ℕ → List (ℕ × ℕ)
place_fails j None a = (INVALID_ITERATOR, a) ∷ []
place_fails j (Some p) a = fails_if (not (p.0 == j)) WRONG_CONTAINER a

-- an iterator that has to stand on an element of container j, which has n
abbrev pub element_fails : ℕ → ℕ → Option (ℕ × ℕ) → ℕ → List (ℕ × ℕ)
element_fails j n None a = (INVALID_ITERATOR, a) ∷ []
element_fails j n (Some p) a = if p.0 == j then fails_if (p.1 == n) END_ITERATOR a else (WRONG_CONTAINER, a) ∷ []

-- an iterator that has to stand on an element of whichever container
abbrev pub dereference_fails : Memory → Option (ℕ × ℕ) → ℕ → List (ℕ × ℕ)
dereference_fails m None a = (INVALID_ITERATOR, a) ∷ []
dereference_fails m (Some p) a = fails_if (p.1 == size (cont_at m p.0)) END_ITERATOR a

-- two places in container j that have to be in order, where both are there
abbrev pub order_fails : ℕ → Option (ℕ × ℕ) → Option (ℕ × ℕ) → ℕ → List (ℕ × ℕ)
order_fails j None q a = []
order_fails j (Some p) None a = []
order_fails j (Some p) (Some q) a = fails_if ((p.0 == j && q.0 == j) && nat_lt q.1 p.1) BAD_RANGE a

-- a range in container j, which begins at argument a
abbrev pub range_fails : ℕ → Option (ℕ × ℕ) → Option (ℕ × ℕ) → ℕ → List (ℕ × ℕ)
range_fails j p q a = place_fails j p a ++ (place_fails j q (a + 1) ++ order_fails j p q a)

-- two iterators that have to stand in one container: argument a and the next one, at which it fails
abbrev pub one_container_fails : Option (ℕ × ℕ) → Option (ℕ × ℕ) → ℕ → List (ℕ × ℕ)
one_container_fails None q a = []
one_container_fails (Some p) None a = []
one_container_fails (Some p) (Some q) a = fails_if (not (p.0 == q.0)) WRONG_CONTAINER (a + 1)

-- a range of one container, whichever, which begins at argument a, and whose ends may be the wrong way round or not
abbrev pub one_range_fails : Bool → Situation → ℕ → List (ℕ × ℕ)
one_range_fails any_way s a =
    invalid_fails (place_of s a) a
    ++ (invalid_fails (place_of s (a + 1)) (a + 1)
    ++ (one_container_fails (place_of s a) (place_of s (a + 1)) a
    ++ (if any_way then [] else order_fails (container_of s a) (place_of s a) (place_of s (a + 1)) a)))

-- the arguments from a on are a valid range
abbrev pub is_range : Situation → ℕ → Bool
is_range s a = elim (one_range_fails false s a) [ [] ↦ true | f ∷ fs ↦ false ]

-- the failures of a test at the first argument of each range
abbrev pub each_range : (ℕ → List (ℕ × ℕ)) → List ℕ → List (ℕ × ℕ)
each_range fails [] = []
each_range fails (a ∷ more) = fails a ++ each_range fails more

-- the argument at which the only range of a call begins
abbrev pub first_range : Row → ℕ
first_range r = slice_index_or (ranges_of r.letters) 0 1

-- the keys of the range at an argument, where it is one
abbrev pub valid_keys : Situation → ℕ → List ℤ
valid_keys s a = if is_range s a then range_keys s a else []

-- places from low to below high and from low' to below high' have one in common
abbrev pub overlap : ℕ → ℕ → ℕ → ℕ → Bool
overlap low high low' high' = nat_lt (max low low') (min high high')

-- `n` places from an output on overlap a range that begins at argument f: for `std::copy`, the output stands in it
abbrev pub overlaps : Row → Situation → ℕ × ℕ → ℕ → ℕ → Bool
overlaps r s o n f =
    (is_range s f && o.0 == container_of s f)
    && (if is_copy r.call then nat_le (index s f) o.1 && nat_lt o.1 (index s (f + 1)) else overlap o.1 (o.1 + n) (index s f) (index s (f + 1)))

-- an output at argument a that begins at a place and takes so many elements: no room there, or overlap with a range
abbrev pub places_fail : Row → Situation → ℕ → ℕ × ℕ → Option ℕ → List (ℕ × ℕ)
places_fail r s a o None = []
places_fail r s a o (Some n) =
    fails_if (nat_lt (size (cont_at s.memory o.0) - o.1) n) NO_ROOM a
    ++ each_range (λ f. fails_if (overlaps r s o n f) OVERLAP a) (ranges_of r.letters)

-- an output at argument a that begins where an iterator stands
abbrev pub output_place_fails : Row → Situation → ℕ → Option (ℕ × ℕ) → List (ℕ × ℕ)
output_place_fails r s a None = (INVALID_ITERATOR, a) ∷ []
output_place_fails r s a (Some o) = places_fail r s a o (output_count r.call s)

-- a range that begins at argument f holds an element and stands in container j
abbrev pub is_filled_from : Situation → ℕ → ℕ → Bool
is_filled_from s j f = (is_range s f && container_of s f == j) && nat_lt 0 (range_size s f)

-- the output at argument a: a place from an iterator on, or the end of a container behind an appender
abbrev pub output_fails : Row → Situation → ℕ → Value → List (ℕ × ℕ)
output_fails r s a (container_at j) = each_range (λ f. fails_if (is_filled_from s j f) OWN_ELEMENTS a) (ranges_of r.letters)
output_fails r s a v = output_place_fails r s a (place_of s a)

-- an iterator that has to be moved so far
abbrev pub movable_fails : Memory → Option (ℕ × ℕ) → ℤ → List (ℕ × ℕ)
movable_fails m None n = (INVALID_ITERATOR, 1) ∷ []
movable_fails m (Some p) n =
    let c : Cont = cont_at m p.0 in
    elim (step_of (size c) p.1 n) [ None ↦ (OUT_OF_RANGE, 1) ∷ [] | Some k ↦ fails_if (is_moved_back c.form n) OUT_OF_RANGE 1 ]

-- the position, argument 1, stands in the range that begins at argument 3
abbrev pub is_position_inside : Situation → Bool
is_position_inside s = nat_le (index s 3) (index s 1) && nat_lt (index s 1) (index s 4)

-- the kinds and arguments at which a need of a row fails
abbrev pub failures : Row → Situation → Need → List (ℕ × ℕ)
failures r s n.PositionInObject = place_fails s.object (place_of s 1) 1
failures r s n.ErasablePosition = element_fails s.object (own_size s) (place_of s 1) 1
failures r s n.RangeInObject = range_fails s.object (place_of s 1) (place_of s 2) 1
failures r s n.OneRange = each_range (one_range_fails (may_go_back r.letters && is_random_access (own s).form) s) (ranges_of r.letters)
failures r s n.ForeignRange =
    one_range_fails false s (first_range r)
    ++ fails_if (is_range s (first_range r) && container_of s (first_range r) == s.object) OWN_ELEMENTS (first_range r)
failures r s n.NotEmpty = fails_if (own_size s == 0) EMPTY_CONTAINER 0
failures r s n.IndexInSize = fails_if (nat_le (own_size s) (count_of s 1)) OUT_OF_RANGE 0
failures r s n.OtherContainer = fails_if (container_of s 2 == s.object) OWN_ELEMENTS 2
failures r s n.SplicedElement = element_fails (container_of s 2) (their_size s 2) (place_of s 3) 3
failures r s n.SplicedRange =
    range_fails (container_of s 2) (place_of s 3) (place_of s 4) 3
    ++ fails_if ((is_range s 3 && container_of s 2 == s.object) && is_position_inside s) OVERLAP 1
failures r s n.BothSorted =
    fails_if (not (is_ascending (keys (own s)))) NOT_SORTED 0 ++ fails_if (not (is_ascending (keys (their s 1)))) NOT_SORTED 1
failures r s n.PartitionedBelow = fails_if (not (is_partitioned (λ y. int_lt y (int_of s 3)) (valid_keys s 1))) NOT_PARTITIONED 1
failures r s n.PartitionedAbove = fails_if (not (is_partitioned (λ y. not (int_lt (int_of s 3) y)) (valid_keys s 1))) NOT_PARTITIONED 1
failures r s n.RangesSorted = each_range (λ a. fails_if (not (is_ascending (valid_keys s a))) NOT_SORTED a) (ranges_of r.letters)
failures r s n.OutputFits = output_fails r s (length s.values) (argument s (length s.values))
failures r s n.Movable = movable_fails s.memory (place_of s 1) (steps_of r.call s)

-- the failures of several needs
abbrev pub all_failures : Row → List Need → Situation → List (ℕ × ℕ)
all_failures r [] s = []
all_failures r (n ∷ ns) s = failures r s n ++ all_failures r ns s

-- the lesser kind, and of one kind the lesser argument
abbrev pub is_before : ℕ × ℕ → ℕ × ℕ → Bool
is_before f g = nat_lt f.0 g.0 || (f.0 == g.0 && nat_lt f.1 g.1)

-- the failure by which a call ends
abbrev pub first_failure : List (ℕ × ℕ) → Option (ℕ × ℕ)
first_failure [] = None
first_failure (f ∷ fs) = elim (first_failure fs) [ None ↦ Some f | Some g ↦ (if is_before g f then Some g else Some f) ]

-- Each row of an algorithm and of an operator is fine: what it writes over lies in its range, or behind its output where there is room,
-- and an appender gets no more than its container may hold.
use Rattle.std.proofs.Common.{◌≡◌, ℕ, zero, suc, ◌+◌, ◌-◌, ◌≤◌, ◌&&◌, Bool, true, false, not, List, [], ◌∷◌, ◌++◌, Option, Some, None}
use Rattle.std.proofs.Common.{length, map, refl, ap, sym, ◌∙◌, subst, arith, if◌then◌else◌, length-append}
use Rattle.std.specs.Prelude.{ℤ, pos, nat_lt, take, drop, replicate, reverse}
use Rattle.std.specs.List.{slice_get}
use Rattle.std.proofs.lemmas.Bool.{ltb-false}
use Rattle.std.proofs.lemmas.List.{length-reverse, length-replicate, length-map}
use Rattle.std.proofs.lemmas.Option.{slice_get-get_or}
use Rattle.sl_base.specs.declared.failures.TheConstants.{NO_ROOM, NOT_SORTED}
use Rattle.sl_base.specs.declared.form.Form.TheVariants as f
use Rattle.sl_specs.specs.declared.call.Call.{Call}
use Rattle.sl_specs.specs.declared.call.Call.TheVariants as c
use Rattle.sl_specs.specs.declared.class.Class.TheVariants as classes
use Rattle.sl_specs.specs.declared.letter.Letter.TheVariants as a
use Rattle.sl_specs.specs.declared.need.Need.TheVariants as n
use Rattle.sl_specs.specs.declared.return_type.ReturnType.TheVariants as g
use Rattle.sl_specs.specs.Rows.{Row as TableRow}
use Rattle.sl_specs.specs.AlgorithmRows.{algorithm, algorithm_rows}
use Rattle.sl_syntax.specs.declared.typed.operator.Operator.{Operator}
use Rattle.sl_model.specs.Memory.Containers.{Cont, Memory, size, cont_at}
use Rattle.sl_model.specs.Memory.Rearrangements.{overwrites}
use Rattle.sl_model.specs.Memory.Orders.{same, is_ascending, sorted, sorted_entries, firsts_after, firsts, others}
use Rattle.sl_model.specs.Memory.Schedule.{picked}
use Rattle.sl_model.specs.LibraryCalls.Values.{Value, nothing, number, iterator, pair, two, scalar_at, container_at, element_at}
use Rattle.sl_model.specs.LibraryCalls.Situation.{Situation, argument, index_in, place_of, index, container_of_value, container_of, int_of}
use Rattle.sl_model.specs.LibraryCalls.Situation.{range_keys, range_size}
use Rattle.sl_model.specs.LibraryCalls.Operands.{all_sorts, are_of, a_writer, a_sequence, is_of, is_sequence, written_keys}
use Rattle.sl_model.specs.LibraryCalls.Operands.{is_set_operation, output_count}
use Rattle.sl_model.specs.LibraryCalls.Needs.{fails_if, one_range_fails, is_range, valid_keys, places_fail, output_place_fails}
use Rattle.sl_model.specs.LibraryCalls.Needs.{output_fails, failures, all_failures, first_failure}
use Rattle.sl_model.specs.LibraryCalls.Actions.{changes, never, too_many}
use Rattle.sl_model.specs.LibraryCalls.WritingAlgorithms.{rewrites, output, outputs, output_stops}
use Rattle.sl_model.specs.LibraryCalls.Rows.{of_first, algorithm_row, row_of_operator}
use Rattle.sl_model.specs.Runs.Good.{IsSound}
use Rattle.sl_model.proofs.After.{cont_of_there}
use Rattle.sl_model.proofs.Called.{HasObject}
use Rattle.sl_model.proofs.Placing.{HasPlace, how_many-low}
use Rattle.sl_model.proofs.Counts.{length-sorted}
use Rattle.sl_model.proofs.FairChanges.{overwrites-fair}
use Rattle.sl_model.proofs.FineEffects.{IsThere, IsFine}
use Rattle.sl_model.proofs.FineRows.{RowIsFine, no_fails, not_too_many}
use Rattle.sl_model.proofs.Tells.{AllOf, all_parts}
use Rattle.sl_model.proofs.AlgorithmsTell.{no_failure, none_left, none_right, place_there, container_there}
use Rattle.sl_model.proofs.AlgorithmsTell.{IsRange, first_range, along_range, range_keys-low}
use Rattle.sl_model.proofs.OutputsTell.{writer_of_three, writer_of_five, sequence_of_three, sequence_of_five}

-- ## Keys that are written over

-- a container that has a place is there
has_container : (m : Memory) (j k : ℕ) → HasPlace m j k → IsThere m j
has_container m j k h = slice_get-get_or m.conts j (record { form = f.Vector; cells = []; end = m.fresh; room = 0 }) h.there

-- keys that are written over up to a place of a container are a fine effect
written_over : (s : Situation) (picks j from : ℕ) (xs : List ℤ) → IsSound s.memory → HasPlace s.memory j (from + length xs)
    → IsFine classes.Nothing s (changes picks j (overwrites from xs (cont_at s.memory j)))
written_over s picks j from xs sound h =
    let there = has_container s.memory j (from + length xs) h in
    (there, overwrites-fair (cont_at s.memory j) from xs h.within (sound.small j (cont_at s.memory j) there))

-- and so are keys over a range, where they are no more than it has
over_range : (s : Situation) (picks : ℕ) (xs : List ℤ) → IsSound s.memory → HasObject of_first s → IsRange s
    → length xs ≤ range_size s 1 → IsFine classes.Nothing s (rewrites s picks xs)
over_range s picks xs sound there r low = written_over s picks s.object (index s 1) xs sound (along_range s (length xs) there r low)

-- ## How many keys an algorithm writes over its range

-- numbers in order are as many
sorted-length : (xs : List ℤ) → length (sorted xs) ≡ length xs
sorted-length xs = length-map (sorted_entries (map (λ x. (x, 0)) xs)) (λ (x : ℤ × ℕ). x.0)
    ∙ (length-sorted (map (λ x. (x, 0)) xs) ∙ length-map xs (λ x. (x, 0)))

-- the first of each group are no more
firsts_after-low : (before : ℤ) (xs : List ℤ) → length (firsts_after before xs) ≤ length xs
firsts_after-low before [] = omega arith
firsts_after-low before (x ∷ xs) = by_test (same before x) (firsts_after-low x xs)
  where
    by_test : (b : Bool) → length (firsts_after x xs) ≤ length xs
        → length (if b then firsts_after x xs else x ∷ firsts_after x xs) ≤ suc (length xs)
    by_test true low = omega arith
    by_test false low = omega arith

firsts-low : (xs : List ℤ) → length (firsts xs) ≤ length xs
firsts-low [] = omega arith
firsts-low (x ∷ xs) = let r = firsts_after-low x xs in omega arith

-- and so are the others
others-low : (x : ℤ) (xs : List ℤ) → length (others x xs) ≤ length xs
others-low x xs = how_many-low (λ y. not (same x y)) xs

-- n numbers are picked
picked-length : (n : ℕ) (picks : List ℕ) → length (picked n picks) ≡ n
picked-length zero picks = refl
picked-length (suc n) picks = ap suc (picked-length n (drop 1 picks))

-- what is kept and what is picked behind it are as many as the range has
shortened-low : (kept : List ℤ) (n : ℕ) (picks : List ℕ) → length kept ≤ n
    → length (kept ++ map (λ p. pos p) (picked (n - length kept) picks)) ≤ n
shortened-low kept n picks low =
    let a = length-append kept (map (λ p. pos p) (picked (n - length kept) picks)) in
    let b = length-map (picked (n - length kept) picks) (λ p. pos p) in
    let d = picked-length (n - length kept) picks in
    omega arith

-- what sort, fill and reverse write is no more than the range has
sorted-fits : (s : Situation) → length (sorted (range_keys s 1)) ≤ range_size s 1
sorted-fits s = let e = sorted-length (range_keys s 1) in let p = range_keys-low s in omega arith

filled-fits : (s : Situation) (z : ℤ) → length (replicate (range_size s 1) z) ≤ range_size s 1
filled-fits s z = let e = length-replicate (range_size s 1) z in omega arith

reversed-fits : (s : Situation) → length (reverse (range_keys s 1)) ≤ range_size s 1
reversed-fits s = let e = length-reverse (range_keys s 1) in let p = range_keys-low s in omega arith

-- a range that is written over by what is kept of it and by picked numbers
shortened-fine : (s : Situation) (kept : List ℤ) → IsSound s.memory → HasObject of_first s → IsRange s → length kept ≤ length (range_keys s 1)
    → IsFine classes.Nothing s
    (rewrites s (range_size s 1 - length kept) (kept ++ map (λ p. pos p) (picked (range_size s 1 - length kept) s.picks)))
shortened-fine s kept sound there r low =
    over_range s (range_size s 1 - length kept) (kept ++ map (λ p. pos p) (picked (range_size s 1 - length kept) s.picks)) sound there r
    (shortened-low kept (range_size s 1) s.picks (let p = range_keys-low s in omega arith))

-- ## An output that is written through

-- keys are written from where an iterator stands on, where its need doesn't fail
from_place : (r : TableRow) (s : Situation) (xs : List ℤ) → IsSound s.memory → output_count r.call s ≡ Some (length xs)
    → output_place_fails r s (length s.values) (place_of s (length s.values)) ≡ []
    → IsFine classes.Nothing s (changes 0 (container_of s (length s.values))
    (overwrites (index s (length s.values)) xs (cont_at s.memory (container_of s (length s.values)))))
from_place r s xs sound count e = by_place (place_of s (length s.values)) refl e
  where
    by_place : (o : Option (ℕ × ℕ)) → place_of s (length s.values) ≡ o → output_place_fails r s (length s.values) o ≡ []
        → IsFine classes.Nothing s (changes 0 (container_of s (length s.values))
        (overwrites (index s (length s.values)) xs (cont_at s.memory (container_of s (length s.values)))))
    by_place None at h = absurd (cc)
    by_place (Some p) at h =
        let told : places_fail r s (length s.values) p (Some (length xs)) ≡ [] =
        subst (λ (o : Option ℕ). places_fail r s (length s.values) p o ≡ []) count h in
        let room : nat_lt (size (cont_at s.memory p.0) - p.1) (length xs) ≡ false =
        no_fails (nat_lt (size (cont_at s.memory p.0) - p.1) (length xs)) NO_ROOM (length s.values)
        (none_left (fails_if (nat_lt (size (cont_at s.memory p.0) - p.1) (length xs)) NO_ROOM (length s.values)) _ told) in
        let fits : length xs ≤ size (cont_at s.memory p.0) - p.1 = ltb-false (size (cont_at s.memory p.0) - p.1) (length xs) room in
        let place = place_there s.memory (argument s (length s.values)) p at in
        let low : p.1 ≤ size (cont_at s.memory p.0) = place.within in
        let last : HasPlace s.memory p.0 (p.1 + length xs) = record { there = place.there; within = omega arith } in
        let j : container_of s (length s.values) ≡ p.0 = container_there s.memory (argument s (length s.values)) p at in
        let k : index s (length s.values) ≡ p.1 = ap index_in at in
        written_over s 0 (container_of s (length s.values)) (index s (length s.values)) xs sound
        (subst (λ (i : ℕ). HasPlace s.memory i (index s (length s.values) + length xs)) (sym j)
        (subst (λ (i : ℕ). HasPlace s.memory p.0 (i + length xs)) (sym k) last))

-- an output that is an iterator is fine, where its need doesn't fail
writer-fine : (r : TableRow) (s : Situation) (v : Value) (xs : List ℤ) → IsSound s.memory → is_of s.memory a_writer v ≡ true
    → output_count r.call s ≡ Some (length xs) → output_fails r s (length s.values) v ≡ [] → IsFine classes.Nothing s (outputs s v xs)
writer-fine r s nothing xs sound w count e = absurd (cc)
writer-fine r s (number z) xs sound w count e = absurd (cc)
writer-fine r s (iterator t) xs sound w count e = from_place r s xs sound count e
writer-fine r s (pair t b) xs sound w count e = absurd (cc)
writer-fine r s (two t u) xs sound w count e = absurd (cc)
writer-fine r s (scalar_at l) xs sound w count e = absurd (cc)
writer-fine r s (container_at l) xs sound w count e = absurd (cc)
writer-fine r s (element_at i j part) xs sound w count e = absurd (cc)

-- the row of `copy`
abbrev pub copy_row : TableRow
copy_row = algorithm c.Copy (a.IntRange ∷ a.Output ∷ []) g.Output (n.OneRange ∷ n.OutputFits ∷ [])

-- the row of a merge or set operation
abbrev pub set_row : Call → TableRow
set_row call = algorithm call (a.IntRange ∷ a.SecondIntRange ∷ a.Output ∷ []) g.Output (n.OneRange ∷ n.RangesSorted ∷ n.OutputFits ∷ [])

-- what copy writes through an iterator
copied-fine : (s : Situation) → IsSound s.memory → is_of s.memory a_writer (output s) ≡ true
    → first_failure (all_failures copy_row copy_row.needs s) ≡ None
    → IsFine classes.Nothing s (outputs s (output s) (written_keys c.Copy s))
copied-fine s sound w e =
    let fits = none_right (failures copy_row s n.OneRange) (failures copy_row s n.OutputFits ++ [])
    (no_failure (all_failures copy_row copy_row.needs s) e) in
    writer-fine copy_row s (output s) (written_keys c.Copy s) sound w refl (none_left (failures copy_row s n.OutputFits) [] fits)

-- a range of which no need fails is one
valid_range : (s : Situation) (a : ℕ) → one_range_fails false s a ≡ [] → is_range s a ≡ true
valid_range s a e = ap (λ (xs : List (ℕ × ℕ)). elim xs as (λ _. Bool) [ [] ↦ true | x ∷ more ↦ false ]) e

-- the need that the keys of a range are in order
abbrev order_fails_at : Situation → ℕ → List (ℕ × ℕ)
order_fails_at s a = fails_if (not (is_ascending (valid_keys s a))) NOT_SORTED a

-- they are, where it doesn't fail and the range is one
in_order : (s : Situation) (a : ℕ) → is_range s a ≡ true → order_fails_at s a ≡ [] → is_ascending (range_keys s a) ≡ true
in_order s a range e = by_test (is_ascending (range_keys s a))
    (subst (λ (b : Bool). fails_if (not (is_ascending (if b then range_keys s a else []))) NOT_SORTED a ≡ []) range e)
  where
    by_test : (b : Bool) → fails_if (not b) NOT_SORTED a ≡ [] → b ≡ true
    by_test true h = refl
    by_test false h = absurd (cc)

-- the number of keys that are written is told where both ranges are in order
counted : (call : Call) (s : Situation) → is_ascending (range_keys s 1) ≡ true → is_ascending (range_keys s 3) ≡ true
    → output_count call s ≡ Some (length (written_keys call s))
counted call s first second =
    by_tests (is_set_operation call) (is_ascending (range_keys s 1)) (is_ascending (range_keys s 3)) (length (written_keys call s)) first second
  where
    by_tests : (set x y : Bool) (n : ℕ) → x ≡ true → y ≡ true → (if set && not (x && y) then None else Some n) ≡ Some n
    by_tests false x y n h k = refl
    by_tests true true true n h k = refl
    by_tests true true false n h k = absurd (cc)
    by_tests true false y n h k = absurd (cc)

-- what a merge or set operation writes through an iterator
set-fine : (call : Call) (s : Situation) → IsSound s.memory → is_of s.memory a_writer (output s) ≡ true
    → first_failure (all_failures (set_row call) (set_row call).needs s) ≡ None
    → IsFine classes.Nothing s (outputs s (output s) (written_keys call s))
set-fine call s sound w e =
    let all = no_failure (all_failures (set_row call) (set_row call).needs s) e in
    let ranges : one_range_fails false s 1 ++ (one_range_fails false s 3 ++ []) ≡ [] = none_left (failures (set_row call) s n.OneRange) _ all in
    let rest = none_right (failures (set_row call) s n.OneRange) _ all in
    let orders : order_fails_at s 1 ++ (order_fails_at s 3 ++ []) ≡ [] = none_left (failures (set_row call) s n.RangesSorted) _ rest in
    let fits = none_left (failures (set_row call) s n.OutputFits) [] (none_right (failures (set_row call) s n.RangesSorted) _ rest) in
    let first = in_order s 1 (valid_range s 1 (none_left (one_range_fails false s 1) _ ranges)) (none_left (order_fails_at s 1) _ orders) in
    let second = in_order s 3 (valid_range s 3 (none_left (one_range_fails false s 3) [] (none_right (one_range_fails false s 1) _ ranges)))
    (none_left (order_fails_at s 3) [] (none_right (order_fails_at s 1) _ orders)) in
    writer-fine (set_row call) s (output s) (written_keys call s) sound w (counted call s first second) fits

-- ## An output that is an appender

-- a container that is a sequence is there
sequence_there : (m : Memory) (j : ℕ) → is_sequence (slice_get m.conts j) ≡ true → IsThere m j
sequence_there m j h = by_cont (slice_get m.conts j) refl h
  where
    by_cont : (o : Option Cont) → slice_get m.conts j ≡ o → is_sequence o ≡ true → o ≡ Some (cont_at m j)
    by_cont None e t = absurd (cc)
    by_cont (Some x) e t = ap (λ (y : Cont). Some y) (sym (cont_of_there m j x e))

-- an output that is an appender is fine, where it doesn't stop the call
appender-fine : (s : Situation) (v : Value) (xs : List ℤ) → output s ≡ v → is_of s.memory a_sequence v ≡ true
    → output_stops s v (length xs) ≡ never → IsFine classes.Nothing s (outputs s v xs)
appender-fine s nothing xs e w stops = absurd (cc)
appender-fine s (number z) xs e w stops = absurd (cc)
appender-fine s (iterator t) xs e w stops = absurd (cc)
appender-fine s (pair t b) xs e w stops = absurd (cc)
appender-fine s (two t u) xs e w stops = absurd (cc)
appender-fine s (scalar_at l) xs e w stops = absurd (cc)
appender-fine s (container_at l) xs e w stops =
    let j : container_of s (length s.values) ≡ l = ap (container_of_value s.memory) e in (
      sequence_there s.memory l w,
      not_too_many (size (cont_at s.memory l) + length xs)
          (subst (λ (i : ℕ). too_many (size (cont_at s.memory i) + length xs) ≡ never) j stops),
    )
appender-fine s (element_at i j part) xs e w stops = absurd (cc)

-- ## The rows

-- what a merge or set operation writes or appends
set_output-fine : (appends : Bool) (call : Call) (s : Situation) → IsSound s.memory
    → are_of s.memory (all_sorts f.Vector appends (set_row call).letters) s.values ≡ true
    → first_failure (all_failures (set_row call) (set_row call).needs s) ≡ None
    → output_stops s (output s) (length (written_keys call s)) ≡ never
    → IsFine classes.Nothing s (outputs s (output s) (written_keys call s))
set_output-fine false call s sound operands none stops = set-fine call s sound (writer_of_five s.memory s.values operands) none
set_output-fine true call s sound operands none stops =
    appender-fine s (output s) (written_keys call s) refl (sequence_of_five s.memory s.values operands) stops

-- what copy writes or appends
copy_output-fine : (appends : Bool) (s : Situation) → IsSound s.memory
    → are_of s.memory (all_sorts f.Vector appends copy_row.letters) s.values ≡ true
    → first_failure (all_failures copy_row copy_row.needs s) ≡ None
    → output_stops s (output s) (length (written_keys c.Copy s)) ≡ never
    → IsFine classes.Nothing s (outputs s (output s) (written_keys c.Copy s))
copy_output-fine false s sound operands none stops = copied-fine s sound (writer_of_three s.memory s.values operands) none
copy_output-fine true s sound operands none stops =
    appender-fine s (output s) (written_keys c.Copy s) refl (sequence_of_three s.memory s.values operands) stops

-- an algorithm whose output is an appender, or isn't, is fine
abbrev AlgorithmIsFine : Bool → TableRow → Type 0
AlgorithmIsFine appends r = RowIsFine (algorithm_row appends r)

-- from find to binary_search
first_six : (appends : Bool) → AllOf (AlgorithmIsFine appends) (take 6 algorithm_rows)
first_six appends = (
  (λ s sound h none stops. tt),
  (
    (λ s sound h none stops. tt),
    (
      (λ s sound h none stops. over_range s 0 _ sound h.object (first_range s _ _ none) (sorted-fits s)),
      ((λ s sound h none stops. tt), ((λ s sound h none stops. tt), ((λ s sound h none stops. tt), tt))),
    ),
  ),
)

-- from merge to copy
second_six : (appends : Bool) → AllOf (AlgorithmIsFine appends) (take 6 (drop 6 algorithm_rows))
second_six appends = (
  (λ s sound h none stops. set_output-fine appends c.Merge s sound h.operands none stops),
  (
    (λ s sound h none stops. tt),
    (
      (λ s sound h none stops. set_output-fine appends c.SetUnion s sound h.operands none stops),
      (
        (λ s sound h none stops. set_output-fine appends c.SetIntersection s sound h.operands none stops),
        (
          (λ s sound h none stops. set_output-fine appends c.SetDifference s sound h.operands none stops),
          ((λ s sound h none stops. copy_output-fine appends s sound h.operands none stops), tt),
        ),
      ),
    ),
  ),
)

-- from fill to distance
third_six : (appends : Bool) → AllOf (AlgorithmIsFine appends) (take 6 (drop 6 (drop 6 algorithm_rows)))
third_six appends = (
  (λ s sound h none stops. over_range s 0 _ sound h.object (first_range s _ _ none) (filled-fits s (int_of s 3))),
  (
    (λ s sound h none stops. over_range s 0 _ sound h.object (first_range s _ _ none) (reversed-fits s)),
    (
      (λ s sound h none stops. shortened-fine s (firsts (range_keys s 1)) sound h.object (first_range s _ _ none) (firsts-low (range_keys s 1))),
      (
        (λ s sound h none stops. shortened-fine s (others (int_of s 3) (range_keys s 1)) sound h.object (first_range s _ _ none)
            (others-low (int_of s 3) (range_keys s 1))),
        ((λ s sound h none stops. tt), ((λ s sound h none stops. tt), tt)),
      ),
    ),
  ),
)

-- from advance to back_inserter
last_six : (appends : Bool) → AllOf (AlgorithmIsFine appends) (drop 6 (drop 6 (drop 6 algorithm_rows)))
last_six appends = (
  (λ s sound h none stops. tt),
  (
    (λ s sound h none stops. tt),
    (
      (λ s sound h none stops. tt),
      ((λ s sound h none stops. tt), ((λ s sound h none stops. tt), ((λ s sound h none stops. tt), tt))),
    ),
  ),
)

-- all of them
every_algorithm : (appends : Bool) → AllOf (AlgorithmIsFine appends) algorithm_rows
every_algorithm appends = all_parts (AlgorithmIsFine appends) 6 algorithm_rows (first_six appends)
    (all_parts (AlgorithmIsFine appends) 6 (drop 6 algorithm_rows) (second_six appends)
    (all_parts (AlgorithmIsFine appends) 6 (drop 6 (drop 6 algorithm_rows)) (third_six appends) (last_six appends)))

-- each algorithm whose output is written through
pub algorithms-fine : AllOf (λ r. RowIsFine (algorithm_row false r)) algorithm_rows
algorithms-fine = every_algorithm false

-- each algorithm whose output is an appender
pub appending-fine : AllOf (λ r. RowIsFine (algorithm_row true r)) algorithm_rows
appending-fine = every_algorithm true

-- an operator changes nothing
pub operator-fine : (name : List ℕ) (o : Operator) → RowIsFine (row_of_operator name o)
operator-fine name o s sound h none stops = tt

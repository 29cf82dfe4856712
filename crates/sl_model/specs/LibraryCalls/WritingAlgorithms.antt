-- What algorithms do that write. Their object is the container of the first operand.
--
-- Restates ISO/IEC 14882:2017, [sort], [alg.merge], [alg.set.operations], [alg.copy], [alg.fill], [alg.reverse], [alg.unique],
-- [alg.remove] and [back.inserter].
-- Chosen here: what an algorithm writes is computed from its input before its first write; what `unique` and `remove` leave behind
-- the end that they return is picked.
use Rattle.std.specs.Prelude.{ℕ, ◌+◌, ◌-◌, List, ◌++◌, map, length, replicate, reverse, ℤ, pos}
use Rattle.sl_specs.specs.declared.call.Call.{Call}
use Rattle.sl_model.specs.Memory.Containers.{size}
use Rattle.sl_model.specs.LibraryCalls.Operands.{written_keys}
use Rattle.sl_model.specs.Memory.Orders.{sorted, firsts, others}
use Rattle.sl_model.specs.Memory.Rearrangements.{overwrites}
use Rattle.sl_model.specs.Memory.Schedule.{picked}
use Rattle.sl_model.specs.LibraryCalls.Values.{Value, container_at}
use Rattle.sl_model.specs.LibraryCalls.Situation.{Situation, own, argument, index, container_of, their, int_of, range_keys, range_size}
use Rattle.sl_model.specs.LibraryCalls.Actions.{Effect, changes, appends, Answer, nothing, gives_place, Action, Stop, never, too_many}
use Rattle.sl_model.specs.LibraryCalls.SearchAlgorithms.{along}

-- the object with these over the range, after so many picks
abbrev pub rewrites : Situation → ℕ → List ℤ → Effect
rewrites s picks xs = changes picks s.object (overwrites (index s 1) xs (own s))

-- the range is written over
abbrev pub rewriting : (Situation → List ℤ) → Action
rewriting xs = record { stops = λ s. never; effect = λ s. rewrites s 0 (xs s); answer = λ s. nothing }

-- sort(f, l)
abbrev pub sort : Action
sort = rewriting (λ s. sorted (range_keys s 1))

-- fill(f, l, x)
abbrev pub fill : Action
fill = rewriting (λ s. replicate (range_size s 1) (int_of s 3))

-- reverse(f, l)
abbrev pub reverse_range : Action
reverse_range = rewriting (λ s. reverse (range_keys s 1))

-- these keys and then picked numbers are written over the range, and the end of these is given
abbrev pub shortening : (Situation → List ℤ) → Action
shortening kept = record {
  stops = λ s. never;
  effect = λ s. rewrites s (range_size s 1 - length (kept s))
      (kept s ++ map (λ p. pos p) (picked (range_size s 1 - length (kept s)) s.picks));
  answer = λ s. along s (length (kept s));
}

-- unique(f, l)
abbrev pub unique : Action
unique = shortening (λ s. firsts (range_keys s 1))

-- remove(f, l, x)
abbrev pub remove : Action
remove = shortening (λ s. others (int_of s 3) (range_keys s 1))

-- the output is the last operand
abbrev pub output : Situation → Value
output s = argument s (length s.values)

-- these are written from an iterator on, or put at the end of the container of an appender
abbrev pub outputs : Situation → Value → List ℤ → Effect
outputs s (container_at j) xs = appends j xs
outputs s v xs =
    changes 0 (container_of s (length s.values)) (overwrites (index s (length s.values)) xs (their s (length s.values)))

-- the place behind the last that is written, and nothing where the output is an appender
abbrev pub after_output : Situation → Value → ℕ → Answer
after_output s (container_at j) n = nothing
after_output s v n = gives_place (container_of s (length s.values)) (index s (length s.values) + n)

-- an exception where an appender puts in too many
abbrev pub output_stops : Situation → Value → ℕ → Stop
output_stops s (container_at j) n = too_many (size (their s (length s.values)) + n)
output_stops s v n = never

-- copy, merge, set_union, set_intersection and set_difference
abbrev pub write_out : Call → Action
write_out call = record {
  stops = λ s. output_stops s (output s) (length (written_keys call s));
  effect = λ s. outputs s (output s) (written_keys call s);
  answer = λ s. after_output s (output s) (length (written_keys call s));
}

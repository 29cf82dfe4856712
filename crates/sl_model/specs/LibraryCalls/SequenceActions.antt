-- What insertion and erasure of positions do.
--
-- Restates ISO/IEC 14882:2017, [sequence.reqmts] (`push_back`, `push_front`, `pop_back`, `pop_front`, `insert`, `erase`),
-- [associative.reqmts] and [unord.req] (`erase` of iterators).
use Rattle.std.specs.Prelude.{ℕ, ◌+◌, ◌-◌, List, [], ◌∷◌, length, replicate, ℤ}
use Rattle.sl_specs.specs.declared.letter.Letter.{Letter}
use Rattle.sl_specs.specs.declared.letter.Letter.TheVariants as a
use Rattle.sl_model.specs.LibraryCalls.Situation.{Situation, own, own_size, index, int_of, count_of, item, as_items, range_keys, range_size}
use Rattle.sl_model.specs.LibraryCalls.Actions.{Effect, edits, Answer, nothing, gives_place, Action, never, too_many}
use Rattle.sl_model.specs.LibraryCalls.Effects.{picks_with, insertion}

-- these come into the object, a sequence, at place k
abbrev pub puts : Situation → ℕ → List (ℤ × ℤ) → Effect
puts s k xs = edits (picks_with (own s).form (own s) (length xs)) (insertion (own s) k xs s.picks)

-- so many come into the object at a place, these, unless they are too many
abbrev pub insertion_at : (Situation → ℕ) → (Situation → ℕ) → (Situation → List (ℤ × ℤ)) → (Situation → Answer) → Action
insertion_at place count xs answer = record {
  stops = λ s. too_many (own_size s + count s);
  effect = λ s. puts s (place s) (xs s);
  answer = answer;
}

-- push_back(x)
abbrev pub push_back : Action
push_back = insertion_at own_size (λ s. 1) (λ s. item (int_of s 1) ∷ []) (λ s. nothing)

-- push_front(x)
abbrev pub push_front : Action
push_front = insertion_at (λ s. 0) (λ s. 1) (λ s. item (int_of s 1) ∷ []) (λ s. nothing)

-- so many come into the object before the position, argument 1, these, and the first of them is given, or the position
abbrev pub insertion_before : (Situation → ℕ) → (Situation → List (ℤ × ℤ)) → Action
insertion_before count xs = insertion_at (λ s. index s 1) count xs (λ s. gives_place s.object (index s 1))

-- insert(p, n, x), insert(p, f, l) and insert(p, x), by the operands behind the position
abbrev pub insert : List Letter → Action
insert (a.Count ∷ rest) = insertion_before (λ s. count_of s 2) (λ s. replicate (count_of s 2) (item (int_of s 3)))
insert (a.IntRange ∷ rest) = insertion_before (λ s. length (range_keys s 2)) (λ s. as_items (range_keys s 2))
insert letters = insertion_before (λ s. 1) (λ s. item (int_of s 2) ∷ [])

-- `gone` elements of the object go from place k on
abbrev pub drops : Situation → ℕ → ℕ → Effect
drops s k gone = edits 0 (record { from = k; gone = gone; come = []; room = (own s).room })

-- elements of the object go from a place on
abbrev pub erasure : (Situation → ℕ) → (Situation → ℕ) → (Situation → Answer) → Action
erasure place gone answer = record { stops = λ s. never; effect = λ s. drops s (place s) (gone s); answer = answer }

-- pop_back()
abbrev pub pop_back : Action
pop_back = erasure (λ s. own_size s - 1) (λ s. 1) (λ s. nothing)

-- pop_front()
abbrev pub pop_front : Action
pop_front = erasure (λ s. 0) (λ s. 1) (λ s. nothing)

-- erase(p)
abbrev pub erase_one : Action
erase_one = erasure (λ s. index s 1) (λ s. 1) (λ s. gives_place s.object (index s 1))

-- erase(f, l)
abbrev pub erase_range : Action
erase_range = erasure (λ s. index s 1) (λ s. range_size s 1) (λ s. gives_place s.object (index s 1))

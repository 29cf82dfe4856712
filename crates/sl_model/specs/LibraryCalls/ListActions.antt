-- What the operations of lists do.
--
-- Restates ISO/IEC 14882:2017, [list.ops]: `sort` and `merge` keep equal elements in their order, those of the object first; `unique`
-- keeps the first of each group; elements that go over keep their iterators and references.
-- Chosen here: `merge` and `splice` into the same list as [list.ops] says of them; `splice(p, c, i)` does nothing where p is i or the
-- place behind it.
use Rattle.std.specs.Prelude.{ℕ, ◌+◌, ◌==◌, List, [], ◌∷◌, ◌++◌, map, reverse, ℤ, if◌then◌else◌}
use Rattle.sl_specs.specs.declared.letter.Letter.{Letter}
use Rattle.sl_specs.specs.declared.letter.Letter.TheVariants as a
use Rattle.sl_model.specs.Memory.Containers.{Cont, keys}
use Rattle.sl_model.specs.Memory.Edits.{Change, Source, old, theirs, nowhere, numbers}
use Rattle.sl_model.specs.Memory.Orders.{sorted_entries, sorted_places, first_places, other_places}
use Rattle.sl_model.specs.Memory.Rearrangements.{arranged, retained, received, given, moved_order}
use Rattle.sl_model.specs.LibraryCalls.Situation.{Situation, own, own_size, index, container_of, their, their_size, int_of, range_size}
use Rattle.sl_model.specs.LibraryCalls.Actions.{Effect, keeps, changes, trades, nothing, Action, Stop, never, too_many}

-- a change of the object, which gives nothing
abbrev pub change_by : (Situation → Change) → Action
change_by ch = record { stops = λ s. never; effect = λ s. changes 0 s.object (ch s); answer = λ s. nothing }

-- sort()
abbrev pub sort : Action
sort = change_by (λ s. arranged (sorted_places (keys (own s))) (own s))

-- reverse()
abbrev pub reverse_all : Action
reverse_all = change_by (λ s. arranged (reverse (numbers 0 (own_size s))) (own s))

-- unique()
abbrev pub unique : Action
unique = change_by (λ s. retained (first_places (keys (own s))) (own s))

-- remove(x)
abbrev pub remove : Action
remove = change_by (λ s. retained (other_places (int_of s 1) 0 (keys (own s))) (own s))

-- the keys of a container with where they come from, counted from i
abbrev pub entries : (ℕ → Source) → ℕ → List ℤ → List (ℤ × Source)
entries source i [] = []
entries source i (x ∷ xs) = (x, source i) ∷ entries source (i + 1) xs

-- the elements of two lists in ascending order, equal ones of the first list first
abbrev pub merged : Cont → Cont → Change
merged c d = record {
  kill = nowhere;
  lose = nowhere;
  sources = map (λ (x : ℤ × Source). x.1)
      (sorted_entries (entries (λ k. old k) 0 (keys c) ++ entries (λ k. theirs k) 0 (keys d)));
  room = c.room;
}

-- an exception where n elements of another container, argument a, are too many for the object
abbrev pub too_many_theirs : Situation → ℕ → ℕ → Stop
too_many_theirs s a n = too_many (own_size s + (if container_of s a == s.object then 0 else n))

-- merge(c), which does nothing where c is the object
abbrev pub merge : Action
merge = record {
  stops = λ s. too_many_theirs s 1 (their_size s 1);
  effect = λ s. if container_of s 1 == s.object
      then keeps
      else trades (container_of s 1) (merged (own s) (their s 1)) (given 0 (their_size s 1) (their s 1));
  answer = λ s. nothing;
}

-- `count` elements of the container argument 2 from place `from` on go before the position, argument 1
abbrev pub splices : Situation → ℕ → ℕ → Effect
splices s from count =
    if container_of s 2 == s.object
    then changes 0 s.object (arranged (moved_order (own_size s) (index s 1) from count) (own s))
    else trades (container_of s 2) (received (index s 1) from count (own s)) (given from count (their s 2))

-- so many elements from a place of the container argument 2 on go over
abbrev pub splice_of : (Situation → ℕ) → (Situation → ℕ) → Action
splice_of from count = record {
  stops = λ s. too_many_theirs s 2 (count s);
  effect = λ s. splices s (from s) (count s);
  answer = λ s. nothing;
}

-- splice(p, c, i), splice(p, c, f, l) and splice(p, c), by the operands behind the container
abbrev pub splice : List Letter → Action
splice (a.SplicedPosition ∷ rest) = splice_of (λ s. index s 3) (λ s. 1)
splice (a.OwnRange ∷ rest) = splice_of (λ s. index s 3) (λ s. range_size s 3)
splice letters = splice_of (λ s. 0) (λ s. their_size s 2)

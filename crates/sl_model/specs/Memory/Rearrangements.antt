-- Changes that no class tells: elements of one container in another order or written over, and those that go over to another.
--
-- Restates ISO/IEC 14882:2017, [list.ops] (`sort`, `reverse`, `merge`, `splice`, `unique`, `remove`), [container.requirements.general]
-- (`swap`), [unord.req] (`reserve`) and [algorithms] (an algorithm assigns to elements, whose iterators and references stay).
-- Chosen here: `swap` invalidates both past-the-end iterators.
use Rattle.std.specs.Prelude.{ℕ, ◌+◌, ◌-◌, ◌==◌, ◌&&◌, nat_le, Bool, true, false, not, List, [], ◌∷◌, ◌++◌, map, length, take, drop, ℤ}
use Rattle.std.specs.Prelude.{if◌then◌else◌}
use Rattle.sl_model.specs.Memory.Containers.{Cont, size}
use Rattle.sl_model.specs.Memory.Edits.{Source, old, written, Change, nowhere, numbers, olds, theirs_from}

-- the old elements in another order, nothing invalidated
abbrev pub arranged : List ℕ → Cont → Change
arranged order c = record { kill = nowhere; lose = nowhere; sources = map (λ k. old k) order; room = c.room }

-- keys from place k on are written over
abbrev pub overwritten : ℕ → List ℤ → List Source
overwritten k [] = []
overwritten k (x ∷ xs) = written k x ∷ overwritten (k + 1) xs

-- a container whose keys from place `from` on are written over, nothing invalidated
abbrev pub overwrites : ℕ → List ℤ → Cont → Change
overwrites from xs c = record {
  kill = nowhere;
  lose = nowhere;
  sources = olds 0 from ++ (overwritten from xs ++ olds (from + length xs) (size c - (from + length xs)));
  room = c.room;
}

-- a number is among these
abbrev pub among : ℕ → List ℕ → Bool
among k [] = false
among k (x ∷ xs) = if x == k then true else among k xs

-- these places alone stay, and the others go
abbrev pub retained : List ℕ → Cont → Change
retained order c = record {
  kill = λ k. not (k == size c) && not (among k order);
  lose = λ k. not (among k order);
  sources = map (λ k. old k) order;
  room = c.room;
}

-- an exchange of all elements with their marks, in which only the end is invalidated
abbrev pub exchanged : Cont → Cont → Change
exchanged own other = record { kill = λ k. k == size own; lose = nowhere; sources = theirs_from 0 (size other); room = other.room }

-- `count` elements of the other container from its place `from` come before place k with their marks
abbrev pub received : ℕ → ℕ → ℕ → Cont → Change
received k from count c =
    record { kill = nowhere; lose = nowhere; sources = olds 0 k ++ (theirs_from from count ++ olds k (size c - k)); room = c.room }

-- `count` elements from place `from` go to another container with their marks
abbrev pub given : ℕ → ℕ → Cont → Change
given from count c =
    record { kill = nowhere; lose = nowhere; sources = olds 0 from ++ olds (from + count) (size c - (from + count)); room = c.room }

-- the places of n elements, where `count` from place `from` on go before place k
abbrev pub moved_order : ℕ → ℕ → ℕ → ℕ → List ℕ
moved_order n k from count =
    let others : List ℕ = numbers 0 from ++ numbers (from + count) (n - (from + count)) in
    let target : ℕ = if nat_le (from + count) k then k - count else k in
    take target others ++ (numbers from count ++ drop target others)

-- What `begin`, `end`, `size`, `empty`, the access to elements, `clear`, `resize`, `reserve` and `swap` do.
--
-- Restates ISO/IEC 14882:2017, [container.requirements.general] (`begin`, `end`, `size`, `empty`, `swap`), [sequence.reqmts] (`front`,
-- `back`, `a[n]`, `at`, `clear`), [associative.reqmts] and [unord.req] (`clear`, `reserve`), [vector.capacity], [deque.capacity] and
-- [list.capacity] (`resize`, `reserve`).
-- Chosen here: `clear` keeps the room; `reserve` of a vector picks a room where it is more than the room that is there, and of a
-- hash form always, and puts all elements in again; `a.swap(a)` invalidates the end.
use Rattle.std.specs.Prelude.{ℕ, ◌+◌, ◌-◌, ◌==◌, nat_lt, nat_le, true, min, max, List, [], map, replicate, ℤ, pos, if◌then◌else◌}
use Rattle.sl_specs.specs.Forms.{is_hash}
use Rattle.sl_model.specs.Memory.Classes.{Edit}
use Rattle.sl_model.specs.Memory.Containers.{Cont, size, key_part}
use Rattle.sl_model.specs.Memory.Edits.{Change, old, numbers, nowhere}
use Rattle.sl_model.specs.Numbers.{truth}
use Rattle.sl_model.specs.Memory.Rearrangements.{exchanged}
use Rattle.sl_model.specs.Memory.Schedule.{pick, after_picks, scattered}
use Rattle.sl_model.specs.LibraryCalls.Situation.{Situation, own, own_size, container_of, their, count_of, item}
use Rattle.sl_model.specs.LibraryCalls.Actions.{Effect, edits, changes, trades, nothing, gives_number, gives_place, gives_element, Action, never, exception_if}
use Rattle.sl_model.specs.LibraryCalls.Actions.{too_many, tells}
use Rattle.sl_model.specs.LibraryCalls.Effects.{room_with, picks_with}

-- begin()
abbrev pub begin : Action
begin = tells (λ s. gives_place s.object 0)

-- end()
abbrev pub end : Action
end = tells (λ s. gives_place s.object (own_size s))

-- size()
abbrev pub size_of : Action
size_of = tells (λ s. gives_number (pos (own_size s)))

-- empty()
abbrev pub empty : Action
empty = tells (λ s. gives_number (truth (own_size s == 0)))

-- front()
abbrev pub front : Action
front = tells (λ s. gives_element s.object 0 key_part)

-- back()
abbrev pub back : Action
back = tells (λ s. gives_element s.object (own_size s - 1) key_part)

-- [](n)
abbrev pub subscript : Action
subscript = tells (λ s. gives_element s.object (count_of s 1) key_part)

-- at(n), which throws past the end
abbrev pub at_index : Action
at_index = record (tells (λ s. gives_element s.object (count_of s 1) key_part)) { stops = λ s. exception_if (nat_le (own_size s) (count_of s 1)) }

-- clear()
abbrev pub clear : Action
clear = record {
  stops = λ s. never;
  effect = λ s. edits 0 (record { from = 0; gone = own_size s; come = []; room = (own s).room });
  answer = λ s. nothing;
}

-- the object has n elements then, the new ones equal to x
abbrev pub resized : Cont → ℕ → ℤ → List ℕ → Effect
resized c n x picks = edits (picks_with c.form c (n - size c)) (record {
  from = min n (size c);
  gone = size c - n;
  come = replicate (n - size c) (item x);
  room = room_with c.form c (n - size c) picks;
})

-- resize(n) and resize(n, x), by the element
abbrev pub resize : (Situation → ℤ) → Action
resize x = record {
  stops = λ s. too_many (count_of s 1);
  effect = λ s. resized (own s) (count_of s 1) (x s) s.picks;
  answer = λ s. nothing;
}

-- nothing goes and nothing comes
abbrev pub untouched : ℕ → Edit
untouched room = record { from = 0; gone = 0; come = []; room = room }

-- all elements of a hash form are put in again, in a picked order; iterators are invalidated, and references aren't
abbrev pub rehashed : Cont → ℕ → List ℕ → Change
rehashed c n picks = record {
  kill = λ k. true;
  lose = nowhere;
  sources = map (λ k. old k) (scattered (after_picks 1 picks) (numbers 0 (size c)));
  room = max n (size c) + pick picks;
}

-- room for n elements in container j
abbrev pub reserved : ℕ → Cont → ℕ → List ℕ → Effect
reserved j c n picks =
    if is_hash c.form
    then changes (size c + 1) j (rehashed c n picks)
    else if nat_lt c.room n then edits 1 (untouched (n + pick picks)) else edits 0 (untouched c.room)

-- reserve(n)
abbrev pub reserve : Action
reserve = record {
  stops = λ s. too_many (count_of s 1);
  effect = λ s. reserved s.object (own s) (count_of s 1) s.picks;
  answer = λ s. nothing;
}

-- swap(c): elements go over with their iterators and references, and both ends are invalidated
abbrev pub swap : Action
swap = record {
  stops = λ s. never;
  effect = λ s. if container_of s 1 == s.object
      then edits 0 (untouched (own s).room)
      else trades (container_of s 1) (exchanged (own s) (their s 1)) (exchanged (their s 1) (own s));
  answer = λ s. nothing;
}

-- The classes of what operations invalidate: which old places of a container an edit of a class invalidates, for iterators and for
-- references. The container's size stands for its end, which no reference refers to.
--
-- Restates ISO/IEC 14882:2017, [container.requirements.general], [vector.capacity], [vector.modifiers], [deque.capacity],
-- [deque.modifiers], [list.modifiers], [associative.reqmts] and [unord.req].
-- Chosen here: an operation that may invalidate does so, and where growth does, the room decides; an insertion or erasure of
-- nothing invalidates nothing; the past-the-end iterator is invalidated by each operation of vector and deque that comes to it.
use Rattle.std.specs.Prelude.{ℕ, ◌≤◌, ◌+◌, ◌==◌, ◌&&◌, ◌||◌, nat_lt, nat_le, Bool, true, false, not, List, length, ℤ, if◌then◌else◌}
use Rattle.sl_specs.specs.declared.class.Class.{Class}
use Rattle.sl_specs.specs.declared.class.Class.TheVariants as classes

-- `gone` elements go from place `from`, and these come there; then the container has this room
pub record Edit : Type 0 where
  pub from : ℕ
  pub gone : ℕ
  pub come : List (ℤ × ℤ)
  pub room : ℕ

-- the edit is one of a container of this size
abbrev pub Fits : Edit → ℕ → Type 0
Fits e n = e.from + e.gone ≤ n

-- place k is one from which an element goes
abbrev pub is_gone : Edit → ℕ → Bool
is_gone e k = nat_le e.from k && nat_lt k (e.from + e.gone)

-- an insertion of `come` elements at `from` into a vector of a size and a room invalidates place k
abbrev pub vector_insert_kills : ℕ → ℕ → ℕ → ℕ → ℕ → Bool
vector_insert_kills n room from come k = if come == 0 then false else if nat_lt room (n + come) then true else nat_le from k

-- erasing `gone` elements from `from` of a vector invalidates place k
abbrev pub vector_erase_kills : ℕ → ℕ → ℕ → Bool
vector_erase_kills from gone k = if gone == 0 then false else nat_le from k

-- an insertion of `come` elements into a deque invalidates each place
abbrev pub deque_insert_kills : ℕ → Bool
deque_insert_kills come = not (come == 0)

-- erasing `gone` elements from `from` of a deque of a size invalidates place k
abbrev pub deque_erase_kills : ℕ → ℕ → ℕ → ℕ → Bool
deque_erase_kills n from gone k =
    if gone == 0 then false else if from + gone == n then nat_le from k else if from == 0 then nat_lt k gone else true

-- an edit of a container of this size and room invalidates the iterators at place k
abbrev pub kills : Class → ℕ → ℕ → Edit → ℕ → Bool
kills classes.Nothing n room e k = false
kills classes.VectorInsert n room e k = vector_insert_kills n room e.from (length e.come) k
kills classes.VectorErase n room e k = vector_erase_kills e.from e.gone k
kills classes.VectorReserve n room e k = nat_lt room e.room
kills classes.VectorResize n room e k = if e.gone == 0 then vector_insert_kills n room e.from (length e.come) k else vector_erase_kills e.from e.gone k
kills classes.DequeResize n room e k = if e.gone == 0 then deque_insert_kills (length e.come) else deque_erase_kills n e.from e.gone k
kills classes.DequeInsert n room e k = deque_insert_kills (length e.come)
kills classes.DequeErase n room e k = deque_erase_kills n e.from e.gone k
kills classes.ErasedOnly n room e k = is_gone e k
kills classes.HashInsert n room e k = if length e.come == 0 then false else nat_lt room (n + length e.come)
kills classes.HashReserve n room e k = true
kills classes.AllAndEnd n room e k = true
kills classes.Swap n room e k = k == n

-- an insertion of `come` elements at `from` into a deque of a size invalidates the references to each element, but at its ends
abbrev pub deque_insert_loses : ℕ → ℕ → ℕ → Bool
deque_insert_loses n from come = if come == 0 then false else not (from == 0 || from == n)

-- erasing `gone` elements from `from` of a deque of a size invalidates the references to the element at place k: where the first
-- or the last element goes, to those that go
abbrev pub deque_erase_loses : ℕ → Edit → ℕ → Bool
deque_erase_loses n e k = if e.gone == 0 then false else if e.from == 0 || e.from + e.gone == n then is_gone e k else true

-- an edit of a container of this size and room invalidates the references to the element at place k
abbrev pub loses : Class → ℕ → ℕ → Edit → ℕ → Bool
loses classes.Nothing n room e k = false
loses classes.VectorInsert n room e k = kills classes.VectorInsert n room e k
loses classes.VectorErase n room e k = kills classes.VectorErase n room e k
loses classes.VectorReserve n room e k = kills classes.VectorReserve n room e k
loses classes.VectorResize n room e k = kills classes.VectorResize n room e k
loses classes.DequeResize n room e k = if e.gone == 0 then deque_insert_loses n e.from (length e.come) else deque_erase_loses n e k
loses classes.DequeInsert n room e k = deque_insert_loses n e.from (length e.come)
loses classes.DequeErase n room e k = deque_erase_loses n e k
loses classes.ErasedOnly n room e k = is_gone e k
loses classes.HashInsert n room e k = false
loses classes.HashReserve n room e k = false
loses classes.AllAndEnd n room e k = true
loses classes.Swap n room e k = false

-- A call of the library with its evaluated operands, in the memory that it meets.
-- Restates ISO/IEC 14882:2017, [expr.call] as far as the library's functions go: the operands are values when the call begins; and
-- [conv.integral]: a number that becomes an element or a count is converted.
-- Chosen here: a call that makes a container has for its object the number that the container gets, and one of an algorithm or
-- operator the container that its first operand stands in.
use Rattle.std.specs.Prelude.{ℕ, ◌+◌, ◌-◌, List, map, ℤ, pos, Option, Some, None, slice_index_or, slice_range}
use Rattle.sl_base.specs.declared.scalar.Scalar.TheVariants as t
use Rattle.sl_model.specs.Memory.Containers.{Cont, Memory, cont_at, size, keys, locate}
use Rattle.sl_model.specs.Numbers.{converted, modulo}
use Rattle.sl_model.specs.LibraryCalls.Values.{Value, nothing, number, iterator, container_at}

-- the memory before the call, the object, the arguments from 1 on, the picks that are left and the site
pub record Situation : Type 0 where
  pub memory : Memory
  pub object : ℕ
  pub values : List Value
  pub picks : List ℕ
  pub site : ℕ

-- the object
abbrev pub own : Situation → Cont
own s = cont_at s.memory s.object

-- its size
abbrev pub own_size : Situation → ℕ
own_size s = size (own s)

-- the argument with a number from 1 on
abbrev pub argument : Situation → ℕ → Value
argument s a = slice_index_or s.values (a - 1) nothing

-- where a value stands, if it is a valid iterator
abbrev pub place_in : Memory → Value → Option (ℕ × ℕ)
place_in m (iterator stamp) = locate m stamp
place_in m v = None

-- where an iterator argument stands: its container and its index
abbrev pub place_of : Situation → ℕ → Option (ℕ × ℕ)
place_of s a = place_in s.memory (argument s a)

-- the index of a place, where there is one
abbrev pub index_in : Option (ℕ × ℕ) → ℕ
index_in None = 0
index_in (Some p) = p.1

-- the container of a place, where there is one
abbrev pub container_in : Option (ℕ × ℕ) → ℕ
container_in None = 0
container_in (Some p) = p.0

-- the index at which an argument stands, where it is valid
abbrev pub index : Situation → ℕ → ℕ
index s a = index_in (place_of s a)

-- the container that a value is or stands in
abbrev pub container_of_value : Memory → Value → ℕ
container_of_value m (container_at j) = j
container_of_value m v = container_in (place_in m v)

-- the container that an argument is or stands in
abbrev pub container_of : Situation → ℕ → ℕ
container_of s a = container_of_value s.memory (argument s a)

-- that container
abbrev pub their : Situation → ℕ → Cont
their s a = cont_at s.memory (container_of s a)

-- its size
abbrev pub their_size : Situation → ℕ → ℕ
their_size s a = size (their s a)

-- a value as a number
abbrev pub number_in : Value → ℤ
number_in (number z) = z
number_in v = pos 0

-- a number argument as an int
abbrev pub int_of : Situation → ℕ → ℤ
int_of s a = converted t.Int (number_in (argument s a))

-- a number argument as a std::size_t
abbrev pub count_of : Situation → ℕ → ℕ
count_of s a = modulo (number_in (argument s a)) 18446744073709551616

-- a number argument as a std::ptrdiff_t
abbrev pub difference_of : Situation → ℕ → ℤ
difference_of s a = converted t.Diff (number_in (argument s a))

-- an int as an element of a sequence or set
abbrev pub item : ℤ → ℤ × ℤ
item z = (z, pos 0)

-- these ints as elements
abbrev pub as_items : List ℤ → List (ℤ × ℤ)
as_items xs = map item xs

-- these values as elements
abbrev pub listed : List Value → List (ℤ × ℤ)
listed vs = map (λ v. item (converted t.Int (number_in v))) vs

-- the keys in the range from an argument to the next one, where it is a range
abbrev pub range_keys : Situation → ℕ → List ℤ
range_keys s a = slice_range (keys (their s a)) (index s a) (index s (a + 1))

-- the number of elements in that range
abbrev pub range_size : Situation → ℕ → ℕ
range_size s a = index s (a + 1) - index s a

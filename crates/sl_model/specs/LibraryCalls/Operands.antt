-- What the operands of a call are by the letters of its row: which values fit, where ranges begin, how far an iterator is moved, and
-- what an algorithm writes to its output.
--
-- Restates ISO/IEC 14882:2017, [algorithms] (operands of algorithms), [alg.merge], [alg.set.operations], [alg.copy] and
-- [iterator.operations].
-- Chosen here: a call whose operands don't fit has no meaning; no run of a well typed text meets one. The number of elements that a set
-- operation writes is told where both its ranges are in order.
use Rattle.std.specs.Prelude.{ℕ, ◌+◌, ◌&&◌, nat_lt, Bool, true, false, not, List, [], ◌∷◌, ◌++◌, length, ℤ, pos, neg_ℤ, Option, Some, None}
use Rattle.std.specs.Prelude.{slice_get, if◌then◌else◌}
use Rattle.sl_base.specs.declared.form.Form.{Form}
use Rattle.sl_specs.specs.declared.call.Call.{Call}
use Rattle.sl_specs.specs.declared.call.Call.TheVariants as c
use Rattle.sl_specs.specs.declared.letter.Letter.{Letter}
use Rattle.sl_specs.specs.declared.letter.Letter.TheVariants as a
use Rattle.sl_specs.specs.Forms.{same_form, is_keyed}
use Rattle.sl_model.specs.Memory.Containers.{Cont, Memory}
use Rattle.sl_model.specs.Memory.Orders.{is_ascending, sorted, union_of, intersection_of, minus}
use Rattle.sl_model.specs.LibraryCalls.Values.{Value, number, iterator, container_at}
use Rattle.sl_model.specs.LibraryCalls.Situation.{Situation, place_in, difference_of, range_keys}

-- what sort of value an operand is
pub data Sort : Type 0 where
  a_number : Sort
  -- any number of numbers, to the last operand
  numbers : Sort
  -- the last operand, which may be missing
  perhaps_a_number : Sort
  an_iterator : Sort
  -- an iterator through which is written
  a_writer : Sort
  -- a container of this form
  a_container : Form → Sort
  -- a vector, deque or list
  a_sequence : Sort

-- the sorts of the operands that a letter stands for, in a call on a form; an output is an appender or it isn't
abbrev pub sorts_of : Form → Bool → Letter → List Sort
sorts_of form appends a.Position = an_iterator ∷ []
sorts_of form appends a.SplicedPosition = an_iterator ∷ []
sorts_of form appends a.OwnRange = an_iterator ∷ an_iterator ∷ []
sorts_of form appends a.IntRange = an_iterator ∷ an_iterator ∷ []
sorts_of form appends a.SecondIntRange = an_iterator ∷ an_iterator ∷ []
sorts_of form appends a.WrittenRange = a_writer ∷ an_iterator ∷ []
sorts_of form appends a.RandomAccessRange = a_writer ∷ an_iterator ∷ []
sorts_of form appends a.AnyRange = an_iterator ∷ an_iterator ∷ []
sorts_of form appends a.Count = a_number ∷ []
sorts_of form appends a.Element = a_number ∷ []
sorts_of form appends a.Key = a_number ∷ []
sorts_of form appends a.InitializerList = numbers ∷ []
sorts_of form appends a.Container = a_container form ∷ []
sorts_of form appends a.ChangedContainer = a_container form ∷ []
sorts_of form appends a.AppendedContainer = a_sequence ∷ []
sorts_of form appends a.Int = a_number ∷ []
sorts_of form appends a.Output = (if appends then a_sequence else a_writer) ∷ []
sorts_of form appends a.IteratorVariable = an_iterator ∷ []
sorts_of form appends a.Iterator = an_iterator ∷ []
sorts_of form appends a.BidirectionalIterator = an_iterator ∷ []
sorts_of form appends a.Distance = a_number ∷ []
sorts_of form appends a.OptionalDistance = perhaps_a_number ∷ []

-- the sorts of the operands of these letters
abbrev pub all_sorts : Form → Bool → List Letter → List Sort
all_sorts form appends [] = []
all_sorts form appends (x ∷ xs) = sorts_of form appends x ++ all_sorts form appends xs

-- a value is a number
abbrev pub is_number : Value → Bool
is_number (number z) = true
is_number v = false

-- each of these values is a number
abbrev pub all_numbers : List Value → Bool
all_numbers [] = true
all_numbers (v ∷ vs) = is_number v && all_numbers vs

-- a container that is there is of a form
abbrev pub is_of_form : Form → Option Cont → Bool
is_of_form form None = false
is_of_form form (Some c) = same_form c.form form

-- a container that is there is a sequence
abbrev pub is_sequence : Option Cont → Bool
is_sequence None = false
is_sequence (Some c) = not (is_keyed c.form)

-- an iterator that stands somewhere stands in a sequence
abbrev pub stands_in_sequence : Memory → Option (ℕ × ℕ) → Bool
stands_in_sequence m None = true
stands_in_sequence m (Some p) = is_sequence (slice_get m.conts p.0)

-- a value is of a sort
abbrev pub is_of : Memory → Sort → Value → Bool
is_of m a_number (number z) = true
is_of m perhaps_a_number (number z) = true
is_of m an_iterator (iterator s) = true
is_of m a_writer (iterator s) = stands_in_sequence m (place_in m (iterator s))
is_of m (a_container form) (container_at j) = is_of_form form (slice_get m.conts j)
is_of m a_sequence (container_at j) = is_sequence (slice_get m.conts j)
is_of m sort v = false

-- the values are of these sorts
abbrev pub are_of : Memory → List Sort → List Value → Bool
are_of m [] [] = true
are_of m (numbers ∷ sorts) vs = all_numbers vs
are_of m (perhaps_a_number ∷ []) [] = true
are_of m (sort ∷ sorts) (v ∷ vs) = is_of m sort v && are_of m sorts vs
are_of m sorts vs = false

-- the arguments at which ranges of ints begin, where those of these letters begin at a
abbrev pub ranges_from : ℕ → List Letter → List ℕ
ranges_from n [] = []
ranges_from n (a.IntRange ∷ xs) = n ∷ ranges_from (n + 2) xs
ranges_from n (a.SecondIntRange ∷ xs) = n ∷ ranges_from (n + 2) xs
ranges_from n (a.WrittenRange ∷ xs) = n ∷ ranges_from (n + 2) xs
ranges_from n (a.RandomAccessRange ∷ xs) = n ∷ ranges_from (n + 2) xs
ranges_from n (a.AnyRange ∷ xs) = n ∷ ranges_from (n + 2) xs
ranges_from n (x ∷ xs) = ranges_from (n + 1) xs

-- the arguments at which ranges begin
abbrev pub ranges_of : List Letter → List ℕ
ranges_of letters = ranges_from 1 letters

-- its range may be the wrong way round, where that can be told
abbrev pub may_go_back : List Letter → Bool
may_go_back (a.AnyRange ∷ xs) = true
may_go_back letters = false

-- how far an iterator is moved forward, 1 where no argument tells it
abbrev pub steps_given : Situation → ℤ
steps_given s = if nat_lt 1 (length s.values) then difference_of s 2 else pos 1

-- how far an iterator is moved by a call
abbrev pub steps_of : Call → Situation → ℤ
steps_of c.Prev s = neg_ℤ (steps_given s)
steps_of call s = steps_given s

-- a call is `std::copy`
abbrev pub is_copy : Call → Bool
is_copy c.Copy = true
is_copy call = false

-- what an algorithm writes to its output, in order
abbrev pub written_keys : Call → Situation → List ℤ
written_keys c.Merge s = sorted (range_keys s 1 ++ range_keys s 3)
written_keys c.SetUnion s = union_of (range_keys s 1) (range_keys s 3)
written_keys c.SetIntersection s = intersection_of (range_keys s 1) (range_keys s 3)
written_keys c.SetDifference s = minus (range_keys s 1) (range_keys s 3)
written_keys call s = range_keys s 1

-- a set operation
abbrev pub is_set_operation : Call → Bool
is_set_operation c.SetUnion = true
is_set_operation c.SetIntersection = true
is_set_operation c.SetDifference = true
is_set_operation call = false

-- both ranges are in order
abbrev pub are_ascending : Situation → Bool
are_ascending s = is_ascending (range_keys s 1) && is_ascending (range_keys s 3)

-- how many elements go to the output, where that is told
abbrev pub output_count : Call → Situation → Option ℕ
output_count call s = if is_set_operation call && not (are_ascending s) then None else Some (length (written_keys call s))

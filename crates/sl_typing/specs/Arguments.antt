-- Which arguments a call takes, before any conversion; and where, among arguments that it takes, it would write what is const, or needs a stronger
-- iterator.
--
-- Restates the tables of ISO/IEC 14882:2017, [container.requirements], [sequence.reqmts], [associative.reqmts], [unord.req], [list.ops],
-- [algorithms] and [iterator.operations] as far as types go, and [conv] (a number goes where a number of another type is asked for).
-- Chosen here: the `x` of an algorithm is an int without a conversion; a list in braces has ints and bools; a range has two ends of one type.
use Rattle.std.specs.Prelude.{ℕ, nat_le, Bool, true, false, not, ◌&&◌, ◌||◌, List, [], ◌∷◌, map, take, drop, if◌then◌else◌}
use Rattle.std.specs.List.{list_all, list_any, sum}
use Rattle.sl_base.specs.declared.form.Form.{Form}
use Rattle.sl_base.specs.declared.scalar.Scalar.TheVariants as t
use Rattle.sl_specs.specs.declared.letter.Letter.{Letter}
use Rattle.sl_specs.specs.declared.letter.Letter.TheVariants as l
use Rattle.sl_specs.specs.Forms.{is_keyed}
use Rattle.sl_typing.specs.declared.expr_type.ExprType.{ExprType}
use Rattle.sl_typing.specs.Types.{is_scalar, is_number, is_iterator, is_iterator_that, is_iterator_of, is_int_iterator, is_bidirectional, is_random}
use Rattle.sl_typing.specs.Types.{is_container_that, is_container_of, is_const_container}
use Rattle.sl_typing.specs.Signatures.{one, optional, range, width, appending}

-- a letter stands for the two ends of a range
abbrev pub is_range : Letter → Bool
is_range l.OwnRange = true
is_range l.IntRange = true
is_range l.SecondIntRange = true
is_range l.WrittenRange = true
is_range l.RandomAccessRange = true
is_range l.AnyRange = true
is_range letter = false

-- the fewest arguments and the most that a letter stands for, where a call has its arguments in parentheses
abbrev pub fewest : Letter → ℕ
fewest l.OptionalDistance = 0
fewest l.OwnRange = 2
fewest l.IntRange = 2
fewest l.SecondIntRange = 2
fewest l.WrittenRange = 2
fewest l.RandomAccessRange = 2
fewest l.AnyRange = 2
fewest letter = 1

abbrev pub most : Letter → ℕ
most l.OptionalDistance = 1
most letter = fewest letter

-- a letter stands for the elements of a list in braces
abbrev pub is_list : Letter → Bool
is_list l.InitializerList = true
is_list letter = false

-- some of these letters does: the call has a list in braces
abbrev pub takes_list : List Letter → Bool
takes_list letters = list_any is_list letters

-- these letters stand for so many arguments in parentheses
abbrev pub takes_count : List Letter → ℕ → Bool
takes_count letters n = not (takes_list letters) && nat_le (sum (map fewest letters)) n && nat_le n (sum (map most letters))

-- an int or a bool, which an element of a list may be
abbrev pub is_listed : ExprType → Bool
is_listed u = is_scalar t.Int u || is_scalar t.Bool u

-- a container to whose end elements are put
abbrev pub is_sequence : ExprType → Bool
is_sequence u = is_container_that (λ access x. not (is_keyed x)) u

-- arguments of these types are taken for a letter, in a call on an object of this form; constness and strength are left to what follows
abbrev pub letter_takes : Form → Letter → List ExprType → Bool
letter_takes form l.Position us = one (is_iterator_of form) us
letter_takes form l.SplicedPosition us = one (is_iterator_of form) us
letter_takes form l.OwnRange us = range (is_iterator_of form) us
letter_takes form l.IntRange us = range is_int_iterator us
letter_takes form l.SecondIntRange us = range is_int_iterator us
letter_takes form l.WrittenRange us = range is_int_iterator us
letter_takes form l.RandomAccessRange us = range is_int_iterator us
letter_takes form l.AnyRange us = range is_iterator us
letter_takes form l.Count us = one is_number us
letter_takes form l.Element us = one is_number us
letter_takes form l.Key us = one is_number us
letter_takes form l.InitializerList us = list_all is_listed us
letter_takes form l.Container us = one (is_container_of form) us
letter_takes form l.ChangedContainer us = one (is_container_of form) us
letter_takes form l.AppendedContainer us = one is_sequence us
letter_takes form l.Int us = one (is_scalar t.Int) us
letter_takes form l.Output us = one is_int_iterator us
letter_takes form l.IteratorVariable us = one is_iterator us
letter_takes form l.Iterator us = one is_iterator us
letter_takes form l.BidirectionalIterator us = one is_iterator us
letter_takes form l.Distance us = one is_number us
letter_takes form l.OptionalDistance us = optional is_number us

-- letters take arguments of these types in turn, and no more are left
abbrev pub letters_take : Form → List Letter → List ExprType → Bool
letters_take form [] [] = true
letters_take form [] us = false
letters_take form (letter ∷ rest) us = letter_takes form letter (take (width letter us) us) && letters_take form rest (drop (width letter us) us)

-- a letter as it stands where the call appends to a container in place of writing to an output, or doesn't
abbrev pub letters_seen : Bool → List Letter → List Letter
letters_seen appends letters = if appends then map appending letters else letters

-- the first of these types passes a test
abbrev pub first_is : (ExprType → Bool) → List ExprType → Bool
first_is test [] = false
first_is test (u ∷ us) = test u

-- an iterator through which nothing is written: its container is const, or its elements are keys
abbrev pub is_reading_iterator : ExprType → Bool
is_reading_iterator u = is_iterator_that (λ b x. b || is_keyed x) u

-- what a letter stands for is written, and is const
abbrev pub letter_writes_const : Letter → List ExprType → Bool
letter_writes_const l.WrittenRange us = first_is is_reading_iterator us
letter_writes_const l.RandomAccessRange us = first_is is_reading_iterator us
letter_writes_const l.Output us = first_is is_reading_iterator us
letter_writes_const l.ChangedContainer us = first_is is_const_container us
letter_writes_const l.AppendedContainer us = first_is is_const_container us
letter_writes_const letter us = false

-- the iterators that a letter stands for must be random access iterators, or go back, and don't
abbrev pub letter_is_weak : Letter → List ExprType → Bool
letter_is_weak l.RandomAccessRange us = first_is (λ u. not (is_random u)) us
letter_is_weak l.BidirectionalIterator us = first_is (λ u. not (is_bidirectional u)) us
letter_is_weak letter us = false

-- for some of these letters its own arguments pass a test
abbrev pub some_letter : (Letter → List ExprType → Bool) → List Letter → List ExprType → Bool
some_letter test [] us = false
some_letter test (letter ∷ rest) us = test letter (take (width letter us) us) || some_letter test rest (drop (width letter us) us)

-- a call would write what is const
abbrev pub letters_write_const : List Letter → List ExprType → Bool
letters_write_const letters us = some_letter letter_writes_const letters us

-- a call needs a stronger iterator
abbrev pub letters_are_weak : List Letter → List ExprType → Bool
letters_are_weak letters us = some_letter letter_is_weak letters us

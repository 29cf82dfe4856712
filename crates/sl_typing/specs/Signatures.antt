-- What the rows of the library take and give, by the types of their operands, and what the letters of a row stand for.
--
-- Restates the tables of ISO/IEC 14882:2017, [container.requirements], [sequence.reqmts], [associative.reqmts], [unord.req], [list.ops],
-- [algorithms], [iterator.operations] and [iterator.requirements] as far as types, constness and the kinds of iterators go.
-- Chosen here: a range has two ends of one type. Which letters a call has and what it gives stands in the table of the library. The call of
-- `back_inserter` is no call of its own: an algorithm that appends has the container in place of its output.
use Rattle.std.specs.Prelude.{ℕ, Bool, true, false, not, ◌&&◌, List, [], ◌∷◌, length, Option, None, slice_get}
use Rattle.std.specs.List.{list_all}
use Rattle.sl_base.specs.declared.form.Form.{Form}
use Rattle.sl_base.specs.declared.scalar.Scalar.TheVariants as t
use Rattle.sl_specs.specs.declared.call.Call.TheVariants as c
use Rattle.sl_specs.specs.declared.letter.Letter.{Letter}
use Rattle.sl_specs.specs.declared.letter.Letter.TheVariants as l
use Rattle.sl_specs.specs.declared.return_type.ReturnType.{ReturnType}
use Rattle.sl_specs.specs.declared.return_type.ReturnType.TheVariants as r
use Rattle.sl_specs.specs.Forms.{same_object}
use Rattle.sl_specs.specs.Rows.{Row}
use Rattle.sl_specs.specs.Table.{table, same_call}
use Rattle.sl_syntax.specs.declared.operator.Comparison.{Comparison}
use Rattle.sl_syntax.specs.declared.operator.Comparison.TheVariants as comparisons
use Rattle.sl_typing.specs.declared.expr_type.ExprType.{ExprType}
use Rattle.sl_typing.specs.declared.expr_type.ExprType.TheVariants as types
use Rattle.sl_typing.specs.Types.{is_scalar, same_iterators}

-- one operand that passes a test
abbrev pub one : (ExprType → Bool) → List ExprType → Bool
one test (u ∷ []) = test u
one test us = false

-- one operand that passes a test, or none
abbrev pub optional : (ExprType → Bool) → List ExprType → Bool
optional test [] = true
optional test us = one test us

-- the two ends of a range: iterators of one type, which passes a test
abbrev pub range : (ExprType → Bool) → List ExprType → Bool
range test (u ∷ v ∷ []) = test u && same_iterators u v
range test us = false

-- the elements of a list: ints, and there are some
abbrev pub elements : List ExprType → Bool
elements [] = false
elements us = list_all (is_scalar t.Int) us

-- how many of these operands a letter stands for: a list or an optional one for all that are left, a range for two
abbrev pub width : Letter → List ExprType → ℕ
width l.InitializerList us = length us
width l.OptionalDistance us = length us
width l.OwnRange us = 2
width l.IntRange us = 2
width l.SecondIntRange us = 2
width l.WrittenRange us = 2
width l.RandomAccessRange us = 2
width l.AnyRange us = 2
width letter us = 1

-- the type of the first operand
abbrev pub first_type : List ExprType → ExprType
first_type [] = types.Wrong
first_type (u ∷ us) = u

-- the type of the last operand
abbrev pub last_type : List ExprType → ExprType
last_type [] = types.Wrong
last_type (u ∷ []) = u
last_type (u ∷ us) = last_type us

-- the type of what a row gives, on an object that is const or isn't, of this form
abbrev pub result_type : ReturnType → Bool → Form → List ExprType → ExprType
result_type r.Nothing b x us = types.Nothing
result_type (r.Number s) b x us = types.Scalar s
result_type r.Iterator b x us = types.Iterator b x
result_type r.IteratorAndBool b x us = types.IteratorAndBool x
result_type r.IteratorPair b x us = types.IteratorPair b x
result_type r.Element b x us = types.Element (not b)
result_type r.FirstArgument b x us = first_type us
result_type r.Output b x us = last_type us
result_type r.Appender b x us = types.Wrong

-- the row with a number, if it is there
abbrev pub row_at : ℕ → Option Row
row_at n = slice_get table n

-- it makes a container
abbrev pub is_constructor : Row → Bool
is_constructor row = same_call c.Constructor row.call

-- it is an algorithm
abbrev pub is_algorithm : Row → Bool
is_algorithm row = same_object row.form None

-- a letter is an output
abbrev pub is_output : Letter → Bool
is_output l.Output = true
is_output letter = false

-- a container stands where there was an output
abbrev pub appending : Letter → Letter
appending l.Output = l.AppendedContainer
appending letter = letter

-- any iterators can be compared so, and not only random access iterators
abbrev pub is_equality : Comparison → Bool
is_equality comparisons.Equal = true
is_equality comparisons.NotEqual = true
is_equality o = false

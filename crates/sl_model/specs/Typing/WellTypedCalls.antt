-- What a call of the library gives, by the types of its operands. A call whose operands don't fit has no type.
--
-- Restates the tables of ISO/IEC 14882:2017, [container.requirements], [sequence.reqmts], [associative.reqmts], [unord.req], [list.ops],
-- [algorithms], [iterator.operations] and [iterator.requirements] as far as types, constness and the kinds of iterators go.
-- Chosen here: which letters a call has and what it gives stands in the table of the library. `it += n` and `std::advance(it, n)` give nothing, since
-- they stand as effects alone. The call of `back_inserter` is no call of the tree: an algorithm that appends has the container in place of its
-- output.
use Rattle.std.specs.Prelude.{ℕ, Bool, true, false, not, ◌&&◌, List, [], ◌∷◌, map, take, drop, Option, Some, None, is_some, if◌then◌else◌}
use Rattle.std.specs.List.{list_any}
use Rattle.sl_base.specs.declared.form.Form.{Form}
use Rattle.sl_base.specs.declared.form.Form.TheVariants as f
use Rattle.sl_base.specs.declared.scalar.Scalar.TheVariants as t
use Rattle.sl_specs.specs.declared.call.Call.TheVariants as c
use Rattle.sl_specs.specs.declared.letter.Letter.{Letter}
use Rattle.sl_specs.specs.declared.letter.Letter.TheVariants as l
use Rattle.sl_specs.specs.Forms.{same_form, same_object, is_keyed, is_hash, is_random_access}
use Rattle.sl_specs.specs.Rows.{Row}
use Rattle.sl_specs.specs.Table.{same_call}
use Rattle.sl_syntax.specs.declared.operator.Access.{Access}
use Rattle.sl_syntax.specs.declared.operator.Access.TheVariants as a
use Rattle.sl_syntax.specs.declared.typed.callee.Callee.{Callee}
use Rattle.sl_syntax.specs.declared.typed.callee.Callee.TheVariants as callees
use Rattle.sl_syntax.specs.declared.typed.operator.Operator.{Operator}
use Rattle.sl_syntax.specs.declared.typed.operator.Operator.TheVariants as operators
use Rattle.sl_syntax.specs.Written.{is_map}
use Rattle.sl_typing.specs.declared.expr_type.ExprType.{ExprType}
use Rattle.sl_typing.specs.declared.expr_type.ExprType.TheVariants as types
use Rattle.sl_typing.specs.Types.{only, is_const, is_scalar, is_iterator, is_iterator_of, is_int_iterator, is_writing_iterator}
use Rattle.sl_typing.specs.Types.{is_bidirectional, is_random, same_iterators, is_container_of, is_changed_container}
use Rattle.sl_typing.specs.Signatures.{one, optional, range, elements, width, result_type, row_at, is_constructor, is_algorithm, is_output, appending}
use Rattle.sl_typing.specs.Signatures.{is_equality}
use Rattle.sl_model.specs.Typing.WellTypedScopes.{Scope, variable_type}

-- operands of these types are what a letter stands for, in a call on an object of this form
abbrev pub fits_letter : Form → Letter → List ExprType → Bool
fits_letter form l.Position us = one (is_iterator_of form) us
fits_letter form l.SplicedPosition us = one (is_iterator_of form) us
fits_letter form l.OwnRange us = range (is_iterator_of form) us
fits_letter form l.IntRange us = range is_int_iterator us
fits_letter form l.SecondIntRange us = range is_int_iterator us
fits_letter form l.WrittenRange us = range is_writing_iterator us
fits_letter form l.RandomAccessRange us = range (λ u. is_writing_iterator u && is_random u) us
fits_letter form l.AnyRange us = range is_iterator us
fits_letter form l.Count us = one (is_scalar t.Size) us
fits_letter form l.Element us = one (is_scalar t.Int) us
fits_letter form l.Key us = one (is_scalar t.Int) us
fits_letter form l.InitializerList us = elements us
fits_letter form l.Container us = one (is_container_of form) us
fits_letter form l.ChangedContainer us = one (is_changed_container (same_form form)) us
fits_letter form l.AppendedContainer us = one (is_changed_container (λ x. not (is_keyed x))) us
fits_letter form l.Int us = one (is_scalar t.Int) us
fits_letter form l.Output us = one is_writing_iterator us
fits_letter form l.IteratorVariable us = one is_iterator us
fits_letter form l.Iterator us = one is_iterator us
fits_letter form l.BidirectionalIterator us = one is_bidirectional us
fits_letter form l.Distance us = one (is_scalar t.Diff) us
fits_letter form l.OptionalDistance us = optional (is_scalar t.Diff) us

-- operands of these types are what the letters stand for in turn, and no more
abbrev pub fits : Form → List Letter → List ExprType → Bool
fits form [] [] = true
fits form [] us = false
fits form (letter ∷ rest) us = fits_letter form letter (take (width letter us) us) && fits form rest (drop (width letter us) us)

-- it moves the iterator variable that it is handed
abbrev pub is_advance : Row → Bool
is_advance row = same_call c.Advance row.call

-- a call that changes its object or doesn't is right on a container of this access
abbrev pub may_be_called : Bool → Access → Bool
may_be_called changes a.Whole = true
may_be_called changes a.Const = not changes
may_be_called changes a.Elements = false

-- the type of a call of a member
abbrev pub member_type : Row → ExprType → List ExprType → ExprType
member_type row (types.Container access x) us =
    only (same_object row.form (Some x) && not (is_constructor row) && may_be_called row.changes access && fits x row.letters us)
    (result_type row.gives (is_const access) x us)
member_type row u us = types.Wrong

-- the type of a call of an algorithm; no letter of its own speaks of an object
abbrev pub algorithm_type : Row → List ExprType → ExprType
algorithm_type row us = only (is_algorithm row && fits f.Vector row.letters us) (result_type row.gives false f.Vector us)

-- the type of a call of a row on its object, or without one
abbrev pub row_type : Scope → Option Row → Option ℕ → List ExprType → ExprType
row_type g None object us = types.Wrong
row_type g (Some row) None us = algorithm_type row us
row_type g (Some row) (Some x) us = member_type row (variable_type g.containers x) us

-- the type of a call of an algorithm that appends to a container
abbrev pub appending_type : Option Row → List ExprType → ExprType
appending_type None us = types.Wrong
appending_type (Some row) us = only (is_algorithm row && list_any is_output row.letters && fits f.Vector (map appending row.letters) us) types.Nothing

-- the type of a row that makes a container of a form
abbrev pub constructs : Form → Option Row → List ExprType → Bool
constructs form None us = false
constructs form (Some row) us = same_object row.form (Some form) && is_constructor row && fits form row.letters us

-- the type of an operator on iterators
abbrev pub operator_type : Operator → List ExprType → ExprType
operator_type operators.Dereference (types.Iterator b x ∷ []) = only (not (is_map x)) (types.Element (not b && not (is_keyed x)))
operator_type operators.ArrowFirst (types.Iterator b x ∷ []) = only (is_map x) (types.Element false)
operator_type operators.ArrowSecond (types.Iterator b x ∷ []) = only (is_map x) (types.Element (not b))
operator_type operators.Increment (types.Iterator b x ∷ []) = types.Iterator b x
operator_type operators.Decrement (types.Iterator b x ∷ []) = only (not (is_hash x)) (types.Iterator b x)
operator_type operators.Add (types.Iterator b x ∷ u ∷ []) = only (is_random_access x && is_scalar t.Diff u) (types.Iterator b x)
operator_type operators.Subtract (types.Iterator b x ∷ u ∷ []) = only (is_random_access x && is_scalar t.Diff u) (types.Iterator b x)
operator_type operators.AddAssign (types.Iterator b x ∷ u ∷ []) = only (is_random_access x && is_scalar t.Diff u) types.Nothing
operator_type operators.SubtractAssign (types.Iterator b x ∷ u ∷ []) = only (is_random_access x && is_scalar t.Diff u) types.Nothing
operator_type operators.Difference (types.Iterator b x ∷ u ∷ []) = only (is_random_access x && is_iterator_of x u) (types.Scalar t.Diff)
operator_type (operators.Compare o) (u ∷ v ∷ []) = only (same_iterators u v && (if is_equality o then true else is_random u)) (types.Scalar t.Bool)
operator_type o us = types.Wrong

-- the type of a call of the library on an object, or without one, whatever its node does with it
abbrev pub call_type : Scope → Callee → Option ℕ → List ExprType → ExprType
call_type g (callees.Row n) object us = row_type g (row_at n) object us
call_type g (callees.Appends n) object us = only (not (is_some object)) (appending_type (row_at n) us)
call_type g (callees.Operator o) object us = only (not (is_some object)) (operator_type o us)
call_type g (callees.Hidden o) object us = types.Wrong

-- an operator that moves its iterator
abbrev pub is_moving_operator : Operator → Bool
is_moving_operator operators.Increment = true
is_moving_operator operators.Decrement = true
is_moving_operator operators.AddAssign = true
is_moving_operator operators.SubtractAssign = true
is_moving_operator o = false

-- a row, if it is there, moves its iterator
abbrev pub is_moving_row : Option Row → Bool
is_moving_row None = false
is_moving_row (Some row) = is_advance row

-- a call moves the iterator variable that it begins with
abbrev pub is_moving : Callee → Bool
is_moving (callees.Row n) = is_moving_row (row_at n)
is_moving (callees.Appends n) = false
is_moving (callees.Operator o) = is_moving_operator o
is_moving (callees.Hidden o) = false

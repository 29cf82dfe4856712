-- Types: what they may be taken for.
--
-- Restates ISO/IEC 14882:2017, [basic.fundamental], [dcl.type.cv], [iterator.requirements] (which containers have which iterators; an iterator of
-- a const container writes nothing), [associative.reqmts] and [unord.req] (keys aren't written).
-- Chosen here: an int that is an element has a type of its own, which says whether it may be written. What isn't as it should be has the type
-- `Wrong`.
use Rattle.std.specs.Prelude.{Bool, true, false, not, ◌&&◌, ◌||◌}
use denote.Enum.Bare.{sameb}
use Rattle.sl_base.specs.contracts.scalar.Scalar.{the_type}
use Rattle.sl_base.specs.declared.form.Form.{Form}
use Rattle.sl_base.specs.declared.scalar.Scalar.{Scalar}
use Rattle.sl_base.specs.declared.scalar.Scalar.TheVariants as t
use Rattle.sl_specs.specs.Forms.{same_form, is_keyed, is_hash, is_random_access}
use Rattle.sl_syntax.specs.declared.operator.Access.{Access}
use Rattle.sl_syntax.specs.declared.operator.Access.TheVariants as a
use Rattle.sl_syntax.specs.Written.{is_map}
use Rattle.sl_typing.specs.declared.expr_type.ExprType.{ExprType}
use Rattle.sl_typing.specs.declared.expr_type.ExprType.TheVariants as types

-- two types of numbers are one
abbrev pub same_scalar : Scalar → Scalar → Bool
same_scalar = sameb the_type

-- two answers are one
abbrev pub same_answer : Bool → Bool → Bool
same_answer true b = b
same_answer false b = not b

-- a container is const
abbrev pub is_const : Access → Bool
is_const a.Const = true
is_const access = false

-- it has a type
abbrev pub has_type : ExprType → Bool
has_type types.Wrong = false
has_type u = true

-- the type, where a condition holds
abbrev pub only : Bool → ExprType → ExprType
only true u = u
only false u = types.Wrong

-- a number of this type; an element is an int
abbrev pub is_scalar : Scalar → ExprType → Bool
is_scalar s (types.Scalar r) = same_scalar s r
is_scalar s (types.Element w) = same_scalar s t.Int
is_scalar s u = false

-- a number of any type
abbrev pub is_number : ExprType → Bool
is_number (types.Scalar s) = true
is_number (types.Element w) = true
is_number u = false

-- a number that may be written
abbrev pub is_written : ExprType → Bool
is_written (types.Scalar s) = true
is_written (types.Element w) = w
is_written u = false

-- an element
abbrev pub is_element : ExprType → Bool
is_element (types.Element w) = true
is_element u = false

-- the type of a number's value; what is no number has its own
abbrev pub value_type : ExprType → ExprType
value_type (types.Element w) = types.Scalar t.Int
value_type u = u

-- the type of a number; what is none has the type int
abbrev pub scalar_of : ExprType → Scalar
scalar_of (types.Scalar s) = s
scalar_of u = t.Int

-- the type in which two numbers meet: `std::size_t`, else `std::ptrdiff_t`, else `int`, [expr.arith.conv]
abbrev pub common : Scalar → Scalar → Scalar
common t.Size s = t.Size
common r t.Size = t.Size
common t.Diff s = t.Diff
common r t.Diff = t.Diff
common r s = t.Int

-- a type that numbers are calculated in
abbrev pub is_arithmetic : Scalar → Bool
is_arithmetic s = not (same_scalar t.Bool s)

-- an iterator whose constness and form pass a test
abbrev pub is_iterator_that : (Bool → Form → Bool) → ExprType → Bool
is_iterator_that test (types.Iterator b x) = test b x
is_iterator_that test u = false

-- an iterator
abbrev pub is_iterator : ExprType → Bool
is_iterator u = is_iterator_that (λ b x. true) u

-- an iterator of a form, const or not
abbrev pub is_iterator_of : Form → ExprType → Bool
is_iterator_of form u = is_iterator_that (λ b x. same_form form x) u

-- an iterator to ints
abbrev pub is_int_iterator : ExprType → Bool
is_int_iterator u = is_iterator_that (λ b x. not (is_map x)) u

-- an iterator to pairs of a key and a value
abbrev pub is_map_iterator : ExprType → Bool
is_map_iterator u = is_iterator_that (λ b x. is_map x) u

-- an iterator through which the elements of a sequence are written
abbrev pub is_writing_iterator : ExprType → Bool
is_writing_iterator u = is_iterator_that (λ b x. not b && not (is_keyed x)) u

-- an iterator that goes both ways
abbrev pub is_bidirectional : ExprType → Bool
is_bidirectional u = is_iterator_that (λ b x. not (is_hash x)) u

-- a random access iterator
abbrev pub is_random : ExprType → Bool
is_random u = is_iterator_that (λ b x. is_random_access x) u

-- two iterators of one type
abbrev pub same_iterators : ExprType → ExprType → Bool
same_iterators (types.Iterator b x) (types.Iterator c y) = same_answer b c && same_form x y
same_iterators u v = false

-- two iterators of one form
abbrev pub same_iterator_forms : ExprType → ExprType → Bool
same_iterator_forms (types.Iterator b x) (types.Iterator c y) = same_form x y
same_iterator_forms u v = false

-- an iterator goes where one of this constness and form is asked for: any goes where a const one is
abbrev pub goes_into : Bool → Form → ExprType → Bool
goes_into b x (types.Iterator c y) = same_form x y && (b || not c)
goes_into b x u = false

-- a container whose access and form pass a test
abbrev pub is_container_that : (Access → Form → Bool) → ExprType → Bool
is_container_that test (types.Container access x) = test access x
is_container_that test u = false

-- a container
abbrev pub is_container : ExprType → Bool
is_container u = is_container_that (λ access x. true) u

-- a container of a form that may be read
abbrev pub is_container_of : Form → ExprType → Bool
is_container_of form (types.Container a.Elements x) = false
is_container_of form (types.Container access x) = same_form form x
is_container_of form u = false

-- a container that may be changed and whose form passes a test
abbrev pub is_changed_container : (Form → Bool) → ExprType → Bool
is_changed_container test (types.Container a.Whole x) = test x
is_changed_container test u = false

-- a const container
abbrev pub is_const_container : ExprType → Bool
is_const_container u = is_container_that (λ access x. is_const access) u

-- two containers of one form
abbrev pub same_containers : ExprType → ExprType → Bool
same_containers (types.Container access x) (types.Container other y) = same_form x y
same_containers u v = false

-- The type of an expression, where it breaks no rule.
--
-- Restates ISO/IEC 14882:2017, [expr] and its sections on each operator; [expr.arith.conv] for numbers; [expr]: a reference stands for what it is bound
-- to; [dcl.init.ref]; for calls of the library the tables of [container.requirements], [algorithms] and [iterator.operations].
-- Chosen here: what breaks a rule may have any type, since that rule is the refusal. A call of `std::back_inserter` has the type of its container, and
-- an algorithm that appends gives nothing.
use Rattle.std.specs.Prelude.{ℕ, ◌+◌, Bool, true, false, not, ◌&&◌, ◌||◌, List, [], ◌∷◌, Option, Some, None, codes, if◌then◌else◌}
use Rattle.std.specs.Str.{bytes_eq}
use Rattle.sl_base.specs.declared.form.Form.TheVariants as f
use Rattle.sl_base.specs.declared.scalar.Scalar.TheVariants as t
use Rattle.sl_specs.specs.declared.return_type.ReturnType.{ReturnType}
use Rattle.sl_specs.specs.declared.return_type.ReturnType.TheVariants as r
use Rattle.sl_specs.specs.Forms.{is_keyed}
use Rattle.sl_syntax.specs.declared.operator.BinaryOperator.{BinaryOperator}
use Rattle.sl_syntax.specs.declared.operator.BinaryOperator.TheVariants as b
use Rattle.sl_syntax.specs.declared.operator.PrefixOperator.{PrefixOperator}
use Rattle.sl_syntax.specs.declared.operator.PrefixOperator.TheVariants as p
use Rattle.sl_syntax.specs.declared.operator.Selector.{Selector}
use Rattle.sl_syntax.specs.declared.operator.Selector.TheVariants as l
use Rattle.sl_syntax.specs.declared.typed.parameter.ParameterKind.{ParameterKind}
use Rattle.sl_syntax.specs.Tree as s
use Rattle.sl_syntax.specs.Tree.{Expr, Exprs}
use Rattle.sl_typing.specs.declared.expr_type.ExprType.{ExprType}
use Rattle.sl_typing.specs.declared.expr_type.ExprType.TheVariants as types
use Rattle.sl_typing.specs.declared.scope.FunctionHead.{FunctionHead}
use Rattle.sl_typing.specs.declared.scope.Scope.{Scope}
use Rattle.sl_typing.specs.Types.{is_const, value_type, scalar_of, common}
use Rattle.sl_typing.specs.Signatures.{first_type, result_type}
use Rattle.sl_typing.specs.Candidates.{has_output, member_row, algorithm_row}
use Rattle.sl_typing.specs.Scopes.{type_of_name, function_named, type_of_kind}

-- how many expressions there are
abbrev pub size : Exprs → ℕ
size s.none = 0
size (s.with x xs) = size xs + 1

-- no more follow
abbrev pub are_none : Exprs → Bool
are_none s.none = true
are_none (s.with x xs) = false

-- a call of `std::back_inserter`
abbrev pub is_back_inserter : Expr → Bool
is_back_inserter (s.library_call f xs) = bytes_eq f.name (codes "back_inserter")
is_back_inserter e = false

-- the last of these is one
abbrev pub end_in_appender : Exprs → Bool
end_in_appender s.none = false
end_in_appender (s.with x xs) = (are_none xs && is_back_inserter x) || end_in_appender xs

-- an algorithm's output is a call of `std::back_inserter`: it appends
abbrev pub appends : List ℕ → Exprs → Bool
appends name xs = has_output name (size xs) && end_in_appender xs

-- the type of a use of a variable: a reference to an int is the element that it is bound to
abbrev pub type_of_use : ExprType → ExprType
type_of_use (types.IntReference w) = types.Element w
type_of_use u = u

-- the type of what a function gives
abbrev pub type_given : Option ParameterKind → ExprType
type_given None = types.Nothing
type_given (Some k) = type_of_kind k

-- the type of a call of the program's own
abbrev pub own_type : Option FunctionHead → ExprType
own_type None = types.Wrong
own_type (Some h) = type_given h.result

-- the type of a member call on a container of this type
abbrev pub member_type : ExprType → List ℕ → List ExprType → ExprType
member_type (types.Container access form) name us = elim (member_row form name us) as (λ _. ExprType) [
  | None ↦ types.Wrong
  | Some x ↦ result_type x.row.gives (is_const access) form us
]
member_type u name us = types.Wrong

-- the type of what an algorithm gives, where it appends or doesn't
abbrev pub algorithm_gives : Bool → ReturnType → List ExprType → ExprType
algorithm_gives true r.Output us = types.Nothing
algorithm_gives appends r.Appender us = first_type us
algorithm_gives appends gives us = result_type gives false f.Vector us

-- the type of a call of an algorithm
abbrev pub algorithm_type : Bool → List ℕ → List ExprType → ExprType
algorithm_type appends name us = elim (algorithm_row appends name us) as (λ _. ExprType) [
  | None ↦ types.Wrong
  | Some x ↦ algorithm_gives appends x.row.gives us
]

-- the type of what an iterator stands at: an element, which isn't written if it is a key or its container is const
abbrev pub element_at : ExprType → ExprType
element_at (types.Iterator b x) = types.Element (not b && not (is_keyed x))
element_at u = types.Wrong

-- the type of an operator before its operand
abbrev pub prefix_type : PrefixOperator → ExprType → ExprType
prefix_type p.Not u = types.Scalar t.Bool
prefix_type p.Negate u = types.Scalar (common (scalar_of u) t.Int)
prefix_type p.Dereference u = element_at u
prefix_type p.Increment u = value_type u
prefix_type p.Decrement u = value_type u

-- two numbers meet in their common type; an iterator and a number give an iterator, two iterators their distance
abbrev pub arithmetic_type : ExprType → ExprType → ExprType
arithmetic_type (types.Iterator b x) (types.Iterator c y) = types.Scalar t.Diff
arithmetic_type (types.Iterator b x) v = types.Iterator b x
arithmetic_type u v = types.Scalar (common (scalar_of u) (scalar_of v))

-- the type of an operator between two operands
abbrev pub binary_type : BinaryOperator → ExprType → ExprType → ExprType
binary_type (b.Arithmetic op) u v = arithmetic_type u v
binary_type op u v = types.Scalar t.Bool

-- the type of `a[e]`
abbrev pub subscript_type : ExprType → ExprType
subscript_type (types.Container access form) = types.Element (not (is_const access))
subscript_type u = types.Wrong

-- `first`, and not `second`
abbrev pub is_first : List ℕ → Bool
is_first name = bytes_eq name (codes "first")

-- `first` or `second`
abbrev pub is_part_name : List ℕ → Bool
is_part_name name = is_first name || bytes_eq name (codes "second")

-- the type of `.first` or `.second`: of a pair, and of the element of a range-for over a map, whose key isn't written
abbrev pub part_type : ExprType → Bool → ExprType
part_type (types.IteratorAndBool form) first = if first then types.Iterator false form else types.Scalar t.Bool
part_type (types.IteratorPair b form) first = types.Iterator b form
part_type (types.EntryReference w) first = types.Element (not first && w)
part_type u first = types.Wrong

-- that of `->first` or `->second`
abbrev pub arrow_type : ExprType → Bool → ExprType
arrow_type (types.Iterator b form) first = types.Element (not first && not b)
arrow_type u first = types.Wrong

-- the type of a piece `.x` or `->x`
abbrev pub selected_type : Selector → ExprType → Bool → ExprType
selected_type l.Dot u first = part_type u first
selected_type l.Arrow u first = arrow_type u first

unfoldable mutual
  -- the type of an expression
  pub type_of : Scope → Expr → ExprType
  type_of g (s.number at n) = types.Scalar t.Int
  type_of g (s.truth at x) = types.Scalar t.Bool
  type_of g (s.name x) = type_of_use (type_of_name g x.name)
  type_of g (s.call f xs) = own_type (function_named g f.name)
  type_of g (s.library_call f xs) = algorithm_type (appends f.name xs) f.name (types_of g xs)
  type_of g (s.parentheses at x) = type_of g x
  type_of g (s.prefix op at x) = prefix_type op (type_of g x)
  type_of g (s.binary x op at y) = binary_type op (type_of g x) (type_of g y)
  type_of g (s.postfix x op at) = value_type (type_of g x)
  type_of g (s.index x at y) = subscript_type (type_of g x)
  type_of g (s.member_call x f xs) = member_type (type_of g x) f.name (types_of g xs)
  type_of g (s.member x selector at f) = selected_type selector (type_of g x) (is_first f.name)

  -- the types of expressions
  pub types_of : Scope → Exprs → List ExprType
  types_of g s.none = []
  types_of g (s.with x xs) = type_of g x ∷ types_of g xs

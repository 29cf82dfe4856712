-- The types of the expressions of a typed text.
--
-- Restates ISO/IEC 14882:2017, [expr] and its sections as far as types go, [conv] (each conversion is a node, so operands have the type that is
-- needed), [expr.call], [over.match.viable], [dcl.init.ref] (what may be handed to a reference), [dcl.type.cv] and [basic.start.main] (`main` isn't
-- called).
-- Chosen here: numbers are compared and calculated with in a type that isn't bool, `->` stands on an iterator variable, and `.first` and `.second`
-- on a call that gives a pair. A parameter for elements alone is handed on to such a parameter alone.
use Rattle.std.specs.Prelude.{ℕ, ◌==◌, Bool, true, false, not, ◌&&◌, ◌||◌, List, [], ◌∷◌, ℤ, pos, int_le, Option, Some, None, slice_get}
use Rattle.sl_base.specs.declared.limits.TheConstants.{LARGEST_NUMBER}
use Rattle.sl_base.specs.declared.scalar.Scalar.{Scalar}
use Rattle.sl_base.specs.declared.scalar.Scalar.TheVariants as t
use Rattle.sl_specs.specs.Forms.{same_form}
use Rattle.sl_syntax.specs.declared.operator.Access.TheVariants as a
use Rattle.sl_syntax.specs.declared.typed.callee.Callee.{Callee}
use Rattle.sl_syntax.specs.declared.typed.callee.Callee.TheVariants as callees
use Rattle.sl_syntax.specs.declared.typed.element.ElementPart.{ElementPart}
use Rattle.sl_syntax.specs.declared.typed.element.ElementPart.TheVariants as parts
use Rattle.sl_syntax.specs.declared.typed.operator.Operator.TheVariants as operators
use Rattle.sl_syntax.specs.declared.typed.parameter.ParameterKind.{ParameterKind}
use Rattle.sl_syntax.specs.declared.typed.parameter.ParameterKind.TheVariants as parameters
use Rattle.sl_syntax.specs.Typed.{Expr, literal, held, iterator, convert, negate, logical_not, logical_and, logical_or, arithmetic, comparison}
use Rattle.sl_syntax.specs.Typed.{increment, move, call, own_call, first, second, container, handed_scalar, Left, scalar, reference, element}
use Rattle.sl_syntax.specs.Typed.{Operands, none, with, Function}
use Rattle.sl_typing.specs.declared.expr_type.ExprType.{ExprType}
use Rattle.sl_typing.specs.declared.expr_type.ExprType.TheVariants as types
use Rattle.sl_typing.specs.Types.{only, same_scalar, is_scalar, is_number, is_written, is_arithmetic, is_iterator, goes_into, is_container_of}
use Rattle.sl_typing.specs.Types.{is_changed_container}
use Rattle.sl_model.specs.Typing.WellTypedScopes.{Scope, variable_type, are_comparable}
use Rattle.sl_model.specs.Typing.WellTypedCalls.{call_type, is_moving}

-- a number of the text: an int is written without a sign, and a bool is 0 or 1
abbrev pub is_literal : Scalar → ℤ → Bool
is_literal t.Int z = int_le (pos 0) z && int_le z (pos LARGEST_NUMBER)
is_literal t.Bool z = int_le (pos 0) z && int_le z (pos 1)
is_literal s z = false

-- the type, if it is an iterator
abbrev pub only_iterator : ExprType → ExprType
only_iterator u = only (is_iterator u) u

-- the type, if it isn't an element, which stands in a left side
abbrev pub only_value : ExprType → ExprType
only_value (types.Element w) = types.Wrong
only_value u = u

-- the type, if it is an element
abbrev pub only_element : ExprType → ExprType
only_element (types.Element w) = types.Element w
only_element u = types.Wrong

-- a scalar variable that is handed to a reference
abbrev pub handed : ExprType → ExprType
handed (types.Scalar s) = types.Handed s
handed u = types.Wrong

-- the type of `.first` of a pair; an insertion is made on a container that isn't const
abbrev pub type_of_first : ExprType → ExprType
type_of_first (types.IteratorAndBool x) = types.Iterator false x
type_of_first (types.IteratorPair b x) = types.Iterator b x
type_of_first u = types.Wrong

-- that of `.second`
abbrev pub type_of_second : ExprType → ExprType
type_of_second (types.IteratorAndBool x) = types.Scalar t.Bool
type_of_second (types.IteratorPair b x) = types.Iterator b x
type_of_second u = types.Wrong

-- the type of a use of a reference: a key is never written
abbrev pub type_of_use : ElementPart → ExprType → ExprType
type_of_use parts.Whole (types.IntReference w) = types.Element w
type_of_use parts.First (types.EntryReference w) = types.Element false
type_of_use parts.Second (types.EntryReference w) = types.Element w
type_of_use part u = types.Wrong

-- an operand goes to a parameter
abbrev pub goes_to : ParameterKind → ExprType → Bool
goes_to (parameters.Value s) u = is_scalar s u
goes_to (parameters.Reference s) (types.Handed r) = same_scalar s r
goes_to (parameters.Reference s) u = false
goes_to (parameters.Container a.Const x) u = is_container_of x u
goes_to (parameters.Container a.Whole x) u = is_changed_container (same_form x) u
goes_to (parameters.Container a.Elements x) (types.Container access y) = same_form x y
goes_to (parameters.Container a.Elements x) u = false
goes_to (parameters.Iterator b x) u = goes_into b x u

-- operands go to parameters in turn, and there are as many
abbrev pub go_to : List ParameterKind → List ExprType → Bool
go_to [] [] = true
go_to (k ∷ ks) (u ∷ us) = goes_to k u && go_to ks us
go_to ks us = false

-- the type of what a function gives; it gives no reference and no container
abbrev pub type_given : Option ParameterKind → ExprType
type_given None = types.Nothing
type_given (Some (parameters.Value s)) = types.Scalar s
type_given (Some (parameters.Iterator b x)) = types.Iterator b x
type_given k = types.Wrong

-- the type of a call of a function, if it is there and may be called
abbrev pub function_type : Bool → Option Function → List ExprType → ExprType
function_type may_be_called None us = types.Wrong
function_type may_be_called (Some h) us = only (may_be_called && go_to h.parameters us) (type_given h.result)

-- the type of a call of a function by its number; `main` isn't called
abbrev pub own_type : Scope → ℕ → List ExprType → ExprType
own_type g n us = function_type (not (n == g.main)) (slice_get g.functions n) us

-- `it->first` and `it->second`
abbrev pub is_arrow : Callee → Bool
is_arrow (callees.Operator operators.ArrowFirst) = true
is_arrow (callees.Operator operators.ArrowSecond) = true
is_arrow callee = false

-- an iterator variable alone
abbrev pub is_variable : Operands → Bool
is_variable (with (iterator x) none) = true
is_variable ops = false

unfoldable mutual
  -- the type of an expression
  pub type_of : Scope → Expr → ExprType
  type_of g (literal s z) = only (is_literal s z) (types.Scalar s)
  type_of g (held l) = type_of_left g l
  type_of g (iterator x) = only_iterator (variable_type g.iterators x)
  type_of g (convert s e) = only (is_number (type_of g e)) (types.Scalar s)
  type_of g (negate s at e) = only (is_arithmetic s && is_scalar s (type_of g e)) (types.Scalar s)
  type_of g (logical_not at e) = only (is_number (type_of g e)) (types.Scalar t.Bool)
  type_of g (logical_and at d e) = only (is_number (type_of g d) && is_number (type_of g e)) (types.Scalar t.Bool)
  type_of g (logical_or at d e) = only (is_number (type_of g d) && is_number (type_of g e)) (types.Scalar t.Bool)
  type_of g (arithmetic op s at d e) = only (is_arithmetic s && is_scalar s (type_of g d) && is_scalar s (type_of g e)) (types.Scalar s)
  type_of g (comparison op at d e) = only (are_comparable (type_of g d) (type_of g e)) (types.Scalar t.Bool)
  type_of g (increment step fix s at l) = let u = type_of_left g l in only (is_arithmetic s && is_scalar s u && is_written u) (types.Scalar s)
  type_of g (move fix x h ops) = only (is_moving h.callee) (call_type g h.callee h.object (variable_type g.iterators x ∷ types_of g ops))
  type_of g (call h ops) = only (not (is_moving h.callee)) (only_value (call_type g h.callee h.object (types_of g ops)))
  type_of g (own_call n at ops) = own_type g n (types_of g ops)
  type_of g (first at e) = type_of_first (type_of g e)
  type_of g (second at e) = type_of_second (type_of g e)
  type_of g (container x) = variable_type g.containers x
  type_of g (handed_scalar x) = handed (variable_type g.scalars x)

  -- the type of a left side
  pub type_of_left : Scope → Left → ExprType
  type_of_left g (scalar x at) = variable_type g.scalars x
  type_of_left g (reference x at name part) = type_of_use part (variable_type g.iterators x)
  type_of_left g (element h ops) = only (not (is_arrow h.callee) || is_variable ops) (only_element (call_type g h.callee h.object (types_of g ops)))

  -- the types of operands
  pub types_of : Scope → Operands → List ExprType
  types_of g none = []
  types_of g (with e rest) = type_of g e ∷ types_of g rest

-- What the parts of an expression that has a type are: what each node asks of them.
use Rattle.std.proofs.Common.{◌≡◌, ℕ, ◌==◌, true, false, not, ◌&&◌, ◌||◌, ◌∷◌, refl}
use Rattle.std.specs.Prelude.{ℤ, slice_get}
use Rattle.sl_base.specs.declared.place.Place.{Place}
use Rattle.sl_base.specs.declared.scalar.Scalar.{Scalar}
use Rattle.sl_base.specs.declared.scalar.Scalar.TheVariants as t
use Rattle.sl_syntax.specs.declared.operator.Arithmetic.{Arithmetic}
use Rattle.sl_syntax.specs.declared.operator.Comparison.{Comparison}
use Rattle.sl_syntax.specs.declared.typed.element.ElementPart.{ElementPart}
use Rattle.sl_syntax.specs.declared.typed.element.ElementPart.TheVariants as parts
use Rattle.sl_syntax.specs.declared.typed.head.Head.{Head}
use Rattle.sl_syntax.specs.declared.typed.step.Fix.{Fix}
use Rattle.sl_syntax.specs.declared.typed.step.Step.{Step}
use Rattle.sl_syntax.specs.Typed.{Expr, literal, held, iterator, convert, negate, logical_not, logical_and, logical_or, arithmetic, comparison}
use Rattle.sl_syntax.specs.Typed.{increment, move, call, own_call, first, second, container, handed_scalar, Left, scalar, reference, element}
use Rattle.sl_syntax.specs.Typed.{Operands}
use Rattle.sl_typing.specs.declared.expr_type.ExprType.{ExprType}
use Rattle.sl_typing.specs.declared.expr_type.ExprType.TheVariants as types
use Rattle.sl_typing.specs.Types.{has_type, only, is_scalar, is_number, is_written, is_arithmetic, is_iterator}
use Rattle.sl_model.specs.Typing.WellTypedScopes.{Scope, variable_type, are_comparable}
use Rattle.sl_model.specs.Typing.WellTypedCalls.{call_type, is_moving}
use Rattle.sl_model.specs.Typing.WellTypedExpressions.{is_literal, only_value, only_element, type_of_first, type_of_second, type_of_use, handed}
use Rattle.sl_model.specs.Typing.WellTypedExpressions.{function_type, is_arrow, is_variable, type_of, type_of_left, types_of}
use Rattle.sl_model.proofs.Passing.{first_of_both, second_of_both}
use Rattle.sl_model.proofs.TypedOperands.{typed_by, only_holds, only_rest}

-- a literal is a number of its type
pub literal_fits : (g : Scope) (s : Scalar) (z : ℤ) → has_type (type_of g (literal s z)) ≡ true → is_literal s z ≡ true
unfolding type_of
literal_fits g s z h = only_holds (is_literal s z) (types.Scalar s) h

-- what is held is a left side that has a type
pub held_typed : (g : Scope) (l : Left) → has_type (type_of g (held l)) ≡ true → has_type (type_of_left g l) ≡ true
unfolding type_of
held_typed g l h = h

-- what is converted is a number
pub converted_number : (g : Scope) (s : Scalar) (e : Expr) → has_type (type_of g (convert s e)) ≡ true → is_number (type_of g e) ≡ true
unfolding type_of
converted_number g s e h = only_holds (is_number (type_of g e)) (types.Scalar s) h

-- what is negated is a number of the type, which isn't bool
pub negated_number : (g : Scope) (s : Scalar) (at : Place) (e : Expr) → has_type (type_of g (negate s at e)) ≡ true
    → (is_arithmetic s ≡ true) × (is_scalar s (type_of g e) ≡ true)
unfolding type_of
negated_number g s at e h =
    let both = only_holds (is_arithmetic s && is_scalar s (type_of g e)) (types.Scalar s) h in
    (first_of_both (is_arithmetic s) (is_scalar s (type_of g e)) both, second_of_both (is_arithmetic s) (is_scalar s (type_of g e)) both)

-- the operand of `!` is a number
pub inverted_number : (g : Scope) (at : Place) (e : Expr) → has_type (type_of g (logical_not at e)) ≡ true → is_number (type_of g e) ≡ true
unfolding type_of
inverted_number g at e h = only_holds (is_number (type_of g e)) (types.Scalar t.Bool) h

-- two operands of which both are asked to be numbers are
pub both_numbers : (u v : ExprType) → has_type (only (is_number u && is_number v) (types.Scalar t.Bool)) ≡ true
    → (is_number u ≡ true) × (is_number v ≡ true)
both_numbers u v h =
    let both = only_holds (is_number u && is_number v) (types.Scalar t.Bool) h in
    (first_of_both (is_number u) (is_number v) both, second_of_both (is_number u) (is_number v) both)

-- both operands of `&&` are numbers
pub numbers_of_and : (g : Scope) (at : Place) (d e : Expr) → has_type (type_of g (logical_and at d e)) ≡ true
    → (is_number (type_of g d) ≡ true) × (is_number (type_of g e) ≡ true)
unfolding type_of
numbers_of_and g at d e h = both_numbers (type_of g d) (type_of g e) h

-- both operands of `||` are
pub numbers_of_or : (g : Scope) (at : Place) (d e : Expr) → has_type (type_of g (logical_or at d e)) ≡ true
    → (is_number (type_of g d) ≡ true) × (is_number (type_of g e) ≡ true)
unfolding type_of
numbers_of_or g at d e h = both_numbers (type_of g d) (type_of g e) h

-- both operands of an operator that calculates are numbers of its type, which isn't bool
pub calculated_numbers : (g : Scope) (op : Arithmetic) (s : Scalar) (at : Place) (d e : Expr) → has_type (type_of g (arithmetic op s at d e)) ≡ true
    → (is_arithmetic s ≡ true) × (is_scalar s (type_of g d) ≡ true) × (is_scalar s (type_of g e) ≡ true)
unfolding type_of
calculated_numbers g op s at d e h =
    let all = only_holds (is_arithmetic s && is_scalar s (type_of g d) && is_scalar s (type_of g e)) (types.Scalar s) h in
    let both = first_of_both (is_arithmetic s && is_scalar s (type_of g d)) (is_scalar s (type_of g e)) all in (
      first_of_both (is_arithmetic s) (is_scalar s (type_of g d)) both,
      second_of_both (is_arithmetic s) (is_scalar s (type_of g d)) both,
      second_of_both (is_arithmetic s && is_scalar s (type_of g d)) (is_scalar s (type_of g e)) all,
    )

-- both operands of an operator that compares are numbers of one type
pub compared_numbers : (g : Scope) (op : Comparison) (at : Place) (d e : Expr) → has_type (type_of g (comparison op at d e)) ≡ true
    → are_comparable (type_of g d) (type_of g e) ≡ true
unfolding type_of
compared_numbers g op at d e h = only_holds (are_comparable (type_of g d) (type_of g e)) (types.Scalar t.Bool) h

-- `++` and `--` stand at a number of their type, which isn't bool, that may be written
pub stepped_number : (g : Scope) (step : Step) (fix : Fix) (s : Scalar) (at : Place) (l : Left)
    → has_type (type_of g (increment step fix s at l)) ≡ true
    → (is_arithmetic s ≡ true) × (is_scalar s (type_of_left g l) ≡ true) × (is_written (type_of_left g l) ≡ true)
unfolding type_of
stepped_number g step fix s at l h =
    let u = type_of_left g l in
    let all = only_holds (is_arithmetic s && is_scalar s u && is_written u) (types.Scalar s) h in
    let both = first_of_both (is_arithmetic s && is_scalar s u) (is_written u) all in (
      first_of_both (is_arithmetic s) (is_scalar s u) both,
      second_of_both (is_arithmetic s) (is_scalar s u) both,
      second_of_both (is_arithmetic s && is_scalar s u) (is_written u) all,
    )

-- what moves a variable is a call that does, and has a type
pub moving_call : (g : Scope) (fix : Fix) (x : ℕ) (c : Head) (ops : Operands) → has_type (type_of g (move fix x c ops)) ≡ true
    → (is_moving c.callee ≡ true) × (has_type (call_type g c.callee c.object (variable_type g.iterators x ∷ types_of g ops)) ≡ true)
unfolding type_of
moving_call g fix x c ops h =
    let u = call_type g c.callee c.object (variable_type g.iterators x ∷ types_of g ops) in
    (only_holds (is_moving c.callee) u h, only_rest (is_moving c.callee) u h)

-- a call that gives a value moves no variable, and has a type
pub value_call : (g : Scope) (c : Head) (ops : Operands) → has_type (type_of g (call c ops)) ≡ true
    → (not (is_moving c.callee) ≡ true) × (has_type (call_type g c.callee c.object (types_of g ops)) ≡ true)
unfolding type_of
value_call g c ops h =
    let u = call_type g c.callee c.object (types_of g ops) in (
      only_holds (not (is_moving c.callee)) (only_value u) h,
      typed_by (λ w. has_type (only_value w)) refl u (only_rest (not (is_moving c.callee)) (only_value u) h),
    )

-- a call that gives an element has a type
pub element_call : (g : Scope) (c : Head) (ops : Operands) → has_type (type_of_left g (element c ops)) ≡ true
    → has_type (call_type g c.callee c.object (types_of g ops)) ≡ true
unfolding type_of_left
element_call g c ops h =
    let u = call_type g c.callee c.object (types_of g ops) in
    typed_by (λ w. has_type (only_element w)) refl u (only_rest (not (is_arrow c.callee) || is_variable ops) (only_element u) h)

-- a call of a function of the text has a type
pub function_call : (g : Scope) (n : ℕ) (at : Place) (ops : Operands) → has_type (type_of g (own_call n at ops)) ≡ true
    → has_type (function_type (not (n == g.main)) (slice_get g.functions n) (types_of g ops)) ≡ true
unfolding type_of
function_call g n at ops h = h

-- `.first` stands on what has a type
pub first_stands : (g : Scope) (at : Place) (e : Expr) → has_type (type_of g (first at e)) ≡ true → has_type (type_of g e) ≡ true
unfolding type_of
first_stands g at e h = typed_by (λ u. has_type (type_of_first u)) refl (type_of g e) h

-- `.second` does
pub second_stands : (g : Scope) (at : Place) (e : Expr) → has_type (type_of g (second at e)) ≡ true → has_type (type_of g e) ≡ true
unfolding type_of
second_stands g at e h = typed_by (λ u. has_type (type_of_second u)) refl (type_of g e) h

-- an iterator that has a type where it is used is there
pub iterator_there : (g : Scope) (x : ℕ) → has_type (type_of g (iterator x)) ≡ true → has_type (variable_type g.iterators x) ≡ true
unfolding type_of
iterator_there g x h = typed_by is_iterator refl (variable_type g.iterators x) (only_holds (is_iterator (variable_type g.iterators x)) _ h)

-- a container is
pub container_there : (g : Scope) (x : ℕ) → has_type (type_of g (container x)) ≡ true → has_type (variable_type g.containers x) ≡ true
unfolding type_of
container_there g x h = h

-- a scalar that is handed over is
pub handed_there : (g : Scope) (x : ℕ) → has_type (type_of g (handed_scalar x)) ≡ true → has_type (variable_type g.scalars x) ≡ true
unfolding type_of
handed_there g x h = typed_by (λ u. has_type (handed u)) refl (variable_type g.scalars x) h

-- a scalar that is read or written is
pub scalar_there : (g : Scope) (x : ℕ) (at : Place) → has_type (type_of_left g (scalar x at)) ≡ true → has_type (variable_type g.scalars x) ≡ true
unfolding type_of_left
scalar_there g x at h = h

-- no part of what isn't there is used
no_use : (part : ElementPart) → has_type (type_of_use part types.Wrong) ≡ false
no_use parts.Whole = refl
no_use parts.First = refl
no_use parts.Second = refl

-- a reference is
pub reference_there : (g : Scope) (x : ℕ) (at : Place) (name : ℕ) (part : ElementPart) → has_type (type_of_left g (reference x at name part)) ≡ true
    → has_type (variable_type g.iterators x) ≡ true
unfolding type_of_left
reference_there g x at name part h = typed_by (λ u. has_type (type_of_use part u)) (no_use part) (variable_type g.iterators x) h

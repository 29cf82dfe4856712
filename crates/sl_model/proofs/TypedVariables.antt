-- The variables that an expression with a type uses have numbers below the limits of their sorts.
use Rattle.std.proofs.Common.{◌≡◌, ℕ, ◌<◌, ◌==◌, true, not, List, [], ◌∷◌, ◌++◌, Option, Some, None, refl}
use Rattle.std.specs.Prelude.{slice_get}
use Rattle.sl_base.specs.declared.limits.TheConstants.{CONTAINERS, ITERATORS, SCALARS}
use Rattle.sl_specs.specs.Rows.{Row}
use Rattle.sl_syntax.specs.declared.typed.callee.Callee.{Callee}
use Rattle.sl_syntax.specs.declared.typed.callee.Callee.TheVariants as callees
use Rattle.sl_syntax.specs.Typed.{Expr, literal, held, iterator, convert, negate, logical_not, logical_and, logical_or, arithmetic, comparison}
use Rattle.sl_syntax.specs.Typed.{increment, move, call, own_call, first, second, container, handed_scalar, Left, scalar, reference, element}
use Rattle.sl_syntax.specs.Typed.{Operands, none, with}
use Rattle.sl_typing.specs.declared.expr_type.ExprType.{ExprType}
use Rattle.sl_typing.specs.Types.{has_type, is_scalar, is_number}
use Rattle.sl_typing.specs.Signatures.{row_at}
use Rattle.sl_model.specs.Typing.WellTypedScopes.{Scope, is_within, variable_type}
use Rattle.sl_model.specs.Typing.WellTypedCalls.{call_type, row_type, member_type}
use Rattle.sl_model.specs.Typing.WellTypedExpressions.{type_of, type_of_left, types_of}
use Rattle.sl_model.specs.Typing.WellTypedOrder.{Variable, the_scalar, the_container, the_iterator, object_in}
use Rattle.sl_model.proofs.Passing.{first_of_both, second_of_both}
use Rattle.sl_model.proofs.TypedOperands.{typed_by, all_typed}
use Rattle.sl_model.proofs.TypedCalls.{call_known}
use Rattle.sl_model.proofs.TypedParts.{held_typed, converted_number, negated_number, inverted_number, numbers_of_and, numbers_of_or}
use Rattle.sl_model.proofs.TypedParts.{calculated_numbers}
use Rattle.sl_model.proofs.TypedParts.{compared_numbers, stepped_number, moving_call, value_call, element_call, function_call, first_stands}
use Rattle.sl_model.proofs.TypedParts.{second_stands}
use Rattle.sl_model.proofs.TypedParts.{iterator_there, container_there, handed_there, scalar_there, reference_there}
use Rattle.sl_model.proofs.TypedNumbers.{scalar_is_below, container_is_below, iterator_is_below}
use Rattle.sl_model.proofs.TypedExpressions.{comparable_first, comparable_second, function_known}

abbrev mutual
  -- the variables that an expression uses
  pub uses_in : Expr → List Variable
  uses_in (literal s z) = []
  uses_in (held l) = uses_in_left l
  uses_in (iterator x) = the_iterator x ∷ []
  uses_in (convert s e) = uses_in e
  uses_in (negate s at e) = uses_in e
  uses_in (logical_not at e) = uses_in e
  uses_in (logical_and at d e) = uses_in d ++ uses_in e
  uses_in (logical_or at d e) = uses_in d ++ uses_in e
  uses_in (arithmetic op s at d e) = uses_in d ++ uses_in e
  uses_in (comparison op at d e) = uses_in d ++ uses_in e
  uses_in (increment step fix s at l) = uses_in_left l
  uses_in (move fix x c ops) = the_iterator x ∷ (object_in c ++ uses_in_operands ops)
  uses_in (call c ops) = object_in c ++ uses_in_operands ops
  uses_in (own_call n at ops) = uses_in_operands ops
  uses_in (first at e) = uses_in e
  uses_in (second at e) = uses_in e
  uses_in (container x) = the_container x ∷ []
  uses_in (handed_scalar x) = the_scalar x ∷ []

  -- those of a left side
  pub uses_in_left : Left → List Variable
  uses_in_left (scalar x at) = the_scalar x ∷ []
  uses_in_left (reference x at name part) = the_iterator x ∷ []
  uses_in_left (element c ops) = object_in c ++ uses_in_operands ops

  -- those of operands
  pub uses_in_operands : Operands → List Variable
  uses_in_operands none = []
  uses_in_operands (with e rest) = uses_in e ++ uses_in_operands rest

-- a variable's number is below the limit of its sort
abbrev pub IsBelow : Variable → Type 0
IsBelow (the_scalar x) = x < SCALARS
IsBelow (the_container x) = x < CONTAINERS
IsBelow (the_iterator x) = x < ITERATORS

-- all of these are
abbrev pub AreBelow : List Variable → Type 0
AreBelow [] = Unit {0}
AreBelow (v ∷ vs) = IsBelow v × AreBelow vs

-- those of two parts are
pub both_below : (vs ws : List Variable) → AreBelow vs → AreBelow ws → AreBelow (vs ++ ws)
both_below [] ws h k = k
both_below (v ∷ vs) ws h k = (h.0, both_below vs ws h.1 k)

-- the object of a call of a row has a type
row_object_typed : (g : Scope) (found : Option Row) (x : ℕ) (us : List ExprType) → has_type (row_type g found (Some x) us) ≡ true
    → has_type (variable_type g.containers x) ≡ true
row_object_typed g None x us h = absurd cc
row_object_typed g (Some row) x us h = typed_by (λ u. has_type (member_type row u us)) refl (variable_type g.containers x) h

-- the object of a call of the library has a type
pub object_typed : (g : Scope) (callee : Callee) (x : ℕ) (us : List ExprType) → has_type (call_type g callee (Some x) us) ≡ true
    → has_type (variable_type g.containers x) ≡ true
object_typed g (callees.Row n) x us h = row_object_typed g (row_at n) x us h
object_typed g (callees.Appends n) x us h = absurd cc
object_typed g (callees.Operator o) x us h = absurd cc
object_typed g (callees.Hidden o) x us h = absurd cc

-- the object of a call is below the limit
pub object_below : (g : Scope) (callee : Callee) (object : Option ℕ) (us : List ExprType) → is_within g ≡ true
    → has_type (call_type g callee object us) ≡ true → AreBelow (elim object as (λ _. List Variable) [ None ↦ [] | Some x ↦ the_container x ∷ [] ])
object_below g callee None us w h = tt
object_below g callee (Some x) us w h = (container_is_below g x w (object_typed g callee x us h), tt)

mutual
  unfolding types_of

  -- in a scope within the limits, the variables that an expression with a type uses are below the limits
  pub expression_below : (g : Scope) (e : Expr) → is_within g ≡ true → has_type (type_of g e) ≡ true → AreBelow (uses_in e)
  expression_below g (literal s z) w h = tt
  expression_below g (held l) w h = left_below g l w (held_typed g l h)
  expression_below g (iterator x) w h = (iterator_is_below g x w (iterator_there g x h), tt)
  expression_below g (convert s e) w h = expression_below g e w (typed_by is_number refl (type_of g e) (converted_number g s e h))
  expression_below g (negate s at e) w h =
      let parts = negated_number g s at e h in expression_below g e w (typed_by (is_scalar s) refl (type_of g e) parts.1)
  expression_below g (logical_not at e) w h = expression_below g e w (typed_by is_number refl (type_of g e) (inverted_number g at e h))
  expression_below g (logical_and at d e) w h =
      let parts = numbers_of_and g at d e h in
      both_below (uses_in d) (uses_in e) (expression_below g d w (typed_by is_number refl (type_of g d) parts.0))
      (expression_below g e w (typed_by is_number refl (type_of g e) parts.1))
  expression_below g (logical_or at d e) w h =
      let parts = numbers_of_or g at d e h in
      both_below (uses_in d) (uses_in e) (expression_below g d w (typed_by is_number refl (type_of g d) parts.0))
      (expression_below g e w (typed_by is_number refl (type_of g e) parts.1))
  expression_below g (arithmetic op s at d e) w h =
      let parts = calculated_numbers g op s at d e h in
      both_below (uses_in d) (uses_in e) (expression_below g d w (typed_by (is_scalar s) refl (type_of g d) parts.1))
      (expression_below g e w (typed_by (is_scalar s) refl (type_of g e) parts.2))
  expression_below g (comparison op at d e) w h =
      let alike = compared_numbers g op at d e h in
      both_below (uses_in d) (uses_in e) (expression_below g d w (comparable_first (type_of g d) (type_of g e) alike))
      (expression_below g e w (comparable_second (type_of g d) (type_of g e) alike))
  expression_below g (increment step fix s at l) w h =
      let parts = stepped_number g step fix s at l h in left_below g l w (typed_by (is_scalar s) refl (type_of_left g l) parts.1)
  expression_below g (move fix x c ops) w h =
      let u = variable_type g.iterators x in let parts = moving_call g fix x c ops h in
      let known = call_known g c.callee c.object (u ∷ types_of g ops) parts.1 in (
        iterator_is_below g x w (first_of_both (has_type u) (all_typed (types_of g ops)) known.0),
        both_below (object_in c) (uses_in_operands ops) (object_below g c.callee c.object (u ∷ types_of g ops) w parts.1)
            (operands_below g ops w (second_of_both (has_type u) (all_typed (types_of g ops)) known.0)),
      )
  expression_below g (call c ops) w h =
      let parts = value_call g c ops h in let known = call_known g c.callee c.object (types_of g ops) parts.1 in
      both_below (object_in c) (uses_in_operands ops) (object_below g c.callee c.object (types_of g ops) w parts.1) (operands_below g ops w known.0)
  expression_below g (own_call n at ops) w h =
      let known = function_known g.functions n (not (n == g.main)) (slice_get g.functions n) (types_of g ops) refl (function_call g n at ops h) in
      operands_below g ops w known.0
  expression_below g (first at e) w h = expression_below g e w (first_stands g at e h)
  expression_below g (second at e) w h = expression_below g e w (second_stands g at e h)
  expression_below g (container x) w h = (container_is_below g x w (container_there g x h), tt)
  expression_below g (handed_scalar x) w h = (scalar_is_below g x w (handed_there g x h), tt)

  -- those of a left side
  pub left_below : (g : Scope) (l : Left) → is_within g ≡ true → has_type (type_of_left g l) ≡ true → AreBelow (uses_in_left l)
  left_below g (scalar x at) w h = (scalar_is_below g x w (scalar_there g x at h), tt)
  left_below g (reference x at name part) w h = (iterator_is_below g x w (reference_there g x at name part h), tt)
  left_below g (element c ops) w h =
      let typed = element_call g c ops h in let known = call_known g c.callee c.object (types_of g ops) typed in
      both_below (object_in c) (uses_in_operands ops) (object_below g c.callee c.object (types_of g ops) w typed) (operands_below g ops w known.0)

  -- those of operands
  pub operands_below : (g : Scope) (ops : Operands) → is_within g ≡ true → all_typed (types_of g ops) ≡ true → AreBelow (uses_in_operands ops)
  operands_below g none w h = tt
  operands_below g (with e rest) w h = both_below (uses_in e) (uses_in_operands rest)
      (expression_below g e w (first_of_both (has_type (type_of g e)) (all_typed (types_of g rest)) h))
      (operands_below g rest w (second_of_both (has_type (type_of g e)) (all_typed (types_of g rest)) h))

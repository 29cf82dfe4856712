-- An expression that has a type gives what its type says: a value of a shape, or a variable itself.
use Rattle.std.proofs.Common.{◌≡◌, ℕ, zero, suc, ◌==◌, Bool, true, false, not, ◌&&◌, ◌||◌, List, [], ◌∷◌, length, Option, Some, None}
use Rattle.std.proofs.Common.{refl, subst, sym}
use Rattle.std.specs.Prelude.{slice_get}
use Rattle.std.specs.List.{list_all}
use Rattle.sl_syntax.specs.declared.typed.element.ElementPart.{ElementPart}
use Rattle.sl_syntax.specs.declared.typed.element.ElementPart.TheVariants as parts
use Rattle.sl_syntax.specs.declared.typed.parameter.ParameterKind.{ParameterKind}
use Rattle.sl_syntax.specs.declared.typed.parameter.ParameterKind.TheVariants as parameters
use Rattle.sl_base.specs.declared.scalar.Scalar.TheVariants as t
use Rattle.sl_syntax.specs.Typed.{Expr, literal, held, iterator, convert, negate, logical_not, logical_and, logical_or, arithmetic, comparison}
use Rattle.sl_syntax.specs.Typed.{increment, move, call, own_call, first, second, container, handed_scalar, Left, scalar, reference, element}
use Rattle.sl_syntax.specs.Typed.{Function, Typed}
use Rattle.sl_typing.specs.declared.expr_type.ExprType.{ExprType}
use Rattle.sl_typing.specs.declared.expr_type.ExprType.TheVariants as types
use Rattle.sl_typing.specs.Types.{has_type, only, is_scalar, is_number, is_written, is_arithmetic, is_iterator}
use Rattle.sl_model.specs.LibraryCalls.Values.{Shape, no_value, a_number, a_stamp, a_pair, two_stamps}
use Rattle.sl_model.specs.Typing.Shapes.{Gift, a_value, the_scalar, the_container, Signature, shape_of_result, shape_of_call, shape_of_second}
use Rattle.sl_model.specs.Typing.Shapes.{gift_of, lib_shape, lib_makes, signature_of}
use Rattle.sl_model.specs.Typing.Scoped.{Counts}
use Rattle.sl_model.specs.Typing.WellTypedScopes.{Scope, variable_type, are_comparable}
use Rattle.sl_model.specs.Typing.WellTypedCalls.{call_type, is_moving}
use Rattle.sl_model.specs.Typing.WellTypedExpressions.{is_literal, only_value, only_element, handed, type_of_first, type_of_second, type_of_use}
use Rattle.sl_model.specs.Typing.WellTypedExpressions.{go_to, type_given, function_type, is_arrow, is_variable, type_of, type_of_left, types_of}
use Rattle.sl_model.proofs.Passing.{first_of_both, second_of_both}
use Rattle.sl_model.proofs.TypedOperands.{typed_by}
use Rattle.sl_model.proofs.TypedParts.{second_stands}
use Rattle.sl_model.proofs.ScopedRows.{IsShaped}
use Rattle.sl_model.proofs.ScopedCalls.{call_shaped, moving_shape}

-- what is known of the calls in a text over the library
abbrev pub lib_signature : Typed → Signature
lib_signature p = signature_of lib_shape lib_makes p

-- how many variables of each sort are in a scope
abbrev pub scope_counts : Scope → Counts
scope_counts g = record { scalars = length g.scalars; conts = length g.containers; iters = length g.iterators }

-- a type is that of a number's variable
abbrev pub is_scalar_type : ExprType → Bool
is_scalar_type (types.Scalar s) = true
is_scalar_type u = false

-- a type is that of a container
abbrev pub is_container_type : ExprType → Bool
is_container_type (types.Container access x) = true
is_container_type u = false

-- a scope knows the functions of a text, and its variables have the types of their sorts
pub record KnowsText (p : Typed) (g : Scope) : Type 0 where
  pub functions : g.functions ≡ p.functions
  pub scalars : list_all is_scalar_type g.scalars ≡ true
  pub containers : list_all is_container_type g.containers ≡ true

-- an expression of a type gives this
abbrev pub HasGift : ExprType → Gift → Type 0
HasGift types.Nothing gift = (shape : Shape) × (gift ≡ a_value shape)
HasGift (types.Scalar s) gift = gift ≡ a_value a_number
HasGift (types.Element w) gift = gift ≡ a_value a_number
HasGift (types.Iterator b x) gift = gift ≡ a_value a_stamp
HasGift (types.IteratorAndBool x) gift = gift ≡ a_value a_pair
HasGift (types.IteratorPair b x) gift = gift ≡ a_value two_stamps
HasGift (types.Container access x) gift = (n : ℕ) × (gift ≡ the_container n)
HasGift (types.Handed s) gift = (n : ℕ) × (gift ≡ the_scalar n)
HasGift u gift = Unit {0}

-- a variable that has a type passes the test that all do
variable_passes : (test : ExprType → Bool) (us : List ExprType) (x : ℕ) → list_all test us ≡ true → has_type (variable_type us x) ≡ true
    → test (variable_type us x) ≡ true
variable_passes test [] x h k = absurd cc
variable_passes test (u ∷ us) zero h k = first_of_both (test u) (list_all test us) h
variable_passes test (u ∷ us) (suc x) h k = variable_passes test us x (second_of_both (test u) (list_all test us) h) k

-- a type behind a condition gives what it gives under the condition
only_gift : (b : Bool) (u : ExprType) (gift : Gift) → (b ≡ true → has_type u ≡ true → HasGift u gift) → has_type (only b u) ≡ true
    → HasGift (only b u) gift
only_gift true u gift give h = give refl h
only_gift false u gift give h = absurd cc

-- the variable of a number gives one
scalar_gift : (u : ExprType) → is_scalar_type u ≡ true → HasGift u (a_value a_number)
scalar_gift (types.Scalar s) h = refl
scalar_gift u h = absurd cc

-- a container is what it is
container_gift : (u : ExprType) (x : ℕ) → is_container_type u ≡ true → HasGift u (the_container x)
container_gift (types.Container access form) x h = (x, refl)
container_gift u x h = absurd cc

-- an iterator gives its stamp
iterator_gift : (u : ExprType) → is_iterator u ≡ true → HasGift u (a_value a_stamp)
iterator_gift (types.Iterator b x) h = refl
iterator_gift u h = absurd cc

-- the use of a reference gives a number
use_gift : (part : ElementPart) (u : ExprType) → has_type (type_of_use part u) ≡ true → HasGift (type_of_use part u) (a_value a_number)
use_gift parts.Whole (types.IntReference w) h = refl
use_gift parts.First (types.EntryReference w) h = refl
use_gift parts.Second (types.EntryReference w) h = refl
use_gift part u h = absurd cc

-- an element is read as a number
element_gift : (u : ExprType) → has_type (only_element u) ≡ true → HasGift (only_element u) (a_value a_number)
element_gift (types.Element w) h = refl
element_gift u h = absurd cc

-- what moves a variable gives an iterator
move_gift : (u : ExprType) → IsShaped u a_stamp → HasGift u (a_value a_stamp)
move_gift types.Nothing h = (a_stamp, refl)
move_gift (types.Iterator b x) h = refl
move_gift (types.Scalar s) h = absurd cc
move_gift (types.Element w) h = absurd cc
move_gift (types.IteratorAndBool x) h = absurd cc
move_gift (types.IteratorPair b x) h = absurd cc
move_gift u h = absurd h

-- a call gives a value of its shape
value_gift : (u : ExprType) (shape : Shape) → IsShaped u shape → has_type (only_value u) ≡ true → HasGift (only_value u) (a_value shape)
value_gift types.Nothing shape e h = (shape, refl)
value_gift (types.Scalar s) shape e h = cc
value_gift (types.Element w) shape e h = absurd cc
value_gift (types.Iterator b x) shape e h = cc
value_gift (types.IteratorAndBool x) shape e h = cc
value_gift (types.IteratorPair b x) shape e h = cc
value_gift u shape e h = absurd e

-- what a function gives has the shape of its type
result_gift : (k : Option ParameterKind) → has_type (type_given k) ≡ true → HasGift (type_given k) (a_value (shape_of_result k))
result_gift None h = (no_value, refl)
result_gift (Some (parameters.Value s)) h = refl
result_gift (Some (parameters.Reference s)) h = absurd cc
result_gift (Some (parameters.Container access x)) h = absurd cc
result_gift (Some (parameters.Iterator b x)) h = refl

-- a call of a function that is found gives it
found_gift : (b : Bool) (found : Option Function) (us : List ExprType) → has_type (function_type b found us) ≡ true
    → HasGift (function_type b found us)
    (a_value (elim found as (λ _. Shape) [ None ↦ no_value | Some h ↦ shape_of_result h.result ]))
found_gift b None us h = absurd cc
found_gift b (Some f) us h =
    only_gift (b && go_to f.parameters us) (type_given f.result) (a_value (shape_of_result f.result)) (λ all typed. result_gift f.result typed) h

-- the first of a pair is an iterator
first_gift : (u : ExprType) → has_type (type_of_first u) ≡ true → HasGift (type_of_first u) (a_value a_stamp)
first_gift (types.IteratorAndBool x) h = refl
first_gift (types.IteratorPair b x) h = refl
first_gift u h = absurd cc

-- the second is an iterator or a number
second_gift : (u : ExprType) (gift : Gift) → HasGift u gift → has_type (type_of_second u) ≡ true
    → HasGift (type_of_second u) (a_value (shape_of_second gift))
second_gift (types.IteratorAndBool x) gift e h = subst (λ (y : Gift). a_value (shape_of_second y) ≡ a_value a_number) (sym e) refl
second_gift (types.IteratorPair b x) gift e h = subst (λ (y : Gift). a_value (shape_of_second y) ≡ a_value a_stamp) (sym e) refl
second_gift u gift e h = absurd cc

-- a scalar that is handed over is what it is
handed_gift : (u : ExprType) (x : ℕ) → has_type (handed u) ≡ true → HasGift (handed u) (the_scalar x)
handed_gift (types.Scalar s) x h = (x, refl)
handed_gift u x h = absurd cc

-- a left side is read as a number
pub left_gift : (p : Typed) (g : Scope) (l : Left) → KnowsText p g → has_type (type_of_left g l) ≡ true
    → HasGift (type_of_left g l) (a_value a_number)
unfolding type_of_left
left_gift p g (scalar x at) k h = scalar_gift (variable_type g.scalars x) (variable_passes is_scalar_type g.scalars x k.scalars h)
left_gift p g (reference x at name part) k h = use_gift part (variable_type g.iterators x) h
left_gift p g (element c ops) k h = only_gift (not (is_arrow c.callee) || is_variable ops)
    (only_element (call_type g c.callee c.object (types_of g ops))) (a_value a_number)
    (λ b typed. element_gift (call_type g c.callee c.object (types_of g ops)) typed) h

-- an expression that has a type gives what its type says
pub expression_gift : (p : Typed) (g : Scope) (e : Expr) → KnowsText p g → has_type (type_of g e) ≡ true
    → HasGift (type_of g e) (gift_of (lib_signature p) e)
unfolding type_of
expression_gift p g (literal s z) k h = only_gift (is_literal s z) (types.Scalar s) (a_value a_number) (λ b typed. refl) h
expression_gift p g (held l) k h = left_gift p g l k h
expression_gift p g (iterator x) k h =
    only_gift (is_iterator (variable_type g.iterators x)) (variable_type g.iterators x) (a_value a_stamp)
    (λ b typed. iterator_gift (variable_type g.iterators x) b) h
expression_gift p g (convert s e) k h = only_gift (is_number (type_of g e)) (types.Scalar s) (a_value a_number) (λ b typed. refl) h
expression_gift p g (negate s at e) k h =
    only_gift (is_arithmetic s && is_scalar s (type_of g e)) (types.Scalar s) (a_value a_number) (λ b typed. refl) h
expression_gift p g (logical_not at e) k h = only_gift (is_number (type_of g e)) (types.Scalar t.Bool) (a_value a_number) (λ b typed. refl) h
expression_gift p g (logical_and at d e) k h =
    only_gift (is_number (type_of g d) && is_number (type_of g e)) (types.Scalar t.Bool) (a_value a_number) (λ b typed. refl) h
expression_gift p g (logical_or at d e) k h =
    only_gift (is_number (type_of g d) && is_number (type_of g e)) (types.Scalar t.Bool) (a_value a_number) (λ b typed. refl) h
expression_gift p g (arithmetic op s at d e) k h = only_gift (is_arithmetic s && is_scalar s (type_of g d) && is_scalar s (type_of g e))
    (types.Scalar s) (a_value a_number) (λ b typed. refl) h
expression_gift p g (comparison op at d e) k h =
    only_gift (are_comparable (type_of g d) (type_of g e)) (types.Scalar t.Bool) (a_value a_number) (λ b typed. refl) h
expression_gift p g (increment step fix s at l) k h =
    only_gift (is_arithmetic s && is_scalar s (type_of_left g l) && is_written (type_of_left g l)) (types.Scalar s) (a_value a_number)
    (λ b typed. refl) h
expression_gift p g (move fix x c ops) k h =
    let us = variable_type g.iterators x ∷ types_of g ops in
    only_gift (is_moving c.callee) (call_type g c.callee c.object us) (a_value a_stamp) (λ b typed. move_gift (call_type g c.callee c.object us)
    (subst (IsShaped (call_type g c.callee c.object us)) (moving_shape c.callee b) (call_shaped g c.callee c.object us typed))) h
expression_gift p g (call c ops) k h =
    let u = call_type g c.callee c.object (types_of g ops) in
    only_gift (not (is_moving c.callee)) (only_value u) (a_value (lib_shape c.callee)) (λ b typed. value_gift u (lib_shape c.callee)
    (call_shaped g c.callee c.object (types_of g ops) (typed_by (λ w. has_type (only_value w)) refl u typed)) typed) h
expression_gift p g (own_call n at ops) k h =
    let u = function_type (not (n == g.main)) (slice_get g.functions n) (types_of g ops) in
    let found = found_gift (not (n == g.main)) (slice_get g.functions n) (types_of g ops) h in
    subst (λ (fs : List Function). HasGift u (a_value (shape_of_call fs n))) k.functions found
expression_gift p g (first at e) k h = first_gift (type_of g e) h
expression_gift p g (second at e) k h =
    second_gift (type_of g e) (gift_of (lib_signature p) e) (expression_gift p g e k (second_stands g at e h)) h
expression_gift p g (container x) k h =
    container_gift (variable_type g.containers x) x (variable_passes is_container_type g.containers x k.containers h)
expression_gift p g (handed_scalar x) k h = handed_gift (variable_type g.scalars x) x h

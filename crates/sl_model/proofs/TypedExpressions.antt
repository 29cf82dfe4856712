-- Each call in an expression that has a type is of a row or a function that is there, and has as many operands as that takes.
use Rattle.std.proofs.Common.{◌≡◌, ℕ, ◌==◌, Bool, true, false, not, ◌&&◌, List, [], ◌∷◌, ◌++◌, length, Option, Some, None, refl, subst}
use Rattle.std.proofs.Common.{arith}
use Rattle.std.specs.Prelude.{slice_get}
use Rattle.std.proofs.lemmas.Bool.{and_from}
use Rattle.sl_base.specs.declared.scalar.Scalar.TheVariants as t
use Rattle.sl_syntax.specs.declared.operator.Access.TheVariants as a
use Rattle.sl_syntax.specs.declared.typed.head.Head.{Head}
use Rattle.sl_syntax.specs.declared.typed.parameter.ParameterKind.{ParameterKind}
use Rattle.sl_syntax.specs.declared.typed.parameter.ParameterKind.TheVariants as parameters
use Rattle.sl_syntax.specs.Typed.{Expr, literal, held, iterator, convert, negate, logical_not, logical_and, logical_or, arithmetic, comparison}
use Rattle.sl_syntax.specs.Typed.{increment, move, call, own_call, first, second, container, handed_scalar, Left, scalar, reference, element}
use Rattle.sl_syntax.specs.Typed.{Operands, none, with, Function}
use Rattle.sl_typing.specs.declared.expr_type.ExprType.{ExprType}
use Rattle.sl_typing.specs.declared.expr_type.ExprType.TheVariants as types
use Rattle.sl_typing.specs.Types.{has_type, is_scalar, is_number}
use Rattle.sl_model.specs.Typing.WellTypedScopes.{Scope, variable_type, are_comparable}
use Rattle.sl_model.specs.Typing.WellTypedExpressions.{goes_to, go_to, type_given, function_type}
use Rattle.sl_model.specs.Typing.WellTypedExpressions.{type_of, type_of_left, types_of}
use Rattle.sl_model.specs.Typing.WellTypedNodes.{Node, a_call, an_own_call}
use Rattle.sl_model.specs.Typing.WellTypedNodes.{nodes_in, nodes_in_left, nodes_in_operands}
use Rattle.sl_model.specs.Typing.WellTypedOrder.{listed}
use Rattle.sl_model.proofs.Passing.{first_of_both, second_of_both}
use Rattle.sl_model.proofs.TypedOperands.{typed_by, only_holds, all_typed}
use Rattle.sl_model.proofs.TypedCalls.{IsThere, Known, call_known}
use Rattle.sl_model.proofs.TypedParts.{held_typed, converted_number, negated_number, inverted_number, numbers_of_and, numbers_of_or}
use Rattle.sl_model.proofs.TypedParts.{calculated_numbers}
use Rattle.sl_model.proofs.TypedParts.{compared_numbers, stepped_number, moving_call, value_call, element_call, function_call, first_stands}
use Rattle.sl_model.proofs.TypedParts.{second_stands}

-- a function is there, and has n parameters
pub record IsOwn (functions : List Function) (number n : ℕ) : Type 0 where
  pub function : Function
  pub there : slice_get functions number ≡ Some function
  pub count : length function.parameters ≡ n

-- a call is of a row or a function that is there, with as many operands as that takes
abbrev pub IsFine : List Function → Node → Type 0
IsFine fs (a_call h ops) = IsThere h.callee (length (listed ops))
IsFine fs (an_own_call number ops) = IsOwn fs number (length (listed ops))
IsFine fs node = Unit {0}

-- all of these are
abbrev pub AreFine : List Function → List Node → Type 0
AreFine fs [] = Unit {0}
AreFine fs (node ∷ nodes) = IsFine fs node × AreFine fs nodes

-- there are as many types as operands
length-types_of : (g : Scope) (ops : Operands) → length (types_of g ops) ≡ length (listed ops)
unfolding types_of
length-types_of g none = refl
length-types_of g (with e rest) = let more = length-types_of g rest in omega (arith, more)

-- no type goes to no parameter
pub no_type_goes : (k : ParameterKind) → goes_to k types.Wrong ≡ false
no_type_goes (parameters.Value s) = refl
no_type_goes (parameters.Reference s) = refl
no_type_goes (parameters.Container a.Const x) = refl
no_type_goes (parameters.Container a.Whole x) = refl
no_type_goes (parameters.Container a.Elements x) = refl
no_type_goes (parameters.Iterator b x) = refl

-- operands that go to parameters have types, and there are as many
going_known : (ks : List ParameterKind) (us : List ExprType) → go_to ks us ≡ true → (all_typed us ≡ true) × (length ks ≡ length us)
going_known [] [] h = (refl, refl)
going_known [] (u ∷ us) h = absurd cc
going_known (k ∷ ks) [] h = absurd cc
going_known (k ∷ ks) (u ∷ us) h =
    let others = going_known ks us (second_of_both (goes_to k u) (go_to ks us) h) in
    let count = others.1 in (
      and_from (has_type u) (all_typed us) (typed_by (goes_to k) (no_type_goes k) u (first_of_both (goes_to k u) (go_to ks us) h)) others.0,
      omega (arith, count),
    )

-- the operands of a call of a function have types, and it is there and has so many parameters
pub function_known : (fs : List Function) (number : ℕ) (b : Bool) (found : Option Function) (us : List ExprType) → slice_get fs number ≡ found
    → has_type (function_type b found us) ≡ true → (all_typed us ≡ true) × IsOwn fs number (length us)
function_known fs number b None us e h = absurd cc
function_known fs number b (Some f) us e h =
    let known = going_known f.parameters us (second_of_both b (go_to f.parameters us) (only_holds (b
    && go_to f.parameters us) (type_given f.result) h)) in
    (known.0, record { function = f; there = e; count = known.1 })

-- nothing is true beside what isn't
pub and_false : (b : Bool) → (b && false) ≡ false
and_false true = refl
and_false false = refl

-- the first of two numbers that are compared has a type
pub comparable_first : (u v : ExprType) → are_comparable u v ≡ true → has_type u ≡ true
comparable_first u v h = typed_by (λ w. are_comparable w v) refl u h

-- so has the second
pub comparable_second : (u v : ExprType) → are_comparable u v ≡ true → has_type v ≡ true
comparable_second u v h =
    typed_by (are_comparable u) (rw (and_false (is_scalar t.Int u), and_false (is_scalar t.Size u), and_false (is_scalar t.Diff u)) refl) v h

-- nodes of two parts
pub both_fine : (fs : List Function) (xs ys : List Node) → AreFine fs xs → AreFine fs ys → AreFine fs (xs ++ ys)
both_fine fs [] ys h k = k
both_fine fs (x ∷ xs) ys h k = (h.0, both_fine fs xs ys h.1 k)

-- a call of the library and its operands are fine where the operands are known
pub called_fine : (g : Scope) (c : Head) (ops : Operands) → Known c.callee (types_of g ops) → AreFine g.functions (nodes_in_operands ops)
    → AreFine g.functions (a_call c ops ∷ nodes_in_operands ops)
called_fine g c ops known fine = (subst (IsThere c.callee) (length-types_of g ops) known.1, fine)

mutual
  unfolding nodes_in nodes_in_left nodes_in_operands types_of

  -- the nodes of an expression that has a type are fine
  pub expression_is_fine : (g : Scope) (e : Expr) → has_type (type_of g e) ≡ true → AreFine g.functions (nodes_in e)
  expression_is_fine g (literal s z) h = (tt, tt)
  expression_is_fine g (held l) h = left_is_fine g l (held_typed g l h)
  expression_is_fine g (iterator x) h = tt
  expression_is_fine g (convert s e) h = expression_is_fine g e (typed_by is_number refl (type_of g e) (converted_number g s e h))
  expression_is_fine g (negate s at e) h = let parts = negated_number g s at e h in
      expression_is_fine g e (typed_by (is_scalar s) refl (type_of g e) parts.1)
  expression_is_fine g (logical_not at e) h = expression_is_fine g e (typed_by is_number refl (type_of g e) (inverted_number g at e h))
  expression_is_fine g (logical_and at d e) h =
      let parts = numbers_of_and g at d e h in
      both_fine g.functions (nodes_in d) (nodes_in e) (expression_is_fine g d (typed_by is_number refl (type_of g d) parts.0))
      (expression_is_fine g e (typed_by is_number refl (type_of g e) parts.1))
  expression_is_fine g (logical_or at d e) h =
      let parts = numbers_of_or g at d e h in
      both_fine g.functions (nodes_in d) (nodes_in e) (expression_is_fine g d (typed_by is_number refl (type_of g d) parts.0))
      (expression_is_fine g e (typed_by is_number refl (type_of g e) parts.1))
  expression_is_fine g (arithmetic op s at d e) h =
      let parts = calculated_numbers g op s at d e h in (
        tt,
        both_fine g.functions (nodes_in d) (nodes_in e) (expression_is_fine g d (typed_by (is_scalar s) refl (type_of g d) parts.1))
            (expression_is_fine g e (typed_by (is_scalar s) refl (type_of g e) parts.2)),
      )
  expression_is_fine g (comparison op at d e) h =
      let alike = compared_numbers g op at d e h in (
        tt,
        both_fine g.functions (nodes_in d) (nodes_in e) (expression_is_fine g d (comparable_first (type_of g d) (type_of g e) alike))
            (expression_is_fine g e (comparable_second (type_of g d) (type_of g e) alike)),
      )
  expression_is_fine g (increment step fix s at l) h =
      let parts = stepped_number g step fix s at l h in (tt, left_is_fine g l (typed_by (is_scalar s) refl (type_of_left g l) parts.1))
  expression_is_fine g (move fix x c ops) h =
      let u = variable_type g.iterators x in let parts = moving_call g fix x c ops h in
      let known = call_known g c.callee c.object (u ∷ types_of g ops) parts.1 in
      let count = length-types_of g ops in
      let more : length (u ∷ types_of g ops) ≡ length (listed (with (iterator x) ops)) = omega (arith, count) in
      (subst (IsThere c.callee) more known.1, operands_are_fine g ops (second_of_both (has_type u) (all_typed (types_of g ops)) known.0))
  expression_is_fine g (call c ops) h =
      let parts = value_call g c ops h in let known = call_known g c.callee c.object (types_of g ops) parts.1 in
      called_fine g c ops known (operands_are_fine g ops known.0)
  expression_is_fine g (own_call n at ops) h =
      let known = function_known g.functions n (not (n == g.main)) (slice_get g.functions n) (types_of g ops) refl (function_call g n at ops h) in
      (subst (IsOwn g.functions n) (length-types_of g ops) known.1, operands_are_fine g ops known.0)
  expression_is_fine g (first at e) h = expression_is_fine g e (first_stands g at e h)
  expression_is_fine g (second at e) h = expression_is_fine g e (second_stands g at e h)
  expression_is_fine g (container x) h = tt
  expression_is_fine g (handed_scalar x) h = tt

  -- those of a left side
  pub left_is_fine : (g : Scope) (l : Left) → has_type (type_of_left g l) ≡ true → AreFine g.functions (nodes_in_left l)
  left_is_fine g (scalar x at) h = tt
  left_is_fine g (reference x at name part) h = (tt, tt)
  left_is_fine g (element c ops) h =
      let known = call_known g c.callee c.object (types_of g ops) (element_call g c ops h) in
      called_fine g c ops known (operands_are_fine g ops known.0)

  -- those of operands
  pub operands_are_fine : (g : Scope) (ops : Operands) → all_typed (types_of g ops) ≡ true → AreFine g.functions (nodes_in_operands ops)
  operands_are_fine g none h = tt
  operands_are_fine g (with e rest) h = both_fine g.functions (nodes_in e) (nodes_in_operands rest)
      (expression_is_fine g e (first_of_both (has_type (type_of g e)) (all_typed (types_of g rest)) h))
      (operands_are_fine g rest (second_of_both (has_type (type_of g e)) (all_typed (types_of g rest)) h))

-- those of an expression whose type passes a test
pub passing_is_fine : (g : Scope) (e : Expr) (test : ExprType → Bool) → test types.Wrong ≡ false → test (type_of g e) ≡ true
    → AreFine g.functions (nodes_in e)
passing_is_fine g e test n h = expression_is_fine g e (typed_by test n (type_of g e) h)

-- Operands that fit the types of an operator's are of its sorts.
use Rattle.std.proofs.Common.{◌≡◌, Bool, true, ◌&&◌, List, [], ◌∷◌, refl}
use Rattle.std.specs.Prelude.{if◌then◌else◌}
use Rattle.sl_base.specs.declared.form.Form.{Form}
use Rattle.sl_base.specs.declared.scalar.Scalar.TheVariants as t
use Rattle.sl_specs.specs.Forms.{is_random_access}
use Rattle.sl_syntax.specs.declared.operator.Comparison.{Comparison}
use Rattle.sl_syntax.specs.declared.typed.operator.Operator.{Operator}
use Rattle.sl_syntax.specs.declared.typed.operator.Operator.TheVariants as operators
use Rattle.sl_typing.specs.declared.expr_type.ExprType.{ExprType}
use Rattle.sl_typing.specs.declared.expr_type.ExprType.TheVariants as types
use Rattle.sl_typing.specs.Types.{has_type, only, is_scalar, is_iterator_of, same_iterators, is_random}
use Rattle.sl_typing.specs.Signatures.{is_equality}
use Rattle.sl_model.specs.Memory.Containers.{Memory}
use Rattle.sl_model.specs.LibraryCalls.Operands.{Sort, a_number, an_iterator, is_of, are_of}
use Rattle.sl_model.specs.LibraryCalls.Operators.{operator_sorts}
use Rattle.sl_model.specs.LibraryCalls.Values.{Value}
use Rattle.sl_model.specs.Typing.WellTypedCalls.{operator_type}
use Rattle.sl_model.proofs.Fitting.{Fits, AllFit}
use Rattle.sl_model.proofs.Passing.{first_of_both, second_of_both}
use Rattle.sl_model.proofs.TypedOperands.{only_holds}
use Rattle.sl_model.proofs.SortsFit.{number_of, scalar_fits, iterator_of, iterator_fits, more_of, second_of, first_of}

-- one operand of a sort
one_sort : (m : Memory) (sort : Sort) (u : ExprType) (vs : List Value) → ((v : Value) → Fits m u v → is_of m sort v ≡ true) → AllFit m (u ∷ []) vs
    → are_of m (sort ∷ []) vs ≡ true
one_sort m sort u [] each fit = absurd fit
one_sort m sort u (v ∷ []) each fit = more_of m sort [] v [] (each v fit.0) refl
one_sort m sort u (v ∷ w ∷ vs) each fit = absurd fit.1

-- two operands of two sorts
two_sorts : (m : Memory) (sort other : Sort) (u w : ExprType) (vs : List Value) → ((v : Value) → Fits m u v → is_of m sort v ≡ true)
    → ((v : Value) → Fits m w v → is_of m other v ≡ true) → AllFit m (u ∷ w ∷ []) vs → are_of m (sort ∷ other ∷ []) vs ≡ true
two_sorts m sort other u w [] each next fit = absurd fit
two_sorts m sort other u w (v ∷ vs) each next fit =
    more_of m sort (other ∷ []) v vs (each v fit.0) (one_sort m other w vs next fit.1)

-- an iterator and how far it is moved
moved_sorts : (m : Memory) (b : Bool) (x : Form) (u w : ExprType) (vs : List Value)
    → has_type (only (is_random_access x && is_scalar t.Diff u) w) ≡ true → AllFit m (types.Iterator b x ∷ u ∷ []) vs
    → are_of m (an_iterator ∷ a_number ∷ []) vs ≡ true
moved_sorts m b x u w vs h fit =
    let far = second_of_both (is_random_access x) (is_scalar t.Diff u) (only_holds (is_random_access x && is_scalar t.Diff u) w h) in
    two_sorts m an_iterator a_number (types.Iterator b x) u vs (λ v k. iterator_of m x v k)
    (λ v k. number_of m v (scalar_fits m t.Diff u v far k)) fit

-- two iterators that are subtracted
subtracted_sorts : (m : Memory) (b : Bool) (x : Form) (u w : ExprType) (vs : List Value)
    → has_type (only (is_random_access x && is_iterator_of x u) w) ≡ true → AllFit m (types.Iterator b x ∷ u ∷ []) vs
    → are_of m (an_iterator ∷ an_iterator ∷ []) vs ≡ true
subtracted_sorts m b x u w vs h fit =
    let one = second_of_both (is_random_access x) (is_iterator_of x u) (only_holds (is_random_access x && is_iterator_of x u) w h) in
    two_sorts m an_iterator an_iterator (types.Iterator b x) u vs (λ v k. iterator_of m x v k) (λ v k. iterator_fits m _ u v one k) fit

-- two iterators that are compared
compared_sorts : (m : Memory) (o : Comparison) (u w : ExprType) (vs : List Value)
    → has_type (only (same_iterators u w && (if is_equality o then true else is_random u)) (types.Scalar t.Bool)) ≡ true → AllFit m (u ∷ w ∷ []) vs
    → are_of m (an_iterator ∷ an_iterator ∷ []) vs ≡ true
compared_sorts m o u w vs h fit =
    let same = first_of_both (same_iterators u w) (if is_equality o then true else is_random u)
    (only_holds (same_iterators u w && (if is_equality o then true else is_random u)) (types.Scalar t.Bool) h) in
    two_sorts m an_iterator an_iterator u w vs (λ v k. first_of m u w v same k) (λ v k. second_of m u w v same k) fit

-- operands of types that an operator takes are of its sorts
pub operator_operands_of : (m : Memory) (o : Operator) (us : List ExprType) (vs : List Value) → has_type (operator_type o us) ≡ true → AllFit m us vs
    → are_of m (operator_sorts o) vs ≡ true
operator_operands_of m operators.Dereference (types.Iterator b x ∷ []) vs h fit =
    one_sort m an_iterator (types.Iterator b x) vs (λ v k. iterator_of m x v k) fit
operator_operands_of m operators.ArrowFirst (types.Iterator b x ∷ []) vs h fit =
    one_sort m an_iterator (types.Iterator b x) vs (λ v k. iterator_of m x v k) fit
operator_operands_of m operators.ArrowSecond (types.Iterator b x ∷ []) vs h fit =
    one_sort m an_iterator (types.Iterator b x) vs (λ v k. iterator_of m x v k) fit
operator_operands_of m operators.Increment (types.Iterator b x ∷ []) vs h fit =
    one_sort m an_iterator (types.Iterator b x) vs (λ v k. iterator_of m x v k) fit
operator_operands_of m operators.Decrement (types.Iterator b x ∷ []) vs h fit =
    one_sort m an_iterator (types.Iterator b x) vs (λ v k. iterator_of m x v k) fit
operator_operands_of m operators.Add (types.Iterator b x ∷ u ∷ []) vs h fit = moved_sorts m b x u (types.Iterator b x) vs h fit
operator_operands_of m operators.Subtract (types.Iterator b x ∷ u ∷ []) vs h fit = moved_sorts m b x u (types.Iterator b x) vs h fit
operator_operands_of m operators.AddAssign (types.Iterator b x ∷ u ∷ []) vs h fit = moved_sorts m b x u types.Nothing vs h fit
operator_operands_of m operators.SubtractAssign (types.Iterator b x ∷ u ∷ []) vs h fit = moved_sorts m b x u types.Nothing vs h fit
operator_operands_of m operators.Difference (types.Iterator b x ∷ u ∷ []) vs h fit = subtracted_sorts m b x u (types.Scalar t.Diff) vs h fit
operator_operands_of m (operators.Compare o) (u ∷ w ∷ []) vs h fit = compared_sorts m o u w vs h fit
operator_operands_of m o us vs h fit = absurd cc

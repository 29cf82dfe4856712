-- What an operator on iterators gives is of its type: an element that is there, a number, or an iterator of the type of its first operand.
use Rattle.std.proofs.Common.{◌≡◌, ℕ, Bool, true, false, not, ◌&&◌, List, [], ◌∷◌, refl, ◌∙◌}
use Rattle.std.proofs.Common.{if◌then◌else◌}
use Rattle.sl_base.specs.declared.scalar.Scalar.{Scalar}
use Rattle.sl_base.specs.declared.scalar.Scalar.TheVariants as t
use Rattle.sl_specs.specs.Forms.{is_keyed, is_hash, is_random_access}
use Rattle.sl_syntax.specs.declared.typed.operator.Operator.{Operator}
use Rattle.sl_syntax.specs.declared.typed.operator.Operator.TheVariants as operators
use Rattle.sl_syntax.specs.Written.{is_map}
use Rattle.sl_typing.specs.declared.expr_type.ExprType.{ExprType}
use Rattle.sl_typing.specs.declared.expr_type.ExprType.TheVariants as types
use Rattle.sl_typing.specs.Types.{has_type, only, is_scalar, is_iterator, is_iterator_of, same_iterators, is_random}
use Rattle.sl_typing.specs.Signatures.{first_type, is_equality}
use Rattle.sl_model.specs.Memory.Containers.{Memory}
use Rattle.sl_model.specs.LibraryCalls.Values.{a_number, a_stamp, an_element}
use Rattle.sl_model.specs.LibraryCalls.Situation.{Situation}
use Rattle.sl_model.specs.LibraryCalls.Rows.{Row, shape_of_operator, row_of_operator}
use Rattle.sl_model.specs.Typing.WellTypedCalls.{operator_type, is_moving_operator}
use Rattle.sl_model.proofs.Tells.{memory_after, Tells}
use Rattle.sl_model.proofs.AlgorithmRowsTell.{operator-tells}
use Rattle.sl_model.proofs.Fitting.{AllFit}
use Rattle.sl_model.proofs.GivenIn.{GivesIn}
use Rattle.sl_model.proofs.AlgorithmsGiveIn.{operator-gives-in}
use Rattle.sl_model.proofs.AnswersFit.{IsCarriedOut, RowGives, number_given, element_given, operand_type_given, operand_fits}

-- what a row gives that is of a type is of it under a condition that leaves one
pub only_given : (b : Bool) (u : ExprType) (r : Row) (s : Situation) → has_type (only b u) ≡ true → RowGives r s u → RowGives r s (only b u)
only_given true u r s has given = given
only_given false u r s has given = absurd (cc)

module _ (name : List ℕ) (o : Operator) (s : Situation) (done : IsCarriedOut [] (row_of_operator name o) s) where
  -- the row of the operator
  abbrev pub row : Row
  row = row_of_operator name o

  -- the memory after it
  abbrev after : Memory
  after = memory_after row s

  -- what its row tells
  told : Tells row s
  told = operator-tells name o s done.called done.needs

  -- and where its answer is
  gives : GivesIn false row s
  gives = operator-gives-in name o s done.called done.needs done.goes

  -- an element that is read
  pub element-read : (w : Bool) → shape_of_operator o ≡ an_element → RowGives row s (types.Element w)
  element-read w is = element_given after (row.action.answer s) (told.shaped ∙ is) gives.element_there

  -- a number
  pub number-told : (r : Scalar) → shape_of_operator o ≡ a_number → RowGives row s (types.Scalar r)
  number-told r is = number_given after (row.action.answer s) (told.shaped ∙ is)

  -- an iterator that is moved
  pub iterator-moved : (us : List ExprType) → shape_of_operator o ≡ a_stamp → is_iterator (first_type us) ≡ true → AllFit s.memory us s.values
      → RowGives row s (first_type us)
  iterator-moved us is typed fit = operand_type_given s 1 after done.kept done.sound (first_type us) (row.action.answer s) typed
      (operand_fits false s us typed fit) (told.shaped ∙ is) gives.stood told.placed

-- what an operator gives is of its type
pub operator-given : (name : List ℕ) (o : Operator) (us : List ExprType) (s : Situation) → has_type (operator_type o us) ≡ true
    → AllFit s.memory us s.values → IsCarriedOut [] (row_of_operator name o) s → RowGives (row_of_operator name o) s (operator_type o us)
operator-given name operators.Dereference (types.Iterator b x ∷ []) s has fit done =
    only_given (not (is_map x)) (types.Element (not b && not (is_keyed x))) (row_of_operator name operators.Dereference) s has
    (element-read name operators.Dereference s done (not b && not (is_keyed x)) refl)
operator-given name operators.ArrowFirst (types.Iterator b x ∷ []) s has fit done =
    only_given (is_map x) (types.Element false) (row_of_operator name operators.ArrowFirst) s has
    (element-read name operators.ArrowFirst s done false refl)
operator-given name operators.ArrowSecond (types.Iterator b x ∷ []) s has fit done =
    only_given (is_map x) (types.Element (not b)) (row_of_operator name operators.ArrowSecond) s has
    (element-read name operators.ArrowSecond s done (not b) refl)
operator-given name operators.Increment (types.Iterator b x ∷ []) s has fit done =
    iterator-moved name operators.Increment s done (types.Iterator b x ∷ []) refl refl fit
operator-given name operators.Decrement (types.Iterator b x ∷ []) s has fit done =
    only_given (not (is_hash x)) (types.Iterator b x) (row_of_operator name operators.Decrement) s has
    (iterator-moved name operators.Decrement s done (types.Iterator b x ∷ []) refl refl fit)
operator-given name operators.Add (types.Iterator b x ∷ u ∷ []) s has fit done =
    only_given (is_random_access x && is_scalar t.Diff u) (types.Iterator b x) (row_of_operator name operators.Add) s has
    (iterator-moved name operators.Add s done (types.Iterator b x ∷ u ∷ []) refl refl fit)
operator-given name operators.Subtract (types.Iterator b x ∷ u ∷ []) s has fit done =
    only_given (is_random_access x && is_scalar t.Diff u) (types.Iterator b x) (row_of_operator name operators.Subtract) s has
    (iterator-moved name operators.Subtract s done (types.Iterator b x ∷ u ∷ []) refl refl fit)
operator-given name operators.AddAssign (types.Iterator b x ∷ u ∷ []) s has fit done =
    only_given (is_random_access x && is_scalar t.Diff u) types.Nothing (row_of_operator name operators.AddAssign) s has tt
operator-given name operators.SubtractAssign (types.Iterator b x ∷ u ∷ []) s has fit done =
    only_given (is_random_access x && is_scalar t.Diff u) types.Nothing (row_of_operator name operators.SubtractAssign) s has tt
operator-given name operators.Difference (types.Iterator b x ∷ u ∷ []) s has fit done =
    only_given (is_random_access x && is_iterator_of x u) (types.Scalar t.Diff) (row_of_operator name operators.Difference) s has
    (number-told name operators.Difference s done t.Diff refl)
operator-given name (operators.Compare k) (u ∷ v ∷ []) s has fit done =
    only_given (same_iterators u v && (if is_equality k then true else is_random u)) (types.Scalar t.Bool)
    (row_of_operator name (operators.Compare k)) s has
    (number-told name (operators.Compare k) s done t.Bool refl)
operator-given name o us s has fit done = absurd (cc)

-- an operator that moves its iterator begins with one
pub moving_operator-begins : (o : Operator) (us : List ExprType) → is_moving_operator o ≡ true → has_type (operator_type o us) ≡ true
    → is_iterator (first_type us) ≡ true
moving_operator-begins operators.Increment (types.Iterator b x ∷ []) moves has = refl
moving_operator-begins operators.Decrement (types.Iterator b x ∷ []) moves has = refl
moving_operator-begins operators.AddAssign (types.Iterator b x ∷ u ∷ []) moves has = refl
moving_operator-begins operators.SubtractAssign (types.Iterator b x ∷ u ∷ []) moves has = refl
moving_operator-begins o us moves has = absurd (cc)

-- it gives an iterator
moving_shape : (o : Operator) → is_moving_operator o ≡ true → shape_of_operator o ≡ a_stamp
moving_shape operators.Increment moves = refl
moving_shape operators.Decrement moves = refl
moving_shape operators.AddAssign moves = refl
moving_shape operators.SubtractAssign moves = refl
moving_shape o moves = absurd (cc)

-- and one of the type of that
pub moving_operator-given : (name : List ℕ) (o : Operator) (us : List ExprType) (s : Situation) → is_moving_operator o ≡ true
    → has_type (operator_type o us) ≡ true → AllFit s.memory us s.values → IsCarriedOut [] (row_of_operator name o) s
    → RowGives (row_of_operator name o) s (first_type us)
moving_operator-given name o us s moves has fit done =
    iterator-moved name o s done us (moving_shape o moves) (moving_operator-begins o us moves has) fit

-- What a typed call gives is of the type of the call, and what moves an iterator variable gives an iterator of its type.
use Rattle.std.proofs.Common.{◌≡◌, ℕ, true, false, not, ◌&&◌, List, [], Option, Some, None, is_some, refl, sym, subst, option_map, map}
use Rattle.std.specs.Prelude.{slice_get}
use Rattle.std.specs.List.{list_any}
use Rattle.sl_base.specs.declared.form.Form.TheVariants as f
use Rattle.sl_specs.specs.Forms.{same_object}
use Rattle.sl_specs.specs.Rows.{Row as TableRow}
use Rattle.sl_specs.specs.Table.{table}
use Rattle.sl_syntax.specs.declared.typed.callee.Callee.{Callee}
use Rattle.sl_syntax.specs.declared.typed.callee.Callee.TheVariants as callees
use Rattle.sl_typing.specs.declared.expr_type.ExprType.{ExprType}
use Rattle.sl_typing.specs.declared.expr_type.ExprType.TheVariants as types
use Rattle.sl_typing.specs.Types.{has_type, is_const}
use Rattle.sl_typing.specs.Signatures.{is_output, appending, first_type, result_type, row_at, is_constructor, is_algorithm}
use Rattle.sl_model.specs.LibraryCalls.Situation.{Situation}
use Rattle.sl_model.specs.LibraryCalls.Operators.{operator_name}
use Rattle.sl_model.specs.LibraryCalls.Rows.{Row, meaning_of, row_of_operator, row_of}
use Rattle.sl_model.specs.Typing.WellTypedScopes.{Scope, variable_type}
use Rattle.sl_model.specs.Typing.WellTypedCalls.{may_be_called, member_type, algorithm_type, row_type, appending_type, fits, operator_type, call_type}
use Rattle.sl_model.specs.Typing.WellTypedCalls.{is_moving_row, is_moving}
use Rattle.sl_model.proofs.Passing.{first_of_both, second_of_both}
use Rattle.sl_model.proofs.TypedOperands.{only_holds, only_rest}
use Rattle.sl_model.proofs.TypedRows.{one_object, no_object}
use Rattle.sl_model.proofs.Fitting.{AllFit}
use Rattle.sl_model.proofs.AnswersFit.{IsCarriedOut, RowGives}
use Rattle.sl_model.proofs.MembersFit.{member-given}
use Rattle.sl_model.proofs.AlgorithmsFit.{algorithm-given, advance_row, advancing_row, advance-given}
use Rattle.sl_model.proofs.OperatorsFit.{only_given, operator-given, moving_operator-given}

-- ## By the row

module _ (n : ℕ) (r : TableRow) (us : List ExprType) (s : Situation) (there : slice_get table n ≡ Some r) (fit : AllFit s.memory us s.values)
    (done : IsCarriedOut [] (meaning_of false r) s) where
  -- an algorithm
  algorithm_fits : has_type (algorithm_type r us) ≡ true → RowGives (meaning_of false r) s (algorithm_type r us)
  algorithm_fits has =
      let both = only_holds (is_algorithm r && fits f.Vector r.letters us) (result_type r.gives false f.Vector us) has in
      only_given (is_algorithm r && fits f.Vector r.letters us) (result_type r.gives false f.Vector us) (meaning_of false r) s has
      (algorithm-given n r us s there (no_object r.form (first_of_both (is_algorithm r) (fits f.Vector r.letters us) both))
      (second_of_both (is_algorithm r) (fits f.Vector r.letters us) both)
      (only_rest (is_algorithm r && fits f.Vector r.letters us) (result_type r.gives false f.Vector us) has) fit done)

  -- a member of an object of a type
  member_fits : (u : ExprType) → has_type (member_type r u us) ≡ true → RowGives (meaning_of false r) s (member_type r u us)
  member_fits (types.Container access x) has =
      let all = only_holds
      (same_object r.form (Some x) && not (is_constructor r) && may_be_called r.changes access && fits x r.letters us)
      (result_type r.gives (is_const access) x us) has in
      let three = first_of_both (same_object r.form (Some x) && not (is_constructor r) && may_be_called r.changes access) (fits x r.letters us) all in
      let two = first_of_both (same_object r.form (Some x) && not (is_constructor r)) (may_be_called r.changes access) three in
      let one = first_of_both (same_object r.form (Some x)) (not (is_constructor r)) two in
      only_given (same_object r.form (Some x) && not (is_constructor r) && may_be_called r.changes access && fits x r.letters us)
      (result_type r.gives (is_const access) x us) (meaning_of false r) s has
      (member-given n r x (is_const access) us s there (one_object r.form x one) done)
  member_fits u has = absurd (cc)

  -- either
  row_fits : (g : Scope) (object : Option ℕ) → has_type (row_type g (Some r) object us) ≡ true
      → RowGives (meaning_of false r) s (row_type g (Some r) object us)
  row_fits g None has = algorithm_fits has
  row_fits g (Some x) has = member_fits (variable_type g.containers x) has

-- an algorithm that appends gives nothing
appending_fits : (o : Option TableRow) (us : List ExprType) (r : Row) (s : Situation) → has_type (appending_type o us) ≡ true
    → RowGives r s (appending_type o us)
appending_fits None us r s has = absurd (cc)
appending_fits (Some x) us r s has =
    only_given (is_algorithm x && list_any is_output x.letters && fits f.Vector (map appending x.letters) us) types.Nothing r s has tt

-- ## By what is called

-- what a typed call gives is of its type
pub call-given : (g : Scope) (callee : Callee) (object : Option ℕ) (us : List ExprType) (r : Row) (s : Situation) → row_of callee ≡ Some r
    → has_type (call_type g callee object us) ≡ true → AllFit s.memory us s.values → IsCarriedOut [] r s
    → RowGives r s (call_type g callee object us)
call-given g (callees.Row n) object us r s e has fit done = by_row (slice_get table n) refl e has
  where
    by_row : (o : Option TableRow) → slice_get table n ≡ o → option_map (meaning_of false) o ≡ Some r → has_type (row_type g o object us) ≡ true
        → RowGives r s (row_type g o object us)
    by_row None there q h = absurd (cc)
    by_row (Some x) there q h =
        let same : r ≡ meaning_of false x = cc in
        subst (λ (y : Row). IsCarriedOut [] y s → RowGives y s (row_type g (Some x) object us)) (sym same)
        (λ d. row_fits n x us s there fit d g object h) done
call-given g (callees.Appends n) object us r s e has fit done = only_given (not (is_some object)) (appending_type (row_at n) us) r s has
    (appending_fits (row_at n) us r s (only_rest (not (is_some object)) (appending_type (row_at n) us) has))
call-given g (callees.Operator o) object us r s e has fit done =
    let same : r ≡ row_of_operator (operator_name o) o = cc in
    subst (λ (y : Row). IsCarriedOut [] y s → RowGives y s (call_type g (callees.Operator o) object us)) (sym same)
    (λ d. only_given (not (is_some object)) (operator_type o us) (row_of_operator (operator_name o) o) s has
    (operator-given (operator_name o) o us s (only_rest (not (is_some object)) (operator_type o us) has) fit d)) done
call-given g (callees.Hidden o) object us r s e has fit done = absurd (cc)

-- ## What moves a variable

-- operands of the row of `advance` that is typed fit its letters
advance_fits : (g : Scope) (object : Option ℕ) (us : List ExprType) → has_type (row_type g (Some advance_row) object us) ≡ true
    → fits f.Vector advance_row.letters us ≡ true
advance_fits g None us has = second_of_both (is_algorithm advance_row) (fits f.Vector advance_row.letters us)
    (only_holds (is_algorithm advance_row && fits f.Vector advance_row.letters us) (result_type advance_row.gives false f.Vector us) has)
advance_fits g (Some x) us has = absurd (no_member (variable_type g.containers x) has)
  where
    no_member : (u : ExprType) → has_type (member_type advance_row u us) ≡ true → ⊥
    no_member (types.Container access y) h = cc
    no_member u h = cc

-- a typed call that moves a variable gives an iterator of its type
pub moving-given : (g : Scope) (callee : Callee) (object : Option ℕ) (us : List ExprType) (r : Row) (s : Situation) → row_of callee ≡ Some r
    → is_moving callee ≡ true → has_type (call_type g callee object us) ≡ true → AllFit s.memory us s.values → IsCarriedOut [] r s
    → RowGives r s (first_type us)
moving-given g (callees.Row n) object us r s e moves has fit done = by_row (slice_get table n) refl e moves has
  where
    advances : slice_get table n ≡ Some advance_row → has_type (row_type g (Some advance_row) object us) ≡ true
        → IsCarriedOut [] (meaning_of false advance_row) s → RowGives (meaning_of false advance_row) s (first_type us)
    advances there h d = advance-given n us s there (advance_fits g object us h) fit d

    by_row : (o : Option TableRow) → slice_get table n ≡ o → option_map (meaning_of false) o ≡ Some r → is_moving_row o ≡ true
        → has_type (row_type g o object us) ≡ true → RowGives r s (first_type us)
    by_row None there q m h = absurd (cc)
    by_row (Some x) there q m h =
        let same : r ≡ meaning_of false x = cc in
        subst (λ (y : Row). IsCarriedOut [] y s → RowGives y s (first_type us)) (sym same)
        (subst (λ (y : TableRow). slice_get table n ≡ Some y → has_type (row_type g (Some y) object us) ≡ true
        → IsCarriedOut [] (meaning_of false y) s → RowGives (meaning_of false y) s (first_type us)) (sym (advancing_row n x there m)) advances there
        h)
        done
moving-given g (callees.Appends n) object us r s e moves has fit done = absurd (cc)
moving-given g (callees.Operator o) object us r s e moves has fit done =
    let same : r ≡ row_of_operator (operator_name o) o = cc in
    subst (λ (y : Row). IsCarriedOut [] y s → RowGives y s (first_type us)) (sym same)
    (moving_operator-given (operator_name o) o us s moves (only_rest (not (is_some object)) (operator_type o us) has) fit) done
moving-given g (callees.Hidden o) object us r s e moves has fit done = absurd (cc)

-- A call of the library that has a type gives a value of the shape of its type, and makes a container exactly where a declaration makes one.
use Rattle.std.proofs.Common.{◌≡◌, ℕ, Bool, true, false, not, ◌&&◌, List, [], ◌∷◌, map, Option, Some, None, ap}
use Rattle.std.proofs.Common.{refl, subst, sym, ◌∙◌, option_map}
use Rattle.std.specs.Prelude.{is_some, if◌then◌else◌}
use Rattle.std.specs.List.{list_any}
use Rattle.std.proofs.lemmas.Bool.{not-true}
use Rattle.sl_base.specs.declared.form.Form.{Form}
use Rattle.sl_base.specs.declared.form.Form.TheVariants as f
use Rattle.sl_base.specs.declared.scalar.Scalar.TheVariants as t
use Rattle.sl_specs.specs.Forms.{same_object, is_keyed, is_hash, is_random_access}
use Rattle.sl_specs.specs.Rows.{Row}
use Rattle.sl_syntax.specs.declared.operator.Access.{Access}
use Rattle.sl_syntax.specs.declared.typed.callee.Callee.{Callee}
use Rattle.sl_syntax.specs.declared.typed.callee.Callee.TheVariants as callees
use Rattle.sl_syntax.specs.declared.typed.operator.Operator.{Operator}
use Rattle.sl_syntax.specs.declared.typed.operator.Operator.TheVariants as operators
use Rattle.sl_syntax.specs.Written.{is_map}
use Rattle.sl_typing.specs.declared.expr_type.ExprType.{ExprType}
use Rattle.sl_typing.specs.declared.expr_type.ExprType.TheVariants as types
use Rattle.sl_typing.specs.Types.{has_type, is_scalar, is_iterator_of, same_iterators, is_const, is_random}
use Rattle.sl_typing.specs.Signatures.{result_type, row_at, is_constructor, is_algorithm, is_output, appending, is_equality}
use Rattle.sl_model.specs.LibraryCalls.Values.{Shape, a_number, a_stamp, an_element}
use Rattle.sl_model.specs.LibraryCalls.Rows.{Row as Meaning, shape_of_return, meaning_of, shape_of_operator}
use Rattle.sl_model.specs.Typing.Shapes.{is_new_one, shape_of_row, row_makes, lib_shape, lib_makes}
use Rattle.sl_model.specs.Typing.WellTypedScopes.{Scope, variable_type}
use Rattle.sl_model.specs.Typing.WellTypedCalls.{fits, is_advance, may_be_called, member_type, algorithm_type, row_type, appending_type, constructs}
use Rattle.sl_model.specs.Typing.WellTypedCalls.{operator_type, call_type, is_moving_row, is_moving}
use Rattle.sl_model.specs.Typing.WellTypedStatements.{is_making}
use Rattle.sl_model.proofs.Passing.{first_of_both, second_of_both, three_parts}
use Rattle.sl_model.proofs.TypedOperands.{only_holds, only_rest}
use Rattle.sl_model.proofs.ScopedRows.{IsShaped, right_result, right_call, right_move, is_right, right_found, row_right, result_shaped, only_shaped}
use Rattle.sl_model.proofs.ScopedRows.{algorithm_still, algorithm_moves, advance_alone}
use Rattle.sl_model.proofs.ScopedRows.{nothing_shaped, advance_gives_nothing}
use Rattle.sl_model.proofs.TypedRows.{no_object, one_object, meaning_on, meaning_alone, row_object}

-- what is asked of the row of a member
record MemberHolds (row : Row) (x : Form) (us : List ExprType) : Type 0 where
  there : row.form ≡ Some x
  keeps : is_constructor row ≡ false
  fit : fits x row.letters us ≡ true

-- it holds where the conditions do
member_holds : (row : Row) (access : Access) (x : Form) (us : List ExprType)
    → (same_object row.form (Some x) && not (is_constructor row) && may_be_called row.changes access && fits x row.letters us) ≡ true
    → MemberHolds row x us
member_holds row access x us h =
    let three =
    first_of_both (same_object row.form (Some x) && not (is_constructor row) && may_be_called row.changes access) (fits x row.letters us) h in
    let two = first_of_both (same_object row.form (Some x) && not (is_constructor row)) (may_be_called row.changes access) three in
    record {
      there = one_object row.form x (first_of_both (same_object row.form (Some x)) (not (is_constructor row)) two);
      keeps = not-true (is_constructor row) (second_of_both (same_object row.form (Some x)) (not (is_constructor row)) two);
      fit = second_of_both (same_object row.form (Some x) && not (is_constructor row) && may_be_called row.changes access) (fits x row.letters us) h;
    }

-- the shape of what the row of a form gives is that of its return
member_shape : (row : Row) (form : Form) → row.form ≡ Some form → (meaning_of false row).shape ≡ shape_of_return row.gives
member_shape row form e = ap (λ (m : Meaning). m.shape) (meaning_on false row form e)

-- so is that of an algorithm that moves nothing
algorithm_shape_still : (row : Row) → row.form ≡ None → is_advance row ≡ false → (meaning_of false row).shape ≡ shape_of_return row.gives
algorithm_shape_still row e still = ap (λ (m : Meaning). m.shape) (meaning_alone false row e) ∙ algorithm_still row.call row.gives still

-- a call of a right row gives the shape of its return
return_shaped : (row : Row) (b : Bool) (x : Form) (us : List ExprType) → is_right row ≡ true
    → (meaning_of false row).shape ≡ shape_of_return row.gives → fits x row.letters us ≡ true → has_type (result_type row.gives b x us) ≡ true
    → IsShaped (result_type row.gives b x us) (meaning_of false row).shape
return_shaped row b x us right e fit h = subst (IsShaped (result_type row.gives b x us)) (sym e)
    (result_shaped row.gives row.letters b x us
    (three_parts (right_result row.gives row.letters) (right_call row.form row.call) (right_move row) right).0 fit h)

-- a call of a member has the shape of its type
member_shaped : (row : Row) (u : ExprType) (us : List ExprType) → is_right row ≡ true → has_type (member_type row u us) ≡ true
    → IsShaped (member_type row u us) (meaning_of false row).shape
member_shaped row (types.Container access x) us right h = only_shaped
    (same_object row.form (Some x) && not (is_constructor row) && may_be_called row.changes access && fits x row.letters us)
    (result_type row.gives (is_const access) x us) (meaning_of false row).shape
    (λ all typed. let holds = member_holds row access x us all in
    return_shaped row (is_const access) x us right (member_shape row x holds.there) holds.fit typed) h
member_shaped row u us right h = absurd cc

-- so has one of an algorithm
algorithm_shaped : (row : Row) (us : List ExprType) → is_right row ≡ true → is_advance row ≡ false → has_type (algorithm_type row us) ≡ true
    → IsShaped (algorithm_type row us) (meaning_of false row).shape
algorithm_shaped row us right still h = only_shaped (is_algorithm row && fits f.Vector row.letters us) (result_type row.gives false f.Vector us)
    (meaning_of false row).shape
    (λ all typed. return_shaped row false f.Vector us right
    (algorithm_shape_still row (no_object row.form (first_of_both (is_algorithm row) (fits f.Vector row.letters us) all)) still)
    (second_of_both (is_algorithm row) (fits f.Vector row.letters us) all) typed) h

-- so has one of a row that moves nothing
row_shaped : (g : Scope) (found : Option Row) (object : Option ℕ) (us : List ExprType) → right_found found ≡ true → is_moving_row found ≡ false
    → has_type (row_type g found object us) ≡ true
    → IsShaped (row_type g found object us) (shape_of_row (option_map (meaning_of false) found))
row_shaped g None object us right still h = absurd cc
row_shaped g (Some row) None us right still h = algorithm_shaped row us right still h
row_shaped g (Some row) (Some x) us right still h = member_shaped row (variable_type g.containers x) us right h

-- a call of an algorithm that appends gives nothing that is asked for
appending_shaped : (found : Option Row) (us : List ExprType) (shape : Shape) → has_type (appending_type found us) ≡ true
    → IsShaped (appending_type found us) shape
appending_shaped None us shape h = absurd cc
appending_shaped (Some row) us shape h =
    only_shaped (is_algorithm row && list_any is_output row.letters && fits f.Vector (map appending row.letters) us) types.Nothing shape (λ a b. tt) h

-- a call of an operator has the shape of its type
operator_shaped : (o : Operator) (us : List ExprType) → has_type (operator_type o us) ≡ true → IsShaped (operator_type o us) (shape_of_operator o)
operator_shaped operators.Dereference (types.Iterator b x ∷ []) h =
    only_shaped (not (is_map x)) (types.Element (not b && not (is_keyed x))) an_element (λ c d. refl) h
operator_shaped operators.ArrowFirst (types.Iterator b x ∷ []) h = only_shaped (is_map x) (types.Element false) an_element (λ c d. refl) h
operator_shaped operators.ArrowSecond (types.Iterator b x ∷ []) h = only_shaped (is_map x) (types.Element (not b)) an_element (λ c d. refl) h
operator_shaped operators.Increment (types.Iterator b x ∷ []) h = refl
operator_shaped operators.Decrement (types.Iterator b x ∷ []) h = only_shaped (not (is_hash x)) (types.Iterator b x) a_stamp (λ c d. refl) h
operator_shaped operators.Add (types.Iterator b x ∷ u ∷ []) h =
    only_shaped (is_random_access x && is_scalar t.Diff u) (types.Iterator b x) a_stamp (λ c d. refl) h
operator_shaped operators.Subtract (types.Iterator b x ∷ u ∷ []) h =
    only_shaped (is_random_access x && is_scalar t.Diff u) (types.Iterator b x) a_stamp (λ c d. refl) h
operator_shaped operators.AddAssign (types.Iterator b x ∷ u ∷ []) h =
    only_shaped (is_random_access x && is_scalar t.Diff u) types.Nothing a_stamp (λ c d. tt) h
operator_shaped operators.SubtractAssign (types.Iterator b x ∷ u ∷ []) h =
    only_shaped (is_random_access x && is_scalar t.Diff u) types.Nothing a_stamp (λ c d. tt) h
operator_shaped operators.Difference (types.Iterator b x ∷ u ∷ []) h =
    only_shaped (is_random_access x && is_iterator_of x u) (types.Scalar t.Diff) a_number (λ c d. refl) h
operator_shaped (operators.Compare o) (u ∷ v ∷ []) h =
    only_shaped (same_iterators u v && (if is_equality o then true else is_random u)) (types.Scalar t.Bool) a_number (λ c d. refl) h
operator_shaped o us h = absurd cc

-- a call of the library that moves no variable and has a type gives the shape of the type
call_still : (g : Scope) (callee : Callee) (object : Option ℕ) (us : List ExprType) → is_moving callee ≡ false
    → has_type (call_type g callee object us) ≡ true → IsShaped (call_type g callee object us) (lib_shape callee)
call_still g (callees.Row n) object us still h = row_shaped g (row_at n) object us (row_right n) still h
call_still g (callees.Appends n) object us still h = only_shaped (not (is_some object)) (appending_type (row_at n) us) (lib_shape (callees.Appends n))
    (λ none typed. appending_shaped (row_at n) us (lib_shape (callees.Appends n)) typed) h
call_still g (callees.Operator o) object us still h = only_shaped (not (is_some object)) (operator_type o us) (shape_of_operator o)
    (λ none typed. operator_shaped o us typed) h
call_still g (callees.Hidden o) object us still h = absurd cc

-- a row that moves its iterator gives one
row_moves : (row : Row) (o : Option Form) → row.form ≡ o → right_call o row.call ≡ true → is_advance row ≡ true
    → (meaning_of false row).shape ≡ a_stamp
row_moves row o e right moves =
    ap (λ (m : Meaning). m.shape) (meaning_alone false row (e ∙ advance_alone o row.call right moves)) ∙ algorithm_moves row.call row.gives moves

-- so does one that is found
found_moves : (found : Option Row) → right_found found ≡ true → is_moving_row found ≡ true
    → shape_of_row (option_map (meaning_of false) found) ≡ a_stamp
found_moves None right h = absurd cc
found_moves (Some row) right h =
    row_moves row row.form refl (three_parts (right_result row.gives row.letters) (right_call row.form row.call) (right_move row) right).1 h

-- a call that moves a variable gives an iterator
pub moving_shape : (callee : Callee) → is_moving callee ≡ true → lib_shape callee ≡ a_stamp
moving_shape (callees.Row n) h = found_moves (row_at n) (row_right n) h
moving_shape (callees.Appends n) h = absurd cc
moving_shape (callees.Operator operators.Increment) h = refl
moving_shape (callees.Operator operators.Decrement) h = refl
moving_shape (callees.Operator operators.AddAssign) h = refl
moving_shape (callees.Operator operators.SubtractAssign) h = refl
moving_shape (callees.Operator o) h = absurd cc
moving_shape (callees.Hidden o) h = absurd cc

-- so its call may have any shape
advance_shaped : (g : Scope) (found : Option Row) (object : Option ℕ) (us : List ExprType) (shape : Shape) → right_found found ≡ true
    → is_moving_row found ≡ true → has_type (row_type g found object us) ≡ true → IsShaped (row_type g found object us) shape
advance_shaped g None object us shape right moves h = absurd cc
advance_shaped g (Some row) None us shape right moves h = only_shaped (is_algorithm row && fits f.Vector row.letters us)
    (result_type row.gives false f.Vector us) shape
    (λ all typed. nothing_shaped row.gives false f.Vector us shape (advance_gives_nothing row right moves)) h
advance_shaped g (Some row) (Some x) us shape right moves h = at (variable_type g.containers x) h
  where
    at : (u : ExprType) → has_type (member_type row u us) ≡ true → IsShaped (member_type row u us) shape
    at (types.Container access y) k = only_shaped
        (same_object row.form (Some y) && not (is_constructor row) && may_be_called row.changes access && fits y row.letters us)
        (result_type row.gives (is_const access) y us) shape
        (λ all typed. nothing_shaped row.gives (is_const access) y us shape (advance_gives_nothing row right moves)) k
    at u k = absurd cc

-- a call that moves a variable gives the shape of the type
call_moving : (g : Scope) (callee : Callee) (object : Option ℕ) (us : List ExprType) → is_moving callee ≡ true
    → has_type (call_type g callee object us) ≡ true → IsShaped (call_type g callee object us) (lib_shape callee)
call_moving g (callees.Row n) object us moves h =
    advance_shaped g (row_at n) object us (lib_shape (callees.Row n)) (row_right n) moves h
call_moving g (callees.Appends n) object us moves h = absurd cc
call_moving g (callees.Operator o) object us moves h = only_shaped (not (is_some object)) (operator_type o us) (shape_of_operator o)
    (λ none typed. operator_shaped o us typed) h
call_moving g (callees.Hidden o) object us moves h = absurd cc

-- a call of the library that has a type gives the shape of the type
pub call_shaped : (g : Scope) (callee : Callee) (object : Option ℕ) (us : List ExprType) → has_type (call_type g callee object us) ≡ true
    → IsShaped (call_type g callee object us) (lib_shape callee)
call_shaped g callee object us h = at (is_moving callee) refl
  where
    at : (b : Bool) → is_moving callee ≡ b → IsShaped (call_type g callee object us) (lib_shape callee)
    at true e = call_moving g callee object us e h
    at false e = call_still g callee object us e h

-- an algorithm makes no container
algorithm_makes_none : (appends : Bool) (row : Row) → is_algorithm row ≡ true → is_new_one (meaning_of appends row).object ≡ false
algorithm_makes_none appends row h = ap (λ (m : Meaning). is_new_one m.object) (meaning_alone appends row (no_object row.form h))

-- a member that is called makes none
member_makes_none : (row : Row) (u : ExprType) (us : List ExprType) → has_type (member_type row u us) ≡ true
    → is_new_one (meaning_of false row).object ≡ false
member_makes_none row (types.Container access x) us h =
    let holds = member_holds row access x us (only_holds
    (same_object row.form (Some x) && not (is_constructor row) && may_be_called row.changes access && fits x row.letters us)
    (result_type row.gives (is_const access) x us) h) in
    ap (λ (m : Meaning). is_new_one m.object) (meaning_on false row x holds.there) ∙ ap is_new_one (row_object x row false holds.keeps)
member_makes_none row u us h = absurd cc

-- a row that is called makes none
row_makes_none : (g : Scope) (found : Option Row) (object : Option ℕ) (us : List ExprType) → has_type (row_type g found object us) ≡ true
    → row_makes (option_map (meaning_of false) found) ≡ false
row_makes_none g None object us h = absurd cc
row_makes_none g (Some row) None us h = algorithm_makes_none false row (first_of_both (is_algorithm row) (fits f.Vector row.letters us)
    (only_holds (is_algorithm row && fits f.Vector row.letters us) (result_type row.gives false f.Vector us) h))
row_makes_none g (Some row) (Some x) us h = member_makes_none row (variable_type g.containers x) us h

-- an algorithm that appends makes none
appending_makes_none : (found : Option Row) (us : List ExprType) → has_type (appending_type found us) ≡ true
    → row_makes (option_map (meaning_of true) found) ≡ false
appending_makes_none None us h = absurd cc
appending_makes_none (Some row) us h =
    let all = only_holds (is_algorithm row && list_any is_output row.letters && fits f.Vector (map appending row.letters) us) types.Nothing h in
    let two = first_of_both (is_algorithm row && list_any is_output row.letters) (fits f.Vector (map appending row.letters) us) all in
    algorithm_makes_none true row (first_of_both (is_algorithm row) (list_any is_output row.letters) two)

-- a call of the library that has a type makes no container
pub call_makes_none : (g : Scope) (callee : Callee) (object : Option ℕ) (us : List ExprType) → has_type (call_type g callee object us) ≡ true
    → lib_makes callee ≡ false
call_makes_none g (callees.Row n) object us h = row_makes_none g (row_at n) object us h
call_makes_none g (callees.Appends n) object us h =
    appending_makes_none (row_at n) us (only_rest (not (is_some object)) (appending_type (row_at n) us) h)
call_makes_none g (callees.Operator o) object us h = refl
call_makes_none g (callees.Hidden o) object us h = refl

-- a constructor that is found makes one
found_makes : (form : Form) (found : Option Row) (us : List ExprType) → constructs form found us ≡ true
    → row_makes (option_map (meaning_of false) found) ≡ true
found_makes form None us h = absurd cc
found_makes form (Some row) us h =
    let two = first_of_both (same_object row.form (Some form) && is_constructor row) (fits form row.letters us) h in
    ap (λ (m : Meaning). is_new_one m.object)
    (meaning_on false row form (one_object row.form form (first_of_both (same_object row.form (Some form)) (is_constructor row) two)))
    ∙ ap is_new_one (row_object form row true (second_of_both (same_object row.form (Some form)) (is_constructor row) two))

-- a call that makes a container of a form makes one, and has no object
pub making_makes : (form : Form) (callee : Callee) (object : Option ℕ) (us : List ExprType) → is_making form callee object us ≡ true
    → (lib_makes callee ≡ true) × (object ≡ None)
making_makes form (callees.Row n) None us h = (found_makes form (row_at n) us h, refl)
making_makes form callee object us h = absurd cc

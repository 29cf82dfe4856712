-- A typed call of the library is carried out: its row is there, so is its object, and the operands are of the row's sorts.
use Rattle.std.proofs.Common.{◌≡◌, ℕ, Bool, true, false, List, [], ◌∷◌, length, Option, Some, None, refl, ap, subst, ◌∙◌}
use Rattle.std.specs.Prelude.{if◌then◌else◌, codes, slice_index_or}
use Rattle.std.specs.List.{slice_get}
use Rattle.sl_base.specs.declared.form.Form.{Form}
use Rattle.sl_base.specs.declared.form.Form.TheVariants as f
use Rattle.sl_syntax.specs.declared.operator.Access.{Access}
use Rattle.sl_syntax.specs.declared.operator.Comparison.TheVariants as c
use Rattle.sl_syntax.specs.declared.typed.callee.Callee.{Callee}
use Rattle.sl_syntax.specs.declared.typed.callee.Callee.TheVariants as callees
use Rattle.sl_syntax.specs.declared.typed.operator.Operator.{Operator}
use Rattle.sl_syntax.specs.declared.typed.operator.Operator.TheVariants as operators
use Rattle.sl_typing.specs.declared.expr_type.ExprType.{ExprType}
use Rattle.sl_typing.specs.declared.expr_type.ExprType.TheVariants as types
use Rattle.sl_typing.specs.Types.{has_type}
use Rattle.sl_model.specs.Memory.Containers.{Memory}
use Rattle.sl_model.specs.LibraryCalls.Operands.{an_iterator, are_of}
use Rattle.sl_model.specs.LibraryCalls.Operators.{operator_name, operator_sorts}
use Rattle.sl_model.specs.LibraryCalls.Values.{Value, nothing, container_at, Args, unbuilt}
use Rattle.sl_model.specs.LibraryCalls.Situation.{container_of_value}
use Rattle.sl_model.specs.LibraryCalls.Rows.{Object, of_form, new_one, of_first, Row, member_row, algorithm_row, row_of_operator, row_of}
use Rattle.sl_model.specs.LibraryCalls.Library.{object_in, row_out, on_object, called_row, lib}
use Rattle.sl_model.specs.Typing.WellTypedScopes.{Scope, variable_type}
use Rattle.sl_model.specs.Typing.WellTypedCalls.{operator_type, call_type}
use Rattle.sl_model.specs.Typing.WellTypedStatements.{is_making}
use Rattle.sl_model.proofs.Called.{IsCalled, situation, has_object}
use Rattle.sl_model.proofs.Fitting.{forms_of, IsIteratorOf, Fits, AllFit, ObjectFits}
use Rattle.sl_model.proofs.OperatorSorts.{operator_operands_of}
use Rattle.sl_model.proofs.SortsFit.{is_of_this, iterator_of, more_of, operands_of, appended_operands_of}
use Rattle.sl_model.proofs.TableLetters.{row_last}
use Rattle.sl_model.proofs.TypedRows.{IsMember, IsAlgorithm, IsAppending, IsMaker, is_member, is_alone, is_appending, is_maker}

-- a call of a row that is there: carried out on an object, in the situation that it meets
pub record RowIsCalled (callee : Callee) (a : Args) (m : Memory) (picks : List ℕ) : Type 0 where
  pub row : Row
  pub found : row_of callee ≡ Some row
  pub object : ℕ
  pub called : IsCalled row (situation a m picks object)
  pub is_out : lib callee a m picks ≡ row_out row (situation a m picks object)

-- a call is carried out by this row, on the object that it has
pub record IsDone (callee : Callee) (row : Row) (a : Args) (m : Memory) (picks : List ℕ) : Type 0 where
  pub found : row_of callee ≡ Some row
  pub object : ℕ
  pub has : object_in m row.object a.object a.values ≡ Some object
  pub called : IsCalled row (situation a m picks object)
  pub is_out : lib callee a m picks ≡ row_out row (situation a m picks object)

-- a row whose object is there and whose operands are of its sorts is carried out
pub is_done : (callee : Callee) (row : Row) (a : Args) (m : Memory) (picks : List ℕ) (j : ℕ) → row_of callee ≡ Some row
    → object_in m row.object a.object a.values ≡ Some j → are_of m row.operands a.values ≡ true → IsDone callee row a m picks
is_done callee row a m picks j e has sorts = record {
  found = e;
  object = j;
  has = has;
  called = record { object = has_object a m picks row.object a.object j has; operands = sorts };
  is_out = ap (λ (o : Option Row). called_row o a m picks) e
      ∙ (ap (λ (o : Option ℕ). on_object row a m picks o) has
      ∙ ap (λ (b : Bool). if b then row_out row (situation a m picks j) else unbuilt) sorts);
}

-- then a row is called
pub done_called : (callee : Callee) (row : Row) (a : Args) (m : Memory) (picks : List ℕ) → IsDone callee row a m picks
    → RowIsCalled callee a m picks
done_called callee row a m picks d = record { row = row; found = d.found; object = d.object; called = d.called; is_out = d.is_out }

-- a call without an object in the text has none in the run
pub object_none : (m : Memory) (g : Scope) (given : Option ℕ) → ObjectFits m g None given → given ≡ None
object_none m g None fit = refl
object_none m g (Some j) fit = absurd fit

-- one on a variable that is a container has that container for its object, which is of the form of the variable
pub object_some : (m : Memory) (g : Scope) (x : ℕ) (access : Access) (form : Form) (given : Option ℕ)
    → variable_type g.containers x ≡ types.Container access form → ObjectFits m g (Some x) given
    → (j : ℕ) × (given ≡ Some j) × (slice_get (forms_of m) j ≡ Some form)
object_some m g x access form None v fit = absurd fit
object_some m g x access form (Some j) v fit = (j, refl, subst (λ (u : ExprType). Fits m u (container_at j)) v fit)

-- it is the object of a row of that form
object_of_form : (m : Memory) (form : Form) (o : Object) (given : Option ℕ) (vs : List Value) (j : ℕ) → o ≡ of_form form → given ≡ Some j
    → slice_get (forms_of m) j ≡ Some form → object_in m o given vs ≡ Some j
object_of_form m form o given vs j same e there =
    ap (λ (w : Object). object_in m w given vs) same
    ∙ (ap (λ (w : Option ℕ). object_in m (of_form form) w vs) e
    ∙ ap (λ (b : Bool). if b then Some j else None) (is_of_this m form j there))

-- a row that makes a container has the next number for its object
object_made : (m : Memory) (form : Form) (o : Object) (given : Option ℕ) (vs : List Value) → o ≡ new_one form → given ≡ None
    → object_in m o given vs ≡ Some (length m.conts)
object_made m form o given vs same e =
    ap (λ (w : Object). object_in m w given vs) same ∙ ap (λ (w : Option ℕ). object_in m (new_one form) w vs) e

-- an algorithm and an operator have the container of their first operand for it
object_first : (m : Memory) (given : Option ℕ) (vs : List Value) → given ≡ None
    → object_in m of_first given vs ≡ Some (container_of_value m (slice_index_or vs 0 nothing))
object_first m given vs e = ap (λ (w : Option ℕ). object_in m of_first w vs) e

-- a typed call of a member is carried out by its row, on its object
pub member_done : (g : Scope) (n x : ℕ) (us : List ExprType) (a : Args) (m : Memory) (picks : List ℕ) (k : IsMember g n x us)
    → ObjectFits m g (Some x) a.object → AllFit m us a.values → IsDone (callees.Row n) (member_row k.form k.line) a m picks
member_done g n x us a m picks k there fit =
    let at = object_some m g x k.access k.form a.object k.variable there in
    is_done (callees.Row n) (member_row k.form k.line) a m picks at.0 k.is_row
    (object_of_form m k.form (member_row k.form k.line).object a.object a.values at.0 k.on_object at.1 at.2)
    (operands_of m k.form k.line.letters us a.values (row_last n k.line k.there) k.fitting fit)

-- so is one of an algorithm
pub algorithm_done : (g : Scope) (n : ℕ) (us : List ExprType) (a : Args) (m : Memory) (picks : List ℕ) (k : IsAlgorithm g n us) → a.object ≡ None
    → AllFit m us a.values → IsDone (callees.Row n) (algorithm_row false k.line) a m picks
algorithm_done g n us a m picks k none fit =
    is_done (callees.Row n) (algorithm_row false k.line) a m picks (container_of_value m (slice_index_or a.values 0 nothing)) k.is_row
    (object_first m a.object a.values none)
    (operands_of m f.Vector k.line.letters us a.values (row_last n k.line k.there) k.fitting fit)

-- so is one of an algorithm that appends
pub appending_done : (g : Scope) (n : ℕ) (us : List ExprType) (a : Args) (m : Memory) (picks : List ℕ) (k : IsAppending g n us) → a.object ≡ None
    → AllFit m us a.values → IsDone (callees.Appends n) (algorithm_row true k.line) a m picks
appending_done g n us a m picks k none fit =
    is_done (callees.Appends n) (algorithm_row true k.line) a m picks (container_of_value m (slice_index_or a.values 0 nothing)) k.is_row
    (object_first m a.object a.values none)
    (appended_operands_of m f.Vector k.line.letters us a.values (row_last n k.line k.there) k.fitting fit)

-- so is one that makes a container
pub maker_done : (form : Form) (n : ℕ) (us : List ExprType) (a : Args) (m : Memory) (picks : List ℕ) (k : IsMaker form n us) → a.object ≡ None
    → AllFit m us a.values → IsDone (callees.Row n) (member_row form k.line) a m picks
maker_done form n us a m picks k none fit =
    is_done (callees.Row n) (member_row form k.line) a m picks (length m.conts) k.is_row
    (object_made m form (member_row form k.line).object a.object a.values k.on_object none)
    (operands_of m form k.line.letters us a.values (row_last n k.line k.there) k.fitting fit)

-- so is one of an operator
pub operator_done : (o : Operator) (us : List ExprType) (a : Args) (m : Memory) (picks : List ℕ) → has_type (operator_type o us) ≡ true
    → a.object ≡ None → AllFit m us a.values → IsDone (callees.Operator o) (row_of_operator (operator_name o) o) a m picks
operator_done o us a m picks h none fit =
    is_done (callees.Operator o) (row_of_operator (operator_name o) o) a m picks (container_of_value m (slice_index_or a.values 0 nothing)) refl
    (object_first m a.object a.values none) (operator_operands_of m o us a.values h fit)

-- and one that a range-for asks for by itself, on operands of its sorts
pub hidden_done : (o : Operator) (a : Args) (m : Memory) (picks : List ℕ) → a.object ≡ None → are_of m (operator_sorts o) a.values ≡ true
    → IsDone (callees.Hidden o) (row_of_operator (codes "for") o) a m picks
hidden_done o a m picks none sorts =
    is_done (callees.Hidden o) (row_of_operator (codes "for") o) a m picks (container_of_value m (slice_index_or a.values 0 nothing)) refl
    (object_first m a.object a.values none) sorts

-- one iterator is what an operator of one takes
one_iterator : (m : Memory) (form : Form) (v : Value) (vs : List Value) → vs ≡ v ∷ [] → IsIteratorOf m form v → are_of m (an_iterator ∷ []) vs ≡ true
one_iterator m form v vs e fit =
    ap (λ (ws : List Value). are_of m (an_iterator ∷ []) ws) e ∙ more_of m an_iterator [] v [] (iterator_of m form v fit) refl

-- two are what one of two takes
two_iterators : (m : Memory) (form : Form) (v w : Value) (vs : List Value) → vs ≡ v ∷ w ∷ [] → IsIteratorOf m form v → IsIteratorOf m form w
    → are_of m (an_iterator ∷ an_iterator ∷ []) vs ≡ true
two_iterators m form v w vs e fit next =
    ap (λ (ws : List Value). are_of m (an_iterator ∷ an_iterator ∷ []) ws) e
    ∙ more_of m an_iterator (an_iterator ∷ []) v (w ∷ []) (iterator_of m form v fit) (one_iterator m form w (w ∷ []) refl next)

-- the comparison of a range-for is carried out
pub compares_done : (form : Form) (v w : Value) (a : Args) (m : Memory) (picks : List ℕ) → a.object ≡ None → a.values ≡ v ∷ w ∷ []
    → IsIteratorOf m form v → IsIteratorOf m form w
    → IsDone (callees.Hidden (operators.Compare c.NotEqual)) (row_of_operator (codes "for") (operators.Compare c.NotEqual)) a m picks
compares_done form v w a m picks none e fit next =
    hidden_done (operators.Compare c.NotEqual) a m picks none (two_iterators m form v w a.values e fit next)

-- so is its reading
pub reads_done : (form : Form) (v : Value) (a : Args) (m : Memory) (picks : List ℕ) → a.object ≡ None → a.values ≡ v ∷ [] → IsIteratorOf m form v
    → IsDone (callees.Hidden operators.Dereference) (row_of_operator (codes "for") operators.Dereference) a m picks
reads_done form v a m picks none e fit = hidden_done operators.Dereference a m picks none (one_iterator m form v a.values e fit)

-- so is its step
pub steps_done : (form : Form) (v : Value) (a : Args) (m : Memory) (picks : List ℕ) → a.object ≡ None → a.values ≡ v ∷ [] → IsIteratorOf m form v
    → IsDone (callees.Hidden operators.Increment) (row_of_operator (codes "for") operators.Increment) a m picks
steps_done form v a m picks none e fit = hidden_done operators.Increment a m picks none (one_iterator m form v a.values e fit)

-- a typed call of a row of the table
row_called : (g : Scope) (n : ℕ) (object : Option ℕ) (us : List ExprType) (a : Args) (m : Memory) (picks : List ℕ)
    → has_type (call_type g (callees.Row n) object us) ≡ true → ObjectFits m g object a.object → AllFit m us a.values
    → RowIsCalled (callees.Row n) a m picks
row_called g n None us a m picks h there fit =
    let k = is_alone g n us h in
    done_called (callees.Row n) (algorithm_row false k.line) a m picks (algorithm_done g n us a m picks k (object_none m g a.object there) fit)
row_called g n (Some x) us a m picks h there fit =
    let k = is_member g n x us h in
    done_called (callees.Row n) (member_row k.form k.line) a m picks (member_done g n x us a m picks k there fit)

-- one of an algorithm that appends
appending_called : (g : Scope) (n : ℕ) (object : Option ℕ) (us : List ExprType) (a : Args) (m : Memory) (picks : List ℕ)
    → has_type (call_type g (callees.Appends n) object us) ≡ true → ObjectFits m g object a.object → AllFit m us a.values
    → RowIsCalled (callees.Appends n) a m picks
appending_called g n None us a m picks h there fit =
    let k = is_appending g n us h in
    done_called (callees.Appends n) (algorithm_row true k.line) a m picks (appending_done g n us a m picks k (object_none m g a.object there) fit)
appending_called g n (Some x) us a m picks h there fit = absurd cc

-- one of an operator
operator_called : (g : Scope) (o : Operator) (object : Option ℕ) (us : List ExprType) (a : Args) (m : Memory) (picks : List ℕ)
    → has_type (call_type g (callees.Operator o) object us) ≡ true → ObjectFits m g object a.object → AllFit m us a.values
    → RowIsCalled (callees.Operator o) a m picks
operator_called g o None us a m picks h there fit =
    done_called (callees.Operator o) (row_of_operator (operator_name o) o) a m picks
    (operator_done o us a m picks h (object_none m g a.object there) fit)
operator_called g o (Some x) us a m picks h there fit = absurd cc

-- each typed call of the library is one of a row that is there
pub typed_called : (g : Scope) (callee : Callee) (object : Option ℕ) (us : List ExprType) (a : Args) (m : Memory) (picks : List ℕ)
    → has_type (call_type g callee object us) ≡ true → ObjectFits m g object a.object → AllFit m us a.values → RowIsCalled callee a m picks
typed_called g (callees.Row n) object us a m picks h there fit = row_called g n object us a m picks h there fit
typed_called g (callees.Appends n) object us a m picks h there fit = appending_called g n object us a m picks h there fit
typed_called g (callees.Operator o) object us a m picks h there fit = operator_called g o object us a m picks h there fit
typed_called g (callees.Hidden o) object us a m picks h there fit = absurd cc

-- so is each call that makes a container, and its row makes one of the form
pub making_called : (form : Form) (callee : Callee) (object : Option ℕ) (us : List ExprType) (a : Args) (m : Memory) (picks : List ℕ)
    → is_making form callee object us ≡ true → a.object ≡ None → AllFit m us a.values
    → (k : RowIsCalled callee a m picks) × (k.row.object ≡ new_one form)
unfolding done_called
making_called form (callees.Row n) None us a m picks h none fit =
    let k = is_maker form n us h in
    (done_called (callees.Row n) (member_row form k.line) a m picks (maker_done form n us a m picks k none fit), k.on_object)
making_called form callee object us a m picks h none fit = absurd cc

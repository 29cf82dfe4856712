-- The library gives what is of the type of each typed call: its row is there, it keeps the forms of containers, and its answer is of the type.
use Rattle.std.proofs.Common.{◌≡◌, ℕ, true, false, List, [], ◌∷◌, Option, Some, None, codes, refl, ap, sym, ◌∙◌, subst}
use Rattle.sl_base.specs.declared.form.Form.{Form}
use Rattle.sl_base.specs.declared.scalar.Scalar.TheVariants as t
use Rattle.sl_syntax.specs.declared.operator.Comparison.TheVariants as c
use Rattle.sl_syntax.specs.declared.typed.callee.Callee.{Callee}
use Rattle.sl_syntax.specs.declared.typed.callee.Callee.TheVariants as callees
use Rattle.sl_syntax.specs.declared.typed.operator.Operator.TheVariants as operators
use Rattle.sl_typing.specs.declared.expr_type.ExprType.{ExprType}
use Rattle.sl_typing.specs.declared.expr_type.ExprType.TheVariants as types
use Rattle.sl_typing.specs.Types.{has_type}
use Rattle.sl_model.specs.Memory.Containers.{Memory}
use Rattle.sl_model.specs.LibraryCalls.Values.{Value, Args, LibOut}
use Rattle.sl_model.specs.LibraryCalls.Situation.{Situation}
use Rattle.sl_model.specs.LibraryCalls.Needs.{first_failure}
use Rattle.sl_model.specs.LibraryCalls.Actions.{never}
use Rattle.sl_model.specs.LibraryCalls.Rows.{Object, of_form, new_one, of_first, Row, row_of, row_of_operator}
use Rattle.sl_model.specs.LibraryCalls.Library.{form_of, row_out, lib}
use Rattle.sl_model.specs.Runs.Good.{IsSound}
use Rattle.sl_model.specs.Typing.Shapes.{is_new_one, row_makes}
use Rattle.sl_model.specs.Typing.WellTypedScopes.{Scope}
use Rattle.sl_model.specs.Typing.WellTypedCalls.{call_type}
use Rattle.sl_model.specs.Typing.WellTypedStatements.{is_making}
use Rattle.sl_model.proofs.Called.{IsCalled, situation}
use Rattle.sl_model.proofs.FineEffects.{does-leaves}
use Rattle.sl_model.proofs.LibrarySound.{row-fine}
use Rattle.sl_model.proofs.ScopedCalls.{call_makes_none}
use Rattle.sl_model.proofs.Fitting.{IsIteratorOf, AllFit, IsMeant, ObjectFits, OperandsFit, FitsTypes}
use Rattle.sl_model.proofs.LibraryForms.{forms_with, made_by, row-forms}
use Rattle.sl_model.proofs.RowIsThere.{RowIsCalled, typed_called, making_called, compares_done, reads_done, steps_done}
use Rattle.sl_model.proofs.RowMeant.{row_meant}
use Rattle.sl_model.proofs.MovingFirst.{moving_first}
use Rattle.sl_model.proofs.AnswersFit.{IsCarriedOut, RowGives}
use Rattle.sl_model.proofs.OperatorsFit.{element-read, number-told, iterator-moved}
use Rattle.sl_model.proofs.CallsFit.{call-given, moving-given}

-- a row that is called in a sound memory, whose needs hold and which nothing stops, leaves a sound memory and keeps forms
done : (callee : Callee) (r : Row) → row_of callee ≡ Some r → (s : Situation) → IsSound s.memory → IsCalled r s
    → first_failure (r.fails s) ≡ None → r.action.stops s ≡ never → IsCarriedOut (made_by r) r s
done callee r e s sound called none go = record {
  called = called;
  needs = none;
  goes = go;
  sound = (does-leaves (form_of r.object s) r.class s (r.action.effect s) sound (row-fine callee r e s sound called none go)).sound;
  kept = row-forms callee r e s called none;
}

-- no container comes with an object that is none that is made
none_with : (o : Object) → is_new_one o ≡ false → forms_with o ≡ []
none_with (of_form form) e = refl
none_with (new_one form) e = absurd (cc)
none_with of_first e = refl

-- a typed call makes none
none_made : (g : Scope) (callee : Callee) (object : Option ℕ) (us : List ExprType) (r : Row) → row_of callee ≡ Some r
    → has_type (call_type g callee object us) ≡ true → made_by r ≡ []
none_made g callee object us r e has = none_with r.object (ap row_makes (sym e) ∙ call_makes_none g callee object us has)

-- a call of a row that is there has a meaning, where what the row gives is of the type
meant : (more : List Form) (u : ExprType) (callee : Callee) (r : Row) (a : Args) (m : Memory) (picks : List ℕ) (j : ℕ) → row_of callee ≡ Some r
    → made_by r ≡ more → IsSound m → IsCalled r (situation a m picks j) → lib callee a m picks ≡ row_out r (situation a m picks j)
    → (IsCarriedOut more r (situation a m picks j) → RowGives r (situation a m picks j) u) → IsMeant more m u (lib callee a m picks)
meant more u callee r a m picks j e made sound called out given =
    subst (λ (o : LibOut). IsMeant more m u o) (sym out) (row_meant more u r (situation a m picks j) (λ none go.
    let d : IsCarriedOut more r (situation a m picks j) =
    subst (λ (forms : List Form). IsCarriedOut forms r (situation a m picks j)) made (done callee r e (situation a m picks j) sound called none go) in
    record { kept = d.kept; given = given d }))

-- a typed call
typed_meant : (g : Scope) (callee : Callee) (object : Option ℕ) (us : List ExprType) (a : Args) (m : Memory) (picks : List ℕ) (u : ExprType)
    → has_type (call_type g callee object us) ≡ true → ObjectFits m g object a.object → OperandsFit m us a.values
    → ((r : Row) (s : Situation) → row_of callee ≡ Some r → AllFit s.memory us s.values → IsCarriedOut [] r s → RowGives r s u)
    → IsMeant [] m u (lib callee a m picks)
typed_meant g callee object us a m picks u has there ops given = by_row (typed_called g callee object us a m picks has there ops.fit)
  where
    by_row : RowIsCalled callee a m picks → IsMeant [] m u (lib callee a m picks)
    by_row k = meant [] u callee k.row a m picks k.object k.found (none_made g callee object us k.row k.found has) ops.sound k.called k.is_out
        (λ d. given k.row (situation a m picks k.object) k.found ops.fit d)

-- a call that makes a container
making_meant : (form : Form) (callee : Callee) (object : Option ℕ) (us : List ExprType) (a : Args) (m : Memory) (picks : List ℕ)
    → is_making form callee object us ≡ true → a.object ≡ None → OperandsFit m us a.values
    → IsMeant (form ∷ []) m types.Nothing (lib callee a m picks)
making_meant form callee object us a m picks has none ops = by_row (making_called form callee object us a m picks has none ops.fit)
  where
    by_row : (k : RowIsCalled callee a m picks) × (k.row.object ≡ new_one form) → IsMeant (form ∷ []) m types.Nothing (lib callee a m picks)
    by_row k = meant (form ∷ []) types.Nothing callee k.0.row a m picks k.0.object k.0.found (ap forms_with k.1) ops.sound k.0.called k.0.is_out
        (λ d. tt)

-- the operators that a range-for asks for make no container and are called on iterators
module _ (form : Form) (a : Args) (m : Memory) (picks : List ℕ) (none : a.object ≡ None) (sound : IsSound m) where
  -- the comparison
  compared : (v w : Value) → a.values ≡ v ∷ w ∷ [] → IsIteratorOf m form v → IsIteratorOf m form w
      → IsMeant [] m (types.Scalar t.Bool) (lib (callees.Hidden (operators.Compare c.NotEqual)) a m picks)
  compared v w e fit next =
      let k = compares_done form v w a m picks none e fit next in
      meant [] (types.Scalar t.Bool) (callees.Hidden (operators.Compare c.NotEqual)) (row_of_operator (codes "for") (operators.Compare c.NotEqual))
      a m picks k.object k.found refl sound k.called k.is_out
      (λ d. number-told (codes "for") (operators.Compare c.NotEqual) (situation a m picks k.object) d t.Bool refl)

  -- the reading of an element
  read : (v : Value) → a.values ≡ v ∷ [] → IsIteratorOf m form v
      → IsMeant [] m (types.Element false) (lib (callees.Hidden operators.Dereference) a m picks)
  read v e fit =
      let k = reads_done form v a m picks none e fit in
      meant [] (types.Element false) (callees.Hidden operators.Dereference) (row_of_operator (codes "for") operators.Dereference)
      a m picks k.object k.found refl sound k.called k.is_out
      (λ d. element-read (codes "for") operators.Dereference (situation a m picks k.object) d false refl)

  -- the step
  stepped : (v : Value) → a.values ≡ v ∷ [] → IsIteratorOf m form v
      → IsMeant [] m (types.Iterator false form) (lib (callees.Hidden operators.Increment) a m picks)
  stepped v e fit =
      let k = steps_done form v a m picks none e fit in
      meant [] (types.Iterator false form) (callees.Hidden operators.Increment) (row_of_operator (codes "for") operators.Increment)
      a m picks k.object k.found refl sound k.called k.is_out
      (λ d. iterator-moved (codes "for") operators.Increment (situation a m picks k.object) d (types.Iterator false form ∷ []) refl refl
      (subst (λ (vs : List Value). AllFit m (types.Iterator false form ∷ []) vs) (sym e) (fit, tt)))

-- the library gives what is of the type of each typed call
pub lib-fits : FitsTypes lib
lib-fits = record {
  calls = λ g callee object us a m picks moves has there ops. typed_meant g callee object us a m picks (call_type g callee object us) has there ops
      (λ r s e fit d. call-given g callee object us r s e has fit d);
  moving = moving_first;
  moves = λ g callee object u us a m picks moves has there ops. typed_meant g callee object (u ∷ us) a m picks u has there ops
      (λ r s e fit d. moving-given g callee object (u ∷ us) r s e moves has fit d);
  makes = making_meant;
  compares = λ form v w a m picks none e sound used fit next. compared form a m picks none sound v w e fit next;
  reads = λ form v a m picks none e sound used fit. read form a m picks none sound v e fit;
  steps = λ form v a m picks none e sound used fit. stepped form a m picks none sound v e fit;
}

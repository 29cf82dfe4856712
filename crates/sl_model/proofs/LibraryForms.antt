-- Each call of the library keeps the forms of containers, and what stamps fit; the row of a constructor makes one container of its form.
use Rattle.std.proofs.Common.{◌≡◌, Bool, List, [], ◌∷◌, Some, None, ap, subst, if◌then◌else◌}
use Rattle.sl_base.specs.declared.form.Form.{Form}
use Rattle.sl_syntax.specs.declared.typed.callee.Callee.{Callee}
use Rattle.sl_model.specs.LibraryCalls.Situation.{Situation}
use Rattle.sl_model.specs.LibraryCalls.Needs.{first_failure}
use Rattle.sl_model.specs.LibraryCalls.Actions.{Effect}
use Rattle.sl_model.specs.LibraryCalls.Rows.{Object, of_form, new_one, of_first, Row, row_of}
use Rattle.sl_model.specs.LibraryCalls.Library.{form_of}
use Rattle.sl_model.specs.Typing.Shapes.{is_new_one}
use Rattle.sl_model.proofs.Called.{IsCalled}
use Rattle.sl_model.proofs.Fitting.{KeepsForms}
use Rattle.sl_model.proofs.FormsEffects.{made_forms, does-forms}
use Rattle.sl_model.proofs.FormsRows.{RowTradesOneForm, row-trades}
use Rattle.sl_model.proofs.Growing.{makes_one}
use Rattle.sl_model.proofs.LibraryGood.{row-tells}
use Rattle.sl_model.proofs.Tells.{memory_after, RowTells}

-- the forms of the containers that come with an object
abbrev pub forms_with : Object → List Form
forms_with (new_one form) = form ∷ []
forms_with object = []

-- the forms of the containers that a row makes
abbrev pub made_by : Row → List Form
made_by r = forms_with r.object

-- a row keeps forms wherever it is called and its needs hold
abbrev pub RowKeepsForms : Row → Type 0
RowKeepsForms r = (s : Situation) → IsCalled r s → first_failure (r.fails s) ≡ None → KeepsForms (made_by r) s.memory (memory_after r s)

-- an effect that makes a container where the object is a new one makes it of the form of the object
made-same : (o : Object) (s : Situation) (e : Effect) → makes_one e ≡ is_new_one o → made_forms (form_of o s) e ≡ forms_with o
made-same (of_form form) s e h = ap (λ (b : Bool). if b then form ∷ [] else []) h
made-same (new_one form) s e h = ap (λ (b : Bool). if b then form ∷ [] else []) h
made-same of_first s e h = ap (λ (b : Bool). if b then form_of of_first s ∷ [] else []) h

-- a row that exchanges elements between containers of one form alone keeps forms
one-keeps : (r : Row) → RowTells r → RowTradesOneForm r → RowKeepsForms r
one-keeps r tells trades s called none = subst (λ (more : List Form). KeepsForms more s.memory (memory_after r s))
    (made-same r.object s (r.action.effect s) (tells s called none).makes)
    (does-forms (form_of r.object s) r.class s (r.action.effect s) (trades s called))

-- each row of what is called keeps forms
pub row-forms : (callee : Callee) (r : Row) → row_of callee ≡ Some r → RowKeepsForms r
row-forms callee r e = one-keeps r (row-tells callee r e) (row-trades callee r e)

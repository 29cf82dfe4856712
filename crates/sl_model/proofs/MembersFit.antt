-- What a call on a container gives is of the type of the row's result, where the container is of the row's form.
use Rattle.std.proofs.Common.{◌≡◌, ℕ, Bool, true, false, List, [], Option, Some, None, refl, ap, sym, ◌∙◌, subst, option_map}
use Rattle.std.proofs.Common.{if◌then◌else◌}
use Rattle.std.specs.Prelude.{slice_get}
use Rattle.std.specs.List.{list_all}
use Rattle.sl_base.specs.declared.form.Form.{Form}
use Rattle.sl_specs.specs.declared.call.Call.{Call}
use Rattle.sl_specs.specs.declared.return_type.ReturnType.{ReturnType}
use Rattle.sl_specs.specs.declared.return_type.ReturnType.TheVariants as returns
use Rattle.sl_specs.specs.Rows.{Row as TableRow}
use Rattle.sl_specs.specs.Table.{table}
use Rattle.sl_syntax.specs.declared.typed.callee.Callee.TheVariants as callees
use Rattle.sl_typing.specs.declared.expr_type.ExprType.{ExprType}
use Rattle.sl_typing.specs.Signatures.{result_type}
use Rattle.sl_model.specs.Memory.Containers.{Memory}
use Rattle.sl_model.specs.LibraryCalls.Situation.{Situation}
use Rattle.sl_model.specs.LibraryCalls.Rows.{Object, of_form, new_one, Row, shape_of_return, is_constructor, member_row, meaning_of}
use Rattle.sl_model.specs.LibraryCalls.Library.{value_in}
use Rattle.sl_model.proofs.Called.{HasObject}
use Rattle.sl_model.proofs.Passing.{passes_at}
use Rattle.sl_model.proofs.Tells.{shape_of_answer, memory_after, Tells}
use Rattle.sl_model.proofs.LibraryGood.{row-tells}
use Rattle.sl_model.proofs.Fitting.{IsGiven}
use Rattle.sl_model.proofs.GivenIn.{is_output, AnswerIsIn, container_given, GivesIn, object_form, form_kept}
use Rattle.sl_model.proofs.LibraryGives.{numbered-gives-in}
use Rattle.sl_model.proofs.TypedRows.{meaning_on}
use Rattle.sl_model.proofs.AnswersFit.{IsCarriedOut, RowGives, is_own, own_given}
use Rattle.sl_model.proofs.ScopedRows.{gives_nothing}

-- a call that makes its object gives nothing, and another one gives what is of its object
abbrev is_plain : Call → ReturnType → Bool
is_plain call gives = if is_constructor call then gives_nothing gives else is_own gives

-- so it is with a row that has a form
abbrev is_plain_member : TableRow → Bool
is_plain_member r = elim r.form [ None ↦ true | Some form ↦ is_plain r.call r.gives ]

-- and with each row of the table
plain_table : list_all is_plain_member table ≡ true
unfolding table
plain_table = refl

-- a row with a form is plain
plain_row : (r : TableRow) (form : Form) → r.form ≡ Some form → is_plain_member r ≡ true → is_plain r.call r.gives ≡ true
plain_row r form e plain =
    ap (λ (o : Option Form). elim o as (λ _. Bool) [ None ↦ true | Some form ↦ is_plain r.call r.gives ]) (sym e) ∙ plain

-- where nothing is given, that is its type
nothing_fits : (gives : ReturnType) (t : Memory) (b : Bool) (form : Form) (us : List ExprType) (r : Row) (s : Situation) → gives_nothing gives ≡ true
    → IsGiven t (result_type gives b form us) (value_in t (r.action.answer s))
nothing_fits returns.Nothing t b form us r s e = tt
nothing_fits (returns.Number ty) t b form us r s e = absurd (cc)
nothing_fits returns.Iterator t b form us r s e = absurd (cc)
nothing_fits returns.IteratorAndBool t b form us r s e = absurd (cc)
nothing_fits returns.IteratorPair t b form us r s e = absurd (cc)
nothing_fits returns.Element t b form us r s e = absurd (cc)
nothing_fits returns.FirstArgument t b form us r s e = absurd (cc)
nothing_fits returns.Output t b form us r s e = absurd (cc)
nothing_fits returns.Appender t b form us r s e = absurd (cc)

-- what is of the object stands in no output
own_is_here : (gives : ReturnType) → is_own gives ≡ true → is_output gives ≡ false
own_is_here returns.Nothing e = refl
own_is_here (returns.Number ty) e = refl
own_is_here returns.Iterator e = refl
own_is_here returns.IteratorAndBool e = refl
own_is_here returns.IteratorPair e = refl
own_is_here returns.Element e = refl
own_is_here returns.FirstArgument e = absurd (cc)
own_is_here returns.Output e = absurd (cc)
own_is_here returns.Appender e = refl

-- what a call on a container gives is of the type of its result
pub member-given : (n : ℕ) (r : TableRow) (form : Form) (b : Bool) (us : List ExprType) (s : Situation) → slice_get table n ≡ Some r
    → r.form ≡ Some form → IsCarriedOut [] (meaning_of false r) s → RowGives (meaning_of false r) s (result_type r.gives b form us)
member-given n r form b us s there e done = by_call (is_constructor r.call) refl (plain_row r form e (passes_at is_plain_member table n r plain_table there))
  where
    row : Row
    row = meaning_of false r

    meant : meaning_of false r ≡ member_row form r
    meant = meaning_on false r form e

    told : Tells (meaning_of false r) s
    told = row-tells (callees.Row n) (meaning_of false r) (ap (option_map (meaning_of false)) there) s done.called done.needs

    gives : GivesIn (is_output r.gives) (meaning_of false r) s
    gives = numbered-gives-in false n r there s done.called done.needs done.goes

    by_call : (made : Bool) → is_constructor r.call ≡ made → (if made then gives_nothing r.gives else is_own r.gives) ≡ true
        → RowGives (meaning_of false r) s (result_type r.gives b form us)
    by_call true t own = nothing_fits r.gives (memory_after (meaning_of false r) s) b form us (meaning_of false r) s own
    by_call false t own =
        let object : (meaning_of false r).object ≡ of_form form =
        ap (λ (q : Row). q.object) meant ∙ ap (λ (made : Bool). if made then new_one form else of_form form) t in
        let has : HasObject (of_form form) s = subst (λ (o : Object). HasObject o s) object done.called.object in
        let shape : shape_of_answer ((meaning_of false r).action.answer s) ≡ shape_of_return r.gives =
        told.shaped ∙ ap (λ (q : Row). q.shape) meant in
        let same : AnswerIsIn s.object ((meaning_of false r).action.answer s) =
        subst (λ (last : Bool). AnswerIsIn (container_given last s) ((meaning_of false r).action.answer s)) (own_is_here r.gives own)
        gives.in_container in
        own_given r.gives (memory_after (meaning_of false r) s) form b us s.object ((meaning_of false r).action.answer s) own shape same
        gives.element_there done.sound told.placed
        (form_kept s.memory (memory_after (meaning_of false r) s) [] s.object form done.kept (object_form form s has))

-- The rows of forms: what they give, and whether they change.
use Rattle.std.proofs.Common.{◌≡◌, ℕ, Bool, true, false, not, ◌&&◌, ◌||◌, List, [], ◌∷◌, ◌++◌, Option, Some, refl, sym, subst}
use Rattle.std.specs.Prelude.{flat_map, if◌then◌else◌}
use Rattle.std.specs.List.{list_any}
use Rattle.std.proofs.lemmas.Bool.{and_parts}
use Rattle.sl_base.specs.declared.place.Place.{Place}
use Rattle.sl_base.specs.declared.form.Form.{Form}
use Rattle.sl_specs.specs.declared.call.Call.TheVariants as calls
use Rattle.sl_specs.specs.Forms.{same_object}
use Rattle.sl_specs.specs.Table.{same_call}
use Rattle.sl_syntax.specs.declared.typed.callee.Callee.TheVariants as callees
use Rattle.sl_syntax.specs.Typed.{Function, Operands}
use Rattle.sl_typing.specs.declared.scope.Scope.{Scope}
use Rattle.sl_typing.specs.Signatures.{row_at, is_algorithm}
use Rattle.sl_typing.specs.Candidates.{Found, is_row_of, subscript_row}
use Rattle.sl_typing.specs.Numbering.{head}
use Rattle.sl_typing.specs.Order.{changing, nothing_done}
use Rattle.sl_model.specs.Typing.WellTypedCalls.{is_advance}
use Rattle.sl_model.specs.Typing.WellTypedNodes.{Node, a_call}
use Rattle.sl_model.specs.Typing.WellTypedOrder.{Variable, container_in, object_in, listed, is_change, changed_by, is_write}
use Rattle.sl_well_typed.proofs.Rows.{found_row, row_is_fine, is_member_fine, is_subscript_fine, is_algorithm_fine, is_output_fine, is_output_given}
use Rattle.sl_well_typed.proofs.Rows.{gives_own, gives_element, are_one_number, needs_strength}
use Rattle.sl_typed_order.proofs.Covers.{Covers, covers_none}
use Rattle.sl_typed_order.proofs.Does.{Does, covers_alone}
use Rattle.sl_typed_order.proofs.QuietRows.{form_is_none}
use Rattle.sl_typed_order.proofs.Still.{unnot}

-- a node that is a change or none, and no write
pub node_does : (fs : List Function) (g : Scope) (x : Node) (c b : Bool) (names : List (List ℕ)) (vs : List Variable) → (c ≡ true → b ≡ true)
    → Covers g names vs → is_change x ≡ c → changed_by fs x ≡ (if c then vs else []) → is_write x ≡ false
    → Does fs g (if b then changing names else nothing_done) (x ∷ [])
node_does fs g x true true names vs needs covers change changed write = record {
  changes = λ k. absurd cc;
  changed = covers_alone g names (changed_by fs x) (subst (λ (ws : List Variable). Covers g names ws) (sym changed) covers);
  writes = λ k. rw write refl;
}
node_does fs g x true false names vs needs covers change changed write = absurd (let no = needs refl in cc)
node_does fs g x false true names vs needs covers change changed write = record {
  changes = λ k. absurd cc;
  changed = covers_alone g names (changed_by fs x) (subst (λ (ws : List Variable). Covers g names ws) (sym changed) (covers_none g names));
  writes = λ k. rw write refl;
}
node_does fs g x false false names vs needs covers change changed write = record {
  changes = λ k. rw change refl;
  changed = covers_alone g [] (changed_by fs x) (subst (λ (ws : List Variable). Covers g [] ws) (sym changed) (covers_none g []));
  writes = λ k. rw write refl;
}

-- a row of a form
pub record IsFormRow (x : Found) : Type 0 where
  pub there : row_at x.number ≡ Some x.row
  pub other : is_algorithm x.row ≡ false
  pub own : gives_own x.row.gives ≡ true
  pub still : is_advance x.row ≡ false

second : (a b : Bool) → a ≡ false → (a || b) ≡ true → b ≡ true
second true b h k = absurd cc
second false b h k = k

pub form_row : (x : Found) → row_at x.number ≡ Some x.row → is_algorithm x.row ≡ false → IsFormRow x
form_row x there other =
    let row = x.row in
    let fine = row_is_fine x.number row there in
    let f4 = and_parts (is_member_fine row && is_subscript_fine row && is_algorithm_fine row && is_output_fine row) (is_output_given row) fine in
    let f3 = and_parts (is_member_fine row && is_subscript_fine row && is_algorithm_fine row) (is_output_fine row) f4.0 in
    let f2 = and_parts (is_member_fine row && is_subscript_fine row) (is_algorithm_fine row) f3.0 in
    let f1 = and_parts (is_member_fine row) (is_subscript_fine row) f2.0 in
    let rest = second (is_algorithm row)
    (gives_own row.gives && not (same_call calls.Advance row.call) && not (list_any needs_strength row.letters)) other f1.0 in
    let two = and_parts (gives_own row.gives && not (same_call calls.Advance row.call)) (not (list_any needs_strength row.letters)) rest in
    let one = and_parts (gives_own row.gives) (not (same_call calls.Advance row.call)) two.0 in
    record { there = there; other = other; own = one.0; still = unnot (is_advance row) one.1 }

-- a row of `[ ]`
pub record IsSubscriptRow (x : Found) : Type 0 where
  pub form : IsFormRow x
  pub element : gives_element x.row.gives ≡ true

not_so : (a b : Bool) → a ≡ true → (not a || b) ≡ true → b ≡ true
not_so true b h k = k
not_so false b h k = absurd cc

pub subscript_row_is : (form : Form) (x : Found) → subscript_row form ≡ Some x → IsSubscriptRow x
subscript_row_is form x e =
    let row = x.row in
    let found = found_row (is_row_of form calls.Subscript) x e in
    let tests = and_parts (same_object row.form (Some form)) (same_call row.call calls.Subscript) found.passes in
    let fine = row_is_fine x.number row found.there in
    let f4 = and_parts (is_member_fine row && is_subscript_fine row && is_algorithm_fine row && is_output_fine row) (is_output_given row) fine in
    let f3 = and_parts (is_member_fine row && is_subscript_fine row && is_algorithm_fine row) (is_output_fine row) f4.0 in
    let f2 = and_parts (is_member_fine row && is_subscript_fine row) (is_algorithm_fine row) f3.0 in
    let f1 = and_parts (is_member_fine row) (is_subscript_fine row) f2.0 in
    let rest = not_so (same_call row.call calls.Subscript) (are_one_number row.letters && gives_element row.gives) tests.1 f1.1 in
    record {
      form = form_row x found.there (form_is_none row.form form tests.0);
      element = (and_parts (are_one_number row.letters) (gives_element row.gives) rest).1;
    }

-- a call of a row of a form
call_change : (c : Bool) (vs : List Variable) → (if c || false then vs else []) ≡ (if c then vs else [])
call_change true vs = refl
call_change false vs = refl

or_none : (c : Bool) → (c || false) ≡ c
or_none true = refl
or_none false = refl

pub form_call_does : (fs : List Function) (g : Scope) (x : Found) → IsFormRow x → (at : Place) (site object : Option ℕ) (told : List (Option ℕ))
    (es : Operands) (changes : Bool) (names : List (List ℕ)) → (x.row.changes ≡ true → changes ≡ true)
    → let h = head (callees.Row x.number) at site object told in
    Covers g names (object_in h ++ flat_map container_in (listed es)) → Does fs g (if changes then changing names else nothing_done) (a_call h es ∷ [])
form_call_does fs g x is at site object told es changes names needs covers =
    let h = head (callees.Row x.number) at site object told in
    node_does fs g (a_call h es) x.row.changes changes names (object_in h ++ flat_map container_in (listed es)) needs covers
    (rw (is.there, is.still) (or_none x.row.changes))
    (rw (is.there, is.still) (call_change x.row.changes (object_in h ++ flat_map container_in (listed es))))
    (rw (is.there, is.other) refl)

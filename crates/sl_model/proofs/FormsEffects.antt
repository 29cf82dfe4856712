-- Each effect of a call keeps the forms of containers, and what stamps fit, where it exchanges elements between containers of one form alone.
use Rattle.std.proofs.Common.{◌≡◌, ℕ, List, [], ◌∷◌, Option, Some, None, if◌then◌else◌, arith}
use Rattle.std.specs.Prelude.{ℤ}
use Rattle.sl_base.specs.declared.form.Form.{Form}
use Rattle.sl_specs.specs.declared.class.Class.{Class}
use Rattle.sl_model.specs.Memory.Containers.{Cont, cont_at, size, made}
use Rattle.sl_model.specs.Memory.Edits.{Change, change_of, after}
use Rattle.sl_model.specs.Memory.Schedule.{after_picks}
use Rattle.sl_model.specs.LibraryCalls.Situation.{Situation, own, item}
use Rattle.sl_model.specs.LibraryCalls.Actions.{Effect, keeps, edits, changes, trades, inserts, appends, makes, makes_by_keys}
use Rattle.sl_model.specs.LibraryCalls.Effects.{Left, insertion_class, insertion, append, append_all, known_key, key_change, key_picks, insert_key, insert_all}
use Rattle.sl_model.specs.LibraryCalls.Effects.{does}
use Rattle.sl_model.proofs.Fitting.{KeepsForms}
use Rattle.sl_model.proofs.FormsAfter.{forms-same, forms-then, change-forms, trade-forms, made-forms}
use Rattle.sl_model.proofs.Growing.{makes_one, after-grows, insert_key-grows}

-- what exchanges elements of two containers does so where they are of one form
abbrev pub TradesOneForm : Situation → Effect → Type 0
TradesOneForm s (trades j ch dh) = (own s).form ≡ (cont_at s.memory j).form
TradesOneForm s e = Unit {0}

-- the forms of the containers that an effect on a form makes
abbrev pub made_forms : Form → Effect → List Form
made_forms form e = if makes_one e then form ∷ [] else []

-- elements one by one at the end
append_all-forms : (site j : ℕ) (xs : List ℤ) (left : Left) → KeepsForms [] left.memory (append_all site j xs left).memory
append_all-forms site j [] left = forms-same left.memory
append_all-forms site j (x ∷ xs) left = forms-then [] [] left.memory (append site j c x left).memory
    (append_all site j xs (append site j c x left)).memory
    (change-forms ch left.memory j site)
    (append_all-forms site j xs (append site j c x left))
    (after-grows ch left.memory j c site).later
  where
    c : Cont
    c = cont_at left.memory j

    ch : Change
    ch = change_of (insertion_class (cont_at left.memory j).form) (cont_at left.memory j)
        (insertion (cont_at left.memory j) (size (cont_at left.memory j)) (item x ∷ []) left.picks)

-- a key that comes
insert_key-forms : (class : Class) (site j : ℕ) (x : ℤ × ℤ) (left : Left)
    → KeepsForms [] left.memory (insert_key class site j (cont_at left.memory j) x left).memory
insert_key-forms class site j x left = by_known (known_key (cont_at left.memory j) x.0)
  where
    by_known : (o : Option ℕ) → KeepsForms [] left.memory (elim o as (λ _. Left) [
      | None ↦ record {
        memory = after (key_change class (cont_at left.memory j) x left.picks) left.memory j (cont_at left.memory j) site;
        picks = after_picks (key_picks (cont_at left.memory j)) left.picks;
      }
      | Some k ↦ left
    ]).memory
    by_known None = change-forms (key_change class (cont_at left.memory j) x left.picks) left.memory j site
    by_known (Some k) = forms-same left.memory

-- keys one by one
insert_all-forms : (class : Class) (site j : ℕ) (xs : List (ℤ × ℤ)) (left : Left)
    → KeepsForms [] left.memory (insert_all class site j xs left).memory
insert_all-forms class site j [] left = forms-same left.memory
insert_all-forms class site j (x ∷ xs) left = forms-then [] [] left.memory (insert_key class site j (cont_at left.memory j) x left).memory
    (insert_all class site j xs (insert_key class site j (cont_at left.memory j) x left)).memory
    (insert_key-forms class site j x left)
    (insert_all-forms class site j xs (insert_key class site j (cont_at left.memory j) x left))
    (insert_key-grows class site j (cont_at left.memory j) x left).later

-- each effect
pub does-forms : (form : Form) (class : Class) (s : Situation) (e : Effect) → TradesOneForm s e
    → KeepsForms (made_forms form e) s.memory (does form class s e).memory
does-forms form class s keeps one = forms-same s.memory
does-forms form class s (edits n e) one = change-forms (change_of class (own s) e) s.memory s.object s.site
does-forms form class s (changes n j ch) one = change-forms ch s.memory j s.site
does-forms form class s (trades j ch dh) one = trade-forms ch dh s.memory s.object j s.site one
does-forms form class s (inserts xs) one =
    insert_all-forms class s.site s.object xs (record { memory = s.memory; picks = after_picks 0 s.picks })
does-forms form class s (appends j xs) one = append_all-forms s.site j xs (record { memory = s.memory; picks = after_picks 0 s.picks })
does-forms form class s (makes n room xs) one = made-forms form room xs s.memory
does-forms form class s (makes_by_keys n room xs) one = forms-then (form ∷ []) [] s.memory (made form room [] s.memory)
    (insert_all class s.site s.object xs (record { memory = made form room [] s.memory; picks = after_picks n s.picks })).memory
    (made-forms form room [] s.memory)
    (insert_all-forms class s.site s.object xs (record { memory = made form room [] s.memory; picks = after_picks n s.picks }))
    (omega arith)

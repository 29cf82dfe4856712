-- A store in which a container was edited shows the memory after the edit of the model with the same numbers.
use Rattle.std.proofs.Common.{◌≡◌, ℕ, ◌+◌, ◌-◌, ◌<◌, ◌≤◌, ◌++◌, false, List, Some, length, map, take, drop, min, ap, sym, ◌∙◌, arith, inl, inr, subst, if◌then◌else◌}
use Rattle.std.proofs.Common.{pos}
use Rattle.std.specs.List.{slice_get, slice_set}
use Rattle.std.specs.Prelude.{nat_lt}
use Rattle.std.proofs.lemmas.List.{length-map, length-replicate}
use Rattle.sl_base.specs.declared.limits.TheConstants.{ELEMENTS}
use Rattle.sl_base.specs.declared.form.Form.{Form}
use Rattle.sl_model.specs.Memory.Classes.{Edit, Fits, kills}
use Rattle.sl_model.specs.Memory.Containers.{Cont, Memory, size, cont_at}
use Rattle.sl_model.specs.Memory.Edits.{Change, change_of, shifted, changed, after}
use Rattle.sl_model.specs.Runs.State.{Pointer}
use Rattle.sl_model.specs.LibraryCalls.Values.{Value}
use Rattle.sl_model.proofs.After.{change-sound}
use Rattle.sl_model.proofs.AfterEdit.{edit_keeps, shifted_behind}
use Rattle.sl_model.proofs.FairChanges.{edit-length}
use Rattle.sl_model.proofs.Getting.{map_set}
use Rattle.sl_model.proofs.Places.{CountsFair, counts-fair}
use Rattle.sl_slots.specs.declared.edit.Edit.{Edit as EditCode}
use Rattle.sl_slots.specs.declared.container.Element.{Element}
use Rattle.sl_slots.specs.declared.store.Store.{Store}
use Rattle.sl_slots.specs.declared.motion.Motion.TheVariants.{Edits}
use Rattle.sl_slots.specs.Shown.{Plain, plain, contents, element_of, new_element, Holds}
use Rattle.sl_slots.specs.Fates.{edit_of, kills_by, loses_by, shifted_by}
use Rattle.sl_slots.specs.Stored.{contents_at, elements_at, editing_of, edited, Edited, IsEdit}
use Rattle.sl_slots.proofs.ChangeLaws.{IsCarried, change-follow}
use Rattle.sl_slots.proofs.EditLaws.{AreAlike, kills-alike, loses-alike, outside_gone}
use Rattle.sl_slots.proofs.Elements.{edit_elements}
use Rattle.sl_slots.proofs.Following.{moved_holds}
use Rattle.sl_slots.proofs.ReadingShows.{contents_shown}

-- a place in a container of not too many elements moves as the edit says
shift_same : (k n from gone come a b d : ℕ) → k ≤ n → n ≤ ELEMENTS → d ≤ ELEMENTS + ELEMENTS → a ≡ from → b ≡ gone → d ≡ come
    → (if nat_lt k a then k else (min (k + d) 18446744073709551615 - b)) ≡ (if nat_lt k from then k else ((k + come) - gone))
shift_same k n from gone come a b d low small few p q r =
    let x : min (k + d) 18446744073709551615 - b ≡ (k + come) - gone = omega arith in
    ap (λ (i : ℕ). if nat_lt k a then k else i) x ∙ ap (λ (i : ℕ). if nat_lt k i then k else ((k + come) - gone)) p

module _ (old new : Store) (j : ℕ) (code : EditCode) (come : List Element) (site : ℕ) (is : Edited j code come site old new)
    (low : j < length old.containers.items) (inside : code.from + code.gone ≤ length (elements_at old j))
    (m : Memory) (ps : List Pointer) (vs : List Value) (e : Edit) (same : IsEdit e code come) (h : Holds old m ps vs)
    (fair : CountsFair (cont_at m j) (change_of code.class (cont_at m j) e)) where
  -- the container of the memory
  abbrev c : Cont
  c = cont_at m j

  abbrev ch : Change
  ch = change_of code.class c e

  there : slice_get m.conts j ≡ Some c
  there = (contents_shown old m ps vs h j low).0

  shown : contents_at old j ≡ plain c
  shown = (contents_shown old m ps vs h j low).1

  sizes : length (elements_at old j) ≡ size c
  sizes = ap (λ (x : Plain). length x.elements) shown ∙ length-map c.cells element_of

  fits : Fits e (size c)
  fits = subst (λ n. e.from + e.gone ≤ n) sizes (let a : e.from ≡ code.from = same.from in let b : e.gone ≡ code.gone = same.gone in omega arith)

  comes : length come ≡ length e.come
  comes = ap (λ (l : List Element). length l) (sym same.come_in) ∙ length-map e.come new_element

  small : size c ≤ ELEMENTS
  small = h.sound.small j c there

  -- not too many come
  few : length come ≤ ELEMENTS + ELEMENTS
  few =
      let a : length ch.sources ≡ (size c + length e.come) - e.gone = edit-length code.class c e fits in
      let b : length ch.sources ≤ ELEMENTS = fair.few in
      let f : e.from + e.gone ≤ size c = fits in
      let s : size c ≤ ELEMENTS = small in
      let l : length come ≡ length e.come = comes in
      omega arith

  alike : AreAlike (length (elements_at old j)) (contents_at old j).room (size c) c.room (edit_of (editing_of j code come site old)) e
  alike = record {
    sizes = sizes;
    rooms = ap (λ (x : Plain). x.room) shown;
    from = sym same.from;
    gone = sym same.gone;
    come = length-replicate (length come) (pos 0, pos 0) ∙ comes;
    new_rooms = sym same.room;
  }

  abbrev move : ℕ → ℕ
  move = shifted_by (editing_of j code come site old)

  move_same : (k : ℕ) → k ≤ size c → move k ≡ shifted e k
  move_same k inner = shift_same k (size c) e.from e.gone (length e.come) code.from code.gone (length come) inner small few
      (sym same.from) (sym same.gone) comes

  -- an end that stays is the end
  end_stays : kills code.class (size c) c.room e (size c) ≡ false → move (size c) ≡ length ch.sources
  end_stays lives =
      let f : e.from + e.gone ≤ size c = fits in
      let a : move (size c) ≡ shifted e (size c) = move_same (size c) (omega arith) in
      let b : shifted e (size c) + e.gone ≡ size c + length e.come = shifted_behind e (size c) f in
      let l : length ch.sources ≡ (size c + length e.come) - e.gone = edit-length code.class c e fits in
      omega arith

  carried : IsCarried ch c (kills_by (editing_of j code come site old)) (loses_by (editing_of j code come site old)) move
  carried = record {
    kill = λ k inner. kills-alike code.class _ _ _ _ _ _ k alike;
    lose = λ k inner. loses-alike code.class _ _ _ _ _ _ k alike;
    moves_by = record {
      iterators = λ k inner lives. inl (ap (slice_get ch.sources) (move_same k (omega arith))
          ∙ edit_keeps code.class c e k fits inner (outside_gone code.class c e fits fair k (inl lives)));
      references = λ k inner lives. inl (ap (slice_get ch.sources) (move_same k (omega arith))
          ∙ edit_keeps code.class c e k fits inner (outside_gone code.class c e fits fair k (inr lives)));
      end = end_stays;
    };
  }

  -- the container afterwards
  abbrev as_plain : Form → List Element → ℕ → Plain
  as_plain form elements room = record { form = form; elements = elements; room = room }

  edit_shown : edited code come (contents_at old j) ≡ plain (changed m.fresh ch c)
  edit_shown =
      let es : List Element = map element_of c.cells in
      let parts : ℕ → ℕ → List Element → List Element = λ from gone l. take from es ++ (l ++ drop gone (drop from es)) in
      ap (edited code come) shown
      ∙ (ap (λ (n : ℕ). as_plain c.form (parts n code.gone come) code.room) (sym same.from)
      ∙ (ap (λ (n : ℕ). as_plain c.form (parts e.from n come) code.room) (sym same.gone)
      ∙ (ap (λ (l : List Element). as_plain c.form (parts e.from e.gone l) code.room) (sym same.come_in)
      ∙ (ap (λ (n : ℕ). as_plain c.form (parts e.from e.gone (map new_element e.come)) n) (sym same.room)
      ∙ ap (λ (l : List Element). as_plain c.form l e.room) (sym (edit_elements code.class m.fresh (m.fresh + size c + 1) c e fits))))))

  containers_shown : map contents new.containers.items ≡ map plain (after ch m j c site).conts
  containers_shown = is.containers
      ∙ (ap (slice_set (map contents old.containers.items) j) edit_shown
      ∙ (ap (λ (l : List Plain). slice_set l j (plain (changed m.fresh ch c))) h.shows.containers
      ∙ sym (map_set plain m.conts j (changed m.fresh ch c))))

  -- the store shows the memory after the edit
  pub edited_holds : Holds new (after ch m j c site) ps vs
  edited_holds = moved_holds old new m (after ch m j c site) (Edits (editing_of j code come site old)) ps vs h is.moved
      (change-sound ch m j c site h.sound there (counts-fair c ch fair)) (grows m.fresh (size c) (length ch.sources))
      (change-follow ch m j c site (kills_by (editing_of j code come site old)) (loses_by (editing_of j code come site old)) move
      h.sound there (counts-fair c ch fair) carried)
      containers_shown
    where
      grows : (a b d : ℕ) → a ≤ a + b + 1 + d
      grows a b d = omega arith

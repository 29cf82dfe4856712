-- What a store has of a container: what the memory has that it shows, and what a change leaves.
use Rattle.std.proofs.Common.{◌≡◌, ℕ, ◌+◌, ◌-◌, ◌<◌, ◌≤◌, ◌++◌, List, [], Option, Some, None, length, map, take, drop, get_or, ap}
use Rattle.std.proofs.Common.{refl, sym, ◌∙◌, arith, length-append}
use Rattle.std.specs.List.{slice_get, slice_set}
use Rattle.std.proofs.Math.ListN.{length-set}
use Rattle.std.proofs.lemmas.List.{length-map, length_push, length-take-le, length-drop}
use Rattle.std.proofs.lemmas.Simd.{map-map}
use Rattle.sl_base.specs.declared.form.Form.{Form}
use Rattle.sl_base.specs.declared.form.Form.TheVariants.{Vector}
use Rattle.sl_model.specs.Memory.Containers.{Memory, cont_at, size, keys}
use Rattle.sl_model.specs.Runs.State.{Pointer as PointerData}
use Rattle.sl_model.specs.LibraryCalls.Values.{Value as ValueData}
use Rattle.sl_model.proofs.Getting.{get_set_same}
use Rattle.sl_slots.specs.declared.edit.Edit.{Edit}
use Rattle.sl_slots.specs.declared.container.Element.{Element}
use Rattle.sl_slots.specs.declared.container.Container.{Container}
use Rattle.sl_slots.specs.declared.rearrangement.Rearrangement.{Rearrangement}
use Rattle.sl_slots.specs.declared.motion.Motion.{Motion}
use Rattle.sl_slots.specs.declared.slot.Pointer.{Pointer}
use Rattle.sl_slots.specs.declared.slot.Value.{Value}
use Rattle.sl_slots.specs.declared.store.Store.{Store}
use Rattle.sl_slots.specs.declared.trade.Trade.{Trade}
use Rattle.sl_slots.specs.Fates.{pointer_after, value_after}
use Rattle.sl_slots.specs.Rearranging.{element_from}
use Rattle.sl_slots.specs.Shown.{Plain, contents, element_of, Holds}
use Rattle.sl_slots.specs.Stored.{contents_at, elements_at, edited, Edited, Made, Moved, rearranged, Rearranged, Traded}
use Rattle.sl_slots.proofs.ReadingShows.{contents_shown, listed, contents-listed, read_there, elements-there}
use Rattle.sl_effects.specs.Carried.{GrewBy}
use Rattle.sl_effects.specs.Means.Keys.{keys_of}

-- ## What it shows

module _ (st : Store) (m : Memory) (ps : List PointerData) (vs : List ValueData) (h : Holds st m ps vs) (j : ℕ)
    (low : j < length st.containers.items) where
  -- a container of the store is one of the memory
  pub shown_there : slice_get m.conts j ≡ Some (cont_at m j)
  shown_there = (contents_shown st m ps vs h j low).0

  -- it has the same form
  pub shown_form : (contents_at st j).form ≡ (cont_at m j).form
  shown_form = ap (λ (x : Plain). x.form) (contents_shown st m ps vs h j low).1

  -- it has as many elements
  pub shown_size : length (elements_at st j) ≡ size (cont_at m j)
  shown_size = ap (λ (x : Plain). length x.elements) (contents_shown st m ps vs h j low).1 ∙ length-map (cont_at m j).cells element_of

  -- and the same keys
  pub shown_keys : keys_of (elements_at st j) ≡ keys (cont_at m j)
  shown_keys = ap (λ (x : Plain). keys_of x.elements) (contents_shown st m ps vs h j low).1
      ∙ map-map (λ (x : Element). x.key) element_of (cont_at m j).cells

-- the elements that are read of a container
pub read_elements : (st : Store) (j : ℕ) (c : Container) (es : List Element) → j < length st.containers.items
    → c ≡ get_or st.containers.items j c → es ≡ c.elements.items → es ≡ elements_at st j
read_elements st j c es low read is = is ∙ sym (elements-there st j c (read_there st.containers.items j c low read))

-- ## What a change leaves

-- a container was changed
abbrev IsSet : Store → Store → ℕ → Plain → Type 0
IsSet old new j p = map contents new.containers.items ≡ slice_set (map contents old.containers.items) j p

-- no container came or ended
many_set : (old new : Store) (j : ℕ) (p : Plain) → IsSet old new j p → length new.containers.items ≡ length old.containers.items
many_set old new j p e = sym (length-map new.containers.items contents)
    ∙ (ap (λ (l : List Plain). length l) e
    ∙ (length-set (map contents old.containers.items) j p ∙ length-map old.containers.items contents))

-- it is what it was changed to
contents_set : (old new : Store) (j : ℕ) (p : Plain) → IsSet old new j p → j < length old.containers.items → contents_at new j ≡ p
contents_set old new j p e low =
    let l : length (map contents old.containers.items) ≡ length old.containers.items = length-map old.containers.items contents in
    contents-listed new j
    ∙ (ap (λ (l : List Plain). listed l j) e
    ∙ ap (λ (o : Option Plain). elim o as (λ _. Plain) [ None ↦ record { form = Vector; elements = []; room = 0 } | Some q ↦ q ])
    (get_set_same (map contents old.containers.items) j p (omega arith)))

-- what is held after a motion is as much
held_moved : (by : Motion) (old new : Store) → Moved by old new
    → (length new.pointers.items ≡ length old.pointers.items) × (length new.operands.items ≡ length old.operands.items)
held_moved by old new is = (
  ap (λ (l : List Pointer). length l) is.pointers ∙ length-map old.pointers.items (pointer_after by),
  ap (λ (l : List Value). length l) is.operands ∙ length-map old.operands.items (value_after by),
)

-- nothing came
pub grew_none : (st : Store) → GrewBy 0 st st
grew_none st = record { containers = omega arith; variables = refl; operands = refl }

-- what came in turn
pub grew_then : (a b c : Store) (n k : ℕ) → GrewBy n a b → GrewBy k b c → GrewBy (n + k) a c
grew_then a b c n k p q = record {
  containers = let x = p.containers in let y = q.containers in omega arith;
  variables = q.variables ∙ p.variables;
  operands = q.operands ∙ p.operands;
}

-- an edit makes no container
pub grew_edited : (old new : Store) (j : ℕ) (e : Edit) (come : List Element) (site : ℕ) → Edited j e come site old new → GrewBy 0 old new
grew_edited old new j e come site is = record {
  containers = let n = many_set old new j (edited e come (contents_at old j)) is.containers in omega arith;
  variables = (held_moved _ old new is.moved).0;
  operands = (held_moved _ old new is.moved).1;
}

-- as many elements more as come, where none goes
pub size_edited : (old new : Store) (j : ℕ) (e : Edit) (come : List Element) (site : ℕ) → Edited j e come site old new
    → j < length old.containers.items → e.gone ≡ 0 → e.from ≤ length (elements_at old j)
    → length (elements_at new j) ≡ length (elements_at old j) + length come
size_edited old new j e come site is low none within =
    let es : List Element = elements_at old j in
    let a : length (take e.from es ++ (come ++ drop e.gone (drop e.from es)))
    ≡ length (take e.from es) + length (come ++ drop e.gone (drop e.from es)) =
    length-append (take e.from es) (come ++ drop e.gone (drop e.from es)) in
    let b : length (come ++ drop e.gone (drop e.from es)) ≡ length come + length (drop e.gone (drop e.from es)) =
    length-append come (drop e.gone (drop e.from es)) in
    let c : length (take e.from es) ≡ e.from = length-take-le e.from es within in
    let d : length (drop e.gone (drop e.from es)) ≡ length (drop e.from es) - e.gone = length-drop e.gone (drop e.from es) in
    let f : length (drop e.from es) ≡ length es - e.from = length-drop e.from es in
    let g : length (elements_at new j) ≡ length (take e.from es ++ (come ++ drop e.gone (drop e.from es))) =
    ap (λ (x : Plain). length x.elements) (contents_set old new j (edited e come (contents_at old j)) is.containers low) in
    omega arith

-- so does a container that is put together anew
pub grew_rearranged : (old new : Store) (by : Rearrangement) → Rearranged by old new → GrewBy 0 old new
grew_rearranged old new by is = record {
  containers = let n = many_set old new by.container (rearranged by (contents_at old by.container)) is.containers in omega arith;
  variables = (held_moved _ old new is.moved).0;
  operands = (held_moved _ old new is.moved).1;
}

-- so do two that exchange elements
pub grew_traded : (old new : Store) (by : Trade) → Traded by old new → GrewBy 0 old new
grew_traded old new by is = record {
  containers =
      let n : length (map contents new.containers.items) ≡ length (map contents old.containers.items) =
      ap (λ (l : List Plain). length l) is.containers
      ∙ (length-set (slice_set (map contents old.containers.items) by.first.container _) by.second.container _
      ∙ length-set (map contents old.containers.items) by.first.container _) in
      let a = length-map new.containers.items contents in
      let b = length-map old.containers.items contents in
      omega arith;
  variables = (held_moved _ old new is.moved).0;
  operands = (held_moved _ old new is.moved).1;
}

-- a container that is made is one more
pub grew_made : (old new : Store) (form : Form) (room : ℕ) (es : List Element) → Made form room es old new → GrewBy 1 old new
grew_made old new form room es is = record {
  containers = sym (length-map new.containers.items contents)
      ∙ (ap (λ (l : List Plain). length l) is.containers
      ∙ (length_push (map contents old.containers.items) (record { form = form; elements = es; room = room })
      ∙ ap (λ (n : ℕ). n + 1) (length-map old.containers.items contents)));
  variables = ap (λ (l : List Pointer). length l) is.pointers;
  operands = ap (λ (l : List Value). length l) is.operands;
}

-- it has an element for each source
pub size_rearranged : (old new : Store) (by : Rearrangement) → Rearranged by old new → by.container < length old.containers.items
    → length (elements_at new by.container) ≡ length by.sources.items
size_rearranged old new by is low =
    ap (λ (x : Plain). length x.elements) (contents_set old new by.container (rearranged by (contents_at old by.container)) is.containers low)
    ∙ length-map by.sources.items (element_from (elements_at old by.container) (elements_at old by.container))

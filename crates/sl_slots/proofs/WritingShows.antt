-- A store in which a number was written shows the memory in which it was.
use Rattle.std.proofs.Common.{◌≡◌, ℕ, zero, suc, ◌<◌, Bool, true, false, List, [], ◌∷◌, Option, Some, None, length, map, refl, ap, sym, ◌∙◌, ℤ, subst}
use Rattle.std.proofs.Common.{if◌then◌else◌, arith, ◌≤◌}
use Rattle.std.specs.List.{slice_get, slice_set}
use Rattle.std.specs.Option.{option_map}
use Rattle.std.proofs.lemmas.Option.{slice_get-map}
use Rattle.sl_base.specs.declared.form.Form.{Form}
use Rattle.sl_base.specs.declared.scalar.Scalar.TheVariants as t
use Rattle.sl_model.specs.Numbers.{converted}
use Rattle.sl_model.specs.Memory.Containers.{Cell, Cont, Memory, Part, key_part, value_part, stamps, refers, cont_at, with_part, is_writable, cells_with, cont_with}
use Rattle.sl_model.specs.Memory.Containers.{write_element}
use Rattle.sl_model.specs.Runs.State.{Pointer}
use Rattle.sl_model.specs.LibraryCalls.Values.{Value}
use Rattle.sl_model.proofs.Getting.{map_set}
use Rattle.sl_model.proofs.Writing.{HaveSameMarks, cont_with-same, same-sound}
use Rattle.sl_slots.specs.declared.slot.Part.{Part as PartCode}
use Rattle.sl_slots.specs.declared.container.Container.{Container}
use Rattle.sl_slots.specs.declared.container.Element.{Element}
use Rattle.sl_slots.specs.declared.store.Store.{Store}
use Rattle.sl_slots.specs.Shown.{Plain, plain, contents, element_of, part_code, slot_in, Holds}
use Rattle.sl_slots.specs.Stored.{contents_at, elements_at, is_open, with_number, written, Written}
use Rattle.sl_slots.proofs.Following.{SlotsFollow, still_holds}
use Rattle.sl_slots.proofs.ReadingShows.{contents_shown, contents-there}

-- to set what is there changes nothing
set_there : {A : Type 0} (xs : List A) (j : ℕ) (x : A) → slice_get xs j ≡ Some x → slice_set xs j x ≡ xs
set_there [] j x h = refl
set_there (y ∷ xs) zero x h = let e : y ≡ x = cc in ap (λ z. z ∷ xs) (sym e)
set_there (y ∷ xs) (suc j) x h = ap (λ l. y ∷ l) (set_there xs j x h)

-- a number is written in a cell as in its element
part_written : (which : Part) (z : ℤ) (y : Cell) → element_of (with_part which z y) ≡ with_number (part_code which) z (element_of y)
part_written key_part z y = refl
part_written value_part z y = refl

open_writable : (form : Form) (which : Part) → is_open form (part_code which) ≡ is_writable form which
open_writable form key_part = refl
open_writable form value_part = refl

-- the elements of a container in which a number was written
cont_written : (c : Cont) (k : ℕ) (which : Part) (z : ℤ) (x : Element) → slice_get (map element_of c.cells) k ≡ Some x
    → slice_set (map element_of c.cells) k (written c.form (part_code which) (converted t.Int z) x) ≡ map element_of (cont_with c k which z).cells
cont_written c k which z x at = by_form (is_writable c.form which) (open_writable c.form which)
  where
    by_cell : (o : Option Cell) → slice_get c.cells k ≡ o
        → slice_set (map element_of c.cells) k (with_number (part_code which) (converted t.Int z) x)
        ≡ map element_of (elim o as (λ _. List Cell) [ None ↦ c.cells | Some y ↦ slice_set c.cells k (with_part which (converted t.Int z) y) ])
    by_cell None q = absurd (let r : Some x ≡ None = sym at ∙ (slice_get-map element_of c.cells k ∙ ap (option_map element_of) q) in cc)
    by_cell (Some y) q =
        let r : Some x ≡ Some (element_of y) = sym at ∙ (slice_get-map element_of c.cells k ∙ ap (option_map element_of) q) in
        let e : x ≡ element_of y = cc in
        ap (λ (w : Element). slice_set (map element_of c.cells) k (with_number (part_code which) (converted t.Int z) w)) e
        ∙ (ap (slice_set (map element_of c.cells) k) (sym (part_written which (converted t.Int z) y))
        ∙ sym (map_set element_of c.cells k (with_part which (converted t.Int z) y)))

    by_form : (b : Bool) → is_open c.form (part_code which) ≡ b
        → slice_set (map element_of c.cells) k (if is_open c.form (part_code which) then with_number (part_code which) (converted t.Int z) x else x)
        ≡ map element_of (if b then record c { cells = cells_with c.cells k which z } else c).cells
    by_form true q = ap (λ (b : Bool). slice_set (map element_of c.cells) k (if b then with_number (part_code which) (converted t.Int z) x else x)) q
        ∙ by_cell (slice_get c.cells k) refl
    by_form false q = ap (λ (b : Bool). slice_set (map element_of c.cells) k (if b then with_number (part_code which) (converted t.Int z) x else x)) q
        ∙ set_there (map element_of c.cells) k x at

-- the form and the room stay
form_stays : (c : Cont) (k : ℕ) (which : Part) (z : ℤ) → ((cont_with c k which z).form ≡ c.form) × ((cont_with c k which z).room ≡ c.room)
form_stays c k which z = by_form (is_writable c.form which)
  where
    by_form : (b : Bool) → ((if b then record c { cells = cells_with c.cells k which z } else c).form ≡ c.form)
        × ((if b then record c { cells = cells_with c.cells k which z } else c).room ≡ c.room)
    by_form true = (refl, refl)
    by_form false = (refl, refl)

-- a column of a memory in which a container is replaced by one with the same marks
same_column : (f : Cont → List ℕ) (conts : List Cont) (j : ℕ) (c d : Cont) → slice_get conts j ≡ Some c → f d ≡ f c
    → map f (slice_set conts j d) ≡ map f conts
same_column f conts j c d there e =
    map_set f conts j d ∙ (ap (slice_set (map f conts) j) e ∙ (sym (map_set f conts j c) ∙ ap (map f) (set_there conts j c there)))

module _ (old new : Store) (j k : ℕ) (x : Element) (part : PartCode) (number : ℤ) (is : Written j k x part number old new)
    (low : j < length old.containers.items) (at : slice_get (elements_at old j) k ≡ Some x)
    (m : Memory) (ps : List Pointer) (vs : List Value) (which : Part) (z : ℤ) (same_part : part_code which ≡ part)
    (same : converted t.Int z ≡ number) (h : Holds old m ps vs) where
  abbrev c : Cont
  c = cont_at m j

  abbrev d : Cont
  d = cont_with (cont_at m j) k which z

  there : slice_get m.conts j ≡ Some (cont_at m j)
  there = (contents_shown old m ps vs h j low).0

  shown : contents_at old j ≡ plain (cont_at m j)
  shown = (contents_shown old m ps vs h j low).1

  abbrev after : Memory
  after = record m { conts = slice_set m.conts j (cont_with (cont_at m j) k which z) }

  marks : HaveSameMarks d c
  marks = cont_with-same (cont_at m j) k which z

  none_less : (n : ℕ) → n ≤ n
  none_less n = omega arith

  write_as : write_element m j k which z ≡ record m { conts = slice_set m.conts j (cont_with (cont_at m j) k which z) }
  write_as = ap (λ (o : Option Cont). elim o as (λ _. Memory) [ None ↦ m | Some y ↦ record m { conts = slice_set m.conts j (cont_with y k which z) } ]) there

  follow : SlotsFollow m after (λ s. s) (λ s. s)
  follow = record {
    iterators = λ s used. ap (λ l. slot_in l m.graves s) (same_column (λ (y : Cont). stamps y) m.conts j c d there marks.stamps_same);
    references = λ s used. ap (λ l. slot_in l m.lost s) (same_column (λ (y : Cont). refers y) m.conts j c d there marks.refers_same);
  }

  abbrev changed : Plain → ℤ → PartCode → Plain
  changed q n p = record q { elements = slice_set q.elements k (written q.form p n x) }

  abbrev as_plain : Form → List Element → ℕ → Plain
  as_plain form es room = record { form = form; elements = es; room = room }

  shown_after : map contents new.containers.items ≡ map plain after.conts
  shown_after = is.containers
      ∙ (ap (λ (q : Plain). slice_set (map contents old.containers.items) j (changed q number part)) shown
      ∙ (ap (λ (n : ℤ). slice_set (map contents old.containers.items) j (changed (plain c) n part)) (sym same)
      ∙ (ap (λ (p : PartCode). slice_set (map contents old.containers.items) j (changed (plain c) (converted t.Int z) p)) (sym same_part)
      ∙ (ap (λ (es : List Element). slice_set (map contents old.containers.items) j (as_plain c.form es c.room))
      (cont_written c k which z x (sym (ap (λ (q : Plain). slice_get q.elements k) shown) ∙ at))
      ∙ (ap (λ (form : Form). slice_set (map contents old.containers.items) j (as_plain form (map element_of d.cells) c.room))
      (sym (form_stays c k which z).0)
      ∙ (ap (λ (room : ℕ). slice_set (map contents old.containers.items) j (as_plain d.form (map element_of d.cells) room))
      (sym (form_stays c k which z).1)
      ∙ (ap (λ (l : List Plain). slice_set l j (plain d)) h.shows.containers ∙ sym (map_set plain m.conts j d))))))))

  -- a store in which a number was written shows the memory in which it was
  pub written_holds : Holds new (write_element m j k which z) ps vs
  written_holds = subst (λ u. Holds new u ps vs) (sym write_as) (still_holds old new m after ps vs h is.pointers is.operands
      (same-sound m j c d there marks h.sound) (none_less m.fresh) follow shown_after)

-- the container of the store in which an element was replaced
pub write_contents : (old : Store) (j k : ℕ) (c : Container) (x y : Element) (part : PartCode) (z : ℤ) → slice_get old.containers.items j ≡ Some c
    → y ≡ written (contents_at old j).form part z x → ◌≡◌ {A = Plain} (record { form = c.form; elements = slice_set c.elements.items k y; room = c.room })
    (record (contents_at old j) { elements = slice_set (elements_at old j) k (written (contents_at old j).form part z x) })
write_contents old j k c x y part z there e =
    ap (λ (q : Plain). record q { elements = slice_set q.elements k y }) (sym (contents-there old j c there))
    ∙ ap (λ (w : Element). record (contents_at old j) { elements = slice_set (elements_at old j) k w }) e

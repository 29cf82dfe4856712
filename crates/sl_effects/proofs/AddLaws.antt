-- A new key that comes between elements that stay in their order, as an edit.
use Rattle.std.proofs.Common.{◌≡◌, ℕ, ◌+◌, ◌-◌, ◌<◌, ◌≤◌, List, [], ◌∷◌, ◌++◌, length, take, drop, map, ap, sym, ◌∙◌, arith, ℤ, subst}
use Rattle.std.proofs.lemmas.List.{take-map, drop-map}
use Rattle.sl_base.specs.declared.limits.TheConstants.{ELEMENTS}
use Rattle.sl_specs.specs.declared.class.Class.{Class}
use Rattle.sl_model.specs.Memory.Classes.{kills, loses}
use Rattle.sl_model.specs.Memory.Containers.{Cont, Memory, cont_at, size}
use Rattle.sl_model.specs.Memory.Edits.{Source, old, new, Change, change_of, after, numbers, olds}
use Rattle.sl_model.specs.Memory.Schedule.{put_at}
use Rattle.sl_model.specs.Runs.State.{Pointer}
use Rattle.sl_model.specs.LibraryCalls.Values.{Value}
use Rattle.sl_model.specs.LibraryCalls.Effects.{key_change, key_edit, key_order, key_place, key_room}
use Rattle.sl_model.proofs.FairRearrangements.{key_change-fair}
use Rattle.sl_model.proofs.Places.{CountsFair}
use Rattle.sl_slots.specs.declared.edit.Edit.{Edit}
use Rattle.sl_slots.specs.declared.container.Element.{Element}
use Rattle.sl_slots.specs.declared.store.Store.{Store}
use Rattle.sl_slots.specs.Shown.{Holds, new_element}
use Rattle.sl_slots.specs.Stored.{elements_at}
use Rattle.sl_effects.proofs.AppendLaws.{EditShows}
use Rattle.sl_effects.proofs.Stores.{shown_size}
use Rattle.sl_effects.proofs.Turns.{take_numbers, drop_numbers}

-- old elements in turn, with one put in at place p
olds_put : (p n : ℕ) (s : Source) → p ≤ n → olds 0 p ++ (s ∷ olds (p + 0) (n - (p + 0))) ≡ put_at p s (olds 0 n)
olds_put p n s low =
    let zero_more : p + 0 ≡ p = omega arith in
    let from_zero : 0 + p ≡ p = omega arith in
    let front : olds 0 p ≡ take p (olds 0 n) =
    ap (map (λ (k : ℕ). old k)) (sym (take_numbers p n 0 low)) ∙ sym (take-map (λ (k : ℕ). old k) p (numbers 0 n)) in
    let back : olds p (n - p) ≡ drop p (olds 0 n) =
    ap (λ (i : ℕ). olds i (n - p)) (sym from_zero)
    ∙ (ap (map (λ (k : ℕ). old k)) (sym (drop_numbers p n 0 low)) ∙ sym (drop-map (λ (k : ℕ). old k) p (numbers 0 n))) in
    ap (λ (i : ℕ). olds 0 p ++ (s ∷ olds i (n - i))) zero_more
    ∙ (ap (λ (l : List Source). l ++ (s ∷ olds p (n - p))) front
    ∙ ap (λ (l : List Source). take p (olds 0 n) ++ (s ∷ l)) back)

-- the change by which a new key comes is that of an edit
pub key_change-edit : (class : Class) (c : Cont) (x : ℤ × ℤ) (picks : List ℕ) → key_order c picks ≡ numbers 0 (size c)
    → key_place c x.0 picks ≤ size c → change_of class c (key_edit c x picks) ≡ key_change class c x picks
key_change-edit class c x picks in_turn low =
    ap (λ (ss : List Source). as_change ss)
    (olds_put (key_place c x.0 picks) (size c) (new x.0 x.1) low
    ∙ ap (λ (l : List ℕ). put_at (key_place c x.0 picks) (new x.0 x.1) (map (λ (k : ℕ). old k) l)) (sym in_turn))
  where
    as_change : List Source → Change
    as_change ss = record {
      kill = kills class (size c) c.room (key_edit c x picks);
      lose = loses class (size c) c.room (key_edit c x picks);
      sources = ss;
      room = key_room c picks;
    }

-- a store in which an element came in by that edit shows the memory with the new key
pub add_shows : (old_store new_store : Store) (j site : ℕ) (code : Edit) (element : Element)
    → EditShows old_store new_store j code (element ∷ []) site
    → j < length old_store.containers.items → code.from ≤ length (elements_at old_store j) → code.gone ≡ 0
    → (m : Memory) (ps : List Pointer) (vs : List Value) (x : ℤ × ℤ) (picks : List ℕ) → new_element x ≡ element → size (cont_at m j) + 1 ≤ ELEMENTS
    → key_order (cont_at m j) picks ≡ numbers 0 (size (cont_at m j)) → code.from ≡ key_place (cont_at m j) x.0 picks
    → code.room ≡ key_room (cont_at m j) picks → Holds old_store m ps vs
    → Holds new_store (after (key_change code.class (cont_at m j) x picks) m j (cont_at m j) site) ps vs
add_shows old_store new_store j site code element shows there within none m ps vs x picks is few in_turn from room h =
    subst (λ (ch : Change). Holds new_store (after ch m j c site) ps vs) same
    (shows m ps vs (key_edit c x picks) (record {
      from = sym from;
      gone = sym none;
      come_in = ap (λ (y : Element). y ∷ []) is;
      room = sym room;
    }) (subst (λ (ch : Change). CountsFair c ch) (sym same) (key_change-fair code.class c x picks few)) h)
  where
    c : Cont
    c = cont_at m j

    low : key_place c x.0 picks ≤ size c
    low =
        let a : code.from ≡ key_place c x.0 picks = from in
        let b : length (elements_at old_store j) ≡ size c = shown_size old_store m ps vs h j there in
        omega arith

    same : change_of code.class c (key_edit c x picks) ≡ key_change code.class c x picks
    same = key_change-edit code.class c x picks in_turn low

-- Numbers that come one by one at the end of a sequence.
use Rattle.std.proofs.Common.{◌≡◌, ℕ, suc, ◌+◌, ◌-◌, ◌<◌, ◌≤◌, List, [], ◌∷◌, length, map, drop, get_or, refl, ap, sym, ◌∙◌, arith, ℤ, subst}
use Rattle.std.proofs.lemmas.List.{at_drop_more, length-map, get_or-map, drop_all}
use Rattle.sl_base.specs.declared.limits.TheConstants.{ELEMENTS}
use Rattle.sl_base.specs.declared.scalar.Scalar.TheVariants as t
use Rattle.sl_specs.specs.declared.class.Class.{Class}
use Rattle.sl_model.specs.Numbers.{converted}
use Rattle.sl_model.specs.Memory.Classes.{Edit as EditData, Fits}
use Rattle.sl_model.specs.Memory.Containers.{Cont, Memory, cont_at, size}
use Rattle.sl_model.specs.Memory.Edits.{change_of, after}
use Rattle.sl_model.specs.Memory.Schedule.{after_picks}
use Rattle.sl_model.specs.Runs.State.{Pointer}
use Rattle.sl_model.specs.LibraryCalls.Values.{Value}
use Rattle.sl_model.specs.LibraryCalls.Situation.{item}
use Rattle.sl_model.specs.LibraryCalls.Effects.{Left, insertion_class, insertion, picks_with, append, append_all}
use Rattle.sl_model.proofs.AfterEdit.{size_at-after}
use Rattle.sl_model.proofs.FairChanges.{edit-fair}
use Rattle.sl_model.proofs.Places.{CountsFair}
use Rattle.sl_slots.specs.declared.edit.Edit.{Edit}
use Rattle.sl_slots.specs.declared.container.Element.{Element}
use Rattle.sl_slots.specs.declared.store.Store.{Store}
use Rattle.sl_slots.specs.Shown.{Holds, new_element}
use Rattle.sl_slots.specs.Stored.{IsEdit}
use Rattle.sl_effects.specs.declared.picks.Picks.{Picks}
use Rattle.sl_effects.specs.Carried.{left_in, Carries}
use Rattle.sl_effects.specs.Means.Endings.{IsEndInsertion}
use Rattle.sl_effects.proofs.Stores.{shown_there}

-- what an edit of a store shows
abbrev pub EditShows : Store → Store → ℕ → Edit → List Element → ℕ → Type 0
EditShows old new j code come site =
    (m : Memory) (ps : List Pointer) (vs : List Value) (e : EditData) → IsEdit e code come
    → CountsFair (cont_at m j) (change_of code.class (cont_at m j) e) → Holds old m ps vs
    → Holds new (after (change_of code.class (cont_at m j) e) m j (cont_at m j) site) ps vs

-- ## One number

-- the edit by which it comes
abbrev pub end_edit : Cont → ℤ → List ℕ → EditData
end_edit c x picks = insertion c (size c) (item x ∷ []) picks

-- it is one at the end
end_fits : (c : Cont) (x : ℤ) (picks : List ℕ) → Fits (end_edit c x picks) (size c)
end_fits c x picks = at_end (size c)
  where
    at_end : (n : ℕ) → n + 0 ≤ n
    at_end n = omega arith

-- none goes, so it is fair
end_fair : (class : Class) (c : Cont) (x : ℤ) (picks : List ℕ) → size c + 1 ≤ ELEMENTS → CountsFair c (change_of class c (end_edit c x picks))
end_fair class c x picks few = edit-fair class c (end_edit c x picks) (end_fits c x picks) (λ k low high. absurd (none_goes (size c) k low high))
    (let l : length (item x ∷ []) ≡ 1 = refl in omega arith)
  where
    none_goes : (n k : ℕ) → n ≤ k → k < n + 0 → ⊥
    none_goes n k low high = omega arith

-- the store shows it
pub append_carries : (old new : Store) (before later : Picks) (j site : ℕ) (code : Edit) (element : Element) (left : Left) (ps : List Pointer)
    (vs : List Value) (x : ℤ) → EditShows old new j code (element ∷ []) site → IsEndInsertion code (cont_at left.memory j) left.picks
    → left_in later ≡ after_picks (picks_with (cont_at left.memory j).form (cont_at left.memory j) 1) left.picks → new_element (item x) ≡ element
    → size (cont_at left.memory j) + 1 ≤ ELEMENTS → Carries old before left ps vs
    → Carries new later (append site j (cont_at left.memory j) x left) ps vs
append_carries old new before later j site code element left ps vs x shows at_end taken is few h = record {
  holds = subst (λ (k : Class). Holds new (after (change_of k c (end_edit c x left.picks)) left.memory j c site) ps vs) at_end.class
      (shows left.memory ps vs (end_edit c x left.picks) (record {
        from = sym at_end.from;
        gone = sym at_end.gone;
        come_in = ap (λ (y : Element). y ∷ []) is;
        room = sym at_end.room;
      }) (end_fair code.class c x left.picks few) h.holds);
  schedule = taken;
}
  where
    c : Cont
    c = cont_at left.memory j

-- one element more is there
appended_size : (j site : ℕ) (left : Left) (x : ℤ) (st : Store) (picks : Picks) (ps : List Pointer) (vs : List Value) → Carries st picks left ps vs
    → j < length st.containers.items
    → size (cont_at (append site j (cont_at left.memory j) x left).memory j) ≡ size (cont_at left.memory j) + 1
appended_size j site left x st picks ps vs h low =
    size_at-after (insertion_class (cont_at left.memory j).form) left.memory j (cont_at left.memory j)
    (end_edit (cont_at left.memory j) x left.picks) site
    (shown_there st left.memory ps vs h.holds j low) (end_fits (cont_at left.memory j) x left.picks)
    ∙ one_more (size (cont_at left.memory j))
  where
    one_more : (n : ℕ) → (n + length (item x ∷ [])) - 0 ≡ n + 1
    one_more n = let l : length (item x ∷ []) ≡ 1 = refl in omega arith

-- ## Many

-- The store carries what is left after the first i of these numbers: what the others then do is what all do.
pub record AppendsFrom (site j : ℕ) (xs : List ℤ) (left : Left) (i : ℕ) (st : Store) (picks : Picks) (ps : List Pointer)
    (vs : List Value) : Type 0 where
  pub mid : Left
  pub carried : Carries st picks mid ps vs
  pub rest : append_all site j (drop i xs) mid ≡ append_all site j xs left
  pub few : size (cont_at mid.memory j) + length (drop i xs) ≤ ELEMENTS

-- what one append shows
abbrev pub AppendShows : Store → Picks → Store → Picks → ℕ → ℕ → ℤ → Type 0
AppendShows old before new later j site number =
    (left : Left) (ps : List Pointer) (vs : List Value) (x : ℤ) → converted t.Int x ≡ number → size (cont_at left.memory j) + 1 ≤ ELEMENTS
    → Carries old before left ps vs → Carries new later (append site j (cont_at left.memory j) x left) ps vs

-- one number more
pub append_next : (site j : ℕ) (xs numbers : List ℤ) (left : Left) (i : ℕ) (old new : Store) (before later : Picks) (number d : ℤ)
    (ps : List Pointer) (vs : List Value) → AppendShows old before new later j site number → map (converted t.Int) xs ≡ numbers
    → i < length numbers → number ≡ get_or numbers i (converted t.Int d) → j < length old.containers.items
    → AppendsFrom site j xs left i old before ps vs → AppendsFrom site j xs left (i + 1) new later ps vs
append_next site j xs numbers left i old new before later number d ps vs shows all low is there r = record {
  mid = append site j (cont_at r.mid.memory j) x r.mid;
  carried = shows r.mid ps vs x same (let f = few' in omega arith) r.carried;
  rest = sym (ap (λ (l : List ℤ). append_all site j l r.mid) next) ∙ r.rest;
  few = let n = appended_size j site r.mid x old before ps vs r.carried there in let f = few' in omega arith;
}
  where
    x : ℤ
    x = get_or xs i d

    within : i < length xs
    within = let e : length (map (converted t.Int) xs) ≡ length numbers = ap (λ (l : List ℤ). length l) all in
        let l : length (map (converted t.Int) xs) ≡ length xs = length-map xs (converted t.Int) in omega arith

    next : drop i xs ≡ x ∷ drop (i + 1) xs
    next = at_drop_more (λ (l : List ℤ). l) xs i d within

    few' : size (cont_at r.mid.memory j) + (1 + length (drop (i + 1) xs)) ≤ ELEMENTS
    few' = let l : length (drop i xs) ≡ suc (length (drop (i + 1) xs)) = ap (λ (l : List ℤ). length l) next in
        let f : size (cont_at r.mid.memory j) + length (drop i xs) ≤ ELEMENTS = r.few in omega arith

    same : converted t.Int x ≡ number
    same = sym (is ∙ (sym (ap (λ (l : List ℤ). get_or l i (converted t.Int d)) all) ∙ get_or-map (converted t.Int) xs i d (converted t.Int d) within))

-- after the last
pub append_end : (site j : ℕ) (xs : List ℤ) (left : Left) (i : ℕ) (st : Store) (picks : Picks) (ps : List Pointer) (vs : List Value)
    → length xs ≤ i → AppendsFrom site j xs left i st picks ps vs → Carries st picks (append_all site j xs left) ps vs
append_end site j xs left i st picks ps vs high r = subst (λ (l : Left). Carries st picks l ps vs)
    (ap (λ (l : List ℤ). append_all site j l r.mid) (sym (drop_all i xs high)) ∙ r.rest) r.carried

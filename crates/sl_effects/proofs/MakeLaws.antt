-- A container into which keys are put when it is made.
use Rattle.std.proofs.Common.{◌≡◌, ℕ, suc, ◌+◌, ◌≤◌, Bool, true, false, List, [], ◌∷◌, ◌++◌, Option, Some, None, length, map, ap}
use Rattle.std.proofs.Common.{sym, ◌∙◌, arith, ℤ, if◌then◌else◌}
use Rattle.std.specs.List.{slice_get}
use Rattle.std.proofs.lemmas.List.{length-map}
use Rattle.sl_base.specs.declared.form.Form.{Form}
use Rattle.sl_base.specs.declared.form.Form.TheVariants.{Vector}
use Rattle.sl_base.specs.declared.limits.TheConstants.{ELEMENTS}
use Rattle.sl_base.specs.declared.scalar.Scalar.TheVariants as t
use Rattle.sl_specs.specs.declared.class.Class.{Class}
use Rattle.sl_model.specs.Numbers.{converted}
use Rattle.sl_model.specs.Memory.Containers.{Cont, Memory, cont_at, size, keys, made}
use Rattle.sl_model.specs.Memory.Forms.{holds_equal_keys}
use Rattle.sl_model.specs.Memory.Orders.{has}
use Rattle.sl_model.specs.Memory.Schedule.{after_picks}
use Rattle.sl_model.specs.Runs.State.{Pointer}
use Rattle.sl_model.specs.LibraryCalls.Values.{Value}
use Rattle.sl_model.specs.LibraryCalls.Situation.{Situation}
use Rattle.sl_model.specs.LibraryCalls.Actions.{inserts, makes_by_keys}
use Rattle.sl_model.specs.LibraryCalls.Effects.{does}
use Rattle.sl_model.specs.LibraryCalls.KeyActions.{count_new, new_keys}
use Rattle.sl_model.proofs.After.{cont_of_there}
use Rattle.sl_model.proofs.FineEffects.{IsThere, IsFine, keys_in}
use Rattle.sl_model.proofs.Getting.{get_behind}
use Rattle.sl_model.proofs.Making.{fresh_cont, made-there, fresh-size}
use Rattle.sl_slots.specs.declared.container.Element.{Element}
use Rattle.sl_slots.specs.declared.store.Store.{Store}
use Rattle.sl_slots.specs.Shown.{Plain, plain, contents, Holds}
use Rattle.sl_slots.specs.Stored.{Made, elements_at}
use Rattle.sl_effects.specs.declared.picks.Picks.{Picks}
use Rattle.sl_effects.specs.Carried.{left_in, AreKeyed, Carries, Meets}
use Rattle.sl_slots.proofs.ReadingShows.{listed, contents-listed}

-- ## How many keys come

-- no more than there are
count_most : (ks xs : List ℤ) → count_new ks xs ≤ length xs
count_most ks [] = omega arith
count_most ks (x ∷ xs) = by_test (has x ks) (count_most ks xs) (count_most (converted t.Int x ∷ ks) xs)
  where
    by_test : (b : Bool) → count_new ks xs ≤ length xs → count_new (converted t.Int x ∷ ks) xs ≤ length xs
        → (if b then count_new ks xs else 1 + count_new (converted t.Int x ∷ ks) xs) ≤ suc (length xs)
    by_test true p q = omega arith
    by_test false p q = omega arith

new_most : (c : Cont) (xs : List ℤ) → new_keys c xs ≤ length xs
new_most c xs = by_equal (holds_equal_keys c.form)
  where
    by_equal : (b : Bool) → (if b then length xs else count_new (keys c) xs) ≤ length xs
    by_equal true = omega arith
    by_equal false = count_most (keys c) xs

-- ## The container that was made

-- the memory in which a call goes on that made an empty container
abbrev pub made_empty : Form → ℕ → ℕ → Situation → Situation
made_empty form room n s = record s { memory = made form room [] s.memory; picks = after_picks n s.picks }

-- the keys that come into it are not too many
pub fine_made : (form : Form) (room n : ℕ) (class : Class) (s : Situation) (xs : List (ℤ × ℤ)) → s.object ≡ length s.memory.conts
    → length xs ≤ ELEMENTS → IsFine class (made_empty form room n s) (inserts xs)
fine_made form room n class s xs last few = (there, few')
  where
    is : cont_at (made form room [] s.memory) s.object ≡ fresh_cont form room [] s.memory
    is = ap (cont_at (made form room [] s.memory)) last
        ∙ cont_of_there (made form room [] s.memory) (length s.memory.conts) (fresh_cont form room [] s.memory) (made-there form room [] s.memory)

    there : IsThere (made form room [] s.memory) s.object
    there = ap (slice_get (made form room [] s.memory).conts) last ∙ (made-there form room [] s.memory ∙ ap (λ (c : Cont). Some c) (sym is))

    few' : size (cont_at (made form room [] s.memory) s.object) + new_keys (cont_at (made form room [] s.memory) s.object) (keys_in xs) ≤ ELEMENTS
    few' =
        let a : size (cont_at (made form room [] s.memory) s.object) ≡ 0 = ap (λ (c : Cont). size c) is ∙ fresh-size form room [] s.memory in
        let b : new_keys (cont_at (made form room [] s.memory) s.object) (keys_in xs) ≤ length (keys_in xs) =
        new_most (cont_at (made form room [] s.memory) s.object) (keys_in xs) in
        let d : length (keys_in xs) ≡ length xs = length-map xs (λ (x : ℤ × ℤ). x.0) in
        omega arith

-- as many containers in the store as in the memory
pub many_shown : (st : Store) (m : Memory) (ps : List Pointer) (vs : List Value) → Holds st m ps vs → length st.containers.items ≡ length m.conts
many_shown st m ps vs h = sym (length-map st.containers.items contents)
    ∙ (ap (λ (l : List Plain). length l) h.shows.containers ∙ length-map m.conts plain)

-- the last of these
last_listed : (l : List Plain) (p : Plain) (n : ℕ) → n ≡ length l + 0 → listed (l ++ p ∷ []) n ≡ p
last_listed l p n e = ap (listed (l ++ p ∷ [])) e
    ∙ ap (λ (o : Option Plain). elim o as (λ _. Plain) [ None ↦ record { form = Vector; elements = []; room = 0 } | Some q ↦ q ])
    (get_behind l (p ∷ []) 0)

-- the elements of the last one
pub elements_made : (old new : Store) (form : Form) (room : ℕ) (es : List Element) → Made form room es old new
    → elements_at new (length old.containers.items) ≡ es
elements_made old new form room es is =
    let n : length (map contents old.containers.items) ≡ length old.containers.items = length-map old.containers.items contents in
    ap (λ (p : Plain). p.elements)
    (contents-listed new (length old.containers.items)
    ∙ (ap (λ (l : List Plain). listed l (length old.containers.items)) is.containers
    ∙ last_listed (map contents old.containers.items) (record { form = form; elements = es; room = room })
    (length old.containers.items) (omega arith)))

-- ## What is put into it

-- what the insertions show of a call on the container that was made
pub made_carries : (st : Store) (made_store new : Store) (before taken later : Picks) (form : Form) (class : Class) (room n container site : ℕ)
    (s : Situation) (ps : List Pointer) (vs : List Value) (xs : List (ℤ × ℤ)) (es : List Element)
    → ((s : Situation) → AreKeyed xs es → IsFine class s (inserts xs) → Meets made_store taken container site s ps vs
    → Carries new later (does form class s (inserts xs)) ps vs)
    → Holds made_store (made form room [] s.memory) ps vs → left_in taken ≡ after_picks n (left_in before) → container ≡ length st.containers.items
    → AreKeyed xs es → IsFine class s (makes_by_keys n room xs) → Meets st before s.object site s ps vs
    → Carries new later (does form class s (makes_by_keys n room xs)) ps vs
made_carries st made_store new before taken later form class room n container site s ps vs xs es shows holds skipped last keyed fine h =
    shows (made_empty form room n s) keyed (fine_made form room n class s xs fine.0 fine.1) (record {
      carries = record { holds = holds; schedule = skipped ∙ ap (after_picks n) h.carries.schedule };
      on = fine.0 ∙ sym (last ∙ many_shown st s.memory ps vs h.carries.holds);
      at = h.at;
    })

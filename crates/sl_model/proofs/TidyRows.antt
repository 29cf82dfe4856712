-- What each row has to be so that keys stay in order, and what of it follows from the forms that have the row and from its operands.
use Rattle.std.proofs.Common.{◌≡◌, ℕ, zero, suc, ◌&&◌, Bool, true, false, not, IsTrue, List, [], ◌∷◌, Option, Some, None, map, refl, ap, sym, ◌∙◌}
use Rattle.std.proofs.Common.{subst, if◌then◌else◌, ℤ, option_map, replicate}
use Rattle.std.specs.Prelude.{find, slice_index_or}
use Rattle.std.specs.List.{slice_get}
use Rattle.std.proofs.lemmas.Bool.{not-true}
use Rattle.sl_base.specs.declared.form.Form.{Form}
use Rattle.sl_base.specs.declared.form.Form.TheVariants as f
use Rattle.sl_base.specs.declared.scalar.Scalar.TheVariants as t
use Rattle.sl_specs.specs.declared.class.Class.{Class}
use Rattle.sl_specs.specs.Forms.{same_form, is_keyed}
use Rattle.sl_specs.specs.Rows.{Line, row_of as row_of_line, class_on}
use Rattle.sl_model.specs.Memory.Containers.{Cell, Cont, Memory, cont_at, keys, items}
use Rattle.sl_model.specs.Numbers.{converted, fits}
use Rattle.sl_model.specs.LibraryCalls.Needs.{first_failure}
use Rattle.sl_model.specs.LibraryCalls.Operands.{Sort, a_writer, is_of, are_of, is_sequence, stands_in_sequence}
use Rattle.sl_model.specs.Memory.Orderly.{may_precede, Each, AreInOrder, HoldsInts, IsOrderlyCont, IsOrderly}
use Rattle.sl_model.specs.Memory.Schedule.{scattered, after_picks}
use Rattle.sl_model.specs.LibraryCalls.Situation.{Situation, argument, place_in, place_of, container_of, their, index, number_in}
use Rattle.sl_model.specs.LibraryCalls.Situation.{item, as_items, listed, range_keys}
use Rattle.sl_model.specs.LibraryCalls.Values.{Value, nothing, number, iterator, pair, two, scalar_at, container_at, element_at}
use Rattle.sl_model.specs.LibraryCalls.Actions.{never}
use Rattle.sl_model.specs.LibraryCalls.MakeActions.{filled, copy_items}
use Rattle.sl_model.specs.LibraryCalls.Rows.{Row, member_row}
use Rattle.sl_model.specs.LibraryCalls.Library.{form_of}
use Rattle.sl_model.proofs.After.{cont_of_there, cont_of_none}
use Rattle.sl_model.proofs.AlgorithmsTell.{container_there}
use Rattle.sl_model.proofs.AsInts.{converted-fits, converted-same}
use Rattle.sl_model.proofs.Called.{IsCalled, one_form}
use Rattle.sl_model.proofs.KeysAfter.{any_order, hash-turns}
use Rattle.sl_model.proofs.OrderlyEffects.{HasIntKey, IsTidy}
use Rattle.sl_model.proofs.Pairs.{each-map, each-weaker, each-take, each-drop, pairs-map, pairs-mapped, pairs-scattered}
use Rattle.sl_model.proofs.Passing.{first_of_both, second_of_both}

-- a row's effect is tidy wherever it is called in an orderly memory, its needs hold and nothing stops it
abbrev pub RowIsTidy : Row → Type 0
RowIsTidy r = (s : Situation) → IsOrderly s.memory → IsCalled r s → first_failure (r.fails s) ≡ None → r.action.stops s ≡ never
    → IsTidy (form_of r.object s) s (r.action.effect s)

-- ## The forms that have a line

-- each of these forms has no keys
abbrev pub all_free : List (Form × Class) → Bool
all_free [] = true
all_free (x ∷ xs) = not (is_keyed x.0) && all_free xs

-- a line of the table is tidy on each form that has it, which has no keys where none of them has
abbrev pub LineIsTidy : Line → Type 0
LineIsTidy x = (form : Form) (class : Class) → (all_free x.classes ≡ true → is_keyed form ≡ false)
    → RowIsTidy (member_row form (row_of_line (Some form) x class))

-- so a form that has such a line has none
pub free_form : (form : Form) (class : Class) (xs : List (Form × Class)) → class_on form xs ≡ Some class → all_free xs ≡ true
    → is_keyed form ≡ false
free_form form class [] e h = absurd (cc)
free_form form class (x ∷ xs) e h =
    by_form (same_form x.0 form) refl e (first_of_both (not (is_keyed x.0)) (all_free xs) h)
    (second_of_both (not (is_keyed x.0)) (all_free xs) h) (free_form form class xs)
  where
    by_form : (b : Bool) → same_form x.0 form ≡ b
        → option_map (λ (y : Form × Class). y.1) (if b then Some x else find (λ (y : Form × Class). same_form y.0 form) xs) ≡ Some class
        → not (is_keyed x.0) ≡ true → all_free xs ≡ true → (class_on form xs ≡ Some class → all_free xs ≡ true → is_keyed form ≡ false)
        → is_keyed form ≡ false
    by_form true t e h k rest = subst (λ g. is_keyed g ≡ false) (one_form x.0 form t) (not-true (is_keyed x.0) h)
    by_form false t e h k rest = rest e k

-- ## Elements that are ints

-- the elements of a container
pub any_ints : (m : Memory) (j : ℕ) → IsOrderly m → Each HoldsInts (cont_at m j).cells
any_ints m j orderly = by_cont (slice_get m.conts j) refl
  where
    by_cont : (o : Option Cont) → slice_get m.conts j ≡ o → Each HoldsInts (cont_at m j).cells
    by_cont None e = subst (λ (c : Cont). Each HoldsInts c.cells) (sym (cont_of_none m j e)) tt
    by_cont (Some c) e = subst (λ (d : Cont). Each HoldsInts d.cells) (sym (cont_of_there m j c e)) (orderly j c e).ints

-- the keys of a range
pub range-ints : (s : Situation) (a : ℕ) → IsOrderly s.memory → Each HasIntKey (as_items (range_keys s a))
range-ints s a orderly = each-map HasIntKey item (range_keys s a)
    (each-take (λ z. IsTrue (fits t.Int z)) _ _ (each-drop (λ z. IsTrue (fits t.Int z)) (index s a) (keys (their s a))
    (each-map (λ z. IsTrue (fits t.Int z)) (λ (x : Cell). x.key) (their s a).cells
    (each-weaker HoldsInts (λ (x : Cell). IsTrue (fits t.Int x.key)) (their s a).cells (λ x h. h.0) (any_ints s.memory (container_of s a) orderly)))))

-- the numbers of a list
pub listed-ints : (vs : List Value) → Each HasIntKey (listed vs)
listed-ints [] = tt
listed-ints (v ∷ vs) = (converted-fits (number_in v), listed-ints vs)

-- equal elements
pub repeated-ints : (n : ℕ) (z : ℤ) → IsTrue (fits t.Int z) → Each HasIntKey (replicate n (item z))
repeated-ints zero z h = tt
repeated-ints (suc n) z h = (h, repeated-ints n z h)

-- ## New containers

-- elements that are put in
pub filled-tidy : (form : Form) (s : Situation) (xs : List (ℤ × ℤ)) → Each HasIntKey xs → IsTidy form s (filled form xs s.picks)
filled-tidy f.Vector s xs h = any_order f.Vector (map (λ (x : ℤ × ℤ). converted t.Int x.0) xs) refl
filled-tidy f.Deque s xs h = any_order f.Deque (map (λ (x : ℤ × ℤ). converted t.Int x.0) xs) refl
filled-tidy f.List s xs h = any_order f.List (map (λ (x : ℤ × ℤ). converted t.Int x.0) xs) refl
filled-tidy f.Set s xs h = h
filled-tidy f.Map s xs h = h
filled-tidy f.HashSet s xs h = h
filled-tidy f.HashMap s xs h = h
filled-tidy f.MultiSet s xs h = h
filled-tidy f.MultiMap s xs h = h

-- the keys of a container's elements, which are ints
item_keys : (cells : List Cell) → Each HoldsInts cells
    → map (λ (x : ℤ × ℤ). converted t.Int x.0) (map (λ (x : Cell). (x.key, x.value)) cells) ≡ map (λ (x : Cell). x.key) cells
item_keys [] h = refl
item_keys (x ∷ xs) h =
    ap (λ z. z ∷ map (λ (y : ℤ × ℤ). converted t.Int y.0) (map (λ (y : Cell). (y.key, y.value)) xs)) (converted-same x.key h.0.0)
    ∙ ap (λ l. x.key ∷ l) (item_keys xs h.1)

-- a copy in the order of the container
copy-order : (form : Form) (c : Cont) → IsOrderlyCont c → c.form ≡ form → AreInOrder form (map (λ (x : ℤ × ℤ). converted t.Int x.0) (items c))
copy-order form c h e = subst (AreInOrder form) (sym (item_keys c.cells h.ints)) (subst (λ g. AreInOrder g (keys c)) e h.order)

-- and one in a picked order
hash_copy-order : (form : Form) (c : Cont) (picks : List ℕ) → ((x y : ℤ) → IsTrue (may_precede form x y) → IsTrue (may_precede form y x))
    → IsOrderlyCont c → c.form ≡ form → AreInOrder form (map (λ (x : ℤ × ℤ). converted t.Int x.0) (scattered picks (items c)))
hash_copy-order form c picks turns h e =
    pairs-map (λ x y. IsTrue (may_precede form x y)) (λ (x : ℤ × ℤ). converted t.Int x.0) (scattered picks (items c))
    (pairs-scattered (λ (x y : ℤ × ℤ). IsTrue (may_precede form (converted t.Int x.0) (converted t.Int y.0)))
    (λ x y g. turns (converted t.Int x.0) (converted t.Int y.0) g) picks (items c)
    (pairs-mapped (λ x y. IsTrue (may_precede form x y)) (λ (x : ℤ × ℤ). converted t.Int x.0) (items c) (copy-order form c h e)))

-- the elements of a copy
pub copied-order : (form : Form) (c : Cont) (picks : List ℕ) → IsOrderlyCont c → c.form ≡ form
    → AreInOrder form (map (λ (x : ℤ × ℤ). converted t.Int x.0) (copy_items form (items c) picks))
copied-order f.Vector c picks h e = copy-order f.Vector c h e
copied-order f.Deque c picks h e = copy-order f.Deque c h e
copied-order f.List c picks h e = copy-order f.List c h e
copied-order f.Set c picks h e = copy-order f.Set c h e
copied-order f.Map c picks h e = copy-order f.Map c h e
copied-order f.HashSet c picks h e = hash_copy-order f.HashSet c (after_picks 1 picks) (hash-turns f.HashSet refl) h e
copied-order f.HashMap c picks h e = hash_copy-order f.HashMap c (after_picks 1 picks) (hash-turns f.HashMap refl) h e
copied-order f.MultiSet c picks h e = copy-order f.MultiSet c h e
copied-order f.MultiMap c picks h e = copy-order f.MultiMap c h e

-- ## Operands

-- a container that is a sequence has no keys
pub sequence-free : (m : Memory) (j : ℕ) → is_sequence (slice_get m.conts j) ≡ true → is_keyed (cont_at m j).form ≡ false
sequence-free m j h = by_cont (slice_get m.conts j) refl h
  where
    by_cont : (o : Option Cont) → slice_get m.conts j ≡ o → is_sequence o ≡ true → is_keyed (cont_at m j).form ≡ false
    by_cont None e g = absurd (cc)
    by_cont (Some c) e g = ap (λ (d : Cont). is_keyed d.form) (cont_of_there m j c e) ∙ not-true (is_keyed c.form) g

-- the container of an iterator that is written through and stands somewhere
pub writer-free : (s : Situation) (a : ℕ) (p : ℕ × ℕ) → is_of s.memory a_writer (argument s a) ≡ true → place_of s a ≡ Some p
    → is_keyed (cont_at s.memory (container_of s a)).form ≡ false
writer-free s a p w at =
    subst (λ (j : ℕ). is_keyed (cont_at s.memory j).form ≡ false) (sym (container_there s.memory (argument s a) p at))
    (sequence-free s.memory p.0 (by_value (argument s a) w at))
  where
    by_value : (v : Value) → is_of s.memory a_writer v ≡ true → place_in s.memory v ≡ Some p → is_sequence (slice_get s.memory.conts p.0) ≡ true
    by_value nothing w e = absurd (cc)
    by_value (number z) w e = absurd (cc)
    by_value (iterator x) w e = subst (λ (o : Option (ℕ × ℕ)). stands_in_sequence s.memory o ≡ true) e w
    by_value (pair x b) w e = absurd (cc)
    by_value (two x y) w e = absurd (cc)
    by_value (scalar_at l) w e = absurd (cc)
    by_value (container_at j) w e = absurd (cc)
    by_value (element_at i k q) w e = absurd (cc)

-- the first operand is written through
pub first_writer : (m : Memory) (sorts : List Sort) (vs : List Value) → are_of m (a_writer ∷ sorts) vs ≡ true
    → is_of m a_writer (slice_index_or vs 0 nothing) ≡ true
first_writer m sorts [] h = absurd (cc)
first_writer m sorts (v ∷ vs) h = first_of_both (is_of m a_writer v) (are_of m sorts vs) h

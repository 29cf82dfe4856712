-- A value of a store is of a sort where that of a situation is.
use Rattle.std.proofs.Common.{◌≡◌, ℕ, ◌&&◌, Bool, true, false, not, List, [], ◌∷◌, map, Option, Some, None, refl, ap, sym, ◌∙◌}
use Rattle.std.specs.List.{slice_get}
use Rattle.std.specs.Option.{option_map}
use Rattle.std.proofs.lemmas.Option.{slice_get-map}
use Rattle.sl_base.specs.declared.form.Form.{Form}
use Rattle.sl_base.specs.declared.form.Form.TheVariants as f
use Rattle.sl_specs.specs.Forms.{same_form, is_keyed}
use Rattle.sl_model.specs.Memory.Containers.{Memory, Cont, locate, killer_of}
use Rattle.sl_model.specs.LibraryCalls.Values.{Value, nothing, number, iterator, pair, two, scalar_at, container_at, element_at}
use Rattle.sl_model.specs.LibraryCalls.Operands.{Sort, a_number, numbers, perhaps_a_number, an_iterator, a_writer, a_container, a_sequence}
use Rattle.sl_model.specs.LibraryCalls.Operands.{is_of, are_of, is_number, all_numbers, is_of_form, is_sequence, stands_in_sequence, all_sorts}
use Rattle.sl_model.specs.LibraryCalls.Rows.{meaning_of}
use Rattle.sl_model.specs.LibraryCalls.Situation.{Situation}
use Rattle.sl_specs.specs.Rows.{Row}
use Rattle.sl_slots.specs.declared.container.Container.{Container}
use Rattle.sl_slots.specs.declared.slot.Value.TheVariants.{Iterator}
use Rattle.sl_slots.specs.Shown.{Plain, plain, contents, slot_from, value_of}
use Rattle.sl_arguments.specs.declared.arguments.Arguments.{Arguments}
use Rattle.sl_arguments.specs.Readings.{Reads}
use Rattle.sl_arguments.specs.Means.Sorts.{forms_of, number_test, is_form, is_sequence_form, is_shown, all_number, are_shown}

-- the forms of the memory's containers
abbrev pub forms_in : Memory → ℕ → Option Form
forms_in m j = option_map (λ (c : Cont). c.form) (slice_get m.conts j)

-- the form of contents that there may be
plain-form : (o : Option Container) → option_map (λ (c : Container). c.form) o ≡ option_map (λ (p : Plain). p.form) (option_map contents o)
plain-form None = refl
plain-form (Some c) = refl

cont-form : (o : Option Cont) → option_map (λ (c : Cont). c.form) o ≡ option_map (λ (p : Plain). p.form) (option_map plain o)
cont-form None = refl
cont-form (Some c) = refl

-- they are those of the store
pub forms_read : (cs : List Container) (m : Memory) → map contents cs ≡ map plain m.conts → (j : ℕ) → forms_of cs j ≡ forms_in m j
forms_read cs m e j = plain-form (slice_get cs j)
    ∙ (ap (option_map (λ (p : Plain). p.form))
    (sym (slice_get-map contents cs j) ∙ (ap (λ (l : List Plain). slice_get l j) e ∙ slice_get-map plain m.conts j))
    ∙ sym (cont-form (slice_get m.conts j)))

form_at : (form : Form) (o : Option Cont) → is_form (option_map (λ (c : Cont). c.form) o) form ≡ is_of_form form o
form_at form None = refl
form_at form (Some c) = refl

sequence_at : (o : Option Cont) → is_sequence_form (option_map (λ (c : Cont). c.form) o) ≡ is_sequence o
sequence_at None = refl
sequence_at (Some c) = refl

-- a value that is written through
writer_read : (g : ℕ → Option Form) (m : Memory) → ((j : ℕ) → g j ≡ forms_in m j) → (o : Option (ℕ × ℕ)) (site : Option ℕ)
    → is_shown g a_writer (Iterator (slot_from o site)) ≡ stands_in_sequence m o
writer_read g m e None site = refl
writer_read g m e (Some p) site = ap is_sequence_form (e p.0) ∙ sequence_at (slice_get m.conts p.0)

-- one value
is_read : (g : ℕ → Option Form) (m : Memory) → ((j : ℕ) → g j ≡ forms_in m j) → (sort : Sort) (v : Value)
    → is_shown g sort (value_of m v) ≡ is_of m sort v
is_read g m e a_writer (iterator s) = writer_read g m e (locate m s) (killer_of s m.graves)
is_read g m e (a_container form) (container_at j) = ap (λ (o : Option Form). is_form o form) (e j) ∙ form_at form (slice_get m.conts j)
is_read g m e a_sequence (container_at j) = ap is_sequence_form (e j) ∙ sequence_at (slice_get m.conts j)
is_read g m e a_number nothing = refl
is_read g m e a_number (number z) = refl
is_read g m e a_number (iterator s) = refl
is_read g m e a_number (pair s b) = refl
is_read g m e a_number (two s t) = refl
is_read g m e a_number (scalar_at l) = refl
is_read g m e a_number (container_at j) = refl
is_read g m e a_number (element_at j k part) = refl
is_read g m e numbers nothing = refl
is_read g m e numbers (number z) = refl
is_read g m e numbers (iterator s) = refl
is_read g m e numbers (pair s b) = refl
is_read g m e numbers (two s t) = refl
is_read g m e numbers (scalar_at l) = refl
is_read g m e numbers (container_at j) = refl
is_read g m e numbers (element_at j k part) = refl
is_read g m e perhaps_a_number nothing = refl
is_read g m e perhaps_a_number (number z) = refl
is_read g m e perhaps_a_number (iterator s) = refl
is_read g m e perhaps_a_number (pair s b) = refl
is_read g m e perhaps_a_number (two s t) = refl
is_read g m e perhaps_a_number (scalar_at l) = refl
is_read g m e perhaps_a_number (container_at j) = refl
is_read g m e perhaps_a_number (element_at j k part) = refl
is_read g m e an_iterator nothing = refl
is_read g m e an_iterator (number z) = refl
is_read g m e an_iterator (iterator s) = refl
is_read g m e an_iterator (pair s b) = refl
is_read g m e an_iterator (two s t) = refl
is_read g m e an_iterator (scalar_at l) = refl
is_read g m e an_iterator (container_at j) = refl
is_read g m e an_iterator (element_at j k part) = refl
is_read g m e a_writer nothing = refl
is_read g m e a_writer (number z) = refl
is_read g m e a_writer (pair s b) = refl
is_read g m e a_writer (two s t) = refl
is_read g m e a_writer (scalar_at l) = refl
is_read g m e a_writer (container_at j) = refl
is_read g m e a_writer (element_at j k part) = refl
is_read g m e (a_container form) nothing = refl
is_read g m e (a_container form) (number z) = refl
is_read g m e (a_container form) (iterator s) = refl
is_read g m e (a_container form) (pair s b) = refl
is_read g m e (a_container form) (two s t) = refl
is_read g m e (a_container form) (scalar_at l) = refl
is_read g m e (a_container form) (element_at j k part) = refl
is_read g m e a_sequence nothing = refl
is_read g m e a_sequence (number z) = refl
is_read g m e a_sequence (iterator s) = refl
is_read g m e a_sequence (pair s b) = refl
is_read g m e a_sequence (two s t) = refl
is_read g m e a_sequence (scalar_at l) = refl
is_read g m e a_sequence (element_at j k part) = refl

-- numbers
number_read : (m : Memory) (v : Value) → number_test (value_of m v) ≡ is_number v
number_read m nothing = refl
number_read m (number z) = refl
number_read m (iterator s) = refl
number_read m (pair s b) = refl
number_read m (two s t) = refl
number_read m (scalar_at l) = refl
number_read m (container_at j) = refl
number_read m (element_at j k part) = refl

all_read : (m : Memory) (vs : List Value) → all_number (map (value_of m) vs) ≡ all_numbers vs
all_read m [] = refl
all_read m (v ∷ vs) = ap (λ (b : Bool). b && all_number (map (value_of m) vs)) (number_read m v) ∙ ap (λ (b : Bool). is_number v && b) (all_read m vs)

-- one value and those behind it
both_read : (g : ℕ → Option Form) (m : Memory) → ((j : ℕ) → g j ≡ forms_in m j) → (sort : Sort) (v : Value) (a b : Bool) → a ≡ b
    → (is_shown g sort (value_of m v) && a) ≡ (is_of m sort v && b)
both_read g m e sort v a b same = ap (λ (x : Bool). x && a) (is_read g m e sort v) ∙ ap (λ (x : Bool). is_of m sort v && x) same

-- all values
are_read : (g : ℕ → Option Form) (m : Memory) → ((j : ℕ) → g j ≡ forms_in m j) → (sorts : List Sort) (vs : List Value)
    → are_shown g sorts (map (value_of m) vs) ≡ are_of m sorts vs
are_read g m e [] [] = refl
are_read g m e [] (v ∷ vs) = refl
are_read g m e (numbers ∷ sorts) vs = all_read m vs
are_read g m e (perhaps_a_number ∷ []) [] = refl
are_read g m e (perhaps_a_number ∷ sort ∷ sorts) [] = refl
are_read g m e (perhaps_a_number ∷ []) (v ∷ vs) = both_read g m e perhaps_a_number v _ _ (are_read g m e [] vs)
are_read g m e (perhaps_a_number ∷ sort ∷ sorts) (v ∷ vs) = both_read g m e perhaps_a_number v _ _ (are_read g m e (sort ∷ sorts) vs)
are_read g m e (sort ∷ sorts) [] = refl
are_read g m e (sort ∷ sorts) (v ∷ vs) = both_read g m e sort v _ _ (are_read g m e sorts vs)

-- those of a call
pub fit_read : (a : Arguments) (s : Situation) → Reads a s → (sorts : List Sort)
    → are_shown (forms_of a.containers.now) sorts a.values.now ≡ are_of s.memory sorts s.values
fit_read a s h sorts = ap (are_shown (forms_of a.containers.now) sorts) h.values
    ∙ are_read (forms_of a.containers.now) s.memory (forms_read a.containers.now s.memory h.containers) sorts s.values

-- a container of a form
pub form_read : (a : Arguments) (s : Situation) → Reads a s → (form : Form) (j : ℕ)
    → is_form (forms_of a.containers.now j) form ≡ is_of_form form (slice_get s.memory.conts j)
form_read a s h form j = ap (λ (o : Option Form). is_form o form) (forms_read a.containers.now s.memory h.containers j)
    ∙ form_at form (slice_get s.memory.conts j)

-- the sorts of what a row takes
pub row_sorts : (appends : Bool) (r : Row) → (meaning_of appends r).operands
    ≡ (elim r.form as (λ _. List Sort) [ Some form ↦ all_sorts form false r.letters | None ↦ all_sorts f.Vector appends r.letters ])
row_sorts appends r = by_form r.form
  where
    by_form : (form : Option Form) → (meaning_of appends (record r { form = form })).operands
        ≡ (elim form as (λ _. List Sort) [ Some form ↦ all_sorts form false r.letters | None ↦ all_sorts f.Vector appends r.letters ])
    by_form None = refl
    by_form (Some form) = refl

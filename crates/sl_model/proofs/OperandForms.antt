-- Operands that are containers of a form: they are there, and of the form.
use Rattle.std.proofs.Common.{◌≡◌, ℕ, true, List, [], ◌∷◌}
use Rattle.std.specs.Prelude.{slice_index_or}
use Rattle.std.specs.List.{slice_get}
use Rattle.sl_base.specs.declared.form.Form.{Form}
use Rattle.sl_model.specs.Memory.Containers.{Memory, cont_at}
use Rattle.sl_model.specs.LibraryCalls.Operands.{Sort, an_iterator, a_container, is_of_form, is_of, are_of}
use Rattle.sl_model.specs.LibraryCalls.Situation.{container_of_value}
use Rattle.sl_model.specs.LibraryCalls.Values.{Value, nothing, number, iterator, pair, two, scalar_at, container_at, element_at}
use Rattle.sl_model.proofs.Called.{own_form, own_there}
use Rattle.sl_model.proofs.FineEffects.{IsThere}
use Rattle.sl_model.proofs.Passing.{first_of_both, second_of_both}

-- the first operand is a container of a form
pub first_of_form : (m : Memory) (form : Form) (sorts : List Sort) (vs : List Value) → are_of m (a_container form ∷ sorts) vs ≡ true
    → is_of_form form (slice_get m.conts (container_of_value m (slice_index_or vs 0 nothing))) ≡ true
first_of_form m form sorts [] h = absurd (cc)
first_of_form m form sorts (v ∷ vs) h = by_value v (first_of_both (is_of m (a_container form) v) (are_of m sorts vs) h)
  where
    by_value : (v : Value) → is_of m (a_container form) v ≡ true → is_of_form form (slice_get m.conts (container_of_value m v)) ≡ true
    by_value nothing h = absurd (cc)
    by_value (number z) h = absurd (cc)
    by_value (iterator x) h = absurd (cc)
    by_value (pair x b) h = absurd (cc)
    by_value (two x y) h = absurd (cc)
    by_value (scalar_at l) h = absurd (cc)
    by_value (container_at j) h = h
    by_value (element_at i k p) h = absurd (cc)

-- the second operand behind an iterator is one
pub second_of_form : (m : Memory) (form : Form) (sorts : List Sort) (vs : List Value)
    → are_of m (an_iterator ∷ a_container form ∷ sorts) vs ≡ true
    → is_of_form form (slice_get m.conts (container_of_value m (slice_index_or vs 1 nothing))) ≡ true
second_of_form m form sorts [] h = absurd (cc)
second_of_form m form sorts (v ∷ []) h = absurd (let q = second_of_both (is_of m an_iterator v) (are_of m (a_container form ∷ sorts) []) h in cc)
second_of_form m form sorts (v ∷ w ∷ vs) h =
    first_of_form m form sorts (w ∷ vs) (second_of_both (is_of m an_iterator v) (are_of m (a_container form ∷ sorts) (w ∷ vs)) h)

-- the form of a container of a form
pub form_there : (m : Memory) (form : Form) (j : ℕ) → is_of_form form (slice_get m.conts j) ≡ true → (cont_at m j).form ≡ form
form_there m form j h = own_form form (record { memory = m; object = j; values = []; picks = []; site = 0 }) h

-- it is there
pub cont_there : (m : Memory) (form : Form) (j : ℕ) → is_of_form form (slice_get m.conts j) ≡ true → IsThere m j
cont_there m form j h = own_there form (record { memory = m; object = j; values = []; picks = []; site = 0 }) h

-- What a row tells: the shape of what it gives, whether it makes a container, and that an iterator that it gives stands somewhere
-- in the memory after the call. What holds of each line of the table holds of each row.
use Rattle.std.proofs.Common.{◌≡◌, ℕ, zero, suc, Bool, List, [], ◌∷◌, ◌++◌, Option, Some, None, option_map, subst}
use Rattle.std.specs.Prelude.{slice_get, take, drop}
use Rattle.std.specs.List.{cons_option}
use Rattle.sl_base.specs.declared.form.Form.{Form}
use Rattle.sl_specs.specs.declared.class.Class.{Class}
use Rattle.sl_specs.specs.Rows.{Row as TableRow, Line, row_of as row_of_line, class_on, rows_on}
use Rattle.sl_model.specs.Memory.Containers.{Memory}
use Rattle.sl_model.specs.Memory.Forms.{holds_equal_keys}
use Rattle.sl_model.specs.LibraryCalls.Values.{Shape, no_value, a_number, a_stamp, a_pair, two_stamps, an_element}
use Rattle.sl_model.specs.LibraryCalls.Situation.{Situation}
use Rattle.sl_model.specs.LibraryCalls.Needs.{first_failure}
use Rattle.sl_model.specs.LibraryCalls.Actions.{Answer, nothing, gives_number, gives_place, gives_place_and, gives_places, gives_element}
use Rattle.sl_model.specs.LibraryCalls.Effects.{does}
use Rattle.sl_model.specs.LibraryCalls.Rows.{Row, member_row}
use Rattle.sl_model.specs.LibraryCalls.Library.{form_of}
use Rattle.sl_model.specs.Typing.Shapes.{is_new_one}
use Rattle.sl_model.proofs.Called.{IsCalled}
use Rattle.sl_model.proofs.Growing.{makes_one}
use Rattle.sl_model.proofs.Placing.{IsPlaced}

-- the shape of an answer
abbrev pub shape_of_answer : Answer → Shape
shape_of_answer nothing = no_value
shape_of_answer (gives_number z) = a_number
shape_of_answer (gives_place j k) = a_stamp
shape_of_answer (gives_place_and j k b) = a_pair
shape_of_answer (gives_places j k i) = two_stamps
shape_of_answer (gives_element j k part) = an_element

-- the memory after a row's effect
abbrev pub memory_after : Row → Situation → Memory
memory_after r s = (does (form_of r.object s) r.class s (r.action.effect s)).memory

-- a row tells its shape and whether it makes a container, and what it gives stands somewhere
pub record Tells (r : Row) (s : Situation) : Type 0 where
  pub makes : makes_one (r.action.effect s) ≡ is_new_one r.object
  pub shaped : shape_of_answer (r.action.answer s) ≡ r.shape
  pub placed : IsPlaced (memory_after r s) (r.action.answer s)

-- by its three parts
pub tells : {r : Row} {s : Situation} → makes_one (r.action.effect s) ≡ is_new_one r.object → shape_of_answer (r.action.answer s) ≡ r.shape
    → IsPlaced (memory_after r s) (r.action.answer s) → Tells r s
tells makes shaped placed = record { makes = makes; shaped = shaped; placed = placed }

-- a row does so wherever it is called and its needs hold
abbrev pub RowTells : Row → Type 0
RowTells r = (s : Situation) → IsCalled r s → first_failure (r.fails s) ≡ None → Tells r s

-- a line of the table does so on each form that may hold equal keys, or may not
abbrev pub LineTells : Bool → Line → Type 0
LineTells equal x = (form : Form) → holds_equal_keys form ≡ equal → (kills : Class) → RowTells (member_row form (row_of_line (Some form) x kills))

-- what holds of each of these
abbrev pub AllOf : {A : Type 0} → (A → Type 0) → List A → Type 0
AllOf P [] = Unit {0}
AllOf P (x ∷ xs) = P x × AllOf P xs

-- and of these
pub all_append : {A : Type 0} (P : A → Type 0) (xs ys : List A) → AllOf P xs → AllOf P ys → AllOf P (xs ++ ys)
all_append P [] ys h k = k
all_append P (x ∷ xs) ys h k = (h.0, all_append P xs ys h.1 k)

-- of the first n and the others
pub all_parts : {A : Type 0} (P : A → Type 0) (n : ℕ) (xs : List A) → AllOf P (take n xs) → AllOf P (drop n xs) → AllOf P xs
all_parts P zero xs h k = k
all_parts P (suc n) [] h k = tt
all_parts P (suc n) (x ∷ xs) h k = (h.0, all_parts P n xs h.1 k)

-- what holds of each holds of the one at an index
pub all_at : {A : Type 0} (P : A → Type 0) (xs : List A) (n : ℕ) (x : A) → AllOf P xs → slice_get xs n ≡ Some x → P x
all_at P [] n x h e = absurd (cc)
all_at P (y ∷ ys) zero x h e = let same : y ≡ x = cc in subst P same h.0
all_at P (y ∷ ys) (suc n) x h e = all_at P ys n x h.1 e

-- what holds of each line with each class holds of the rows of a form
pub all_rows_on : (P : TableRow → Type 0) (form : Form) (lines : List Line) → AllOf (λ x. (kills : Class) → P (row_of_line (Some form) x kills)) lines
    → AllOf P (rows_on form lines)
all_rows_on P form [] h = tt
all_rows_on P form (x ∷ xs) h = by_class (class_on form x.classes) (all_rows_on P form xs h.1)
  where
    by_class : (o : Option Class) → AllOf P (rows_on form xs)
        → AllOf P (cons_option (option_map (row_of_line (Some form) x) o) (rows_on form xs))
    by_class None rest = rest
    by_class (Some kills) rest = (h.0 kills, rest)

-- what holds of each line for each form of a sort holds of it for one
pub all_lines : (equal : Bool) (form : Form) (lines : List Line) → holds_equal_keys form ≡ equal → AllOf (LineTells equal) lines
    → AllOf (λ x. (kills : Class) → RowTells (member_row form (row_of_line (Some form) x kills))) lines
all_lines equal form [] e h = tt
all_lines equal form (x ∷ xs) e h = (h.0 form e, all_lines equal form xs e h.1)

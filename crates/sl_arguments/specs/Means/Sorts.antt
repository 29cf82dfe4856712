-- Which values of a store an argument may be.
use Rattle.std.specs.Prelude.{ℕ, ◌&&◌, Bool, true, false, not, List, [], ◌∷◌, Option, Some, None, option_map, slice_get, if◌then◌else◌}
use Rattle.sl_base.specs.declared.form.Form.{Form}
use Rattle.sl_specs.specs.declared.letter.Letter.{Letter}
use Rattle.sl_specs.specs.declared.letter.Letter.TheVariants as a
use Rattle.sl_specs.specs.Forms.{same_form, is_keyed}
use Rattle.sl_model.specs.LibraryCalls.Operands.{Sort, a_number, numbers, perhaps_a_number, an_iterator, a_writer, a_container, a_sequence, all_sorts}
use Rattle.sl_slots.specs.declared.container.Container.{Container}
use Rattle.sl_slots.specs.declared.slot.Slot.TheVariants.{Stands, Gone}
use Rattle.sl_slots.specs.declared.slot.Value.{Value}
use Rattle.sl_slots.specs.declared.slot.Value.TheVariants.{Number, Iterator, ContainerAt}
use Rattle.sl_arguments.specs.declared.fitting.Taken.{Taken}
use Rattle.sl_arguments.specs.declared.fitting.Taken.TheVariants.{Whole, Left}

-- the forms of containers by their numbers
abbrev pub forms_of : List Container → ℕ → Option Form
forms_of cs j = option_map (λ (c : Container). c.form) (slice_get cs j)

-- it is a number
abbrev pub number_test : Value → Bool
number_test (Number z) = true
number_test v = false

-- it is an iterator
abbrev pub iterator_test : Value → Bool
iterator_test (Iterator s) = true
iterator_test v = false

-- a form that there may be is another one
abbrev pub is_form : Option Form → Form → Bool
is_form None form = false
is_form (Some own) form = same_form own form

-- it is one of sequences
abbrev pub is_sequence_form : Option Form → Bool
is_sequence_form None = false
is_sequence_form (Some own) = not (is_keyed own)

-- a value is of a sort
abbrev pub is_shown : (ℕ → Option Form) → Sort → Value → Bool
is_shown forms a_number (Number z) = true
is_shown forms perhaps_a_number (Number z) = true
is_shown forms an_iterator (Iterator s) = true
is_shown forms a_writer (Iterator (Stands j k)) = is_sequence_form (forms j)
is_shown forms a_writer (Iterator (Gone site)) = true
is_shown forms (a_container form) (ContainerAt j) = is_form (forms j) form
is_shown forms a_sequence (ContainerAt j) = is_sequence_form (forms j)
is_shown forms sort v = false

-- each of these is a number
abbrev pub all_number : List Value → Bool
all_number [] = true
all_number (v ∷ vs) = number_test v && all_number vs

-- these values are of these sorts
abbrev pub are_shown : (ℕ → Option Form) → List Sort → List Value → Bool
are_shown forms [] [] = true
are_shown forms (numbers ∷ sorts) vs = all_number vs
are_shown forms (perhaps_a_number ∷ []) [] = true
are_shown forms (sort ∷ sorts) (v ∷ vs) = is_shown forms sort v && are_shown forms sorts vs
are_shown forms sorts vs = false

-- the sort of an output
abbrev pub output_sort : Bool → Sort
output_sort appends = if appends then a_sequence else a_writer

-- the sort of the first argument of a letter
abbrev pub first_sort : Form → Bool → Letter → Sort
first_sort form appends a.Position = an_iterator
first_sort form appends a.SplicedPosition = an_iterator
first_sort form appends a.OwnRange = an_iterator
first_sort form appends a.IntRange = an_iterator
first_sort form appends a.SecondIntRange = an_iterator
first_sort form appends a.AnyRange = an_iterator
first_sort form appends a.IteratorVariable = an_iterator
first_sort form appends a.Iterator = an_iterator
first_sort form appends a.BidirectionalIterator = an_iterator
first_sort form appends a.WrittenRange = a_writer
first_sort form appends a.RandomAccessRange = a_writer
first_sort form appends a.Container = a_container form
first_sort form appends a.ChangedContainer = a_container form
first_sort form appends a.AppendedContainer = a_sequence
first_sort form appends a.Output = output_sort appends
first_sort form appends a.InitializerList = numbers
first_sort form appends a.OptionalDistance = perhaps_a_number
first_sort form appends letter = a_number

-- a letter stands for two arguments, the second an iterator
abbrev pub takes_two : Letter → Bool
takes_two a.OwnRange = true
takes_two a.IntRange = true
takes_two a.SecondIntRange = true
takes_two a.WrittenRange = true
takes_two a.RandomAccessRange = true
takes_two a.AnyRange = true
takes_two letter = false

-- the values fit where those that are left do
abbrev pub concluded : (ℕ → Option Form) → List Sort → Taken → Bool
concluded forms sorts (Whole fits) = fits
concluded forms sorts (Left vs) = are_shown forms sorts vs.now

-- there is none
abbrev pub is_nil : List Letter → Bool
is_nil [] = true
is_nil (x ∷ xs) = false

-- a letter stands for any number of numbers
abbrev pub is_list : Letter → Bool
is_list a.InitializerList = true
is_list letter = false

-- its argument may be missing
abbrev pub is_optional : Letter → Bool
is_optional a.OptionalDistance = true
is_optional letter = false

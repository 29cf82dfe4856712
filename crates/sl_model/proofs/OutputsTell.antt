-- An algorithm that writes to an output gives the place behind what it wrote, or nothing where the output is an appender.
use Rattle.std.proofs.Common.{◌≡◌, ℕ, ◌-◌, ◌<◌, true, false, List, [], ◌∷◌, ◌++◌, Option, Some, None, length, refl, sym, subst}
use Rattle.std.proofs.Common.{arith}
use Rattle.std.specs.Prelude.{ℤ, slice_index_or}
use Rattle.sl_base.specs.declared.form.Form.{Form}
use Rattle.sl_specs.specs.declared.class.Class.{Class}
use Rattle.sl_specs.specs.declared.need.Need.TheVariants as n
use Rattle.sl_specs.specs.Rows.{Row as TableRow}
use Rattle.sl_model.specs.Memory.Containers.{Memory}
use Rattle.sl_model.specs.LibraryCalls.Values.{Value, nothing, number, iterator, pair, two, scalar_at, container_at, element_at, Shape, no_value, a_stamp}
use Rattle.sl_model.specs.LibraryCalls.Operands.{Sort, an_iterator, a_writer, a_sequence, is_of, are_of}
use Rattle.sl_model.specs.LibraryCalls.Situation.{Situation, argument, place_of, index, container_of, their}
use Rattle.sl_model.specs.LibraryCalls.Needs.{output_place_fails, output_fails, failures, all_failures, first_failure}
use Rattle.sl_model.specs.LibraryCalls.Effects.{does}
use Rattle.sl_model.specs.LibraryCalls.WritingAlgorithms.{output, outputs, after_output}
use Rattle.sl_model.proofs.Growing.{makes_one}
use Rattle.sl_model.proofs.Placing.{IsPlaced}
use Rattle.sl_model.proofs.Tells.{shape_of_answer}
use Rattle.sl_model.proofs.AlgorithmsTell.{no_failure, none_left, none_right, place_there, container_there, overwrites-place}
use Rattle.sl_model.proofs.Passing.{first_of_both, second_of_both}

-- the operands behind an iterator are of the sorts behind it
behind : (m : Memory) (sorts : List Sort) (v : Value) (vs : List Value) → are_of m (an_iterator ∷ sorts) (v ∷ vs) ≡ true → are_of m sorts vs ≡ true
behind m sorts v vs e = second_of_both (is_of m an_iterator v) (are_of m sorts vs) e

-- the last of three operands is an iterator that is written through
pub writer_of_three : (m : Memory) (vs : List Value) → are_of m (an_iterator ∷ an_iterator ∷ a_writer ∷ []) vs ≡ true
    → is_of m a_writer (slice_index_or vs (length vs - 1) nothing) ≡ true
writer_of_three m [] e = absurd (cc)
writer_of_three m (a ∷ []) e = absurd (let p = behind m (an_iterator ∷ a_writer ∷ []) a [] e in cc)
writer_of_three m (a ∷ b ∷ []) e = absurd (let p = behind m (a_writer ∷ []) b [] (behind m (an_iterator ∷ a_writer ∷ []) a (b ∷ []) e) in cc)
writer_of_three m (a ∷ b ∷ v ∷ []) e = first_of_both (is_of m a_writer v) true
    (behind m (a_writer ∷ []) b (v ∷ []) (behind m (an_iterator ∷ a_writer ∷ []) a (b ∷ v ∷ []) e))
writer_of_three m (a ∷ b ∷ v ∷ w ∷ vs) e = absurd
    (let p = second_of_both (is_of m a_writer v) false
    (behind m (a_writer ∷ []) b (v ∷ w ∷ vs) (behind m (an_iterator ∷ a_writer ∷ []) a (b ∷ v ∷ w ∷ vs) e)) in cc)

-- the last of five operands is an iterator that is written through
pub writer_of_five : (m : Memory) (vs : List Value) → are_of m (an_iterator ∷ an_iterator ∷ an_iterator ∷ an_iterator ∷ a_writer ∷ []) vs ≡ true
    → is_of m a_writer (slice_index_or vs (length vs - 1) nothing) ≡ true
writer_of_five m [] e = absurd (cc)
writer_of_five m (a ∷ []) e = absurd (let p = behind m (an_iterator ∷ an_iterator ∷ an_iterator ∷ a_writer ∷ []) a [] e in cc)
writer_of_five m (a ∷ b ∷ []) e = absurd
    (let p = behind m (an_iterator ∷ an_iterator ∷ a_writer ∷ []) b []
    (behind m (an_iterator ∷ an_iterator ∷ an_iterator ∷ a_writer ∷ []) a (b ∷ []) e) in cc)
writer_of_five m (a ∷ b ∷ c ∷ []) e = absurd
    (let p = behind m (an_iterator ∷ a_writer ∷ []) c []
    (behind m (an_iterator ∷ an_iterator ∷ a_writer ∷ []) b (c ∷ [])
    (behind m (an_iterator ∷ an_iterator ∷ an_iterator ∷ a_writer ∷ []) a (b ∷ c ∷ []) e)) in cc)
writer_of_five m (a ∷ b ∷ c ∷ d ∷ []) e = absurd
    (let p = behind m (a_writer ∷ []) d []
    (behind m (an_iterator ∷ a_writer ∷ []) c (d ∷ [])
    (behind m (an_iterator ∷ an_iterator ∷ a_writer ∷ []) b (c ∷ d ∷ [])
    (behind m (an_iterator ∷ an_iterator ∷ an_iterator ∷ a_writer ∷ []) a (b ∷ c ∷ d ∷ []) e))) in cc)
writer_of_five m (a ∷ b ∷ c ∷ d ∷ v ∷ []) e = first_of_both (is_of m a_writer v) true
    (behind m (a_writer ∷ []) d (v ∷ [])
    (behind m (an_iterator ∷ a_writer ∷ []) c (d ∷ v ∷ [])
    (behind m (an_iterator ∷ an_iterator ∷ a_writer ∷ []) b (c ∷ d ∷ v ∷ [])
    (behind m (an_iterator ∷ an_iterator ∷ an_iterator ∷ a_writer ∷ []) a (b ∷ c ∷ d ∷ v ∷ []) e))))
writer_of_five m (a ∷ b ∷ c ∷ d ∷ v ∷ w ∷ vs) e = absurd
    (let p = second_of_both (is_of m a_writer v) false
    (behind m (a_writer ∷ []) d (v ∷ w ∷ vs)
    (behind m (an_iterator ∷ a_writer ∷ []) c (d ∷ v ∷ w ∷ vs)
    (behind m (an_iterator ∷ an_iterator ∷ a_writer ∷ []) b (c ∷ d ∷ v ∷ w ∷ vs)
    (behind m (an_iterator ∷ an_iterator ∷ an_iterator ∷ a_writer ∷ []) a (b ∷ c ∷ d ∷ v ∷ w ∷ vs) e)))) in cc)

-- the last of three operands is a sequence
pub sequence_of_three : (m : Memory) (vs : List Value) → are_of m (an_iterator ∷ an_iterator ∷ a_sequence ∷ []) vs ≡ true
    → is_of m a_sequence (slice_index_or vs (length vs - 1) nothing) ≡ true
sequence_of_three m [] e = absurd (cc)
sequence_of_three m (a ∷ []) e = absurd (let p = behind m (an_iterator ∷ a_sequence ∷ []) a [] e in cc)
sequence_of_three m (a ∷ b ∷ []) e = absurd (let p = behind m (a_sequence ∷ []) b [] (behind m (an_iterator ∷ a_sequence ∷ []) a (b ∷ []) e) in cc)
sequence_of_three m (a ∷ b ∷ v ∷ []) e = first_of_both (is_of m a_sequence v) true
    (behind m (a_sequence ∷ []) b (v ∷ []) (behind m (an_iterator ∷ a_sequence ∷ []) a (b ∷ v ∷ []) e))
sequence_of_three m (a ∷ b ∷ v ∷ w ∷ vs) e = absurd
    (let p = second_of_both (is_of m a_sequence v) false
    (behind m (a_sequence ∷ []) b (v ∷ w ∷ vs) (behind m (an_iterator ∷ a_sequence ∷ []) a (b ∷ v ∷ w ∷ vs) e)) in cc)

-- the last of five operands is a sequence
pub sequence_of_five : (m : Memory) (vs : List Value) → are_of m (an_iterator ∷ an_iterator ∷ an_iterator ∷ an_iterator ∷ a_sequence ∷ []) vs ≡ true
    → is_of m a_sequence (slice_index_or vs (length vs - 1) nothing) ≡ true
sequence_of_five m [] e = absurd (cc)
sequence_of_five m (a ∷ []) e = absurd (let p = behind m (an_iterator ∷ an_iterator ∷ an_iterator ∷ a_sequence ∷ []) a [] e in cc)
sequence_of_five m (a ∷ b ∷ []) e = absurd
    (let p = behind m (an_iterator ∷ an_iterator ∷ a_sequence ∷ []) b []
    (behind m (an_iterator ∷ an_iterator ∷ an_iterator ∷ a_sequence ∷ []) a (b ∷ []) e) in cc)
sequence_of_five m (a ∷ b ∷ c ∷ []) e = absurd
    (let p = behind m (an_iterator ∷ a_sequence ∷ []) c []
    (behind m (an_iterator ∷ an_iterator ∷ a_sequence ∷ []) b (c ∷ [])
    (behind m (an_iterator ∷ an_iterator ∷ an_iterator ∷ a_sequence ∷ []) a (b ∷ c ∷ []) e)) in cc)
sequence_of_five m (a ∷ b ∷ c ∷ d ∷ []) e = absurd
    (let p = behind m (a_sequence ∷ []) d []
    (behind m (an_iterator ∷ a_sequence ∷ []) c (d ∷ [])
    (behind m (an_iterator ∷ an_iterator ∷ a_sequence ∷ []) b (c ∷ d ∷ [])
    (behind m (an_iterator ∷ an_iterator ∷ an_iterator ∷ a_sequence ∷ []) a (b ∷ c ∷ d ∷ []) e))) in cc)
sequence_of_five m (a ∷ b ∷ c ∷ d ∷ v ∷ []) e = first_of_both (is_of m a_sequence v) true
    (behind m (a_sequence ∷ []) d (v ∷ [])
    (behind m (an_iterator ∷ a_sequence ∷ []) c (d ∷ v ∷ [])
    (behind m (an_iterator ∷ an_iterator ∷ a_sequence ∷ []) b (c ∷ d ∷ v ∷ [])
    (behind m (an_iterator ∷ an_iterator ∷ an_iterator ∷ a_sequence ∷ []) a (b ∷ c ∷ d ∷ v ∷ []) e))))
sequence_of_five m (a ∷ b ∷ c ∷ d ∷ v ∷ w ∷ vs) e = absurd
    (let p = second_of_both (is_of m a_sequence v) false
    (behind m (a_sequence ∷ []) d (v ∷ w ∷ vs)
    (behind m (an_iterator ∷ a_sequence ∷ []) c (d ∷ v ∷ w ∷ vs)
    (behind m (an_iterator ∷ an_iterator ∷ a_sequence ∷ []) b (c ∷ d ∷ v ∷ w ∷ vs)
    (behind m (an_iterator ∷ an_iterator ∷ an_iterator ∷ a_sequence ∷ []) a (b ∷ c ∷ d ∷ v ∷ w ∷ vs) e)))) in cc)

-- an iterator that is written through stands somewhere, where its need doesn't fail
pub output_stands : (r : TableRow) (s : Situation) (a : ℕ) (v : Value) → is_of s.memory a_writer v ≡ true → output_fails r s a v ≡ []
    → (p : ℕ × ℕ) × (place_of s a ≡ Some p)
output_stands r s a nothing w e = absurd (cc)
output_stands r s a (number z) w e = absurd (cc)
output_stands r s a (iterator t) w e = by_place (place_of s a) e
  where
    by_place : (o : Option (ℕ × ℕ)) → output_place_fails r s a o ≡ [] → (p : ℕ × ℕ) × (o ≡ Some p)
    by_place None h = absurd (cc)
    by_place (Some p) h = (p, refl)
output_stands r s a (pair t b) w e = absurd (cc)
output_stands r s a (two t u) w e = absurd (cc)
output_stands r s a (scalar_at l) w e = absurd (cc)
output_stands r s a (container_at l) w e = absurd (cc)
output_stands r s a (element_at i j part) w e = absurd (cc)

-- what is told of an output: no container is made, an iterator is given where it was written through one, and it stands somewhere
abbrev pub OutputTells : Shape → Class → Form → Situation → Value → List ℤ → Type 0
OutputTells shape class form s v xs = (makes_one (outputs s v xs) ≡ false) × (shape_of_answer (after_output s v (length xs)) ≡ shape)
    × IsPlaced (does form class s (outputs s v xs)).memory (after_output s v (length xs))

-- the last operand is written through
writer-tells : (class : Class) (form : Form) (s : Situation) (v : Value) (xs : List ℤ) (p : ℕ × ℕ) → is_of s.memory a_writer v ≡ true
    → place_of s (length s.values) ≡ Some p → OutputTells a_stamp class form s v xs
writer-tells class form s nothing xs p w e = absurd (cc)
writer-tells class form s (number z) xs p w e = absurd (cc)
writer-tells class form s (iterator t) xs p w e =
    let h = place_there s.memory (argument s (length s.values)) p e in
    let j : container_of s (length s.values) ≡ p.0 = container_there s.memory (argument s (length s.values)) p e in (
      refl,
      refl,
      overwrites-place s.memory (container_of s (length s.values)) (their s (length s.values)) s.site (index s (length s.values))
          (length xs) xs (subst (λ (i : ℕ). i < length s.memory.conts) (sym j) h.there) (omega arith),
    )
writer-tells class form s (pair t b) xs p w e = absurd (cc)
writer-tells class form s (two t u) xs p w e = absurd (cc)
writer-tells class form s (scalar_at l) xs p w e = absurd (cc)
writer-tells class form s (container_at l) xs p w e = absurd (cc)
writer-tells class form s (element_at i j part) xs p w e = absurd (cc)

-- the last operand is a container to which is appended
pub appender-tells : (class : Class) (form : Form) (s : Situation) (v : Value) (xs : List ℤ) → is_of s.memory a_sequence v ≡ true
    → OutputTells no_value class form s v xs
appender-tells class form s nothing xs w = absurd (cc)
appender-tells class form s (number z) xs w = absurd (cc)
appender-tells class form s (iterator t) xs w = absurd (cc)
appender-tells class form s (pair t b) xs w = absurd (cc)
appender-tells class form s (two t u) xs w = absurd (cc)
appender-tells class form s (scalar_at l) xs w = absurd (cc)
appender-tells class form s (container_at l) xs w = (refl, refl, tt)
appender-tells class form s (element_at i j part) xs w = absurd (cc)

-- the output's need is the second of two
pub second_of_two : (r : TableRow) (class : Class) (form : Form) (s : Situation) (xs : List ℤ) → is_of s.memory a_writer (output s) ≡ true
    → first_failure (all_failures r (n.OneRange ∷ n.OutputFits ∷ []) s) ≡ None → OutputTells a_stamp class form s (output s) xs
second_of_two r class form s xs w e =
    let fits = none_right (failures r s n.OneRange) (failures r s n.OutputFits ++ [])
    (no_failure (all_failures r (n.OneRange ∷ n.OutputFits ∷ []) s) e) in
    let p = output_stands r s (length s.values) (output s) w (none_left (failures r s n.OutputFits) [] fits) in
    writer-tells class form s (output s) xs p.0 w p.1

-- or the last of three
pub last_of_three : (r : TableRow) (class : Class) (form : Form) (s : Situation) (xs : List ℤ) → is_of s.memory a_writer (output s) ≡ true
    → first_failure (all_failures r (n.OneRange ∷ n.RangesSorted ∷ n.OutputFits ∷ []) s) ≡ None → OutputTells a_stamp class form s (output s) xs
last_of_three r class form s xs w e =
    let rest = none_right (failures r s n.OneRange) (failures r s n.RangesSorted ++ (failures r s n.OutputFits ++ []))
    (no_failure (all_failures r (n.OneRange ∷ n.RangesSorted ∷ n.OutputFits ∷ []) s) e) in
    let fits = none_right (failures r s n.RangesSorted) (failures r s n.OutputFits ++ []) rest in
    let p = output_stands r s (length s.values) (output s) w (none_left (failures r s n.OutputFits) [] fits) in
    writer-tells class form s (output s) xs p.0 w p.1

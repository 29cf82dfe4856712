-- Each row of an algorithm and of an operator is tidy: an algorithm writes to sequences alone.
use Rattle.std.proofs.Common.{◌≡◌, ℕ, Bool, true, false, List, [], ◌∷◌, ◌++◌, Some, None, length, refl, sym, subst, inl, ℤ, take, drop}
use Rattle.sl_base.specs.declared.form.Form.{Form}
use Rattle.sl_base.specs.declared.form.Form.TheVariants as f
use Rattle.sl_specs.specs.declared.call.Call.{Call}
use Rattle.sl_specs.specs.declared.call.Call.TheVariants as c
use Rattle.sl_specs.specs.declared.need.Need.TheVariants as n
use Rattle.sl_specs.specs.Forms.{is_keyed}
use Rattle.sl_specs.specs.Rows.{Row as TableRow}
use Rattle.sl_specs.specs.AlgorithmRows.{algorithm_rows}
use Rattle.sl_syntax.specs.declared.typed.operator.Operator.{Operator}
use Rattle.sl_model.specs.Memory.Containers.{cont_at}
use Rattle.sl_model.specs.LibraryCalls.Values.{Value, nothing, number, iterator, pair, two, scalar_at, container_at, element_at}
use Rattle.sl_model.specs.LibraryCalls.Situation.{Situation, own, place_of}
use Rattle.sl_model.specs.LibraryCalls.Operands.{Sort, a_number, an_iterator, all_sorts, are_of, a_writer, a_sequence, is_of, written_keys}
use Rattle.sl_model.specs.LibraryCalls.Needs.{failures, all_failures, first_failure}
use Rattle.sl_model.specs.LibraryCalls.WritingAlgorithms.{rewrites, output, outputs}
use Rattle.sl_model.specs.LibraryCalls.Rows.{of_first, algorithm_row, row_of_operator}
use Rattle.sl_model.proofs.Called.{HasObject}
use Rattle.sl_model.proofs.AlgorithmsTell.{IsRange, first_range, no_failure, none_left, none_right}
use Rattle.sl_model.proofs.FineAlgorithms.{copy_row, set_row}
use Rattle.sl_model.proofs.OrderlyEffects.{IsTidy}
use Rattle.sl_model.proofs.OutputsTell.{writer_of_three, writer_of_five, sequence_of_three, sequence_of_five, output_stands}
use Rattle.sl_model.proofs.Tells.{AllOf, all_parts}
use Rattle.sl_model.proofs.TidyRows.{RowIsTidy, sequence-free, writer-free, first_writer}

-- a range of a sequence is written over
over-tidy : (form : Form) (s : Situation) (picks : ℕ) (xs : List ℤ) (sorts : List Sort) → are_of s.memory (a_writer ∷ sorts) s.values ≡ true
    → HasObject of_first s → IsRange s → IsTidy form s (rewrites s picks xs)
over-tidy form s picks xs sorts operands there r =
    inl (subst (λ (j : ℕ). is_keyed (cont_at s.memory j).form ≡ false) (sym there)
    (writer-free s 1 r.from (first_writer s.memory sorts s.values operands) r.from_there))

-- an output that is written through
written-tidy : (form : Form) (s : Situation) (v : Value) (xs : List ℤ) (p : ℕ × ℕ) → output s ≡ v → is_of s.memory a_writer (output s) ≡ true
    → place_of s (length s.values) ≡ Some p → IsTidy form s (outputs s v xs)
written-tidy form s nothing xs p e w at = inl (writer-free s (length s.values) p w at)
written-tidy form s (number z) xs p e w at = inl (writer-free s (length s.values) p w at)
written-tidy form s (iterator i) xs p e w at = inl (writer-free s (length s.values) p w at)
written-tidy form s (pair i b) xs p e w at = inl (writer-free s (length s.values) p w at)
written-tidy form s (two i j) xs p e w at = inl (writer-free s (length s.values) p w at)
written-tidy form s (scalar_at l) xs p e w at = inl (writer-free s (length s.values) p w at)
written-tidy form s (container_at l) xs p e w at = absurd
    (let q : is_of s.memory a_writer (container_at l) ≡ true = subst (λ (v : Value). is_of s.memory a_writer v ≡ true) e w in cc)
written-tidy form s (element_at i j part) xs p e w at = inl (writer-free s (length s.values) p w at)

-- an output that is an appender
appended-tidy : (form : Form) (s : Situation) (v : Value) (xs : List ℤ) → is_of s.memory a_sequence v ≡ true → IsTidy form s (outputs s v xs)
appended-tidy form s nothing xs w = absurd (cc)
appended-tidy form s (number z) xs w = absurd (cc)
appended-tidy form s (iterator i) xs w = absurd (cc)
appended-tidy form s (pair i b) xs w = absurd (cc)
appended-tidy form s (two i j) xs w = absurd (cc)
appended-tidy form s (scalar_at l) xs w = absurd (cc)
appended-tidy form s (container_at l) xs w = sequence-free s.memory l w
appended-tidy form s (element_at i j part) xs w = absurd (cc)

-- what copy writes or appends
copy-tidy : (appends : Bool) (form : Form) (s : Situation) → are_of s.memory (all_sorts f.Vector appends copy_row.letters) s.values ≡ true
    → first_failure (all_failures copy_row copy_row.needs s) ≡ None → IsTidy form s (outputs s (output s) (written_keys c.Copy s))
copy-tidy false form s operands none =
    let w = writer_of_three s.memory s.values operands in
    let fits = none_right (failures copy_row s n.OneRange) (failures copy_row s n.OutputFits ++ [])
    (no_failure (all_failures copy_row copy_row.needs s) none) in
    let p = output_stands copy_row s (length s.values) (output s) w (none_left (failures copy_row s n.OutputFits) [] fits) in
    written-tidy form s (output s) (written_keys c.Copy s) p.0 refl w p.1
copy-tidy true form s operands none = appended-tidy form s (output s) (written_keys c.Copy s) (sequence_of_three s.memory s.values operands)

-- what a merge or set operation writes or appends
set-tidy : (appends : Bool) (call : Call) (form : Form) (s : Situation)
    → are_of s.memory (all_sorts f.Vector appends (set_row call).letters) s.values ≡ true
    → first_failure (all_failures (set_row call) (set_row call).needs s) ≡ None → IsTidy form s (outputs s (output s) (written_keys call s))
set-tidy false call form s operands none =
    let w = writer_of_five s.memory s.values operands in
    let rest = none_right (failures (set_row call) s n.OneRange)
    (failures (set_row call) s n.RangesSorted ++ (failures (set_row call) s n.OutputFits ++ []))
    (no_failure (all_failures (set_row call) (set_row call).needs s) none) in
    let fits = none_right (failures (set_row call) s n.RangesSorted) (failures (set_row call) s n.OutputFits ++ []) rest in
    let p = output_stands (set_row call) s (length s.values) (output s) w (none_left (failures (set_row call) s n.OutputFits) [] fits) in
    written-tidy form s (output s) (written_keys call s) p.0 refl w p.1
set-tidy true call form s operands none = appended-tidy form s (output s) (written_keys call s) (sequence_of_five s.memory s.values operands)

-- an algorithm whose output is an appender, or isn't, is tidy
abbrev AlgorithmIsTidy : Bool → TableRow → Type 0
AlgorithmIsTidy appends r = RowIsTidy (algorithm_row appends r)

-- from find to binary_search
first_six : (appends : Bool) → AllOf (AlgorithmIsTidy appends) (take 6 algorithm_rows)
first_six appends = (
  (λ s orderly h none go. tt),
  (
    (λ s orderly h none go. tt),
    (
      (λ s orderly h none go. over-tidy (own s).form s 0 _ (an_iterator ∷ []) h.operands h.object (first_range s _ _ none)),
      ((λ s orderly h none go. tt), ((λ s orderly h none go. tt), ((λ s orderly h none go. tt), tt))),
    ),
  ),
)

-- from merge to copy
second_six : (appends : Bool) → AllOf (AlgorithmIsTidy appends) (take 6 (drop 6 algorithm_rows))
second_six appends = (
  (λ s orderly h none go. set-tidy appends c.Merge (own s).form s h.operands none),
  (
    (λ s orderly h none go. tt),
    (
      (λ s orderly h none go. set-tidy appends c.SetUnion (own s).form s h.operands none),
      (
        (λ s orderly h none go. set-tidy appends c.SetIntersection (own s).form s h.operands none),
        (
          (λ s orderly h none go. set-tidy appends c.SetDifference (own s).form s h.operands none),
          ((λ s orderly h none go. copy-tidy appends (own s).form s h.operands none), tt),
        ),
      ),
    ),
  ),
)

-- from fill to distance
third_six : (appends : Bool) → AllOf (AlgorithmIsTidy appends) (take 6 (drop 6 (drop 6 algorithm_rows)))
third_six appends = (
  (λ s orderly h none go. over-tidy (own s).form s 0 _ (an_iterator ∷ a_number ∷ []) h.operands h.object (first_range s _ _ none)),
  (
    (λ s orderly h none go. over-tidy (own s).form s 0 _ (an_iterator ∷ []) h.operands h.object (first_range s _ _ none)),
    (
      (λ s orderly h none go. over-tidy (own s).form s 0 _ (an_iterator ∷ []) h.operands h.object (first_range s _ _ none)),
      (
        (λ s orderly h none go. over-tidy (own s).form s 0 _ (an_iterator ∷ a_number ∷ []) h.operands h.object (first_range s _ _ none)),
        ((λ s orderly h none go. tt), ((λ s orderly h none go. tt), tt)),
      ),
    ),
  ),
)

-- from advance to back_inserter
last_six : (appends : Bool) → AllOf (AlgorithmIsTidy appends) (drop 6 (drop 6 (drop 6 algorithm_rows)))
last_six appends = (
  (λ s orderly h none go. tt),
  (
    (λ s orderly h none go. tt),
    (
      (λ s orderly h none go. tt),
      ((λ s orderly h none go. tt), ((λ s orderly h none go. tt), ((λ s orderly h none go. tt), tt))),
    ),
  ),
)

-- each algorithm
pub algorithms-tidy : (appends : Bool) → AllOf (AlgorithmIsTidy appends) algorithm_rows
algorithms-tidy appends = all_parts (AlgorithmIsTidy appends) 6 algorithm_rows (first_six appends)
    (all_parts (AlgorithmIsTidy appends) 6 (drop 6 algorithm_rows) (second_six appends)
    (all_parts (AlgorithmIsTidy appends) 6 (drop 6 (drop 6 algorithm_rows)) (third_six appends) (last_six appends)))

-- an operator changes nothing
pub operator-tidy : (name : List ℕ) (o : Operator) → RowIsTidy (row_of_operator name o)
operator-tidy name o s orderly h none go = tt

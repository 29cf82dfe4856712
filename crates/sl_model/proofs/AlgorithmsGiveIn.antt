-- Each algorithm and each operator gives what is in the container of its first operand, or of its output, where that operand stands, and
-- an element that it gives is there.
use Rattle.std.proofs.Common.{◌≡◌, ℕ, ◌<◌, ◌≤◌, ◌==◌, Bool, true, false, List, [], ◌++◌, Option, Some, None, length, refl, sym, ◌∙◌, subst}
use Rattle.std.proofs.Common.{arith}
use Rattle.std.specs.Prelude.{ℤ}
use Rattle.std.proofs.lemmas.Bool.{eqb-false}
use Rattle.sl_base.specs.declared.failures.TheConstants.{END_ITERATOR}
use Rattle.sl_base.specs.declared.form.Form.TheVariants as f
use Rattle.sl_specs.specs.declared.call.Call.{Call}
use Rattle.sl_specs.specs.declared.call.Call.TheVariants as c
use Rattle.sl_specs.specs.declared.need.Need.TheVariants as n
use Rattle.sl_specs.specs.Rows.{Row as TableRow}
use Rattle.sl_specs.specs.AlgorithmRows.{algorithm_rows}
use Rattle.sl_syntax.specs.declared.typed.operator.Operator.{Operator}
use Rattle.sl_syntax.specs.declared.typed.operator.Operator.TheVariants as operators
use Rattle.sl_model.specs.Memory.Containers.{Memory, cont_at, size}
use Rattle.sl_model.specs.LibraryCalls.Values.{Value, nothing, number, iterator, pair, two, scalar_at, container_at, element_at}
use Rattle.sl_model.specs.LibraryCalls.Operands.{a_writer, a_sequence, is_of, are_of, all_sorts, steps_of, written_keys}
use Rattle.sl_model.specs.LibraryCalls.Situation.{Situation, place_of, index, container_of}
use Rattle.sl_model.specs.LibraryCalls.Needs.{dereference_fails, movable_fails, failures, all_failures, first_failure}
use Rattle.sl_model.specs.LibraryCalls.WritingAlgorithms.{output, after_output}
use Rattle.sl_model.specs.LibraryCalls.Operators.{step_fails, steps_by}
use Rattle.sl_model.specs.LibraryCalls.Rows.{of_first, algorithm_row, row_of_operator}
use Rattle.sl_model.proofs.Called.{HasObject}
use Rattle.sl_model.proofs.Tells.{AllOf}
use Rattle.sl_model.proofs.AlgorithmsTell.{IsRange, no_failure, none_left, none_right, first_range, first_place, movable}
use Rattle.sl_model.proofs.OutputsTell.{writer_of_three, writer_of_five, sequence_of_three, sequence_of_five, output_stands}
use Rattle.sl_model.proofs.AlgorithmRowsTell.{moved-stands}
use Rattle.sl_model.proofs.FineAlgorithms.{copy_row, set_row}
use Rattle.sl_model.proofs.GivenIn.{AnswerIsIn, ElementIsThere, HasElement, OperandStands, given_in, is_output, RowGivesIn, stands_in, first_stands}
use Rattle.sl_model.proofs.FineRows.{no_fails}

-- so it is with the row of an algorithm
abbrev pub AlgorithmGivesIn : Bool → TableRow → Type 0
AlgorithmGivesIn appends r = RowGivesIn (is_output r.gives) (algorithm_row appends r)

-- the first operand stands in the object where it begins a range
range_stands_in : (s : Situation) → HasObject of_first s → IsRange s → place_of s 1 ≡ Some (s.object, index s 1)
range_stands_in s there r = first_stands s r.from there r.from_there

-- and where it is moved
moved_stands_in : (s : Situation) (z : ℤ) → HasObject of_first s → first_failure (movable_fails s.memory (place_of s 1) z ++ []) ≡ None
    → place_of s 1 ≡ Some (s.object, index s 1)
moved_stands_in s z there none = let p = movable s.memory (place_of s 1) z [] none in first_stands s p.0 there p.1

-- what is given behind an output is in its container, where it stands
abbrev OutputGivesIn : Situation → Value → ℕ → Type 0
OutputGivesIn s v n = AnswerIsIn (container_of s (length s.values)) (after_output s v n)
    × ((m : Memory) → ElementIsThere m (after_output s v n)) × OperandStands of_first s (length s.values) (after_output s v n)

-- an output that stands somewhere
stood_output : (s : Situation) (v : Value) (n : ℕ) (p : ℕ × ℕ) → place_of s (length s.values) ≡ Some p → OutputGivesIn s v n
stood_output s nothing n p e = (refl, (λ m. tt), stands_in s (length s.values) p e)
stood_output s (number z) n p e = (refl, (λ m. tt), stands_in s (length s.values) p e)
stood_output s (iterator t) n p e = (refl, (λ m. tt), stands_in s (length s.values) p e)
stood_output s (pair t b) n p e = (refl, (λ m. tt), stands_in s (length s.values) p e)
stood_output s (two t u) n p e = (refl, (λ m. tt), stands_in s (length s.values) p e)
stood_output s (scalar_at l) n p e = (refl, (λ m. tt), stands_in s (length s.values) p e)
stood_output s (container_at l) n p e = (tt, (λ m. tt), tt)
stood_output s (element_at i j part) n p e = (refl, (λ m. tt), stands_in s (length s.values) p e)

-- a container to which is appended
appended_output : (s : Situation) (v : Value) (n : ℕ) → is_of s.memory a_sequence v ≡ true → OutputGivesIn s v n
appended_output s nothing n w = absurd (cc)
appended_output s (number z) n w = absurd (cc)
appended_output s (iterator t) n w = absurd (cc)
appended_output s (pair t b) n w = absurd (cc)
appended_output s (two t u) n w = absurd (cc)
appended_output s (scalar_at l) n w = absurd (cc)
appended_output s (container_at l) n w = (tt, (λ m. tt), tt)
appended_output s (element_at i j part) n w = absurd (cc)

-- the output of `copy` stands somewhere, where no need fails
copy_stands : (s : Situation) → is_of s.memory a_writer (output s) ≡ true → first_failure (all_failures copy_row copy_row.needs s) ≡ None
    → (p : ℕ × ℕ) × (place_of s (length s.values) ≡ Some p)
copy_stands s w none =
    let fits = none_right (failures copy_row s n.OneRange) (failures copy_row s n.OutputFits ++ [])
    (no_failure (all_failures copy_row copy_row.needs s) none) in
    output_stands copy_row s (length s.values) (output s) w (none_left (failures copy_row s n.OutputFits) [] fits)

-- and that of a merge or set operation
set_stands : (call : Call) (s : Situation) → is_of s.memory a_writer (output s) ≡ true
    → first_failure (all_failures (set_row call) (set_row call).needs s) ≡ None → (p : ℕ × ℕ) × (place_of s (length s.values) ≡ Some p)
set_stands call s w none =
    let rest = none_right (failures (set_row call) s n.OneRange)
    (failures (set_row call) s n.RangesSorted ++ (failures (set_row call) s n.OutputFits ++ []))
    (no_failure (all_failures (set_row call) (set_row call).needs s) none) in
    let fits = none_right (failures (set_row call) s n.RangesSorted) (failures (set_row call) s n.OutputFits ++ []) rest in
    output_stands (set_row call) s (length s.values) (output s) w (none_left (failures (set_row call) s n.OutputFits) [] fits)

-- the output of `copy`, which is an appender or isn't
copy_output : (appends : Bool) (n : ℕ) (s : Situation) → are_of s.memory (all_sorts f.Vector appends copy_row.letters) s.values ≡ true
    → first_failure (all_failures copy_row copy_row.needs s) ≡ None → OutputGivesIn s (output s) n
copy_output false n s sorts none = let p = copy_stands s (writer_of_three s.memory s.values sorts) none in stood_output s (output s) n p.0 p.1
copy_output true n s sorts none = appended_output s (output s) n (sequence_of_three s.memory s.values sorts)

-- and that of a merge or set operation
set_output : (appends : Bool) (call : Call) (n : ℕ) (s : Situation)
    → are_of s.memory (all_sorts f.Vector appends (set_row call).letters) s.values ≡ true
    → first_failure (all_failures (set_row call) (set_row call).needs s) ≡ None → OutputGivesIn s (output s) n
set_output false call n s sorts none = let p = set_stands call s (writer_of_five s.memory s.values sorts) none in stood_output s (output s) n p.0 p.1
set_output true call n s sorts none = appended_output s (output s) n (sequence_of_five s.memory s.values sorts)

-- each algorithm, whose output is an appender or isn't
pub algorithms-give-in : (appends : Bool) → AllOf (AlgorithmGivesIn appends) algorithm_rows
algorithms-give-in appends = (
  (λ s h none go. given_in refl tt (range_stands_in s h.object (first_range s _ _ none))),
  (
    (λ s h none go. given_in tt tt tt),
    (
      (λ s h none go. given_in tt tt tt),
      (
        (λ s h none go. given_in refl tt (range_stands_in s h.object (first_range s _ _ none))),
        (
          (λ s h none go. given_in refl tt (range_stands_in s h.object (first_range s _ _ none))),
          (
            (λ s h none go. given_in tt tt tt),
            (
              (λ s h none go. let t = set_output appends c.Merge (length (written_keys c.Merge s)) s h.operands none in given_in t.0 (t.1 _) t.2),
              (
                (λ s h none go. given_in tt tt tt),
                (
                  (λ s h none go. let t = set_output appends c.SetUnion (length (written_keys c.SetUnion s)) s h.operands none in given_in t.0 (t.1 _) t.2),
                  (
                    (λ s h none go. let t = set_output appends c.SetIntersection (length (written_keys c.SetIntersection s)) s h.operands none in given_in t.0 (t.1 _) t.2),
                    (
                      (λ s h none go. let t = set_output appends c.SetDifference (length (written_keys c.SetDifference s)) s h.operands none in given_in t.0 (t.1 _) t.2),
                      (
                        (λ s h none go. let t = copy_output appends (length (written_keys c.Copy s)) s h.operands none in given_in t.0 (t.1 _) t.2),
                        (
                          (λ s h none go. given_in tt tt tt),
                          (
                            (λ s h none go. given_in tt tt tt),
                            (
                              (λ s h none go. given_in refl tt (range_stands_in s h.object (first_range s _ _ none))),
                              (
                                (λ s h none go. given_in refl tt (range_stands_in s h.object (first_range s _ _ none))),
                                (
                                  (λ s h none go. given_in tt tt tt),
                                  (
                                    (λ s h none go. given_in tt tt tt),
                                    (
                                      (λ s h none go. given_in refl tt (moved_stands_in s (steps_of c.Advance s) h.object none)),
                                      (
                                        (λ s h none go. given_in refl tt (moved_stands_in s (steps_of c.Next s) h.object none)),
                                        (
                                          (λ s h none go. given_in refl tt (moved_stands_in s (steps_of c.Prev s) h.object none)),
                                          (
                                            (λ s h none go. given_in refl tt (range_stands_in s h.object (first_range s _ _ none))),
                                            (
                                              (λ s h none go. given_in refl tt (range_stands_in s h.object (first_range s _ _ none))),
                                              (
                                                (λ s h none go. given_in tt tt tt),
                                                tt,
                                              ),
                                            ),
                                          ),
                                        ),
                                      ),
                                    ),
                                  ),
                                ),
                              ),
                            ),
                          ),
                        ),
                      ),
                    ),
                  ),
                ),
              ),
            ),
          ),
        ),
      ),
    ),
  ),
)

-- what is read through an iterator is there
read_there : (s : Situation) → HasObject of_first s → first_failure (dereference_fails s.memory (place_of s 1) 1) ≡ None
    → HasElement s.memory s.object (index s 1)
read_there s there none = by_place (place_of s 1) refl none
  where
    before : (k n : ℕ) → k ≤ n → (k == n) ≡ false → k < n
    before k n low t = let q = eqb-false k n t in omega arith

    by_place : (o : Option (ℕ × ℕ)) → place_of s 1 ≡ o → first_failure (dereference_fails s.memory o 1) ≡ None
        → HasElement s.memory s.object (index s 1)
    by_place None e h = absurd (cc)
    by_place (Some p) e h =
        let at = first_place s p there e in
        let told : (p.1 == size (cont_at s.memory p.0)) ≡ false =
        no_fails (p.1 == size (cont_at s.memory p.0)) END_ITERATOR 1 (no_failure (dereference_fails s.memory (Some p) 1) h) in
        let same : Some p ≡ Some (s.object, index s 1) = sym e ∙ first_stands s p there e in
        let here : ◌≡◌ {A = ℕ × ℕ} p (s.object, index s 1) = cc in
        record {
          there = at.there;
          within = before (index s 1) (size (cont_at s.memory s.object)) at.within
              (subst (λ (q : ℕ × ℕ). (q.1 == size (cont_at s.memory q.0)) ≡ false) here told);
        }

-- the first operand stands in the object where an operator moves it
stepped_stands_in : (s : Situation) (z : ℤ) → HasObject of_first s → first_failure (step_fails s.memory (place_of s 1) z) ≡ None
    → place_of s 1 ≡ Some (s.object, index s 1)
stepped_stands_in s z there none = let p = moved-stands s.memory (place_of s 1) z none in first_stands s p.0 there p.1

-- each operator
pub operator-gives-in : (name : List ℕ) (o : Operator) → RowGivesIn false (row_of_operator name o)
operator-gives-in name operators.Dereference s h none go = given_in refl (read_there s h.object none) tt
operator-gives-in name operators.ArrowFirst s h none go = given_in refl (read_there s h.object none) tt
operator-gives-in name operators.ArrowSecond s h none go = given_in refl (read_there s h.object none) tt
operator-gives-in name operators.Increment s h none go =
    given_in refl tt (stepped_stands_in s (steps_by operators.Increment s) h.object none)
operator-gives-in name operators.Decrement s h none go =
    given_in refl tt (stepped_stands_in s (steps_by operators.Decrement s) h.object none)
operator-gives-in name operators.Add s h none go = given_in refl tt (stepped_stands_in s (steps_by operators.Add s) h.object none)
operator-gives-in name operators.Subtract s h none go = given_in refl tt (stepped_stands_in s (steps_by operators.Subtract s) h.object none)
operator-gives-in name operators.AddAssign s h none go =
    given_in refl tt (stepped_stands_in s (steps_by operators.AddAssign s) h.object none)
operator-gives-in name operators.SubtractAssign s h none go =
    given_in refl tt (stepped_stands_in s (steps_by operators.SubtractAssign s) h.object none)
operator-gives-in name operators.Difference s h none go = given_in tt tt tt
operator-gives-in name (operators.Compare k) s h none go = given_in tt tt tt

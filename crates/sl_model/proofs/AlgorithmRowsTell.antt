-- Each row of an algorithm and of an operator tells its shape, makes no container, and what it gives stands somewhere.
use Rattle.std.proofs.Common.{◌≡◌, ℕ, ◌+◌, ◌≤◌, true, false, List, [], ◌∷◌, ◌++◌, Option, Some, None, length, length-append, refl, arith}
use Rattle.std.specs.Prelude.{ℤ, int_lt, int_le}
use Rattle.sl_specs.specs.declared.call.Call.{Call}
use Rattle.sl_specs.specs.declared.call.Call.TheVariants as c
use Rattle.sl_specs.specs.declared.letter.Letter.TheVariants as a
use Rattle.sl_specs.specs.declared.need.Need.TheVariants as n
use Rattle.sl_specs.specs.declared.return_type.ReturnType.TheVariants as g
use Rattle.sl_specs.specs.declared.class.Class.TheVariants as classes
use Rattle.sl_specs.specs.Rows.{Row as TableRow}
use Rattle.sl_specs.specs.AlgorithmRows.{algorithm, algorithm_rows}
use Rattle.sl_syntax.specs.declared.typed.operator.Operator.{Operator}
use Rattle.sl_syntax.specs.declared.typed.operator.Operator.TheVariants as operators
use Rattle.sl_model.specs.Memory.Containers.{Memory}
use Rattle.sl_model.specs.Memory.Edits.{after}
use Rattle.sl_model.specs.Memory.Rearrangements.{overwrites}
use Rattle.sl_model.specs.Memory.Orders.{firsts, others}
use Rattle.sl_model.specs.LibraryCalls.Operands.{steps_of, written_keys}
use Rattle.sl_model.specs.LibraryCalls.Situation.{Situation, own, place_of, index, int_of, range_keys, range_size}
use Rattle.sl_model.specs.LibraryCalls.Needs.{first_failure}
use Rattle.sl_model.specs.LibraryCalls.WritingAlgorithms.{output}
use Rattle.sl_model.specs.LibraryCalls.Operators.{step_fails, steps_by}
use Rattle.sl_model.specs.LibraryCalls.Rows.{of_first, algorithm_row, row_of_operator}
use Rattle.sl_model.proofs.Called.{HasObject}
use Rattle.sl_model.proofs.Placing.{HasPlace}
use Rattle.sl_model.proofs.Tells.{tells, RowTells, AllOf}
use Rattle.sl_model.proofs.AlgorithmsTell.{IsRange, first_range, first_place, along_range, range_keys-low, in_range-low, passing-low}
use Rattle.sl_model.proofs.AlgorithmsTell.{least_place-low, greatest_place-low, overwrites-place, movable, stepped-place}
use Rattle.sl_model.proofs.OutputsTell.{writer_of_three, writer_of_five, sequence_of_three, sequence_of_five, appender-tells, second_of_two}
use Rattle.sl_model.proofs.OutputsTell.{last_of_three}

-- what isn't greater than the number of keys of the range isn't greater than its size
shorter : (s : Situation) (n : ℕ) → n ≤ length (range_keys s 1) → n ≤ range_size s 1
shorter s n low = let p = range_keys-low s in omega arith

-- the end of what is kept of a range, behind which other numbers are written
shortened-place : (s : Situation) (site : ℕ) (kept rest : List ℤ) → HasObject of_first s → IsRange s
    → HasPlace (after (overwrites (index s 1) (kept ++ rest) (own s)) s.memory s.object (own s) site) s.object (index s 1 + length kept)
shortened-place s site kept rest there r = let h = first_place s r.from there r.from_there in
    overwrites-place s.memory s.object (own s) site (index s 1) (length kept) (kept ++ rest) h.there
    (let p = length-append kept rest in omega arith)

-- the row of `copy`
abbrev copy_row : TableRow
copy_row = algorithm c.Copy (a.IntRange ∷ a.Output ∷ []) g.Output (n.OneRange ∷ n.OutputFits ∷ [])

-- the row of a merge or set operation
abbrev set_row : Call → TableRow
set_row call = algorithm call (a.IntRange ∷ a.SecondIntRange ∷ a.Output ∷ []) g.Output (n.OneRange ∷ n.RangesSorted ∷ n.OutputFits ∷ [])

-- each algorithm whose output is written through
pub algorithm-tells : AllOf (λ r. RowTells (algorithm_row false r)) algorithm_rows
algorithm-tells = (
  (λ s h none. tells refl refl (along_range s _ h.object (first_range s _ _ none) (in_range-low s (int_of s 3)))),
  (
    (λ s h none. tells refl refl tt),
    (
      (λ s h none. tells refl refl tt),
      (
        (λ s h none. tells refl refl (along_range s _ h.object (first_range s _ _ none) (passing-low s (λ y. int_lt y (int_of s 3))))),
        (
          (λ s h none. tells refl refl (along_range s _ h.object (first_range s _ _ none) (passing-low s (λ y. int_le y (int_of s 3))))),
          (
            (λ s h none. tells refl refl tt),
            (
              (λ s h none. let t = last_of_three (set_row c.Merge) classes.Nothing (own s).form s (written_keys c.Merge s)
                  (writer_of_five s.memory s.values h.operands) none in tells t.0 t.1 t.2),
              (
                (λ s h none. tells refl refl tt),
                (
                  (λ s h none. let t = last_of_three (set_row c.SetUnion) classes.Nothing (own s).form s (written_keys c.SetUnion s)
                      (writer_of_five s.memory s.values h.operands) none in tells t.0 t.1 t.2),
                  (
                    (λ s h none. let t = last_of_three (set_row c.SetIntersection) classes.Nothing (own s).form s
                        (written_keys c.SetIntersection s) (writer_of_five s.memory s.values h.operands) none in tells t.0 t.1 t.2),
                    (
                      (λ s h none. let t = last_of_three (set_row c.SetDifference) classes.Nothing (own s).form s (written_keys c.SetDifference s)
                          (writer_of_five s.memory s.values h.operands) none in tells t.0 t.1 t.2),
                      (
                        (λ s h none. let t = second_of_two copy_row classes.Nothing (own s).form s (written_keys c.Copy s)
                            (writer_of_three s.memory s.values h.operands) none in tells t.0 t.1 t.2),
                        (
                          (λ s h none. tells refl refl tt),
                          (
                            (λ s h none. tells refl refl tt),
                            (
                              (λ s h none. tells refl refl (shortened-place s s.site (firsts (range_keys s 1)) _ h.object (first_range s _ _ none))),
                              (
                                (λ s h none. tells refl refl
                                    (shortened-place s s.site (others (int_of s 3) (range_keys s 1)) _ h.object (first_range s _ _ none))),
                                (
                                  (λ s h none. tells refl refl tt),
                                  (
                                    (λ s h none. tells refl refl tt),
                                    (
                                      (λ s h none. let p = movable s.memory (place_of s 1) (steps_of c.Advance s) [] none in tells refl refl
                                          (stepped-place s (steps_of c.Advance s) p.0 h.object p.1)),
                                      (
                                        (λ s h none. let p = movable s.memory (place_of s 1) (steps_of c.Next s) [] none in tells refl refl
                                            (stepped-place s (steps_of c.Next s) p.0 h.object p.1)),
                                        (
                                          (λ s h none. let p = movable s.memory (place_of s 1) (steps_of c.Prev s) [] none in tells refl refl
                                              (stepped-place s (steps_of c.Prev s) p.0 h.object p.1)),
                                          (
                                            (λ s h none. tells refl refl
                                                (along_range s _ h.object (first_range s _ _ none) (shorter s _ (least_place-low (range_keys s 1))))),
                                            (
                                              (λ s h none. tells refl refl
                                                  (along_range s _ h.object (first_range s _ _ none)
                                                  (shorter s _ (greatest_place-low (range_keys s 1))))),
                                              (
                                                (λ s h none. tells refl refl tt),
                                                tt,
                                              ),
                                            ),
                                          ),
                                        ),
                                      ),
                                    ),
                                  ),
                                ),
                              ),
                            ),
                          ),
                        ),
                      ),
                    ),
                  ),
                ),
              ),
            ),
          ),
        ),
      ),
    ),
  ),
)

-- each algorithm whose output is an appender
pub appending-tells : AllOf (λ r. RowTells (algorithm_row true r)) algorithm_rows
appending-tells = (
  (λ s h none. tells refl refl (along_range s _ h.object (first_range s _ _ none) (in_range-low s (int_of s 3)))),
  (
    (λ s h none. tells refl refl tt),
    (
      (λ s h none. tells refl refl tt),
      (
        (λ s h none. tells refl refl (along_range s _ h.object (first_range s _ _ none) (passing-low s (λ y. int_lt y (int_of s 3))))),
        (
          (λ s h none. tells refl refl (along_range s _ h.object (first_range s _ _ none) (passing-low s (λ y. int_le y (int_of s 3))))),
          (
            (λ s h none. tells refl refl tt),
            (
              (λ s h none. let t = appender-tells classes.Nothing (own s).form s (output s) (written_keys c.Merge s)
                  (sequence_of_five s.memory s.values h.operands) in tells t.0 t.1 t.2),
              (
                (λ s h none. tells refl refl tt),
                (
                  (λ s h none. let t = appender-tells classes.Nothing (own s).form s (output s) (written_keys c.SetUnion s)
                      (sequence_of_five s.memory s.values h.operands) in tells t.0 t.1 t.2),
                  (
                    (λ s h none. let t = appender-tells classes.Nothing (own s).form s (output s) (written_keys c.SetIntersection s)
                        (sequence_of_five s.memory s.values h.operands) in tells t.0 t.1 t.2),
                    (
                      (λ s h none. let t = appender-tells classes.Nothing (own s).form s (output s) (written_keys c.SetDifference s)
                          (sequence_of_five s.memory s.values h.operands) in tells t.0 t.1 t.2),
                      (
                        (λ s h none. let t = appender-tells classes.Nothing (own s).form s (output s) (written_keys c.Copy s)
                            (sequence_of_three s.memory s.values h.operands) in tells t.0 t.1 t.2),
                        (
                          (λ s h none. tells refl refl tt),
                          (
                            (λ s h none. tells refl refl tt),
                            (
                              (λ s h none. tells refl refl (shortened-place s s.site (firsts (range_keys s 1)) _ h.object (first_range s _ _ none))),
                              (
                                (λ s h none. tells refl refl
                                    (shortened-place s s.site (others (int_of s 3) (range_keys s 1)) _ h.object (first_range s _ _ none))),
                                (
                                  (λ s h none. tells refl refl tt),
                                  (
                                    (λ s h none. tells refl refl tt),
                                    (
                                      (λ s h none. let p = movable s.memory (place_of s 1) (steps_of c.Advance s) [] none in tells refl refl
                                          (stepped-place s (steps_of c.Advance s) p.0 h.object p.1)),
                                      (
                                        (λ s h none. let p = movable s.memory (place_of s 1) (steps_of c.Next s) [] none in tells refl refl
                                            (stepped-place s (steps_of c.Next s) p.0 h.object p.1)),
                                        (
                                          (λ s h none. let p = movable s.memory (place_of s 1) (steps_of c.Prev s) [] none in tells refl refl
                                              (stepped-place s (steps_of c.Prev s) p.0 h.object p.1)),
                                          (
                                            (λ s h none. tells refl refl
                                                (along_range s _ h.object (first_range s _ _ none) (shorter s _ (least_place-low (range_keys s 1))))),
                                            (
                                              (λ s h none. tells refl refl
                                                  (along_range s _ h.object (first_range s _ _ none)
                                                  (shorter s _ (greatest_place-low (range_keys s 1))))),
                                              (
                                                (λ s h none. tells refl refl tt),
                                                tt,
                                              ),
                                            ),
                                          ),
                                        ),
                                      ),
                                    ),
                                  ),
                                ),
                              ),
                            ),
                          ),
                        ),
                      ),
                    ),
                  ),
                ),
              ),
            ),
          ),
        ),
      ),
    ),
  ),
)

-- the iterator that an operator moves stands somewhere
pub moved-stands : (m : Memory) (o : Option (ℕ × ℕ)) (z : ℤ) → first_failure (step_fails m o z) ≡ None → (p : ℕ × ℕ) × (o ≡ Some p)
moved-stands m None z e = absurd (cc)
moved-stands m (Some p) z e = (p, refl)

-- each operator
pub operator-tells : (name : List ℕ) (o : Operator) → RowTells (row_of_operator name o)
operator-tells name operators.Dereference s h n = tells refl refl tt
operator-tells name operators.ArrowFirst s h n = tells refl refl tt
operator-tells name operators.ArrowSecond s h n = tells refl refl tt
operator-tells name operators.Increment s h n =
    let p = moved-stands s.memory (place_of s 1) (steps_by operators.Increment s) n in tells refl refl
    (stepped-place s (steps_by operators.Increment s) p.0 h.object p.1)
operator-tells name operators.Decrement s h n =
    let p = moved-stands s.memory (place_of s 1) (steps_by operators.Decrement s) n in tells refl refl
    (stepped-place s (steps_by operators.Decrement s) p.0 h.object p.1)
operator-tells name operators.Add s h n =
    let p = moved-stands s.memory (place_of s 1) (steps_by operators.Add s) n in tells refl refl
    (stepped-place s (steps_by operators.Add s) p.0 h.object p.1)
operator-tells name operators.Subtract s h n =
    let p = moved-stands s.memory (place_of s 1) (steps_by operators.Subtract s) n in tells refl refl
    (stepped-place s (steps_by operators.Subtract s) p.0 h.object p.1)
operator-tells name operators.AddAssign s h n =
    let p = moved-stands s.memory (place_of s 1) (steps_by operators.AddAssign s) n in tells refl refl
    (stepped-place s (steps_by operators.AddAssign s) p.0 h.object p.1)
operator-tells name operators.SubtractAssign s h n =
    let p = moved-stands s.memory (place_of s 1) (steps_by operators.SubtractAssign s) n in tells refl refl
    (stepped-place s (steps_by operators.SubtractAssign s) p.0 h.object p.1)
operator-tells name operators.Difference s h n = tells refl refl tt
operator-tells name (operators.Compare k) s h n = tells refl refl tt

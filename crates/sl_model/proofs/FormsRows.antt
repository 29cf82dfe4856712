-- Each row of the library exchanges elements between containers of one form alone: of its calls, swap, splice and merge exchange any, and
-- their operands are containers of the form of the object.
use Rattle.std.proofs.Common.{◌≡◌, ℕ, ◌+◌, ◌==◌, Bool, true, false, List, [], ◌∷◌, Some, sym, ◌∙◌, if◌then◌else◌, ℤ, pos, replicate}
use Rattle.std.specs.Prelude.{nat_lt, take, drop}
use Rattle.std.specs.List.{slice_get}
use Rattle.sl_base.specs.declared.form.Form.{Form}
use Rattle.sl_base.specs.declared.form.Form.TheVariants as f
use Rattle.sl_specs.specs.declared.call.Call.TheVariants as c
use Rattle.sl_specs.specs.declared.class.Class.{Class}
use Rattle.sl_specs.specs.Forms.{is_hash}
use Rattle.sl_specs.specs.Rows.{Row as TableRow, Line, row_of as row_of_line}
use Rattle.sl_specs.specs.ContainerLines.{container_lines}
use Rattle.sl_specs.specs.MultiLines.{multi_lines}
use Rattle.sl_specs.specs.AlgorithmRows.{algorithm_rows}
use Rattle.sl_specs.specs.Table.{table}
use Rattle.sl_syntax.specs.declared.typed.callee.Callee.{Callee}
use Rattle.sl_syntax.specs.declared.typed.operator.Operator.{Operator}
use Rattle.sl_model.specs.Memory.Containers.{size}
use Rattle.sl_model.specs.LibraryCalls.Values.{Value, nothing, number, iterator, pair, two, scalar_at, container_at, element_at}
use Rattle.sl_model.specs.LibraryCalls.Operands.{an_iterator, is_of_form, written_keys}
use Rattle.sl_model.specs.Memory.Schedule.{pick}
use Rattle.sl_model.specs.LibraryCalls.Situation.{Situation, own, own_size, their, their_size, container_of, index, range_size, range_keys, int_of, count_of, item}
use Rattle.sl_model.specs.LibraryCalls.Situation.{as_items, listed}
use Rattle.sl_model.specs.Memory.Rearrangements.{arranged, exchanged, received, given, moved_order}
use Rattle.sl_model.specs.LibraryCalls.Actions.{keeps, edits, changes, trades}
use Rattle.sl_model.specs.LibraryCalls.AccessActions.{untouched, rehashed, reserved, swap}
use Rattle.sl_model.specs.LibraryCalls.ListActions.{merged, merge, splices}
use Rattle.sl_model.specs.LibraryCalls.MakeActions.{filled}
use Rattle.sl_model.specs.LibraryCalls.WritingAlgorithms.{output, outputs}
use Rattle.sl_model.specs.LibraryCalls.Rows.{of_form, Row, member_row, algorithm_row, meaning_of, row_of_operator, row_of}
use Rattle.sl_model.proofs.Called.{HasObject, IsCalled, own_form}
use Rattle.sl_model.proofs.FormsEffects.{TradesOneForm}
use Rattle.sl_model.proofs.TableRows.{all_table, row-holds}
use Rattle.sl_model.proofs.Tells.{AllOf, all_parts, all_rows_on}
use Rattle.sl_model.proofs.OperandForms.{first_of_form, second_of_form, form_there}

-- wherever a row is called, it exchanges elements between containers of one form alone
abbrev pub RowTradesOneForm : Row → Type 0
RowTradesOneForm r = (s : Situation) → IsCalled r s → TradesOneForm s (r.action.effect s)

-- a line of the table does so on a form
abbrev LineTradesOneForm : Form → Line → Type 0
LineTradesOneForm form x = (kills : Class) → RowTradesOneForm (member_row form (row_of_line (Some form) x kills))

-- a row of an algorithm does so, whether its output is an appender or not
abbrev AlgorithmTradesOneForm : Bool → TableRow → Type 0
AlgorithmTradesOneForm appends r = RowTradesOneForm (algorithm_row appends r)

-- ## What the calls do

-- a new container
filled-one : (form : Form) (s : Situation) (xs : List (ℤ × ℤ)) → TradesOneForm s (filled form xs s.picks)
filled-one f.Vector s xs = tt
filled-one f.Deque s xs = tt
filled-one f.List s xs = tt
filled-one f.Set s xs = tt
filled-one f.Map s xs = tt
filled-one f.HashSet s xs = tt
filled-one f.HashMap s xs = tt
filled-one f.MultiSet s xs = tt
filled-one f.MultiMap s xs = tt

-- reserve
reserved-one : (s : Situation) (n : ℕ) → TradesOneForm s (reserved s.object (own s) n s.picks)
reserved-one s n = by_hash (is_hash (own s).form) (nat_lt (own s).room n)
  where
    by_hash : (h b : Bool) → TradesOneForm s (if h
        then changes (size (own s) + 1) s.object (rehashed (own s) n s.picks)
        else if b then edits 1 (untouched (n + pick s.picks)) else edits 0 (untouched (own s).room))
    by_hash true b = tt
    by_hash false true = tt
    by_hash false false = tt

-- an output
outputs-one : (s : Situation) (v : Value) (xs : List ℤ) → TradesOneForm s (outputs s v xs)
outputs-one s nothing xs = tt
outputs-one s (number z) xs = tt
outputs-one s (iterator i) xs = tt
outputs-one s (pair i b) xs = tt
outputs-one s (two i j) xs = tt
outputs-one s (scalar_at l) xs = tt
outputs-one s (container_at l) xs = tt
outputs-one s (element_at i j part) xs = tt

-- the object and another container of the form of the row are of one form
their_form : (form : Form) (s : Situation) (a : ℕ) → HasObject (of_form form) s
    → is_of_form form (slice_get s.memory.conts (container_of s a)) ≡ true → (own s).form ≡ (their s a).form
their_form form s a there h = own_form form s there ∙ sym (form_there s.memory form (container_of s a) h)

-- swap
swap-one : (form : Form) (s : Situation) → HasObject (of_form form) s
    → is_of_form form (slice_get s.memory.conts (container_of s 1)) ≡ true → TradesOneForm s (swap.effect s)
swap-one form s there h = by_same (container_of s 1 == s.object)
  where
    by_same : (b : Bool) → TradesOneForm s (if b
        then edits 0 (untouched (own s).room)
        else trades (container_of s 1) (exchanged (own s) (their s 1)) (exchanged (their s 1) (own s)))
    by_same true = tt
    by_same false = their_form form s 1 there h

-- merge
merge-one : (form : Form) (s : Situation) → HasObject (of_form form) s
    → is_of_form form (slice_get s.memory.conts (container_of s 1)) ≡ true → TradesOneForm s (merge.effect s)
merge-one form s there h = by_same (container_of s 1 == s.object)
  where
    by_same : (b : Bool) → TradesOneForm s (if b
        then keeps
        else trades (container_of s 1) (merged (own s) (their s 1)) (given 0 (their_size s 1) (their s 1)))
    by_same true = tt
    by_same false = their_form form s 1 there h

-- splice
splices-one : (form : Form) (s : Situation) (from count : ℕ) → HasObject (of_form form) s
    → is_of_form form (slice_get s.memory.conts (container_of s 2)) ≡ true → TradesOneForm s (splices s from count)
splices-one form s from count there h = by_same (container_of s 2 == s.object)
  where
    by_same : (b : Bool) → TradesOneForm s (if b
        then changes 0 s.object (arranged (moved_order (own_size s) (index s 1) from count) (own s))
        else trades (container_of s 2) (received (index s 1) from count (own s)) (given from count (their s 2)))
    by_same true = tt
    by_same false = their_form form s 2 there h

-- ## Each row

-- each call on a container but a multiset or multimap
containers-trade : (form : Form) → AllOf (LineTradesOneForm form) container_lines
containers-trade form = all_parts (LineTradesOneForm form) 6 container_lines makings
    (all_parts (LineTradesOneForm form) 6 (drop 6 container_lines) ends
    (all_parts (LineTradesOneForm form) 6 (drop 12 container_lines) indices
    (all_parts (LineTradesOneForm form) 6 (drop 18 container_lines) places
    (all_parts (LineTradesOneForm form) 6 (drop 24 container_lines) keyed
    (all_parts (LineTradesOneForm form) 6 (drop 30 container_lines) sizes
    (all_parts (LineTradesOneForm form) 6 (drop 36 container_lines) searches lists))))))
  where
    makings : AllOf (LineTradesOneForm form) (take 6 container_lines)
    makings = (
      (λ kills s h. filled-one form s []),
      (
        (λ kills s h. filled-one form s (listed s.values)),
        (
          (λ kills s h. tt),
          (
            (λ kills s h. filled-one form s (replicate (count_of s 1) (item (pos 0)))),
            (
              (λ kills s h. filled-one form s (replicate (count_of s 1) (item (int_of s 2)))),
              ((λ kills s h. filled-one form s (as_items (range_keys s 1))), tt),
            ),
          ),
        ),
      ),
    )

    ends : AllOf (LineTradesOneForm form) (take 6 (drop 6 container_lines))
    ends = ((λ kills s h. tt), ((λ kills s h. tt), ((λ kills s h. tt), ((λ kills s h. tt), ((λ kills s h. tt), ((λ kills s h. tt), tt))))))

    indices : AllOf (LineTradesOneForm form) (take 6 (drop 12 container_lines))
    indices = ((λ kills s h. tt), ((λ kills s h. tt), ((λ kills s h. tt), ((λ kills s h. tt), ((λ kills s h. tt), ((λ kills s h. tt), tt))))))

    places : AllOf (LineTradesOneForm form) (take 6 (drop 18 container_lines))
    places = ((λ kills s h. tt), ((λ kills s h. tt), ((λ kills s h. tt), ((λ kills s h. tt), ((λ kills s h. tt), ((λ kills s h. tt), tt))))))

    keyed : AllOf (LineTradesOneForm form) (take 6 (drop 24 container_lines))
    keyed = ((λ kills s h. tt), ((λ kills s h. tt), ((λ kills s h. tt), ((λ kills s h. tt), ((λ kills s h. tt), ((λ kills s h. tt), tt))))))

    sizes : AllOf (LineTradesOneForm form) (take 6 (drop 30 container_lines))
    sizes = (
      (λ kills s h. tt),
      (
        (λ kills s h. tt),
        (
          (λ kills s h. tt),
          (
            (λ kills s h. tt),
            (
              (λ kills s h. reserved-one s (count_of s 1)),
              ((λ kills s h. swap-one form s h.object (first_of_form s.memory form [] s.values h.operands)), tt),
            ),
          ),
        ),
      ),
    )

    searches : AllOf (LineTradesOneForm form) (take 6 (drop 36 container_lines))
    searches = ((λ kills s h. tt), ((λ kills s h. tt), ((λ kills s h. tt), ((λ kills s h. tt), ((λ kills s h. tt), ((λ kills s h. tt), tt))))))

    lists : AllOf (LineTradesOneForm form) (drop 42 container_lines)
    lists = (
      (λ kills s h. tt),
      (
        (λ kills s h. tt),
        (
          (λ kills s h. merge-one form s h.object (first_of_form s.memory form [] s.values h.operands)),
          (
            (λ kills s h. splices-one form s 0 (their_size s 2) h.object (second_of_form s.memory form [] s.values h.operands)),
            (
              (λ kills s h. splices-one form s (index s 3) 1 h.object (second_of_form s.memory form (an_iterator ∷ []) s.values h.operands)),
              (
                (λ kills s h. splices-one form s (index s 3) (range_size s 3) h.object
                    (second_of_form s.memory form (an_iterator ∷ an_iterator ∷ []) s.values h.operands)),
                tt,
              ),
            ),
          ),
        ),
      ),
    )

-- each call on a multiset or multimap
multis-trade : (form : Form) → AllOf (LineTradesOneForm form) multi_lines
multis-trade form = all_parts (LineTradesOneForm form) 5 multi_lines makings
    (all_parts (LineTradesOneForm form) 6 (drop 5 multi_lines) ends (all_parts (LineTradesOneForm form) 6 (drop 11 multi_lines) changings searches))
  where
    makings : AllOf (LineTradesOneForm form) (take 5 multi_lines)
    makings = (
      (λ kills s h. filled-one form s []),
      (
        (λ kills s h. tt),
        (
          (λ kills s h. filled-one form s (listed s.values)),
          ((λ kills s h. filled-one form s (as_items (range_keys s 1))), ((λ kills s h. tt), tt)),
        ),
      ),
    )

    ends : AllOf (LineTradesOneForm form) (take 6 (drop 5 multi_lines))
    ends = ((λ kills s h. tt), ((λ kills s h. tt), ((λ kills s h. tt), ((λ kills s h. tt), ((λ kills s h. tt), ((λ kills s h. tt), tt))))))

    changings : AllOf (LineTradesOneForm form) (take 6 (drop 11 multi_lines))
    changings = (
      (λ kills s h. tt),
      (
        (λ kills s h. tt),
        (
          (λ kills s h. tt),
          (
            (λ kills s h. tt),
            ((λ kills s h. tt), ((λ kills s h. swap-one form s h.object (first_of_form s.memory form [] s.values h.operands)), tt)),
          ),
        ),
      ),
    )

    searches : AllOf (LineTradesOneForm form) (drop 17 multi_lines)
    searches = ((λ kills s h. tt), ((λ kills s h. tt), ((λ kills s h. tt), ((λ kills s h. tt), ((λ kills s h. tt), tt)))))

-- each algorithm
algorithms-trade : (appends : Bool) → AllOf (AlgorithmTradesOneForm appends) algorithm_rows
algorithms-trade appends = all_parts (AlgorithmTradesOneForm appends) 6 algorithm_rows first_six
    (all_parts (AlgorithmTradesOneForm appends) 6 (drop 6 algorithm_rows) second_six
    (all_parts (AlgorithmTradesOneForm appends) 6 (drop 12 algorithm_rows) third_six last_six))
  where
    first_six : AllOf (AlgorithmTradesOneForm appends) (take 6 algorithm_rows)
    first_six = ((λ s h. tt), ((λ s h. tt), ((λ s h. tt), ((λ s h. tt), ((λ s h. tt), ((λ s h. tt), tt))))))

    second_six : AllOf (AlgorithmTradesOneForm appends) (take 6 (drop 6 algorithm_rows))
    second_six = (
      (λ s h. outputs-one s (output s) (written_keys c.Merge s)),
      (
        (λ s h. tt),
        (
          (λ s h. outputs-one s (output s) (written_keys c.SetUnion s)),
          (
            (λ s h. outputs-one s (output s) (written_keys c.SetIntersection s)),
            (
              (λ s h. outputs-one s (output s) (written_keys c.SetDifference s)),
              ((λ s h. outputs-one s (output s) (written_keys c.Copy s)), tt),
            ),
          ),
        ),
      ),
    )

    third_six : AllOf (AlgorithmTradesOneForm appends) (take 6 (drop 12 algorithm_rows))
    third_six = ((λ s h. tt), ((λ s h. tt), ((λ s h. tt), ((λ s h. tt), ((λ s h. tt), ((λ s h. tt), tt))))))

    last_six : AllOf (AlgorithmTradesOneForm appends) (drop 18 algorithm_rows)
    last_six = ((λ s h. tt), ((λ s h. tt), ((λ s h. tt), ((λ s h. tt), ((λ s h. tt), ((λ s h. tt), tt))))))

-- each operator
operator-trades : (name : List ℕ) (o : Operator) → RowTradesOneForm (row_of_operator name o)
operator-trades name o s h = tt

-- each row of the table
table-trades : (appends : Bool) → AllOf (λ r. RowTradesOneForm (meaning_of appends r)) table
table-trades appends = all_table (λ r. RowTradesOneForm (meaning_of appends r))
    (λ form e. all_rows_on (λ r. RowTradesOneForm (meaning_of appends r)) form container_lines (containers-trade form))
    (λ form e. all_rows_on (λ r. RowTradesOneForm (meaning_of appends r)) form multi_lines (multis-trade form))
    (algorithms-trade appends)

-- the row of what is called
pub row-trades : (callee : Callee) (r : Row) → row_of callee ≡ Some r → RowTradesOneForm r
row-trades = row-holds RowTradesOneForm table-trades operator-trades

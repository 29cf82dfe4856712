-- What an algorithm gives is of the type of its result: that of its first operand, or of its output.
use Rattle.std.proofs.Common.{◌≡◌, ℕ, true, false, List, [], ◌∷◌, Some, None, refl, ap, ◌∙◌, subst, option_map, length}
use Rattle.std.specs.Prelude.{slice_get}
use Rattle.sl_specs.specs.declared.letter.Letter.{Letter}
use Rattle.sl_base.specs.declared.form.Form.{Form}
use Rattle.sl_base.specs.declared.form.Form.TheVariants as f
use Rattle.sl_specs.specs.declared.call.Call.TheVariants as c
use Rattle.sl_specs.specs.declared.letter.Letter.TheVariants as a
use Rattle.sl_specs.specs.declared.need.Need.TheVariants as n
use Rattle.sl_specs.specs.declared.return_type.ReturnType.{ReturnType}
use Rattle.sl_specs.specs.declared.return_type.ReturnType.TheVariants as returns
use Rattle.sl_specs.specs.declared.class.Class.{Class}
use Rattle.sl_specs.specs.Rows.{Row as TableRow, Line, row_of as row_of_line, rows_on}
use Rattle.sl_specs.specs.ContainerLines.{container_lines}
use Rattle.sl_specs.specs.MultiLines.{multi_lines}
use Rattle.sl_specs.specs.AlgorithmRows.{algorithm, algorithm_rows}
use Rattle.sl_specs.specs.Table.{table}
use Rattle.sl_syntax.specs.declared.typed.callee.Callee.TheVariants as callees
use Rattle.sl_typing.specs.declared.expr_type.ExprType.{ExprType}
use Rattle.sl_typing.specs.Types.{has_type, is_iterator}
use Rattle.sl_typing.specs.Signatures.{first_type, last_type, result_type}
use Rattle.sl_model.specs.Memory.Containers.{Memory}
use Rattle.sl_model.specs.LibraryCalls.Values.{Shape, a_number, a_stamp}
use Rattle.sl_model.specs.LibraryCalls.Situation.{Situation}
use Rattle.sl_model.specs.LibraryCalls.Actions.{Answer}
use Rattle.sl_model.specs.LibraryCalls.Library.{value_in}
use Rattle.sl_model.specs.Runs.Good.{IsSound}
use Rattle.sl_model.specs.LibraryCalls.Rows.{Object, of_first, Row, algorithm_shape, algorithm_row, meaning_of}
use Rattle.sl_model.specs.Typing.WellTypedCalls.{fits, is_advance}
use Rattle.sl_model.proofs.Placing.{IsPlaced}
use Rattle.sl_model.proofs.Tells.{AllOf, all_at, all_rows_on, shape_of_answer, memory_after, Tells}
use Rattle.sl_model.proofs.TableRows.{all_table}
use Rattle.sl_model.proofs.Passing.{first_of_both, three_parts}
use Rattle.sl_model.proofs.LibraryGood.{row-tells}
use Rattle.sl_model.proofs.Fitting.{KeepsForms, AllFit, IsGiven}
use Rattle.sl_model.proofs.GivenIn.{is_output, OperandStands, operand_given, GivesIn}
use Rattle.sl_model.proofs.LibraryGives.{numbered-gives-in}
use Rattle.sl_model.proofs.TypedRows.{meaning_alone}
use Rattle.sl_model.proofs.AnswersFit.{IsCarriedOut, RowGives, number_given, operand_type_given, operand_fits}
use Rattle.sl_model.proofs.ScopedRows.{right_result, right_call, right_move, found_right, first_is_iterator, last_is_iterator, advance_alone}

-- ## Each algorithm

-- the shape of what an algorithm gives, as far as its type asks
abbrev ShapeOf : ReturnType → Shape → Type 0
ShapeOf returns.Nothing shape = Unit {0}
ShapeOf (returns.Number ty) shape = shape ≡ a_number
ShapeOf returns.FirstArgument shape = shape ≡ a_stamp
ShapeOf returns.Output shape = shape ≡ a_stamp
ShapeOf returns.Appender shape = Unit {0}
ShapeOf gives shape = ⊥

-- the operand whose type is given is an iterator
abbrev IsTyped : ReturnType → List ExprType → Type 0
IsTyped returns.FirstArgument us = is_iterator (first_type us) ≡ true
IsTyped returns.Output us = is_iterator (last_type us) ≡ true
IsTyped gives us = Unit {0}

-- the row of `advance`
abbrev pub advance_row : TableRow
advance_row = algorithm c.Advance (a.IteratorVariable ∷ a.Distance ∷ []) returns.Nothing (n.Movable ∷ [])

-- what an algorithm gives has the shape that its type asks for, and `advance` has one row
abbrev AlgorithmIs : TableRow → Type 0
AlgorithmIs r = ShapeOf r.gives (algorithm_shape false r.call r.gives) × (is_advance r ≡ true → r ≡ advance_row)

-- so it is with each algorithm
each_algorithm : AllOf AlgorithmIs algorithm_rows
each_algorithm = (
  (refl, λ e. absurd (cc)),
  (
    (refl, λ e. absurd (cc)),
    (
      (tt, λ e. absurd (cc)),
      (
        (refl, λ e. absurd (cc)),
        (
          (refl, λ e. absurd (cc)),
          (
            (refl, λ e. absurd (cc)),
            (
              (refl, λ e. absurd (cc)),
              (
                (refl, λ e. absurd (cc)),
                (
                  (refl, λ e. absurd (cc)),
                  (
                    (refl, λ e. absurd (cc)),
                    (
                      (refl, λ e. absurd (cc)),
                      (
                        (refl, λ e. absurd (cc)),
                        (
                          (tt, λ e. absurd (cc)),
                          (
                            (tt, λ e. absurd (cc)),
                            (
                              (refl, λ e. absurd (cc)),
                              (
                                (refl, λ e. absurd (cc)),
                                (
                                  (refl, λ e. absurd (cc)),
                                  (
                                    (refl, λ e. absurd (cc)),
                                    (
                                      (tt, λ e. refl),
                                      (
                                        (refl, λ e. absurd (cc)),
                                        ((refl, λ e. absurd (cc)), ((refl, λ e. absurd (cc)), ((refl, λ e. absurd (cc)), ((tt, λ e. absurd (cc)), tt)))),
                                      ),
                                    ),
                                  ),
                                ),
                              ),
                            ),
                          ),
                        ),
                      ),
                    ),
                  ),
                ),
              ),
            ),
          ),
        ),
      ),
    ),
  ),
)

-- and with each row of the table that has no form
abbrev FormlessIs : TableRow → Type 0
FormlessIs r = r.form ≡ None → AlgorithmIs r

-- a row of a form has one
formed : (form : Form) (lines : List Line) → AllOf FormlessIs (rows_on form lines)
formed form lines = all_rows_on FormlessIs form lines (each lines)
  where
    each : (lines : List Line) → AllOf (λ x. (kills : Class) → FormlessIs (row_of_line (Some form) x kills)) lines
    each [] = tt
    each (x ∷ xs) = ((λ kills e. absurd (cc)), each xs)

-- what holds of each of these holds where they have no form
formless : (rows : List TableRow) → AllOf AlgorithmIs rows → AllOf FormlessIs rows
formless [] h = tt
formless (r ∷ rows) h = ((λ e. h.0), formless rows h.1)

-- the row with a number, where it is an algorithm's
algorithm_numbered : (n : ℕ) (r : TableRow) → slice_get table n ≡ Some r → r.form ≡ None → AlgorithmIs r
algorithm_numbered n r there e = all_at FormlessIs table n r
    (all_table FormlessIs (λ form e. formed form container_lines) (λ form e. formed form multi_lines) (formless algorithm_rows each_algorithm)) there e

-- operands that fit the letters of a row have the iterator whose type it gives
operand_typed : (gives : ReturnType) (letters : List Letter) (us : List ExprType) → right_result gives letters ≡ true
    → fits f.Vector letters us ≡ true → IsTyped gives us
operand_typed returns.FirstArgument letters us right e = first_is_iterator f.Vector letters us e right
operand_typed returns.Output letters us right e = last_is_iterator f.Vector letters us e right
operand_typed gives letters us right e = tt

-- the row with a number is right in its result, its call and what it moves
right_parts : (n : ℕ) (r : TableRow) → slice_get table n ≡ Some r
    → (right_result r.gives r.letters ≡ true) × (right_call r.form r.call ≡ true) × (right_move r ≡ true)
right_parts n r there = three_parts (right_result r.gives r.letters) (right_call r.form r.call) (right_move r) (found_right n (Some r) there)

-- what an algorithm gives, by what it is
algorithm_by : (gives : ReturnType) (t : Memory) (us : List ExprType) (s : Situation) (answer : Answer) (shape : Shape)
    → shape_of_answer answer ≡ shape → ShapeOf gives shape → IsTyped gives us → has_type (result_type gives false f.Vector us) ≡ true
    → AllFit s.memory us s.values → OperandStands of_first s (operand_given (is_output gives) s) answer → IsPlaced t answer
    → KeepsForms [] s.memory t → IsSound t → IsGiven t (result_type gives false f.Vector us) (value_in t answer)
algorithm_by returns.Nothing t us s answer shape e is typed has fit stood placed kept sound = tt
algorithm_by (returns.Number ty) t us s answer shape e is typed has fit stood placed kept sound = number_given t answer (e ∙ is)
algorithm_by returns.Iterator t us s answer shape e is typed has fit stood placed kept sound = absurd (is)
algorithm_by returns.IteratorAndBool t us s answer shape e is typed has fit stood placed kept sound = absurd (is)
algorithm_by returns.IteratorPair t us s answer shape e is typed has fit stood placed kept sound = absurd (is)
algorithm_by returns.Element t us s answer shape e is typed has fit stood placed kept sound = absurd (is)
algorithm_by returns.FirstArgument t us s answer shape e is typed has fit stood placed kept sound =
    operand_type_given s 1 t kept sound (first_type us) answer typed (operand_fits false s us typed fit) (e ∙ is) stood placed
algorithm_by returns.Output t us s answer shape e is typed has fit stood placed kept sound =
    operand_type_given s (length s.values) t kept sound (last_type us) answer typed (operand_fits true s us typed fit) (e ∙ is) stood placed
algorithm_by returns.Appender t us s answer shape e is typed has fit stood placed kept sound = absurd (cc)

-- what an algorithm gives is of the type of its result
pub algorithm-given : (n : ℕ) (r : TableRow) (us : List ExprType) (s : Situation) → slice_get table n ≡ Some r → r.form ≡ None
    → fits f.Vector r.letters us ≡ true → has_type (result_type r.gives false f.Vector us) ≡ true → AllFit s.memory us s.values
    → IsCarriedOut [] (meaning_of false r) s → RowGives (meaning_of false r) s (result_type r.gives false f.Vector us)
algorithm-given n r us s there e typed has fit done =
    let meant = meaning_alone false r e in
    let is = algorithm_numbered n r there e in
    let told : Tells (meaning_of false r) s =
    row-tells (callees.Row n) (meaning_of false r) (ap (option_map (meaning_of false)) there) s done.called done.needs in
    let gives : GivesIn (is_output r.gives) (meaning_of false r) s = numbered-gives-in false n r there s done.called done.needs done.goes in
    let object : (meaning_of false r).object ≡ of_first = ap (λ (q : Row). q.object) meant in
    let shape : (meaning_of false r).shape ≡ algorithm_shape false r.call r.gives = ap (λ (q : Row). q.shape) meant in
    algorithm_by r.gives (memory_after (meaning_of false r) s) us s ((meaning_of false r).action.answer s) (algorithm_shape false r.call r.gives)
    (told.shaped ∙ shape) is.0 (operand_typed r.gives r.letters us (right_parts n r there).0 typed) has fit
    (subst (λ (o : Object). OperandStands o s (operand_given (is_output r.gives) s) ((meaning_of false r).action.answer s)) object gives.stood)
    told.placed done.kept done.sound

-- ## `advance`

-- a row that moves its iterator is that of `advance`
pub advancing_row : (n : ℕ) (r : TableRow) → slice_get table n ≡ Some r → is_advance r ≡ true → r ≡ advance_row
advancing_row n r there moves = (algorithm_numbered n r there (advance_alone r.form r.call (right_parts n r there).1 moves)).1 moves

-- its first operand is an iterator
pub advance-begins : (us : List ExprType) → fits f.Vector advance_row.letters us ≡ true → is_iterator (first_type us) ≡ true
advance-begins [] e = absurd (cc)
advance-begins (u ∷ us) e = first_of_both (is_iterator u) (fits f.Vector (a.Distance ∷ []) us) e

-- and it gives one of its type
pub advance-given : (n : ℕ) (us : List ExprType) (s : Situation) → slice_get table n ≡ Some advance_row
    → fits f.Vector advance_row.letters us ≡ true → AllFit s.memory us s.values → IsCarriedOut [] (algorithm_row false advance_row) s
    → RowGives (algorithm_row false advance_row) s (first_type us)
advance-given n us s there typed fit done =
    let told : Tells (algorithm_row false advance_row) s =
    row-tells (callees.Row n) (algorithm_row false advance_row) (ap (option_map (meaning_of false)) there) s done.called done.needs in
    let gives : GivesIn false (algorithm_row false advance_row) s = numbered-gives-in false n advance_row there s done.called done.needs done.goes in
    let is = advance-begins us typed in
    operand_type_given s 1 (memory_after (algorithm_row false advance_row) s) done.kept done.sound (first_type us)
    ((algorithm_row false advance_row).action.answer s) is (operand_fits false s us is fit) told.shaped gives.stood told.placed

-- What each row of the table is as far as a typed call of it needs: which shape it gives, by the letters of its operands, and what makes a container.
use Rattle.std.proofs.Common.{◌≡◌, ℕ, Bool, true, false, not, ◌&&◌, ◌||◌, List, [], ◌∷◌, take, drop, zero, suc, Option, Some, None}
use Rattle.std.proofs.Common.{refl}
use Rattle.std.specs.Prelude.{slice_get}
use Rattle.std.specs.List.{list_all}
use Rattle.std.proofs.lemmas.Bool.{not-true}
use Rattle.sl_base.specs.declared.form.Form.{Form}
use Rattle.sl_specs.specs.declared.call.Call.{Call}
use Rattle.sl_specs.specs.declared.call.Call.TheVariants as c
use Rattle.sl_specs.specs.declared.letter.Letter.{Letter}
use Rattle.sl_specs.specs.declared.letter.Letter.TheVariants as l
use Rattle.sl_specs.specs.declared.return_type.ReturnType.{ReturnType}
use Rattle.sl_specs.specs.declared.return_type.ReturnType.TheVariants as r
use Rattle.sl_specs.specs.Forms.{is_keyed, is_hash}
use Rattle.sl_specs.specs.Rows.{Row}
use Rattle.sl_specs.specs.Table.{table, same_call}
use Rattle.sl_syntax.specs.Written.{is_map}
use Rattle.sl_typing.specs.declared.expr_type.ExprType.{ExprType}
use Rattle.sl_typing.specs.declared.expr_type.ExprType.TheVariants as types
use Rattle.sl_typing.specs.Types.{has_type, only, is_iterator, is_iterator_that, is_writing_iterator, same_iterators}
use Rattle.sl_typing.specs.Signatures.{one, range, width, first_type, last_type, result_type, row_at, is_output}
use Rattle.sl_model.specs.LibraryCalls.Values.{Shape, a_number, a_stamp, a_pair, two_stamps, an_element}
use Rattle.sl_model.specs.LibraryCalls.Rows.{shape_of_return, algorithm_shape}
use Rattle.sl_model.specs.Typing.WellTypedCalls.{fits_letter, fits, is_advance}
use Rattle.sl_model.proofs.Passing.{first_of_both, second_of_both, three_parts, passes_at}

-- a call of a type gives a value of a shape
abbrev pub IsShaped : ExprType → Shape → Type 0
IsShaped types.Nothing shape = Unit {0}
IsShaped (types.Scalar s) shape = shape ≡ a_number
IsShaped (types.Element w) shape = shape ≡ an_element
IsShaped (types.Iterator b x) shape = shape ≡ a_stamp
IsShaped (types.IteratorAndBool x) shape = shape ≡ a_pair
IsShaped (types.IteratorPair b x) shape = shape ≡ two_stamps
IsShaped u shape = ⊥

-- letters begin with one for an iterator or a range
abbrev begins_with_iterator : List Letter → Bool
begins_with_iterator (l.IntRange ∷ rest) = true
begins_with_iterator (l.WrittenRange ∷ rest) = true
begins_with_iterator (l.Iterator ∷ rest) = true
begins_with_iterator (l.BidirectionalIterator ∷ rest) = true
begins_with_iterator letters = false

-- letters end with an output
abbrev ends_with_output : List Letter → Bool
ends_with_output [] = false
ends_with_output (letter ∷ []) = is_output letter
ends_with_output (letter ∷ next ∷ rest) = ends_with_output (next ∷ rest)

-- a row that gives its first argument begins with an iterator, and one that gives its output ends with one
abbrev pub right_result : ReturnType → List Letter → Bool
right_result r.FirstArgument letters = begins_with_iterator letters
right_result r.Output letters = ends_with_output letters
right_result gives letters = true

-- no member moves an iterator
abbrev pub right_call : Option Form → Call → Bool
right_call (Some form) call = not (same_call c.Advance call)
right_call None call = true

-- a row gives nothing
abbrev pub gives_nothing : ReturnType → Bool
gives_nothing r.Nothing = true
gives_nothing gives = false

-- a row that moves an iterator gives nothing
abbrev pub right_move : Row → Bool
right_move row = not (is_advance row) || gives_nothing row.gives

-- a row is right in all
abbrev pub is_right : Row → Bool
is_right row = right_result row.gives row.letters && right_call row.form row.call && right_move row

-- each row of the table is
table_right : list_all is_right table ≡ true
unfolding table
table_right = refl

-- a row is right, if it is there
abbrev pub right_found : Option Row → Bool
right_found None = true
right_found (Some row) = is_right row

-- what is found at a number is
pub found_right : (n : ℕ) (found : Option Row) → slice_get table n ≡ found → right_found found ≡ true
found_right n None e = refl
found_right n (Some row) e = passes_at is_right table n row table_right e

-- the row with a number is right
pub row_right : (n : ℕ) → right_found (row_at n) ≡ true
row_right n = found_right n (slice_get table n) refl

-- an iterator has the shape of one
iterator_shaped : (u : ExprType) → is_iterator u ≡ true → IsShaped u a_stamp
iterator_shaped (types.Iterator b x) h = refl
iterator_shaped u h = absurd cc

-- what passes a test on iterators is one
any_iterator : (test : Bool → Form → Bool) (u : ExprType) → is_iterator_that test u ≡ true → is_iterator u ≡ true
any_iterator test (types.Iterator b x) h = refl
any_iterator test u h = absurd cc

-- the first operand of those that begin with one that passes a test on iterators is an iterator
first_of_one : (test : Bool → Form → Bool) (us : List ExprType) → one (is_iterator_that test) (take 1 us) ≡ true
    → is_iterator (first_type us) ≡ true
first_of_one test [] h = absurd cc
first_of_one test (u ∷ us) h = any_iterator test u h

-- so is that of those that begin with a range
first_of_range : (test : Bool → Form → Bool) (us : List ExprType) → range (is_iterator_that test) (take 2 us) ≡ true
    → is_iterator (first_type us) ≡ true
first_of_range test [] h = absurd cc
first_of_range test (u ∷ []) h = absurd cc
first_of_range test (u ∷ v ∷ us) h = any_iterator test u (first_of_both (is_iterator_that test u) (same_iterators u v) h)

-- what fits letters that begin with an iterator begins with one
pub first_is_iterator : (form : Form) (letters : List Letter) (us : List ExprType) → fits form letters us ≡ true → begins_with_iterator letters ≡ true
    → is_iterator (first_type us) ≡ true
first_is_iterator form (l.IntRange ∷ rest) us h b =
    first_of_range (λ c x. not (is_map x)) us (first_of_both (fits_letter form l.IntRange (take 2 us)) (fits form rest (drop 2 us)) h)
first_is_iterator form (l.WrittenRange ∷ rest) us h b =
    first_of_range (λ c x. not c && not (is_keyed x)) us (first_of_both (fits_letter form l.WrittenRange (take 2 us)) (fits form rest (drop 2 us)) h)
first_is_iterator form (l.Iterator ∷ rest) us h b =
    first_of_one (λ c x. true) us (first_of_both (fits_letter form l.Iterator (take 1 us)) (fits form rest (drop 1 us)) h)
first_is_iterator form (l.BidirectionalIterator ∷ rest) us h b =
    first_of_one (λ c x. not (is_hash x)) us (first_of_both (fits_letter form l.BidirectionalIterator (take 1 us)) (fits form rest (drop 1 us)) h)
first_is_iterator form letters us h b = absurd cc

-- the last of what is left is the last
last_of_drop : (n : ℕ) (us : List ExprType) → is_iterator (last_type (drop n us)) ≡ true → is_iterator (last_type us) ≡ true
last_of_drop zero us h = h
last_of_drop (suc n) [] h = absurd cc
last_of_drop (suc zero) (u ∷ []) h = absurd cc
last_of_drop (suc (suc n)) (u ∷ []) h = absurd cc
last_of_drop (suc n) (u ∷ v ∷ us) h = last_of_drop n (v ∷ us) h

-- an output alone is an iterator
output_is_iterator : (form : Form) (letter : Letter) (us : List ExprType) → fits form (letter ∷ []) us ≡ true → is_output letter ≡ true
    → is_iterator (last_type us) ≡ true
output_is_iterator form l.Output [] h b = absurd cc
output_is_iterator form l.Output (u ∷ []) h b =
    any_iterator (λ c x. not c && not (is_keyed x)) u (first_of_both (is_writing_iterator u) true h)
output_is_iterator form l.Output (u ∷ v ∷ us) h b =
    absurd (let none = second_of_both (one is_writing_iterator (u ∷ [])) false h in cc)
output_is_iterator form letter us h b = absurd cc

-- what fits letters that end with an output ends with an iterator
pub last_is_iterator : (form : Form) (letters : List Letter) (us : List ExprType) → fits form letters us ≡ true → ends_with_output letters ≡ true
    → is_iterator (last_type us) ≡ true
last_is_iterator form [] us h b = absurd cc
last_is_iterator form (letter ∷ []) us h b = output_is_iterator form letter us h b
last_is_iterator form (letter ∷ next ∷ rest) us h b =
    let others = drop (width letter us) us in
    let fit = second_of_both (fits_letter form letter (take (width letter us) us)) (fits form (next ∷ rest) others) h in
    last_of_drop (width letter us) us (last_is_iterator form (next ∷ rest) others fit b)

-- what a right row gives has the shape that its return says
pub result_shaped : (gives : ReturnType) (letters : List Letter) (b : Bool) (x : Form) (us : List ExprType) → right_result gives letters ≡ true
    → fits x letters us ≡ true → has_type (result_type gives b x us) ≡ true → IsShaped (result_type gives b x us) (shape_of_return gives)
result_shaped r.Nothing letters b x us right fit h = tt
result_shaped (r.Number s) letters b x us right fit h = refl
result_shaped r.Iterator letters b x us right fit h = refl
result_shaped r.IteratorAndBool letters b x us right fit h = refl
result_shaped r.IteratorPair letters b x us right fit h = refl
result_shaped r.Element letters b x us right fit h = refl
result_shaped r.FirstArgument letters b x us right fit h = iterator_shaped (first_type us) (first_is_iterator x letters us fit right)
result_shaped r.Output letters b x us right fit h = iterator_shaped (last_type us) (last_is_iterator x letters us fit right)
result_shaped r.Appender letters b x us right fit h = absurd cc

-- a type behind a condition has a shape where it has it under the condition
pub only_shaped : (b : Bool) (u : ExprType) (shape : Shape) → (b ≡ true → has_type u ≡ true → IsShaped u shape) → has_type (only b u) ≡ true
    → IsShaped (only b u) shape
only_shaped true u shape give h = give refl h
only_shaped false u shape give h = absurd cc

-- the shape of what an algorithm gives that moves nothing
pub algorithm_still : (call : Call) (gives : ReturnType) → same_call c.Advance call ≡ false → algorithm_shape false call gives ≡ shape_of_return gives
algorithm_still c.Advance gives h = absurd cc
algorithm_still call gives h = refl

-- that of `advance`
pub algorithm_moves : (call : Call) (gives : ReturnType) → same_call c.Advance call ≡ true → algorithm_shape false call gives ≡ a_stamp
algorithm_moves c.Advance gives h = refl
algorithm_moves call gives h = absurd cc

-- a right row that moves its iterator has no form
pub advance_alone : (o : Option Form) (call : Call) → right_call o call ≡ true → same_call c.Advance call ≡ true → o ≡ None
advance_alone None call right moves = refl
advance_alone (Some form) call right moves = absurd (let still = not-true (same_call c.Advance call) right in cc)

-- what gives nothing may have any shape
pub nothing_shaped : (gives : ReturnType) (b : Bool) (x : Form) (us : List ExprType) (shape : Shape) → gives_nothing gives ≡ true
    → IsShaped (result_type gives b x us) shape
nothing_shaped r.Nothing b x us shape n = tt
nothing_shaped gives b x us shape n = absurd cc

-- what holds where an answer is true, or another, holds of the second where the first is true
second_of_either : (a b : Bool) → (not a || b) ≡ true → a ≡ true → b ≡ true
second_of_either true b h k = h
second_of_either false b h k = absurd cc

-- a row that moves its iterator gives nothing
pub advance_gives_nothing : (row : Row) → is_right row ≡ true → is_advance row ≡ true → gives_nothing row.gives ≡ true
advance_gives_nothing row right moves = second_of_either (is_advance row) (gives_nothing row.gives)
    (three_parts (right_result row.gives row.letters) (right_call row.form row.call) (right_move row) right).2 moves

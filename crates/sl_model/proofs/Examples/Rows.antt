-- Closed calls of the library.
use Rattle.std.specs.Prelude.{◌≡◌, ◌+◌, refl, ℕ, List, [], ◌∷◌, Option, Some, None, pos, codes}
use Rattle.sl_base.specs.declared.form.Form.TheVariants as f
use Rattle.sl_base.specs.declared.limits.TheConstants.{ELEMENTS}
use Rattle.sl_syntax.specs.declared.typed.callee.Callee.TheVariants as callees
use Rattle.sl_syntax.specs.declared.typed.operator.Operator.TheVariants as operators
use Rattle.sl_specs.specs.Table.{table}
use Rattle.sl_specs.specs.declared.class.Class.TheVariants.{AllAndEnd}
use Rattle.sl_model.specs.Memory.Containers.{Cell, Grave, Memory, empty_memory, end_from, locate, killer, refer_killer, key_part}
use Rattle.sl_model.specs.LibraryCalls.Values.{Value, nothing, number, iterator, element_at, Args, trapped, thrown, gives, unbuilt, no_value}
use Rattle.sl_model.specs.LibraryCalls.Situation.{Situation, place_of}
use Rattle.sl_model.specs.LibraryCalls.Operands.{an_iterator}
use Rattle.sl_model.specs.LibraryCalls.Needs.{dereference_fails, first_failure}
use Rattle.sl_model.specs.LibraryCalls.Actions.{Effect, keeps, edits, Stop, never, exception, too_many, nothing as no_answer}
use Rattle.sl_model.specs.LibraryCalls.Rows.{of_first, Row, call_name}
use Rattle.sl_model.specs.LibraryCalls.Library.{row_out, lib}

-- a call at site 9
abbrev pub call : Option ℕ → List Value → Args
call object values = record { site = 9; object = object; values = values }

-- an element whose stamp and refer are one number
abbrev pub cell : ℕ → ℕ → Cell
cell mark key = record { stamp = mark; refer = mark; key = pos key; value = pos 0 }

-- a mark that was dropped by the call
abbrev pub dropped : ℕ → Grave
dropped mark = record { mark = mark; site = 9 }

-- a memory with one vector of 7 and 8, of a room; the stamps are 0, 1 and 2, and the refers 0 and 1
abbrev pub pair_with : ℕ → Memory
pair_with room = record {
  conts = record { form = f.Vector; cells = cell 0 7 ∷ cell 1 8 ∷ []; end = 2; room = room } ∷ [];
  graves = [];
  lost = [];
  fresh = 3;
}

-- a memory with an empty deque
abbrev pub deque : Memory
deque = record { conts = record { form = f.Deque; cells = []; end = 0; room = 0 } ∷ []; graves = []; lost = []; fresh = 1 }

made_with_room : lib (callees.Row 0) (call None []) empty_memory (5 ∷ 6 ∷ []) ≡ gives nothing (record {
  conts = record { form = f.Vector; cells = []; end = 0; room = 5 } ∷ [];
  graves = [];
  lost = [];
  fresh = 1;
}) (6 ∷ [])
unfolding table
made_with_room = refl

begin_of_two : lib (callees.Row 7) (call (Some 0) []) (pair_with 2) (4 ∷ []) ≡ gives (iterator 0) (pair_with 2) (4 ∷ [])
unfolding table
begin_of_two = refl

-- there is room: the end alone is invalidated, and no pick is taken
pushed_into_room : lib (callees.Row 15) (call (Some 0) (number (pos 9) ∷ [])) (pair_with 3) (4 ∷ []) ≡ gives nothing (record {
  conts = record { form = f.Vector; cells = cell 0 7 ∷ cell 1 8 ∷ cell 8 9 ∷ []; end = 5; room = 3 } ∷ [];
  graves = dropped 2 ∷ [];
  lost = [];
  fresh = 9;
}) (4 ∷ [])
unfolding table
pushed_into_room = refl

-- there is none: all is invalidated, references too, and the new room is 3 and the pick
pushed_and_grown : lib (callees.Row 15) (call (Some 0) (number (pos 9) ∷ [])) (pair_with 2) (4 ∷ []) ≡ gives nothing (record {
  conts = record { form = f.Vector; cells = cell 3 7 ∷ cell 4 8 ∷ cell 8 9 ∷ []; end = 5; room = 7 } ∷ [];
  graves = dropped 0 ∷ dropped 1 ∷ dropped 2 ∷ [];
  lost = dropped 0 ∷ dropped 1 ∷ [];
  fresh = 9;
}) []
unfolding table
pushed_and_grown = refl

one_too_many : too_many (ELEMENTS + 1) ≡ exception
one_too_many = refl

just_enough : too_many ELEMENTS ≡ never
just_enough = refl

element_behind_an_iterator : lib (callees.Operator operators.Dereference) (call None (iterator 1 ∷ [])) (pair_with 2) []
    ≡ gives (element_at 0 1 key_part) (pair_with 2) []
element_behind_an_iterator = refl

end_iterator : lib (callees.Hidden operators.Dereference) (call None (iterator 2 ∷ [])) (pair_with 2) [] ≡ trapped 4 1
end_iterator = refl

invalid_iterator : lib (callees.Operator operators.Dereference) (call None (iterator 3 ∷ [])) (pair_with 2) [] ≡ trapped 1 1
invalid_iterator = refl

ended_container : killer (end_from 6 0 (pair_with 2)) 1 ≡ Some 6
ended_container = refl

ended_reference : refer_killer (end_from 6 0 (pair_with 2)) 1 ≡ Some 6
ended_reference = refl

stands_nowhere : locate (end_from 6 0 (pair_with 2)) 1 ≡ None
stands_nowhere = refl

-- what no row takes: the table has 231 rows, from 0 on
another_row : lib (callees.Row 231) (call (Some 0) []) (pair_with 2) [] ≡ unbuilt
unfolding table
another_row = refl

another_form : lib (callees.Row 7) (call (Some 0) []) deque [] ≡ unbuilt
unfolding table
another_form = refl

no_object : lib (callees.Row 7) (call None []) (pair_with 2) [] ≡ unbuilt
unfolding table
no_object = refl

no_container : lib (callees.Row 7) (call (Some 1) []) (pair_with 2) [] ≡ unbuilt
unfolding table
no_container = refl

an_object_too_many : lib (callees.Row 0) (call (Some 0) []) (pair_with 2) [] ≡ unbuilt
unfolding table
an_object_too_many = refl

no_operand : lib (callees.Row 15) (call (Some 0) []) (pair_with 2) [] ≡ unbuilt
unfolding table
no_operand = refl

another_sort : lib (callees.Row 15) (call (Some 0) (iterator 0 ∷ [])) (pair_with 2) [] ≡ unbuilt
unfolding table
another_sort = refl

an_operand_too_many : lib (callees.Row 15) (call (Some 0) (number (pos 1) ∷ number (pos 2) ∷ [])) (pair_with 2) [] ≡ unbuilt
unfolding table
an_operand_too_many = refl

name_in_a_range_for : call_name (callees.Hidden operators.Dereference) ≡ codes "for"
name_in_a_range_for = refl

-- A row that the library doesn't have, with an iterator operand, an end and an effect: what a need comes before.
abbrev with_effect : Stop → Effect → Row
with_effect stop effect = record {
  name = codes "f";
  object = of_first;
  operands = an_iterator ∷ [];
  fails = λ s. dereference_fails s.memory (place_of s 1) 1;
  class = AllAndEnd;
  action = record { stops = λ s. stop; effect = λ s. effect; answer = λ s. no_answer };
  shape = no_value;
}

-- its call with an iterator, at site 9
abbrev called_with : ℕ → Situation
called_with stamp = record { memory = pair_with 2; object = 0; values = iterator stamp ∷ []; picks = []; site = 9 }

-- each iterator is invalidated
abbrev all_die : Effect
all_die = edits 0 (record { from = 2; gone = 0; come = []; room = 2 })

need_before_exception : row_out (with_effect exception keeps) (called_with 2) ≡ trapped 4 1
need_before_exception = refl

exception_where_needs_hold : row_out (with_effect exception keeps) (called_with 1) ≡ thrown
exception_where_needs_hold = refl

-- the need is tested in the memory before the effect: there the iterator is the end, and there the other one is valid
need_before_effect : row_out (with_effect never all_die) (called_with 2) ≡ trapped 4 1
need_before_effect = refl

need_of_before : row_out (with_effect never all_die) (called_with 1) ≡ gives nothing (record {
  conts = record { form = f.Vector; cells = cell 3 7 ∷ cell 4 8 ∷ []; end = 5; room = 2 } ∷ [];
  graves = dropped 0 ∷ dropped 1 ∷ dropped 2 ∷ [];
  lost = dropped 0 ∷ dropped 1 ∷ [];
  fresh = 8;
}) []
need_of_before = refl

-- of several failures the least kind counts, and of one kind the least argument
least_kind : first_failure ((4, 1) ∷ (2, 3) ∷ (2, 2) ∷ (5, 0) ∷ []) ≡ Some (2, 2)
least_kind = refl

no_failure : first_failure [] ≡ None
no_failure = refl

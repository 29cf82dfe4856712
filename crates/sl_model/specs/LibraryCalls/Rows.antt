-- The calls that the library has: for each row of the table and each operator, what its object is, which operands it takes, what it
-- needs, which class of iterators and references it invalidates, what it does and what it gives.
--
-- Restates ISO/IEC 14882:2017, [containers], [algorithms], [numeric.ops] and [iterator.operations]; the table itself (sl_specs) says
-- which calls there are, their needs and their classes, and each action's file restates what it does.
-- Chosen here: a range-for asks for the operators `!=`, `*` and `++` by itself, and is named `for` then.
use Rattle.std.specs.Prelude.{ℕ, Bool, true, false, List, [], ◌∷◌, pos, Option, Some, None, option_map, slice_get, codes, if◌then◌else◌}
use Rattle.sl_base.specs.declared.form.Form.{Form}
use Rattle.sl_base.specs.declared.form.Form.TheVariants as f
use Rattle.sl_specs.specs.declared.call.Call.{Call}
use Rattle.sl_specs.specs.declared.call.Call.TheVariants as c
use Rattle.sl_specs.specs.declared.class.Class.{Class}
use Rattle.sl_specs.specs.declared.class.Class.TheVariants as classes
use Rattle.sl_specs.specs.declared.letter.Letter.{Letter}
use Rattle.sl_specs.specs.declared.letter.Letter.TheVariants as a
use Rattle.sl_specs.specs.declared.return_type.ReturnType.{ReturnType}
use Rattle.sl_specs.specs.declared.return_type.ReturnType.TheVariants as g
use Rattle.sl_specs.specs.Rows.{Row as TableRow}
use Rattle.sl_specs.specs.Table.{table}
use Rattle.sl_specs.specs.Texts.{call_text}
use Rattle.sl_syntax.specs.declared.typed.callee.Callee.{Callee}
use Rattle.sl_syntax.specs.declared.typed.callee.Callee.TheVariants as callees
use Rattle.sl_syntax.specs.declared.typed.operator.Operator.{Operator}
use Rattle.sl_syntax.specs.declared.typed.operator.Operator.TheVariants as operators
use Rattle.sl_model.specs.LibraryCalls.Operands.{Sort, all_sorts}
use Rattle.sl_model.specs.LibraryCalls.Situation.{Situation, int_of}
use Rattle.sl_model.specs.LibraryCalls.Needs.{all_failures}
use Rattle.sl_model.specs.LibraryCalls.Actions.{Action, tells, nothing}
use Rattle.sl_model.specs.LibraryCalls.AccessActions.{begin, end, size_of, empty, front, back, subscript, at_index, clear, resize, reserve, swap}
use Rattle.sl_model.specs.LibraryCalls.MakeActions.{construct, assign, assign_fill}
use Rattle.sl_model.specs.LibraryCalls.SequenceActions.{push_back, push_front, insert, pop_back, pop_front, erase_one, erase_range}
use Rattle.sl_model.specs.LibraryCalls.KeyActions.{insert_key, insert_keys, emplace, key_subscript, erase_key, at_key, find, count, lower_bound, upper_bound}
use Rattle.sl_model.specs.LibraryCalls.KeyActions.{equal_range}
use Rattle.sl_model.specs.LibraryCalls.ListActions.{sort, reverse_all, unique, remove, merge, splice}
use Rattle.sl_model.specs.LibraryCalls.SearchAlgorithms as search
use Rattle.sl_model.specs.LibraryCalls.WritingAlgorithms as writing
use Rattle.sl_model.specs.LibraryCalls.Operators.{operator_failures, operator_answer, operator_sorts, operator_name}
use Rattle.sl_model.specs.LibraryCalls.Values.{Shape, no_value, a_number, a_stamp, a_pair, two_stamps, an_element}

-- what the object of a call is: a container of a form, a new one of a form, or the one that the first operand stands in
pub data Object : Type 0 where
  of_form : Form → Object
  new_one : Form → Object
  of_first : Object

-- a row: its name, its object, its operands, its failures, its class, what it does and the shape of what it gives
pub record Row : Type 0 where
  pub name : List ℕ
  pub object : Object
  pub operands : List Sort
  pub fails : Situation → List (ℕ × ℕ)
  pub class : Class
  pub action : Action
  pub shape : Shape

-- nothing is done and nothing is given
abbrev pub no_action : Action
no_action = tells (λ s. nothing)

-- insert, by its operands: in front of a position, of a range or of one key
abbrev pub insert_by : List Letter → Action
insert_by (a.Position ∷ rest) = insert rest
insert_by (a.IntRange ∷ rest) = insert_keys
insert_by letters = insert_key

-- erase, by its operands
abbrev pub erase_by : List Letter → Action
erase_by (a.Key ∷ rest) = erase_key
erase_by (a.OwnRange ∷ rest) = erase_range
erase_by letters = erase_one

-- at and [], by an index or a key
abbrev pub by_key_or_index : Action → Action → List Letter → Action
by_key_or_index key index (a.Key ∷ rest) = key
by_key_or_index key index letters = index

-- resize, with an element or with 0
abbrev pub resize_by : List Letter → Action
resize_by (x ∷ a.Element ∷ rest) = resize (λ s. int_of s 2)
resize_by letters = resize (λ s. pos 0)

-- splice, by its operands behind the position and the container
abbrev pub splice_by : List Letter → Action
splice_by (p ∷ c ∷ rest) = splice rest
splice_by letters = no_action

-- what a call on a container does, by its operands
abbrev pub member_action : Form → Call → List Letter → Action
member_action form c.Constructor letters = construct form letters
member_action form c.Assignment letters = assign
member_action form c.Begin letters = begin
member_action form c.End letters = end
member_action form c.Size letters = size_of
member_action form c.Empty letters = empty
member_action form c.Front letters = front
member_action form c.Back letters = back
member_action form c.At letters = by_key_or_index at_key at_index letters
member_action form c.Subscript letters = by_key_or_index key_subscript subscript letters
member_action form c.PushBack letters = push_back
member_action form c.PushFront letters = push_front
member_action form c.PopBack letters = pop_back
member_action form c.PopFront letters = pop_front
member_action form c.Insert letters = insert_by letters
member_action form c.Emplace letters = emplace
member_action form c.Erase letters = erase_by letters
member_action form c.Clear letters = clear
member_action form c.Resize letters = resize_by letters
member_action form c.Assign letters = assign_fill
member_action form c.Reserve letters = reserve
member_action form c.Swap letters = swap
member_action form c.Find letters = find
member_action form c.Count letters = count
member_action form c.LowerBound letters = lower_bound
member_action form c.UpperBound letters = upper_bound
member_action form c.EqualRange letters = equal_range
member_action form c.Sort letters = sort
member_action form c.Reverse letters = reverse_all
member_action form c.Unique letters = unique
member_action form c.Remove letters = remove
member_action form c.Merge letters = merge
member_action form c.Splice letters = splice_by letters
member_action form call letters = no_action

-- what an algorithm does
abbrev pub algorithm_action : Call → Action
algorithm_action c.Find = search.find
algorithm_action c.Count = search.count
algorithm_action c.LowerBound = search.lower_bound
algorithm_action c.UpperBound = search.upper_bound
algorithm_action c.BinarySearch = search.binary_search
algorithm_action c.Includes = search.includes
algorithm_action c.Accumulate = search.accumulate
algorithm_action c.Distance = search.distance
algorithm_action c.Advance = search.move_by c.Advance
algorithm_action c.Next = search.move_by c.Next
algorithm_action c.Prev = search.move_by c.Prev
algorithm_action c.MinElement = search.min_element
algorithm_action c.MaxElement = search.max_element
algorithm_action c.Sort = writing.sort
algorithm_action c.Fill = writing.fill
algorithm_action c.Reverse = writing.reverse_range
algorithm_action c.Unique = writing.unique
algorithm_action c.Remove = writing.remove
algorithm_action c.Merge = writing.write_out c.Merge
algorithm_action c.SetUnion = writing.write_out c.SetUnion
algorithm_action c.SetIntersection = writing.write_out c.SetIntersection
algorithm_action c.SetDifference = writing.write_out c.SetDifference
algorithm_action c.Copy = writing.write_out c.Copy
algorithm_action call = no_action

-- a call is a constructor
abbrev pub is_constructor : Call → Bool
is_constructor c.Constructor = true
is_constructor call = false

-- the shape of what a row gives
abbrev pub shape_of_return : ReturnType → Shape
shape_of_return g.Nothing = no_value
shape_of_return (g.Number ty) = a_number
shape_of_return g.Iterator = a_stamp
shape_of_return g.IteratorAndBool = a_pair
shape_of_return g.IteratorPair = two_stamps
shape_of_return g.Element = an_element
shape_of_return g.FirstArgument = a_stamp
shape_of_return g.Output = a_stamp
shape_of_return g.Appender = no_value

-- the shape of what an algorithm gives: `advance` gives the iterator that its variable takes, and an algorithm with an appender nothing
abbrev pub algorithm_shape : Bool → Call → ReturnType → Shape
algorithm_shape appends c.Advance gives = a_stamp
algorithm_shape true call g.Output = no_value
algorithm_shape appends call gives = shape_of_return gives

-- the row of an algorithm, whose output is an appender or isn't
abbrev pub algorithm_row : Bool → TableRow → Row
algorithm_row appends r = record {
  name = call_text r.call;
  object = of_first;
  operands = all_sorts f.Vector appends r.letters;
  fails = all_failures r r.needs;
  class = classes.Nothing;
  action = algorithm_action r.call;
  shape = algorithm_shape appends r.call r.gives;
}

-- the row of a call on a container of a form
abbrev pub member_row : Form → TableRow → Row
member_row form r = record {
  name = call_text r.call;
  object = if is_constructor r.call then new_one form else of_form form;
  operands = all_sorts form false r.letters;
  fails = all_failures r r.needs;
  class = r.kills;
  action = member_action form r.call r.letters;
  shape = shape_of_return r.gives;
}

-- what a row of the table means
abbrev pub meaning_of : Bool → TableRow → Row
meaning_of appends r = elim r.form [ None ↦ algorithm_row appends r | Some form ↦ member_row form r ]

-- the row with a number
abbrev pub row_numbered : Bool → ℕ → Option Row
row_numbered appends n = option_map (meaning_of appends) (slice_get table n)

-- the shape of what an operator gives
abbrev pub shape_of_operator : Operator → Shape
shape_of_operator operators.Dereference = an_element
shape_of_operator operators.ArrowFirst = an_element
shape_of_operator operators.ArrowSecond = an_element
shape_of_operator operators.Difference = a_number
shape_of_operator (operators.Compare c) = a_number
shape_of_operator o = a_stamp

-- the row of an operator
abbrev pub row_of_operator : List ℕ → Operator → Row
row_of_operator name o = record {
  name = name;
  object = of_first;
  operands = operator_sorts o;
  fails = operator_failures o;
  class = classes.Nothing;
  action = tells (operator_answer o);
  shape = shape_of_operator o;
}

-- the row of what is called, if the library has it
abbrev pub row_of : Callee → Option Row
row_of (callees.Row n) = row_numbered false n
row_of (callees.Appends n) = row_numbered true n
row_of (callees.Operator o) = Some (row_of_operator (operator_name o) o)
row_of (callees.Hidden o) = Some (row_of_operator (codes "for") o)

-- the name of a row, if there is one
abbrev pub name_of : Option Row → List ℕ
name_of None = []
name_of (Some r) = r.name

-- the name of a call, as a trap tells it
abbrev pub call_name : Callee → List ℕ
call_name callee = name_of (row_of callee)

-- Effects whose order is open and doesn't matter, or is fixed.
-- Each is made of a text and of what is due for it by tools/typing_goal.py.
use Rattle.sl_base.specs.declared.scalar.Scalar.TheVariants as t
use Rattle.sl_base.specs.declared.form.Form.TheVariants as f
use Rattle.sl_syntax.specs.declared.operator.Arithmetic.TheVariants as o
use Rattle.sl_syntax.specs.declared.operator.Assignment.TheVariants as assignment
use Rattle.sl_syntax.specs.declared.operator.BinaryOperator.TheVariants as operator
use Rattle.sl_syntax.specs.declared.operator.Comparison.TheVariants as c
use Rattle.sl_syntax.specs.declared.operator.PostfixOperator.TheVariants as behind
use Rattle.sl_syntax.specs.declared.operator.PrefixOperator.TheVariants as before
use Rattle.sl_syntax.specs.declared.operator.Selector.TheVariants as selector
use Rattle.sl_syntax.specs.declared.tree.element.Element.TheVariants as element
use Rattle.sl_syntax.specs.declared.tree.element.ElementType.TheVariants as type
use Rattle.sl_syntax.specs.declared.tree.function.Param.TheVariants as parameter
use Rattle.sl_syntax.specs.declared.tree.function.ResultType.TheVariants as result
use Rattle.std.specs.Prelude.{◌≡◌, refl, true, [], ◌∷◌, Some}
use Rattle.sl_syntax.specs.Tree.{number, name, call, library_call, prefix, binary, postfix, index, member_call, member, none, absent}
use Rattle.sl_syntax.specs.Tree.{braces, declares_scalar, declares_auto, declares_reference, declares_container, evaluates, assigns}
use Rattle.sl_syntax.specs.Tree.{range_for, gives_back, does, declares, states, Program}
use Rattle.sl_typing.specs.ProgramFaults.{program_faults}
use Rattle.sl_typing.proofs.Examples.Words.{at, id, all, items, container_type, reference_head, function, main_alone}

-- step beside a number
-- int main() {
--   int x = 1;
--   ++x + 5;
-- }
abbrev pub step_beside_a_number : Program
step_beside_a_number = main_alone (
    declares (declares_scalar (at 2 3) t.Int (id "x" 2 7) (Some (number (at 2 11) 1))) ∷
    states (does (at 3 3)
    (evaluates (binary (prefix before.Increment (at 3 3) (name (id "x" 3 5))) (operator.Arithmetic o.Add) (at 3 7) (number (at 3 9) 5)))) ∷
    []) (at 4 1)

step_beside_a_number_breaks_none : program_faults step_beside_a_number ≡ []
unfolding program_faults
step_beside_a_number_breaks_none = refl

-- two steps of two variables
-- int main() {
--   int x = 1;
--   std::size_t n = 1;
--   x-- == n++;
-- }
abbrev pub two_steps_of_two_variables : Program
two_steps_of_two_variables = main_alone (
    declares (declares_scalar (at 2 3) t.Int (id "x" 2 7) (Some (number (at 2 11) 1))) ∷
    declares (declares_scalar (at 3 3) t.Size (id "n" 3 15) (Some (number (at 3 19) 1))) ∷
    states (does (at 4 3) (evaluates (binary (postfix (name (id "x" 4 3)) behind.Decrement (at 4 4)) (operator.Comparison c.Equal) (at 4 7)
    (postfix (name (id "n" 4 10)) behind.Increment (at 4 11))))) ∷
    []) (at 5 1)

two_steps_of_two_variables_breaks_none : program_faults two_steps_of_two_variables ≡ []
unfolding program_faults
two_steps_of_two_variables_breaks_none = refl

-- step before a size
-- int main() {
--   int x = 1;
--   std::vector<int> v = {1, 2};
--   x-- && v.size();
-- }
abbrev pub step_before_a_size : Program
step_before_a_size = main_alone (
    declares (declares_scalar (at 2 3) t.Int (id "x" 2 7) (Some (number (at 2 11) 1))) ∷
    declares (declares_container (container_type (at 3 3) f.Vector) (id "v" 3 20)
    (braces true (all (number (at 3 25) 1 ∷ number (at 3 28) 2 ∷ [])))) ∷
    states (does (at 4 3) (evaluates (binary (postfix (name (id "x" 4 3)) behind.Decrement (at 4 4)) operator.And (at 4 7)
    (member_call (name (id "v" 4 10)) (id "size" 4 12) none)))) ∷
    []) (at 5 1)

step_before_a_size_breaks_none : program_faults step_before_a_size ≡ []
unfolding program_faults
step_before_a_size_breaks_none = refl

-- call before a variable
-- int number(int a) {
--   return a;
-- }
-- int main() {
--   int x = 1;
--   number(2) && x;
-- }
abbrev pub call_before_a_variable : Program
call_before_a_variable =
    function (at 1 1) (result.Scalar t.Int) (id "number" 1 5) (parameter.Value (at 1 12) t.Int (id "a" 1 16) ∷ []) (at 1 19)
    (items (states (gives_back (at 2 3) (Some (name (id "a" 2 10)))) ∷ [])) (at 3 1) ∷
    function (at 4 1) (result.Scalar t.Int) (id "main" 4 5) [] (at 4 12) (items (
    declares (declares_scalar (at 5 3) t.Int (id "x" 5 7) (Some (number (at 5 11) 1))) ∷
    states (does (at 6 3)
    (evaluates (binary (call (id "number" 6 3) (all (number (at 6 10) 2 ∷ []))) operator.And (at 6 13) (name (id "x" 6 16))))) ∷
    [])) (at 7 1) ∷
    []

call_before_a_variable_breaks_none : program_faults call_before_a_variable ≡ []
unfolding program_faults
call_before_a_variable_breaks_none = refl

-- step in a left side whose value comes first
-- int main() {
--   std::vector<int> v = {1, 2};
--   v[++v[0]] = v.front();
-- }
abbrev pub step_in_a_left_side_whose_value_comes_first : Program
step_in_a_left_side_whose_value_comes_first = main_alone (
    declares (declares_container (container_type (at 2 3) f.Vector) (id "v" 2 20)
    (braces true (all (number (at 2 25) 1 ∷ number (at 2 28) 2 ∷ [])))) ∷
    states (does (at 3 3) (assigns
    (index (name (id "v" 3 3)) (at 3 4) (prefix before.Increment (at 3 5) (index (name (id "v" 3 7)) (at 3 8) (number (at 3 9) 0))))
    assignment.Set (at 3 13) (member_call (name (id "v" 3 15)) (id "front" 3 17) none))) ∷
    []) (at 4 1)

step_in_a_left_side_whose_value_comes_first_breaks_none : program_faults step_in_a_left_side_whose_value_comes_first ≡ []
unfolding program_faults
step_in_a_left_side_whose_value_comes_first_breaks_none = refl

-- copy before an arrow in braces
-- int main() {
--   std::vector<int> v = {1, 2};
--   std::deque<int> q = {1, 2};
--   std::map<int, int> m;
--   auto mi = m.begin();
--   std::vector<int> g = {*std::copy(q.begin(), q.end(), v.begin()), 1, mi->first};
-- }
abbrev pub copy_before_an_arrow_in_braces : Program
copy_before_an_arrow_in_braces = main_alone (
    declares (declares_container (container_type (at 2 3) f.Vector) (id "v" 2 20)
    (braces true (all (number (at 2 25) 1 ∷ number (at 2 28) 2 ∷ [])))) ∷
    declares (declares_container (container_type (at 3 3) f.Deque) (id "q" 3 19)
    (braces true (all (number (at 3 24) 1 ∷ number (at 3 27) 2 ∷ [])))) ∷
    declares (declares_container (container_type (at 4 3) f.Map) (id "m" 4 22) absent) ∷
    declares (declares_auto (at 5 3) (id "mi" 5 8) (member_call (name (id "m" 5 13)) (id "begin" 5 15) none)) ∷
    declares (declares_container (container_type (at 6 3) f.Vector) (id "g" 6 20) (braces true (all (
    prefix before.Dereference (at 6 25) (library_call (id "copy" 6 26) (all (
    member_call (name (id "q" 6 36)) (id "begin" 6 38) none ∷
    member_call (name (id "q" 6 47)) (id "end" 6 49) none ∷
    member_call (name (id "v" 6 56)) (id "begin" 6 58) none ∷
    []))) ∷
    number (at 6 68) 1 ∷
    member (name (id "mi" 6 71)) selector.Arrow (at 6 73) (id "first" 6 75) ∷
    [])))) ∷
    []) (at 7 1)

copy_before_an_arrow_in_braces_breaks_none : program_faults copy_before_an_arrow_in_braces ≡ []
unfolding program_faults
copy_before_an_arrow_in_braces_breaks_none = refl

-- value of a range for beside a step
-- int main() {
--   int x = 1;
--   std::unordered_set<int> us = {1};
--   for (auto e : us) x = e + ++x;
-- }
abbrev pub value_of_a_range_for_beside_a_step : Program
value_of_a_range_for_beside_a_step = main_alone (
    declares (declares_scalar (at 2 3) t.Int (id "x" 2 7) (Some (number (at 2 11) 1))) ∷
    declares (declares_container (container_type (at 3 3) f.HashSet) (id "us" 3 27) (braces true (all (number (at 3 33) 1 ∷ [])))) ∷
    states (range_for (at 4 3) (element.Value type.Auto) (id "e" 4 13) (id "us" 4 17) (does (at 4 21) (assigns (name (id "x" 4 21))
    assignment.Set (at 4 23)
    (binary (name (id "e" 4 25)) (operator.Arithmetic o.Add) (at 4 27) (prefix before.Increment (at 4 29) (name (id "x" 4 31))))))) ∷
    []) (at 5 1)

value_of_a_range_for_beside_a_step_breaks_none : program_faults value_of_a_range_for_beside_a_step ≡ []
unfolding program_faults
value_of_a_range_for_beside_a_step_breaks_none = refl

-- reference beside itself
-- int main() {
--   int x = 1;
--   std::vector<int> v = {1, 2};
--   const auto& y = v.back();
--   x = 2;
--   x = y + y;
-- }
abbrev pub reference_beside_itself : Program
reference_beside_itself = main_alone (
    declares (declares_scalar (at 2 3) t.Int (id "x" 2 7) (Some (number (at 2 11) 1))) ∷
    declares (declares_container (container_type (at 3 3) f.Vector) (id "v" 3 20)
    (braces true (all (number (at 3 25) 1 ∷ number (at 3 28) 2 ∷ [])))) ∷
    declares
    (declares_reference (reference_head (at 4 3) true type.Auto) (id "y" 4 15) (member_call (name (id "v" 4 19)) (id "back" 4 21) none)) ∷
    states (does (at 5 3) (assigns (name (id "x" 5 3)) assignment.Set (at 5 5) (number (at 5 7) 2))) ∷
    states (does (at 6 3) (assigns (name (id "x" 6 3)) assignment.Set (at 6 5)
    (binary (name (id "y" 6 7)) (operator.Arithmetic o.Add) (at 6 9) (name (id "y" 6 11))))) ∷
    []) (at 7 1)

reference_beside_itself_breaks_none : program_faults reference_beside_itself ≡ []
unfolding program_faults
reference_beside_itself_breaks_none = refl

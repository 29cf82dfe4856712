-- Effects whose order is open and could matter.
-- Each is made of a text and of what is due for it by tools/typing_goal.py.
use Rattle.sl_base.specs.declared.scalar.Scalar.TheVariants as t
use Rattle.sl_base.specs.declared.form.Form.TheVariants as f
use Rattle.sl_syntax.specs.declared.operator.Arithmetic.TheVariants as o
use Rattle.sl_syntax.specs.declared.operator.Assignment.TheVariants as assignment
use Rattle.sl_syntax.specs.declared.operator.BinaryOperator.TheVariants as operator
use Rattle.sl_syntax.specs.declared.operator.PostfixOperator.TheVariants as behind
use Rattle.sl_syntax.specs.declared.operator.PrefixOperator.TheVariants as before
use Rattle.sl_syntax.specs.declared.operator.Selector.TheVariants as selector
use Rattle.sl_syntax.specs.declared.tree.element.Element.TheVariants as element
use Rattle.sl_syntax.specs.declared.tree.element.ElementType.TheVariants as type
use Rattle.sl_syntax.specs.declared.tree.function.Param.TheVariants as parameter
use Rattle.sl_syntax.specs.declared.tree.function.ResultType.TheVariants as result
use Rattle.sl_typing.specs.declared.rules.TheConstants as rule
use Rattle.std.specs.Prelude.{refl, true, false, [], ◌∷◌, Some}
use Rattle.sl_syntax.specs.Tree.{number, name, call, library_call, parentheses, prefix, binary, postfix, index, member_call, member, none}
use Rattle.sl_syntax.specs.Tree.{absent, braces, arguments, declares_scalar, declares_auto, declares_reference, declares_container}
use Rattle.sl_syntax.specs.Tree.{evaluates, assigns, tests, first_effect, for, range_for, gives_back, does, declares, states, Program}
use Rattle.sl_typing.specs.ProgramFaults.{program_faults}
use Rattle.sl_typing.specs.Typing.{FirstBroken}
use Rattle.sl_typing.proofs.Examples.Words.{at, id, all, items, container_type, iterator_type, reference_head, function, main_alone, fault}

-- step beside its variable
-- int main() {
--   int x = 1;
--   x-- + x;
-- }
abbrev pub step_beside_its_variable : Program
step_beside_its_variable = main_alone (
    declares (declares_scalar (at 2 3) t.Int (id "x" 2 7) (Some (number (at 2 11) 1))) ∷
    states (does (at 3 3) (evaluates
    (binary (postfix (name (id "x" 3 3)) behind.Decrement (at 3 4)) (operator.Arithmetic o.Add) (at 3 7) (name (id "x" 3 9))))) ∷
    []) (at 4 1)

step_beside_its_variable_breaks : FirstBroken step_beside_its_variable (fault (at 3 7) rule.ORDER_OF_EFFECTS)
unfolding program_faults
step_beside_its_variable_breaks = refl

-- step beside a call
-- int number(int a) {
--   return a;
-- }
-- int main() {
--   int x = 1;
--   ++x + number(1);
-- }
abbrev pub step_beside_a_call : Program
step_beside_a_call =
    function (at 1 1) (result.Scalar t.Int) (id "number" 1 5) (parameter.Value (at 1 12) t.Int (id "a" 1 16) ∷ []) (at 1 19)
    (items (states (gives_back (at 2 3) (Some (name (id "a" 2 10)))) ∷ [])) (at 3 1) ∷
    function (at 4 1) (result.Scalar t.Int) (id "main" 4 5) [] (at 4 12) (items (
    declares (declares_scalar (at 5 3) t.Int (id "x" 5 7) (Some (number (at 5 11) 1))) ∷
    states (does (at 6 3) (evaluates (binary (prefix before.Increment (at 6 3) (name (id "x" 6 5))) (operator.Arithmetic o.Add) (at 6 7)
    (call (id "number" 6 9) (all (number (at 6 16) 1 ∷ [])))))) ∷
    [])) (at 7 1) ∷
    []

step_beside_a_call_breaks : FirstBroken step_beside_a_call (fault (at 6 7) rule.ORDER_OF_EFFECTS)
unfolding program_faults
step_beside_a_call_breaks = refl

-- call beside an element
-- int number(int a) {
--   return a;
-- }
-- int main() {
--   int x = 1;
--   std::map<int, int> m;
--   auto mi = m.begin();
--   number(x) + mi->first;
-- }
abbrev pub call_beside_an_element : Program
call_beside_an_element =
    function (at 1 1) (result.Scalar t.Int) (id "number" 1 5) (parameter.Value (at 1 12) t.Int (id "a" 1 16) ∷ []) (at 1 19)
    (items (states (gives_back (at 2 3) (Some (name (id "a" 2 10)))) ∷ [])) (at 3 1) ∷
    function (at 4 1) (result.Scalar t.Int) (id "main" 4 5) [] (at 4 12) (items (
    declares (declares_scalar (at 5 3) t.Int (id "x" 5 7) (Some (number (at 5 11) 1))) ∷
    declares (declares_container (container_type (at 6 3) f.Map) (id "m" 6 22) absent) ∷
    declares (declares_auto (at 7 3) (id "mi" 7 8) (member_call (name (id "m" 7 13)) (id "begin" 7 15) none)) ∷
    states (does (at 8 3) (evaluates (binary (call (id "number" 8 3) (all (name (id "x" 8 10) ∷ []))) (operator.Arithmetic o.Add)
    (at 8 13) (member (name (id "mi" 8 15)) selector.Arrow (at 8 17) (id "first" 8 19))))) ∷
    [])) (at 9 1) ∷
    []

call_beside_an_element_breaks : FirstBroken call_beside_an_element (fault (at 8 13) rule.ORDER_OF_EFFECTS)
unfolding program_faults
call_beside_an_element_breaks = refl

-- call beside a front among arguments
-- int two(int a, int b) {
--   return a + b;
-- }
-- int number(int a) {
--   return a;
-- }
-- int main() {
--   std::vector<int> v = {1, 2};
--   two(number(2), v.front());
-- }
abbrev pub call_beside_a_front_among_arguments : Program
call_beside_a_front_among_arguments =
    function (at 1 1) (result.Scalar t.Int) (id "two" 1 5)
    (parameter.Value (at 1 9) t.Int (id "a" 1 13) ∷ parameter.Value (at 1 16) t.Int (id "b" 1 20) ∷ []) (at 1 23) (items
    (states (gives_back (at 2 3) (Some (binary (name (id "a" 2 10)) (operator.Arithmetic o.Add) (at 2 12) (name (id "b" 2 14))))) ∷ []))
    (at 3 1) ∷
    function (at 4 1) (result.Scalar t.Int) (id "number" 4 5) (parameter.Value (at 4 12) t.Int (id "a" 4 16) ∷ []) (at 4 19)
    (items (states (gives_back (at 5 3) (Some (name (id "a" 5 10)))) ∷ [])) (at 6 1) ∷
    function (at 7 1) (result.Scalar t.Int) (id "main" 7 5) [] (at 7 12) (items (
    declares (declares_container (container_type (at 8 3) f.Vector) (id "v" 8 20)
    (braces true (all (number (at 8 25) 1 ∷ number (at 8 28) 2 ∷ [])))) ∷
    states (does (at 9 3) (evaluates (call (id "two" 9 3) (all
    (call (id "number" 9 7) (all (number (at 9 14) 2 ∷ [])) ∷ member_call (name (id "v" 9 18)) (id "front" 9 20) none ∷ []))))) ∷
    [])) (at 10 1) ∷
    []

call_beside_a_front_among_arguments_breaks : FirstBroken call_beside_a_front_among_arguments (fault (at 9 3) rule.ORDER_OF_EFFECTS)
unfolding program_faults
call_beside_a_front_among_arguments_breaks = refl

-- step beside a size
-- int main() {
--   int x = 1;
--   std::vector<int> v = {1, 2};
--   v.insert(v.begin(), x--, v.size());
-- }
abbrev pub step_beside_a_size : Program
step_beside_a_size = main_alone (
    declares (declares_scalar (at 2 3) t.Int (id "x" 2 7) (Some (number (at 2 11) 1))) ∷
    declares (declares_container (container_type (at 3 3) f.Vector) (id "v" 3 20)
    (braces true (all (number (at 3 25) 1 ∷ number (at 3 28) 2 ∷ [])))) ∷
    states (does (at 4 3) (evaluates (member_call (name (id "v" 4 3)) (id "insert" 4 5) (all (
    member_call (name (id "v" 4 12)) (id "begin" 4 14) none ∷
    postfix (name (id "x" 4 23)) behind.Decrement (at 4 24) ∷
    member_call (name (id "v" 4 28)) (id "size" 4 30) none ∷
    []))))) ∷
    []) (at 5 1)

step_beside_a_size_breaks : FirstBroken step_beside_a_size (fault (at 4 5) rule.ORDER_OF_EFFECTS)
unfolding program_faults
step_beside_a_size_breaks = refl

-- step beside its variable in a declaration
-- int main() {
--   int x = 1;
--   std::vector<int> g(x++, x);
-- }
abbrev pub step_beside_its_variable_in_a_declaration : Program
step_beside_its_variable_in_a_declaration = main_alone (
    declares (declares_scalar (at 2 3) t.Int (id "x" 2 7) (Some (number (at 2 11) 1))) ∷
    declares (declares_container (container_type (at 3 3) f.Vector) (id "g" 3 20)
    (arguments (all (postfix (name (id "x" 3 22)) behind.Increment (at 3 23) ∷ name (id "x" 3 27) ∷ [])))) ∷
    []) (at 4 1)

step_beside_its_variable_in_a_declaration_breaks : FirstBroken step_beside_its_variable_in_a_declaration
    (fault (at 3 3) rule.ORDER_OF_EFFECTS)
unfolding program_faults
step_beside_its_variable_in_a_declaration_breaks = refl

-- subscript of a map beside a call
-- int look(const std::vector<int>& a) {
--   return 1;
-- }
-- int main() {
--   std::vector<int> v = {1, 2};
--   std::map<int, int> m;
--   std::list<int> g(m[1], look(v));
-- }
abbrev pub subscript_of_a_map_beside_a_call : Program
subscript_of_a_map_beside_a_call =
    function (at 1 1) (result.Scalar t.Int) (id "look" 1 5)
    (parameter.ConstContainer (at 1 10) (container_type (at 1 16) f.Vector) (id "a" 1 34) ∷ []) (at 1 37)
    (items (states (gives_back (at 2 3) (Some (number (at 2 10) 1))) ∷ [])) (at 3 1) ∷
    function (at 4 1) (result.Scalar t.Int) (id "main" 4 5) [] (at 4 12) (items (
    declares (declares_container (container_type (at 5 3) f.Vector) (id "v" 5 20)
    (braces true (all (number (at 5 25) 1 ∷ number (at 5 28) 2 ∷ [])))) ∷
    declares (declares_container (container_type (at 6 3) f.Map) (id "m" 6 22) absent) ∷
    declares (declares_container (container_type (at 7 3) f.List) (id "g" 7 18) (arguments
    (all (index (name (id "m" 7 20)) (at 7 21) (number (at 7 22) 1) ∷ call (id "look" 7 26) (all (name (id "v" 7 31) ∷ [])) ∷ [])))) ∷
    [])) (at 8 1) ∷
    []

subscript_of_a_map_beside_a_call_breaks : FirstBroken subscript_of_a_map_beside_a_call (fault (at 7 3) rule.ORDER_OF_EFFECTS)
unfolding program_faults
subscript_of_a_map_beside_a_call_breaks = refl

-- call beside the end of a range
-- std::vector<int>::iterator same(std::vector<int>::iterator a) {
--   return a;
-- }
-- int main() {
--   int x = 1;
--   std::vector<int> v = {1, 2};
--   auto vi = v.begin();
--   std::fill(same(vi), v.end(), x);
-- }
abbrev pub call_beside_the_end_of_a_range : Program
call_beside_the_end_of_a_range =
    function (at 1 1) (result.Iterator (iterator_type (container_type (at 1 1) f.Vector) (id "iterator" 1 19))) (id "same" 1 28)
    (parameter.Iterator (iterator_type (container_type (at 1 33) f.Vector) (id "iterator" 1 51)) (id "a" 1 60) ∷ []) (at 1 63)
    (items (states (gives_back (at 2 3) (Some (name (id "a" 2 10)))) ∷ [])) (at 3 1) ∷
    function (at 4 1) (result.Scalar t.Int) (id "main" 4 5) [] (at 4 12) (items (
    declares (declares_scalar (at 5 3) t.Int (id "x" 5 7) (Some (number (at 5 11) 1))) ∷
    declares (declares_container (container_type (at 6 3) f.Vector) (id "v" 6 20)
    (braces true (all (number (at 6 25) 1 ∷ number (at 6 28) 2 ∷ [])))) ∷
    declares (declares_auto (at 7 3) (id "vi" 7 8) (member_call (name (id "v" 7 13)) (id "begin" 7 15) none)) ∷
    states (does (at 8 3) (evaluates (library_call (id "fill" 8 3) (all (
    call (id "same" 8 13) (all (name (id "vi" 8 18) ∷ [])) ∷
    member_call (name (id "v" 8 23)) (id "end" 8 25) none ∷
    name (id "x" 8 32) ∷
    []))))) ∷
    [])) (at 9 1) ∷
    []

call_beside_the_end_of_a_range_breaks : FirstBroken call_beside_the_end_of_a_range (fault (at 8 3) rule.ORDER_OF_EFFECTS)
unfolding program_faults
call_beside_the_end_of_a_range_breaks = refl

-- subscript of a map beside a begin
-- int main() {
--   std::vector<int> v = {1, 2};
--   std::map<int, int> m;
--   v.insert(v.begin(), m[1]);
-- }
abbrev pub subscript_of_a_map_beside_a_begin : Program
subscript_of_a_map_beside_a_begin = main_alone (
    declares (declares_container (container_type (at 2 3) f.Vector) (id "v" 2 20)
    (braces true (all (number (at 2 25) 1 ∷ number (at 2 28) 2 ∷ [])))) ∷
    declares (declares_container (container_type (at 3 3) f.Map) (id "m" 3 22) absent) ∷
    states (does (at 4 3) (evaluates (member_call (name (id "v" 4 3)) (id "insert" 4 5)
    (all (member_call (name (id "v" 4 12)) (id "begin" 4 14) none ∷ index (name (id "m" 4 23)) (at 4 24) (number (at 4 25) 1) ∷ []))))) ∷
    []) (at 5 1)

subscript_of_a_map_beside_a_begin_breaks : FirstBroken subscript_of_a_map_beside_a_begin (fault (at 4 5) rule.ORDER_OF_EFFECTS)
unfolding program_faults
subscript_of_a_map_beside_a_begin_breaks = refl

-- insert beside an arrow
-- int main() {
--   std::set<int> s = {1, 2};
--   std::map<int, int> m;
--   auto mi = m.begin();
--   mi->first - (*s.insert(1).first);
-- }
abbrev pub insert_beside_an_arrow : Program
insert_beside_an_arrow = main_alone (
    declares
    (declares_container (container_type (at 2 3) f.Set) (id "s" 2 17) (braces true (all (number (at 2 22) 1 ∷ number (at 2 25) 2 ∷ [])))) ∷
    declares (declares_container (container_type (at 3 3) f.Map) (id "m" 3 22) absent) ∷
    declares (declares_auto (at 4 3) (id "mi" 4 8) (member_call (name (id "m" 4 13)) (id "begin" 4 15) none)) ∷
    states (does (at 5 3) (evaluates (binary (member (name (id "mi" 5 3)) selector.Arrow (at 5 5) (id "first" 5 7))
    (operator.Arithmetic o.Subtract) (at 5 13) (parentheses (at 5 15) (prefix before.Dereference (at 5 16) (member
    (member_call (name (id "s" 5 17)) (id "insert" 5 19) (all (number (at 5 26) 1 ∷ []))) selector.Dot (at 5 28)
    (id "first" 5 29))))))) ∷
    []) (at 6 1)

insert_beside_an_arrow_breaks : FirstBroken insert_beside_an_arrow (fault (at 5 13) rule.ORDER_OF_EFFECTS)
unfolding program_faults
insert_beside_an_arrow_breaks = refl

-- element of a range for beside a step
-- int main() {
--   int x = 1;
--   std::list<int> l = {1, 2};
--   for (auto& e : l) x = e + ++x;
-- }
abbrev pub element_of_a_range_for_beside_a_step : Program
element_of_a_range_for_beside_a_step = main_alone (
    declares (declares_scalar (at 2 3) t.Int (id "x" 2 7) (Some (number (at 2 11) 1))) ∷
    declares
    (declares_container (container_type (at 3 3) f.List) (id "l" 3 18) (braces true (all (number (at 3 23) 1 ∷ number (at 3 26) 2 ∷ [])))) ∷
    states (range_for (at 4 3) (element.Reference (reference_head (at 4 8) false type.Auto)) (id "e" 4 14) (id "l" 4 18) (does (at 4 21) (assigns
    (name (id "x" 4 21)) assignment.Set (at 4 23)
    (binary (name (id "e" 4 25)) (operator.Arithmetic o.Add) (at 4 27) (prefix before.Increment (at 4 29) (name (id "x" 4 31))))))) ∷
    []) (at 5 1)

element_of_a_range_for_beside_a_step_breaks : FirstBroken element_of_a_range_for_beside_a_step (fault (at 4 27) rule.ORDER_OF_EFFECTS)
unfolding program_faults
element_of_a_range_for_beside_a_step_breaks = refl

-- reference beside its step
-- int main() {
--   int x = 1;
--   std::vector<int> v = {1, 2};
--   int& y = v[0];
--   x = y + ++y;
-- }
abbrev pub reference_beside_its_step : Program
reference_beside_its_step = main_alone (
    declares (declares_scalar (at 2 3) t.Int (id "x" 2 7) (Some (number (at 2 11) 1))) ∷
    declares (declares_container (container_type (at 3 3) f.Vector) (id "v" 3 20)
    (braces true (all (number (at 3 25) 1 ∷ number (at 3 28) 2 ∷ [])))) ∷
    declares
    (declares_reference (reference_head (at 4 3) false type.Int) (id "y" 4 8) (index (name (id "v" 4 12)) (at 4 13) (number (at 4 14) 0))) ∷
    states (does (at 5 3) (assigns (name (id "x" 5 3)) assignment.Set (at 5 5)
    (binary (name (id "y" 5 7)) (operator.Arithmetic o.Add) (at 5 9) (prefix before.Increment (at 5 11) (name (id "y" 5 13)))))) ∷
    []) (at 6 1)

reference_beside_its_step_breaks : FirstBroken reference_beside_its_step (fault (at 5 9) rule.ORDER_OF_EFFECTS)
unfolding program_faults
reference_beside_its_step_breaks = refl

-- reference beside a call
-- int number(int a) {
--   return a;
-- }
-- int main() {
--   int x = 1;
--   std::vector<int> v = {1, 2};
--   const auto& y = v.back();
--   x = 2;
--   x = number(x) + y;
-- }
abbrev pub reference_beside_a_call : Program
reference_beside_a_call =
    function (at 1 1) (result.Scalar t.Int) (id "number" 1 5) (parameter.Value (at 1 12) t.Int (id "a" 1 16) ∷ []) (at 1 19)
    (items (states (gives_back (at 2 3) (Some (name (id "a" 2 10)))) ∷ [])) (at 3 1) ∷
    function (at 4 1) (result.Scalar t.Int) (id "main" 4 5) [] (at 4 12) (items (
    declares (declares_scalar (at 5 3) t.Int (id "x" 5 7) (Some (number (at 5 11) 1))) ∷
    declares (declares_container (container_type (at 6 3) f.Vector) (id "v" 6 20)
    (braces true (all (number (at 6 25) 1 ∷ number (at 6 28) 2 ∷ [])))) ∷
    declares (declares_reference (reference_head (at 7 3) true type.Auto) (id "y" 7 15)
    (member_call (name (id "v" 7 19)) (id "back" 7 21) none)) ∷
    states (does (at 8 3) (assigns (name (id "x" 8 3)) assignment.Set (at 8 5) (number (at 8 7) 2))) ∷
    states (does (at 9 3) (assigns (name (id "x" 9 3)) assignment.Set (at 9 5)
    (binary (call (id "number" 9 7) (all (name (id "x" 9 14) ∷ []))) (operator.Arithmetic o.Add) (at 9 17) (name (id "y" 9 19))))) ∷
    [])) (at 10 1) ∷
    []

reference_beside_a_call_breaks : FirstBroken reference_beside_a_call (fault (at 9 17) rule.ORDER_OF_EFFECTS)
unfolding program_faults
reference_beside_a_call_breaks = refl

-- order in the first part of a for
-- void both(int& a, int& b) {
-- }
-- int main() {
--   int x = 1;
--   for ((x++ + x); x; ++x) both(x, x);
-- }
abbrev pub order_in_the_first_part_of_a_for : Program
order_in_the_first_part_of_a_for =
    function (at 1 1) result.Void (id "both" 1 6)
    (parameter.Reference (at 1 11) t.Int (id "a" 1 16) ∷ parameter.Reference (at 1 19) t.Int (id "b" 1 24) ∷ []) (at 1 27) (items [])
    (at 2 1) ∷
    function (at 3 1) (result.Scalar t.Int) (id "main" 3 5) [] (at 3 12) (items (
    declares (declares_scalar (at 4 3) t.Int (id "x" 4 7) (Some (number (at 4 11) 1))) ∷
    states (for (at 5 3) (Some (first_effect (evaluates (parentheses (at 5 8) (binary
    (postfix (name (id "x" 5 9)) behind.Increment (at 5 10)) (operator.Arithmetic o.Add) (at 5 13) (name (id "x" 5 15)))))))
    (Some (tests (name (id "x" 5 19)))) (Some (evaluates (prefix before.Increment (at 5 22) (name (id "x" 5 24)))))
    (does (at 5 27) (evaluates (call (id "both" 5 27) (all (name (id "x" 5 32) ∷ name (id "x" 5 35) ∷ [])))))) ∷
    [])) (at 6 1) ∷
    []

order_in_the_first_part_of_a_for_breaks : FirstBroken order_in_the_first_part_of_a_for (fault (at 5 13) rule.ORDER_OF_EFFECTS)
unfolding program_faults
order_in_the_first_part_of_a_for_breaks = refl

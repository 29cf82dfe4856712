-- References that can't be bound so, and what can't be done with one.
-- Each is made of a text and of what is due for it by tools/typing_goal.py.
use Rattle.sl_base.specs.declared.scalar.Scalar.TheVariants as t
use Rattle.sl_base.specs.declared.form.Form.TheVariants as f
use Rattle.sl_syntax.specs.declared.operator.Arithmetic.TheVariants as o
use Rattle.sl_syntax.specs.declared.operator.Assignment.TheVariants as assignment
use Rattle.sl_syntax.specs.declared.operator.BinaryOperator.TheVariants as operator
use Rattle.sl_syntax.specs.declared.operator.PrefixOperator.TheVariants as before
use Rattle.sl_syntax.specs.declared.operator.Selector.TheVariants as selector
use Rattle.sl_syntax.specs.declared.tree.element.Element.TheVariants as element
use Rattle.sl_syntax.specs.declared.tree.element.ElementType.TheVariants as type
use Rattle.sl_syntax.specs.declared.tree.function.Param.TheVariants as parameter
use Rattle.sl_syntax.specs.declared.tree.function.ResultType.TheVariants as result
use Rattle.sl_typing.specs.declared.rules.TheConstants as rule
use Rattle.std.specs.Prelude.{refl, true, false, [], ◌∷◌, Some}
use Rattle.sl_syntax.specs.Tree.{number, name, call, library_call, parentheses, prefix, binary, index, member_call, member, none, absent}
use Rattle.sl_syntax.specs.Tree.{braces, declares_scalar, declares_auto, declares_reference, declares_container, evaluates, assigns}
use Rattle.sl_syntax.specs.Tree.{range_for, does, declares, states, Program}
use Rattle.sl_typing.specs.ProgramFaults.{program_faults}
use Rattle.sl_typing.specs.Typing.{FirstBroken}
use Rattle.sl_typing.proofs.Examples.Words.{at, id, all, items, container_type, reference_head, function, main_alone, fault}

-- reference to a number
-- int main() {
--   int& y = 7;
-- }
abbrev pub reference_to_a_number : Program
reference_to_a_number = main_alone
    (declares (declares_reference (reference_head (at 2 3) false type.Int) (id "y" 2 8) (number (at 2 12) 7)) ∷ []) (at 3 1)

reference_to_a_number_breaks : FirstBroken reference_to_a_number (fault (at 2 3) rule.WRONG_TYPE)
unfolding program_faults
reference_to_a_number_breaks = refl

-- reference to parentheses
-- int main() {
--   std::unordered_map<int, int> um;
--   const int& y = (um[0]);
-- }
abbrev pub reference_to_parentheses : Program
reference_to_parentheses = main_alone (
    declares (declares_container (container_type (at 2 3) f.HashMap) (id "um" 2 32) absent) ∷
    declares (declares_reference (reference_head (at 3 3) true type.Int) (id "y" 3 14)
    (parentheses (at 3 18) (index (name (id "um" 3 19)) (at 3 21) (number (at 3 22) 0)))) ∷
    []) (at 4 1)

reference_to_parentheses_breaks : FirstBroken reference_to_parentheses (fault (at 3 3) rule.WRONG_TYPE)
unfolding program_faults
reference_to_parentheses_breaks = refl

-- reference to a part of a container
-- int main() {
--   std::multimap<int, int> mm;
--   int& y = mm->second;
--   y = 2;
-- }
abbrev pub reference_to_a_part_of_a_container : Program
reference_to_a_part_of_a_container = main_alone (
    declares (declares_container (container_type (at 2 3) f.MultiMap) (id "mm" 2 27) absent) ∷
    declares (declares_reference (reference_head (at 3 3) false type.Int) (id "y" 3 8)
    (member (name (id "mm" 3 12)) selector.Arrow (at 3 14) (id "second" 3 16))) ∷
    states (does (at 4 3) (assigns (name (id "y" 4 3)) assignment.Set (at 4 5) (number (at 4 7) 2))) ∷
    []) (at 5 1)

reference_to_a_part_of_a_container_breaks : FirstBroken reference_to_a_part_of_a_container (fault (at 3 14) rule.WRONG_TYPE)
unfolding program_faults
reference_to_a_part_of_a_container_breaks = refl

-- reference to a sum of a const element
-- int f(const std::map<int, int>& cm) {
--   int& y = cm[0] + 1;
-- }
-- int main() {
-- }
abbrev pub reference_to_a_sum_of_a_const_element : Program
reference_to_a_sum_of_a_const_element =
    function (at 1 1) (result.Scalar t.Int) (id "f" 1 5)
    (parameter.ConstContainer (at 1 7) (container_type (at 1 13) f.Map) (id "cm" 1 33) ∷ []) (at 1 37) (items (
    declares (declares_reference (reference_head (at 2 3) false type.Int) (id "y" 2 8)
    (binary (index (name (id "cm" 2 12)) (at 2 14) (number (at 2 15) 0)) (operator.Arithmetic o.Add) (at 2 18) (number (at 2 20) 1))) ∷
    [])) (at 3 1) ∷
    function (at 4 1) (result.Scalar t.Int) (id "main" 4 5) [] (at 4 12) (items []) (at 5 1) ∷
    []

reference_to_a_sum_of_a_const_element_breaks : FirstBroken reference_to_a_sum_of_a_const_element (fault (at 2 14) rule.WRITE_TO_CONST)
unfolding program_faults
reference_to_a_sum_of_a_const_element_breaks = refl

-- int reference to an element of a multiset
-- int main() {
--   std::multiset<int> ms = {1, 1};
--   auto msi = ms.begin();
--   int& y = *std::next(msi);
-- }
abbrev pub int_reference_to_an_element_of_a_multiset : Program
int_reference_to_an_element_of_a_multiset = main_alone (
    declares (declares_container (container_type (at 2 3) f.MultiSet) (id "ms" 2 22)
    (braces true (all (number (at 2 28) 1 ∷ number (at 2 31) 1 ∷ [])))) ∷
    declares (declares_auto (at 3 3) (id "msi" 3 8) (member_call (name (id "ms" 3 14)) (id "begin" 3 17) none)) ∷
    declares (declares_reference (reference_head (at 4 3) false type.Int) (id "y" 4 8)
    (prefix before.Dereference (at 4 12) (library_call (id "next" 4 13) (all (name (id "msi" 4 23) ∷ []))))) ∷
    []) (at 5 1)

int_reference_to_an_element_of_a_multiset_breaks : FirstBroken int_reference_to_an_element_of_a_multiset
    (fault (at 4 3) rule.WRITE_TO_CONST)
unfolding program_faults
int_reference_to_an_element_of_a_multiset_breaks = refl

-- const reference added to a number
-- int main() {
--   int x = 1;
--   std::vector<int> v = {1, 2};
--   const auto& y = v.back();
--   x = 2;
--   y += 1;
-- }
abbrev pub const_reference_added_to_a_number : Program
const_reference_added_to_a_number = main_alone (
    declares (declares_scalar (at 2 3) t.Int (id "x" 2 7) (Some (number (at 2 11) 1))) ∷
    declares (declares_container (container_type (at 3 3) f.Vector) (id "v" 3 20)
    (braces true (all (number (at 3 25) 1 ∷ number (at 3 28) 2 ∷ [])))) ∷
    declares
    (declares_reference (reference_head (at 4 3) true type.Auto) (id "y" 4 15) (member_call (name (id "v" 4 19)) (id "back" 4 21) none)) ∷
    states (does (at 5 3) (assigns (name (id "x" 5 3)) assignment.Set (at 5 5) (number (at 5 7) 2))) ∷
    states (does (at 6 3) (assigns (name (id "y" 6 3)) (assignment.Update o.Add) (at 6 5) (number (at 6 8) 1))) ∷
    []) (at 7 1)

const_reference_added_to_a_number_breaks : FirstBroken const_reference_added_to_a_number (fault (at 6 5) rule.WRITE_TO_CONST)
unfolding program_faults
const_reference_added_to_a_number_breaks = refl

-- int references to a set
-- int main() {
--   int x = 1;
--   std::set<int> s = {1, 2};
--   for (int& e : s) x = e;
-- }
abbrev pub int_references_to_a_set : Program
int_references_to_a_set = main_alone (
    declares (declares_scalar (at 2 3) t.Int (id "x" 2 7) (Some (number (at 2 11) 1))) ∷
    declares
    (declares_container (container_type (at 3 3) f.Set) (id "s" 3 17) (braces true (all (number (at 3 22) 1 ∷ number (at 3 25) 2 ∷ [])))) ∷
    states (range_for (at 4 3) (element.Reference (reference_head (at 4 8) false type.Int)) (id "e" 4 13) (id "s" 4 17)
    (does (at 4 20) (assigns (name (id "x" 4 20)) assignment.Set (at 4 22) (name (id "e" 4 24))))) ∷
    []) (at 5 1)

int_references_to_a_set_breaks : FirstBroken int_references_to_a_set (fault (at 4 3) rule.WRITE_TO_CONST)
unfolding program_faults
int_references_to_a_set_breaks = refl

-- step of a const element
-- int f(const std::list<int>& cl) {
--   for (auto& e : cl) ++e;
-- }
-- int main() {
-- }
abbrev pub step_of_a_const_element : Program
step_of_a_const_element =
    function (at 1 1) (result.Scalar t.Int) (id "f" 1 5)
    (parameter.ConstContainer (at 1 7) (container_type (at 1 13) f.List) (id "cl" 1 29) ∷ []) (at 1 33) (items (
    states (range_for (at 2 3) (element.Reference (reference_head (at 2 8) false type.Auto)) (id "e" 2 14) (id "cl" 2 18)
    (does (at 2 22) (evaluates (prefix before.Increment (at 2 22) (name (id "e" 2 24)))))) ∷
    [])) (at 3 1) ∷
    function (at 4 1) (result.Scalar t.Int) (id "main" 4 5) [] (at 4 12) (items []) (at 5 1) ∷
    []

step_of_a_const_element_breaks : FirstBroken step_of_a_const_element (fault (at 2 22) rule.WRITE_TO_CONST)
unfolding program_faults
step_of_a_const_element_breaks = refl

-- key of a map written
-- int main() {
--   std::map<int, int> m;
--   for (const auto& e : m) e.first = 1;
-- }
abbrev pub key_of_a_map_written : Program
key_of_a_map_written = main_alone (
    declares (declares_container (container_type (at 2 3) f.Map) (id "m" 2 22) absent) ∷
    states (range_for (at 3 3) (element.Reference (reference_head (at 3 8) true type.Auto)) (id "e" 3 20) (id "m" 3 24) (does (at 3 27)
    (assigns (member (name (id "e" 3 27)) selector.Dot (at 3 28) (id "first" 3 29)) assignment.Set (at 3 35) (number (at 3 37) 1)))) ∷
    []) (at 4 1)

key_of_a_map_written_breaks : FirstBroken key_of_a_map_written (fault (at 3 35) rule.WRITE_TO_CONST)
unfolding program_faults
key_of_a_map_written_breaks = refl

-- reference to a call that is not there
-- int main() {
--   std::multimap<int, int> mm;
--   int& y = mm.at(0);
-- }
abbrev pub reference_to_a_call_that_is_not_there : Program
reference_to_a_call_that_is_not_there = main_alone (
    declares (declares_container (container_type (at 2 3) f.MultiMap) (id "mm" 2 27) absent) ∷
    declares (declares_reference (reference_head (at 3 3) false type.Int) (id "y" 3 8)
    (member_call (name (id "mm" 3 12)) (id "at" 3 15) (all (number (at 3 18) 0 ∷ [])))) ∷
    []) (at 4 1)

reference_to_a_call_that_is_not_there_breaks : FirstBroken reference_to_a_call_that_is_not_there (fault (at 3 15) rule.NO_SUCH_CALL)
unfolding program_faults
reference_to_a_call_that_is_not_there_breaks = refl

-- entry of a map alone
-- int main() {
--   std::map<int, int> m;
--   for (const auto& e : m) e;
-- }
abbrev pub entry_of_a_map_alone : Program
entry_of_a_map_alone = main_alone (
    declares (declares_container (container_type (at 2 3) f.Map) (id "m" 2 22) absent) ∷
    states (range_for (at 3 3) (element.Reference (reference_head (at 3 8) true type.Auto)) (id "e" 3 20) (id "m" 3 24)
    (does (at 3 27) (evaluates (name (id "e" 3 27))))) ∷
    []) (at 4 1)

entry_of_a_map_alone_breaks : FirstBroken entry_of_a_map_alone (fault (at 3 27) rule.WRONG_TYPE)
unfolding program_faults
entry_of_a_map_alone_breaks = refl

-- element of another form assigned
-- int main() {
--   std::vector<int> v = {1, 2};
--   std::list<int> l = {1, 2};
--   for (const auto& e : l) v.assign(2, e);
-- }
abbrev pub element_of_another_form_assigned : Program
element_of_another_form_assigned = main_alone (
    declares (declares_container (container_type (at 2 3) f.Vector) (id "v" 2 20)
    (braces true (all (number (at 2 25) 1 ∷ number (at 2 28) 2 ∷ [])))) ∷
    declares
    (declares_container (container_type (at 3 3) f.List) (id "l" 3 18) (braces true (all (number (at 3 23) 1 ∷ number (at 3 26) 2 ∷ [])))) ∷
    states (range_for (at 4 3) (element.Reference (reference_head (at 4 8) true type.Auto)) (id "e" 4 20) (id "l" 4 24) (does (at 4 27)
    (evaluates (member_call (name (id "v" 4 27)) (id "assign" 4 29) (all (number (at 4 36) 2 ∷ name (id "e" 4 39) ∷ [])))))) ∷
    []) (at 5 1)

element_of_another_form_assigned_breaks : FirstBroken element_of_another_form_assigned (fault (at 4 29) rule.WRONG_TYPE)
unfolding program_faults
element_of_another_form_assigned_breaks = refl

-- element for a reference parameter
-- void change(int& a) {
--   a = 1;
-- }
-- int f(const std::list<int>& cl) {
--   for (const auto& e : cl) change(e);
-- }
-- int main() {
-- }
abbrev pub element_for_a_reference_parameter : Program
element_for_a_reference_parameter =
    function (at 1 1) result.Void (id "change" 1 6) (parameter.Reference (at 1 13) t.Int (id "a" 1 18) ∷ []) (at 1 21)
    (items (states (does (at 2 3) (assigns (name (id "a" 2 3)) assignment.Set (at 2 5) (number (at 2 7) 1))) ∷ [])) (at 3 1) ∷
    function (at 4 1) (result.Scalar t.Int) (id "f" 4 5)
    (parameter.ConstContainer (at 4 7) (container_type (at 4 13) f.List) (id "cl" 4 29) ∷ []) (at 4 33) (items (
    states (range_for (at 5 3) (element.Reference (reference_head (at 5 8) true type.Auto)) (id "e" 5 20) (id "cl" 5 24)
    (does (at 5 28) (evaluates (call (id "change" 5 28) (all (name (id "e" 5 35) ∷ [])))))) ∷
    [])) (at 6 1) ∷
    function (at 7 1) (result.Scalar t.Int) (id "main" 7 5) [] (at 7 12) (items []) (at 8 1) ∷
    []

element_for_a_reference_parameter_breaks : FirstBroken element_for_a_reference_parameter (fault (at 5 28) rule.WRONG_TYPE)
unfolding program_faults
element_for_a_reference_parameter_breaks = refl

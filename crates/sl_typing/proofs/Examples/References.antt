-- References to elements: what they are bound to, and what is done with them.
-- Each is made of a text and of what is due for it by tools/typing_goal.py.
use Rattle.sl_base.specs.declared.scalar.Scalar.TheVariants as t
use Rattle.sl_base.specs.declared.form.Form.TheVariants as f
use Rattle.sl_syntax.specs.declared.operator.Arithmetic.TheVariants as o
use Rattle.sl_syntax.specs.declared.operator.Assignment.TheVariants as assignment
use Rattle.sl_syntax.specs.declared.operator.PrefixOperator.TheVariants as before
use Rattle.sl_syntax.specs.declared.operator.Selector.TheVariants as selector
use Rattle.sl_syntax.specs.declared.tree.element.Element.TheVariants as element
use Rattle.sl_syntax.specs.declared.tree.element.ElementType.TheVariants as type
use Rattle.sl_syntax.specs.declared.tree.function.Param.TheVariants as parameter
use Rattle.sl_syntax.specs.declared.tree.function.ResultType.TheVariants as result
use Rattle.std.specs.Prelude.{◌≡◌, refl, true, false, [], ◌∷◌, Some}
use Rattle.sl_syntax.specs.Tree.{number, name, call, library_call, parentheses, prefix, index, member_call, member, none, absent, braces}
use Rattle.sl_syntax.specs.Tree.{declares_scalar, declares_auto, declares_reference, declares_container, evaluates, assigns, tests, block}
use Rattle.sl_syntax.specs.Tree.{choice, range_for, gives_back, does, declares, states, Program}
use Rattle.sl_typing.specs.ProgramFaults.{program_faults}
use Rattle.sl_typing.proofs.Examples.Words.{at, id, all, items, container_type, reference_head, function, main_alone}

-- reference to what an iterator is at
-- int main() {
--   std::vector<int> v = {1, 2};
--   auto vi = v.begin();
--   int& y = *vi;
--   y = 2;
-- }
abbrev pub reference_to_what_an_iterator_is_at : Program
reference_to_what_an_iterator_is_at = main_alone (
    declares (declares_container (container_type (at 2 3) f.Vector) (id "v" 2 20)
    (braces true (all (number (at 2 25) 1 ∷ number (at 2 28) 2 ∷ [])))) ∷
    declares (declares_auto (at 3 3) (id "vi" 3 8) (member_call (name (id "v" 3 13)) (id "begin" 3 15) none)) ∷
    declares
    (declares_reference (reference_head (at 4 3) false type.Int) (id "y" 4 8) (prefix before.Dereference (at 4 12) (name (id "vi" 4 13)))) ∷
    states (does (at 5 3) (assigns (name (id "y" 5 3)) assignment.Set (at 5 5) (number (at 5 7) 2))) ∷
    []) (at 6 1)

reference_to_what_an_iterator_is_at_breaks_none : program_faults reference_to_what_an_iterator_is_at ≡ []
unfolding program_faults
reference_to_what_an_iterator_is_at_breaks_none = refl

-- auto reference to a value
-- int main() {
--   std::unordered_map<int, int> um;
--   auto& y = um.at(0);
-- }
abbrev pub auto_reference_to_a_value : Program
auto_reference_to_a_value = main_alone (
    declares (declares_container (container_type (at 2 3) f.HashMap) (id "um" 2 32) absent) ∷
    declares (declares_reference (reference_head (at 3 3) false type.Auto) (id "y" 3 9)
    (member_call (name (id "um" 3 13)) (id "at" 3 16) (all (number (at 3 19) 0 ∷ [])))) ∷
    []) (at 4 1)

auto_reference_to_a_value_breaks_none : program_faults auto_reference_to_a_value ≡ []
unfolding program_faults
auto_reference_to_a_value_breaks_none = refl

-- const reference to a const element
-- int f(const std::vector<int>& cv) {
--   const int& y = cv[0];
-- }
-- int main() {
-- }
abbrev pub const_reference_to_a_const_element : Program
const_reference_to_a_const_element =
    function (at 1 1) (result.Scalar t.Int) (id "f" 1 5)
    (parameter.ConstContainer (at 1 7) (container_type (at 1 13) f.Vector) (id "cv" 1 31) ∷ []) (at 1 35) (items (
    declares (declares_reference (reference_head (at 2 3) true type.Int) (id "y" 2 14)
    (index (name (id "cv" 2 18)) (at 2 20) (number (at 2 21) 0))) ∷
    [])) (at 3 1) ∷
    function (at 4 1) (result.Scalar t.Int) (id "main" 4 5) [] (at 4 12) (items []) (at 5 1) ∷
    []

const_reference_to_a_const_element_breaks_none : program_faults const_reference_to_a_const_element ≡ []
unfolding program_faults
const_reference_to_a_const_element_breaks_none = refl

-- reference to an element of parentheses
-- int main() {
--   std::deque<int> q = {1, 2};
--   auto& y = (q)[0];
-- }
abbrev pub reference_to_an_element_of_parentheses : Program
reference_to_an_element_of_parentheses = main_alone (
    declares (declares_container (container_type (at 2 3) f.Deque) (id "q" 2 19)
    (braces true (all (number (at 2 24) 1 ∷ number (at 2 27) 2 ∷ [])))) ∷
    declares (declares_reference (reference_head (at 3 3) false type.Auto) (id "y" 3 9)
    (index (parentheses (at 3 13) (name (id "q" 3 14))) (at 3 16) (number (at 3 17) 0))) ∷
    []) (at 4 1)

reference_to_an_element_of_parentheses_breaks_none : program_faults reference_to_an_element_of_parentheses ≡ []
unfolding program_faults
reference_to_an_element_of_parentheses_breaks_none = refl

-- const auto reference to a key
-- int main() {
--   std::unordered_map<int, int> um;
--   auto umi = um.begin();
--   const auto& y = umi->first;
-- }
abbrev pub const_auto_reference_to_a_key : Program
const_auto_reference_to_a_key = main_alone (
    declares (declares_container (container_type (at 2 3) f.HashMap) (id "um" 2 32) absent) ∷
    declares (declares_auto (at 3 3) (id "umi" 3 8) (member_call (name (id "um" 3 14)) (id "begin" 3 17) none)) ∷
    declares (declares_reference (reference_head (at 4 3) true type.Auto) (id "y" 4 15)
    (member (name (id "umi" 4 19)) selector.Arrow (at 4 22) (id "first" 4 24))) ∷
    []) (at 5 1)

const_auto_reference_to_a_key_breaks_none : program_faults const_auto_reference_to_a_key ≡ []
unfolding program_faults
const_auto_reference_to_a_key_breaks_none = refl

-- reference to a value of a multimap
-- int main() {
--   std::multimap<int, int> mm;
--   auto mmi = mm.begin();
--   int& y = mmi->second;
--   y = 2;
-- }
abbrev pub reference_to_a_value_of_a_multimap : Program
reference_to_a_value_of_a_multimap = main_alone (
    declares (declares_container (container_type (at 2 3) f.MultiMap) (id "mm" 2 27) absent) ∷
    declares (declares_auto (at 3 3) (id "mmi" 3 8) (member_call (name (id "mm" 3 14)) (id "begin" 3 17) none)) ∷
    declares (declares_reference (reference_head (at 4 3) false type.Int) (id "y" 4 8)
    (member (name (id "mmi" 4 12)) selector.Arrow (at 4 15) (id "second" 4 17))) ∷
    states (does (at 5 3) (assigns (name (id "y" 5 3)) assignment.Set (at 5 5) (number (at 5 7) 2))) ∷
    []) (at 6 1)

reference_to_a_value_of_a_multimap_breaks_none : program_faults reference_to_a_value_of_a_multimap ≡ []
unfolding program_faults
reference_to_a_value_of_a_multimap_breaks_none = refl

-- reference as an element that is counted
-- int main() {
--   std::vector<int> v = {1, 2};
--   int& y = v[0];
--   std::count(v.begin(), v.end(), y);
-- }
abbrev pub reference_as_an_element_that_is_counted : Program
reference_as_an_element_that_is_counted = main_alone (
    declares (declares_container (container_type (at 2 3) f.Vector) (id "v" 2 20)
    (braces true (all (number (at 2 25) 1 ∷ number (at 2 28) 2 ∷ [])))) ∷
    declares
    (declares_reference (reference_head (at 3 3) false type.Int) (id "y" 3 8) (index (name (id "v" 3 12)) (at 3 13) (number (at 3 14) 0))) ∷
    states (does (at 4 3) (evaluates (library_call (id "count" 4 3) (all (
    member_call (name (id "v" 4 14)) (id "begin" 4 16) none ∷
    member_call (name (id "v" 4 25)) (id "end" 4 27) none ∷
    name (id "y" 4 34) ∷
    []))))) ∷
    []) (at 5 1)

reference_as_an_element_that_is_counted_breaks_none : program_faults reference_as_an_element_that_is_counted ≡ []
unfolding program_faults
reference_as_an_element_that_is_counted_breaks_none = refl

-- reference added to
-- int main() {
--   std::vector<int> v = {1, 2};
--   auto& y = v[0];
--   y += 1;
-- }
abbrev pub reference_added_to : Program
reference_added_to = main_alone (
    declares (declares_container (container_type (at 2 3) f.Vector) (id "v" 2 20)
    (braces true (all (number (at 2 25) 1 ∷ number (at 2 28) 2 ∷ [])))) ∷
    declares (declares_reference (reference_head (at 3 3) false type.Auto) (id "y" 3 9)
    (index (name (id "v" 3 13)) (at 3 14) (number (at 3 15) 0))) ∷
    states (does (at 4 3) (assigns (name (id "y" 4 3)) (assignment.Update o.Add) (at 4 5) (number (at 4 8) 1))) ∷
    []) (at 5 1)

reference_added_to_breaks_none : program_faults reference_added_to ≡ []
unfolding program_faults
reference_added_to_breaks_none = refl

-- reference as a condition
-- int main() {
--   int x = 1;
--   std::vector<int> v = {1, 2};
--   int& y = v.back();
--   x = 2;
--   if (y) {}
-- }
abbrev pub reference_as_a_condition : Program
reference_as_a_condition = main_alone (
    declares (declares_scalar (at 2 3) t.Int (id "x" 2 7) (Some (number (at 2 11) 1))) ∷
    declares (declares_container (container_type (at 3 3) f.Vector) (id "v" 3 20)
    (braces true (all (number (at 3 25) 1 ∷ number (at 3 28) 2 ∷ [])))) ∷
    declares
    (declares_reference (reference_head (at 4 3) false type.Int) (id "y" 4 8) (member_call (name (id "v" 4 12)) (id "back" 4 14) none)) ∷
    states (does (at 5 3) (assigns (name (id "x" 5 3)) assignment.Set (at 5 5) (number (at 5 7) 2))) ∷
    states (choice (at 6 3) (tests (name (id "y" 6 7))) (block (at 6 10) (items []) (at 6 11))) ∷
    []) (at 7 1)

reference_as_a_condition_breaks_none : program_faults reference_as_a_condition ≡ []
unfolding program_faults
reference_as_a_condition_breaks_none = refl

-- elements read
-- int main() {
--   int x = 1;
--   std::vector<int> v = {1, 2};
--   for (auto& e : v) x = e;
-- }
abbrev pub elements_read : Program
elements_read = main_alone (
    declares (declares_scalar (at 2 3) t.Int (id "x" 2 7) (Some (number (at 2 11) 1))) ∷
    declares (declares_container (container_type (at 3 3) f.Vector) (id "v" 3 20)
    (braces true (all (number (at 3 25) 1 ∷ number (at 3 28) 2 ∷ [])))) ∷
    states (range_for (at 4 3) (element.Reference (reference_head (at 4 8) false type.Auto)) (id "e" 4 14) (id "v" 4 18)
    (does (at 4 21) (assigns (name (id "x" 4 21)) assignment.Set (at 4 23) (name (id "e" 4 25))))) ∷
    []) (at 5 1)

elements_read_breaks_none : program_faults elements_read ≡ []
unfolding program_faults
elements_read_breaks_none = refl

-- value of a map as an argument
-- int number(int a) {
--   return a;
-- }
-- int main() {
--   std::map<int, int> m;
--   for (const auto& e : m) number(e.second);
-- }
abbrev pub value_of_a_map_as_an_argument : Program
value_of_a_map_as_an_argument =
    function (at 1 1) (result.Scalar t.Int) (id "number" 1 5) (parameter.Value (at 1 12) t.Int (id "a" 1 16) ∷ []) (at 1 19)
    (items (states (gives_back (at 2 3) (Some (name (id "a" 2 10)))) ∷ [])) (at 3 1) ∷
    function (at 4 1) (result.Scalar t.Int) (id "main" 4 5) [] (at 4 12) (items (
    declares (declares_container (container_type (at 5 3) f.Map) (id "m" 5 22) absent) ∷
    states (range_for (at 6 3) (element.Reference (reference_head (at 6 8) true type.Auto)) (id "e" 6 20) (id "m" 6 24) (does (at 6 27)
    (evaluates (call (id "number" 6 27) (all (member (name (id "e" 6 34)) selector.Dot (at 6 35) (id "second" 6 36) ∷ [])))))) ∷
    [])) (at 7 1) ∷
    []

value_of_a_map_as_an_argument_breaks_none : program_faults value_of_a_map_as_an_argument ≡ []
unfolding program_faults
value_of_a_map_as_an_argument_breaks_none = refl

-- value of a map written
-- int main() {
--   std::map<int, int> m;
--   for (auto& e : m) e.second += 1;
-- }
abbrev pub value_of_a_map_written : Program
value_of_a_map_written = main_alone (
    declares (declares_container (container_type (at 2 3) f.Map) (id "m" 2 22) absent) ∷
    states (range_for (at 3 3) (element.Reference (reference_head (at 3 8) false type.Auto)) (id "e" 3 14) (id "m" 3 18) (does (at 3 21) (assigns
    (member (name (id "e" 3 21)) selector.Dot (at 3 22) (id "second" 3 23)) (assignment.Update o.Add) (at 3 30) (number (at 3 33) 1)))) ∷
    []) (at 4 1)

value_of_a_map_written_breaks_none : program_faults value_of_a_map_written ≡ []
unfolding program_faults
value_of_a_map_written_breaks_none = refl

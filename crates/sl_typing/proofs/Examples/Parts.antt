-- Pieces behind an operand, objects and arguments that don't fit.
-- Each is made of a text and of what is due for it by tools/typing_goal.py.
use Rattle.sl_base.specs.declared.scalar.Scalar.TheVariants as t
use Rattle.sl_base.specs.declared.form.Form.TheVariants as f
use Rattle.sl_syntax.specs.declared.operator.Arithmetic.TheVariants as o
use Rattle.sl_syntax.specs.declared.operator.BinaryOperator.TheVariants as operator
use Rattle.sl_syntax.specs.declared.operator.PrefixOperator.TheVariants as before
use Rattle.sl_syntax.specs.declared.operator.Selector.TheVariants as selector
use Rattle.sl_syntax.specs.declared.tree.function.Param.TheVariants as parameter
use Rattle.sl_syntax.specs.declared.tree.function.ResultType.TheVariants as result
use Rattle.sl_typing.specs.declared.rules.TheConstants as rule
use Rattle.std.specs.Prelude.{◌≡◌, refl, true, [], ◌∷◌, Some}
use Rattle.sl_syntax.specs.Tree.{number, name, call, library_call, parentheses, prefix, binary, index, member_call, member, none, absent}
use Rattle.sl_syntax.specs.Tree.{copies, braces, arguments, declares_scalar, declares_auto, declares_container, evaluates, does, declares}
use Rattle.sl_syntax.specs.Tree.{states, Program}
use Rattle.sl_typing.specs.ProgramFaults.{program_faults}
use Rattle.sl_typing.specs.Typing.{FirstBroken}
use Rattle.sl_typing.proofs.Examples.Words.{at, id, all, items, container_type, function, main_alone, fault}

-- first of a number
-- int main() {
--   int x = 1;
--   x.first;
-- }
abbrev pub first_of_a_number : Program
first_of_a_number = main_alone (
    declares (declares_scalar (at 2 3) t.Int (id "x" 2 7) (Some (number (at 2 11) 1))) ∷
    states (does (at 3 3) (evaluates (member (name (id "x" 3 3)) selector.Dot (at 3 4) (id "first" 3 5)))) ∷
    []) (at 4 1)

first_of_a_number_breaks : FirstBroken first_of_a_number (fault (at 3 4) rule.WRONG_TYPE)
unfolding program_faults
first_of_a_number_breaks = refl

-- arrow to no part
-- int main() {
--   std::map<int, int> m;
--   auto mi = m.begin();
--   mi->foo;
-- }
abbrev pub arrow_to_no_part : Program
arrow_to_no_part = main_alone (
    declares (declares_container (container_type (at 2 3) f.Map) (id "m" 2 22) absent) ∷
    declares (declares_auto (at 3 3) (id "mi" 3 8) (member_call (name (id "m" 3 13)) (id "begin" 3 15) none)) ∷
    states (does (at 4 3) (evaluates (member (name (id "mi" 4 3)) selector.Arrow (at 4 5) (id "foo" 4 7)))) ∷
    []) (at 5 1)

arrow_to_no_part_breaks : FirstBroken arrow_to_no_part (fault (at 4 5) rule.WRONG_TYPE)
unfolding program_faults
arrow_to_no_part_breaks = refl

-- object in parentheses
-- int main() {
--   std::unordered_map<int, int> um;
--   (um).size();
-- }
abbrev pub object_in_parentheses : Program
object_in_parentheses = main_alone (
    declares (declares_container (container_type (at 2 3) f.HashMap) (id "um" 2 32) absent) ∷
    states (does (at 3 3) (evaluates (member_call (parentheses (at 3 3) (name (id "um" 3 4))) (id "size" 3 8) none))) ∷
    []) (at 4 1)

object_in_parentheses_breaks : FirstBroken object_in_parentheses (fault (at 3 8) rule.WRONG_TYPE)
unfolding program_faults
object_in_parentheses_breaks = refl

-- number for a container
-- void grow(std::vector<int>& a) {
-- }
-- int main() {
--   int x = 1;
--   grow(x);
-- }
abbrev pub number_for_a_container : Program
number_for_a_container =
    function (at 1 1) result.Void (id "grow" 1 6) (parameter.Container (container_type (at 1 11) f.Vector) (id "a" 1 29) ∷ []) (at 1 32)
    (items []) (at 2 1) ∷
    function (at 3 1) (result.Scalar t.Int) (id "main" 3 5) [] (at 3 12) (items (
    declares (declares_scalar (at 4 3) t.Int (id "x" 4 7) (Some (number (at 4 11) 1))) ∷
    states (does (at 5 3) (evaluates (call (id "grow" 5 3) (all (name (id "x" 5 8) ∷ []))))) ∷
    [])) (at 6 1) ∷
    []

number_for_a_container_breaks : FirstBroken number_for_a_container (fault (at 5 3) rule.WRONG_TYPE)
unfolding program_faults
number_for_a_container_breaks = refl

-- assign of an own element
-- int main() {
--   std::vector<int> v = {1, 2};
--   v.assign(1, v[0]);
-- }
abbrev pub assign_of_an_own_element : Program
assign_of_an_own_element = main_alone (
    declares (declares_container (container_type (at 2 3) f.Vector) (id "v" 2 20)
    (braces true (all (number (at 2 25) 1 ∷ number (at 2 28) 2 ∷ [])))) ∷
    states (does (at 3 3) (evaluates (member_call (name (id "v" 3 3)) (id "assign" 3 5)
    (all (number (at 3 12) 1 ∷ index (name (id "v" 3 15)) (at 3 16) (number (at 3 17) 0) ∷ []))))) ∷
    []) (at 4 1)

assign_of_an_own_element_breaks : FirstBroken assign_of_an_own_element (fault (at 3 5) rule.WRONG_TYPE)
unfolding program_faults
assign_of_an_own_element_breaks = refl

-- assign of a number in parentheses
-- int main() {
--   int x = 1;
--   std::list<int> l = {1, 2};
--   l.assign(1, (x));
-- }
abbrev pub assign_of_a_number_in_parentheses : Program
assign_of_a_number_in_parentheses = main_alone (
    declares (declares_scalar (at 2 3) t.Int (id "x" 2 7) (Some (number (at 2 11) 1))) ∷
    declares
    (declares_container (container_type (at 3 3) f.List) (id "l" 3 18) (braces true (all (number (at 3 23) 1 ∷ number (at 3 26) 2 ∷ [])))) ∷
    states (does (at 4 3) (evaluates
    (member_call (name (id "l" 4 3)) (id "assign" 4 5) (all (number (at 4 12) 1 ∷ parentheses (at 4 15) (name (id "x" 4 16)) ∷ []))))) ∷
    []) (at 5 1)

assign_of_a_number_in_parentheses_breaks_none : program_faults assign_of_a_number_in_parentheses ≡ []
unfolding program_faults
assign_of_a_number_in_parentheses_breaks_none = refl

-- iterator for a count
-- int main() {
--   int x = 1;
--   std::vector<int> v = {1, 2};
--   auto vi = v.begin();
--   v.assign(vi, x);
-- }
abbrev pub iterator_for_a_count : Program
iterator_for_a_count = main_alone (
    declares (declares_scalar (at 2 3) t.Int (id "x" 2 7) (Some (number (at 2 11) 1))) ∷
    declares (declares_container (container_type (at 3 3) f.Vector) (id "v" 3 20)
    (braces true (all (number (at 3 25) 1 ∷ number (at 3 28) 2 ∷ [])))) ∷
    declares (declares_auto (at 4 3) (id "vi" 4 8) (member_call (name (id "v" 4 13)) (id "begin" 4 15) none)) ∷
    states
    (does (at 5 3) (evaluates (member_call (name (id "v" 5 3)) (id "assign" 5 5) (all (name (id "vi" 5 12) ∷ name (id "x" 5 16) ∷ []))))) ∷
    []) (at 6 1)

iterator_for_a_count_breaks : FirstBroken iterator_for_a_count (fault (at 5 5) rule.WRONG_TYPE)
unfolding program_faults
iterator_for_a_count_breaks = refl

-- set of a count
-- int main() {
--   std::set<int> g(5);
-- }
abbrev pub set_of_a_count : Program
set_of_a_count = main_alone
    (declares (declares_container (container_type (at 2 3) f.Set) (id "g" 2 17) (arguments (all (number (at 2 19) 5 ∷ [])))) ∷ []) (at 3 1)

set_of_a_count_breaks : FirstBroken set_of_a_count (fault (at 2 3) rule.WRONG_TYPE)
unfolding program_faults
set_of_a_count_breaks = refl

-- copy of another form
-- int main() {
--   std::vector<int> v = {1, 2};
--   std::multimap<int, int> g = v;
-- }
abbrev pub copy_of_another_form : Program
copy_of_another_form = main_alone (
    declares (declares_container (container_type (at 2 3) f.Vector) (id "v" 2 20)
    (braces true (all (number (at 2 25) 1 ∷ number (at 2 28) 2 ∷ [])))) ∷
    declares (declares_container (container_type (at 3 3) f.MultiMap) (id "g" 3 27) (copies (id "v" 3 31))) ∷
    []) (at 4 1)

copy_of_another_form_breaks : FirstBroken copy_of_another_form (fault (at 3 3) rule.WRONG_TYPE)
unfolding program_faults
copy_of_another_form_breaks = refl

-- range of two forms
-- int main() {
--   std::vector<int> v = {1, 2};
--   std::deque<int> q = {1, 2};
--   std::list<int> l = {1, 2};
--   std::set_intersection(v.begin(), l.end(), l.begin(), l.end(), q.begin());
-- }
abbrev pub range_of_two_forms : Program
range_of_two_forms = main_alone (
    declares (declares_container (container_type (at 2 3) f.Vector) (id "v" 2 20)
    (braces true (all (number (at 2 25) 1 ∷ number (at 2 28) 2 ∷ [])))) ∷
    declares (declares_container (container_type (at 3 3) f.Deque) (id "q" 3 19)
    (braces true (all (number (at 3 24) 1 ∷ number (at 3 27) 2 ∷ [])))) ∷
    declares
    (declares_container (container_type (at 4 3) f.List) (id "l" 4 18) (braces true (all (number (at 4 23) 1 ∷ number (at 4 26) 2 ∷ [])))) ∷
    states (does (at 5 3) (evaluates (library_call (id "set_intersection" 5 3) (all (
    member_call (name (id "v" 5 25)) (id "begin" 5 27) none ∷
    member_call (name (id "l" 5 36)) (id "end" 5 38) none ∷
    member_call (name (id "l" 5 45)) (id "begin" 5 47) none ∷
    member_call (name (id "l" 5 56)) (id "end" 5 58) none ∷
    member_call (name (id "q" 5 65)) (id "begin" 5 67) none ∷
    []))))) ∷
    []) (at 6 1)

range_of_two_forms_breaks : FirstBroken range_of_two_forms (fault (at 5 3) rule.WRONG_TYPE)
unfolding program_faults
range_of_two_forms_breaks = refl

-- appender of a multiset
-- int main() {
--   std::multiset<int> ms = {1, 1};
--   std::back_inserter(ms);
-- }
abbrev pub appender_of_a_multiset : Program
appender_of_a_multiset = main_alone (
    declares (declares_container (container_type (at 2 3) f.MultiSet) (id "ms" 2 22)
    (braces true (all (number (at 2 28) 1 ∷ number (at 2 31) 1 ∷ [])))) ∷
    states (does (at 3 3) (evaluates (library_call (id "back_inserter" 3 3) (all (name (id "ms" 3 22) ∷ []))))) ∷
    []) (at 4 1)

appender_of_a_multiset_breaks : FirstBroken appender_of_a_multiset (fault (at 3 3) rule.WRONG_TYPE)
unfolding program_faults
appender_of_a_multiset_breaks = refl

-- iterator in braces
-- int main() {
--   std::vector<int> v = {1, 2};
--   std::vector<int> g = {++v[0], 1, v.begin()};
-- }
abbrev pub iterator_in_braces : Program
iterator_in_braces = main_alone (
    declares (declares_container (container_type (at 2 3) f.Vector) (id "v" 2 20)
    (braces true (all (number (at 2 25) 1 ∷ number (at 2 28) 2 ∷ [])))) ∷
    declares (declares_container (container_type (at 3 3) f.Vector) (id "g" 3 20) (braces true (all (
    prefix before.Increment (at 3 25) (index (name (id "v" 3 27)) (at 3 28) (number (at 3 29) 0)) ∷
    number (at 3 33) 1 ∷
    member_call (name (id "v" 3 36)) (id "begin" 3 38) none ∷
    [])))) ∷
    []) (at 4 1)

iterator_in_braces_breaks : FirstBroken iterator_in_braces (fault (at 3 3) rule.WRONG_TYPE)
unfolding program_faults
iterator_in_braces_breaks = refl

-- wrong sum before main
-- int main() {
--   std::vector<int> v = {1, 2};
--   v.insert((v + 1), main());
-- }
abbrev pub wrong_sum_before_main : Program
wrong_sum_before_main = main_alone (
    declares (declares_container (container_type (at 2 3) f.Vector) (id "v" 2 20)
    (braces true (all (number (at 2 25) 1 ∷ number (at 2 28) 2 ∷ [])))) ∷
    states (does (at 3 3) (evaluates (member_call (name (id "v" 3 3)) (id "insert" 3 5) (all (
    parentheses (at 3 12) (binary (name (id "v" 3 13)) (operator.Arithmetic o.Add) (at 3 15) (number (at 3 17) 1)) ∷
    call (id "main" 3 21) none ∷
    []))))) ∷
    []) (at 4 1)

wrong_sum_before_main_breaks : FirstBroken wrong_sum_before_main (fault (at 3 15) rule.WRONG_TYPE)
unfolding program_faults
wrong_sum_before_main_breaks = refl

-- first of a pair
-- int main() {
--   std::set<int> s = {1, 2};
--   s.insert(4).first;
-- }
abbrev pub first_of_a_pair : Program
first_of_a_pair = main_alone (
    declares
    (declares_container (container_type (at 2 3) f.Set) (id "s" 2 17) (braces true (all (number (at 2 22) 1 ∷ number (at 2 25) 2 ∷ [])))) ∷
    states (does (at 3 3) (evaluates (member (member_call (name (id "s" 3 3)) (id "insert" 3 5) (all (number (at 3 12) 4 ∷ [])))
    selector.Dot (at 3 14) (id "first" 3 15)))) ∷
    []) (at 4 1)

first_of_a_pair_breaks_none : program_faults first_of_a_pair ≡ []
unfolding program_faults
first_of_a_pair_breaks_none = refl

-- insert of an own element
-- int main() {
--   std::vector<int> v = {1, 2};
--   v.insert(v.begin(), v[0]);
-- }
abbrev pub insert_of_an_own_element : Program
insert_of_an_own_element = main_alone (
    declares (declares_container (container_type (at 2 3) f.Vector) (id "v" 2 20)
    (braces true (all (number (at 2 25) 1 ∷ number (at 2 28) 2 ∷ [])))) ∷
    states (does (at 3 3) (evaluates (member_call (name (id "v" 3 3)) (id "insert" 3 5)
    (all (member_call (name (id "v" 3 12)) (id "begin" 3 14) none ∷ index (name (id "v" 3 23)) (at 3 24) (number (at 3 25) 0) ∷ []))))) ∷
    []) (at 4 1)

insert_of_an_own_element_breaks_none : program_faults insert_of_an_own_element ≡ []
unfolding program_faults
insert_of_an_own_element_breaks_none = refl

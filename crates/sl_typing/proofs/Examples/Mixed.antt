-- Texts that mix what is accepted.
-- Each is made of a text and of what is due for it by tools/typing_goal.py.
use Rattle.sl_base.specs.declared.scalar.Scalar.TheVariants as t
use Rattle.sl_base.specs.declared.form.Form.TheVariants as f
use Rattle.sl_syntax.specs.declared.operator.Arithmetic.TheVariants as o
use Rattle.sl_syntax.specs.declared.operator.Assignment.TheVariants as assignment
use Rattle.sl_syntax.specs.declared.operator.BinaryOperator.TheVariants as operator
use Rattle.sl_syntax.specs.declared.operator.Comparison.TheVariants as c
use Rattle.sl_syntax.specs.declared.operator.PrefixOperator.TheVariants as before
use Rattle.sl_syntax.specs.declared.operator.Selector.TheVariants as selector
use Rattle.sl_syntax.specs.declared.tree.element.Element.TheVariants as element
use Rattle.sl_syntax.specs.declared.tree.element.ElementType.TheVariants as type
use Rattle.sl_syntax.specs.declared.tree.function.Param.TheVariants as parameter
use Rattle.sl_syntax.specs.declared.tree.function.ResultType.TheVariants as result
use Rattle.std.specs.Prelude.{◌≡◌, refl, true, false, [], ◌∷◌, Some, codes}
use Rattle.sl_syntax.specs.Tree.{number, name, call, library_call, parentheses, prefix, binary, index, member_call, member, none, absent}
use Rattle.sl_syntax.specs.Tree.{braces, arguments, declares_scalar, declares_auto, declares_reference, declares_container, text, end_line}
use Rattle.sl_syntax.specs.Tree.{value, prints, evaluates, assigns, tests, block, choice, choice_else, range_for, gives_back, does}
use Rattle.sl_syntax.specs.Tree.{declares, states, Program}
use Rattle.sl_typing.specs.ProgramFaults.{program_faults}
use Rattle.sl_typing.proofs.Examples.Words.{at, id, all, items, container_type, iterator_type, reference_head, function, main_alone}

-- numbers of two types compared
-- int main() {
--   std::ptrdiff_t d = 1;
--   std::map<int, int> m;
--   m[1] != d;
-- }
abbrev pub numbers_of_two_types_compared : Program
numbers_of_two_types_compared = main_alone (
    declares (declares_scalar (at 2 3) t.Diff (id "d" 2 18) (Some (number (at 2 22) 1))) ∷
    declares (declares_container (container_type (at 3 3) f.Map) (id "m" 3 22) absent) ∷
    states (does (at 4 3) (evaluates
    (binary (index (name (id "m" 4 3)) (at 4 4) (number (at 4 5) 1)) (operator.Comparison c.NotEqual) (at 4 8) (name (id "d" 4 11))))) ∷
    []) (at 5 1)

numbers_of_two_types_compared_breaks_none : program_faults numbers_of_two_types_compared ≡ []
unfolding program_faults
numbers_of_two_types_compared_breaks_none = refl

-- size less a difference
-- int main() {
--   std::size_t n = 1;
--   std::ptrdiff_t d = 1;
--   n -= d;
-- }
abbrev pub size_less_a_difference : Program
size_less_a_difference = main_alone (
    declares (declares_scalar (at 2 3) t.Size (id "n" 2 15) (Some (number (at 2 19) 1))) ∷
    declares (declares_scalar (at 3 3) t.Diff (id "d" 3 18) (Some (number (at 3 22) 1))) ∷
    states (does (at 4 3) (assigns (name (id "n" 4 3)) (assignment.Update o.Subtract) (at 4 5) (name (id "d" 4 8)))) ∷
    []) (at 5 1)

size_less_a_difference_breaks_none : program_faults size_less_a_difference ≡ []
unfolding program_faults
size_less_a_difference_breaks_none = refl

-- element that a call gives
-- std::vector<int>::iterator same(std::vector<int>::iterator a) {
--   return a;
-- }
-- int main() {
--   std::vector<int> v = {1, 2};
--   auto vi = v.begin();
--   *(same(vi)) = 1;
-- }
abbrev pub element_that_a_call_gives : Program
element_that_a_call_gives =
    function (at 1 1) (result.Iterator (iterator_type (container_type (at 1 1) f.Vector) (id "iterator" 1 19))) (id "same" 1 28)
    (parameter.Iterator (iterator_type (container_type (at 1 33) f.Vector) (id "iterator" 1 51)) (id "a" 1 60) ∷ []) (at 1 63)
    (items (states (gives_back (at 2 3) (Some (name (id "a" 2 10)))) ∷ [])) (at 3 1) ∷
    function (at 4 1) (result.Scalar t.Int) (id "main" 4 5) [] (at 4 12) (items (
    declares (declares_container (container_type (at 5 3) f.Vector) (id "v" 5 20)
    (braces true (all (number (at 5 25) 1 ∷ number (at 5 28) 2 ∷ [])))) ∷
    declares (declares_auto (at 6 3) (id "vi" 6 8) (member_call (name (id "v" 6 13)) (id "begin" 6 15) none)) ∷
    states (does (at 7 3) (assigns
    (prefix before.Dereference (at 7 3) (parentheses (at 7 4) (call (id "same" 7 5) (all (name (id "vi" 7 10) ∷ [])))))
    assignment.Set (at 7 15) (number (at 7 17) 1))) ∷
    [])) (at 8 1) ∷
    []

element_that_a_call_gives_breaks_none : program_faults element_that_a_call_gives ≡ []
unfolding program_faults
element_that_a_call_gives_breaks_none = refl

-- number changed by a call
-- void change(int& a) {
--   a = 1;
-- }
-- int main() {
--   int x = 1;
--   change(x);
-- }
abbrev pub number_changed_by_a_call : Program
number_changed_by_a_call =
    function (at 1 1) result.Void (id "change" 1 6) (parameter.Reference (at 1 13) t.Int (id "a" 1 18) ∷ []) (at 1 21)
    (items (states (does (at 2 3) (assigns (name (id "a" 2 3)) assignment.Set (at 2 5) (number (at 2 7) 1))) ∷ [])) (at 3 1) ∷
    function (at 4 1) (result.Scalar t.Int) (id "main" 4 5) [] (at 4 12) (items (
    declares (declares_scalar (at 5 3) t.Int (id "x" 5 7) (Some (number (at 5 11) 1))) ∷
    states (does (at 6 3) (evaluates (call (id "change" 6 3) (all (name (id "x" 6 10) ∷ []))))) ∷
    [])) (at 7 1) ∷
    []

number_changed_by_a_call_breaks_none : program_faults number_changed_by_a_call ≡ []
unfolding program_faults
number_changed_by_a_call_breaks_none = refl

-- iterators of a multimap
-- int main() {
--   std::multimap<int, int> mm1;
--   mm1.emplace(-2, 1);
--   auto it2 = mm1.begin();
--   {
--     auto it3 = std::next(mm1.begin());
--   }
--   mm1.emplace(7, 3);
--   ++it2;
--   it2->second = -7;
--   const int& r4 = it2->second;
--   it2 = mm1.emplace(it2->second, mm1.empty());
--   std::cout << "a" << (5 - r4) << std::endl;
-- }
abbrev pub iterators_of_a_multimap : Program
iterators_of_a_multimap = main_alone (
    declares (declares_container (container_type (at 2 3) f.MultiMap) (id "mm1" 2 27) absent) ∷
    states (does (at 3 3) (evaluates (member_call (name (id "mm1" 3 3)) (id "emplace" 3 7)
    (all (prefix before.Negate (at 3 15) (number (at 3 16) 2) ∷ number (at 3 19) 1 ∷ []))))) ∷
    declares (declares_auto (at 4 3) (id "it2" 4 8) (member_call (name (id "mm1" 4 14)) (id "begin" 4 18) none)) ∷
    states (block (at 5 3) (items (
    declares (declares_auto (at 6 5) (id "it3" 6 10)
    (library_call (id "next" 6 16) (all (member_call (name (id "mm1" 6 26)) (id "begin" 6 30) none ∷ [])))) ∷
    [])) (at 7 3)) ∷
    states (does (at 8 3)
    (evaluates (member_call (name (id "mm1" 8 3)) (id "emplace" 8 7) (all (number (at 8 15) 7 ∷ number (at 8 18) 3 ∷ []))))) ∷
    states (does (at 9 3) (evaluates (prefix before.Increment (at 9 3) (name (id "it2" 9 5))))) ∷
    states (does (at 10 3) (assigns (member (name (id "it2" 10 3)) selector.Arrow (at 10 6) (id "second" 10 8)) assignment.Set (at 10 15)
    (prefix before.Negate (at 10 17) (number (at 10 18) 7)))) ∷
    declares (declares_reference (reference_head (at 11 3) true type.Int) (id "r4" 11 14)
    (member (name (id "it2" 11 19)) selector.Arrow (at 11 22) (id "second" 11 24))) ∷
    states (does (at 12 3) (assigns (name (id "it2" 12 3)) assignment.Set (at 12 7) (member_call (name (id "mm1" 12 9)) (id "emplace" 12 13) (all (
    member (name (id "it2" 12 21)) selector.Arrow (at 12 24) (id "second" 12 26) ∷
    member_call (name (id "mm1" 12 34)) (id "empty" 12 38) none ∷
    []))))) ∷
    states (does (at 13 3) (prints (at 13 3) (
    text (at 13 16) (codes "a") ∷
    value (parentheses (at 13 23) (binary (number (at 13 24) 5) (operator.Arithmetic o.Subtract) (at 13 26) (name (id "r4" 13 28)))) ∷
    end_line (at 13 35) ∷
    []))) ∷
    []) (at 14 1)

iterators_of_a_multimap_breaks_none : program_faults iterators_of_a_multimap ≡ []
unfolding program_faults
iterators_of_a_multimap_breaks_none = refl

-- choice by a sum over a set
-- int main() {
--   std::set<int> s1{1, 1, 2, 2, 10};
--   s1.clear();
--   s1.insert(10);
--   s1.insert(4);
--   s1.erase(s1.find(2), s1.end());
--   std::unordered_map<int, int> um2;
--   if (std::accumulate(s1.begin(), s1.end(), 3) - um2.size()) {
--     s1.erase(s1.lower_bound(2), s1.find(0));
--   }
--   else {
--     um2.clear();
--     for (const int& e4 : s1) {
--       um2.erase(um2.begin());
--       um2.erase(4);
--     }
--   }
-- }
abbrev pub choice_by_a_sum_over_a_set : Program
choice_by_a_sum_over_a_set = main_alone (
    declares (declares_container (container_type (at 2 3) f.Set) (id "s1" 2 17)
    (braces false (all (number (at 2 20) 1 ∷ number (at 2 23) 1 ∷ number (at 2 26) 2 ∷ number (at 2 29) 2 ∷ number (at 2 32) 10 ∷ [])))) ∷
    states (does (at 3 3) (evaluates (member_call (name (id "s1" 3 3)) (id "clear" 3 6) none))) ∷
    states (does (at 4 3) (evaluates (member_call (name (id "s1" 4 3)) (id "insert" 4 6) (all (number (at 4 13) 10 ∷ []))))) ∷
    states (does (at 5 3) (evaluates (member_call (name (id "s1" 5 3)) (id "insert" 5 6) (all (number (at 5 13) 4 ∷ []))))) ∷
    states (does (at 6 3) (evaluates (member_call (name (id "s1" 6 3)) (id "erase" 6 6) (all (
    member_call (name (id "s1" 6 12)) (id "find" 6 15) (all (number (at 6 20) 2 ∷ [])) ∷
    member_call (name (id "s1" 6 24)) (id "end" 6 27) none ∷
    []))))) ∷
    declares (declares_container (container_type (at 7 3) f.HashMap) (id "um2" 7 32) absent) ∷
    states (choice_else (at 8 3) (tests (binary (library_call (id "accumulate" 8 7) (all (
    member_call (name (id "s1" 8 23)) (id "begin" 8 26) none ∷
    member_call (name (id "s1" 8 35)) (id "end" 8 38) none ∷
    number (at 8 45) 3 ∷
    []))) (operator.Arithmetic o.Subtract) (at 8 48) (member_call (name (id "um2" 8 50)) (id "size" 8 54) none))) (block
    (at 8 62) (items (
    states (does (at 9 5) (evaluates (member_call (name (id "s1" 9 5)) (id "erase" 9 8) (all (
    member_call (name (id "s1" 9 14)) (id "lower_bound" 9 17) (all (number (at 9 29) 2 ∷ [])) ∷
    member_call (name (id "s1" 9 33)) (id "find" 9 36) (all (number (at 9 41) 0 ∷ [])) ∷
    []))))) ∷
    [])) (at 10 3)) (block (at 11 8) (items (
    states (does (at 12 5) (evaluates (member_call (name (id "um2" 12 5)) (id "clear" 12 9) none))) ∷
    states (range_for (at 13 5) (element.Reference (reference_head (at 13 10) true type.Int)) (id "e4" 13 21) (id "s1" 13 26) (block
    (at 13 30) (items (
    states (does (at 14 7) (evaluates (member_call (name (id "um2" 14 7)) (id "erase" 14 11)
    (all (member_call (name (id "um2" 14 17)) (id "begin" 14 21) none ∷ []))))) ∷
    states (does (at 15 7)
    (evaluates (member_call (name (id "um2" 15 7)) (id "erase" 15 11) (all (number (at 15 17) 4 ∷ []))))) ∷
    [])) (at 16 5))) ∷
    [])) (at 17 3))) ∷
    []) (at 18 1)

choice_by_a_sum_over_a_set_breaks_none : program_faults choice_by_a_sum_over_a_set ≡ []
unfolding program_faults
choice_by_a_sum_over_a_set_breaks_none = refl

-- function of an iterator and two references
-- int f1(std::multiset<int>::iterator j2, int & p3, std::unordered_map<int, int>& um4) {
--   auto it5 = um4.find(1);
--   if (um4.empty()) return um4.count(0) - it5->second;
--   um4.erase(um4.find(2));
--   return 0;
-- }
-- int main() {
--   std::multiset<int> ms7;
--   std::cout << 1 << ' ';
--   std::unordered_map<int, int> um9;
--   ms7.insert(ms7.find(2), ms7.lower_bound(1));
-- }
abbrev pub function_of_an_iterator_and_two_references : Program
function_of_an_iterator_and_two_references =
    function (at 1 1) (result.Scalar t.Int) (id "f1" 1 5) (
    parameter.Iterator (iterator_type (container_type (at 1 8) f.MultiSet) (id "iterator" 1 28)) (id "j2" 1 37) ∷
    parameter.Reference (at 1 41) t.Int (id "p3" 1 47) ∷
    parameter.Container (container_type (at 1 51) f.HashMap) (id "um4" 1 81) ∷
    []) (at 1 86) (items (
    declares
    (declares_auto (at 2 3) (id "it5" 2 8) (member_call (name (id "um4" 2 14)) (id "find" 2 18) (all (number (at 2 23) 1 ∷ [])))) ∷
    states (choice (at 3 3) (tests (member_call (name (id "um4" 3 7)) (id "empty" 3 11) none)) (gives_back (at 3 20) (Some (binary
    (member_call (name (id "um4" 3 27)) (id "count" 3 31) (all (number (at 3 37) 0 ∷ []))) (operator.Arithmetic o.Subtract)
    (at 3 40) (member (name (id "it5" 3 42)) selector.Arrow (at 3 45) (id "second" 3 47)))))) ∷
    states (does (at 4 3) (evaluates (member_call (name (id "um4" 4 3)) (id "erase" 4 7)
    (all (member_call (name (id "um4" 4 13)) (id "find" 4 17) (all (number (at 4 22) 2 ∷ [])) ∷ []))))) ∷
    states (gives_back (at 5 3) (Some (number (at 5 10) 0))) ∷
    [])) (at 6 1) ∷
    function (at 7 1) (result.Scalar t.Int) (id "main" 7 5) [] (at 7 12) (items (
    declares (declares_container (container_type (at 8 3) f.MultiSet) (id "ms7" 8 22) absent) ∷
    states (does (at 9 3) (prints (at 9 3) (value (number (at 9 16) 1) ∷ text (at 9 21) (codes " ") ∷ []))) ∷
    declares (declares_container (container_type (at 10 3) f.HashMap) (id "um9" 10 32) absent) ∷
    states (does (at 11 3) (evaluates (member_call (name (id "ms7" 11 3)) (id "insert" 11 7) (all (
    member_call (name (id "ms7" 11 14)) (id "find" 11 18) (all (number (at 11 23) 2 ∷ [])) ∷
    member_call (name (id "ms7" 11 27)) (id "lower_bound" 11 31) (all (number (at 11 43) 1 ∷ [])) ∷
    []))))) ∷
    [])) (at 12 1) ∷
    []

function_of_an_iterator_and_two_references_breaks_none : program_faults function_of_an_iterator_and_two_references ≡ []
unfolding program_faults
function_of_an_iterator_and_two_references_breaks_none = refl

-- reference and extremes of a list
-- int main() {
--   std::list<int> l1 = {2};
--   const auto& r2 = l1.front();
--   std::cout << std::includes(l1.begin(), l1.end(), l1.end(), l1.end());
--   auto it3 = std::max_element(l1.begin(), l1.end());
-- }
abbrev pub reference_and_extremes_of_a_list : Program
reference_and_extremes_of_a_list = main_alone (
    declares (declares_container (container_type (at 2 3) f.List) (id "l1" 2 18) (braces true (all (number (at 2 24) 2 ∷ [])))) ∷
    declares (declares_reference (reference_head (at 3 3) true type.Auto) (id "r2" 3 15)
    (member_call (name (id "l1" 3 20)) (id "front" 3 23) none)) ∷
    states (does (at 4 3) (prints (at 4 3) (
    value (library_call (id "includes" 4 16) (all (
    member_call (name (id "l1" 4 30)) (id "begin" 4 33) none ∷
    member_call (name (id "l1" 4 42)) (id "end" 4 45) none ∷
    member_call (name (id "l1" 4 52)) (id "end" 4 55) none ∷
    member_call (name (id "l1" 4 62)) (id "end" 4 65) none ∷
    []))) ∷
    []))) ∷
    declares (declares_auto (at 5 3) (id "it3" 5 8) (library_call (id "max_element" 5 14)
    (all (member_call (name (id "l1" 5 31)) (id "begin" 5 34) none ∷ member_call (name (id "l1" 5 43)) (id "end" 5 46) none ∷ [])))) ∷
    []) (at 6 1)

reference_and_extremes_of_a_list_breaks_none : program_faults reference_and_extremes_of_a_list ≡ []
unfolding program_faults
reference_and_extremes_of_a_list_breaks_none = refl

-- reference to a value of an unordered map
-- int main() {
--   std::unordered_map<int, int> um1;
--   {
--     std::vector<int> v2(2);
--   }
--   int& r3 = um1[5];
--   ++um1[1];
--   {
--     std::vector<int> v4{1, 4, 5, 10};
--   }
--   std::cout << um1.emplace(3, 7 >= 10).second;
--   r3 -= 1;
-- }
abbrev pub reference_to_a_value_of_an_unordered_map : Program
reference_to_a_value_of_an_unordered_map =
    function (at 13 1) (result.Scalar t.Int) (id "main" 13 5) [] (at 13 12) (items (
    declares (declares_container (container_type (at 14 3) f.HashMap) (id "um1" 14 32) absent) ∷
    states (block (at 15 3) (items (
    declares
    (declares_container (container_type (at 16 5) f.Vector) (id "v2" 16 22) (arguments (all (number (at 16 25) 2 ∷ [])))) ∷
    [])) (at 17 3)) ∷
    declares (declares_reference (reference_head (at 18 3) false type.Int) (id "r3" 18 8)
    (index (name (id "um1" 18 13)) (at 18 16) (number (at 18 17) 5))) ∷
    states
    (does (at 19 3) (evaluates (prefix before.Increment (at 19 3) (index (name (id "um1" 19 5)) (at 19 8) (number (at 19 9) 1))))) ∷
    states (block (at 20 3) (items (
    declares (declares_container (container_type (at 21 5) f.Vector) (id "v4" 21 22)
    (braces false (all (number (at 21 25) 1 ∷ number (at 21 28) 4 ∷ number (at 21 31) 5 ∷ number (at 21 34) 10 ∷ [])))) ∷
    [])) (at 22 3)) ∷
    states (does (at 23 3) (prints (at 23 3) (
    value (member (member_call (name (id "um1" 23 16)) (id "emplace" 23 20) (all (
    number (at 23 28) 3 ∷
    binary (number (at 23 31) 7) (operator.Comparison c.GreaterEqual) (at 23 33) (number (at 23 36) 10) ∷
    []))) selector.Dot (at 23 39) (id "second" 23 40)) ∷
    []))) ∷
    states (does (at 24 3) (assigns (name (id "r3" 24 3)) (assignment.Update o.Subtract) (at 24 6) (number (at 24 9) 1))) ∷
    [])) (at 25 1) ∷
    []

reference_to_a_value_of_an_unordered_map_breaks_none : program_faults reference_to_a_value_of_an_unordered_map ≡ []
unfolding program_faults
reference_to_a_value_of_an_unordered_map_breaks_none = refl

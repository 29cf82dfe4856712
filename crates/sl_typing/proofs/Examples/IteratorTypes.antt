-- Iterators as parameters and as what functions give.
-- Each is made of a text and of what is due for it by tools/typing_goal.py.
use Rattle.sl_base.specs.declared.scalar.Scalar.TheVariants as t
use Rattle.sl_base.specs.declared.form.Form.TheVariants as f
use Rattle.sl_syntax.specs.declared.operator.Arithmetic.TheVariants as o
use Rattle.sl_syntax.specs.declared.operator.Assignment.TheVariants as assignment
use Rattle.sl_syntax.specs.declared.operator.BinaryOperator.TheVariants as operator
use Rattle.sl_syntax.specs.declared.operator.Comparison.TheVariants as c
use Rattle.sl_syntax.specs.declared.operator.PrefixOperator.TheVariants as before
use Rattle.sl_syntax.specs.declared.operator.Selector.TheVariants as selector
use Rattle.sl_syntax.specs.declared.tree.element.Element.TheVariants as element
use Rattle.sl_syntax.specs.declared.tree.element.ElementType.TheVariants as type
use Rattle.sl_syntax.specs.declared.tree.function.Param.TheVariants as parameter
use Rattle.sl_syntax.specs.declared.tree.function.ResultType.TheVariants as result
use Rattle.sl_typing.specs.declared.rules.TheConstants as rule
use Rattle.std.specs.Prelude.{◌≡◌, refl, true, false, [], ◌∷◌, Some, None, codes}
use Rattle.sl_syntax.specs.Tree.{number, name, call, library_call, parentheses, prefix, binary, member_call, member, none, absent, braces}
use Rattle.sl_syntax.specs.Tree.{arguments, declares_scalar, declares_auto, declares_reference, declares_container, text, end_line, value}
use Rattle.sl_syntax.specs.Tree.{prints, evaluates, assigns, tests, choice, range_for, gives_back, does, declares, states, Program}
use Rattle.sl_typing.specs.ProgramFaults.{program_faults}
use Rattle.sl_typing.specs.Typing.{FirstBroken}
use Rattle.sl_typing.proofs.Examples.Words.{at, id, all, items, container_type, iterator_type, reference_head, function, fault}

-- parameter of no iterator type
-- void f(std::list<int>::iterators a) {
-- }
-- int main() {
-- }
abbrev pub parameter_of_no_iterator_type : Program
parameter_of_no_iterator_type =
    function (at 1 1) result.Void (id "f" 1 6)
    (parameter.Iterator (iterator_type (container_type (at 1 8) f.List) (id "iterators" 1 24)) (id "a" 1 34) ∷ []) (at 1 37) (items [])
    (at 2 1) ∷
    function (at 3 1) (result.Scalar t.Int) (id "main" 3 5) [] (at 3 12) (items []) (at 4 1) ∷
    []

parameter_of_no_iterator_type_breaks : FirstBroken parameter_of_no_iterator_type (fault (at 1 24) rule.WRONG_TYPE)
unfolding program_faults
parameter_of_no_iterator_type_breaks = refl

-- result of no iterator type
-- std::list<int>::value_type f() {
-- }
-- int main() {
-- }
abbrev pub result_of_no_iterator_type : Program
result_of_no_iterator_type =
    function (at 1 1) (result.Iterator (iterator_type (container_type (at 1 1) f.List) (id "value_type" 1 17))) (id "f" 1 28) [] (at 1 32)
    (items []) (at 2 1) ∷
    function (at 3 1) (result.Scalar t.Int) (id "main" 3 5) [] (at 3 12) (items []) (at 4 1) ∷
    []

result_of_no_iterator_type_breaks : FirstBroken result_of_no_iterator_type (fault (at 1 17) rule.WRONG_TYPE)
unfolding program_faults
result_of_no_iterator_type_breaks = refl

-- step back of a parameter
-- void f(std::unordered_set<int>::iterator a) {
--   --a;
-- }
-- int main() {
-- }
abbrev pub step_back_of_a_parameter : Program
step_back_of_a_parameter =
    function (at 1 1) result.Void (id "f" 1 6)
    (parameter.Iterator (iterator_type (container_type (at 1 8) f.HashSet) (id "iterator" 1 33)) (id "a" 1 42) ∷ []) (at 1 45)
    (items (states (does (at 2 3) (evaluates (prefix before.Decrement (at 2 3) (name (id "a" 2 5))))) ∷ [])) (at 3 1) ∷
    function (at 4 1) (result.Scalar t.Int) (id "main" 4 5) [] (at 4 12) (items []) (at 5 1) ∷
    []

step_back_of_a_parameter_breaks : FirstBroken step_back_of_a_parameter (fault (at 2 3) rule.WEAKER_ITERATOR)
unfolding program_faults
step_back_of_a_parameter_breaks = refl

-- sum with a parameter
-- void f(std::list<int>::iterator a) {
--   a = a + 1;
-- }
-- int main() {
-- }
abbrev pub sum_with_a_parameter : Program
sum_with_a_parameter =
    function (at 1 1) result.Void (id "f" 1 6)
    (parameter.Iterator (iterator_type (container_type (at 1 8) f.List) (id "iterator" 1 24)) (id "a" 1 33) ∷ []) (at 1 36) (items (
    states (does (at 2 3) (assigns (name (id "a" 2 3)) assignment.Set (at 2 5)
    (binary (name (id "a" 2 7)) (operator.Arithmetic o.Add) (at 2 9) (number (at 2 11) 1)))) ∷
    [])) (at 3 1) ∷
    function (at 4 1) (result.Scalar t.Int) (id "main" 4 5) [] (at 4 12) (items []) (at 5 1) ∷
    []

sum_with_a_parameter_breaks : FirstBroken sum_with_a_parameter (fault (at 2 9) rule.WEAKER_ITERATOR)
unfolding program_faults
sum_with_a_parameter_breaks = refl

-- no iterator returned
-- std::list<int>::iterator f() {
--   return;
-- }
-- int main() {
-- }
abbrev pub no_iterator_returned : Program
no_iterator_returned =
    function (at 1 1) (result.Iterator (iterator_type (container_type (at 1 1) f.List) (id "iterator" 1 17))) (id "f" 1 26) [] (at 1 30)
    (items (states (gives_back (at 2 3) None) ∷ [])) (at 3 1) ∷
    function (at 4 1) (result.Scalar t.Int) (id "main" 4 5) [] (at 4 12) (items []) (at 5 1) ∷
    []

no_iterator_returned_breaks : FirstBroken no_iterator_returned (fault (at 2 3) rule.WRONG_RETURN)
unfolding program_faults
no_iterator_returned_breaks = refl

-- iterator returned for nothing
-- void f(std::list<int>& l) {
--   if (1) return l.begin();
-- }
-- int main() {
-- }
abbrev pub iterator_returned_for_nothing : Program
iterator_returned_for_nothing =
    function (at 1 1) result.Void (id "f" 1 6) (parameter.Container (container_type (at 1 8) f.List) (id "l" 1 24) ∷ []) (at 1 27) (items (
    states (choice (at 2 3) (tests (number (at 2 7) 1))
    (gives_back (at 2 10) (Some (member_call (name (id "l" 2 17)) (id "begin" 2 19) none)))) ∷
    [])) (at 3 1) ∷
    function (at 4 1) (result.Scalar t.Int) (id "main" 4 5) [] (at 4 12) (items []) (at 5 1) ∷
    []

iterator_returned_for_nothing_breaks : FirstBroken iterator_returned_for_nothing (fault (at 2 10) rule.WRONG_RETURN)
unfolding program_faults
iterator_returned_for_nothing_breaks = refl

-- reference to what a const iterator result gives
-- std::list<int>::const_iterator f(std::list<int>& a) {
--   return a.begin();
-- }
-- int main() {
--   std::list<int> l = {1};
--   int& r = *f(l);
-- }
abbrev pub reference_to_what_a_const_iterator_result_gives : Program
reference_to_what_a_const_iterator_result_gives =
    function (at 1 1) (result.Iterator (iterator_type (container_type (at 1 1) f.List) (id "const_iterator" 1 17))) (id "f" 1 32)
    (parameter.Container (container_type (at 1 34) f.List) (id "a" 1 50) ∷ []) (at 1 53)
    (items (states (gives_back (at 2 3) (Some (member_call (name (id "a" 2 10)) (id "begin" 2 12) none))) ∷ [])) (at 3 1) ∷
    function (at 4 1) (result.Scalar t.Int) (id "main" 4 5) [] (at 4 12) (items (
    declares (declares_container (container_type (at 5 3) f.List) (id "l" 5 18) (braces true (all (number (at 5 23) 1 ∷ [])))) ∷
    declares (declares_reference (reference_head (at 6 3) false type.Int) (id "r" 6 8)
    (prefix before.Dereference (at 6 12) (call (id "f" 6 13) (all (name (id "l" 6 15) ∷ []))))) ∷
    [])) (at 7 1) ∷
    []

reference_to_what_a_const_iterator_result_gives_breaks : FirstBroken reference_to_what_a_const_iterator_result_gives
    (fault (at 6 3) rule.WRITE_TO_CONST)
unfolding program_faults
reference_to_what_a_const_iterator_result_gives_breaks = refl

-- reference to what an iterator result gives
-- std::list<int>::iterator f(std::list<int>& a) {
--   return a.begin();
-- }
-- int main() {
--   std::list<int> l = {1};
--   int& r = *f(l);
--   r = 2;
-- }
abbrev pub reference_to_what_an_iterator_result_gives : Program
reference_to_what_an_iterator_result_gives =
    function (at 1 1) (result.Iterator (iterator_type (container_type (at 1 1) f.List) (id "iterator" 1 17))) (id "f" 1 26)
    (parameter.Container (container_type (at 1 28) f.List) (id "a" 1 44) ∷ []) (at 1 47)
    (items (states (gives_back (at 2 3) (Some (member_call (name (id "a" 2 10)) (id "begin" 2 12) none))) ∷ [])) (at 3 1) ∷
    function (at 4 1) (result.Scalar t.Int) (id "main" 4 5) [] (at 4 12) (items (
    declares (declares_container (container_type (at 5 3) f.List) (id "l" 5 18) (braces true (all (number (at 5 23) 1 ∷ [])))) ∷
    declares (declares_reference (reference_head (at 6 3) false type.Int) (id "r" 6 8)
    (prefix before.Dereference (at 6 12) (call (id "f" 6 13) (all (name (id "l" 6 15) ∷ []))))) ∷
    states (does (at 7 3) (assigns (name (id "r" 7 3)) assignment.Set (at 7 5) (number (at 7 7) 2))) ∷
    [])) (at 8 1) ∷
    []

reference_to_what_an_iterator_result_gives_breaks_none : program_faults reference_to_what_an_iterator_result_gives ≡ []
unfolding program_faults
reference_to_what_an_iterator_result_gives_breaks_none = refl

-- element written through a parameter
-- void f(std::list<int>::iterator a) {
--   *a = 1;
-- }
-- int main() {
-- }
abbrev pub element_written_through_a_parameter : Program
element_written_through_a_parameter =
    function (at 1 1) result.Void (id "f" 1 6)
    (parameter.Iterator (iterator_type (container_type (at 1 8) f.List) (id "iterator" 1 24)) (id "a" 1 33) ∷ []) (at 1 36) (items (
    states
    (does (at 2 3) (assigns (prefix before.Dereference (at 2 3) (name (id "a" 2 4))) assignment.Set (at 2 6) (number (at 2 8) 1))) ∷
    [])) (at 3 1) ∷
    function (at 4 1) (result.Scalar t.Int) (id "main" 4 5) [] (at 4 12) (items []) (at 5 1) ∷
    []

element_written_through_a_parameter_breaks_none : program_faults element_written_through_a_parameter ≡ []
unfolding program_faults
element_written_through_a_parameter_breaks_none = refl

-- value written through a parameter
-- void f(std::map<int, int>::iterator a) {
--   a->second = 1;
-- }
-- int main() {
-- }
abbrev pub value_written_through_a_parameter : Program
value_written_through_a_parameter =
    function (at 1 1) result.Void (id "f" 1 6)
    (parameter.Iterator (iterator_type (container_type (at 1 8) f.Map) (id "iterator" 1 28)) (id "a" 1 37) ∷ []) (at 1 40) (items (
    states (does (at 2 3)
    (assigns (member (name (id "a" 2 3)) selector.Arrow (at 2 4) (id "second" 2 6)) assignment.Set (at 2 13) (number (at 2 15) 1))) ∷
    [])) (at 3 1) ∷
    function (at 4 1) (result.Scalar t.Int) (id "main" 4 5) [] (at 4 12) (items []) (at 5 1) ∷
    []

value_written_through_a_parameter_breaks_none : program_faults value_written_through_a_parameter ≡ []
unfolding program_faults
value_written_through_a_parameter_breaks_none = refl

-- multimap iterator as a parameter
-- int f(std::multimap<int, int>::iterator a) {
--   --a;
--   return a->first + a->second;
-- }
-- int main() {
-- }
abbrev pub multimap_iterator_as_a_parameter : Program
multimap_iterator_as_a_parameter =
    function (at 1 1) (result.Scalar t.Int) (id "f" 1 5)
    (parameter.Iterator (iterator_type (container_type (at 1 7) f.MultiMap) (id "iterator" 1 32)) (id "a" 1 41) ∷ []) (at 1 44) (items (
    states (does (at 2 3) (evaluates (prefix before.Decrement (at 2 3) (name (id "a" 2 5))))) ∷
    states (gives_back (at 3 3) (Some (binary (member (name (id "a" 3 10)) selector.Arrow (at 3 11) (id "first" 3 13))
    (operator.Arithmetic o.Add) (at 3 19) (member (name (id "a" 3 21)) selector.Arrow (at 3 22) (id "second" 3 24))))) ∷
    [])) (at 4 1) ∷
    function (at 5 1) (result.Scalar t.Int) (id "main" 5 5) [] (at 5 12) (items []) (at 6 1) ∷
    []

multimap_iterator_as_a_parameter_breaks_none : program_faults multimap_iterator_as_a_parameter ≡ []
unfolding program_faults
multimap_iterator_as_a_parameter_breaks_none = refl

-- iterator returned in a loop
-- std::list<int>::iterator f(std::list<int>& l) {
--   for (int x : l) return l.begin();
-- }
-- int main() {
-- }
abbrev pub iterator_returned_in_a_loop : Program
iterator_returned_in_a_loop =
    function (at 1 1) (result.Iterator (iterator_type (container_type (at 1 1) f.List) (id "iterator" 1 17))) (id "f" 1 26)
    (parameter.Container (container_type (at 1 28) f.List) (id "l" 1 44) ∷ []) (at 1 47) (items (
    states (range_for (at 2 3) (element.Value type.Int) (id "x" 2 12) (id "l" 2 16)
    (gives_back (at 2 19) (Some (member_call (name (id "l" 2 26)) (id "begin" 2 28) none)))) ∷
    [])) (at 3 1) ∷
    function (at 4 1) (result.Scalar t.Int) (id "main" 4 5) [] (at 4 12) (items []) (at 5 1) ∷
    []

iterator_returned_in_a_loop_breaks_none : program_faults iterator_returned_in_a_loop ≡ []
unfolding program_faults
iterator_returned_in_a_loop_breaks_none = refl

-- iterator handed to a function
-- void f1(std::deque<int>::iterator j2) {
--   std::unordered_set<int> us3;
--   std::cout << "a" << us3.count((3 / 1)) << std::endl;
-- }
-- int main() {
--   std::deque<int> d4(10, 10);
--   auto it5 = std::next(d4.begin());
--   f1(it5);
--   f1(it5);
-- }
abbrev pub iterator_handed_to_a_function : Program
iterator_handed_to_a_function =
    function (at 1 1) result.Void (id "f1" 1 6)
    (parameter.Iterator (iterator_type (container_type (at 1 9) f.Deque) (id "iterator" 1 26)) (id "j2" 1 35) ∷ []) (at 1 39) (items (
    declares (declares_container (container_type (at 2 3) f.HashSet) (id "us3" 2 27) absent) ∷
    states (does (at 3 3) (prints (at 3 3) (
    text (at 3 16) (codes "a") ∷
    value (member_call (name (id "us3" 3 23)) (id "count" 3 27) (all (
    parentheses (at 3 33) (binary (number (at 3 34) 3) (operator.Arithmetic o.Divide) (at 3 36) (number (at 3 38) 1)) ∷
    []))) ∷
    end_line (at 3 45) ∷
    []))) ∷
    [])) (at 4 1) ∷
    function (at 5 1) (result.Scalar t.Int) (id "main" 5 5) [] (at 5 12) (items (
    declares (declares_container (container_type (at 6 3) f.Deque) (id "d4" 6 19)
    (arguments (all (number (at 6 22) 10 ∷ number (at 6 26) 10 ∷ [])))) ∷
    declares (declares_auto (at 7 3) (id "it5" 7 8)
    (library_call (id "next" 7 14) (all (member_call (name (id "d4" 7 24)) (id "begin" 7 27) none ∷ [])))) ∷
    states (does (at 8 3) (evaluates (call (id "f1" 8 3) (all (name (id "it5" 8 6) ∷ []))))) ∷
    states (does (at 9 3) (evaluates (call (id "f1" 9 3) (all (name (id "it5" 9 6) ∷ []))))) ∷
    [])) (at 10 1) ∷
    []

iterator_handed_to_a_function_breaks_none : program_faults iterator_handed_to_a_function ≡ []
unfolding program_faults
iterator_handed_to_a_function_breaks_none = refl

-- iterator handed to a const iterator
-- std::deque<int>::const_iterator f1(std::deque<int>::const_iterator j2) {
--   if (1) return j2;
--   if ((4 && 2 >= 3)) return j2;
--   std::multimap<int, int> mm5;
--   std::cout << "a" << 10 << std::endl;
--   return j2;
-- }
-- int main() {
--   std::deque<int> d6 = {1, 2};
--   d6.swap(d6);
--   f1(d6.begin());
--   d6.pop_back();
--   f1(d6.begin());
--   auto it7 = d6.end();
--   d6.push_back(2);
-- }
abbrev pub iterator_handed_to_a_const_iterator : Program
iterator_handed_to_a_const_iterator =
    function (at 13 1) (result.Iterator (iterator_type (container_type (at 13 1) f.Deque) (id "const_iterator" 13 18))) (id "f1" 13 33)
    (parameter.Iterator (iterator_type (container_type (at 13 36) f.Deque) (id "const_iterator" 13 53)) (id "j2" 13 68) ∷ []) (at 13 72) (items (
    states (choice (at 14 3) (tests (number (at 14 7) 1)) (gives_back (at 14 10) (Some (name (id "j2" 14 17))))) ∷
    states (choice (at 15 3) (tests (parentheses (at 15 7) (binary (number (at 15 8) 4) operator.And (at 15 10)
    (binary (number (at 15 13) 2) (operator.Comparison c.GreaterEqual) (at 15 15) (number (at 15 18) 3)))))
    (gives_back (at 15 22) (Some (name (id "j2" 15 29))))) ∷
    declares (declares_container (container_type (at 16 3) f.MultiMap) (id "mm5" 16 27) absent) ∷
    states (does (at 17 3) (prints (at 17 3) (text (at 17 16) (codes "a") ∷ value (number (at 17 23) 10) ∷ end_line (at 17 29) ∷ []))) ∷
    states (gives_back (at 18 3) (Some (name (id "j2" 18 10)))) ∷
    [])) (at 19 1) ∷
    function (at 20 1) (result.Scalar t.Int) (id "main" 20 5) [] (at 20 12) (items (
    declares (declares_container (container_type (at 21 3) f.Deque) (id "d6" 21 19)
    (braces true (all (number (at 21 25) 1 ∷ number (at 21 28) 2 ∷ [])))) ∷
    states (does (at 22 3) (evaluates (member_call (name (id "d6" 22 3)) (id "swap" 22 6) (all (name (id "d6" 22 11) ∷ []))))) ∷
    states (does (at 23 3) (evaluates (call (id "f1" 23 3) (all (member_call (name (id "d6" 23 6)) (id "begin" 23 9) none ∷ []))))) ∷
    states (does (at 24 3) (evaluates (member_call (name (id "d6" 24 3)) (id "pop_back" 24 6) none))) ∷
    states (does (at 25 3) (evaluates (call (id "f1" 25 3) (all (member_call (name (id "d6" 25 6)) (id "begin" 25 9) none ∷ []))))) ∷
    declares (declares_auto (at 26 3) (id "it7" 26 8) (member_call (name (id "d6" 26 14)) (id "end" 26 17) none)) ∷
    states (does (at 27 3) (evaluates (member_call (name (id "d6" 27 3)) (id "push_back" 27 6) (all (number (at 27 16) 2 ∷ []))))) ∷
    [])) (at 28 1) ∷
    []

iterator_handed_to_a_const_iterator_breaks_none : program_faults iterator_handed_to_a_const_iterator ≡ []
unfolding program_faults
iterator_handed_to_a_const_iterator_breaks_none = refl

-- no member behind iterators
-- int f1(std::map<int, int>::const_iterator j2) {
--   std::map<int, int> m3;
--   m3.erase(10);
--   return 0;
-- }
-- int main() {
--   std::multimap<int, int> mm4;
--   mm4.erase(7);
--   std::cout << mm4.count(mm4.empty()) << "\n";
--   std::ptrdiff_t x5 = mm4.count((mm4.size() < mm4.size()));
--   auto it6 = mm4.pop_front();
--   mm4.erase(x5);
--   auto it7 = mm4.equal_range(10).second;
-- }
abbrev pub no_member_behind_iterators : Program
no_member_behind_iterators =
    function (at 13 1) (result.Scalar t.Int) (id "f1" 13 5)
    (parameter.Iterator (iterator_type (container_type (at 13 8) f.Map) (id "const_iterator" 13 28)) (id "j2" 13 43) ∷ []) (at 13 47) (items (
    declares (declares_container (container_type (at 14 3) f.Map) (id "m3" 14 22) absent) ∷
    states (does (at 15 3) (evaluates (member_call (name (id "m3" 15 3)) (id "erase" 15 6) (all (number (at 15 12) 10 ∷ []))))) ∷
    states (gives_back (at 16 3) (Some (number (at 16 10) 0))) ∷
    [])) (at 17 1) ∷
    function (at 18 1) (result.Scalar t.Int) (id "main" 18 5) [] (at 18 12) (items (
    declares (declares_container (container_type (at 19 3) f.MultiMap) (id "mm4" 19 27) absent) ∷
    states (does (at 20 3) (evaluates (member_call (name (id "mm4" 20 3)) (id "erase" 20 7) (all (number (at 20 13) 7 ∷ []))))) ∷
    states (does (at 21 3) (prints (at 21 3) (
    value (member_call (name (id "mm4" 21 16)) (id "count" 21 20)
    (all (member_call (name (id "mm4" 21 26)) (id "empty" 21 30) none ∷ []))) ∷
    text (at 21 42) (codes "\n") ∷
    []))) ∷
    declares (declares_scalar (at 22 3) t.Diff (id "x5" 22 18) (Some (member_call (name (id "mm4" 22 23)) (id "count" 22 27) (all (
    parentheses (at 22 33) (binary (member_call (name (id "mm4" 22 34)) (id "size" 22 38) none) (operator.Comparison c.Less)
    (at 22 45) (member_call (name (id "mm4" 22 47)) (id "size" 22 51) none)) ∷
    []))))) ∷
    declares (declares_auto (at 23 3) (id "it6" 23 8) (member_call (name (id "mm4" 23 14)) (id "pop_front" 23 18) none)) ∷
    states (does (at 24 3) (evaluates (member_call (name (id "mm4" 24 3)) (id "erase" 24 7) (all (name (id "x5" 24 13) ∷ []))))) ∷
    declares (declares_auto (at 25 3) (id "it7" 25 8) (member
    (member_call (name (id "mm4" 25 14)) (id "equal_range" 25 18) (all (number (at 25 30) 10 ∷ []))) selector.Dot (at 25 33)
    (id "second" 25 34))) ∷
    [])) (at 26 1) ∷
    []

no_member_behind_iterators_breaks : FirstBroken no_member_behind_iterators (fault (at 23 18) rule.NO_SUCH_CALL)
unfolding program_faults
no_member_behind_iterators_breaks = refl

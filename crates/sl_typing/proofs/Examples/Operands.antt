-- Operands, conditions, values and left sides whose type doesn't fit.
-- Each is made of a text and of what is due for it by tools/typing_goal.py.
use Rattle.sl_base.specs.declared.scalar.Scalar.TheVariants as t
use Rattle.sl_base.specs.declared.form.Form.TheVariants as f
use Rattle.sl_syntax.specs.declared.operator.Arithmetic.TheVariants as o
use Rattle.sl_syntax.specs.declared.operator.Assignment.TheVariants as assignment
use Rattle.sl_syntax.specs.declared.operator.BinaryOperator.TheVariants as operator
use Rattle.sl_syntax.specs.declared.operator.Comparison.TheVariants as c
use Rattle.sl_syntax.specs.declared.operator.PrefixOperator.TheVariants as before
use Rattle.sl_syntax.specs.declared.tree.function.Param.TheVariants as parameter
use Rattle.sl_syntax.specs.declared.tree.function.ResultType.TheVariants as result
use Rattle.sl_typing.specs.declared.rules.TheConstants as rule
use Rattle.std.specs.Prelude.{refl, true, [], ◌∷◌, Some}
use Rattle.sl_syntax.specs.Tree.{number, name, call, parentheses, prefix, binary, index, member_call, none, absent, braces}
use Rattle.sl_syntax.specs.Tree.{declares_scalar, declares_auto, declares_container, value, prints, evaluates, assigns, tests, choice}
use Rattle.sl_syntax.specs.Tree.{while, gives_back, does, declares, states, Program}
use Rattle.sl_typing.specs.ProgramFaults.{program_faults}
use Rattle.sl_typing.specs.Typing.{FirstBroken}
use Rattle.sl_typing.proofs.Examples.Words.{at, id, all, items, container_type, iterator_type, function, main_alone, fault}

-- not of a set
-- int main() {
--   std::set<int> s = {1, 2};
--   !s;
-- }
abbrev pub not_of_a_set : Program
not_of_a_set = main_alone (
    declares
    (declares_container (container_type (at 2 3) f.Set) (id "s" 2 17) (braces true (all (number (at 2 22) 1 ∷ number (at 2 25) 2 ∷ [])))) ∷
    states (does (at 3 3) (evaluates (prefix before.Not (at 3 3) (name (id "s" 3 4))))) ∷
    []) (at 4 1)

not_of_a_set_breaks : FirstBroken not_of_a_set (fault (at 3 3) rule.WRONG_TYPE)
unfolding program_faults
not_of_a_set_breaks = refl

-- star before a number
-- int main() {
--   int x = 1;
--   *x;
-- }
abbrev pub star_before_a_number : Program
star_before_a_number = main_alone (
    declares (declares_scalar (at 2 3) t.Int (id "x" 2 7) (Some (number (at 2 11) 1))) ∷
    states (does (at 3 3) (evaluates (prefix before.Dereference (at 3 3) (name (id "x" 3 4))))) ∷
    []) (at 4 1)

star_before_a_number_breaks : FirstBroken star_before_a_number (fault (at 3 3) rule.WRONG_TYPE)
unfolding program_faults
star_before_a_number_breaks = refl

-- step of parentheses
-- int main() {
--   int x = 1;
--   ++(x);
-- }
abbrev pub step_of_parentheses : Program
step_of_parentheses = main_alone (
    declares (declares_scalar (at 2 3) t.Int (id "x" 2 7) (Some (number (at 2 11) 1))) ∷
    states (does (at 3 3) (evaluates (prefix before.Increment (at 3 3) (parentheses (at 3 5) (name (id "x" 3 6)))))) ∷
    []) (at 4 1)

step_of_parentheses_breaks : FirstBroken step_of_parentheses (fault (at 3 3) rule.WRONG_TYPE)
unfolding program_faults
step_of_parentheses_breaks = refl

-- and with a set
-- int main() {
--   std::set<int> s = {1, 2};
--   7 && s;
-- }
abbrev pub and_with_a_set : Program
and_with_a_set = main_alone (
    declares
    (declares_container (container_type (at 2 3) f.Set) (id "s" 2 17) (braces true (all (number (at 2 22) 1 ∷ number (at 2 25) 2 ∷ [])))) ∷
    states (does (at 3 3) (evaluates (binary (number (at 3 3) 7) operator.And (at 3 5) (name (id "s" 3 8))))) ∷
    []) (at 4 1)

and_with_a_set_breaks : FirstBroken and_with_a_set (fault (at 3 5) rule.WRONG_TYPE)
unfolding program_faults
and_with_a_set_breaks = refl

-- iterator moved by an iterator
-- int main() {
--   std::map<int, int> m;
--   auto mi = m.begin();
--   mi += mi;
-- }
abbrev pub iterator_moved_by_an_iterator : Program
iterator_moved_by_an_iterator = main_alone (
    declares (declares_container (container_type (at 2 3) f.Map) (id "m" 2 22) absent) ∷
    declares (declares_auto (at 3 3) (id "mi" 3 8) (member_call (name (id "m" 3 13)) (id "begin" 3 15) none)) ∷
    states (does (at 4 3) (assigns (name (id "mi" 4 3)) (assignment.Update o.Add) (at 4 6) (name (id "mi" 4 9)))) ∷
    []) (at 5 1)

iterator_moved_by_an_iterator_breaks : FirstBroken iterator_moved_by_an_iterator (fault (at 4 6) rule.WRONG_TYPE)
unfolding program_faults
iterator_moved_by_an_iterator_breaks = refl

-- difference of iterators of two forms
-- int f(const std::vector<int>& cv) {
--   std::unordered_set<int> us = {1};
--   auto usi = us.begin();
--   usi - cv.begin();
-- }
-- int main() {
-- }
abbrev pub difference_of_iterators_of_two_forms : Program
difference_of_iterators_of_two_forms =
    function (at 1 1) (result.Scalar t.Int) (id "f" 1 5)
    (parameter.ConstContainer (at 1 7) (container_type (at 1 13) f.Vector) (id "cv" 1 31) ∷ []) (at 1 35) (items (
    declares (declares_container (container_type (at 2 3) f.HashSet) (id "us" 2 27) (braces true (all (number (at 2 33) 1 ∷ [])))) ∷
    declares (declares_auto (at 3 3) (id "usi" 3 8) (member_call (name (id "us" 3 14)) (id "begin" 3 17) none)) ∷
    states (does (at 4 3) (evaluates (binary (name (id "usi" 4 3)) (operator.Arithmetic o.Subtract) (at 4 7)
    (member_call (name (id "cv" 4 9)) (id "begin" 4 12) none)))) ∷
    [])) (at 5 1) ∷
    function (at 6 1) (result.Scalar t.Int) (id "main" 6 5) [] (at 6 12) (items []) (at 7 1) ∷
    []

difference_of_iterators_of_two_forms_breaks : FirstBroken difference_of_iterators_of_two_forms (fault (at 4 7) rule.WRONG_TYPE)
unfolding program_faults
difference_of_iterators_of_two_forms_breaks = refl

-- comparison of iterators of two forms
-- std::vector<int>::iterator same(std::vector<int>::iterator a) {
--   return a;
-- }
-- int main() {
--   std::vector<int> v = {1, 2};
--   std::set<int> s = {1, 2};
--   auto vi = v.begin();
--   auto si = s.begin();
--   same(vi) >= si;
-- }
abbrev pub comparison_of_iterators_of_two_forms : Program
comparison_of_iterators_of_two_forms =
    function (at 1 1) (result.Iterator (iterator_type (container_type (at 1 1) f.Vector) (id "iterator" 1 19))) (id "same" 1 28)
    (parameter.Iterator (iterator_type (container_type (at 1 33) f.Vector) (id "iterator" 1 51)) (id "a" 1 60) ∷ []) (at 1 63)
    (items (states (gives_back (at 2 3) (Some (name (id "a" 2 10)))) ∷ [])) (at 3 1) ∷
    function (at 4 1) (result.Scalar t.Int) (id "main" 4 5) [] (at 4 12) (items (
    declares (declares_container (container_type (at 5 3) f.Vector) (id "v" 5 20)
    (braces true (all (number (at 5 25) 1 ∷ number (at 5 28) 2 ∷ [])))) ∷
    declares (declares_container (container_type (at 6 3) f.Set) (id "s" 6 17)
    (braces true (all (number (at 6 22) 1 ∷ number (at 6 25) 2 ∷ [])))) ∷
    declares (declares_auto (at 7 3) (id "vi" 7 8) (member_call (name (id "v" 7 13)) (id "begin" 7 15) none)) ∷
    declares (declares_auto (at 8 3) (id "si" 8 8) (member_call (name (id "s" 8 13)) (id "begin" 8 15) none)) ∷
    states (does (at 9 3) (evaluates (binary (call (id "same" 9 3) (all (name (id "vi" 9 8) ∷ []))) (operator.Comparison c.GreaterEqual)
    (at 9 12) (name (id "si" 9 15))))) ∷
    [])) (at 10 1) ∷
    []

comparison_of_iterators_of_two_forms_breaks : FirstBroken comparison_of_iterators_of_two_forms (fault (at 9 12) rule.WRONG_TYPE)
unfolding program_faults
comparison_of_iterators_of_two_forms_breaks = refl

-- remainder of an iterator
-- int main() {
--   std::deque<int> q = {1, 2};
--   auto qi = q.begin();
--   qi %= 7;
-- }
abbrev pub remainder_of_an_iterator : Program
remainder_of_an_iterator = main_alone (
    declares (declares_container (container_type (at 2 3) f.Deque) (id "q" 2 19)
    (braces true (all (number (at 2 24) 1 ∷ number (at 2 27) 2 ∷ [])))) ∷
    declares (declares_auto (at 3 3) (id "qi" 3 8) (member_call (name (id "q" 3 13)) (id "begin" 3 15) none)) ∷
    states (does (at 4 3) (assigns (name (id "qi" 4 3)) (assignment.Update o.Remainder) (at 4 6) (number (at 4 9) 7))) ∷
    []) (at 5 1)

remainder_of_an_iterator_breaks : FirstBroken remainder_of_an_iterator (fault (at 4 6) rule.WRONG_TYPE)
unfolding program_faults
remainder_of_an_iterator_breaks = refl

-- negated iterator as a left side
-- int main() {
--   std::set<int> s = {1, 2};
--   auto si = s.begin();
--   -si = 1;
-- }
abbrev pub negated_iterator_as_a_left_side : Program
negated_iterator_as_a_left_side = main_alone (
    declares
    (declares_container (container_type (at 2 3) f.Set) (id "s" 2 17) (braces true (all (number (at 2 22) 1 ∷ number (at 2 25) 2 ∷ [])))) ∷
    declares (declares_auto (at 3 3) (id "si" 3 8) (member_call (name (id "s" 3 13)) (id "begin" 3 15) none)) ∷
    states (does (at 4 3) (assigns (prefix before.Negate (at 4 3) (name (id "si" 4 4))) assignment.Set (at 4 7) (number (at 4 9) 1))) ∷
    []) (at 5 1)

negated_iterator_as_a_left_side_breaks : FirstBroken negated_iterator_as_a_left_side (fault (at 4 3) rule.WRONG_TYPE)
unfolding program_faults
negated_iterator_as_a_left_side_breaks = refl

-- number assigned to a vector
-- int main() {
--   std::size_t n = 1;
--   std::vector<int> v = {1, 2};
--   v = n;
-- }
abbrev pub number_assigned_to_a_vector : Program
number_assigned_to_a_vector = main_alone (
    declares (declares_scalar (at 2 3) t.Size (id "n" 2 15) (Some (number (at 2 19) 1))) ∷
    declares (declares_container (container_type (at 3 3) f.Vector) (id "v" 3 20)
    (braces true (all (number (at 3 25) 1 ∷ number (at 3 28) 2 ∷ [])))) ∷
    states (does (at 4 3) (assigns (name (id "v" 4 3)) assignment.Set (at 4 5) (name (id "n" 4 7)))) ∷
    []) (at 5 1)

number_assigned_to_a_vector_breaks : FirstBroken number_assigned_to_a_vector (fault (at 4 5) rule.WRONG_TYPE)
unfolding program_faults
number_assigned_to_a_vector_breaks = refl

-- number from a vector
-- int main() {
--   std::vector<int> v = {1, 2};
--   int y = v;
-- }
abbrev pub number_from_a_vector : Program
number_from_a_vector = main_alone (
    declares (declares_container (container_type (at 2 3) f.Vector) (id "v" 2 20)
    (braces true (all (number (at 2 25) 1 ∷ number (at 2 28) 2 ∷ [])))) ∷
    declares (declares_scalar (at 3 3) t.Int (id "y" 3 7) (Some (name (id "v" 3 11)))) ∷
    []) (at 4 1)

number_from_a_vector_breaks : FirstBroken number_from_a_vector (fault (at 3 3) rule.WRONG_TYPE)
unfolding program_faults
number_from_a_vector_breaks = refl

-- condition that is nothing
-- void nothing() {
-- }
-- int main() {
--   int x = 1;
--   if (nothing()) x = 1;
-- }
abbrev pub condition_that_is_nothing : Program
condition_that_is_nothing =
    function (at 1 1) result.Void (id "nothing" 1 6) [] (at 1 16) (items []) (at 2 1) ∷
    function (at 3 1) (result.Scalar t.Int) (id "main" 3 5) [] (at 3 12) (items (
    declares (declares_scalar (at 4 3) t.Int (id "x" 4 7) (Some (number (at 4 11) 1))) ∷
    states (choice (at 5 3) (tests (call (id "nothing" 5 7) none))
    (does (at 5 18) (assigns (name (id "x" 5 18)) assignment.Set (at 5 20) (number (at 5 22) 1)))) ∷
    [])) (at 6 1) ∷
    []

condition_that_is_nothing_breaks : FirstBroken condition_that_is_nothing (fault (at 5 3) rule.WRONG_TYPE)
unfolding program_faults
condition_that_is_nothing_breaks = refl

-- condition that is an iterator
-- int main() {
--   int x = 1;
--   std::map<int, int> m;
--   auto mi = m.begin();
--   while (mi) x = 1;
-- }
abbrev pub condition_that_is_an_iterator : Program
condition_that_is_an_iterator = main_alone (
    declares (declares_scalar (at 2 3) t.Int (id "x" 2 7) (Some (number (at 2 11) 1))) ∷
    declares (declares_container (container_type (at 3 3) f.Map) (id "m" 3 22) absent) ∷
    declares (declares_auto (at 4 3) (id "mi" 4 8) (member_call (name (id "m" 4 13)) (id "begin" 4 15) none)) ∷
    states (while (at 5 3) (tests (name (id "mi" 5 10)))
    (does (at 5 14) (assigns (name (id "x" 5 14)) assignment.Set (at 5 16) (number (at 5 18) 1)))) ∷
    []) (at 6 1)

condition_that_is_an_iterator_breaks : FirstBroken condition_that_is_an_iterator (fault (at 5 3) rule.WRONG_TYPE)
unfolding program_faults
condition_that_is_an_iterator_breaks = refl

-- returned pair
-- int main() {
--   std::set<int> s = {1, 2};
--   return s.insert(4);
-- }
abbrev pub returned_pair : Program
returned_pair = main_alone (
    declares
    (declares_container (container_type (at 2 3) f.Set) (id "s" 2 17) (braces true (all (number (at 2 22) 1 ∷ number (at 2 25) 2 ∷ [])))) ∷
    states (gives_back (at 3 3) (Some (member_call (name (id "s" 3 10)) (id "insert" 3 12) (all (number (at 3 19) 4 ∷ []))))) ∷
    []) (at 4 1)

returned_pair_breaks : FirstBroken returned_pair (fault (at 3 3) rule.WRONG_TYPE)
unfolding program_faults
returned_pair_breaks = refl

-- subscript that is a vector
-- int main() {
--   std::vector<int> v = {1, 2};
--   v[v] = 1;
-- }
abbrev pub subscript_that_is_a_vector : Program
subscript_that_is_a_vector = main_alone (
    declares (declares_container (container_type (at 2 3) f.Vector) (id "v" 2 20)
    (braces true (all (number (at 2 25) 1 ∷ number (at 2 28) 2 ∷ [])))) ∷
    states (does (at 3 3) (assigns (index (name (id "v" 3 3)) (at 3 4) (name (id "v" 3 5))) assignment.Set (at 3 8) (number (at 3 10) 1))) ∷
    []) (at 4 1)

subscript_that_is_a_vector_breaks : FirstBroken subscript_that_is_a_vector (fault (at 3 4) rule.WRONG_TYPE)
unfolding program_faults
subscript_that_is_a_vector_breaks = refl

-- printed call of nothing
-- void nothing() {
-- }
-- int main() {
--   std::cout << nothing() << nothing();
-- }
abbrev pub printed_call_of_nothing : Program
printed_call_of_nothing =
    function (at 1 1) result.Void (id "nothing" 1 6) [] (at 1 16) (items []) (at 2 1) ∷
    function (at 3 1) (result.Scalar t.Int) (id "main" 3 5) [] (at 3 12) (items
    (states (does (at 4 3) (prints (at 4 3) (value (call (id "nothing" 4 16) none) ∷ value (call (id "nothing" 4 29) none) ∷ []))) ∷ []))
    (at 5 1) ∷
    []

printed_call_of_nothing_breaks : FirstBroken printed_call_of_nothing (fault (at 4 3) rule.WRONG_TYPE)
unfolding program_faults
printed_call_of_nothing_breaks = refl

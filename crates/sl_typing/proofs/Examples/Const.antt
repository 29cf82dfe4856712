-- What is const and is written, and what may be read.
-- Each is made of a text and of what is due for it by tools/typing_goal.py.
use Rattle.sl_base.specs.declared.scalar.Scalar.TheVariants as t
use Rattle.sl_base.specs.declared.form.Form.TheVariants as f
use Rattle.sl_syntax.specs.declared.operator.Arithmetic.TheVariants as o
use Rattle.sl_syntax.specs.declared.operator.Assignment.TheVariants as assignment
use Rattle.sl_syntax.specs.declared.operator.BinaryOperator.TheVariants as operator
use Rattle.sl_syntax.specs.declared.operator.PostfixOperator.TheVariants as behind
use Rattle.sl_syntax.specs.declared.operator.PrefixOperator.TheVariants as before
use Rattle.sl_syntax.specs.declared.tree.element.ElementType.TheVariants as type
use Rattle.sl_syntax.specs.declared.tree.function.Param.TheVariants as parameter
use Rattle.sl_syntax.specs.declared.tree.function.ResultType.TheVariants as result
use Rattle.sl_typing.specs.declared.rules.TheConstants as rule
use Rattle.std.specs.Prelude.{◌≡◌, refl, true, [], ◌∷◌, Some}
use Rattle.sl_syntax.specs.Tree.{number, name, call, library_call, parentheses, prefix, binary, postfix, index, member_call, none, braces}
use Rattle.sl_syntax.specs.Tree.{declares_scalar, declares_reference, declares_container, evaluates, assigns, tests, choice_else, does}
use Rattle.sl_syntax.specs.Tree.{declares, states, Program}
use Rattle.sl_typing.specs.ProgramFaults.{program_faults}
use Rattle.sl_typing.specs.Typing.{FirstBroken}
use Rattle.sl_typing.proofs.Examples.Words.{at, id, all, items, container_type, reference_head, function, main_alone, fault}

-- clear of a const set
-- int f(const std::set<int>& cs) {
--   cs.clear();
-- }
-- int main() {
-- }
abbrev pub clear_of_a_const_set : Program
clear_of_a_const_set =
    function (at 1 1) (result.Scalar t.Int) (id "f" 1 5)
    (parameter.ConstContainer (at 1 7) (container_type (at 1 13) f.Set) (id "cs" 1 28) ∷ []) (at 1 32)
    (items (states (does (at 2 3) (evaluates (member_call (name (id "cs" 2 3)) (id "clear" 2 6) none))) ∷ [])) (at 3 1) ∷
    function (at 4 1) (result.Scalar t.Int) (id "main" 4 5) [] (at 4 12) (items []) (at 5 1) ∷
    []

clear_of_a_const_set_breaks : FirstBroken clear_of_a_const_set (fault (at 2 6) rule.WRITE_TO_CONST)
unfolding program_faults
clear_of_a_const_set_breaks = refl

-- merge of a const list
-- int f(const std::list<int>& cl) {
--   std::list<int> l = {1, 2};
--   l.merge(cl);
-- }
-- int main() {
-- }
abbrev pub merge_of_a_const_list : Program
merge_of_a_const_list =
    function (at 1 1) (result.Scalar t.Int) (id "f" 1 5)
    (parameter.ConstContainer (at 1 7) (container_type (at 1 13) f.List) (id "cl" 1 29) ∷ []) (at 1 33) (items (
    declares (declares_container (container_type (at 2 3) f.List) (id "l" 2 18)
    (braces true (all (number (at 2 23) 1 ∷ number (at 2 26) 2 ∷ [])))) ∷
    states (does (at 3 3) (evaluates (member_call (name (id "l" 3 3)) (id "merge" 3 5) (all (name (id "cl" 3 11) ∷ []))))) ∷
    [])) (at 4 1) ∷
    function (at 5 1) (result.Scalar t.Int) (id "main" 5 5) [] (at 5 12) (items []) (at 6 1) ∷
    []

merge_of_a_const_list_breaks : FirstBroken merge_of_a_const_list (fault (at 3 5) rule.WRITE_TO_CONST)
unfolding program_faults
merge_of_a_const_list_breaks = refl

-- reverse over a set
-- int main() {
--   std::set<int> s = {1, 2};
--   std::reverse(s.begin(), s.end());
-- }
abbrev pub reverse_over_a_set : Program
reverse_over_a_set = main_alone (
    declares
    (declares_container (container_type (at 2 3) f.Set) (id "s" 2 17) (braces true (all (number (at 2 22) 1 ∷ number (at 2 25) 2 ∷ [])))) ∷
    states (does (at 3 3) (evaluates (library_call (id "reverse" 3 3)
    (all (member_call (name (id "s" 3 16)) (id "begin" 3 18) none ∷ member_call (name (id "s" 3 27)) (id "end" 3 29) none ∷ []))))) ∷
    []) (at 4 1)

reverse_over_a_set_breaks : FirstBroken reverse_over_a_set (fault (at 3 3) rule.WRITE_TO_CONST)
unfolding program_faults
reverse_over_a_set_breaks = refl

-- sort over an unordered set
-- int main() {
--   std::unordered_set<int> us = {1};
--   std::sort(us.begin(), us.end());
-- }
abbrev pub sort_over_an_unordered_set : Program
sort_over_an_unordered_set = main_alone (
    declares (declares_container (container_type (at 2 3) f.HashSet) (id "us" 2 27) (braces true (all (number (at 2 33) 1 ∷ [])))) ∷
    states (does (at 3 3) (evaluates (library_call (id "sort" 3 3)
    (all (member_call (name (id "us" 3 13)) (id "begin" 3 16) none ∷ member_call (name (id "us" 3 25)) (id "end" 3 28) none ∷ []))))) ∷
    []) (at 4 1)

sort_over_an_unordered_set_breaks : FirstBroken sort_over_an_unordered_set (fault (at 3 3) rule.WRITE_TO_CONST)
unfolding program_faults
sort_over_an_unordered_set_breaks = refl

-- copy to a set
-- int main() {
--   std::vector<int> v = {1, 2};
--   std::set<int> s = {1, 2};
--   std::copy(v.begin(), v.end(), s.begin());
-- }
abbrev pub copy_to_a_set : Program
copy_to_a_set = main_alone (
    declares (declares_container (container_type (at 2 3) f.Vector) (id "v" 2 20)
    (braces true (all (number (at 2 25) 1 ∷ number (at 2 28) 2 ∷ [])))) ∷
    declares
    (declares_container (container_type (at 3 3) f.Set) (id "s" 3 17) (braces true (all (number (at 3 22) 1 ∷ number (at 3 25) 2 ∷ [])))) ∷
    states (does (at 4 3) (evaluates (library_call (id "copy" 4 3) (all (
    member_call (name (id "v" 4 13)) (id "begin" 4 15) none ∷
    member_call (name (id "v" 4 24)) (id "end" 4 26) none ∷
    member_call (name (id "s" 4 33)) (id "begin" 4 35) none ∷
    []))))) ∷
    []) (at 5 1)

copy_to_a_set_breaks : FirstBroken copy_to_a_set (fault (at 4 3) rule.WRITE_TO_CONST)
unfolding program_faults
copy_to_a_set_breaks = refl

-- appender of a const vector
-- int f(const std::vector<int>& cv) {
--   std::vector<int> v = {1, 2};
--   std::copy(v.begin(), v.end(), std::back_inserter(cv));
-- }
-- int main() {
-- }
abbrev pub appender_of_a_const_vector : Program
appender_of_a_const_vector =
    function (at 1 1) (result.Scalar t.Int) (id "f" 1 5)
    (parameter.ConstContainer (at 1 7) (container_type (at 1 13) f.Vector) (id "cv" 1 31) ∷ []) (at 1 35) (items (
    declares (declares_container (container_type (at 2 3) f.Vector) (id "v" 2 20)
    (braces true (all (number (at 2 25) 1 ∷ number (at 2 28) 2 ∷ [])))) ∷
    states (does (at 3 3) (evaluates (library_call (id "copy" 3 3) (all (
    member_call (name (id "v" 3 13)) (id "begin" 3 15) none ∷
    member_call (name (id "v" 3 24)) (id "end" 3 26) none ∷
    library_call (id "back_inserter" 3 33) (all (name (id "cv" 3 52) ∷ [])) ∷
    []))))) ∷
    [])) (at 4 1) ∷
    function (at 5 1) (result.Scalar t.Int) (id "main" 5 5) [] (at 5 12) (items []) (at 6 1) ∷
    []

appender_of_a_const_vector_breaks : FirstBroken appender_of_a_const_vector (fault (at 3 33) rule.WRITE_TO_CONST)
unfolding program_faults
appender_of_a_const_vector_breaks = refl

-- appender of a const vector alone
-- int f(const std::vector<int>& cv) {
--   std::back_inserter(cv);
-- }
-- int main() {
-- }
abbrev pub appender_of_a_const_vector_alone : Program
appender_of_a_const_vector_alone =
    function (at 1 1) (result.Scalar t.Int) (id "f" 1 5)
    (parameter.ConstContainer (at 1 7) (container_type (at 1 13) f.Vector) (id "cv" 1 31) ∷ []) (at 1 35)
    (items (states (does (at 2 3) (evaluates (library_call (id "back_inserter" 2 3) (all (name (id "cv" 2 22) ∷ []))))) ∷ [])) (at 3 1) ∷
    function (at 4 1) (result.Scalar t.Int) (id "main" 4 5) [] (at 4 12) (items []) (at 5 1) ∷
    []

appender_of_a_const_vector_alone_breaks : FirstBroken appender_of_a_const_vector_alone (fault (at 2 3) rule.WRITE_TO_CONST)
unfolding program_faults
appender_of_a_const_vector_alone_breaks = refl

-- const container for a reference
-- void f(std::set<int>& a) {
-- }
-- void g(const std::set<int>& a) {
--   f(a);
-- }
-- int main() {
-- }
abbrev pub const_container_for_a_reference : Program
const_container_for_a_reference =
    function (at 1 1) result.Void (id "f" 1 6) (parameter.Container (container_type (at 1 8) f.Set) (id "a" 1 23) ∷ []) (at 1 26) (items [])
    (at 2 1) ∷
    function (at 3 1) result.Void (id "g" 3 6) (parameter.ConstContainer (at 3 8) (container_type (at 3 14) f.Set) (id "a" 3 29) ∷ [])
    (at 3 32) (items (states (does (at 4 3) (evaluates (call (id "f" 4 3) (all (name (id "a" 4 5) ∷ []))))) ∷ [])) (at 5 1) ∷
    function (at 6 1) (result.Scalar t.Int) (id "main" 6 5) [] (at 6 12) (items []) (at 7 1) ∷
    []

const_container_for_a_reference_breaks : FirstBroken const_container_for_a_reference (fault (at 4 3) rule.WRITE_TO_CONST)
unfolding program_faults
const_container_for_a_reference_breaks = refl

-- const element as a left side
-- int f(const std::vector<int>& cv) {
--   *(cv.begin()) = 1;
-- }
-- int main() {
-- }
abbrev pub const_element_as_a_left_side : Program
const_element_as_a_left_side =
    function (at 1 1) (result.Scalar t.Int) (id "f" 1 5)
    (parameter.ConstContainer (at 1 7) (container_type (at 1 13) f.Vector) (id "cv" 1 31) ∷ []) (at 1 35) (items (
    states (does (at 2 3) (assigns
    (prefix before.Dereference (at 2 3) (parentheses (at 2 4) (member_call (name (id "cv" 2 5)) (id "begin" 2 8) none)))
    assignment.Set (at 2 17) (number (at 2 19) 1))) ∷
    [])) (at 3 1) ∷
    function (at 4 1) (result.Scalar t.Int) (id "main" 4 5) [] (at 4 12) (items []) (at 5 1) ∷
    []

const_element_as_a_left_side_breaks : FirstBroken const_element_as_a_left_side (fault (at 2 17) rule.WRITE_TO_CONST)
unfolding program_faults
const_element_as_a_left_side_breaks = refl

-- step of a const reference
-- int main() {
--   std::vector<int> v = {1, 2};
--   const int& cr = v[1];
--   ++cr = 1;
-- }
abbrev pub step_of_a_const_reference : Program
step_of_a_const_reference = main_alone (
    declares (declares_container (container_type (at 2 3) f.Vector) (id "v" 2 20)
    (braces true (all (number (at 2 25) 1 ∷ number (at 2 28) 2 ∷ [])))) ∷
    declares (declares_reference (reference_head (at 3 3) true type.Int) (id "cr" 3 14)
    (index (name (id "v" 3 19)) (at 3 20) (number (at 3 21) 1))) ∷
    states (does (at 4 3) (assigns (prefix before.Increment (at 4 3) (name (id "cr" 4 5))) assignment.Set (at 4 8) (number (at 4 10) 1))) ∷
    []) (at 5 1)

step_of_a_const_reference_breaks : FirstBroken step_of_a_const_reference (fault (at 4 3) rule.WRITE_TO_CONST)
unfolding program_faults
step_of_a_const_reference_breaks = refl

-- const step before a condition that is a vector
-- int main() {
--   int x = 1;
--   std::vector<int> v = {1, 2};
--   const int& cr = v[1];
--   if (v) ++cr; else (x++ + x);
-- }
abbrev pub const_step_before_a_condition_that_is_a_vector : Program
const_step_before_a_condition_that_is_a_vector = main_alone (
    declares (declares_scalar (at 2 3) t.Int (id "x" 2 7) (Some (number (at 2 11) 1))) ∷
    declares (declares_container (container_type (at 3 3) f.Vector) (id "v" 3 20)
    (braces true (all (number (at 3 25) 1 ∷ number (at 3 28) 2 ∷ [])))) ∷
    declares (declares_reference (reference_head (at 4 3) true type.Int) (id "cr" 4 14)
    (index (name (id "v" 4 19)) (at 4 20) (number (at 4 21) 1))) ∷
    states (choice_else (at 5 3) (tests (name (id "v" 5 7)))
    (does (at 5 10) (evaluates (prefix before.Increment (at 5 10) (name (id "cr" 5 12))))) (does (at 5 21) (evaluates (parentheses
    (at 5 21)
    (binary (postfix (name (id "x" 5 22)) behind.Increment (at 5 23)) (operator.Arithmetic o.Add) (at 5 26) (name (id "x" 5 28))))))) ∷
    []) (at 6 1)

const_step_before_a_condition_that_is_a_vector_breaks : FirstBroken const_step_before_a_condition_that_is_a_vector
    (fault (at 5 10) rule.WRITE_TO_CONST)
unfolding program_faults
const_step_before_a_condition_that_is_a_vector_breaks = refl

-- const container for a const reference
-- void f(const std::set<int>& a) {
-- }
-- void g(const std::set<int>& a) {
--   f(a);
-- }
-- int main() {
-- }
abbrev pub const_container_for_a_const_reference : Program
const_container_for_a_const_reference =
    function (at 1 1) result.Void (id "f" 1 6) (parameter.ConstContainer (at 1 8) (container_type (at 1 14) f.Set) (id "a" 1 29) ∷ [])
    (at 1 32) (items []) (at 2 1) ∷
    function (at 3 1) result.Void (id "g" 3 6) (parameter.ConstContainer (at 3 8) (container_type (at 3 14) f.Set) (id "a" 3 29) ∷ [])
    (at 3 32) (items (states (does (at 4 3) (evaluates (call (id "f" 4 3) (all (name (id "a" 4 5) ∷ []))))) ∷ [])) (at 5 1) ∷
    function (at 6 1) (result.Scalar t.Int) (id "main" 6 5) [] (at 6 12) (items []) (at 7 1) ∷
    []

const_container_for_a_const_reference_breaks_none : program_faults const_container_for_a_const_reference ≡ []
unfolding program_faults
const_container_for_a_const_reference_breaks_none = refl

-- const iterator as a position
-- int f(const std::vector<int>& cv) {
--   int x = 1;
--   std::vector<int> v = {1, 2};
--   v.insert(cv.begin(), x);
-- }
-- int main() {
-- }
abbrev pub const_iterator_as_a_position : Program
const_iterator_as_a_position =
    function (at 1 1) (result.Scalar t.Int) (id "f" 1 5)
    (parameter.ConstContainer (at 1 7) (container_type (at 1 13) f.Vector) (id "cv" 1 31) ∷ []) (at 1 35) (items (
    declares (declares_scalar (at 2 3) t.Int (id "x" 2 7) (Some (number (at 2 11) 1))) ∷
    declares (declares_container (container_type (at 3 3) f.Vector) (id "v" 3 20)
    (braces true (all (number (at 3 25) 1 ∷ number (at 3 28) 2 ∷ [])))) ∷
    states (does (at 4 3) (evaluates (member_call (name (id "v" 4 3)) (id "insert" 4 5)
    (all (member_call (name (id "cv" 4 12)) (id "begin" 4 15) none ∷ name (id "x" 4 24) ∷ []))))) ∷
    [])) (at 5 1) ∷
    function (at 6 1) (result.Scalar t.Int) (id "main" 6 5) [] (at 6 12) (items []) (at 7 1) ∷
    []

const_iterator_as_a_position_breaks_none : program_faults const_iterator_as_a_position ≡ []
unfolding program_faults
const_iterator_as_a_position_breaks_none = refl

-- find in a const set
-- int f(const std::set<int>& cs) {
--   int x = 1;
--   cs.find(x);
-- }
-- int main() {
-- }
abbrev pub find_in_a_const_set : Program
find_in_a_const_set =
    function (at 1 1) (result.Scalar t.Int) (id "f" 1 5)
    (parameter.ConstContainer (at 1 7) (container_type (at 1 13) f.Set) (id "cs" 1 28) ∷ []) (at 1 32) (items (
    declares (declares_scalar (at 2 3) t.Int (id "x" 2 7) (Some (number (at 2 11) 1))) ∷
    states (does (at 3 3) (evaluates (member_call (name (id "cs" 3 3)) (id "find" 3 6) (all (name (id "x" 3 11) ∷ []))))) ∷
    [])) (at 4 1) ∷
    function (at 5 1) (result.Scalar t.Int) (id "main" 5 5) [] (at 5 12) (items []) (at 6 1) ∷
    []

find_in_a_const_set_breaks_none : program_faults find_in_a_const_set ≡ []
unfolding program_faults
find_in_a_const_set_breaks_none = refl

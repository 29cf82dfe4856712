-- Calls that aren't there, or not with so many arguments, and calls of each kind that are.
-- Each is made of a text and of what is due for it by tools/typing_goal.py.
use Rattle.sl_base.specs.declared.scalar.Scalar.TheVariants as t
use Rattle.sl_base.specs.declared.form.Form.TheVariants as f
use Rattle.sl_syntax.specs.declared.tree.function.Param.TheVariants as parameter
use Rattle.sl_syntax.specs.declared.tree.function.ResultType.TheVariants as result
use Rattle.sl_typing.specs.declared.rules.TheConstants as rule
use Rattle.std.specs.Prelude.{◌≡◌, refl, true, [], ◌∷◌, Some}
use Rattle.sl_syntax.specs.Tree.{number, name, call, library_call, parentheses, index, member_call, none, absent, braces, arguments}
use Rattle.sl_syntax.specs.Tree.{declares_scalar, declares_auto, declares_container, evaluates, gives_back, does, declares, states, Program}
use Rattle.sl_typing.specs.ProgramFaults.{program_faults}
use Rattle.sl_typing.specs.Typing.{FirstBroken}
use Rattle.sl_typing.proofs.Examples.Words.{at, id, all, items, container_type, function, main_alone, fault}

-- algorithm that is not there
-- int main() {
--   int x = 1;
--   std::for_each(x);
-- }
abbrev pub algorithm_that_is_not_there : Program
algorithm_that_is_not_there = main_alone (
    declares (declares_scalar (at 2 3) t.Int (id "x" 2 7) (Some (number (at 2 11) 1))) ∷
    states (does (at 3 3) (evaluates (library_call (id "for_each" 3 3) (all (name (id "x" 3 17) ∷ []))))) ∷
    []) (at 4 1)

algorithm_that_is_not_there_breaks : FirstBroken algorithm_that_is_not_there (fault (at 3 3) rule.NO_SUCH_CALL)
unfolding program_faults
algorithm_that_is_not_there_breaks = refl

-- algorithm without arguments
-- int main() {
--   std::find();
-- }
abbrev pub algorithm_without_arguments : Program
algorithm_without_arguments = main_alone (states (does (at 2 3) (evaluates (library_call (id "find" 2 3) none))) ∷ []) (at 3 1)

algorithm_without_arguments_breaks : FirstBroken algorithm_without_arguments (fault (at 2 3) rule.NO_SUCH_CALL)
unfolding program_faults
algorithm_without_arguments_breaks = refl

-- first as a call
-- int main() {
--   std::set<int> s = {1, 2};
--   s.first();
-- }
abbrev pub first_as_a_call : Program
first_as_a_call = main_alone (
    declares
    (declares_container (container_type (at 2 3) f.Set) (id "s" 2 17) (braces true (all (number (at 2 22) 1 ∷ number (at 2 25) 2 ∷ [])))) ∷
    states (does (at 3 3) (evaluates (member_call (name (id "s" 3 3)) (id "first" 3 5) none))) ∷
    []) (at 4 1)

first_as_a_call_breaks : FirstBroken first_as_a_call (fault (at 3 5) rule.NO_SUCH_CALL)
unfolding program_faults
first_as_a_call_breaks = refl

-- merge with four arguments
-- int main() {
--   int x = 1;
--   std::list<int> l = {1, 2};
--   l.merge(x, 1, 2, 3);
-- }
abbrev pub merge_with_four_arguments : Program
merge_with_four_arguments = main_alone (
    declares (declares_scalar (at 2 3) t.Int (id "x" 2 7) (Some (number (at 2 11) 1))) ∷
    declares
    (declares_container (container_type (at 3 3) f.List) (id "l" 3 18) (braces true (all (number (at 3 23) 1 ∷ number (at 3 26) 2 ∷ [])))) ∷
    states (does (at 4 3) (evaluates (member_call (name (id "l" 4 3)) (id "merge" 4 5)
    (all (name (id "x" 4 11) ∷ number (at 4 14) 1 ∷ number (at 4 17) 2 ∷ number (at 4 20) 3 ∷ []))))) ∷
    []) (at 5 1)

merge_with_four_arguments_breaks : FirstBroken merge_with_four_arguments (fault (at 4 5) rule.NO_SUCH_CALL)
unfolding program_faults
merge_with_four_arguments_breaks = refl

-- subscript of a set
-- int main() {
--   std::set<int> s = {1, 2};
--   s[0];
-- }
abbrev pub subscript_of_a_set : Program
subscript_of_a_set = main_alone (
    declares
    (declares_container (container_type (at 2 3) f.Set) (id "s" 2 17) (braces true (all (number (at 2 22) 1 ∷ number (at 2 25) 2 ∷ [])))) ∷
    states (does (at 3 3) (evaluates (index (name (id "s" 3 3)) (at 3 4) (number (at 3 5) 0)))) ∷
    []) (at 4 1)

subscript_of_a_set_breaks : FirstBroken subscript_of_a_set (fault (at 3 4) rule.NO_SUCH_CALL)
unfolding program_faults
subscript_of_a_set_breaks = refl

-- too few arguments
-- int f(int a) {
--   return a;
-- }
-- int main() {
--   f();
-- }
abbrev pub too_few_arguments : Program
too_few_arguments =
    function (at 1 1) (result.Scalar t.Int) (id "f" 1 5) (parameter.Value (at 1 7) t.Int (id "a" 1 11) ∷ []) (at 1 14)
    (items (states (gives_back (at 2 3) (Some (name (id "a" 2 10)))) ∷ [])) (at 3 1) ∷
    function (at 4 1) (result.Scalar t.Int) (id "main" 4 5) [] (at 4 12)
    (items (states (does (at 5 3) (evaluates (call (id "f" 5 3) none))) ∷ [])) (at 6 1) ∷
    []

too_few_arguments_breaks : FirstBroken too_few_arguments (fault (at 5 3) rule.NO_SUCH_CALL)
unfolding program_faults
too_few_arguments_breaks = refl

-- function hidden by a variable
-- void f() {
-- }
-- int main() {
--   int f = 1;
--   f();
-- }
abbrev pub function_hidden_by_a_variable : Program
function_hidden_by_a_variable =
    function (at 1 1) result.Void (id "f" 1 6) [] (at 1 10) (items []) (at 2 1) ∷
    function (at 3 1) (result.Scalar t.Int) (id "main" 3 5) [] (at 3 12) (items (
    declares (declares_scalar (at 4 3) t.Int (id "f" 4 7) (Some (number (at 4 11) 1))) ∷
    states (does (at 5 3) (evaluates (call (id "f" 5 3) none))) ∷
    [])) (at 6 1) ∷
    []

function_hidden_by_a_variable_breaks : FirstBroken function_hidden_by_a_variable (fault (at 5 3) rule.NO_SUCH_CALL)
unfolding program_faults
function_hidden_by_a_variable_breaks = refl

-- main called with an argument
-- int main() {
--   main(1);
-- }
abbrev pub main_called_with_an_argument : Program
main_called_with_an_argument = main_alone (states (does (at 2 3) (evaluates (call (id "main" 2 3) (all (number (at 2 8) 1 ∷ []))))) ∷ [])
    (at 3 1)

main_called_with_an_argument_breaks : FirstBroken main_called_with_an_argument (fault (at 2 3) rule.NO_SUCH_CALL)
unfolding program_faults
main_called_with_an_argument_breaks = refl

-- multimap of a list
-- int main() {
--   std::multimap<int, int> g = {1, 2};
-- }
abbrev pub multimap_of_a_list : Program
multimap_of_a_list = main_alone (
    declares (declares_container (container_type (at 2 3) f.MultiMap) (id "g" 2 27)
    (braces true (all (number (at 2 32) 1 ∷ number (at 2 35) 2 ∷ [])))) ∷
    []) (at 3 1)

multimap_of_a_list_breaks : FirstBroken multimap_of_a_list (fault (at 2 3) rule.NO_SUCH_CALL)
unfolding program_faults
multimap_of_a_list_breaks = refl

-- unordered map of a range
-- int main() {
--   std::map<int, int> m;
--   std::unordered_map<int, int> g(m.begin(), m.end());
-- }
abbrev pub unordered_map_of_a_range : Program
unordered_map_of_a_range = main_alone (
    declares (declares_container (container_type (at 2 3) f.Map) (id "m" 2 22) absent) ∷
    declares (declares_container (container_type (at 3 3) f.HashMap) (id "g" 3 32) (arguments
    (all (member_call (name (id "m" 3 34)) (id "begin" 3 36) none ∷ member_call (name (id "m" 3 45)) (id "end" 3 47) none ∷ [])))) ∷
    []) (at 4 1)

unordered_map_of_a_range_breaks : FirstBroken unordered_map_of_a_range (fault (at 3 3) rule.NO_SUCH_CALL)
unfolding program_faults
unordered_map_of_a_range_breaks = refl

-- no member in one argument too many
-- void nothing() {
-- }
-- int number(int a) {
--   return a;
-- }
-- int main() {
--   std::vector<int> v = {1, 2};
--   number(nothing(), v.foo());
-- }
abbrev pub no_member_in_one_argument_too_many : Program
no_member_in_one_argument_too_many =
    function (at 1 1) result.Void (id "nothing" 1 6) [] (at 1 16) (items []) (at 2 1) ∷
    function (at 3 1) (result.Scalar t.Int) (id "number" 3 5) (parameter.Value (at 3 12) t.Int (id "a" 3 16) ∷ []) (at 3 19)
    (items (states (gives_back (at 4 3) (Some (name (id "a" 4 10)))) ∷ [])) (at 5 1) ∷
    function (at 6 1) (result.Scalar t.Int) (id "main" 6 5) [] (at 6 12) (items (
    declares (declares_container (container_type (at 7 3) f.Vector) (id "v" 7 20)
    (braces true (all (number (at 7 25) 1 ∷ number (at 7 28) 2 ∷ [])))) ∷
    states (does (at 8 3) (evaluates
    (call (id "number" 8 3) (all (call (id "nothing" 8 10) none ∷ member_call (name (id "v" 8 21)) (id "foo" 8 23) none ∷ []))))) ∷
    [])) (at 9 1) ∷
    []

no_member_in_one_argument_too_many_breaks : FirstBroken no_member_in_one_argument_too_many (fault (at 8 23) rule.NO_SUCH_CALL)
unfolding program_faults
no_member_in_one_argument_too_many_breaks = refl

-- insert of a count and an element
-- int main() {
--   std::size_t n = 1;
--   std::ptrdiff_t d = 1;
--   std::deque<int> q = {1, 2};
--   auto qi = q.begin();
--   q.insert(qi, n, d);
-- }
abbrev pub insert_of_a_count_and_an_element : Program
insert_of_a_count_and_an_element = main_alone (
    declares (declares_scalar (at 2 3) t.Size (id "n" 2 15) (Some (number (at 2 19) 1))) ∷
    declares (declares_scalar (at 3 3) t.Diff (id "d" 3 18) (Some (number (at 3 22) 1))) ∷
    declares (declares_container (container_type (at 4 3) f.Deque) (id "q" 4 19)
    (braces true (all (number (at 4 24) 1 ∷ number (at 4 27) 2 ∷ [])))) ∷
    declares (declares_auto (at 5 3) (id "qi" 5 8) (member_call (name (id "q" 5 13)) (id "begin" 5 15) none)) ∷
    states (does (at 6 3) (evaluates
    (member_call (name (id "q" 6 3)) (id "insert" 6 5) (all (name (id "qi" 6 12) ∷ name (id "n" 6 16) ∷ name (id "d" 6 19) ∷ []))))) ∷
    []) (at 7 1)

insert_of_a_count_and_an_element_breaks_none : program_faults insert_of_a_count_and_an_element ≡ []
unfolding program_faults
insert_of_a_count_and_an_element_breaks_none = refl

-- splice of one element
-- int main() {
--   std::list<int> l = {1, 2};
--   auto li = l.begin();
--   l.splice((li), l, li);
-- }
abbrev pub splice_of_one_element : Program
splice_of_one_element = main_alone (
    declares
    (declares_container (container_type (at 2 3) f.List) (id "l" 2 18) (braces true (all (number (at 2 23) 1 ∷ number (at 2 26) 2 ∷ [])))) ∷
    declares (declares_auto (at 3 3) (id "li" 3 8) (member_call (name (id "l" 3 13)) (id "begin" 3 15) none)) ∷
    states (does (at 4 3) (evaluates (member_call (name (id "l" 4 3)) (id "splice" 4 5)
    (all (parentheses (at 4 12) (name (id "li" 4 13)) ∷ name (id "l" 4 18) ∷ name (id "li" 4 21) ∷ []))))) ∷
    []) (at 5 1)

splice_of_one_element_breaks_none : program_faults splice_of_one_element ≡ []
unfolding program_faults
splice_of_one_element_breaks_none = refl

-- deque of a count and an element
-- int main() {
--   std::size_t n = 1;
--   std::deque<int> g(n, 5);
-- }
abbrev pub deque_of_a_count_and_an_element : Program
deque_of_a_count_and_an_element = main_alone (
    declares (declares_scalar (at 2 3) t.Size (id "n" 2 15) (Some (number (at 2 19) 1))) ∷
    declares
    (declares_container (container_type (at 3 3) f.Deque) (id "g" 3 19) (arguments (all (name (id "n" 3 21) ∷ number (at 3 24) 5 ∷ [])))) ∷
    []) (at 4 1)

deque_of_a_count_and_an_element_breaks_none : program_faults deque_of_a_count_and_an_element ≡ []
unfolding program_faults
deque_of_a_count_and_an_element_breaks_none = refl

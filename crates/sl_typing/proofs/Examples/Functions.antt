-- The main function, names of functions, and what they return.
-- Each is made of a text and of what is due for it by tools/typing_goal.py.
use Rattle.sl_base.specs.declared.scalar.Scalar.TheVariants as t
use Rattle.sl_base.specs.declared.form.Form.TheVariants as f
use Rattle.sl_syntax.specs.declared.tree.element.Element.TheVariants as element
use Rattle.sl_syntax.specs.declared.tree.element.ElementType.TheVariants as type
use Rattle.sl_syntax.specs.declared.tree.function.Param.TheVariants as parameter
use Rattle.sl_syntax.specs.declared.tree.function.ResultType.TheVariants as result
use Rattle.sl_typing.specs.declared.rules.TheConstants as rule
use Rattle.std.specs.Prelude.{◌≡◌, refl, [], ◌∷◌, Some, None}
use Rattle.sl_syntax.specs.Tree.{number, name, call, none, declares_scalar, evaluates, tests, block, choice_else, range_for, gives_back}
use Rattle.sl_syntax.specs.Tree.{does, declares, states, Program}
use Rattle.sl_typing.specs.ProgramFaults.{program_faults}
use Rattle.sl_typing.specs.Typing.{FirstBroken}
use Rattle.sl_typing.proofs.Examples.Words.{at, id, all, items, container_type, function, main_alone, fault}

-- no function main
-- void f() {
-- }
abbrev pub no_function_main : Program
no_function_main = function (at 1 1) result.Void (id "f" 1 6) [] (at 1 10) (items []) (at 2 1) ∷ []

no_function_main_breaks : FirstBroken no_function_main (fault (at 1 1) rule.NO_MAIN)
unfolding program_faults
no_function_main_breaks = refl

-- void main
-- void main() {
-- }
abbrev pub void_main : Program
void_main = function (at 1 1) result.Void (id "main" 1 6) [] (at 1 13) (items []) (at 2 1) ∷ []

void_main_breaks : FirstBroken void_main (fault (at 1 6) rule.NO_MAIN)
unfolding program_faults
void_main_breaks = refl

-- main with a parameter
-- int main(int a) {
-- }
abbrev pub main_with_a_parameter : Program
main_with_a_parameter =
    function (at 1 1) (result.Scalar t.Int) (id "main" 1 5) (parameter.Value (at 1 10) t.Int (id "a" 1 14) ∷ []) (at 1 17) (items []) (at 2 1) ∷
    []

main_with_a_parameter_breaks : FirstBroken main_with_a_parameter (fault (at 1 5) rule.NO_MAIN)
unfolding program_faults
main_with_a_parameter_breaks = refl

-- main called in itself
-- int main() {
--   main();
-- }
abbrev pub main_called_in_itself : Program
main_called_in_itself = main_alone (states (does (at 2 3) (evaluates (call (id "main" 2 3) none))) ∷ []) (at 3 1)

main_called_in_itself_breaks : FirstBroken main_called_in_itself (fault (at 2 3) rule.NO_MAIN)
unfolding program_faults
main_called_in_itself_breaks = refl

-- main called before an undeclared name
-- int main() {
--   { main(); int w = y; }
-- }
abbrev pub main_called_before_an_undeclared_name : Program
main_called_before_an_undeclared_name = main_alone (
    states (block (at 2 3) (items (
    states (does (at 2 5) (evaluates (call (id "main" 2 5) none))) ∷
    declares (declares_scalar (at 2 13) t.Int (id "w" 2 17) (Some (name (id "y" 2 21)))) ∷
    [])) (at 2 24)) ∷
    []) (at 3 1)

main_called_before_an_undeclared_name_breaks : FirstBroken main_called_before_an_undeclared_name (fault (at 2 5) rule.NO_MAIN)
unfolding program_faults
main_called_before_an_undeclared_name_breaks = refl

-- main twice
-- int main() {
-- }
-- int main() {
-- }
abbrev pub main_twice : Program
main_twice =
    function (at 1 1) (result.Scalar t.Int) (id "main" 1 5) [] (at 1 12) (items []) (at 2 1) ∷
    function (at 3 1) (result.Scalar t.Int) (id "main" 3 5) [] (at 3 12) (items []) (at 4 1) ∷
    []

main_twice_breaks : FirstBroken main_twice (fault (at 3 5) rule.DECLARED_TWICE)
unfolding program_faults
main_twice_breaks = refl

-- function named find
-- void find() {
-- }
-- int main() {
-- }
abbrev pub function_named_find : Program
function_named_find =
    function (at 1 1) result.Void (id "find" 1 6) [] (at 1 13) (items []) (at 2 1) ∷
    function (at 3 1) (result.Scalar t.Int) (id "main" 3 5) [] (at 3 12) (items []) (at 4 1) ∷
    []

function_named_find_breaks : FirstBroken function_named_find (fault (at 1 6) rule.LIBRARY_NAME)
unfolding program_faults
function_named_find_breaks = refl

-- function named swap
-- void swap() {
-- }
-- int main() {
-- }
abbrev pub function_named_swap : Program
function_named_swap =
    function (at 1 1) result.Void (id "swap" 1 6) [] (at 1 13) (items []) (at 2 1) ∷
    function (at 3 1) (result.Scalar t.Int) (id "main" 3 5) [] (at 3 12) (items []) (at 4 1) ∷
    []

function_named_swap_breaks : FirstBroken function_named_swap (fault (at 1 6) rule.LIBRARY_NAME)
unfolding program_faults
function_named_swap_breaks = refl

-- function named push_back
-- void push_back() {
-- }
-- int main() {
-- }
abbrev pub function_named_push_back : Program
function_named_push_back =
    function (at 1 1) result.Void (id "push_back" 1 6) [] (at 1 18) (items []) (at 2 1) ∷
    function (at 3 1) (result.Scalar t.Int) (id "main" 3 5) [] (at 3 12) (items []) (at 4 1) ∷
    []

function_named_push_back_breaks_none : program_faults function_named_push_back ≡ []
unfolding program_faults
function_named_push_back_breaks_none = refl

-- value in a function that gives nothing
-- void f() {
--   return 1;
-- }
-- int main() {
-- }
abbrev pub value_in_a_function_that_gives_nothing : Program
value_in_a_function_that_gives_nothing =
    function (at 1 1) result.Void (id "f" 1 6) [] (at 1 10) (items (states (gives_back (at 2 3) (Some (number (at 2 10) 1))) ∷ [])) (at 3 1) ∷
    function (at 4 1) (result.Scalar t.Int) (id "main" 4 5) [] (at 4 12) (items []) (at 5 1) ∷
    []

value_in_a_function_that_gives_nothing_breaks : FirstBroken value_in_a_function_that_gives_nothing (fault (at 2 3) rule.WRONG_RETURN)
unfolding program_faults
value_in_a_function_that_gives_nothing_breaks = refl

-- call of nothing as the value of nothing
-- void f() {
--   return f();
-- }
-- int main() {
-- }
abbrev pub call_of_nothing_as_the_value_of_nothing : Program
call_of_nothing_as_the_value_of_nothing =
    function (at 1 1) result.Void (id "f" 1 6) [] (at 1 10) (items (states (gives_back (at 2 3) (Some (call (id "f" 2 10) none))) ∷ []))
    (at 3 1) ∷
    function (at 4 1) (result.Scalar t.Int) (id "main" 4 5) [] (at 4 12) (items []) (at 5 1) ∷
    []

call_of_nothing_as_the_value_of_nothing_breaks : FirstBroken call_of_nothing_as_the_value_of_nothing (fault (at 2 3) rule.WRONG_RETURN)
unfolding program_faults
call_of_nothing_as_the_value_of_nothing_breaks = refl

-- no value in main
-- int main() {
--   return;
-- }
abbrev pub no_value_in_main : Program
no_value_in_main = main_alone (states (gives_back (at 2 3) None) ∷ []) (at 3 1)

no_value_in_main_breaks : FirstBroken no_value_in_main (fault (at 2 3) rule.WRONG_RETURN)
unfolding program_faults
no_value_in_main_breaks = refl

-- no value in a loop
-- bool f(std::list<int>& l) {
--   for (int x : l) return;
-- }
-- int main() {
-- }
abbrev pub no_value_in_a_loop : Program
no_value_in_a_loop =
    function (at 1 1) (result.Scalar t.Bool) (id "f" 1 6) (parameter.Container (container_type (at 1 8) f.List) (id "l" 1 24) ∷ []) (at 1 27)
    (items (states (range_for (at 2 3) (element.Value type.Int) (id "x" 2 12) (id "l" 2 16) (gives_back (at 2 19) None)) ∷ [])) (at 3 1) ∷
    function (at 4 1) (result.Scalar t.Int) (id "main" 4 5) [] (at 4 12) (items []) (at 5 1) ∷
    []

no_value_in_a_loop_breaks : FirstBroken no_value_in_a_loop (fault (at 2 19) rule.WRONG_RETURN)
unfolding program_faults
no_value_in_a_loop_breaks = refl

-- container as a value in an else
-- void f(std::list<int>& l) {
--   if (1) {} else return l;
-- }
-- int main() {
-- }
abbrev pub container_as_a_value_in_an_else : Program
container_as_a_value_in_an_else =
    function (at 1 1) result.Void (id "f" 1 6) (parameter.Container (container_type (at 1 8) f.List) (id "l" 1 24) ∷ []) (at 1 27) (items (
    states (choice_else (at 2 3) (tests (number (at 2 7) 1)) (block (at 2 10) (items []) (at 2 11))
    (gives_back (at 2 18) (Some (name (id "l" 2 25))))) ∷
    [])) (at 3 1) ∷
    function (at 4 1) (result.Scalar t.Int) (id "main" 4 5) [] (at 4 12) (items []) (at 5 1) ∷
    []

container_as_a_value_in_an_else_breaks : FirstBroken container_as_a_value_in_an_else (fault (at 2 18) rule.WRONG_RETURN)
unfolding program_faults
container_as_a_value_in_an_else_breaks = refl

-- no value of nothing
-- void f(std::list<int>& l) {
--   for (int x : l) return;
-- }
-- int main() {
-- }
abbrev pub no_value_of_nothing : Program
no_value_of_nothing =
    function (at 1 1) result.Void (id "f" 1 6) (parameter.Container (container_type (at 1 8) f.List) (id "l" 1 24) ∷ []) (at 1 27)
    (items (states (range_for (at 2 3) (element.Value type.Int) (id "x" 2 12) (id "l" 2 16) (gives_back (at 2 19) None)) ∷ [])) (at 3 1) ∷
    function (at 4 1) (result.Scalar t.Int) (id "main" 4 5) [] (at 4 12) (items []) (at 5 1) ∷
    []

no_value_of_nothing_breaks_none : program_faults no_value_of_nothing ≡ []
unfolding program_faults
no_value_of_nothing_breaks_none = refl

-- reference parameter of its own type
-- void f(std::size_t& a) {
-- }
-- int main() {
--   std::size_t x = 1;
--   f(x);
-- }
abbrev pub reference_parameter_of_its_own_type : Program
reference_parameter_of_its_own_type =
    function (at 1 1) result.Void (id "f" 1 6) (parameter.Reference (at 1 8) t.Size (id "a" 1 21) ∷ []) (at 1 24) (items []) (at 2 1) ∷
    function (at 3 1) (result.Scalar t.Int) (id "main" 3 5) [] (at 3 12) (items (
    declares (declares_scalar (at 4 3) t.Size (id "x" 4 15) (Some (number (at 4 19) 1))) ∷
    states (does (at 5 3) (evaluates (call (id "f" 5 3) (all (name (id "x" 5 5) ∷ []))))) ∷
    [])) (at 6 1) ∷
    []

reference_parameter_of_its_own_type_breaks_none : program_faults reference_parameter_of_its_own_type ≡ []
unfolding program_faults
reference_parameter_of_its_own_type_breaks_none = refl

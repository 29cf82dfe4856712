-- Names that aren't declared where they stand, and a name that is the text's own.
-- Each is made of a text and of what is due for it by tools/typing_goal.py.
use Rattle.sl_base.specs.declared.scalar.Scalar.TheVariants as t
use Rattle.sl_base.specs.declared.form.Form.TheVariants as f
use Rattle.sl_syntax.specs.declared.operator.Arithmetic.TheVariants as o
use Rattle.sl_syntax.specs.declared.operator.Assignment.TheVariants as assignment
use Rattle.sl_syntax.specs.declared.operator.BinaryOperator.TheVariants as operator
use Rattle.sl_syntax.specs.declared.operator.PrefixOperator.TheVariants as before
use Rattle.sl_syntax.specs.declared.tree.element.Element.TheVariants as element
use Rattle.sl_syntax.specs.declared.tree.element.ElementType.TheVariants as type
use Rattle.sl_syntax.specs.declared.tree.function.ResultType.TheVariants as result
use Rattle.sl_typing.specs.declared.rules.TheConstants as rule
use Rattle.std.specs.Prelude.{◌≡◌, refl, true, false, [], ◌∷◌, Some}
use Rattle.sl_syntax.specs.Tree.{number, name, call, prefix, binary, member_call, none, copies, braces, declares_scalar}
use Rattle.sl_syntax.specs.Tree.{declares_container, reads, evaluates, assigns, tests_no_read, block, choice, range_for, does, declares}
use Rattle.sl_syntax.specs.Tree.{states, Program}
use Rattle.sl_typing.specs.ProgramFaults.{program_faults}
use Rattle.sl_typing.specs.Typing.{FirstBroken}
use Rattle.sl_typing.proofs.Examples.Words.{at, id, all, items, read, container_type, reference_head, function, main_alone, fault}

-- undeclared function
-- int main() {
--   y();
-- }
abbrev pub undeclared_function : Program
undeclared_function = main_alone (states (does (at 2 3) (evaluates (call (id "y" 2 3) none))) ∷ []) (at 3 1)

undeclared_function_breaks : FirstBroken undeclared_function (fault (at 2 3) rule.UNKNOWN_NAME)
unfolding program_faults
undeclared_function_breaks = refl

-- function called before it is declared
-- int main() {
--   f();
-- }
-- void f() {
-- }
abbrev pub function_called_before_it_is_declared : Program
function_called_before_it_is_declared =
    function (at 1 1) (result.Scalar t.Int) (id "main" 1 5) [] (at 1 12)
    (items (states (does (at 2 3) (evaluates (call (id "f" 2 3) none))) ∷ [])) (at 3 1) ∷
    function (at 4 1) result.Void (id "f" 4 6) [] (at 4 10) (items []) (at 5 1) ∷
    []

function_called_before_it_is_declared_breaks : FirstBroken function_called_before_it_is_declared (fault (at 2 3) rule.UNKNOWN_NAME)
unfolding program_faults
function_called_before_it_is_declared_breaks = refl

-- undeclared function with an undeclared argument
-- int main() {
--   y(z);
-- }
abbrev pub undeclared_function_with_an_undeclared_argument : Program
undeclared_function_with_an_undeclared_argument = main_alone
    (states (does (at 2 3) (evaluates (call (id "y" 2 3) (all (name (id "z" 2 5) ∷ []))))) ∷ []) (at 3 1)

undeclared_function_with_an_undeclared_argument_breaks : FirstBroken undeclared_function_with_an_undeclared_argument
    (fault (at 2 3) rule.UNKNOWN_NAME)
unfolding program_faults
undeclared_function_with_an_undeclared_argument_breaks = refl

-- undeclared argument of a member call
-- int main() {
--   std::vector<int> v = {1};
--   v.push_back(y);
-- }
abbrev pub undeclared_argument_of_a_member_call : Program
undeclared_argument_of_a_member_call = main_alone (
    declares (declares_container (container_type (at 2 3) f.Vector) (id "v" 2 20) (braces true (all (number (at 2 25) 1 ∷ [])))) ∷
    states (does (at 3 3) (evaluates (member_call (name (id "v" 3 3)) (id "push_back" 3 5) (all (name (id "y" 3 15) ∷ []))))) ∷
    []) (at 4 1)

undeclared_argument_of_a_member_call_breaks : FirstBroken undeclared_argument_of_a_member_call (fault (at 3 15) rule.UNKNOWN_NAME)
unfolding program_faults
undeclared_argument_of_a_member_call_breaks = refl

-- undeclared name behind a star
-- int main() {
--   *y = 1;
-- }
abbrev pub undeclared_name_behind_a_star : Program
undeclared_name_behind_a_star = main_alone (
    states (does (at 2 3) (assigns (prefix before.Dereference (at 2 3) (name (id "y" 2 4))) assignment.Set (at 2 6) (number (at 2 8) 1))) ∷
    []) (at 3 1)

undeclared_name_behind_a_star_breaks : FirstBroken undeclared_name_behind_a_star (fault (at 2 4) rule.UNKNOWN_NAME)
unfolding program_faults
undeclared_name_behind_a_star_breaks = refl

-- container copied from itself
-- int main() {
--   std::vector<int> v = v;
-- }
abbrev pub container_copied_from_itself : Program
container_copied_from_itself = main_alone
    (declares (declares_container (container_type (at 2 3) f.Vector) (id "v" 2 20) (copies (id "v" 2 24))) ∷ []) (at 3 1)

container_copied_from_itself_breaks : FirstBroken container_copied_from_itself (fault (at 2 24) rule.UNKNOWN_NAME)
unfolding program_faults
container_copied_from_itself_breaks = refl

-- undeclared container of a range for before its body
-- int main() {
--   for (int i : y) y;
-- }
abbrev pub undeclared_container_of_a_range_for_before_its_body : Program
undeclared_container_of_a_range_for_before_its_body = main_alone
    (states (range_for (at 2 3) (element.Value type.Int) (id "i" 2 12) (id "y" 2 16) (does (at 2 19) (evaluates (name (id "y" 2 19))))) ∷ [])
    (at 3 1)

undeclared_container_of_a_range_for_before_its_body_breaks : FirstBroken undeclared_container_of_a_range_for_before_its_body
    (fault (at 2 16) rule.UNKNOWN_NAME)
unfolding program_faults
undeclared_container_of_a_range_for_before_its_body_breaks = refl

-- undeclared container of a range for by reference
-- int main() {
--   for (auto& x : y) {}
-- }
abbrev pub undeclared_container_of_a_range_for_by_reference : Program
undeclared_container_of_a_range_for_by_reference = main_alone (
    states (range_for (at 2 3) (element.Reference (reference_head (at 2 8) false type.Auto)) (id "x" 2 14) (id "y" 2 18)
    (block (at 2 21) (items []) (at 2 22))) ∷
    []) (at 3 1)

undeclared_container_of_a_range_for_by_reference_breaks : FirstBroken undeclared_container_of_a_range_for_by_reference
    (fault (at 2 18) rule.UNKNOWN_NAME)
unfolding program_faults
undeclared_container_of_a_range_for_by_reference_breaks = refl

-- undeclared second variable of a read
-- int main() {
--   int x = 1;
--   std::cin >> x >> y;
-- }
abbrev pub undeclared_second_variable_of_a_read : Program
undeclared_second_variable_of_a_read = main_alone (
    declares (declares_scalar (at 2 3) t.Int (id "x" 2 7) (Some (number (at 2 11) 1))) ∷
    states (does (at 3 3) (reads (read (at 3 3) (id "x" 3 15 ∷ id "y" 3 20 ∷ [])))) ∷
    []) (at 4 1)

undeclared_second_variable_of_a_read_breaks : FirstBroken undeclared_second_variable_of_a_read (fault (at 3 20) rule.UNKNOWN_NAME)
unfolding program_faults
undeclared_second_variable_of_a_read_breaks = refl

-- undeclared variable of a read that is tested
-- int main() {
--   if (!(std::cin >> y)) {}
-- }
abbrev pub undeclared_variable_of_a_read_that_is_tested : Program
undeclared_variable_of_a_read_that_is_tested = main_alone
    (states (choice (at 2 3) (tests_no_read (at 2 7) (read (at 2 9) (id "y" 2 21 ∷ []))) (block (at 2 25) (items []) (at 2 26))) ∷ [])
    (at 3 1)

undeclared_variable_of_a_read_that_is_tested_breaks : FirstBroken undeclared_variable_of_a_read_that_is_tested
    (fault (at 2 21) rule.UNKNOWN_NAME)
unfolding program_faults
undeclared_variable_of_a_read_that_is_tested_breaks = refl

-- function named without a call
-- void f() {
--   f;
-- }
-- int main() {
-- }
abbrev pub function_named_without_a_call : Program
function_named_without_a_call =
    function (at 1 1) result.Void (id "f" 1 6) [] (at 1 10) (items (states (does (at 2 3) (evaluates (name (id "f" 2 3)))) ∷ [])) (at 3 1) ∷
    function (at 4 1) (result.Scalar t.Int) (id "main" 4 5) [] (at 4 12) (items []) (at 5 1) ∷
    []

function_named_without_a_call_breaks : FirstBroken function_named_without_a_call (fault (at 2 3) rule.UNKNOWN_NAME)
unfolding program_faults
function_named_without_a_call_breaks = refl

-- main called where none is declared yet
-- void f() {
--   main();
-- }
-- int main() {
-- }
abbrev pub main_called_where_none_is_declared_yet : Program
main_called_where_none_is_declared_yet =
    function (at 1 1) result.Void (id "f" 1 6) [] (at 1 10) (items (states (does (at 2 3) (evaluates (call (id "main" 2 3) none))) ∷ []))
    (at 3 1) ∷
    function (at 4 1) (result.Scalar t.Int) (id "main" 4 5) [] (at 4 12) (items []) (at 5 1) ∷
    []

main_called_where_none_is_declared_yet_breaks : FirstBroken main_called_where_none_is_declared_yet (fault (at 2 3) rule.UNKNOWN_NAME)
unfolding program_faults
main_called_where_none_is_declared_yet_breaks = refl

-- outer variable in the initialiser of an inner one
-- int main() {
--   int x = 1;
--   {
--     int x = x + 1;
--   }
-- }
abbrev pub outer_variable_in_the_initialiser_of_an_inner_one : Program
outer_variable_in_the_initialiser_of_an_inner_one = main_alone (
    declares (declares_scalar (at 2 3) t.Int (id "x" 2 7) (Some (number (at 2 11) 1))) ∷
    states (block (at 3 3) (items (
    declares (declares_scalar (at 4 5) t.Int (id "x" 4 9)
    (Some (binary (name (id "x" 4 13)) (operator.Arithmetic o.Add) (at 4 15) (number (at 4 17) 1)))) ∷
    [])) (at 5 3)) ∷
    []) (at 6 1)

outer_variable_in_the_initialiser_of_an_inner_one_breaks_none : program_faults outer_variable_in_the_initialiser_of_an_inner_one ≡ []
unfolding program_faults
outer_variable_in_the_initialiser_of_an_inner_one_breaks_none = refl

-- variable named main
-- int main() {
--   int main = 1;
--   main += 1;
-- }
abbrev pub variable_named_main : Program
variable_named_main = main_alone (
    declares (declares_scalar (at 2 3) t.Int (id "main" 2 7) (Some (number (at 2 14) 1))) ∷
    states (does (at 3 3) (assigns (name (id "main" 3 3)) (assignment.Update o.Add) (at 3 8) (number (at 3 11) 1))) ∷
    []) (at 4 1)

variable_named_main_breaks_none : program_faults variable_named_main ≡ []
unfolding program_faults
variable_named_main_breaks_none = refl

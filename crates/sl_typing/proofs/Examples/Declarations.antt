-- Names that are declared twice in one scope, and those that an inner scope hides.
-- Each is made of a text and of what is due for it by tools/typing_goal.py.
use Rattle.sl_base.specs.declared.scalar.Scalar.TheVariants as t
use Rattle.sl_base.specs.declared.form.Form.TheVariants as f
use Rattle.sl_syntax.specs.declared.operator.BinaryOperator.TheVariants as operator
use Rattle.sl_syntax.specs.declared.operator.Comparison.TheVariants as c
use Rattle.sl_syntax.specs.declared.operator.PrefixOperator.TheVariants as before
use Rattle.sl_syntax.specs.declared.tree.element.Element.TheVariants as element
use Rattle.sl_syntax.specs.declared.tree.element.ElementType.TheVariants as type
use Rattle.sl_syntax.specs.declared.tree.function.Param.TheVariants as parameter
use Rattle.sl_syntax.specs.declared.tree.function.ResultType.TheVariants as result
use Rattle.sl_typing.specs.declared.rules.TheConstants as rule
use Rattle.std.specs.Prelude.{◌≡◌, refl, true, false, [], ◌∷◌, Some}
use Rattle.sl_syntax.specs.Tree.{number, name, prefix, binary, index, braces, declares_scalar, declares_reference, declares_container}
use Rattle.sl_syntax.specs.Tree.{evaluates, tests, first_scalar, block, for, range_for, gives_back, declares, states, Program}
use Rattle.sl_typing.specs.ProgramFaults.{program_faults}
use Rattle.sl_typing.specs.Typing.{FirstBroken}
use Rattle.sl_typing.proofs.Examples.Words.{at, id, all, items, container_type, iterator_type, reference_head, function, main_alone, fault}

-- number declared twice
-- int main() {
--   int x = 1;
--   int x = 2;
-- }
abbrev pub number_declared_twice : Program
number_declared_twice = main_alone (
    declares (declares_scalar (at 2 3) t.Int (id "x" 2 7) (Some (number (at 2 11) 1))) ∷
    declares (declares_scalar (at 3 3) t.Int (id "x" 3 7) (Some (number (at 3 11) 2))) ∷
    []) (at 4 1)

number_declared_twice_breaks : FirstBroken number_declared_twice (fault (at 3 7) rule.DECLARED_TWICE)
unfolding program_faults
number_declared_twice_breaks = refl

-- reference named as its container
-- int main() {
--   std::vector<int> v = {1};
--   int& v = v[0];
-- }
abbrev pub reference_named_as_its_container : Program
reference_named_as_its_container = main_alone (
    declares (declares_container (container_type (at 2 3) f.Vector) (id "v" 2 20) (braces true (all (number (at 2 25) 1 ∷ [])))) ∷
    declares
    (declares_reference (reference_head (at 3 3) false type.Int) (id "v" 3 8) (index (name (id "v" 3 12)) (at 3 13) (number (at 3 14) 0))) ∷
    []) (at 4 1)

reference_named_as_its_container_breaks : FirstBroken reference_named_as_its_container (fault (at 3 8) rule.DECLARED_TWICE)
unfolding program_faults
reference_named_as_its_container_breaks = refl

-- reference declared twice
-- int main() {
--   std::vector<int> v = {1};
--   int& r = v[0];
--   const auto& r = v[0];
-- }
abbrev pub reference_declared_twice : Program
reference_declared_twice = main_alone (
    declares (declares_container (container_type (at 2 3) f.Vector) (id "v" 2 20) (braces true (all (number (at 2 25) 1 ∷ [])))) ∷
    declares
    (declares_reference (reference_head (at 3 3) false type.Int) (id "r" 3 8) (index (name (id "v" 3 12)) (at 3 13) (number (at 3 14) 0))) ∷
    declares (declares_reference (reference_head (at 4 3) true type.Auto) (id "r" 4 15)
    (index (name (id "v" 4 19)) (at 4 20) (number (at 4 21) 0))) ∷
    []) (at 5 1)

reference_declared_twice_breaks : FirstBroken reference_declared_twice (fault (at 4 15) rule.DECLARED_TWICE)
unfolding program_faults
reference_declared_twice_breaks = refl

-- name twice in a block
-- int main() {
--   {
--     int x = 1;
--     bool x = 1;
--   }
-- }
abbrev pub name_twice_in_a_block : Program
name_twice_in_a_block = main_alone (
    states (block (at 2 3) (items (
    declares (declares_scalar (at 3 5) t.Int (id "x" 3 9) (Some (number (at 3 13) 1))) ∷
    declares (declares_scalar (at 4 5) t.Bool (id "x" 4 10) (Some (number (at 4 14) 1))) ∷
    [])) (at 5 3)) ∷
    []) (at 6 1)

name_twice_in_a_block_breaks : FirstBroken name_twice_in_a_block (fault (at 4 10) rule.DECLARED_TWICE)
unfolding program_faults
name_twice_in_a_block_breaks = refl

-- twice before its wrong value
-- int main() {
--   std::vector<int> v = {1};
--   int x = 1;
--   int x = v;
-- }
abbrev pub twice_before_its_wrong_value : Program
twice_before_its_wrong_value = main_alone (
    declares (declares_container (container_type (at 2 3) f.Vector) (id "v" 2 20) (braces true (all (number (at 2 25) 1 ∷ [])))) ∷
    declares (declares_scalar (at 3 3) t.Int (id "x" 3 7) (Some (number (at 3 11) 1))) ∷
    declares (declares_scalar (at 4 3) t.Int (id "x" 4 7) (Some (name (id "v" 4 11)))) ∷
    []) (at 5 1)

twice_before_its_wrong_value_breaks : FirstBroken twice_before_its_wrong_value (fault (at 4 7) rule.DECLARED_TWICE)
unfolding program_faults
twice_before_its_wrong_value_breaks = refl

-- undeclared value before a name twice
-- int main() {
--   int x = 1;
--   int x = y;
-- }
abbrev pub undeclared_value_before_a_name_twice : Program
undeclared_value_before_a_name_twice = main_alone (
    declares (declares_scalar (at 2 3) t.Int (id "x" 2 7) (Some (number (at 2 11) 1))) ∷
    declares (declares_scalar (at 3 3) t.Int (id "x" 3 7) (Some (name (id "y" 3 11)))) ∷
    []) (at 4 1)

undeclared_value_before_a_name_twice_breaks : FirstBroken undeclared_value_before_a_name_twice (fault (at 3 11) rule.UNKNOWN_NAME)
unfolding program_faults
undeclared_value_before_a_name_twice_breaks = refl

-- parameter twice
-- void f(int a, int a) {
-- }
-- int main() {
-- }
abbrev pub parameter_twice : Program
parameter_twice =
    function (at 1 1) result.Void (id "f" 1 6)
    (parameter.Value (at 1 8) t.Int (id "a" 1 12) ∷ parameter.Value (at 1 15) t.Int (id "a" 1 19) ∷ []) (at 1 22) (items []) (at 2 1) ∷
    function (at 3 1) (result.Scalar t.Int) (id "main" 3 5) [] (at 3 12) (items []) (at 4 1) ∷
    []

parameter_twice_breaks : FirstBroken parameter_twice (fault (at 1 19) rule.DECLARED_TWICE)
unfolding program_faults
parameter_twice_breaks = refl

-- variable named as a parameter
-- void f(int a) {
--   int a = 1;
-- }
-- int main() {
-- }
abbrev pub variable_named_as_a_parameter : Program
variable_named_as_a_parameter =
    function (at 1 1) result.Void (id "f" 1 6) (parameter.Value (at 1 8) t.Int (id "a" 1 12) ∷ []) (at 1 15)
    (items (declares (declares_scalar (at 2 3) t.Int (id "a" 2 7) (Some (number (at 2 11) 1))) ∷ [])) (at 3 1) ∷
    function (at 4 1) (result.Scalar t.Int) (id "main" 4 5) [] (at 4 12) (items []) (at 5 1) ∷
    []

variable_named_as_a_parameter_breaks : FirstBroken variable_named_as_a_parameter (fault (at 2 7) rule.DECLARED_TWICE)
unfolding program_faults
variable_named_as_a_parameter_breaks = refl

-- function twice
-- void f() {
-- }
-- int f(int a) {
--   return a;
-- }
-- int main() {
-- }
abbrev pub function_twice : Program
function_twice =
    function (at 1 1) result.Void (id "f" 1 6) [] (at 1 10) (items []) (at 2 1) ∷
    function (at 3 1) (result.Scalar t.Int) (id "f" 3 5) (parameter.Value (at 3 7) t.Int (id "a" 3 11) ∷ []) (at 3 14)
    (items (states (gives_back (at 4 3) (Some (name (id "a" 4 10)))) ∷ [])) (at 5 1) ∷
    function (at 6 1) (result.Scalar t.Int) (id "main" 6 5) [] (at 6 12) (items []) (at 7 1) ∷
    []

function_twice_breaks : FirstBroken function_twice (fault (at 3 5) rule.DECLARED_TWICE)
unfolding program_faults
function_twice_breaks = refl

-- parameter twice before its wrong iterator type
-- void f(int a, std::list<int>::foo a) {
-- }
-- int main() {
-- }
abbrev pub parameter_twice_before_its_wrong_iterator_type : Program
parameter_twice_before_its_wrong_iterator_type =
    function (at 1 1) result.Void (id "f" 1 6) (
    parameter.Value (at 1 8) t.Int (id "a" 1 12) ∷
    parameter.Iterator (iterator_type (container_type (at 1 15) f.List) (id "foo" 1 31)) (id "a" 1 35) ∷
    []) (at 1 38) (items []) (at 2 1) ∷
    function (at 3 1) (result.Scalar t.Int) (id "main" 3 5) [] (at 3 12) (items []) (at 4 1) ∷
    []

parameter_twice_before_its_wrong_iterator_type_breaks : FirstBroken parameter_twice_before_its_wrong_iterator_type
    (fault (at 1 35) rule.DECLARED_TWICE)
unfolding program_faults
parameter_twice_before_its_wrong_iterator_type_breaks = refl

-- name again in a block
-- int main() {
--   int x = 1;
--   {
--     int x = 2;
--   }
-- }
abbrev pub name_again_in_a_block : Program
name_again_in_a_block = main_alone (
    declares (declares_scalar (at 2 3) t.Int (id "x" 2 7) (Some (number (at 2 11) 1))) ∷
    states (block (at 3 3) (items (declares (declares_scalar (at 4 5) t.Int (id "x" 4 9) (Some (number (at 4 13) 2))) ∷ [])) (at 5 3)) ∷
    []) (at 6 1)

name_again_in_a_block_breaks_none : program_faults name_again_in_a_block ≡ []
unfolding program_faults
name_again_in_a_block_breaks_none = refl

-- name of a for again in its body
-- int main() {
--   for (int x = 2; x < 3; ++x) {
--     int x = 7;
--   }
-- }
abbrev pub name_of_a_for_again_in_its_body : Program
name_of_a_for_again_in_its_body = main_alone (
    states (for (at 2 3) (Some (first_scalar (at 2 8) t.Int (id "x" 2 12) (number (at 2 16) 2)))
    (Some (tests (binary (name (id "x" 2 19)) (operator.Comparison c.Less) (at 2 21) (number (at 2 23) 3))))
    (Some (evaluates (prefix before.Increment (at 2 26) (name (id "x" 2 28)))))
    (block (at 2 31) (items (declares (declares_scalar (at 3 5) t.Int (id "x" 3 9) (Some (number (at 3 13) 7))) ∷ [])) (at 4 3))) ∷
    []) (at 5 1)

name_of_a_for_again_in_its_body_breaks_none : program_faults name_of_a_for_again_in_its_body ≡ []
unfolding program_faults
name_of_a_for_again_in_its_body_breaks_none = refl

-- name of its container for an element
-- int main() {
--   std::vector<int> v = {1};
--   for (int v : v) {}
-- }
abbrev pub name_of_its_container_for_an_element : Program
name_of_its_container_for_an_element = main_alone (
    declares (declares_container (container_type (at 2 3) f.Vector) (id "v" 2 20) (braces true (all (number (at 2 25) 1 ∷ [])))) ∷
    states (range_for (at 3 3) (element.Value type.Int) (id "v" 3 12) (id "v" 3 16) (block (at 3 19) (items []) (at 3 20))) ∷
    []) (at 4 1)

name_of_its_container_for_an_element_breaks_none : program_faults name_of_its_container_for_an_element ≡ []
unfolding program_faults
name_of_its_container_for_an_element_breaks_none = refl

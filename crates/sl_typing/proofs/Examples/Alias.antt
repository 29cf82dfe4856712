-- One variable that two references of a call are bound to.
-- Each is made of a text and of what is due for it by tools/typing_goal.py.
use Rattle.sl_base.specs.declared.scalar.Scalar.TheVariants as t
use Rattle.sl_base.specs.declared.form.Form.TheVariants as f
use Rattle.sl_syntax.specs.declared.operator.Arithmetic.TheVariants as o
use Rattle.sl_syntax.specs.declared.operator.Assignment.TheVariants as assignment
use Rattle.sl_syntax.specs.declared.operator.BinaryOperator.TheVariants as operator
use Rattle.sl_syntax.specs.declared.operator.PostfixOperator.TheVariants as behind
use Rattle.sl_syntax.specs.declared.tree.function.Param.TheVariants as parameter
use Rattle.sl_syntax.specs.declared.tree.function.ResultType.TheVariants as result
use Rattle.sl_typing.specs.declared.rules.TheConstants as rule
use Rattle.std.specs.Prelude.{refl, true, [], ◌∷◌, Some}
use Rattle.sl_syntax.specs.Tree.{number, name, call, parentheses, binary, postfix, index, member_call, none, absent, braces}
use Rattle.sl_syntax.specs.Tree.{declares_scalar, declares_auto, declares_container, evaluates, assigns, tests, choice_else, gives_back}
use Rattle.sl_syntax.specs.Tree.{does, declares, states, Program}
use Rattle.sl_typing.specs.ProgramFaults.{program_faults}
use Rattle.sl_typing.specs.Typing.{FirstBroken}
use Rattle.sl_typing.proofs.Examples.Words.{at, id, all, items, container_type, function, fault}

-- two references to a number
-- void f(int& a, int& b) {
-- }
-- int main() {
--   int x = 1;
--   f(x, x);
-- }
abbrev pub two_references_to_a_number : Program
two_references_to_a_number =
    function (at 1 1) result.Void (id "f" 1 6)
    (parameter.Reference (at 1 8) t.Int (id "a" 1 13) ∷ parameter.Reference (at 1 16) t.Int (id "b" 1 21) ∷ []) (at 1 24) (items [])
    (at 2 1) ∷
    function (at 3 1) (result.Scalar t.Int) (id "main" 3 5) [] (at 3 12) (items (
    declares (declares_scalar (at 4 3) t.Int (id "x" 4 7) (Some (number (at 4 11) 1))) ∷
    states (does (at 5 3) (evaluates (call (id "f" 5 3) (all (name (id "x" 5 5) ∷ name (id "x" 5 8) ∷ []))))) ∷
    [])) (at 6 1) ∷
    []

two_references_to_a_number_breaks : FirstBroken two_references_to_a_number (fault (at 5 3) rule.ALIAS)
unfolding program_faults
two_references_to_a_number_breaks = refl

-- two references to a container
-- void f(std::list<int>& a, std::list<int>& b) {
-- }
-- int main() {
--   std::list<int> x;
--   f(x, x);
-- }
abbrev pub two_references_to_a_container : Program
two_references_to_a_container =
    function (at 1 1) result.Void (id "f" 1 6) (
    parameter.Container (container_type (at 1 8) f.List) (id "a" 1 24) ∷
    parameter.Container (container_type (at 1 27) f.List) (id "b" 1 43) ∷
    []) (at 1 46) (items []) (at 2 1) ∷
    function (at 3 1) (result.Scalar t.Int) (id "main" 3 5) [] (at 3 12) (items (
    declares (declares_container (container_type (at 4 3) f.List) (id "x" 4 18) absent) ∷
    states (does (at 5 3) (evaluates (call (id "f" 5 3) (all (name (id "x" 5 5) ∷ name (id "x" 5 8) ∷ []))))) ∷
    [])) (at 6 1) ∷
    []

two_references_to_a_container_breaks : FirstBroken two_references_to_a_container (fault (at 5 3) rule.ALIAS)
unfolding program_faults
two_references_to_a_container_breaks = refl

-- a reference and a const one
-- void f(std::list<int>& a, int n, const std::list<int>& b) {
-- }
-- int main() {
--   std::list<int> x;
--   f(x, 1, x);
-- }
abbrev pub a_reference_and_a_const_one : Program
a_reference_and_a_const_one =
    function (at 1 1) result.Void (id "f" 1 6) (
    parameter.Container (container_type (at 1 8) f.List) (id "a" 1 24) ∷
    parameter.Value (at 1 27) t.Int (id "n" 1 31) ∷
    parameter.ConstContainer (at 1 34) (container_type (at 1 40) f.List) (id "b" 1 56) ∷
    []) (at 1 59) (items []) (at 2 1) ∷
    function (at 3 1) (result.Scalar t.Int) (id "main" 3 5) [] (at 3 12) (items (
    declares (declares_container (container_type (at 4 3) f.List) (id "x" 4 18) absent) ∷
    states (does (at 5 3) (evaluates (call (id "f" 5 3) (all (name (id "x" 5 5) ∷ number (at 5 8) 1 ∷ name (id "x" 5 11) ∷ []))))) ∷
    [])) (at 6 1) ∷
    []

a_reference_and_a_const_one_breaks : FirstBroken a_reference_and_a_const_one (fault (at 5 3) rule.ALIAS)
unfolding program_faults
a_reference_and_a_const_one_breaks = refl

-- two const references
-- void f(const std::list<int>& a, const std::list<int>& b) {
-- }
-- int main() {
--   std::list<int> x;
--   f(x, x);
-- }
abbrev pub two_const_references : Program
two_const_references =
    function (at 1 1) result.Void (id "f" 1 6) (
    parameter.ConstContainer (at 1 8) (container_type (at 1 14) f.List) (id "a" 1 30) ∷
    parameter.ConstContainer (at 1 33) (container_type (at 1 39) f.List) (id "b" 1 55) ∷
    []) (at 1 58) (items []) (at 2 1) ∷
    function (at 3 1) (result.Scalar t.Int) (id "main" 3 5) [] (at 3 12) (items (
    declares (declares_container (container_type (at 4 3) f.List) (id "x" 4 18) absent) ∷
    states (does (at 5 3) (evaluates (call (id "f" 5 3) (all (name (id "x" 5 5) ∷ name (id "x" 5 8) ∷ []))))) ∷
    [])) (at 6 1) ∷
    []

two_const_references_breaks : FirstBroken two_const_references (fault (at 5 3) rule.ALIAS)
unfolding program_faults
two_const_references_breaks = refl

-- alias in an argument
-- void both(int& a, int& b) {
-- }
-- int number(int a) {
--   return a;
-- }
-- int main() {
--   int x = 1;
--   number(both(x, x), (x++ + x));
-- }
abbrev pub alias_in_an_argument : Program
alias_in_an_argument =
    function (at 1 1) result.Void (id "both" 1 6)
    (parameter.Reference (at 1 11) t.Int (id "a" 1 16) ∷ parameter.Reference (at 1 19) t.Int (id "b" 1 24) ∷ []) (at 1 27) (items [])
    (at 2 1) ∷
    function (at 3 1) (result.Scalar t.Int) (id "number" 3 5) (parameter.Value (at 3 12) t.Int (id "a" 3 16) ∷ []) (at 3 19)
    (items (states (gives_back (at 4 3) (Some (name (id "a" 4 10)))) ∷ [])) (at 5 1) ∷
    function (at 6 1) (result.Scalar t.Int) (id "main" 6 5) [] (at 6 12) (items (
    declares (declares_scalar (at 7 3) t.Int (id "x" 7 7) (Some (number (at 7 11) 1))) ∷
    states (does (at 8 3) (evaluates (call (id "number" 8 3) (all (
    call (id "both" 8 10) (all (name (id "x" 8 15) ∷ name (id "x" 8 18) ∷ [])) ∷
    parentheses (at 8 22) (binary (postfix (name (id "x" 8 23)) behind.Increment (at 8 24)) (operator.Arithmetic o.Add)
    (at 8 27) (name (id "x" 8 29))) ∷
    []))))) ∷
    [])) (at 9 1) ∷
    []

alias_in_an_argument_breaks : FirstBroken alias_in_an_argument (fault (at 8 10) rule.ALIAS)
unfolding program_faults
alias_in_an_argument_breaks = refl

-- alias in braces
-- void both(int& a, int& b) {
-- }
-- int main() {
--   int x = 1;
--   std::vector<int> g = {both(x, x), main()};
-- }
abbrev pub alias_in_braces : Program
alias_in_braces =
    function (at 1 1) result.Void (id "both" 1 6)
    (parameter.Reference (at 1 11) t.Int (id "a" 1 16) ∷ parameter.Reference (at 1 19) t.Int (id "b" 1 24) ∷ []) (at 1 27) (items [])
    (at 2 1) ∷
    function (at 3 1) (result.Scalar t.Int) (id "main" 3 5) [] (at 3 12) (items (
    declares (declares_scalar (at 4 3) t.Int (id "x" 4 7) (Some (number (at 4 11) 1))) ∷
    declares (declares_container (container_type (at 5 3) f.Vector) (id "g" 5 20) (braces true
    (all (call (id "both" 5 25) (all (name (id "x" 5 30) ∷ name (id "x" 5 33) ∷ [])) ∷ call (id "main" 5 37) none ∷ [])))) ∷
    [])) (at 6 1) ∷
    []

alias_in_braces_breaks : FirstBroken alias_in_braces (fault (at 5 25) rule.ALIAS)
unfolding program_faults
alias_in_braces_breaks = refl

-- alias in a condition
-- void both(int& a, int& b) {
-- }
-- int main() {
--   int x = 1;
--   std::vector<int> v = {1, 2};
--   if (both(x, x)) v.foo(); else x = 1;
-- }
abbrev pub alias_in_a_condition : Program
alias_in_a_condition =
    function (at 1 1) result.Void (id "both" 1 6)
    (parameter.Reference (at 1 11) t.Int (id "a" 1 16) ∷ parameter.Reference (at 1 19) t.Int (id "b" 1 24) ∷ []) (at 1 27) (items [])
    (at 2 1) ∷
    function (at 3 1) (result.Scalar t.Int) (id "main" 3 5) [] (at 3 12) (items (
    declares (declares_scalar (at 4 3) t.Int (id "x" 4 7) (Some (number (at 4 11) 1))) ∷
    declares (declares_container (container_type (at 5 3) f.Vector) (id "v" 5 20)
    (braces true (all (number (at 5 25) 1 ∷ number (at 5 28) 2 ∷ [])))) ∷
    states (choice_else (at 6 3) (tests (call (id "both" 6 7) (all (name (id "x" 6 12) ∷ name (id "x" 6 15) ∷ []))))
    (does (at 6 19) (evaluates (member_call (name (id "v" 6 19)) (id "foo" 6 21) none)))
    (does (at 6 33) (assigns (name (id "x" 6 33)) assignment.Set (at 6 35) (number (at 6 37) 1)))) ∷
    [])) (at 7 1) ∷
    []

alias_in_a_condition_breaks : FirstBroken alias_in_a_condition (fault (at 6 7) rule.ALIAS)
unfolding program_faults
alias_in_a_condition_breaks = refl

-- alias in a left side
-- void both(int& a, int& b) {
-- }
-- int main() {
--   int x = 1;
--   std::vector<int> v = {1, 2};
--   std::list<int> l = {1, 2};
--   auto li = l.begin();
--   v[both(x, x)] = (li + 1);
-- }
abbrev pub alias_in_a_left_side : Program
alias_in_a_left_side =
    function (at 1 1) result.Void (id "both" 1 6)
    (parameter.Reference (at 1 11) t.Int (id "a" 1 16) ∷ parameter.Reference (at 1 19) t.Int (id "b" 1 24) ∷ []) (at 1 27) (items [])
    (at 2 1) ∷
    function (at 3 1) (result.Scalar t.Int) (id "main" 3 5) [] (at 3 12) (items (
    declares (declares_scalar (at 4 3) t.Int (id "x" 4 7) (Some (number (at 4 11) 1))) ∷
    declares (declares_container (container_type (at 5 3) f.Vector) (id "v" 5 20)
    (braces true (all (number (at 5 25) 1 ∷ number (at 5 28) 2 ∷ [])))) ∷
    declares (declares_container (container_type (at 6 3) f.List) (id "l" 6 18)
    (braces true (all (number (at 6 23) 1 ∷ number (at 6 26) 2 ∷ [])))) ∷
    declares (declares_auto (at 7 3) (id "li" 7 8) (member_call (name (id "l" 7 13)) (id "begin" 7 15) none)) ∷
    states (does (at 8 3) (assigns
    (index (name (id "v" 8 3)) (at 8 4) (call (id "both" 8 5) (all (name (id "x" 8 10) ∷ name (id "x" 8 13) ∷ []))))
    assignment.Set (at 8 17)
    (parentheses (at 8 19) (binary (name (id "li" 8 20)) (operator.Arithmetic o.Add) (at 8 23) (number (at 8 25) 1))))) ∷
    [])) (at 9 1) ∷
    []

alias_in_a_left_side_breaks : FirstBroken alias_in_a_left_side (fault (at 8 5) rule.ALIAS)
unfolding program_faults
alias_in_a_left_side_breaks = refl

-- alias before a name twice
-- void both(int& a, int& b) {
-- }
-- int main() {
--   int x = 1;
--   int x = both(x, x);
-- }
abbrev pub alias_before_a_name_twice : Program
alias_before_a_name_twice =
    function (at 1 1) result.Void (id "both" 1 6)
    (parameter.Reference (at 1 11) t.Int (id "a" 1 16) ∷ parameter.Reference (at 1 19) t.Int (id "b" 1 24) ∷ []) (at 1 27) (items [])
    (at 2 1) ∷
    function (at 3 1) (result.Scalar t.Int) (id "main" 3 5) [] (at 3 12) (items (
    declares (declares_scalar (at 4 3) t.Int (id "x" 4 7) (Some (number (at 4 11) 1))) ∷
    declares
    (declares_scalar (at 5 3) t.Int (id "x" 5 7) (Some (call (id "both" 5 11) (all (name (id "x" 5 16) ∷ name (id "x" 5 19) ∷ []))))) ∷
    [])) (at 6 1) ∷
    []

alias_before_a_name_twice_breaks : FirstBroken alias_before_a_name_twice (fault (at 5 11) rule.ALIAS)
unfolding program_faults
alias_before_a_name_twice_breaks = refl

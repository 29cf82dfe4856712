-- What stands outside a loop, and what a loop may hold.
-- Each is made of a text and of what is due for it by tools/typing_goal.py.
use Rattle.sl_base.specs.declared.scalar.Scalar.TheVariants as t
use Rattle.sl_base.specs.declared.form.Form.TheVariants as f
use Rattle.sl_syntax.specs.declared.operator.Assignment.TheVariants as assignment
use Rattle.sl_syntax.specs.declared.operator.PrefixOperator.TheVariants as before
use Rattle.sl_syntax.specs.declared.tree.element.Element.TheVariants as element
use Rattle.sl_syntax.specs.declared.tree.element.ElementType.TheVariants as type
use Rattle.sl_syntax.specs.declared.tree.function.Param.TheVariants as parameter
use Rattle.sl_syntax.specs.declared.tree.function.ResultType.TheVariants as result
use Rattle.sl_typing.specs.declared.rules.TheConstants as rule
use Rattle.std.specs.Prelude.{◌≡◌, refl, true, false, [], ◌∷◌, Some, None}
use Rattle.sl_syntax.specs.Tree.{number, name, call, prefix, member_call, none, absent, braces, declares_scalar, declares_auto}
use Rattle.sl_syntax.specs.Tree.{declares_container, reads, evaluates, assigns, tests, first_auto, block, choice, choice_else, while, for}
use Rattle.sl_syntax.specs.Tree.{range_for, break, continue, does, declares, states, Program}
use Rattle.sl_typing.specs.ProgramFaults.{program_faults}
use Rattle.sl_typing.specs.Typing.{FirstBroken}
use Rattle.sl_typing.proofs.Examples.Words.{at, id, all, items, read, container_type, reference_head, function, main_alone, fault}

-- break alone
-- int main() {
--   break;
-- }
abbrev pub break_alone : Program
break_alone = main_alone (states (break (at 2 3)) ∷ []) (at 3 1)

break_alone_breaks : FirstBroken break_alone (fault (at 2 3) rule.OUTSIDE_A_LOOP)
unfolding program_faults
break_alone_breaks = refl

-- continue in a choice
-- int main() {
--   if (1) continue;
-- }
abbrev pub continue_in_a_choice : Program
continue_in_a_choice = main_alone (states (choice (at 2 3) (tests (number (at 2 7) 1)) (continue (at 2 10))) ∷ []) (at 3 1)

continue_in_a_choice_breaks : FirstBroken continue_in_a_choice (fault (at 2 10) rule.OUTSIDE_A_LOOP)
unfolding program_faults
continue_in_a_choice_breaks = refl

-- break behind a loop
-- int main() {
--   while (0) {}
--   break;
-- }
abbrev pub break_behind_a_loop : Program
break_behind_a_loop = main_alone
    (states (while (at 2 3) (tests (number (at 2 10) 0)) (block (at 2 13) (items []) (at 2 14))) ∷ states (break (at 3 3)) ∷ []) (at 4 1)

break_behind_a_loop_breaks : FirstBroken break_behind_a_loop (fault (at 3 3) rule.OUTSIDE_A_LOOP)
unfolding program_faults
break_behind_a_loop_breaks = refl

-- break in a function that a loop calls
-- void f() {
--   break;
-- }
-- int main() {
--   while (1) f();
-- }
abbrev pub break_in_a_function_that_a_loop_calls : Program
break_in_a_function_that_a_loop_calls =
    function (at 1 1) result.Void (id "f" 1 6) [] (at 1 10) (items (states (break (at 2 3)) ∷ [])) (at 3 1) ∷
    function (at 4 1) (result.Scalar t.Int) (id "main" 4 5) [] (at 4 12)
    (items (states (while (at 5 3) (tests (number (at 5 10) 1)) (does (at 5 13) (evaluates (call (id "f" 5 13) none)))) ∷ [])) (at 6 1) ∷
    []

break_in_a_function_that_a_loop_calls_breaks : FirstBroken break_in_a_function_that_a_loop_calls (fault (at 2 3) rule.OUTSIDE_A_LOOP)
unfolding program_faults
break_in_a_function_that_a_loop_calls_breaks = refl

-- break before an undeclared name
-- int main() {
--   break; y;
-- }
abbrev pub break_before_an_undeclared_name : Program
break_before_an_undeclared_name = main_alone (states (break (at 2 3)) ∷ states (does (at 2 10) (evaluates (name (id "y" 2 10)))) ∷ [])
    (at 3 1)

break_before_an_undeclared_name_breaks : FirstBroken break_before_an_undeclared_name (fault (at 2 3) rule.OUTSIDE_A_LOOP)
unfolding program_faults
break_before_an_undeclared_name_breaks = refl

-- values of a map
-- int main() {
--   int x = 1;
--   std::unordered_map<int, int> um;
--   for (int e : um) x = e;
-- }
abbrev pub values_of_a_map : Program
values_of_a_map = main_alone (
    declares (declares_scalar (at 2 3) t.Int (id "x" 2 7) (Some (number (at 2 11) 1))) ∷
    declares (declares_container (container_type (at 3 3) f.HashMap) (id "um" 3 32) absent) ∷
    states (range_for (at 4 3) (element.Value type.Int) (id "e" 4 12) (id "um" 4 16)
    (does (at 4 20) (assigns (name (id "x" 4 20)) assignment.Set (at 4 22) (name (id "e" 4 24))))) ∷
    []) (at 5 1)

values_of_a_map_breaks : FirstBroken values_of_a_map (fault (at 4 3) rule.WRONG_TYPE)
unfolding program_faults
values_of_a_map_breaks = refl

-- int references to a multimap
-- int main() {
--   std::multimap<int, int> mm;
--   for (int& e : mm) e;
-- }
abbrev pub int_references_to_a_multimap : Program
int_references_to_a_multimap = main_alone (
    declares (declares_container (container_type (at 2 3) f.MultiMap) (id "mm" 2 27) absent) ∷
    states (range_for (at 3 3) (element.Reference (reference_head (at 3 8) false type.Int)) (id "e" 3 13) (id "mm" 3 17)
    (does (at 3 21) (evaluates (name (id "e" 3 21))))) ∷
    []) (at 4 1)

int_references_to_a_multimap_breaks : FirstBroken int_references_to_a_multimap (fault (at 3 3) rule.WRONG_TYPE)
unfolding program_faults
int_references_to_a_multimap_breaks = refl

-- break in an else of a loop
-- int main() {
--   for (;;) if (1) {} else break;
-- }
abbrev pub break_in_an_else_of_a_loop : Program
break_in_an_else_of_a_loop = main_alone (
    states (for (at 2 3) None None None
    (choice_else (at 2 12) (tests (number (at 2 16) 1)) (block (at 2 19) (items []) (at 2 20)) (break (at 2 27)))) ∷
    []) (at 3 1)

break_in_an_else_of_a_loop_breaks_none : program_faults break_in_an_else_of_a_loop ≡ []
unfolding program_faults
break_in_an_else_of_a_loop_breaks_none = refl

-- break in a block of a loop
-- int main() {
--   while (0) { { if (1) break; } }
-- }
abbrev pub break_in_a_block_of_a_loop : Program
break_in_a_block_of_a_loop = main_alone (
    states (while (at 2 3) (tests (number (at 2 10) 0)) (block (at 2 13) (items (
    states (block (at 2 15) (items (states (choice (at 2 17) (tests (number (at 2 21) 1)) (break (at 2 24))) ∷ [])) (at 2 31)) ∷
    [])) (at 2 33))) ∷
    []) (at 3 1)

break_in_a_block_of_a_loop_breaks_none : program_faults break_in_a_block_of_a_loop ≡ []
unfolding program_faults
break_in_a_block_of_a_loop_breaks_none = refl

-- break in a range for by reference
-- int main() {
--   std::map<int, int> l;
--   for (auto& e : l) { break; }
-- }
abbrev pub break_in_a_range_for_by_reference : Program
break_in_a_range_for_by_reference = main_alone (
    declares (declares_container (container_type (at 2 3) f.Map) (id "l" 2 22) absent) ∷
    states (range_for (at 3 3) (element.Reference (reference_head (at 3 8) false type.Auto)) (id "e" 3 14) (id "l" 3 18)
    (block (at 3 21) (items (states (break (at 3 23)) ∷ [])) (at 3 30))) ∷
    []) (at 4 1)

break_in_a_range_for_by_reference_breaks_none : program_faults break_in_a_range_for_by_reference ≡ []
unfolding program_faults
break_in_a_range_for_by_reference_breaks_none = refl

-- step of a value of a const set
-- int f(const std::set<int>& cs) {
--   for (int e : cs) ++e;
-- }
-- int main() {
-- }
abbrev pub step_of_a_value_of_a_const_set : Program
step_of_a_value_of_a_const_set =
    function (at 1 1) (result.Scalar t.Int) (id "f" 1 5)
    (parameter.ConstContainer (at 1 7) (container_type (at 1 13) f.Set) (id "cs" 1 28) ∷ []) (at 1 32) (items (
    states (range_for (at 2 3) (element.Value type.Int) (id "e" 2 12) (id "cs" 2 16)
    (does (at 2 20) (evaluates (prefix before.Increment (at 2 20) (name (id "e" 2 22)))))) ∷
    [])) (at 3 1) ∷
    function (at 4 1) (result.Scalar t.Int) (id "main" 4 5) [] (at 4 12) (items []) (at 5 1) ∷
    []

step_of_a_value_of_a_const_set_breaks_none : program_faults step_of_a_value_of_a_const_set ≡ []
unfolding program_faults
step_of_a_value_of_a_const_set_breaks_none = refl

-- value of a deque read into
-- int main() {
--   std::deque<int> q = {1, 2};
--   for (auto e : q) std::cin >> e;
-- }
abbrev pub value_of_a_deque_read_into : Program
value_of_a_deque_read_into = main_alone (
    declares (declares_container (container_type (at 2 3) f.Deque) (id "q" 2 19)
    (braces true (all (number (at 2 24) 1 ∷ number (at 2 27) 2 ∷ [])))) ∷
    states (range_for (at 3 3) (element.Value type.Auto) (id "e" 3 13) (id "q" 3 17)
    (does (at 3 20) (reads (read (at 3 20) (id "e" 3 32 ∷ []))))) ∷
    []) (at 4 1)

value_of_a_deque_read_into_breaks_none : program_faults value_of_a_deque_read_into ≡ []
unfolding program_faults
value_of_a_deque_read_into_breaks_none = refl

-- nothing as the last part of a for
-- void nothing() {
-- }
-- int main() {
--   int x = 1;
--   for (; x; nothing()) nothing();
-- }
abbrev pub nothing_as_the_last_part_of_a_for : Program
nothing_as_the_last_part_of_a_for =
    function (at 1 1) result.Void (id "nothing" 1 6) [] (at 1 16) (items []) (at 2 1) ∷
    function (at 3 1) (result.Scalar t.Int) (id "main" 3 5) [] (at 3 12) (items (
    declares (declares_scalar (at 4 3) t.Int (id "x" 4 7) (Some (number (at 4 11) 1))) ∷
    states (for (at 5 3) None (Some (tests (name (id "x" 5 10)))) (Some (evaluates (call (id "nothing" 5 13) none)))
    (does (at 5 24) (evaluates (call (id "nothing" 5 24) none)))) ∷
    [])) (at 6 1) ∷
    []

nothing_as_the_last_part_of_a_for_breaks_none : program_faults nothing_as_the_last_part_of_a_for ≡ []
unfolding program_faults
nothing_as_the_last_part_of_a_for_breaks_none = refl

-- iterator as the first part of a for
-- int main() {
--   std::vector<int> v = {1, 2};
--   auto vi = v.begin();
--   for (auto y = vi; ; ) break;
-- }
abbrev pub iterator_as_the_first_part_of_a_for : Program
iterator_as_the_first_part_of_a_for = main_alone (
    declares (declares_container (container_type (at 2 3) f.Vector) (id "v" 2 20)
    (braces true (all (number (at 2 25) 1 ∷ number (at 2 28) 2 ∷ [])))) ∷
    declares (declares_auto (at 3 3) (id "vi" 3 8) (member_call (name (id "v" 3 13)) (id "begin" 3 15) none)) ∷
    states (for (at 4 3) (Some (first_auto (at 4 8) (id "y" 4 13) (name (id "vi" 4 17)))) None None (break (at 4 25))) ∷
    []) (at 5 1)

iterator_as_the_first_part_of_a_for_breaks_none : program_faults iterator_as_the_first_part_of_a_for ≡ []
unfolding program_faults
iterator_as_the_first_part_of_a_for_breaks_none = refl

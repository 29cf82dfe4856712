-- Forms that hold a key more than once, and the pairs that their `equal_range` gives.
-- Each is made of a text and of what is due for it by tools/typing_goal.py.
use Rattle.sl_base.specs.declared.scalar.Scalar.TheVariants as t
use Rattle.sl_base.specs.declared.form.Form.TheVariants as f
use Rattle.sl_syntax.specs.declared.operator.Arithmetic.TheVariants as o
use Rattle.sl_syntax.specs.declared.operator.Assignment.TheVariants as assignment
use Rattle.sl_syntax.specs.declared.operator.BinaryOperator.TheVariants as operator
use Rattle.sl_syntax.specs.declared.operator.PrefixOperator.TheVariants as before
use Rattle.sl_syntax.specs.declared.operator.Selector.TheVariants as selector
use Rattle.sl_syntax.specs.declared.tree.element.Element.TheVariants as element
use Rattle.sl_syntax.specs.declared.tree.element.ElementType.TheVariants as type
use Rattle.sl_syntax.specs.declared.tree.function.Param.TheVariants as parameter
use Rattle.sl_syntax.specs.declared.tree.function.ResultType.TheVariants as result
use Rattle.sl_typing.specs.declared.rules.TheConstants as rule
use Rattle.std.specs.Prelude.{◌≡◌, refl, true, false, [], ◌∷◌, Some}
use Rattle.sl_syntax.specs.Tree.{number, truth, name, call, library_call, prefix, binary, index, member_call, member, none, absent, braces}
use Rattle.sl_syntax.specs.Tree.{declares_scalar, declares_auto, declares_reference, declares_container, evaluates, assigns, range_for}
use Rattle.sl_syntax.specs.Tree.{does, declares, states, Program}
use Rattle.sl_typing.specs.ProgramFaults.{program_faults}
use Rattle.sl_typing.specs.Typing.{FirstBroken}
use Rattle.sl_typing.proofs.Examples.Words.{at, id, all, items, container_type, reference_head, function, main_alone, fault}

-- first of equal keys
-- int main() {
--   int x = 1;
--   std::multiset<int> ms = {1, 1};
--   ms.equal_range(x).first;
-- }
abbrev pub first_of_equal_keys : Program
first_of_equal_keys = main_alone (
    declares (declares_scalar (at 2 3) t.Int (id "x" 2 7) (Some (number (at 2 11) 1))) ∷
    declares (declares_container (container_type (at 3 3) f.MultiSet) (id "ms" 3 22)
    (braces true (all (number (at 3 28) 1 ∷ number (at 3 31) 1 ∷ [])))) ∷
    states (does (at 4 3) (evaluates (member (member_call (name (id "ms" 4 3)) (id "equal_range" 4 6) (all (name (id "x" 4 18) ∷ [])))
    selector.Dot (at 4 20) (id "first" 4 21)))) ∷
    []) (at 5 1)

first_of_equal_keys_breaks_none : program_faults first_of_equal_keys ≡ []
unfolding program_faults
first_of_equal_keys_breaks_none = refl

-- first of equal keys of a multimap
-- int main() {
--   bool b = true;
--   std::multimap<int, int> mm;
--   mm.equal_range(b).first;
-- }
abbrev pub first_of_equal_keys_of_a_multimap : Program
first_of_equal_keys_of_a_multimap = main_alone (
    declares (declares_scalar (at 2 3) t.Bool (id "b" 2 8) (Some (truth (at 2 12) true))) ∷
    declares (declares_container (container_type (at 3 3) f.MultiMap) (id "mm" 3 27) absent) ∷
    states (does (at 4 3) (evaluates (member (member_call (name (id "mm" 4 3)) (id "equal_range" 4 6) (all (name (id "b" 4 18) ∷ [])))
    selector.Dot (at 4 20) (id "first" 4 21)))) ∷
    []) (at 5 1)

first_of_equal_keys_of_a_multimap_breaks_none : program_faults first_of_equal_keys_of_a_multimap ≡ []
unfolding program_faults
first_of_equal_keys_of_a_multimap_breaks_none = refl

-- second of equal keys
-- int main() {
--   std::multiset<int> ms = {1, 1};
--   ms.equal_range(1).second;
-- }
abbrev pub second_of_equal_keys : Program
second_of_equal_keys = main_alone (
    declares (declares_container (container_type (at 2 3) f.MultiSet) (id "ms" 2 22)
    (braces true (all (number (at 2 28) 1 ∷ number (at 2 31) 1 ∷ [])))) ∷
    states (does (at 3 3) (evaluates (member (member_call (name (id "ms" 3 3)) (id "equal_range" 3 6) (all (number (at 3 18) 1 ∷ [])))
    selector.Dot (at 3 20) (id "second" 3 21)))) ∷
    []) (at 4 1)

second_of_equal_keys_breaks_none : program_faults second_of_equal_keys ≡ []
unfolding program_faults
second_of_equal_keys_breaks_none = refl

-- value behind an arrow
-- int main() {
--   std::multimap<int, int> mm;
--   auto mmi = mm.begin();
--   mmi->second;
-- }
abbrev pub value_behind_an_arrow : Program
value_behind_an_arrow = main_alone (
    declares (declares_container (container_type (at 2 3) f.MultiMap) (id "mm" 2 27) absent) ∷
    declares (declares_auto (at 3 3) (id "mmi" 3 8) (member_call (name (id "mm" 3 14)) (id "begin" 3 17) none)) ∷
    states (does (at 4 3) (evaluates (member (name (id "mmi" 4 3)) selector.Arrow (at 4 6) (id "second" 4 8)))) ∷
    []) (at 5 1)

value_behind_an_arrow_breaks_none : program_faults value_behind_an_arrow ≡ []
unfolding program_faults
value_behind_an_arrow_breaks_none = refl

-- element of an inserted key
-- int main() {
--   std::multiset<int> ms = {1, 1};
--   *ms.insert(3) && 5;
-- }
abbrev pub element_of_an_inserted_key : Program
element_of_an_inserted_key = main_alone (
    declares (declares_container (container_type (at 2 3) f.MultiSet) (id "ms" 2 22)
    (braces true (all (number (at 2 28) 1 ∷ number (at 2 31) 1 ∷ [])))) ∷
    states (does (at 3 3) (evaluates (binary
    (prefix before.Dereference (at 3 3) (member_call (name (id "ms" 3 4)) (id "insert" 3 7) (all (number (at 3 14) 3 ∷ []))))
    operator.And (at 3 17) (number (at 3 20) 5)))) ∷
    []) (at 4 1)

element_of_an_inserted_key_breaks_none : program_faults element_of_an_inserted_key ≡ []
unfolding program_faults
element_of_an_inserted_key_breaks_none = refl

-- insert of a range
-- int main() {
--   std::deque<int> q = {1, 2};
--   std::multiset<int> ms = {1, 1};
--   ms.insert(q.begin(), q.end());
-- }
abbrev pub insert_of_a_range : Program
insert_of_a_range = main_alone (
    declares (declares_container (container_type (at 2 3) f.Deque) (id "q" 2 19)
    (braces true (all (number (at 2 24) 1 ∷ number (at 2 27) 2 ∷ [])))) ∷
    declares (declares_container (container_type (at 3 3) f.MultiSet) (id "ms" 3 22)
    (braces true (all (number (at 3 28) 1 ∷ number (at 3 31) 1 ∷ [])))) ∷
    states (does (at 4 3) (evaluates (member_call (name (id "ms" 4 3)) (id "insert" 4 6)
    (all (member_call (name (id "q" 4 13)) (id "begin" 4 15) none ∷ member_call (name (id "q" 4 24)) (id "end" 4 26) none ∷ []))))) ∷
    []) (at 5 1)

insert_of_a_range_breaks_none : program_faults insert_of_a_range ≡ []
unfolding program_faults
insert_of_a_range_breaks_none = refl

-- erase of a const range
-- int f(const std::multimap<int, int>& cmm) {
--   std::multimap<int, int> mm;
--   mm.erase(cmm.begin(), cmm.end());
-- }
-- int main() {
-- }
abbrev pub erase_of_a_const_range : Program
erase_of_a_const_range =
    function (at 1 1) (result.Scalar t.Int) (id "f" 1 5)
    (parameter.ConstContainer (at 1 7) (container_type (at 1 13) f.MultiMap) (id "cmm" 1 38) ∷ []) (at 1 43) (items (
    declares (declares_container (container_type (at 2 3) f.MultiMap) (id "mm" 2 27) absent) ∷
    states (does (at 3 3) (evaluates (member_call (name (id "mm" 3 3)) (id "erase" 3 6) (all
    (member_call (name (id "cmm" 3 12)) (id "begin" 3 16) none ∷ member_call (name (id "cmm" 3 25)) (id "end" 3 29) none ∷ []))))) ∷
    [])) (at 4 1) ∷
    function (at 5 1) (result.Scalar t.Int) (id "main" 5 5) [] (at 5 12) (items []) (at 6 1) ∷
    []

erase_of_a_const_range_breaks_none : program_faults erase_of_a_const_range ≡ []
unfolding program_faults
erase_of_a_const_range_breaks_none = refl

-- key of a const multimap
-- int f(const std::multimap<int, int>& cmm) {
--   int x = 1;
--   for (const auto& e : cmm) x = e.first;
-- }
-- int main() {
-- }
abbrev pub key_of_a_const_multimap : Program
key_of_a_const_multimap =
    function (at 1 1) (result.Scalar t.Int) (id "f" 1 5)
    (parameter.ConstContainer (at 1 7) (container_type (at 1 13) f.MultiMap) (id "cmm" 1 38) ∷ []) (at 1 43) (items (
    declares (declares_scalar (at 2 3) t.Int (id "x" 2 7) (Some (number (at 2 11) 1))) ∷
    states (range_for (at 3 3) (element.Reference (reference_head (at 3 8) true type.Auto)) (id "e" 3 20) (id "cmm" 3 24) (does
    (at 3 29)
    (assigns (name (id "x" 3 29)) assignment.Set (at 3 31) (member (name (id "e" 3 33)) selector.Dot (at 3 34) (id "first" 3 35))))) ∷
    [])) (at 4 1) ∷
    function (at 5 1) (result.Scalar t.Int) (id "main" 5 5) [] (at 5 12) (items []) (at 6 1) ∷
    []

key_of_a_const_multimap_breaks_none : program_faults key_of_a_const_multimap ≡ []
unfolding program_faults
key_of_a_const_multimap_breaks_none = refl

-- equal keys as a number
-- int main() {
--   std::multiset<int> ms = {1, 1};
--   7 %= ms.equal_range(1);
-- }
abbrev pub equal_keys_as_a_number : Program
equal_keys_as_a_number = main_alone (
    declares (declares_container (container_type (at 2 3) f.MultiSet) (id "ms" 2 22)
    (braces true (all (number (at 2 28) 1 ∷ number (at 2 31) 1 ∷ [])))) ∷
    states (does (at 3 3) (assigns (number (at 3 3) 7) (assignment.Update o.Remainder) (at 3 5)
    (member_call (name (id "ms" 3 8)) (id "equal_range" 3 11) (all (number (at 3 23) 1 ∷ []))))) ∷
    []) (at 4 1)

equal_keys_as_a_number_breaks : FirstBroken equal_keys_as_a_number (fault (at 3 11) rule.WRONG_TYPE)
unfolding program_faults
equal_keys_as_a_number_breaks = refl

-- equal keys as a left side
-- int main() {
--   std::vector<int> v = {1, 2};
--   std::multiset<int> ms = {1, 1};
--   const int& cr = v[1];
--   ms.equal_range(1) -= cr;
-- }
abbrev pub equal_keys_as_a_left_side : Program
equal_keys_as_a_left_side = main_alone (
    declares (declares_container (container_type (at 2 3) f.Vector) (id "v" 2 20)
    (braces true (all (number (at 2 25) 1 ∷ number (at 2 28) 2 ∷ [])))) ∷
    declares (declares_container (container_type (at 3 3) f.MultiSet) (id "ms" 3 22)
    (braces true (all (number (at 3 28) 1 ∷ number (at 3 31) 1 ∷ [])))) ∷
    declares (declares_reference (reference_head (at 4 3) true type.Int) (id "cr" 4 14)
    (index (name (id "v" 4 19)) (at 4 20) (number (at 4 21) 1))) ∷
    states (does (at 5 3) (assigns (member_call (name (id "ms" 5 3)) (id "equal_range" 5 6) (all (number (at 5 18) 1 ∷ [])))
    (assignment.Update o.Subtract) (at 5 21) (name (id "cr" 5 24)))) ∷
    []) (at 6 1)

equal_keys_as_a_left_side_breaks : FirstBroken equal_keys_as_a_left_side (fault (at 5 6) rule.WRONG_TYPE)
unfolding program_faults
equal_keys_as_a_left_side_breaks = refl

-- main called before equal keys alone
-- int main() {
--   std::multiset<int> ms = {1, 1};
--   ms.equal_range(main());
-- }
abbrev pub main_called_before_equal_keys_alone : Program
main_called_before_equal_keys_alone = main_alone (
    declares (declares_container (container_type (at 2 3) f.MultiSet) (id "ms" 2 22)
    (braces true (all (number (at 2 28) 1 ∷ number (at 2 31) 1 ∷ [])))) ∷
    states (does (at 3 3) (evaluates (member_call (name (id "ms" 3 3)) (id "equal_range" 3 6) (all (call (id "main" 3 18) none ∷ []))))) ∷
    []) (at 4 1)

main_called_before_equal_keys_alone_breaks : FirstBroken main_called_before_equal_keys_alone (fault (at 3 18) rule.NO_MAIN)
unfolding program_faults
main_called_before_equal_keys_alone_breaks = refl

-- unique over a multiset
-- int main() {
--   std::multiset<int> ms = {1, 1};
--   std::unique(ms.begin(), ms.end());
-- }
abbrev pub unique_over_a_multiset : Program
unique_over_a_multiset = main_alone (
    declares (declares_container (container_type (at 2 3) f.MultiSet) (id "ms" 2 22)
    (braces true (all (number (at 2 28) 1 ∷ number (at 2 31) 1 ∷ [])))) ∷
    states (does (at 3 3) (evaluates (library_call (id "unique" 3 3)
    (all (member_call (name (id "ms" 3 15)) (id "begin" 3 18) none ∷ member_call (name (id "ms" 3 27)) (id "end" 3 30) none ∷ []))))) ∷
    []) (at 4 1)

unique_over_a_multiset_breaks : FirstBroken unique_over_a_multiset (fault (at 3 3) rule.WRITE_TO_CONST)
unfolding program_faults
unique_over_a_multiset_breaks = refl

-- value of a multimap beside a step
-- int f(const std::multimap<int, int>& cmm) {
--   int x = 1;
--   for (auto& e : cmm) x = e.second + ++x;
-- }
-- int main() {
-- }
abbrev pub value_of_a_multimap_beside_a_step : Program
value_of_a_multimap_beside_a_step =
    function (at 1 1) (result.Scalar t.Int) (id "f" 1 5)
    (parameter.ConstContainer (at 1 7) (container_type (at 1 13) f.MultiMap) (id "cmm" 1 38) ∷ []) (at 1 43) (items (
    declares (declares_scalar (at 2 3) t.Int (id "x" 2 7) (Some (number (at 2 11) 1))) ∷
    states (range_for (at 3 3) (element.Reference (reference_head (at 3 8) false type.Auto)) (id "e" 3 14) (id "cmm" 3 18) (does
    (at 3 23) (assigns (name (id "x" 3 23)) assignment.Set (at 3 25) (binary
    (member (name (id "e" 3 27)) selector.Dot (at 3 28) (id "second" 3 29)) (operator.Arithmetic o.Add) (at 3 36)
    (prefix before.Increment (at 3 38) (name (id "x" 3 40))))))) ∷
    [])) (at 4 1) ∷
    function (at 5 1) (result.Scalar t.Int) (id "main" 5 5) [] (at 5 12) (items []) (at 6 1) ∷
    []

value_of_a_multimap_beside_a_step_breaks : FirstBroken value_of_a_multimap_beside_a_step (fault (at 3 36) rule.ORDER_OF_EFFECTS)
unfolding program_faults
value_of_a_multimap_beside_a_step_breaks = refl

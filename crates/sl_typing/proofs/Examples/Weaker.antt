-- Iterators that can't do what is asked, and what each can do.
-- Each is made of a text and of what is due for it by tools/typing_goal.py.
use Rattle.sl_base.specs.declared.scalar.Scalar.TheVariants as t
use Rattle.sl_base.specs.declared.form.Form.TheVariants as f
use Rattle.sl_syntax.specs.declared.operator.Arithmetic.TheVariants as o
use Rattle.sl_syntax.specs.declared.operator.Assignment.TheVariants as assignment
use Rattle.sl_syntax.specs.declared.operator.BinaryOperator.TheVariants as operator
use Rattle.sl_syntax.specs.declared.operator.Comparison.TheVariants as c
use Rattle.sl_syntax.specs.declared.operator.PostfixOperator.TheVariants as behind
use Rattle.sl_syntax.specs.declared.operator.PrefixOperator.TheVariants as before
use Rattle.sl_syntax.specs.declared.operator.Selector.TheVariants as selector
use Rattle.sl_syntax.specs.declared.tree.element.ElementType.TheVariants as type
use Rattle.sl_typing.specs.declared.rules.TheConstants as rule
use Rattle.std.specs.Prelude.{◌≡◌, refl, true, [], ◌∷◌, Some, None}
use Rattle.sl_syntax.specs.Tree.{number, name, library_call, parentheses, prefix, binary, postfix, index, member_call, member, none}
use Rattle.sl_syntax.specs.Tree.{absent, braces, declares_scalar, declares_auto, declares_reference, declares_container, evaluates}
use Rattle.sl_syntax.specs.Tree.{assigns, tests, for, does, declares, states, Program}
use Rattle.sl_typing.specs.ProgramFaults.{program_faults}
use Rattle.sl_typing.specs.Typing.{FirstBroken}
use Rattle.sl_typing.proofs.Examples.Words.{at, id, all, container_type, reference_head, main_alone, fault}

-- step back of an unordered set
-- int main() {
--   std::unordered_set<int> us = {1};
--   auto usi = us.begin();
--   usi--;
-- }
abbrev pub step_back_of_an_unordered_set : Program
step_back_of_an_unordered_set = main_alone (
    declares (declares_container (container_type (at 2 3) f.HashSet) (id "us" 2 27) (braces true (all (number (at 2 33) 1 ∷ [])))) ∷
    declares (declares_auto (at 3 3) (id "usi" 3 8) (member_call (name (id "us" 3 14)) (id "begin" 3 17) none)) ∷
    states (does (at 4 3) (evaluates (postfix (name (id "usi" 4 3)) behind.Decrement (at 4 6)))) ∷
    []) (at 5 1)

step_back_of_an_unordered_set_breaks : FirstBroken step_back_of_an_unordered_set (fault (at 4 6) rule.WEAKER_ITERATOR)
unfolding program_faults
step_back_of_an_unordered_set_breaks = refl

-- prev of an unordered map
-- int main() {
--   std::unordered_map<int, int> um;
--   std::prev(um.begin());
-- }
abbrev pub prev_of_an_unordered_map : Program
prev_of_an_unordered_map = main_alone (
    declares (declares_container (container_type (at 2 3) f.HashMap) (id "um" 2 32) absent) ∷
    states (does (at 3 3) (evaluates (library_call (id "prev" 3 3) (all (member_call (name (id "um" 3 13)) (id "begin" 3 16) none ∷ []))))) ∷
    []) (at 4 1)

prev_of_an_unordered_map_breaks : FirstBroken prev_of_an_unordered_map (fault (at 3 3) rule.WEAKER_ITERATOR)
unfolding program_faults
prev_of_an_unordered_map_breaks = refl

-- sort over a list
-- int main() {
--   std::list<int> l = {1, 2};
--   std::sort(l.begin(), l.end());
-- }
abbrev pub sort_over_a_list : Program
sort_over_a_list = main_alone (
    declares
    (declares_container (container_type (at 2 3) f.List) (id "l" 2 18) (braces true (all (number (at 2 23) 1 ∷ number (at 2 26) 2 ∷ [])))) ∷
    states (does (at 3 3) (evaluates (library_call (id "sort" 3 3)
    (all (member_call (name (id "l" 3 13)) (id "begin" 3 15) none ∷ member_call (name (id "l" 3 24)) (id "end" 3 26) none ∷ []))))) ∷
    []) (at 4 1)

sort_over_a_list_breaks : FirstBroken sort_over_a_list (fault (at 3 3) rule.WEAKER_ITERATOR)
unfolding program_faults
sort_over_a_list_breaks = refl

-- order of list iterators
-- int main() {
--   std::list<int> l = {1, 2};
--   auto li = l.begin();
--   li <= li;
-- }
abbrev pub order_of_list_iterators : Program
order_of_list_iterators = main_alone (
    declares
    (declares_container (container_type (at 2 3) f.List) (id "l" 2 18) (braces true (all (number (at 2 23) 1 ∷ number (at 2 26) 2 ∷ [])))) ∷
    declares (declares_auto (at 3 3) (id "li" 3 8) (member_call (name (id "l" 3 13)) (id "begin" 3 15) none)) ∷
    states (does (at 4 3) (evaluates (binary (name (id "li" 4 3)) (operator.Comparison c.LessEqual) (at 4 6) (name (id "li" 4 9))))) ∷
    []) (at 5 1)

order_of_list_iterators_breaks : FirstBroken order_of_list_iterators (fault (at 4 6) rule.WEAKER_ITERATOR)
unfolding program_faults
order_of_list_iterators_breaks = refl

-- sum with a set iterator
-- int main() {
--   std::ptrdiff_t d = 1;
--   std::set<int> s = {1, 2};
--   auto si = s.begin();
--   si + d;
-- }
abbrev pub sum_with_a_set_iterator : Program
sum_with_a_set_iterator = main_alone (
    declares (declares_scalar (at 2 3) t.Diff (id "d" 2 18) (Some (number (at 2 22) 1))) ∷
    declares
    (declares_container (container_type (at 3 3) f.Set) (id "s" 3 17) (braces true (all (number (at 3 22) 1 ∷ number (at 3 25) 2 ∷ [])))) ∷
    declares (declares_auto (at 4 3) (id "si" 4 8) (member_call (name (id "s" 4 13)) (id "begin" 4 15) none)) ∷
    states (does (at 5 3) (evaluates (binary (name (id "si" 5 3)) (operator.Arithmetic o.Add) (at 5 6) (name (id "d" 5 8))))) ∷
    []) (at 6 1)

sum_with_a_set_iterator_breaks : FirstBroken sum_with_a_set_iterator (fault (at 5 6) rule.WEAKER_ITERATOR)
unfolding program_faults
sum_with_a_set_iterator_breaks = refl

-- difference from a list iterator
-- int main() {
--   std::list<int> l = {1, 2};
--   auto li = l.begin();
--   li - 7;
-- }
abbrev pub difference_from_a_list_iterator : Program
difference_from_a_list_iterator = main_alone (
    declares
    (declares_container (container_type (at 2 3) f.List) (id "l" 2 18) (braces true (all (number (at 2 23) 1 ∷ number (at 2 26) 2 ∷ [])))) ∷
    declares (declares_auto (at 3 3) (id "li" 3 8) (member_call (name (id "l" 3 13)) (id "begin" 3 15) none)) ∷
    states (does (at 4 3) (evaluates (binary (name (id "li" 4 3)) (operator.Arithmetic o.Subtract) (at 4 6) (number (at 4 8) 7)))) ∷
    []) (at 5 1)

difference_from_a_list_iterator_breaks : FirstBroken difference_from_a_list_iterator (fault (at 4 6) rule.WEAKER_ITERATOR)
unfolding program_faults
difference_from_a_list_iterator_breaks = refl

-- difference from a part of a pair
-- int main() {
--   std::ptrdiff_t d = 1;
--   std::multiset<int> ms = {1, 1};
--   ms.equal_range(1).first - d;
-- }
abbrev pub difference_from_a_part_of_a_pair : Program
difference_from_a_part_of_a_pair = main_alone (
    declares (declares_scalar (at 2 3) t.Diff (id "d" 2 18) (Some (number (at 2 22) 1))) ∷
    declares (declares_container (container_type (at 3 3) f.MultiSet) (id "ms" 3 22)
    (braces true (all (number (at 3 28) 1 ∷ number (at 3 31) 1 ∷ [])))) ∷
    states (does (at 4 3) (evaluates (binary (member
    (member_call (name (id "ms" 4 3)) (id "equal_range" 4 6) (all (number (at 4 18) 1 ∷ []))) selector.Dot (at 4 20)
    (id "first" 4 21)) (operator.Arithmetic o.Subtract) (at 4 27) (name (id "d" 4 29))))) ∷
    []) (at 5 1)

difference_from_a_part_of_a_pair_breaks : FirstBroken difference_from_a_part_of_a_pair (fault (at 4 27) rule.WEAKER_ITERATOR)
unfolding program_faults
difference_from_a_part_of_a_pair_breaks = refl

-- weak sum in a condition
-- int main() {
--   int x = 1;
--   std::vector<int> v = {1, 2};
--   std::list<int> l = {1, 2};
--   auto li = l.begin();
--   const int& cr = v[1];
--   for (; (li + 1); ++cr) x = 1;
-- }
abbrev pub weak_sum_in_a_condition : Program
weak_sum_in_a_condition = main_alone (
    declares (declares_scalar (at 2 3) t.Int (id "x" 2 7) (Some (number (at 2 11) 1))) ∷
    declares (declares_container (container_type (at 3 3) f.Vector) (id "v" 3 20)
    (braces true (all (number (at 3 25) 1 ∷ number (at 3 28) 2 ∷ [])))) ∷
    declares
    (declares_container (container_type (at 4 3) f.List) (id "l" 4 18) (braces true (all (number (at 4 23) 1 ∷ number (at 4 26) 2 ∷ [])))) ∷
    declares (declares_auto (at 5 3) (id "li" 5 8) (member_call (name (id "l" 5 13)) (id "begin" 5 15) none)) ∷
    declares (declares_reference (reference_head (at 6 3) true type.Int) (id "cr" 6 14)
    (index (name (id "v" 6 19)) (at 6 20) (number (at 6 21) 1))) ∷
    states (for (at 7 3) None
    (Some (tests (parentheses (at 7 10) (binary (name (id "li" 7 11)) (operator.Arithmetic o.Add) (at 7 14) (number (at 7 16) 1)))))
    (Some (evaluates (prefix before.Increment (at 7 20) (name (id "cr" 7 22)))))
    (does (at 7 26) (assigns (name (id "x" 7 26)) assignment.Set (at 7 28) (number (at 7 30) 1)))) ∷
    []) (at 8 1)

weak_sum_in_a_condition_breaks : FirstBroken weak_sum_in_a_condition (fault (at 7 14) rule.WEAKER_ITERATOR)
unfolding program_faults
weak_sum_in_a_condition_breaks = refl

-- prev of a multiset
-- int main() {
--   std::size_t n = 1;
--   std::multiset<int> ms = {1, 1};
--   std::prev(ms.begin(), n);
-- }
abbrev pub prev_of_a_multiset : Program
prev_of_a_multiset = main_alone (
    declares (declares_scalar (at 2 3) t.Size (id "n" 2 15) (Some (number (at 2 19) 1))) ∷
    declares (declares_container (container_type (at 3 3) f.MultiSet) (id "ms" 3 22)
    (braces true (all (number (at 3 28) 1 ∷ number (at 3 31) 1 ∷ [])))) ∷
    states (does (at 4 3) (evaluates
    (library_call (id "prev" 4 3) (all (member_call (name (id "ms" 4 13)) (id "begin" 4 16) none ∷ name (id "n" 4 25) ∷ []))))) ∷
    []) (at 5 1)

prev_of_a_multiset_breaks_none : program_faults prev_of_a_multiset ≡ []
unfolding program_faults
prev_of_a_multiset_breaks_none = refl

-- next of an unordered map
-- int main() {
--   std::unordered_map<int, int> um;
--   std::next(um.begin());
-- }
abbrev pub next_of_an_unordered_map : Program
next_of_an_unordered_map = main_alone (
    declares (declares_container (container_type (at 2 3) f.HashMap) (id "um" 2 32) absent) ∷
    states (does (at 3 3) (evaluates (library_call (id "next" 3 3) (all (member_call (name (id "um" 3 13)) (id "begin" 3 16) none ∷ []))))) ∷
    []) (at 4 1)

next_of_an_unordered_map_breaks_none : program_faults next_of_an_unordered_map ≡ []
unfolding program_faults
next_of_an_unordered_map_breaks_none = refl

-- advance of a list iterator
-- int main() {
--   std::size_t n = 1;
--   std::list<int> l = {1, 2};
--   auto li = l.begin();
--   std::advance(li, n);
-- }
abbrev pub advance_of_a_list_iterator : Program
advance_of_a_list_iterator = main_alone (
    declares (declares_scalar (at 2 3) t.Size (id "n" 2 15) (Some (number (at 2 19) 1))) ∷
    declares
    (declares_container (container_type (at 3 3) f.List) (id "l" 3 18) (braces true (all (number (at 3 23) 1 ∷ number (at 3 26) 2 ∷ [])))) ∷
    declares (declares_auto (at 4 3) (id "li" 4 8) (member_call (name (id "l" 4 13)) (id "begin" 4 15) none)) ∷
    states (does (at 5 3) (evaluates (library_call (id "advance" 5 3) (all (name (id "li" 5 16) ∷ name (id "n" 5 20) ∷ []))))) ∷
    []) (at 6 1)

advance_of_a_list_iterator_breaks_none : program_faults advance_of_a_list_iterator ≡ []
unfolding program_faults
advance_of_a_list_iterator_breaks_none = refl

-- difference of deque iterators
-- int main() {
--   std::deque<int> q = {1, 2};
--   auto qi = q.begin();
--   qi - qi;
-- }
abbrev pub difference_of_deque_iterators : Program
difference_of_deque_iterators = main_alone (
    declares (declares_container (container_type (at 2 3) f.Deque) (id "q" 2 19)
    (braces true (all (number (at 2 24) 1 ∷ number (at 2 27) 2 ∷ [])))) ∷
    declares (declares_auto (at 3 3) (id "qi" 3 8) (member_call (name (id "q" 3 13)) (id "begin" 3 15) none)) ∷
    states (does (at 4 3) (evaluates (binary (name (id "qi" 4 3)) (operator.Arithmetic o.Subtract) (at 4 6) (name (id "qi" 4 8))))) ∷
    []) (at 5 1)

difference_of_deque_iterators_breaks_none : program_faults difference_of_deque_iterators ≡ []
unfolding program_faults
difference_of_deque_iterators_breaks_none = refl

-- step back of a multimap iterator
-- int main() {
--   std::multimap<int, int> mm;
--   auto mmi = mm.begin();
--   --mmi;
-- }
abbrev pub step_back_of_a_multimap_iterator : Program
step_back_of_a_multimap_iterator = main_alone (
    declares (declares_container (container_type (at 2 3) f.MultiMap) (id "mm" 2 27) absent) ∷
    declares (declares_auto (at 3 3) (id "mmi" 3 8) (member_call (name (id "mm" 3 14)) (id "begin" 3 17) none)) ∷
    states (does (at 4 3) (evaluates (prefix before.Decrement (at 4 3) (name (id "mmi" 4 5))))) ∷
    []) (at 5 1)

step_back_of_a_multimap_iterator_breaks_none : program_faults step_back_of_a_multimap_iterator ≡ []
unfolding program_faults
step_back_of_a_multimap_iterator_breaks_none = refl

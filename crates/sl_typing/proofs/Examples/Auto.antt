-- Variables whose type is that of their value.
-- Each is made of a text and of what is due for it by tools/typing_goal.py.
use Rattle.sl_base.specs.declared.scalar.Scalar.TheVariants as t
use Rattle.sl_base.specs.declared.form.Form.TheVariants as f
use Rattle.sl_syntax.specs.declared.tree.function.Param.TheVariants as parameter
use Rattle.sl_syntax.specs.declared.tree.function.ResultType.TheVariants as result
use Rattle.sl_typing.specs.declared.rules.TheConstants as rule
use Rattle.std.specs.Prelude.{◌≡◌, refl, true, [], ◌∷◌, Some, None}
use Rattle.sl_syntax.specs.Tree.{number, name, call, library_call, member_call, none, braces, declares_scalar, declares_auto}
use Rattle.sl_syntax.specs.Tree.{declares_container, first_auto, for, break, declares, states, Program}
use Rattle.sl_typing.specs.ProgramFaults.{program_faults}
use Rattle.sl_typing.specs.Typing.{FirstBroken}
use Rattle.sl_typing.proofs.Examples.Words.{at, id, all, items, container_type, function, main_alone, fault}

-- auto from a pair
-- int main() {
--   std::set<int> s = {1, 2};
--   auto y = s.insert(4);
-- }
abbrev pub auto_from_a_pair : Program
auto_from_a_pair = main_alone (
    declares
    (declares_container (container_type (at 2 3) f.Set) (id "s" 2 17) (braces true (all (number (at 2 22) 1 ∷ number (at 2 25) 2 ∷ [])))) ∷
    declares (declares_auto (at 3 3) (id "y" 3 8) (member_call (name (id "s" 3 12)) (id "insert" 3 14) (all (number (at 3 21) 4 ∷ [])))) ∷
    []) (at 4 1)

auto_from_a_pair_breaks : FirstBroken auto_from_a_pair (fault (at 3 8) rule.AUTO)
unfolding program_faults
auto_from_a_pair_breaks = refl

-- auto from a call of nothing
-- void nothing() {
-- }
-- int main() {
--   auto y = nothing();
-- }
abbrev pub auto_from_a_call_of_nothing : Program
auto_from_a_call_of_nothing =
    function (at 1 1) result.Void (id "nothing" 1 6) [] (at 1 16) (items []) (at 2 1) ∷
    function (at 3 1) (result.Scalar t.Int) (id "main" 3 5) [] (at 3 12)
    (items (declares (declares_auto (at 4 3) (id "y" 4 8) (call (id "nothing" 4 12) none)) ∷ [])) (at 5 1) ∷
    []

auto_from_a_call_of_nothing_breaks : FirstBroken auto_from_a_call_of_nothing (fault (at 4 8) rule.AUTO)
unfolding program_faults
auto_from_a_call_of_nothing_breaks = refl

-- auto from a vector in a for
-- int main() {
--   std::vector<int> v = {1, 2};
--   for (auto y = v; ; ) break;
-- }
abbrev pub auto_from_a_vector_in_a_for : Program
auto_from_a_vector_in_a_for = main_alone (
    declares (declares_container (container_type (at 2 3) f.Vector) (id "v" 2 20)
    (braces true (all (number (at 2 25) 1 ∷ number (at 2 28) 2 ∷ [])))) ∷
    states (for (at 3 3) (Some (first_auto (at 3 8) (id "y" 3 13) (name (id "v" 3 17)))) None None (break (at 3 24))) ∷
    []) (at 4 1)

auto_from_a_vector_in_a_for_breaks : FirstBroken auto_from_a_vector_in_a_for (fault (at 3 13) rule.AUTO)
unfolding program_faults
auto_from_a_vector_in_a_for_breaks = refl

-- auto from an advance
-- int main() {
--   std::size_t n = 1;
--   std::vector<int> v = {1, 2};
--   auto vi = v.begin();
--   auto g = std::advance(vi, n);
-- }
abbrev pub auto_from_an_advance : Program
auto_from_an_advance = main_alone (
    declares (declares_scalar (at 2 3) t.Size (id "n" 2 15) (Some (number (at 2 19) 1))) ∷
    declares (declares_container (container_type (at 3 3) f.Vector) (id "v" 3 20)
    (braces true (all (number (at 3 25) 1 ∷ number (at 3 28) 2 ∷ [])))) ∷
    declares (declares_auto (at 4 3) (id "vi" 4 8) (member_call (name (id "v" 4 13)) (id "begin" 4 15) none)) ∷
    declares (declares_auto (at 5 3) (id "g" 5 8) (library_call (id "advance" 5 12) (all (name (id "vi" 5 25) ∷ name (id "n" 5 29) ∷ [])))) ∷
    []) (at 6 1)

auto_from_an_advance_breaks : FirstBroken auto_from_an_advance (fault (at 5 8) rule.AUTO)
unfolding program_faults
auto_from_an_advance_breaks = refl

-- auto from a const iterator
-- int f(const std::vector<int>& cv) {
--   auto y = cv.begin();
-- }
-- int main() {
-- }
abbrev pub auto_from_a_const_iterator : Program
auto_from_a_const_iterator =
    function (at 1 1) (result.Scalar t.Int) (id "f" 1 5)
    (parameter.ConstContainer (at 1 7) (container_type (at 1 13) f.Vector) (id "cv" 1 31) ∷ []) (at 1 35)
    (items (declares (declares_auto (at 2 3) (id "y" 2 8) (member_call (name (id "cv" 2 12)) (id "begin" 2 15) none)) ∷ [])) (at 3 1) ∷
    function (at 4 1) (result.Scalar t.Int) (id "main" 4 5) [] (at 4 12) (items []) (at 5 1) ∷
    []

auto_from_a_const_iterator_breaks_none : program_faults auto_from_a_const_iterator ≡ []
unfolding program_faults
auto_from_a_const_iterator_breaks_none = refl

-- auto from a copy
-- int main() {
--   std::vector<int> v = {1, 2};
--   std::deque<int> q = {1, 2};
--   auto g = std::copy(v.begin(), v.end(), q.begin());
-- }
abbrev pub auto_from_a_copy : Program
auto_from_a_copy = main_alone (
    declares (declares_container (container_type (at 2 3) f.Vector) (id "v" 2 20)
    (braces true (all (number (at 2 25) 1 ∷ number (at 2 28) 2 ∷ [])))) ∷
    declares (declares_container (container_type (at 3 3) f.Deque) (id "q" 3 19)
    (braces true (all (number (at 3 24) 1 ∷ number (at 3 27) 2 ∷ [])))) ∷
    declares (declares_auto (at 4 3) (id "g" 4 8) (library_call (id "copy" 4 12) (all (
    member_call (name (id "v" 4 22)) (id "begin" 4 24) none ∷
    member_call (name (id "v" 4 33)) (id "end" 4 35) none ∷
    member_call (name (id "q" 4 42)) (id "begin" 4 44) none ∷
    [])))) ∷
    []) (at 5 1)

auto_from_a_copy_breaks_none : program_faults auto_from_a_copy ≡ []
unfolding program_faults
auto_from_a_copy_breaks_none = refl

-- auto from a distance
-- int main() {
--   std::vector<int> v = {1, 2};
--   auto g = std::distance(v.begin(), v.end());
-- }
abbrev pub auto_from_a_distance : Program
auto_from_a_distance = main_alone (
    declares (declares_container (container_type (at 2 3) f.Vector) (id "v" 2 20)
    (braces true (all (number (at 2 25) 1 ∷ number (at 2 28) 2 ∷ [])))) ∷
    declares (declares_auto (at 3 3) (id "g" 3 8) (library_call (id "distance" 3 12)
    (all (member_call (name (id "v" 3 26)) (id "begin" 3 28) none ∷ member_call (name (id "v" 3 37)) (id "end" 3 39) none ∷ [])))) ∷
    []) (at 4 1)

auto_from_a_distance_breaks_none : program_faults auto_from_a_distance ≡ []
unfolding program_faults
auto_from_a_distance_breaks_none = refl

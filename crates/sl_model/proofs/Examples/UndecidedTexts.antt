-- Texts that are well typed and break one rule of decided texts alone, which stands beside their proof. The text of each stands above its tree.
use Rattle.std.specs.Prelude.{refl, true, [], ◌∷◌, replicate, None}
use Rattle.sl_base.specs.declared.scalar.Scalar.TheVariants as t
use Rattle.sl_base.specs.declared.form.Form.TheVariants as f
use Rattle.sl_specs.specs.declared.rows.sequences.TheConstants as sequence
use Rattle.sl_specs.specs.declared.rows.associative.TheConstants as associative
use Rattle.sl_specs.specs.declared.rows.algorithms.TheConstants as algorithm
use Rattle.sl_syntax.specs.declared.operator.Comparison.TheVariants as c
use Rattle.sl_syntax.specs.declared.typed.element.Taken.TheVariants as taken
use Rattle.sl_syntax.specs.declared.typed.operator.Operator.TheVariants as operators
use Rattle.sl_syntax.specs.declared.typed.parameter.ParameterKind.TheVariants as k
use Rattle.sl_syntax.specs.declared.typed.step.Fix.TheVariants as fixes
use Rattle.sl_syntax.specs.declared.typed.variable.VariableKind.TheVariants as v
use Rattle.sl_syntax.specs.Typed.{iterator, convert, move, own_call, container, none, with, read, not_read, reads, moves_to, unset_scalar, set_scalar}
use Rattle.sl_syntax.specs.Typed.{set_iterator, declares, choice, while, range_for, does, Typed}
use Rattle.sl_model.specs.Typing.WellTyped.{WellTyped}
use Rattle.sl_model.specs.Reports.Decided.{Decided}
use Rattle.sl_model.proofs.Examples.Trees.{at, on, on_site, off, appends, operator, int, value, calls, done, made, vector, pushed, body, body_at}
use Rattle.sl_model.proofs.Examples.Trees.{function, main_of, whole, alone, behind_vector}
use Rattle.sl_model.proofs.Examples.Deciding.{OwnCall, Input, HashBegin, HashStep, HashLoop, HashRange, HashErase, Leaving, Time, Tests, Small}
use Rattle.sl_model.proofs.Examples.Deciding.{judged, undecided, with_literal, hash_set, inserted, seven, hash_end, behind_hash, counting, looping}

-- void f() {
-- }
-- int main() {
--   f();
-- }
abbrev own_function : Typed
own_function = whole (function [] None [] (body []) ∷ main_of [] (body (done (own_call 0 (at 4 3) none) ∷ [])) ∷ []) 1 0 0

own_function_is_not : WellTyped own_function × (¬ Decided own_function)
unfolding judged
own_function_is_not = undecided own_function OwnCall refl

-- void f() {
--   f();                        nothing calls it first
-- }
-- int main() {
-- }
abbrev uncalled_call : Typed
uncalled_call = whole (function [] None [] (body (done (own_call 0 (at 2 3) none) ∷ [])) ∷ main_of [] (body []) ∷ []) 1 0 0

uncalled_call_is_not : WellTyped uncalled_call × (¬ Decided uncalled_call)
unfolding judged
uncalled_call_is_not = undecided uncalled_call OwnCall refl

-- int main() {
--   int x;
--   std::cin >> x;
-- }
abbrev read_alone : Typed
read_alone = alone (v.Scalar ∷ []) (body (declares (unset_scalar t.Int) ∷ does (reads (0 ∷ [])) ∷ [])) 0

read_alone_is_not : WellTyped read_alone × (¬ Decided read_alone)
unfolding judged
read_alone_is_not = undecided read_alone Input refl

-- int main() {
--   int x;
--   while (std::cin >> x) {}
-- }
abbrev read_in_loop : Typed
read_in_loop = looping (v.Scalar ∷ []) (body (declares (unset_scalar t.Int) ∷ while 0 (read (0 ∷ [])) (body []) ∷ [])) 0

read_in_loop_is_not : WellTyped read_in_loop × (¬ Decided read_in_loop)
unfolding judged
read_in_loop_is_not = undecided read_in_loop Input refl

-- void f() {                    nothing calls it
--   int x;
--   if (!(std::cin >> x)) {}
-- }
-- int main() {
-- }
abbrev read_in_choice : Typed
read_in_choice = whole (
    function [] None (v.Scalar ∷ []) (body (declares (unset_scalar t.Int) ∷ choice (not_read (0 ∷ [])) (body []) ∷ [])) ∷
    main_of [] (body []) ∷ []) 1 0 0

read_in_choice_is_not : WellTyped read_in_choice × (¬ Decided read_in_choice)
unfolding judged
read_in_choice_is_not = undecided read_in_choice Input refl

-- int main() {
--   std::unordered_set<int> s;
--   s.insert(7);
--   auto it = s.begin();
-- }
abbrev first_of_hash : Typed
first_of_hash = behind_hash (v.Iterator ∷ []) 0 (declares (set_iterator (calls (on associative.HASH_SET_BEGIN (at 4 15) 0) [])) ∷ [])

first_of_hash_is_not : WellTyped first_of_hash × (¬ Decided first_of_hash)
unfolding judged
first_of_hash_is_not = undecided first_of_hash HashBegin refl

-- int main() {
--   std::unordered_map<int, int> m;
--   m.begin();
-- }
abbrev first_of_hash_map : Typed
first_of_hash_map = alone (v.Container ∷ []) (body_at 0 (made f.HashMap associative.HASH_MAP_CONSTRUCTOR (at 2 3) [] ∷
    done (calls (on associative.HASH_MAP_BEGIN (at 3 5) 0) []) ∷ [])) 1

first_of_hash_map_is_not : WellTyped first_of_hash_map × (¬ Decided first_of_hash_map)
unfolding judged
first_of_hash_map_is_not = undecided first_of_hash_map HashBegin refl

-- int main() {
--   std::unordered_set<int> s;
--   s.insert(7);
--   auto it = s.find(7);
--   ++it;
-- }
abbrev next_in_hash : Typed
next_in_hash = behind_hash (v.Iterator ∷ []) 0 (
    declares (set_iterator (seven (at 4 15) 0)) ∷ done (move fixes.Prefix 0 (operator operators.Increment (at 5 3)) none) ∷ [])

next_in_hash_is_not : WellTyped next_in_hash × (¬ Decided next_in_hash)
unfolding judged
next_in_hash_is_not = undecided next_in_hash HashStep refl

-- void f(std::unordered_set<int>::const_iterator it) {
--   auto jt = it++;             nothing calls it
-- }
-- int main() {
-- }
abbrev uncalled_step : Typed
uncalled_step = whole (function (k.Iterator true f.HashSet ∷ []) None (v.Iterator ∷ v.Iterator ∷ [])
    (body (declares (set_iterator (move fixes.Postfix 0 (operator operators.Increment (at 2 15)) none)) ∷ [])) ∷ main_of [] (body []) ∷ []) 1 0 0

uncalled_step_is_not : WellTyped uncalled_step × (¬ Decided uncalled_step)
unfolding judged
uncalled_step_is_not = undecided uncalled_step HashStep refl

-- int main() {
--   std::unordered_set<int> s;
--   for (int x : s) {}
-- }
abbrev over_hash : Typed
over_hash = looping (v.Container ∷ v.Scalar ∷ []) (body_at 0 (hash_set (at 2 3) ∷ range_for 0 taken.Value 0 (at 3 3) 0 (body []) ∷ [])) 1

over_hash_is_not : WellTyped over_hash × (¬ Decided over_hash)
unfolding judged
over_hash_is_not = undecided over_hash HashLoop refl

-- int main() {
--   std::unordered_map<int, int> m;
--   for (auto& e : m) {}
-- }
abbrev over_hash_map : Typed
over_hash_map = looping (v.Container ∷ v.Reference ∷ []) (body_at 0 (
    made f.HashMap associative.HASH_MAP_CONSTRUCTOR (at 2 3) [] ∷ range_for 0 taken.Reference 0 (at 3 3) 0 (body []) ∷ [])) 1

over_hash_map_is_not : WellTyped over_hash_map × (¬ Decided over_hash_map)
unfolding judged
over_hash_map_is_not = undecided over_hash_map HashLoop refl

-- int main() {
--   std::unordered_set<int> s;
--   s.insert(7);
--   s.erase(s.find(7), s.end());
-- }
abbrev erased_range : Typed
erased_range = behind_hash [] 1 (
    done (calls (on_site associative.HASH_SET_ERASE_RANGE (at 4 5) 1 0) (seven (at 4 13) 0 ∷ hash_end (at 4 24) 0 ∷ [])) ∷ [])

erased_range_is_not : WellTyped erased_range × (¬ Decided erased_range)
unfolding judged
erased_range_is_not = undecided erased_range HashRange refl

-- int main() {
--   std::unordered_set<int> s;
--   s.insert(7);
--   std::vector<int> v(s.find(7), s.end());
-- }
abbrev made_of_hash : Typed
made_of_hash = behind_hash (v.Container ∷ []) 0 (
    made f.Vector sequence.VECTOR_CONSTRUCTOR_RANGE (at 4 3) (seven (at 4 24) 0 ∷ hash_end (at 4 35) 0 ∷ []) ∷ [])

made_of_hash_is_not : WellTyped made_of_hash × (¬ Decided made_of_hash)
unfolding judged
made_of_hash_is_not = undecided made_of_hash HashRange refl

-- int main() {
--   std::unordered_set<int> s;
--   s.insert(7);
--   std::vector<int> v;
--   v.insert(v.end(), s.find(7), s.end());
-- }
abbrev put_in_from_hash : Typed
put_in_from_hash = behind_hash (v.Container ∷ []) 1 (vector (at 4 3) ∷
    done (calls (on_site sequence.VECTOR_INSERT_RANGE (at 5 5) 1 1)
    (calls (on sequence.VECTOR_END (at 5 14) 1) [] ∷ seven (at 5 23) 0 ∷ hash_end (at 5 34) 0 ∷ [])) ∷ [])

put_in_from_hash_is_not : WellTyped put_in_from_hash × (¬ Decided put_in_from_hash)
unfolding judged
put_in_from_hash_is_not = undecided put_in_from_hash HashRange refl

-- int main() {
--   std::unordered_set<int> s;
--   s.insert(7);
--   std::vector<int> v;
--   std::copy(s.find(7), s.end(), std::back_inserter(v));
-- }
abbrev copied_from_hash : Typed
copied_from_hash = behind_hash (v.Container ∷ []) 1 (vector (at 4 3) ∷
    done (calls (appends algorithm.STD_COPY (at 5 3) 1) (seven (at 5 15) 0 ∷ hash_end (at 5 26) 0 ∷ container 1 ∷ [])) ∷ [])

copied_from_hash_is_not : WellTyped copied_from_hash × (¬ Decided copied_from_hash)
unfolding judged
copied_from_hash_is_not = undecided copied_from_hash HashRange refl

-- int main() {
--   std::unordered_set<int> s;
--   s.insert(7);
--   std::vector<int> v;
--   bool b = std::includes(v.begin(), v.end(), s.find(7), s.end());
-- }
abbrev second_range : Typed
second_range = behind_hash (v.Container ∷ v.Scalar ∷ []) 0 (vector (at 4 3) ∷
    declares (set_scalar t.Bool (calls (off algorithm.STD_INCLUDES (at 5 12)) (calls (on sequence.VECTOR_BEGIN (at 5 28) 1) [] ∷
    calls (on sequence.VECTOR_END (at 5 39) 1) [] ∷ seven (at 5 48) 0 ∷ hash_end (at 5 59) 0 ∷ []))) ∷ [])

second_range_is_not : WellTyped second_range × (¬ Decided second_range)
unfolding judged
second_range_is_not = undecided second_range HashRange refl

-- int main() {
--   std::unordered_set<int> s;
--   s.insert(7);
--   auto it = s.find(7);
--   std::advance(it, 1);
-- }
abbrev advanced : Typed
advanced = behind_hash (v.Iterator ∷ []) 0 (declares (set_iterator (seven (at 4 15) 0)) ∷
    done (move fixes.Prefix 0 (off algorithm.STD_ADVANCE (at 5 3)) (with (convert t.Diff (int 1)) none)) ∷ [])

advanced_is_not : WellTyped advanced × (¬ Decided advanced)
unfolding judged
advanced_is_not = undecided advanced HashRange refl

-- int main() {
--   std::unordered_set<int> s;
--   s.insert(7);
--   auto it = std::next(s.find(7));
-- }
abbrev next_of_hash : Typed
next_of_hash = behind_hash (v.Iterator ∷ []) 0 (
    declares (set_iterator (calls (off algorithm.STD_NEXT (at 4 13)) (seven (at 4 25) 0 ∷ []))) ∷ [])

next_of_hash_is_not : WellTyped next_of_hash × (¬ Decided next_of_hash)
unfolding judged
next_of_hash_is_not = undecided next_of_hash HashRange refl

-- int main() {
--   std::unordered_set<int> s;
--   s.insert(7);
--   std::distance(s.find(7), s.end());
-- }
abbrev distance_in_hash : Typed
distance_in_hash = behind_hash [] 0 (done (calls (off algorithm.STD_DISTANCE (at 4 3)) (seven (at 4 19) 0 ∷ hash_end (at 4 30) 0 ∷ [])) ∷ [])

distance_in_hash_is_not : WellTyped distance_in_hash × (¬ Decided distance_in_hash)
unfolding judged
distance_in_hash_is_not = undecided distance_in_hash HashRange refl

-- int main() {
--   std::unordered_set<int> s;
--   s.insert(7);
--   auto it = s.erase(s.find(7));
-- }
abbrev behind_erased : Typed
behind_erased = behind_hash (v.Iterator ∷ []) 1 (
    declares (set_iterator (calls (on_site associative.HASH_SET_ERASE (at 4 15) 1 0) (seven (at 4 23) 0 ∷ []))) ∷ [])

behind_erased_is_not : WellTyped behind_erased × (¬ Decided behind_erased)
unfolding judged
behind_erased_is_not = undecided behind_erased HashErase refl

-- int main() {
--   std::unordered_set<int> s;
--   s.insert(7);
--   auto it = s.find(7);
--   it = s.erase(it);
-- }
abbrev moved_behind_erased : Typed
moved_behind_erased = behind_hash (v.Iterator ∷ []) 1 (declares (set_iterator (seven (at 4 15) 0)) ∷
    does (moves_to 0 (calls (on_site associative.HASH_SET_ERASE (at 5 10) 1 0) (iterator 0 ∷ []))) ∷ [])

moved_behind_erased_is_not : WellTyped moved_behind_erased × (¬ Decided moved_behind_erased)
unfolding judged
moved_behind_erased_is_not = undecided moved_behind_erased HashErase refl

-- int main() {
--   std::unordered_set<int> s;
--   s.insert(7);
--   auto e = s.end();
--   s.erase(s.find(7)) == e;
-- }
abbrev compared_erased : Typed
compared_erased = behind_hash (v.Iterator ∷ []) 1 (declares (set_iterator (hash_end (at 4 14) 0)) ∷
    done (calls (operator (operators.Compare c.Equal) (at 5 22))
    (calls (on_site associative.HASH_SET_ERASE (at 5 5) 1 0) (seven (at 5 13) 0 ∷ []) ∷ iterator 0 ∷ [])) ∷ [])

compared_erased_is_not : WellTyped compared_erased × (¬ Decided compared_erased)
unfolding judged
compared_erased_is_not = undecided compared_erased HashErase refl

-- int main() {
--   std::vector<int> v;
--   std::remove(v.begin(), v.end(), 1);
-- }
abbrev removed : Typed
removed = behind_vector [] 0 (done (calls (off algorithm.STD_REMOVE (at 3 3))
    (calls (on sequence.VECTOR_BEGIN (at 3 17) 0) [] ∷ calls (on sequence.VECTOR_END (at 3 28) 0) [] ∷ int 1 ∷ [])) ∷ [])

removed_is_not : WellTyped removed × (¬ Decided removed)
unfolding judged
removed_is_not = undecided removed Leaving refl

-- int main() {
--   std::vector<int> v;
--   std::unique(v.begin(), v.end());
-- }
abbrev uniqued : Typed
uniqued = behind_vector [] 0 (done (calls (off algorithm.STD_UNIQUE (at 3 3))
    (calls (on sequence.VECTOR_BEGIN (at 3 17) 0) [] ∷ calls (on sequence.VECTOR_END (at 3 28) 0) [] ∷ [])) ∷ [])

uniqued_is_not : WellTyped uniqued × (¬ Decided uniqued)
unfolding judged
uniqued_is_not = undecided uniqued Leaving refl

-- int main() {
--   for (int i = 0; i < 909; ++i) {
--     i; i; .. 21 times
--   }
--   int x;                      step 20,001
-- }
abbrev one_step_more : Typed
one_step_more = with_literal 909 (looping (v.Scalar ∷ v.Scalar ∷ [])
    (body (counting 2 0 909 (body (replicate 21 (done (value 0)))) ∷ declares (unset_scalar t.Int) ∷ [])) 0)

one_step_more_is_not : WellTyped one_step_more × (¬ Decided one_step_more)
unfolding judged
one_step_more_is_not = undecided one_step_more Time refl

-- int main() {
--   for (int i = 0; i < 1000; ++i) {}
-- }
-- the last test is number 1,001
abbrev one_test_more : Typed
one_test_more = with_literal 1000 (looping (v.Scalar ∷ []) (body (counting 2 0 1000 (body []) ∷ [])) 0)

one_test_more_is_not : WellTyped one_test_more × (¬ Decided one_test_more)
unfolding judged
one_test_more_is_not = undecided one_test_more Tests refl

-- int main() {
--   std::vector<int> v(65);
-- }
abbrev sixty_five : Typed
sixty_five = with_literal 65 (alone (v.Container ∷ [])
    (body_at 0 (made f.Vector sequence.VECTOR_CONSTRUCTOR_COUNT (at 2 3) (convert t.Size (int 65) ∷ []) ∷ [])) 1)

sixty_five_is_not : WellTyped sixty_five × (¬ Decided sixty_five)
unfolding judged
sixty_five_is_not = undecided sixty_five Small refl

-- int main() {
--   std::vector<int> v(64);
--   v.push_back(1);             65 elements for a moment
--   v.pop_back();
-- }
abbrev for_a_moment : Typed
for_a_moment = with_literal 64 (alone (v.Container ∷ []) (body_at 2 (
    made f.Vector sequence.VECTOR_CONSTRUCTOR_COUNT (at 2 3) (convert t.Size (int 64) ∷ []) ∷ pushed (at 3 5) 0 0 (int 1) ∷
    done (calls (on_site sequence.VECTOR_POP_BACK (at 4 5) 1 0) []) ∷ [])) 3)

for_a_moment_is_not : WellTyped for_a_moment × (¬ Decided for_a_moment)
unfolding judged
for_a_moment_is_not = undecided for_a_moment Small refl

-- int main() {
--   std::unordered_set<int> s;
--   for (int i = 0; i < 65; ++i) s.insert(i);
-- }
abbrev hash_of_sixty_five : Typed
hash_of_sixty_five = with_literal 65 (looping (v.Container ∷ v.Scalar ∷ [])
    (body_at 1 (hash_set (at 2 3) ∷ counting 3 0 65 (inserted (at 3 34) 0 0 (value 0)) ∷ [])) 2)

hash_of_sixty_five_is_not : WellTyped hash_of_sixty_five × (¬ Decided hash_of_sixty_five)
unfolding judged
hash_of_sixty_five_is_not = undecided hash_of_sixty_five Small refl

-- Texts that are well typed and decided, whether their run is done, traps, faults or throws. The text of each stands above its tree.
use Rattle.std.specs.Prelude.{refl, [], ◌∷◌, map, replicate, pos, negsuc, Some, None}
use Rattle.sl_base.specs.declared.scalar.Scalar.TheVariants as t
use Rattle.sl_base.specs.declared.form.Form.TheVariants as f
use Rattle.sl_specs.specs.declared.rows.sequences.TheConstants as sequence
use Rattle.sl_specs.specs.declared.rows.associative.TheConstants as associative
use Rattle.sl_specs.specs.declared.rows.algorithms.TheConstants as algorithm
use Rattle.sl_syntax.specs.declared.operator.Access.TheVariants as a
use Rattle.sl_syntax.specs.declared.operator.Arithmetic.TheVariants as o
use Rattle.sl_syntax.specs.declared.operator.Comparison.TheVariants as c
use Rattle.sl_syntax.specs.declared.typed.element.Taken.TheVariants as taken
use Rattle.sl_syntax.specs.declared.typed.operator.Operator.TheVariants as operators
use Rattle.sl_syntax.specs.declared.typed.parameter.ParameterKind.TheVariants as k
use Rattle.sl_syntax.specs.declared.typed.step.Fix.TheVariants as fixes
use Rattle.sl_syntax.specs.declared.typed.variable.VariableKind.TheVariants as v
use Rattle.sl_syntax.specs.Typed.{literal, held, iterator, convert, negate, move, scalar, element, none, with, test, evaluates, assigns, updates}
use Rattle.sl_syntax.specs.Typed.{unset_scalar, set_scalar, set_iterator, declares_first, declares, for, range_for, does, Typed}
use Rattle.sl_model.specs.Typing.WellTyped.{WellTyped}
use Rattle.sl_model.specs.Reports.Decided.{Decided}
use Rattle.sl_model.proofs.Examples.Trees.{at, on, on_site, off, operator, int, value, calls, element_of, star, done, made, vector, begun, pushed}
use Rattle.sl_model.proofs.Examples.Trees.{body, body_at, function, main_of, whole, alone, behind_vector}
use Rattle.sl_model.proofs.Examples.Deciding.{judged, decided, with_literal, hash_set, inserted, seven, hash_end, behind_hash, counting, looping}

-- int main() {
-- }
abbrev empty : Typed
empty = alone [] (body []) 0

empty_is_decided : WellTyped empty × Decided empty
unfolding judged
empty_is_decided = decided empty refl

-- int main() {
--   std::vector<int> v;
--   v.push_back(1);
--   auto it = v.begin();
--   v.push_back(2);
--   int x = *it;                invalid
-- }
abbrev growth : Typed
growth = behind_vector (v.Iterator ∷ v.Scalar ∷ []) 2 (
    pushed (at 3 5) 0 0 (int 1) ∷ begun (at 4 15) 0 ∷ pushed (at 5 5) 1 0 (int 2) ∷ declares (set_scalar t.Int (held (star (at 6 11) 0))) ∷ [])

growth_is_decided : WellTyped growth × Decided growth
unfolding judged
growth_is_decided = decided growth refl

-- int main() {
--   std::vector<int> v;
--   for (int i = 0; i < 40; ++i) v.push_back(i);
--   int x = v[39];
-- }
abbrev forty : Typed
forty = record (looping (v.Container ∷ v.Scalar ∷ v.Scalar ∷ []) (body_at 1 (
    vector (at 2 3) ∷ counting 3 0 40 (pushed (at 3 34) 0 0 (value 0)) ∷
    declares (set_scalar t.Int (element_of (on sequence.VECTOR_SUBSCRIPT (at 4 12) 0) (convert t.Size (int 39) ∷ []))) ∷ [])) 2) {
      constants = negsuc 0 ∷ map (λ n. pos n) (0 ∷ 1 ∷ 38 ∷ 39 ∷ 40 ∷ 41 ∷ []);
    }

forty_is_decided : WellTyped forty × Decided forty
unfolding judged
forty_is_decided = decided forty refl

-- int main() {
--   std::unordered_set<int> s;
--   s.insert(7);
--   auto it = s.find(7);
--   s.insert(8);
--   bool b = it == s.end();
--   int x = *it;                invalid, since the set grew
-- }
abbrev hash_growth : Typed
hash_growth = behind_hash (v.Iterator ∷ v.Scalar ∷ v.Scalar ∷ []) 1 (
    declares (set_iterator (seven (at 4 15) 0)) ∷ inserted (at 5 5) 1 0 (int 8) ∷
    declares (set_scalar t.Bool (calls (operator (operators.Compare c.Equal) (at 6 15)) (iterator 0 ∷ hash_end (at 6 20) 0 ∷ []))) ∷
    declares (set_scalar t.Int (held (star (at 7 11) 0))) ∷ [])

hash_growth_is_decided : WellTyped hash_growth × Decided hash_growth
unfolding judged
hash_growth_is_decided = decided hash_growth refl

-- int main() {
--   std::unordered_map<int, int> m;
--   m[1] = 2;
--   auto it = m.find(1);
--   it->second += m.at(1);
-- }
abbrev hash_map : Typed
hash_map = alone (v.Container ∷ v.Iterator ∷ []) (body_at 1 (
    made f.HashMap associative.HASH_MAP_CONSTRUCTOR (at 2 3) [] ∷
    does (assigns (element (on_site associative.HASH_MAP_SUBSCRIPT (at 3 4) 0 0) (with (int 1) none)) (int 2)) ∷
    declares (set_iterator (calls (on associative.HASH_MAP_FIND (at 4 15) 0) (int 1 ∷ []))) ∷
    does (updates o.Add t.Int t.Int (at 5 14) (element (operator operators.ArrowSecond (at 5 5)) (with (iterator 0) none))
    (element_of (on associative.HASH_MAP_AT (at 5 19) 0) (int 1 ∷ []))) ∷ [])) 2

hash_map_is_decided : WellTyped hash_map × Decided hash_map
unfolding judged
hash_map_is_decided = decided hash_map refl

-- int main() {
--   std::unordered_set<int> s;
--   s.insert(7);
--   s.erase(s.find(7));         its result isn't used
-- }
abbrev erased : Typed
erased = behind_hash [] 1 (done (calls (on_site associative.HASH_SET_ERASE (at 4 5) 1 0) (seven (at 4 13) 0 ∷ [])) ∷ [])

erased_is_decided : WellTyped erased × Decided erased
unfolding judged
erased_is_decided = decided erased refl

-- int main() {
--   std::unordered_set<int> s;
--   s.insert(7);
--   for (bool b = true; b; s.erase(s.find(7))) b = false;
-- }
abbrev erased_in_head : Typed
erased_in_head = looping (v.Container ∷ v.Scalar ∷ []) (body_at 2 (hash_set (at 2 3) ∷ inserted (at 3 5) 0 0 (int 7) ∷
    for 0 (declares_first (set_scalar t.Bool (literal t.Bool (pos 1)))) (test (value 0))
    (Some (evaluates (calls (on_site associative.HASH_SET_ERASE (at 4 28) 1 0) (seven (at 4 36) 0 ∷ []))))
    (does (assigns (scalar 0 (at 4 46)) (literal t.Bool (pos 0)))) ∷ [])) 3

erased_in_head_is_decided : WellTyped erased_in_head × Decided erased_in_head
unfolding judged
erased_in_head_is_decided = decided erased_in_head refl

-- int main() {
--   std::unordered_set<int> s;
--   s.insert(7);
--   std::size_t n = s.erase(7);
-- }
abbrev erased_key : Typed
erased_key = behind_hash (v.Scalar ∷ []) 1 (
    declares (set_scalar t.Size (calls (on_site associative.HASH_SET_ERASE_KEY (at 4 21) 1 0) (int 7 ∷ []))) ∷ [])

erased_key_is_decided : WellTyped erased_key × Decided erased_key
unfolding judged
erased_key_is_decided = decided erased_key refl

-- int main() {
--   std::set<int> s = {2, 1};
--   auto it = s.erase(s.begin());
--   ++it;
-- }
abbrev erased_in_order : Typed
erased_in_order = alone (v.Container ∷ v.Iterator ∷ []) (body_at 1 (
    made f.Set associative.SET_CONSTRUCTOR_LIST (at 2 3) (int 2 ∷ int 1 ∷ []) ∷
    declares (set_iterator (calls (on_site associative.SET_ERASE (at 3 15) 0 0) (calls (on associative.SET_BEGIN (at 3 23) 0) [] ∷ []))) ∷
    done (move fixes.Prefix 0 (operator operators.Increment (at 4 3)) none) ∷ [])) 2

erased_in_order_is_decided : WellTyped erased_in_order × Decided erased_in_order
unfolding judged
erased_in_order_is_decided = decided erased_in_order refl

-- int main() {
--   std::unordered_set<int> s;
--   s.insert(7);
--   std::vector<int> v = {1, 2};
--   s.insert(v.begin(), v.end());
--   std::unordered_set<int> t(v.begin(), v.end());
-- }
abbrev into_hash : Typed
into_hash = behind_hash (v.Container ∷ v.Container ∷ []) 1 (
    made f.Vector sequence.VECTOR_CONSTRUCTOR_LIST (at 4 3) (int 1 ∷ int 2 ∷ []) ∷
    done (calls (on_site associative.HASH_SET_INSERT_RANGE (at 5 5) 1 0)
    (calls (on sequence.VECTOR_BEGIN (at 5 14) 1) [] ∷ calls (on sequence.VECTOR_END (at 5 25) 1) [] ∷ [])) ∷
    made f.HashSet associative.HASH_SET_CONSTRUCTOR_RANGE (at 6 3)
    (calls (on sequence.VECTOR_BEGIN (at 6 31) 1) [] ∷ calls (on sequence.VECTOR_END (at 6 42) 1) [] ∷ []) ∷ [])

into_hash_is_decided : WellTyped into_hash × Decided into_hash
unfolding judged
into_hash_is_decided = decided into_hash refl

-- int main() {
--   std::vector<int> v;
--   v.push_back(1);
--   auto it = v.begin();
--   ++it;
--   std::advance(it, -1);
--   auto jt = std::next(it);
--   std::ptrdiff_t n = std::distance(it, jt);
--   std::reverse(it, jt);
-- }
abbrev along_vector : Typed
along_vector = behind_vector (v.Iterator ∷ v.Iterator ∷ v.Scalar ∷ []) 1 (
    pushed (at 3 5) 0 0 (int 1) ∷ begun (at 4 15) 0 ∷ done (move fixes.Prefix 0 (operator operators.Increment (at 5 3)) none) ∷
    done (move fixes.Prefix 0 (off algorithm.STD_ADVANCE (at 6 3)) (with (convert t.Diff (negate t.Int (at 6 20) (int 1))) none)) ∷
    declares (set_iterator (calls (off algorithm.STD_NEXT (at 7 13)) (iterator 0 ∷ []))) ∷
    declares (set_scalar t.Diff (calls (off algorithm.STD_DISTANCE (at 8 22)) (iterator 0 ∷ iterator 1 ∷ []))) ∷
    done (calls (off algorithm.STD_REVERSE (at 9 3)) (iterator 0 ∷ iterator 1 ∷ [])) ∷ [])

along_vector_is_decided : WellTyped along_vector × Decided along_vector
unfolding judged
along_vector_is_decided = decided along_vector refl

-- int main() {
--   std::set<int> s = {3, 1};
--   for (int x : s) x;
-- }
abbrev over_set : Typed
over_set = looping (v.Container ∷ v.Scalar ∷ []) (body_at 0 (
    made f.Set associative.SET_CONSTRUCTOR_LIST (at 2 3) (int 3 ∷ int 1 ∷ []) ∷ range_for 0 taken.Value 0 (at 3 3) 0 (done (value 0)) ∷ [])) 1

over_set_is_decided : WellTyped over_set × Decided over_set
unfolding judged
over_set_is_decided = decided over_set refl

-- int main() {
--   std::list<int> l = {1, 1, 2};
--   l.unique();
--   l.remove(2);
-- }
abbrev list_members : Typed
list_members = alone (v.Container ∷ []) (body_at 2 (
    made f.List sequence.LIST_CONSTRUCTOR_LIST (at 2 3) (int 1 ∷ int 1 ∷ int 2 ∷ []) ∷ done (calls (on_site sequence.LIST_UNIQUE (at 3 5) 0 0) []) ∷
    done (calls (on_site sequence.LIST_REMOVE (at 4 5) 1 0) (int 2 ∷ [])) ∷ [])) 3

list_members_is_decided : WellTyped list_members × Decided list_members
unfolding judged
list_members_is_decided = decided list_members refl

-- void f(std::vector<int>& v) {   nothing calls it
--   v.push_back(1);
-- }
-- int main() {
-- }
abbrev uncalled : Typed
uncalled = whole (function (k.Container a.Whole f.Vector ∷ []) None (v.Container ∷ []) (body (pushed (at 2 5) 0 0 (int 1) ∷ [])) ∷
    main_of [] (body []) ∷ []) 1 1 0

uncalled_is_decided : WellTyped uncalled × Decided uncalled
unfolding judged
uncalled_is_decided = decided uncalled refl

-- int main() {
--   int x;
--   int y = x;                  a fault
-- }
abbrev unset : Typed
unset = alone (v.Scalar ∷ v.Scalar ∷ []) (body (declares (unset_scalar t.Int) ∷ declares (set_scalar t.Int (value 0)) ∷ [])) 0

unset_is_decided : WellTyped unset × Decided unset
unfolding judged
unset_is_decided = decided unset refl

-- int main() {
--   std::vector<int> v;
--   int x = v.at(0);            an exception
-- }
abbrev thrown : Typed
thrown = behind_vector (v.Scalar ∷ []) 0 (
    declares (set_scalar t.Int (element_of (on sequence.VECTOR_AT (at 3 13) 0) (convert t.Size (int 0) ∷ []))) ∷ [])

thrown_is_decided : WellTyped thrown × Decided thrown
unfolding judged
thrown_is_decided = decided thrown refl

-- int main() {
--   for (int i = 0; i < 999; ++i) {}
-- }
abbrev thousand_tests : Typed
thousand_tests = with_literal 999 (looping (v.Scalar ∷ []) (body (counting 2 0 999 (body []) ∷ [])) 0)

thousand_tests_is_decided : WellTyped thousand_tests × Decided thousand_tests
unfolding judged
thousand_tests_is_decided = decided thousand_tests refl

-- int main() {
--   for (int i = 0; i < 909; ++i) {
--     i; i; .. 21 times
--   }
-- }
-- 1 step for the loop, 910 for its tests and 909 times 21 for its body
abbrev twenty_thousand_steps : Typed
twenty_thousand_steps = with_literal 909 (looping (v.Scalar ∷ []) (body (counting 2 0 909 (body (replicate 21 (done (value 0)))) ∷ [])) 0)

twenty_thousand_steps_is_decided : WellTyped twenty_thousand_steps × Decided twenty_thousand_steps
unfolding judged
twenty_thousand_steps_is_decided = decided twenty_thousand_steps refl

-- int main() {
--   std::vector<int> v(64);
--   v.pop_back();
--   v.push_back(1);
-- }
abbrev sixty_four : Typed
sixty_four = with_literal 64 (alone (v.Container ∷ []) (body_at 2 (
    made f.Vector sequence.VECTOR_CONSTRUCTOR_COUNT (at 2 3) (convert t.Size (int 64) ∷ []) ∷
    done (calls (on_site sequence.VECTOR_POP_BACK (at 3 5) 0 0) []) ∷ pushed (at 4 5) 1 0 (int 1) ∷ [])) 3)

sixty_four_is_decided : WellTyped sixty_four × Decided sixty_four
unfolding judged
sixty_four_is_decided = decided sixty_four refl

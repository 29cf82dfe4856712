-- Texts of one function that are well typed. The text of each stands above its tree; the names of variables, which aren't looked at, are left out of
-- the trees.
use Rattle.std.specs.Prelude.{refl, [], ◌∷◌, ◌++◌, replicate, pos, Some, codes}
use Rattle.sl_base.specs.declared.scalar.Scalar.TheVariants as t
use Rattle.sl_base.specs.declared.form.Form.TheVariants as f
use Rattle.sl_specs.specs.declared.rows.sequences.TheConstants as sequence
use Rattle.sl_specs.specs.declared.rows.associative.TheConstants as associative
use Rattle.sl_specs.specs.declared.rows.algorithms.TheConstants as algorithm
use Rattle.sl_syntax.specs.declared.operator.Arithmetic.TheVariants as o
use Rattle.sl_syntax.specs.declared.operator.Comparison.TheVariants as c
use Rattle.sl_syntax.specs.declared.typed.element.ElementPart.TheVariants as parts
use Rattle.sl_syntax.specs.declared.typed.element.Taken.TheVariants as taken
use Rattle.sl_syntax.specs.declared.typed.operator.Operator.TheVariants as operators
use Rattle.sl_syntax.specs.declared.typed.step.Fix.TheVariants as fixes
use Rattle.sl_syntax.specs.declared.typed.step.Step.TheVariants as steps
use Rattle.sl_syntax.specs.declared.typed.variable.VariableKind.TheVariants as v
use Rattle.sl_syntax.specs.Typed.{literal, held, iterator, convert, negate, arithmetic, comparison, increment, move, first, second}
use Rattle.sl_syntax.specs.Typed.{container, scalar, reference, element, none, with, read, test, text, endline, number, prints, evaluates}
use Rattle.sl_syntax.specs.Typed.{assigns, updates, unset_scalar, set_scalar, set_iterator, binds_reference, declares_first, declares}
use Rattle.sl_syntax.specs.Typed.{choice, choice_else, while, for, range_for, break, continue, gives_back, does, Typed}
use Rattle.sl_model.specs.Typing.WellTyped.{WellTyped}
use Rattle.sl_model.proofs.Examples.Trees.{well, broken, at, on, on_site, off, appends, operator, int, value, calls, element_of, star, done}
use Rattle.sl_model.proofs.Examples.Trees.{made, vector, begun, pushed, body, body_at, main_of, whole, alone, behind_vector}

-- int main() {
-- }
abbrev empty : Typed
empty = alone [] (body []) 0

empty_is_well : WellTyped empty
unfolding broken
empty_is_well = well empty refl

-- int main() {
--   std::vector<int> v;
--   v.push_back(1);
--   auto it = v.begin();
--   v.push_back(2);
--   int x = *it;
-- }
abbrev growth : Typed
growth = behind_vector (v.Iterator ∷ v.Scalar ∷ []) 2 (
    pushed (at 3 5) 0 0 (int 1) ∷ begun (at 4 15) 0 ∷ pushed (at 5 5) 1 0 (int 2) ∷ declares (set_scalar t.Int (held (star (at 6 11) 0))) ∷ [])

growth_is_well : WellTyped growth
unfolding broken
growth_is_well = well growth refl

-- int main() {
--   std::deque<int> d = {1, 2};
--   int& r = d.front();
--   d.push_back(3);
--   r = 5;
-- }
abbrev front_reference : Typed
front_reference = alone (v.Container ∷ v.Reference ∷ []) (body_at 1 (
    made f.Deque sequence.DEQUE_CONSTRUCTOR_LIST (at 2 3) (int 1 ∷ int 2 ∷ []) ∷
    declares (binds_reference (on sequence.DEQUE_FRONT (at 3 14) 0) none) ∷
    done (calls (on_site sequence.DEQUE_PUSH_BACK (at 4 5) 0 0) (int 3 ∷ [])) ∷
    does (assigns (reference 0 (at 5 3) 1 parts.Whole) (int 5)) ∷ [])) 2

front_reference_is_well : WellTyped front_reference
unfolding broken
front_reference_is_well = well front_reference refl

-- int main() {
--   std::map<int, int> m;
--   m.emplace(1, 2);
--   for (auto& e : m) e.second += e.first;
--   std::cout << m.at(1);
-- }
abbrev entries : Typed
entries = whole (main_of (v.Container ∷ v.Reference ∷ []) (body_at 0 (
    made f.Map associative.MAP_CONSTRUCTOR (at 2 3) [] ∷
    done (calls (on associative.MAP_EMPLACE (at 3 5) 0) (int 1 ∷ int 2 ∷ [])) ∷
    range_for 0 taken.Reference 0 (at 4 3) 0
    (does (updates o.Add t.Int t.Int (at 4 30) (reference 2 (at 4 21) 1 parts.Second) (held (reference 2 (at 4 33) 1 parts.First)))) ∷
    does (prints (number (element_of (on associative.MAP_AT (at 5 18) 0) (int 1 ∷ [])) ∷ [])) ∷ [])) ∷ []) 0 1 1

entries_is_well : WellTyped entries
unfolding broken
entries_is_well = well entries refl

-- int main() {
--   std::set<int> s = {3, 1};
--   for (int x : s) std::cout << x << std::endl;
-- }
abbrev set_by_value : Typed
set_by_value = whole (main_of (v.Container ∷ v.Scalar ∷ []) (body_at 0 (
    made f.Set associative.SET_CONSTRUCTOR_LIST (at 2 3) (int 3 ∷ int 1 ∷ []) ∷
    range_for 0 taken.Value 0 (at 3 3) 0 (does (prints (number (value 0) ∷ endline ∷ []))) ∷ [])) ∷ []) 0 1 1

set_by_value_is_well : WellTyped set_by_value
unfolding broken
set_by_value_is_well = well set_by_value refl

-- int main() {
--   std::multiset<int> s = {1, 1, 2};
--   auto lo = s.equal_range(1).first;
--   auto hi = s.equal_range(1).second;
--   s.erase(lo, hi);
-- }
abbrev equal_range : Typed
equal_range = alone (v.Container ∷ v.Iterator ∷ v.Iterator ∷ []) (body_at 1 (
    made f.MultiSet associative.MULTI_SET_CONSTRUCTOR_LIST (at 2 3) (int 1 ∷ int 1 ∷ int 2 ∷ []) ∷
    declares (set_iterator (first (at 3 29) (calls (on associative.MULTI_SET_EQUAL_RANGE (at 3 15) 0) (int 1 ∷ [])))) ∷
    declares (set_iterator (second (at 4 29) (calls (on associative.MULTI_SET_EQUAL_RANGE (at 4 15) 0) (int 1 ∷ [])))) ∷
    done (calls (on_site associative.MULTI_SET_ERASE_RANGE (at 5 5) 0 0) (iterator 0 ∷ iterator 1 ∷ [])) ∷ [])) 2

equal_range_is_well : WellTyped equal_range
unfolding broken
equal_range_is_well = well equal_range refl

-- int main() {
--   std::set<int> s;
--   bool b = s.insert(1).second;
--   auto it = s.insert(2).first;
--   s.insert(3);
-- }
abbrev insertion : Typed
insertion = alone (v.Container ∷ v.Scalar ∷ v.Iterator ∷ []) (body_at 0 (
    made f.Set associative.SET_CONSTRUCTOR (at 2 3) [] ∷
    declares (set_scalar t.Bool (second (at 3 23) (calls (on associative.SET_INSERT (at 3 14) 0) (int 1 ∷ [])))) ∷
    declares (set_iterator (first (at 4 24) (calls (on associative.SET_INSERT (at 4 15) 0) (int 2 ∷ [])))) ∷
    done (calls (on associative.SET_INSERT (at 5 5) 0) (int 3 ∷ [])) ∷ [])) 1

insertion_is_well : WellTyped insertion
unfolding broken
insertion_is_well = well insertion refl

-- int main() {
--   std::vector<int> a = {3, 1, 2};
--   std::vector<int> b;
--   std::sort(a.begin(), a.end());
--   std::copy(a.begin(), a.end(), std::back_inserter(b));
--   auto it = std::lower_bound(a.begin(), a.end(), 2);
--   std::advance(it, -1);
--   it += 1;
-- }
abbrev algorithms : Typed
algorithms = alone (v.Container ∷ v.Container ∷ v.Iterator ∷ []) (body_at 1 (
    made f.Vector sequence.VECTOR_CONSTRUCTOR_LIST (at 2 3) (int 3 ∷ int 1 ∷ int 2 ∷ []) ∷ vector (at 3 3) ∷
    done (calls (off algorithm.STD_SORT (at 4 3)) (calls (on sequence.VECTOR_BEGIN (at 4 15) 0) [] ∷
    calls (on sequence.VECTOR_END (at 4 26) 0) [] ∷ [])) ∷
    done (calls (appends algorithm.STD_COPY (at 5 3) 0)
    (calls (on sequence.VECTOR_BEGIN (at 5 15) 0) [] ∷ calls (on sequence.VECTOR_END (at 5 26) 0) [] ∷ container 1 ∷ [])) ∷
    declares (set_iterator (calls (off algorithm.STD_LOWER_BOUND (at 6 13))
    (calls (on sequence.VECTOR_BEGIN (at 6 32) 0) [] ∷ calls (on sequence.VECTOR_END (at 6 43) 0) [] ∷ int 2 ∷ []))) ∷
    done (move fixes.Prefix 0 (off algorithm.STD_ADVANCE (at 7 3)) (with (convert t.Diff (negate t.Int (at 7 20) (int 1))) none)) ∷
    done (move fixes.Prefix 0 (operator operators.AddAssign (at 8 6)) (with (convert t.Diff (int 1)) none)) ∷ [])) 2

algorithms_is_well : WellTyped algorithms
unfolding broken
algorithms_is_well = well algorithms refl

-- int main() {
--   std::vector<int> v(2);
--   for (std::size_t i = 0; i < v.size(); ++i) v[i] = true;
-- }
abbrev conversions : Typed
conversions = whole (main_of (v.Container ∷ v.Scalar ∷ []) (body_at 0 (
    made f.Vector sequence.VECTOR_CONSTRUCTOR_COUNT (at 2 3) (convert t.Size (int 2) ∷ []) ∷
    for 0 (declares_first (set_scalar t.Size (convert t.Size (int 0))))
    (test (comparison c.Less (at 3 29) (value 0) (calls (on sequence.VECTOR_SIZE (at 3 33) 0) [])))
    (Some (evaluates (increment steps.Up fixes.Prefix t.Size (at 3 41) (scalar 0 (at 3 43)))))
    (does (assigns (element (on sequence.VECTOR_SUBSCRIPT (at 3 47) 0) (with (value 0) none)) (convert t.Int (literal t.Bool (pos 1))))) ∷ [])) ∷ [])
    0 1 1

conversions_is_well : WellTyped conversions
unfolding broken
conversions_is_well = well conversions refl

-- int main() {
--   int x;
--   while (std::cin >> x) {
--     if (x == 3) continue;
--     if (x) break;
--     else std::cout << "n";
--   }
--   return 0;
-- }
abbrev ways_out : Typed
ways_out = whole (main_of (v.Scalar ∷ []) (body (
    declares (unset_scalar t.Int) ∷
    while 0 (read (0 ∷ [])) (body (
    choice (test (comparison c.Equal (at 4 11) (value 0) (int 3))) continue ∷
    choice_else (test (value 0)) break (does (prints (text (codes "n") ∷ []))) ∷ [])) ∷
    gives_back (Some (int 0)) ∷ [])) ∷ []) 0 0 1

ways_out_is_well : WellTyped ways_out
unfolding broken
ways_out_is_well = well ways_out refl

-- int main() {
--   std::unordered_map<int, int> m;
--   m[1] = m[2];
--   auto it = m.begin();
--   it->second += m.at(it->first);
-- }
abbrev new_keys : Typed
new_keys = alone (v.Container ∷ v.Iterator ∷ []) (body_at 2 (
    made f.HashMap associative.HASH_MAP_CONSTRUCTOR (at 2 3) [] ∷
    does (assigns (element (on_site associative.HASH_MAP_SUBSCRIPT (at 3 4) 0 0) (with (int 1) none))
    (element_of (on_site associative.HASH_MAP_SUBSCRIPT (at 3 11) 1 0) (int 2 ∷ []))) ∷
    declares (set_iterator (calls (on associative.HASH_MAP_BEGIN (at 4 15) 0) [])) ∷
    does (updates o.Add t.Int t.Int (at 5 14) (element (operator operators.ArrowSecond (at 5 5)) (with (iterator 0) none))
    (element_of (on associative.HASH_MAP_AT (at 5 19) 0) (element_of (operator operators.ArrowFirst (at 5 24)) (iterator 0 ∷ []) ∷ []))) ∷ [])) 3

new_keys_is_well : WellTyped new_keys
unfolding broken
new_keys_is_well = well new_keys refl

-- int main() {
--   int x = 1;
--   int y = 2;
--   std::vector<int> v = {++x, ++x};
--   int z = y + ++x;
-- }
abbrev orders : Typed
orders = alone (v.Scalar ∷ v.Scalar ∷ v.Container ∷ v.Scalar ∷ []) (body_at 0 (
    declares (set_scalar t.Int (int 1)) ∷ declares (set_scalar t.Int (int 2)) ∷
    made f.Vector sequence.VECTOR_CONSTRUCTOR_LIST (at 4 3) (
    increment steps.Up fixes.Prefix t.Int (at 4 25) (scalar 0 (at 4 27)) ∷ increment steps.Up fixes.Prefix t.Int (at 4 30) (scalar 0 (at 4 32)) ∷
    []) ∷
    declares (set_scalar t.Int (arithmetic o.Add t.Int (at 5 13) (value 1) (increment steps.Up fixes.Prefix t.Int (at 5 15) (scalar 0
    (at 5 17))))) ∷ []))
    1

orders_is_well : WellTyped orders
unfolding broken
orders_is_well = well orders refl

-- int main() {
--   std::vector<int> v;
--   std::deque<int> d = {1};
--   auto it = d.begin();
--   v.assign(2, *it);
-- }
abbrev assigned_copy : Typed
assigned_copy = behind_vector (v.Container ∷ v.Iterator ∷ []) 1 (
    made f.Deque sequence.DEQUE_CONSTRUCTOR_LIST (at 3 3) (int 1 ∷ []) ∷
    declares (set_iterator (calls (on sequence.DEQUE_BEGIN (at 4 15) 1) [])) ∷
    done (calls (on_site sequence.VECTOR_ASSIGN (at 5 5) 0 0) (convert t.Size (int 2) ∷ held (star (at 5 15) 0) ∷ [])) ∷ [])

assigned_copy_is_well : WellTyped assigned_copy
unfolding broken
assigned_copy_is_well = well assigned_copy refl

-- int main() {
--   std::map<int, int> m;
--   std::vector<int> v;
--   for (auto& e : m) {
--     v.assign(2, e.first);
--     v.assign(2, ++e.second);
--   }
-- }
abbrev assigned_parts : Typed
assigned_parts = whole (main_of (v.Container ∷ v.Container ∷ v.Reference ∷ []) (body_at 2 (
    made f.Map associative.MAP_CONSTRUCTOR (at 2 3) [] ∷ vector (at 3 3) ∷ range_for 0 taken.Reference 0 (at 4 3) 0 (body (
    done (calls (on_site sequence.VECTOR_ASSIGN (at 5 7) 0 1) (convert t.Size (int 2) ∷ held (reference 2 (at 5 17) 1 parts.First) ∷ [])) ∷
    done (calls (on_site sequence.VECTOR_ASSIGN (at 6 7) 1 1)
    (convert t.Size (int 2) ∷ increment steps.Up fixes.Prefix t.Int (at 6 17) (reference 2 (at 6 19) 1 parts.Second) ∷ [])) ∷ [])) ∷ [])) ∷ []) 0 3 1

assigned_parts_is_well : WellTyped assigned_parts
unfolding broken
assigned_parts_is_well = well assigned_parts refl

-- int main() {
--   std::vector<int> v;
--   .. 16 vectors, 32 iterators and 48 numbers ..
-- }
abbrev full_scope : Typed
full_scope = alone (replicate 16 v.Container ++ replicate 32 v.Iterator ++ replicate 48 v.Scalar)
    (body_at 0 (replicate 16 (vector (at 2 3)) ++ replicate 32 (begun (at 3 15) 0) ++ replicate 48 (declares (unset_scalar t.Int)))) 1

full_scope_is_well : WellTyped full_scope
unfolding broken
full_scope_is_well = well full_scope refl

-- Texts that write what is const, a key or an element of a set, that need a stronger iterator, or that use a reference or a container for elements
-- alone as what it isn't; all other parts of being well typed hold. The text of each stands above its tree.
use Rattle.std.specs.Prelude.{◌≡◌, refl, true, [], ◌∷◌, None}
use Rattle.sl_base.specs.declared.scalar.Scalar.TheVariants as t
use Rattle.sl_base.specs.declared.form.Form.TheVariants as f
use Rattle.sl_specs.specs.declared.rows.sequences.TheConstants as sequence
use Rattle.sl_specs.specs.declared.rows.associative.TheConstants as associative
use Rattle.sl_specs.specs.declared.rows.algorithms.TheConstants as algorithm
use Rattle.sl_syntax.specs.declared.operator.Access.TheVariants as a
use Rattle.sl_syntax.specs.declared.typed.element.ElementPart.TheVariants as parts
use Rattle.sl_syntax.specs.declared.typed.element.Taken.TheVariants as taken
use Rattle.sl_syntax.specs.declared.typed.operator.Operator.TheVariants as operators
use Rattle.sl_syntax.specs.declared.typed.parameter.ParameterKind.TheVariants as k
use Rattle.sl_syntax.specs.declared.typed.step.Fix.TheVariants as fixes
use Rattle.sl_syntax.specs.declared.typed.step.Step.TheVariants as steps
use Rattle.sl_syntax.specs.declared.typed.variable.VariableKind.TheVariants as v
use Rattle.sl_syntax.specs.Typed.{held, iterator, convert, increment, move, own_call, container, reference, element, none, with, assigns}
use Rattle.sl_syntax.specs.Typed.{set_scalar, set_iterator, binds_reference, declares, range_for, does, Typed}
use Rattle.sl_model.proofs.Examples.Trees.{Types, broken, at, on, on_site, off, operator, int, value, calls, element_of, star, done, made}
use Rattle.sl_model.proofs.Examples.Trees.{begun, pushed, body, body_at, function, main_of, whole, alone, behind_vector}

-- void f(const std::vector<int>& v) {
--   v.push_back(1);
-- }
-- int main() {
-- }
abbrev const_changed : Typed
const_changed = whole (function (k.Container a.Const f.Vector ∷ []) None (v.Container ∷ []) (body (pushed (at 2 5) 0 0 (int 1) ∷ [])) ∷
    main_of [] (body []) ∷ []) 1 1 0

const_changed_is_not : broken const_changed ≡ Types ∷ []
unfolding broken
const_changed_is_not = refl

-- void f(const std::vector<int>& v) {
--   v.front() = 1;
-- }
-- int main() {
-- }
abbrev const_element_written : Typed
const_element_written = whole (function (k.Container a.Const f.Vector ∷ []) None (v.Container ∷ [])
    (body (does (assigns (element (on sequence.VECTOR_FRONT (at 2 5) 0) none) (int 1)) ∷ [])) ∷ main_of [] (body []) ∷ []) 1 0 0

const_element_written_is_not : broken const_element_written ≡ Types ∷ []
unfolding broken
const_element_written_is_not = refl

-- void f(std::vector<int>::const_iterator it) {
--   *it = 1;
-- }
-- int main() {
-- }
abbrev const_iterator_written : Typed
const_iterator_written = whole (function (k.Iterator true f.Vector ∷ []) None (v.Iterator ∷ []) (body (does (assigns (star (at 2 3) 0) (int 1)) ∷
    [])) ∷
    main_of [] (body []) ∷ []) 1 0 0

const_iterator_written_is_not : broken const_iterator_written ≡ Types ∷ []
unfolding broken
const_iterator_written_is_not = refl

-- void f(std::vector<int>& v) {
-- }
-- void g(const std::vector<int>& v) {
--   f(v);
-- }
-- int main() {
-- }
abbrev const_handed : Typed
const_handed = whole (function (k.Container a.Whole f.Vector ∷ []) None (v.Container ∷ []) (body []) ∷
    function (k.Container a.Const f.Vector ∷ []) None (v.Container ∷ []) (body (done (own_call 0 (at 4 3) (with (container 0) none)) ∷ [])) ∷
    main_of [] (body []) ∷ []) 2 0 0

const_handed_is_not : broken const_handed ≡ Types ∷ []
unfolding broken
const_handed_is_not = refl

-- void f(const std::vector<int>& v, std::vector<int>& w) {
--   w.swap(v);
-- }
-- int main() {
-- }
abbrev const_swapped : Typed
const_swapped = whole (function (k.Container a.Const f.Vector ∷ k.Container a.Whole f.Vector ∷ []) None (v.Container ∷ v.Container ∷ [])
    (body (done (calls (on_site sequence.VECTOR_SWAP (at 2 5) 0 1) (container 0 ∷ [])) ∷ [])) ∷ main_of [] (body []) ∷ []) 1 1 0

const_swapped_is_not : broken const_swapped ≡ Types ∷ []
unfolding broken
const_swapped_is_not = refl

-- void f(const std::map<int, int>& m) {
--   int x = m[1];
-- }
-- int main() {
-- }
abbrev const_subscript : Typed
const_subscript = whole (function (k.Container a.Const f.Map ∷ []) None (v.Container ∷ v.Scalar ∷ [])
    (body (declares (set_scalar t.Int (element_of (on associative.MAP_SUBSCRIPT (at 2 12) 0) (int 1 ∷ []))) ∷ [])) ∷ main_of [] (body []) ∷ []) 1 0 0

const_subscript_is_not : broken const_subscript ≡ Types ∷ []
unfolding broken
const_subscript_is_not = refl

-- int main() {
--   std::set<int> s = {1};
--   auto it = s.begin();
--   *it = 2;
-- }
abbrev set_written : Typed
set_written = alone (v.Container ∷ v.Iterator ∷ []) (body_at 0 (made f.Set associative.SET_CONSTRUCTOR_LIST (at 2 3) (int 1 ∷ []) ∷
    declares (set_iterator (calls (on associative.SET_BEGIN (at 3 15) 0) [])) ∷ does (assigns (star (at 4 3) 0) (int 2)) ∷ [])) 1

set_written_is_not : broken set_written ≡ Types ∷ []
unfolding broken
set_written_is_not = refl

-- int main() {
--   std::map<int, int> m;
--   auto it = m.begin();
--   it->first = 1;
-- }
abbrev key_written : Typed
key_written = alone (v.Container ∷ v.Iterator ∷ []) (body_at 0 (made f.Map associative.MAP_CONSTRUCTOR (at 2 3) [] ∷
    declares (set_iterator (calls (on associative.MAP_BEGIN (at 3 15) 0) [])) ∷
    does (assigns (element (operator operators.ArrowFirst (at 4 5)) (with (iterator 0) none)) (int 1)) ∷ [])) 1

key_written_is_not : broken key_written ≡ Types ∷ []
unfolding broken
key_written_is_not = refl

-- int main() {
--   std::set<int> s = {1};
--   for (auto& x : s) ++x;
-- }
abbrev set_element_stepped : Typed
set_element_stepped = whole (main_of (v.Container ∷ v.Reference ∷ []) (body_at 0 (made f.Set associative.SET_CONSTRUCTOR_LIST (at 2 3) (int 1 ∷ []) ∷
    range_for 0 taken.Reference 0 (at 3 3) 0 (done (increment steps.Up fixes.Prefix t.Int (at 3 21) (reference 2 (at 3 23) 1 parts.Whole))) ∷
    [])) ∷ [])
    0 1 1

set_element_stepped_is_not : broken set_element_stepped ≡ Types ∷ []
unfolding broken
set_element_stepped_is_not = refl

-- int main() {
--   std::map<int, int> m;
--   for (auto& e : m) e.first = 1;
-- }
abbrev entry_key_written : Typed
entry_key_written = whole (main_of (v.Container ∷ v.Reference ∷ []) (body_at 0 (made f.Map associative.MAP_CONSTRUCTOR (at 2 3) [] ∷
    range_for 0 taken.Reference 0 (at 3 3) 0 (does (assigns (reference 2 (at 3 21) 1 parts.First) (int 1))) ∷ [])) ∷ []) 0 1 1

entry_key_written_is_not : broken entry_key_written ≡ Types ∷ []
unfolding broken
entry_key_written_is_not = refl

-- int main() {
--   std::vector<int> v;
--   int& r = v.front();
--   int x = r.first;
-- }
abbrev part_of_int : Typed
part_of_int = behind_vector (v.Reference ∷ v.Scalar ∷ []) 0 (declares (binds_reference (on sequence.VECTOR_FRONT (at 3 14) 0) none) ∷
    declares (set_scalar t.Int (held (reference 0 (at 4 11) 1 parts.First))) ∷ [])

part_of_int_is_not : broken part_of_int ≡ Types ∷ []
unfolding broken
part_of_int_is_not = refl

-- int main() {
--   std::vector<int> v;
--   int& r = v.front();
--   *r;
-- }
abbrev reference_as_iterator : Typed
reference_as_iterator = behind_vector (v.Reference ∷ []) 0 (declares (binds_reference (on sequence.VECTOR_FRONT (at 3 14) 0) none) ∷
    done (held (star (at 4 3) 0)) ∷ [])

reference_as_iterator_is_not : broken reference_as_iterator ≡ Types ∷ []
unfolding broken
reference_as_iterator_is_not = refl

-- int main() {
--   std::vector<int> v;
--   auto it = v.begin();
--   int x = it;                 as a use of a reference
-- }
abbrev iterator_as_reference : Typed
iterator_as_reference = behind_vector (v.Iterator ∷ v.Scalar ∷ []) 0 (begun (at 3 15) 0 ∷
    declares (set_scalar t.Int (held (reference 0 (at 4 11) 1 parts.Whole))) ∷ [])

iterator_as_reference_is_not : broken iterator_as_reference ≡ Types ∷ []
unfolding broken
iterator_as_reference_is_not = refl

-- int main() {
--   std::unordered_set<int> s;
--   auto it = s.begin();
--   --it;
-- }
abbrev hash_step_back : Typed
hash_step_back = alone (v.Container ∷ v.Iterator ∷ []) (body_at 0 (made f.HashSet associative.HASH_SET_CONSTRUCTOR (at 2 3) [] ∷
    declares (set_iterator (calls (on associative.HASH_SET_BEGIN (at 3 15) 0) [])) ∷
    done (move fixes.Prefix 0 (operator operators.Decrement (at 4 3)) none) ∷ [])) 1

hash_step_back_is_not : broken hash_step_back ≡ Types ∷ []
unfolding broken
hash_step_back_is_not = refl

-- int main() {
--   std::list<int> l;
--   auto it = l.begin() + 1;
-- }
abbrev list_sum : Typed
list_sum = alone (v.Container ∷ v.Iterator ∷ []) (body_at 0 (made f.List sequence.LIST_CONSTRUCTOR (at 2 3) [] ∷
    declares (set_iterator (calls (operator operators.Add (at 3 23)) (calls (on sequence.LIST_BEGIN (at 3 15) 0) [] ∷ convert t.Diff (int 1) ∷
    []))) ∷ []))
    1

list_sum_is_not : broken list_sum ≡ Types ∷ []
unfolding broken
list_sum_is_not = refl

-- int main() {
--   std::list<int> l;
--   std::sort(l.begin(), l.end());
-- }
abbrev list_sorted : Typed
list_sorted = alone (v.Container ∷ []) (body_at 0 (made f.List sequence.LIST_CONSTRUCTOR (at 2 3) [] ∷
    done (calls (off algorithm.STD_SORT (at 3 3)) (calls (on sequence.LIST_BEGIN (at 3 15) 0) [] ∷ calls (on sequence.LIST_END (at 3 26) 0) [] ∷
    [])) ∷ []))
    1

list_sorted_is_not : broken list_sorted ≡ Types ∷ []
unfolding broken
list_sorted_is_not = refl

-- A container that is handed for its elements alone is asked for its size:
-- void f(std::vector<int>& v) {
--   v.size();
-- }
-- int main() {
-- }
abbrev elements_asked : Typed
elements_asked = whole (function (k.Container a.Elements f.Vector ∷ []) None (v.Container ∷
    []) (body (done (calls (on sequence.VECTOR_SIZE (at 2 5) 0) []) ∷ [])) ∷
    main_of [] (body []) ∷ []) 1 0 0

elements_asked_is_not : broken elements_asked ≡ Types ∷ []
unfolding broken
elements_asked_is_not = refl

-- The same stands as a statement.
abbrev elements_named : Typed
elements_named = whole (function (k.Container a.Elements f.Vector ∷ []) None (v.Container ∷ []) (body (done (container 0) ∷ [])) ∷
    main_of [] (body []) ∷ []) 1 0 0

elements_named_is_not : broken elements_named ≡ Types ∷ []
unfolding broken
elements_named_is_not = refl

-- The same is handed to a const reference.
-- void g(const std::vector<int>& v) {
-- }
-- void f(std::vector<int>& v) {
--   g(v);
-- }
-- int main() {
-- }
abbrev elements_handed : Typed
elements_handed = whole (function (k.Container a.Const f.Vector ∷ []) None (v.Container ∷ []) (body []) ∷
    function (k.Container a.Elements f.Vector ∷ []) None (v.Container ∷ []) (body (done (own_call 0 (at 4 3) (with (container 0) none)) ∷ [])) ∷
    main_of [] (body []) ∷ []) 2 0 0

elements_handed_is_not : broken elements_handed ≡ Types ∷ []
unfolding broken
elements_handed_is_not = refl

-- The same is gone over.
-- void f(std::vector<int>& v) {
--   for (int x : v) x;
-- }
-- int main() {
-- }
abbrev elements_gone_over : Typed
elements_gone_over = whole (function (k.Container a.Elements f.Vector ∷ []) None (v.Container ∷ v.Scalar ∷ []) (body (
    range_for 0 taken.Value 0 (at 2 3) 0 (done (value 0)) ∷ [])) ∷ main_of [] (body []) ∷ []) 1 0 1

elements_gone_over_is_not : broken elements_gone_over ≡ Types ∷ []
unfolding broken
elements_gone_over_is_not = refl

-- Texts of several functions that are well typed. The text of each stands above its tree.
use Rattle.std.specs.Prelude.{refl, true, false, [], ◌∷◌, Some, None}
use Rattle.sl_base.specs.declared.scalar.Scalar.TheVariants as t
use Rattle.sl_base.specs.declared.form.Form.TheVariants as f
use Rattle.sl_specs.specs.declared.rows.sequences.TheConstants as sequence
use Rattle.sl_specs.specs.declared.rows.algorithms.TheConstants as algorithm
use Rattle.sl_syntax.specs.declared.operator.Access.TheVariants as a
use Rattle.sl_syntax.specs.declared.operator.Arithmetic.TheVariants as o
use Rattle.sl_syntax.specs.declared.operator.Comparison.TheVariants as c
use Rattle.sl_syntax.specs.declared.typed.operator.Operator.TheVariants as operators
use Rattle.sl_syntax.specs.declared.typed.parameter.ParameterKind.TheVariants as k
use Rattle.sl_syntax.specs.declared.typed.step.Fix.TheVariants as fixes
use Rattle.sl_syntax.specs.declared.typed.variable.VariableKind.TheVariants as v
use Rattle.sl_syntax.specs.Typed.{held, iterator, arithmetic, move, own_call, container, handed_scalar, scalar, none, with, test, updates}
use Rattle.sl_syntax.specs.Typed.{set_scalar, set_iterator, declares, while, gives_back, does, Typed, operands_from}
use Rattle.sl_model.specs.Typing.WellTyped.{WellTyped}
use Rattle.sl_model.proofs.Examples.Trees.{well, broken, at, on, on_site, off, operator, int, value, calls, element_of, star, done, made}
use Rattle.sl_model.proofs.Examples.Trees.{vector, begun, pushed, body, body_at, function, main_of, whole}

-- void f(const std::vector<int>& v) {
--   std::vector<int> w;
--   w = v;
-- }
-- int main() {
-- }
abbrev copy_of_const : Typed
copy_of_const = whole (
    function (k.Container a.Const f.Vector ∷ []) None (v.Container ∷ v.Container ∷ [])
    (body_at 1 (vector (at 2 3) ∷ done (calls (on_site sequence.VECTOR_ASSIGNMENT (at 3 5) 0 1) (container 0 ∷ [])) ∷ [])) ∷
    main_of [] (body []) ∷ []) 1 2 0

copy_of_const_is_well : WellTyped copy_of_const
unfolding broken
copy_of_const_is_well = well copy_of_const refl

-- int f(const std::vector<int>& v) {
--   auto it = v.begin();
--   return *it + v.front();
-- }
-- int main() {
-- }
abbrev read_of_const : Typed
read_of_const = whole (
    function (k.Container a.Const f.Vector ∷ []) (Some (k.Value t.Int)) (v.Container ∷ v.Iterator ∷ []) (body (
    begun (at 2 15) 0 ∷
    gives_back (Some (arithmetic o.Add t.Int (at 3 14) (held (star (at 3 10) 0)) (element_of (on sequence.VECTOR_FRONT (at 3 18) 0) []))) ∷ [])) ∷
    main_of [] (body []) ∷ []) 1 0 0

read_of_const_is_well : WellTyped read_of_const
unfolding broken
read_of_const_is_well = well read_of_const refl

-- int f(std::vector<int>::iterator it, std::vector<int>::iterator end) {
--   int s = 0;
--   while (it != end) {
--     s += *it;
--     ++it;
--   }
--   return s;
-- }
-- int main() {
--   std::vector<int> v = {1, 2, 3};
--   int x = f(v.begin(), v.end());
-- }
abbrev iterator_parameters : Typed
iterator_parameters = whole (
    function (k.Iterator false f.Vector ∷ k.Iterator false f.Vector ∷ []) (Some (k.Value t.Int)) (v.Iterator ∷ v.Iterator ∷ v.Scalar ∷ []) (body (
    declares (set_scalar t.Int (int 0)) ∷
    while 0 (test (calls (operator (operators.Compare c.NotEqual) (at 3 13)) (iterator 0 ∷ iterator 1 ∷ []))) (body (
    does (updates o.Add t.Int t.Int (at 4 7) (scalar 0 (at 4 5)) (held (star (at 4 10) 0))) ∷
    done (move fixes.Prefix 0 (operator operators.Increment (at 5 5)) none) ∷ [])) ∷
    gives_back (Some (value 0)) ∷ [])) ∷
    main_of (v.Container ∷ v.Scalar ∷ []) (body_at 0 (
    made f.Vector sequence.VECTOR_CONSTRUCTOR_LIST (at 10 3) (int 1 ∷ int 2 ∷ int 3 ∷ []) ∷
    declares (set_scalar t.Int (own_call 0 (at 11 11) (operands_from (
    calls (on sequence.VECTOR_BEGIN (at 11 15) 0) [] ∷ calls (on sequence.VECTOR_END (at 11 26) 0) [] ∷ [])))) ∷ [])) ∷ []) 1 1 1

iterator_parameters_is_well : WellTyped iterator_parameters
unfolding broken
iterator_parameters_is_well = well iterator_parameters refl

-- std::vector<int>::const_iterator f(std::vector<int>::const_iterator it) {
--   return it;
-- }
-- int main() {
--   std::vector<int> v;
--   auto jt = f(v.begin());
-- }
abbrev const_iterator : Typed
const_iterator = whole (
    function (k.Iterator true f.Vector ∷ []) (Some (k.Iterator true f.Vector)) (v.Iterator ∷ []) (body (gives_back (Some (iterator 0)) ∷ [])) ∷
    main_of (v.Container ∷ v.Iterator ∷ []) (body_at 0 (vector (at 5 3) ∷
    declares (set_iterator (own_call 0 (at 6 13) (with (calls (on sequence.VECTOR_BEGIN (at 6 17) 0) []) none))) ∷ [])) ∷ []) 1 1 0

const_iterator_is_well : WellTyped const_iterator
unfolding broken
const_iterator_is_well = well const_iterator refl

-- One vector is added to a function with an iterator, for its elements alone, and handed on:
-- void f(std::vector<int>::iterator it, std::vector<int>& v) {
--   f(it, v);
-- }
-- int main() {
--   std::vector<int> v = {1};
--   f(v.erase(v.begin()), v);
-- }
abbrev elements_alone : Typed
elements_alone = whole (
    function (k.Iterator false f.Vector ∷ k.Container a.Elements f.Vector ∷ []) None (v.Iterator ∷ v.Container ∷ [])
    (body (done (own_call 0 (at 2 3) (operands_from (iterator 0 ∷ container 0 ∷ []))) ∷ [])) ∷
    main_of (v.Container ∷ []) (body_at 1 (
    made f.Vector sequence.VECTOR_CONSTRUCTOR_LIST (at 5 3) (int 1 ∷ []) ∷
    done (own_call 0 (at 6 3) (operands_from (
    calls (on_site sequence.VECTOR_ERASE (at 6 7) 0 0) (calls (on sequence.VECTOR_BEGIN (at 6 15) 0) [] ∷ []) ∷ container 0 ∷ []))) ∷ [])) ∷ []) 1 2 0

elements_alone_is_well : WellTyped elements_alone
unfolding broken
elements_alone_is_well = well elements_alone refl

-- Two copies of one function, which share its sites and loops:
-- void f(std::vector<int>& v) {
--   while (v.empty()) v.push_back(1);
-- }
-- int main() {
-- }
abbrev copies : Typed
copies = let copy = function (k.Container a.Whole f.Vector ∷ []) None (v.Container ∷ []) (body (
    while 0 (test (calls (on sequence.VECTOR_EMPTY (at 2 12) 0) [])) (pushed (at 2 23) 0 0 (int 1)) ∷ [])) in
    whole (copy ∷ copy ∷ main_of [] (body []) ∷ []) 2 1 1

copies_is_well : WellTyped copies
unfolding broken
copies_is_well = well copies refl

-- A function is called that stands behind its caller, as two copies may call each other:
-- void f() {
--   g();
-- }
-- void g() {
--   f();
-- }
-- int main() {
-- }
abbrev later_call : Typed
later_call = whole (
    function [] None [] (body (done (own_call 1 (at 2 3) none) ∷ [])) ∷ function [] None [] (body (done (own_call 0 (at 5 3) none) ∷ [])) ∷
    main_of [] (body []) ∷ []) 2 0 0

later_call_is_well : WellTyped later_call
unfolding broken
later_call_is_well = well later_call refl

-- int f(int& x) {
--   return x;
-- }
-- int g(int x, int y) {
--   return x;
-- }
-- int main() {
--   std::vector<int> v = {1};
--   int x = 1;
--   int y = g(f(x), 2);
--   std::ptrdiff_t n = std::unique(v.begin(), v.end()) - v.begin();
-- }
abbrev orders_of_calls : Typed
orders_of_calls = whole (
    function (k.Reference t.Int ∷ []) (Some (k.Value t.Int)) (v.Scalar ∷ []) (body (gives_back (Some (value 0)) ∷ [])) ∷
    function (k.Value t.Int ∷ k.Value t.Int ∷ []) (Some (k.Value t.Int)) (v.Scalar ∷ v.Scalar ∷ []) (body (gives_back (Some (value 0)) ∷ [])) ∷
    main_of (v.Container ∷ v.Scalar ∷ v.Scalar ∷ v.Scalar ∷ []) (body_at 0 (
    made f.Vector sequence.VECTOR_CONSTRUCTOR_LIST (at 8 3) (int 1 ∷ []) ∷ declares (set_scalar t.Int (int 1)) ∷
    declares (set_scalar t.Int (own_call 1 (at 10 11) (operands_from (own_call 0 (at 10 13) (with (handed_scalar 0) none) ∷ int 2 ∷ [])))) ∷
    declares (set_scalar t.Diff (calls (operator operators.Difference (at 11 54)) (
    calls (off algorithm.STD_UNIQUE (at 11 22)) (calls (on sequence.VECTOR_BEGIN (at 11 36) 0) [] ∷
    calls (on sequence.VECTOR_END (at 11 47) 0) [] ∷ []) ∷
    calls (on sequence.VECTOR_BEGIN (at 11 58) 0) [] ∷ []))) ∷ [])) ∷ []) 2 1 0

orders_of_calls_is_well : WellTyped orders_of_calls
unfolding broken
orders_of_calls_is_well = well orders_of_calls refl

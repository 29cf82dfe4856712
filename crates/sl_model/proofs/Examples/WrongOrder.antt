-- Texts that bind one variable to two references of a call, or in which an open order of effects could matter; all other parts of being well typed
-- hold. The text of each stands above its tree.
use Rattle.std.specs.Prelude.{◌≡◌, refl, [], ◌∷◌, Some, None}
use Rattle.sl_base.specs.declared.scalar.Scalar.TheVariants as t
use Rattle.sl_base.specs.declared.form.Form.TheVariants as f
use Rattle.sl_specs.specs.declared.rows.sequences.TheConstants as sequence
use Rattle.sl_specs.specs.declared.rows.algorithms.TheConstants as algorithm
use Rattle.sl_syntax.specs.declared.operator.Access.TheVariants as a
use Rattle.sl_syntax.specs.declared.operator.Arithmetic.TheVariants as o
use Rattle.sl_syntax.specs.declared.operator.Comparison.TheVariants as c
use Rattle.sl_syntax.specs.declared.typed.element.ElementPart.TheVariants as parts
use Rattle.sl_syntax.specs.declared.typed.operator.Operator.TheVariants as operators
use Rattle.sl_syntax.specs.declared.typed.parameter.ParameterKind.TheVariants as k
use Rattle.sl_syntax.specs.declared.typed.step.Fix.TheVariants as fixes
use Rattle.sl_syntax.specs.declared.typed.step.Step.TheVariants as steps
use Rattle.sl_syntax.specs.declared.typed.variable.VariableKind.TheVariants as v
use Rattle.sl_syntax.specs.Typed.{held, iterator, convert, arithmetic, increment, move, own_call, container, handed_scalar, scalar}
use Rattle.sl_syntax.specs.Typed.{reference, element, none, with, unset_scalar, set_scalar, binds_reference, declares, gives_back, Typed}
use Rattle.sl_syntax.specs.Typed.{operands_from}
use Rattle.sl_model.proofs.Examples.Trees.{Alias, Order, broken, at, on, off, appends, operator, int, value, calls, done, made, vector}
use Rattle.sl_model.proofs.Examples.Trees.{begun, body, body_at, function, main_of, whole, alone, behind_vector}

-- void f(const std::vector<int>& a, const std::vector<int>& b) {
-- }
-- int main() {
--   std::vector<int> v;
--   f(v, v);
-- }
abbrev one_vector_twice : Typed
one_vector_twice = whole (function (k.Container a.Const f.Vector ∷ k.Container a.Const f.Vector ∷ []) None (v.Container ∷ v.Container ∷
    []) (body []) ∷
    main_of (v.Container ∷ []) (body_at 0 (vector (at 4 3) ∷ done (own_call 0 (at 5 3) (with (container 0) (with (container 0) none))) ∷ [])) ∷
    []) 1 1 0

one_vector_twice_is_not : broken one_vector_twice ≡ Alias ∷ []
unfolding broken
one_vector_twice_is_not = refl

-- void f(int& a, int& b) {
-- }
-- int main() {
--   int x;
--   f(x, x);
-- }
abbrev one_scalar_twice : Typed
one_scalar_twice = whole (function (k.Reference t.Int ∷ k.Reference t.Int ∷ []) None (v.Scalar ∷ v.Scalar ∷ []) (body []) ∷
    main_of (v.Scalar ∷ []) (body (declares (unset_scalar t.Int) ∷
    done (own_call 0 (at 5 3) (with (handed_scalar 0) (with (handed_scalar 0) none))) ∷ [])) ∷
    []) 1 0 0

one_scalar_twice_is_not : broken one_scalar_twice ≡ Alias ∷ []
unfolding broken
one_scalar_twice_is_not = refl

-- int main() {
--   int x = 1;
--   int y = x + ++x;
-- }
abbrev changed_beside_name : Typed
changed_beside_name = alone (v.Scalar ∷ v.Scalar ∷ []) (body (declares (set_scalar t.Int (int 1)) ∷
    declares (set_scalar t.Int (arithmetic o.Add t.Int (at 3 13) (value 0) (increment steps.Up fixes.Prefix t.Int (at 3 15) (scalar 0
    (at 3 17))))) ∷ [])) 0

changed_beside_name_is_not : broken changed_beside_name ≡ Order ∷ []
unfolding broken
changed_beside_name_is_not = refl

-- int main() {
--   std::list<int> l;
--   l.insert(l.begin(), 1) == l.begin();
-- }
abbrev changed_beside_call : Typed
changed_beside_call = alone (v.Container ∷ []) (body_at 0 (made f.List sequence.LIST_CONSTRUCTOR (at 2 3) [] ∷
    done (calls (operator (operators.Compare c.Equal) (at 3 26))
    (calls (on sequence.LIST_INSERT (at 3 5) 0) (calls (on sequence.LIST_BEGIN (at 3 14) 0) [] ∷ int 1 ∷ []) ∷
    calls (on sequence.LIST_BEGIN (at 3 31) 0) [] ∷ [])) ∷ [])) 1

changed_beside_call_is_not : broken changed_beside_call ≡ Order ∷ []
unfolding broken
changed_beside_call_is_not = refl

-- int f(std::vector<int>& v) {
--   return 1;
-- }
-- void g(int x, const std::vector<int>& v) {
-- }
-- int main() {
--   std::vector<int> v;
--   g(f(v), v);
-- }
abbrev called_beside_vector : Typed
called_beside_vector = whole (function (k.Container a.Whole f.Vector ∷ []) (Some (k.Value t.Int)) (v.Container ∷
    []) (body (gives_back (Some (int 1)) ∷ [])) ∷
    function (k.Value t.Int ∷ k.Container a.Const f.Vector ∷ []) None (v.Scalar ∷ v.Container ∷ []) (body []) ∷
    main_of (v.Container ∷ []) (body_at 0 (vector (at 7 3) ∷
    done (own_call 1 (at 8 3) (operands_from (own_call 0 (at 8 5) (with (container 0) none) ∷ container 0 ∷ []))) ∷ [])) ∷ []) 2 1 0

called_beside_vector_is_not : broken called_beside_vector ≡ Order ∷ []
unfolding broken
called_beside_vector_is_not = refl

-- int main() {
--   std::vector<int> v;
--   std::unique(v.begin(), v.end()) - std::next(v.begin());
-- }
abbrev written_beside_read : Typed
written_beside_read = behind_vector [] 0 (
    done (calls (operator operators.Difference (at 3 35)) (
    calls (off algorithm.STD_UNIQUE (at 3 3)) (calls (on sequence.VECTOR_BEGIN (at 3 17) 0) [] ∷ calls (on sequence.VECTOR_END (at 3 28) 0) [] ∷ []) ∷
    calls (off algorithm.STD_NEXT (at 3 37)) (calls (on sequence.VECTOR_BEGIN (at 3 49) 0) [] ∷ []) ∷ [])) ∷ [])

written_beside_read_is_not : broken written_beside_read ≡ Order ∷ []
unfolding broken
written_beside_read_is_not = refl

-- int main() {
--   std::vector<int> v;
--   int& r = v.front();
--   int x = 1;
--   r + ++x;
-- }
abbrev use_beside_change : Typed
use_beside_change = behind_vector (v.Reference ∷ v.Scalar ∷ []) 0 (declares (binds_reference (on sequence.VECTOR_FRONT (at 3 14) 0) none) ∷
    declares (set_scalar t.Int (int 1)) ∷
    done (arithmetic o.Add t.Int (at 5 5) (held (reference 0 (at 5 3) 1 parts.Whole))
    (increment steps.Up fixes.Prefix t.Int (at 5 7) (scalar 0 (at 5 9)))) ∷ [])

use_beside_change_is_not : broken use_beside_change ≡ Order ∷ []
unfolding broken
use_beside_change_is_not = refl

-- int main() {
--   std::vector<int> v;
--   auto it = v.begin();
--   auto jt = v.begin();
--   std::copy(++it, jt, std::back_inserter(v));
-- }
abbrev change_beside_appender : Typed
change_beside_appender = behind_vector (v.Iterator ∷ v.Iterator ∷ []) 1 (begun (at 3 15) 0 ∷ begun (at 4 15) 0 ∷
    done (calls (appends algorithm.STD_COPY (at 5 3) 0)
    (move fixes.Prefix 0 (operator operators.Increment (at 5 13)) none ∷ iterator 1 ∷ container 0 ∷ [])) ∷ [])

change_beside_appender_is_not : broken change_beside_appender ≡ Order ∷ []
unfolding broken
change_beside_appender_is_not = refl

-- int f(int& x) {
--   return x;
-- }
-- int main() {
--   int x = 1;
--   int y = x + f(x);
-- }
abbrev call_beside_its_scalar : Typed
call_beside_its_scalar = whole (
    function (k.Reference t.Int ∷ []) (Some (k.Value t.Int)) (v.Scalar ∷ []) (body (gives_back (Some (value 0)) ∷ [])) ∷
    main_of (v.Scalar ∷ v.Scalar ∷ []) (body (declares (set_scalar t.Int (int 1)) ∷
    declares (set_scalar t.Int (arithmetic o.Add t.Int (at 6 13) (value 0) (own_call 0 (at 6 15) (with (handed_scalar 0) none)))) ∷ [])) ∷ []) 1 0 0

call_beside_its_scalar_is_not : broken call_beside_its_scalar ≡ Order ∷ []
unfolding broken
call_beside_its_scalar_is_not = refl

-- void f(int x, const std::vector<int>& v) {
-- }
-- int main() {
--   std::vector<int> v = {1};
--   f(++v[0], v);
-- }
abbrev stepped_beside_vector : Typed
stepped_beside_vector = whole (
    function (k.Value t.Int ∷ k.Container a.Const f.Vector ∷ []) None (v.Scalar ∷ v.Container ∷ []) (body []) ∷
    main_of (v.Container ∷ []) (body_at 0 (made f.Vector sequence.VECTOR_CONSTRUCTOR_LIST (at 4 3) (int 1 ∷ []) ∷
    done (own_call 0 (at 5 3) (operands_from (
    increment steps.Up fixes.Prefix t.Int (at 5 5) (element (on sequence.VECTOR_SUBSCRIPT (at 5 8) 0) (with (convert t.Size (int 0)) none)) ∷
    container 0 ∷ []))) ∷ [])) ∷ []) 1 1 0

stepped_beside_vector_is_not : broken stepped_beside_vector ≡ Order ∷ []
unfolding broken
stepped_beside_vector_is_not = refl

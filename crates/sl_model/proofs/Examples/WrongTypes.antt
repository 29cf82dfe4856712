-- Texts in which one operand, row, variable or function isn't what its node needs; all other parts of being well typed hold. The text of each stands
-- above its tree.
use Rattle.std.specs.Prelude.{◌≡◌, refl, false, [], ◌∷◌, pos, None}
use Rattle.sl_base.specs.declared.scalar.Scalar.TheVariants as t
use Rattle.sl_base.specs.declared.form.Form.TheVariants as f
use Rattle.sl_specs.specs.declared.rows.sequences.TheConstants as sequence
use Rattle.sl_specs.specs.declared.rows.associative.TheConstants as associative
use Rattle.sl_specs.specs.declared.rows.algorithms.TheConstants as algorithm
use Rattle.sl_syntax.specs.declared.operator.Access.TheVariants as a
use Rattle.sl_syntax.specs.declared.operator.Arithmetic.TheVariants as o
use Rattle.sl_syntax.specs.declared.operator.Comparison.TheVariants as c
use Rattle.sl_syntax.specs.declared.typed.element.ElementPart.TheVariants as parts
use Rattle.sl_syntax.specs.declared.typed.operator.Operator.TheVariants as operators
use Rattle.sl_syntax.specs.declared.typed.parameter.ParameterKind.TheVariants as k
use Rattle.sl_syntax.specs.declared.typed.step.Fix.TheVariants as fixes
use Rattle.sl_syntax.specs.declared.typed.step.Step.TheVariants as steps
use Rattle.sl_syntax.specs.declared.typed.variable.VariableKind.TheVariants as v
use Rattle.sl_syntax.specs.Typed.{literal, held, convert, increment, move, own_call, second, container, handed_scalar, scalar, reference}
use Rattle.sl_syntax.specs.Typed.{none, with, reads, updates, moves_to, unset_scalar, set_scalar, set_iterator, binds_reference, declares}
use Rattle.sl_syntax.specs.Typed.{does, Typed}
use Rattle.sl_model.proofs.Examples.Trees.{Types, broken, at, on, on_site, off, appends, operator, int, value, calls, element_of, star}
use Rattle.sl_model.proofs.Examples.Trees.{done, made, begun, pushed, body, body_at, function, main_of, whole, alone, behind_vector}

-- int main() {
--   std::vector<int> v;
--   v.push_back(true);          without the conversion
-- }
abbrev unconverted_element : Typed
unconverted_element = behind_vector [] 1 (pushed (at 3 5) 0 0 (literal t.Bool (pos 1)) ∷ [])

unconverted_element_is_not : broken unconverted_element ≡ Types ∷ []
unfolding broken
unconverted_element_is_not = refl

-- int main() {
--   std::vector<int> v;
--   int x = v[0];               without the conversion
-- }
abbrev unconverted_index : Typed
unconverted_index = behind_vector (v.Scalar ∷ []) 0 (declares (set_scalar t.Int (element_of (on sequence.VECTOR_SUBSCRIPT (at 3 12) 0) (int 0 ∷
    []))) ∷ [])

unconverted_index_is_not : broken unconverted_index ≡ Types ∷ []
unfolding broken
unconverted_index_is_not = refl

-- int main() {
--   int x = 2147483648;
-- }
abbrev too_large : Typed
too_large = let p = alone (v.Scalar ∷ []) (body (declares (set_scalar t.Int (int 2147483648)) ∷ [])) 0 in
    record p { constants = pos 0 ∷ pos 1 ∷ pos 2147483647 ∷ pos 2147483648 ∷ pos 2147483649 ∷ [] }

too_large_is_not : broken too_large ≡ Types ∷ []
unfolding broken
too_large_is_not = refl

-- int main() {
--   bool b = 2;                 a literal of type bool
-- }
abbrev not_a_bool : Typed
not_a_bool = alone (v.Scalar ∷ []) (body (declares (set_scalar t.Bool (literal t.Bool (pos 2))) ∷ [])) 0

not_a_bool_is_not : broken not_a_bool ≡ Types ∷ []
unfolding broken
not_a_bool_is_not = refl

-- A call of a row that isn't there.
abbrev no_such_row : Typed
no_such_row = behind_vector [] 0 (done (calls (on 231 (at 3 5) 0) []) ∷ [])

no_such_row_is_not : broken no_such_row ≡ Types ∷ []
unfolding broken
no_such_row_is_not = refl

-- int main() {
--   std::vector<int> v;
--   v.push_back();
-- }
abbrev too_few_operands : Typed
too_few_operands = behind_vector [] 1 (done (calls (on_site sequence.VECTOR_PUSH_BACK (at 3 5) 0 0) []) ∷ [])

too_few_operands_is_not : broken too_few_operands ≡ Types ∷ []
unfolding broken
too_few_operands_is_not = refl

-- int main() {
--   std::vector<int> v;
--   v.push_back(1, 2);
-- }
abbrev too_many_operands : Typed
too_many_operands = behind_vector [] 1 (done (calls (on_site sequence.VECTOR_PUSH_BACK (at 3 5) 0 0) (int 1 ∷ int 2 ∷ [])) ∷ [])

too_many_operands_is_not : broken too_many_operands ≡ Types ∷ []
unfolding broken
too_many_operands_is_not = refl

-- int main() {
--   std::vector<int> v = {};    as a list without elements
-- }
abbrev no_elements : Typed
no_elements = alone (v.Container ∷ []) (body_at 0 (made f.Vector sequence.VECTOR_CONSTRUCTOR_LIST (at 2 3) [] ∷ [])) 1

no_elements_is_not : broken no_elements ≡ Types ∷ []
unfolding broken
no_elements_is_not = refl

-- A call on a second container, where there is one.
abbrev no_such_container : Typed
no_such_container = behind_vector [] 1 (pushed (at 3 5) 0 1 (int 1) ∷ [])

no_such_container_is_not : broken no_such_container ≡ Types ∷ []
unfolding broken
no_such_container_is_not = refl

-- int main() {
--   int x = x;
-- }
abbrev no_such_scalar : Typed
no_such_scalar = alone (v.Scalar ∷ []) (body (declares (set_scalar t.Int (value 0)) ∷ [])) 0

no_such_scalar_is_not : broken no_such_scalar ≡ Types ∷ []
unfolding broken
no_such_scalar_is_not = refl

-- A call of a function past the last.
abbrev no_such_function : Typed
no_such_function = alone [] (body (done (own_call 1 (at 2 3) none) ∷ [])) 0

no_such_function_is_not : broken no_such_function ≡ Types ∷ []
unfolding broken
no_such_function_is_not = refl

-- int main() {
--   std::list<int> l;
--   int x = l[0];               by the row of vector
-- }
abbrev other_form : Typed
other_form = alone (v.Container ∷ v.Scalar ∷ []) (body_at 0 (made f.List sequence.LIST_CONSTRUCTOR (at 2 3) [] ∷
    declares (set_scalar t.Int (element_of (on sequence.VECTOR_SUBSCRIPT (at 3 12) 0) (convert t.Size (int 0) ∷ []))) ∷ [])) 1

other_form_is_not : broken other_form ≡ Types ∷ []
unfolding broken
other_form_is_not = refl

-- A constructor that is called on a vector.
abbrev called_constructor : Typed
called_constructor = behind_vector [] 0 (done (calls (on sequence.VECTOR_CONSTRUCTOR (at 3 5) 0) []) ∷ [])

called_constructor_is_not : broken called_constructor ≡ Types ∷ []
unfolding broken
called_constructor_is_not = refl

-- int main() {
--   std::vector<int> v;
--   std::back_inserter(v);
-- }
abbrev lone_appender : Typed
lone_appender = behind_vector [] 0 (done (calls (off algorithm.STD_BACK_INSERTER (at 3 3)) (container 0 ∷ [])) ∷ [])

lone_appender_is_not : broken lone_appender ≡ Types ∷ []
unfolding broken
lone_appender_is_not = refl

-- std::sort as an algorithm that appends to a vector.
abbrev other_appends : Typed
other_appends = behind_vector [] 1 (done (calls (appends algorithm.STD_SORT (at 3 3) 0)
    (calls (on sequence.VECTOR_BEGIN (at 3 15) 0) [] ∷ calls (on sequence.VECTOR_END (at 3 26) 0) [] ∷ container 0 ∷ [])) ∷ [])

other_appends_is_not : broken other_appends ≡ Types ∷ []
unfolding broken
other_appends_is_not = refl

-- int main() {
--   std::vector<int> v;
--   std::deque<int> d;
--   auto it = v.begin();
--   it = d.begin();
-- }
abbrev two_forms : Typed
two_forms = behind_vector (v.Container ∷ v.Iterator ∷ []) 0 (made f.Deque sequence.DEQUE_CONSTRUCTOR (at 3 3) [] ∷ begun (at 4 15) 0 ∷
    does (moves_to 0 (calls (on sequence.DEQUE_BEGIN (at 5 10) 1) [])) ∷ [])

two_forms_is_not : broken two_forms ≡ Types ∷ []
unfolding broken
two_forms_is_not = refl

-- void f(const std::vector<int>& v, std::vector<int>& w) {
--   v.begin() == w.begin();
-- }
-- int main() {
-- }
abbrev two_constnesses : Typed
two_constnesses = whole (
    function (k.Container a.Const f.Vector ∷ k.Container a.Whole f.Vector ∷ []) None (v.Container ∷ v.Container ∷ []) (body (
    done (calls (operator (operators.Compare c.Equal) (at 2 13))
    (calls (on sequence.VECTOR_BEGIN (at 2 5) 0) [] ∷ calls (on sequence.VECTOR_BEGIN (at 2 18) 1) [] ∷ [])) ∷ [])) ∷
    main_of [] (body []) ∷ []) 1 0 0

two_constnesses_is_not : broken two_constnesses ≡ Types ∷ []
unfolding broken
two_constnesses_is_not = refl

-- int main() {
--   std::map<int, int> m;
--   std::min_element(m.begin(), m.end());
-- }
abbrev range_of_pairs : Typed
range_of_pairs = alone (v.Container ∷ []) (body_at 0 (made f.Map associative.MAP_CONSTRUCTOR (at 2 3) [] ∷
    done (calls (off algorithm.STD_MIN_ELEMENT (at 3 3))
    (calls (on associative.MAP_BEGIN (at 3 22) 0) [] ∷ calls (on associative.MAP_END (at 3 33) 0) [] ∷ [])) ∷ [])) 1

range_of_pairs_is_not : broken range_of_pairs ≡ Types ∷ []
unfolding broken
range_of_pairs_is_not = refl

-- int main() {
--   bool b = true;
--   ++b;
-- }
abbrev stepped_bool : Typed
stepped_bool = alone (v.Scalar ∷ []) (body (declares (set_scalar t.Bool (literal t.Bool (pos 1))) ∷
    done (increment steps.Up fixes.Prefix t.Bool (at 3 3) (scalar 0 (at 3 5))) ∷ [])) 0

stepped_bool_is_not : broken stepped_bool ≡ Types ∷ []
unfolding broken
stepped_bool_is_not = refl

-- int main() {
--   std::size_t n = 1;
--   n += 1;                     calculated in int
-- }
abbrev works_too_small : Typed
works_too_small = alone (v.Scalar ∷ []) (body (declares (set_scalar t.Size (convert t.Size (int 1))) ∷
    does (updates o.Add t.Int t.Size (at 3 5) (scalar 0 (at 3 3)) (int 1)) ∷ [])) 0

works_too_small_is_not : broken works_too_small ≡ Types ∷ []
unfolding broken
works_too_small_is_not = refl

-- int main() {
--   std::size_t n;
--   std::cin >> n;
-- }
abbrev read_of_size : Typed
read_of_size = alone (v.Scalar ∷ []) (body (declares (unset_scalar t.Size) ∷ does (reads (0 ∷ [])) ∷ [])) 0

read_of_size_is_not : broken read_of_size ≡ Types ∷ []
unfolding broken
read_of_size_is_not = refl

-- int main() {
--   std::vector<int> v;
--   auto it = v.begin();
--   auto jt = std::advance(it, 1);
-- }
abbrev value_of_advance : Typed
value_of_advance = behind_vector (v.Iterator ∷ v.Iterator ∷ []) 0 (begun (at 3 15) 0 ∷
    declares (set_iterator (move fixes.Prefix 0 (off algorithm.STD_ADVANCE (at 4 13)) (with (convert t.Diff (int 1)) none))) ∷ [])

value_of_advance_is_not : broken value_of_advance ≡ Types ∷ []
unfolding broken
value_of_advance_is_not = refl

-- int main() {
--   std::map<int, int> m;
--   int x = m.begin()->first;
-- }
abbrev arrow_on_call : Typed
arrow_on_call = alone (v.Container ∷ v.Scalar ∷ []) (body_at 0 (made f.Map associative.MAP_CONSTRUCTOR (at 2 3) [] ∷
    declares (set_scalar t.Int (element_of (operator operators.ArrowFirst (at 3 20)) (calls (on associative.MAP_BEGIN (at 3 13) 0) [] ∷ []))) ∷ [])) 1

arrow_on_call_is_not : broken arrow_on_call ≡ Types ∷ []
unfolding broken
arrow_on_call_is_not = refl

-- int main() {
--   std::multiset<int> s;
--   s.equal_range(1);
-- }
abbrev pair_alone : Typed
pair_alone = alone (v.Container ∷ []) (body_at 0 (made f.MultiSet associative.MULTI_SET_CONSTRUCTOR (at 2 3) [] ∷
    done (calls (on associative.MULTI_SET_EQUAL_RANGE (at 3 5) 0) (int 1 ∷ [])) ∷ [])) 1

pair_alone_is_not : broken pair_alone ≡ Types ∷ []
unfolding broken
pair_alone_is_not = refl

-- int main() {
--   std::multiset<int> s;
--   bool b = s.insert(1).second;
-- }
abbrev part_of_iterator : Typed
part_of_iterator = alone (v.Container ∷ v.Scalar ∷ []) (body_at 0 (made f.MultiSet associative.MULTI_SET_CONSTRUCTOR (at 2 3) [] ∷
    declares (set_scalar t.Bool (second (at 3 23) (calls (on associative.MULTI_SET_INSERT (at 3 14) 0) (int 1 ∷ [])))) ∷ [])) 1

part_of_iterator_is_not : broken part_of_iterator ≡ Types ∷ []
unfolding broken
part_of_iterator_is_not = refl

-- int main() {
--   main();
-- }
abbrev called_main : Typed
called_main = alone [] (body (done (own_call 0 (at 2 3) none) ∷ [])) 0

called_main_is_not : broken called_main ≡ Types ∷ []
unfolding broken
called_main_is_not = refl

-- int main() {
--   std::vector<int> v = {1};
--   v.assign(2, v.front());
-- }
abbrev own_element : Typed
own_element = alone (v.Container ∷ []) (body_at 1 (made f.Vector sequence.VECTOR_CONSTRUCTOR_LIST (at 2 3) (int 1 ∷ []) ∷
    done (calls (on_site sequence.VECTOR_ASSIGN (at 3 5) 0 0) (convert t.Size (int 2) ∷ element_of (on sequence.VECTOR_FRONT (at 3 17) 0) [] ∷ [])) ∷
    [])) 2

own_element_is_not : broken own_element ≡ Types ∷ []
unfolding broken
own_element_is_not = refl

-- int main() {
--   std::vector<int> v;
--   auto it = v.begin();
--   v.assign(2, ++*it);
-- }
abbrev own_iterator : Typed
own_iterator = behind_vector (v.Iterator ∷ []) 1 (begun (at 3 15) 0 ∷
    done (calls (on_site sequence.VECTOR_ASSIGN (at 4 5) 0 0)
    (convert t.Size (int 2) ∷ increment steps.Up fixes.Prefix t.Int (at 4 15) (star (at 4 17) 0) ∷ [])) ∷ [])

own_iterator_is_not : broken own_iterator ≡ Types ∷ []
unfolding broken
own_iterator_is_not = refl

-- int main() {
--   std::vector<int> v;
--   int& r = v.front();
--   v.assign(2, r);
-- }
abbrev assigned_reference : Typed
assigned_reference = behind_vector (v.Reference ∷ []) 1 (declares (binds_reference (on sequence.VECTOR_FRONT (at 3 14) 0) none) ∷
    done (calls (on_site sequence.VECTOR_ASSIGN (at 4 5) 0 0) (convert t.Size (int 2) ∷ held (reference 0 (at 4 15) 1 parts.Whole) ∷ [])) ∷ [])

assigned_reference_is_not : broken assigned_reference ≡ Types ∷ []
unfolding broken
assigned_reference_is_not = refl

-- void f(int x) {
-- }
-- int main() {
--   int x = 1;
--   f(x);                       by reference
-- }
abbrev handed_by_value : Typed
handed_by_value = whole (function (k.Value t.Int ∷ []) None (v.Scalar ∷ []) (body []) ∷
    main_of (v.Scalar ∷ []) (body (declares (set_scalar t.Int (int 1)) ∷ done (own_call 0 (at 5 3) (with (handed_scalar 0) none)) ∷ [])) ∷ []) 1 0 0

handed_by_value_is_not : broken handed_by_value ≡ Types ∷ []
unfolding broken
handed_by_value_is_not = refl

-- void f(std::vector<int>::iterator it) {
-- }
-- void g(const std::vector<int>& v) {
--   f(v.begin());
-- }
-- int main() {
-- }
abbrev weaker_iterator_handed : Typed
weaker_iterator_handed = whole (function (k.Iterator false f.Vector ∷ []) None (v.Iterator ∷ []) (body []) ∷
    function (k.Container a.Const f.Vector ∷ []) None (v.Container ∷ [])
    (body (done (own_call 0 (at 4 3) (with (calls (on sequence.VECTOR_BEGIN (at 4 7) 0) []) none)) ∷ [])) ∷
    main_of [] (body []) ∷ []) 2 0 0

weaker_iterator_handed_is_not : broken weaker_iterator_handed ≡ Types ∷ []
unfolding broken
weaker_iterator_handed_is_not = refl

-- Outlines of texts with range-for, and texts with one that has none.
use Rattle.sl_base.specs.declared.form.Form.TheVariants as f
use Rattle.sl_base.specs.declared.scalar.Scalar.TheVariants as t
use Rattle.sl_model.proofs.Examples.FactsShort.{algorithm, alone, braces, compares, function_of, head_at, heads, here, int, loops, main_of, member}
use Rattle.sl_model.proofs.Examples.FactsShort.{member_element, numbers_to, size_number, star, text_of, value_of}
use Rattle.sl_model.specs.Outlines.Facts.{before, size_at_least, sorted}
use Rattle.sl_model.specs.Outlines.Outline.{is_outline, nowhere}
use Rattle.sl_specs.specs.declared.rows.algorithms.TheConstants as algorithms
use Rattle.sl_specs.specs.declared.rows.associative.TheConstants as associative
use Rattle.sl_specs.specs.declared.rows.sequences.TheConstants as sequence
use Rattle.sl_syntax.specs.Typed.{Typed, arithmetic, assigns, break, choice, container, continue, declares, does, evaluates, held, iterator, makes}
use Rattle.sl_syntax.specs.Typed.{number, operands_from, own_call, prints, range_for, reference, scalar, set_iterator, set_scalar, test, updates}
use Rattle.sl_syntax.specs.declared.operator.Access.TheVariants as access
use Rattle.sl_syntax.specs.declared.operator.Arithmetic.TheVariants as o
use Rattle.sl_syntax.specs.declared.operator.Comparison.TheVariants as comparisons
use Rattle.sl_syntax.specs.declared.typed.callee.Callee.TheVariants as callees
use Rattle.sl_syntax.specs.declared.typed.element.ElementPart.TheVariants as parts
use Rattle.sl_syntax.specs.declared.typed.element.Taken.TheVariants as taken
use Rattle.sl_syntax.specs.declared.typed.parameter.ParameterKind.TheVariants as parameter
use Rattle.std.specs.Prelude.{None, [], false, negsuc, pos, refl, true, ◌∷◌, ◌≡◌}

-- `range_for`
--   int main() {
--     std::vector<int> v = {1};
--     int s = 0;
--     for (int x : v) {
--       s += x + v.front();
--       std::sort(v.begin(), v.end());
--     }
--   }
abbrev summing : Typed
summing = alone (negsuc 0 ∷ numbers_to 2)
    (declares (makes f.Vector (head_at here (callees.Row sequence.VECTOR_CONSTRUCTOR_LIST) None) (operands_from (int 1 ∷ []))) ∷
    declares (set_scalar t.Int (int 0)) ∷
    range_for 0 taken.Value 0 here 0 (braces (does (updates o.Add t.Int t.Int here (scalar 0 here) (arithmetic o.Add t.Int here (value_of 1)
    (held (member_element sequence.VECTOR_FRONT 0 [])))) ∷ does (evaluates (algorithm algorithms.STD_SORT (member sequence.VECTOR_BEGIN 0 [] ∷
    member sequence.VECTOR_END 0 [] ∷ []))) ∷ [])) ∷
    [])

-- what its body does to order and elements leaves the iterators that are hidden
summing_has_one : is_outline summing nowhere (loops ((size_at_least 0 (pos 1) ∷ []) ∷ [])) ≡ true
unfolding is_outline
summing_has_one = refl

-- without the fact at its head the body has not what it needs
summing_needs_it : is_outline summing nowhere (loops ([] ∷ [])) ≡ false
unfolding is_outline
summing_needs_it = refl

-- a list of what isn't so before the loop
summing_is_not_sorted : is_outline summing nowhere (loops ((size_at_least 0 (pos 1) ∷ sorted 0 ∷ []) ∷ [])) ≡ false
unfolding is_outline
summing_is_not_sorted = refl

-- its body changes the size: no outline
--   int main() {
--     std::vector<int> v;
--     for (int x : v) v.push_back(x);
--   }
abbrev growing : Typed
growing = alone (numbers_to 1)
    (declares (makes f.Vector (head_at here (callees.Row sequence.VECTOR_CONSTRUCTOR) None) (operands_from [])) ∷
    range_for 0 taken.Value 0 here 0 (does (evaluates (member sequence.VECTOR_PUSH_BACK 0 (value_of 0 ∷ [])))) ∷ [])

growing_has_none : is_outline growing nowhere (loops ([] ∷ [])) ≡ false
unfolding is_outline
growing_has_none = refl

-- a range-for over the same container is none of the forms in which it may stand
--   int main() {
--     std::vector<int> v;
--     for (int x : v) for (int y : v) std::cout << y;
--   }
abbrev nested : Typed
nested = alone (numbers_to 1)
    (declares (makes f.Vector (head_at here (callees.Row sequence.VECTOR_CONSTRUCTOR) None) (operands_from [])) ∷
    range_for 0 taken.Value 0 here 0 (range_for 1 taken.Value 0 here 0 (does (prints (number (value_of 1) ∷ [])))) ∷ [])

nested_has_none : is_outline nested nowhere (loops ([] ∷ [] ∷ [])) ≡ false
unfolding is_outline
nested_has_none = refl

-- nor is a copy of it
--   int main() {
--     std::vector<int> v;
--     for (int x : v) { std::vector<int> w = v; }
--   }
abbrev copying : Typed
copying = alone (numbers_to 1)
    (declares (makes f.Vector (head_at here (callees.Row sequence.VECTOR_CONSTRUCTOR) None) (operands_from [])) ∷
    range_for 0 taken.Value 0 here 0 (braces (declares (makes f.Vector (head_at here (callees.Row sequence.VECTOR_CONSTRUCTOR_COPY) None)
    (operands_from (container 0 ∷ []))) ∷ [])) ∷
    [])

copying_has_none : is_outline copying nowhere (loops ([] ∷ [])) ≡ false
unfolding is_outline
copying_has_none = refl

-- `range_for_reference`: the element is alive at the start of each turn
--   int main() {
--     std::vector<int> v = {1};
--     for (int& e : v) {
--       if (e == 1) continue;
--       e = v.at(0);
--       if (e == 2) break;
--     }
--   }
abbrev writing : Typed
writing = alone (negsuc 0 ∷ numbers_to 3)
    (declares (makes f.Vector (head_at here (callees.Row sequence.VECTOR_CONSTRUCTOR_LIST) None) (operands_from (int 1 ∷ []))) ∷
    range_for 0 taken.Reference 0 here 0 (braces (choice (test (compares comparisons.Equal (held (reference 2 here 0 parts.Whole)) (int 1)))
    continue ∷ does (assigns (reference 2 here 0 parts.Whole) (held (member_element sequence.VECTOR_AT 0 (size_number 0 ∷ [])))) ∷ choice (test
    (compares comparisons.Equal (held (reference 2 here 0 parts.Whole)) (int 2))) break ∷ [])) ∷
    [])

writing_has_one : is_outline writing nowhere (loops ([] ∷ [])) ≡ true
unfolding is_outline
writing_has_one = refl

-- over a map, with `at`
--   int main() {
--     std::map<int, int> m;
--     m[1] = 2;
--     for (auto& e : m) e.second += m.at(e.first);
--   }
abbrev doubling : Typed
doubling = alone (numbers_to 3)
    (declares (makes f.Map (head_at here (callees.Row associative.MAP_CONSTRUCTOR) None) (operands_from [])) ∷
    does (assigns (member_element associative.MAP_SUBSCRIPT 0 (int 1 ∷ [])) (int 2)) ∷
    range_for 0 taken.Reference 0 here 0 (does (updates o.Add t.Int t.Int here (reference 2 here 0 parts.Second) (held (member_element
    associative.MAP_AT 0 (held (reference 2 here 0 parts.First) ∷ []))))) ∷
    [])

doubling_has_one : is_outline doubling nowhere (loops ((size_at_least 0 (pos 1) ∷ []) ∷ [])) ≡ true
unfolding is_outline
doubling_has_one = refl

-- `range_for_reference` over a map: no `[]` in the body
--   int main() {
--     std::map<int, int> m;
--     for (auto& e : m) m[e.first] = 1;
--   }
abbrev indexing : Typed
indexing = alone (numbers_to 2)
    (declares (makes f.Map (head_at here (callees.Row associative.MAP_CONSTRUCTOR) None) (operands_from [])) ∷
    range_for 0 taken.Reference 0 here 0 (does (assigns (member_element associative.MAP_SUBSCRIPT 0 (held (reference 2 here 0 parts.First) ∷
    [])) (int 1))) ∷
    [])

indexing_has_none : is_outline indexing nowhere (loops ([] ∷ [])) ≡ false
unfolding is_outline
indexing_has_none = refl

-- `range_for` with calls: the container is handed by reference to const
--   void show(const std::vector<int>& v) {
--     for (int x : v) std::cout << x;
--   }
--   int main() {
--     std::vector<int> v = {1};
--     for (int x : v) show(v);
--   }
abbrev printing : Typed
printing = text_of (numbers_to 2) 1 (
    function_of (parameter.Container access.Const f.Vector ∷ []) None
    (range_for 0 taken.Value 0 here 0 (does (prints (number (value_of 0) ∷ []))) ∷ []) ∷
    main_of
    (declares (makes f.Vector (head_at here (callees.Row sequence.VECTOR_CONSTRUCTOR_LIST) None) (operands_from (int 1 ∷ []))) ∷
    range_for 1 taken.Value 0 here 0 (does (evaluates (own_call 0 here (operands_from (container 0 ∷ []))))) ∷ []) ∷
    [])

printing_has_one : is_outline printing nowhere
    (heads ((size_at_least 0 (pos 1) ∷ []) ∷ (size_at_least 0 (pos 1) ∷ []) ∷ []) ((size_at_least 0 (pos 1) ∷ []) ∷ [] ∷ []) ((size_at_least 0
    (pos 1) ∷ []) ∷ [] ∷ []))
    ≡ true
unfolding is_outline
printing_has_one = refl

-- handed by a reference that isn't const: no outline
--   void show(std::vector<int>& v) {
--   }
--   int main() {
--     std::vector<int> v;
--     for (int x : v) show(v);
--   }
abbrev changing : Typed
changing = text_of (numbers_to 1) 1 (
    function_of (parameter.Container access.Whole f.Vector ∷ []) None
    [] ∷
    main_of
    (declares (makes f.Vector (head_at here (callees.Row sequence.VECTOR_CONSTRUCTOR) None) (operands_from [])) ∷
    range_for 0 taken.Value 0 here 0 (does (evaluates (own_call 0 here (operands_from (container 0 ∷ []))))) ∷ []) ∷
    [])

changing_has_none : is_outline changing nowhere (heads ([] ∷ []) ([] ∷ [] ∷ []) ([] ∷ [] ∷ [])) ≡ false
unfolding is_outline
changing_has_none = refl

-- a container that is handed for elements alone counts as not handed over
--   void set(elements std::vector<int>& v, std::vector<int>::iterator j) {
--     *j = 1;
--   }
--   int main() {
--     std::vector<int> v = {1};
--     auto it = v.begin();
--     for (int x : v) set(v, it);
--   }
abbrev stepping : Typed
stepping = text_of (numbers_to 2) 1 (
    function_of (parameter.Container access.Elements f.Vector ∷ parameter.Iterator false f.Vector ∷ []) None
    (does (assigns (star (iterator 0)) (int 1)) ∷ []) ∷
    main_of
    (declares (makes f.Vector (head_at here (callees.Row sequence.VECTOR_CONSTRUCTOR_LIST) None) (operands_from (int 1 ∷ []))) ∷
    declares (set_iterator (member sequence.VECTOR_BEGIN 0 [])) ∷
    range_for 0 taken.Value 0 here 0 (does (evaluates (own_call 0 here (operands_from (container 0 ∷ iterator 0 ∷ []))))) ∷ []) ∷
    [])

-- its iterators stay before the end
stepping_has_one : is_outline stepping nowhere (heads ((before 0 0 ∷ []) ∷ []) ((before 0 0 ∷ []) ∷ [] ∷ []) ([] ∷ [] ∷ [])) ≡ true
unfolding is_outline
stepping_has_one = refl

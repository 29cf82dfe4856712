-- Outlines that are open at places: what is completed there, and what is dropped where it can't be.
use Rattle.sl_base.specs.declared.form.Form.TheVariants as f
use Rattle.sl_base.specs.declared.scalar.Scalar.TheVariants as t
use Rattle.sl_model.proofs.Examples.FactsShort.{algorithm_at, alone, at_line, function_of, head_at, heads, here, int, loops, main_of, member_at}
use Rattle.sl_model.proofs.Examples.FactsShort.{member_element_at, no_lists, numbers_to, on, size_number, star_at, text_of, value_of}
use Rattle.sl_model.specs.Outlines.Facts.{size_at_least}
use Rattle.sl_model.specs.Outlines.Outline.{is_outline}
use Rattle.sl_specs.specs.declared.rows.algorithms.TheConstants as algorithms
use Rattle.sl_specs.specs.declared.rows.sequences.TheConstants as sequence
use Rattle.sl_syntax.specs.Typed.{Typed, arithmetic, assigns, binds_reference, container, declares, does, evaluates, held, iterator, makes, move}
use Rattle.sl_syntax.specs.Typed.{moves_to, none, number, operands_from, own_call, prints, range_for, reference, set_iterator, set_scalar}
use Rattle.sl_syntax.specs.Typed.{unset_scalar}
use Rattle.sl_syntax.specs.declared.operator.Access.TheVariants as access
use Rattle.sl_syntax.specs.declared.operator.Arithmetic.TheVariants as o
use Rattle.sl_syntax.specs.declared.typed.callee.Callee.TheVariants as callees
use Rattle.sl_syntax.specs.declared.typed.element.ElementPart.TheVariants as parts
use Rattle.sl_syntax.specs.declared.typed.element.Taken.TheVariants as taken
use Rattle.sl_syntax.specs.declared.typed.operator.Operator.TheVariants as operators
use Rattle.sl_syntax.specs.declared.typed.parameter.ParameterKind.TheVariants as parameter
use Rattle.sl_syntax.specs.declared.typed.step.Fix.TheVariants.{Postfix}
use Rattle.std.specs.Prelude.{None, Some, [], false, negsuc, pos, refl, true, ◌||◌, ◌∷◌, ◌≡◌}

-- a missing need on the size is completed, and carried on
--   int main() {
--     std::vector<int> v;
--     int x = v.front();
--     v.pop_back();
--     v.pop_back();
--   }
abbrev emptying : Typed
emptying = alone (numbers_to 1)
    (declares (makes f.Vector (head_at (on 2) (callees.Row sequence.VECTOR_CONSTRUCTOR) None) (operands_from [])) ∷
    declares (set_scalar t.Int (held (member_element_at (on 3) sequence.VECTOR_FRONT 0 []))) ∷
    does (evaluates (member_at (on 4) sequence.VECTOR_POP_BACK 0 [])) ∷ does (evaluates (member_at (on 5) sequence.VECTOR_POP_BACK 0 [])) ∷
    [])

-- open where `front` and the second `pop_back` stand: the first has an element
emptying_is_open : is_outline emptying (λ p. at_line 3 p || at_line 5 p) no_lists ≡ true
unfolding is_outline
emptying_is_open = refl

-- open at one of them alone
emptying_is_closed : is_outline emptying (at_line 3) no_lists ≡ false
unfolding is_outline
emptying_is_closed = refl

-- nor is it at the first `pop_back`
emptying_is_not_at_four : is_outline emptying (at_line 4) no_lists ≡ false
unfolding is_outline
emptying_is_not_at_four = refl

-- a missing need of an iterator that is inside is completed
--   int main() {
--     std::vector<int> v;
--     auto it = v.begin();
--     *it = 1;
--     it = v.erase(it);
--   }
abbrev reading : Typed
reading = alone (numbers_to 2)
    (declares (makes f.Vector (head_at (on 2) (callees.Row sequence.VECTOR_CONSTRUCTOR) None) (operands_from [])) ∷
    declares (set_iterator (member_at (on 3) sequence.VECTOR_BEGIN 0 [])) ∷ does (assigns (star_at (on 4) (iterator 0)) (int 1)) ∷
    does (moves_to 0 (member_at (on 5) sequence.VECTOR_ERASE 0 (iterator 0 ∷ []))) ∷ [])

-- before the end by then, it may be erased
reading_is_open : is_outline reading (at_line 4) no_lists ≡ true
unfolding is_outline
reading_is_open = refl

-- a missing need of an index is completed
--   int main() {
--     std::vector<int> v;
--     std::size_t i;
--     v[i] = 1;
--     v[i] = 2;
--     std::cout << v[1];
--   }
abbrev indexing : Typed
indexing = alone (numbers_to 3)
    (declares (makes f.Vector (head_at (on 2) (callees.Row sequence.VECTOR_CONSTRUCTOR) None) (operands_from [])) ∷
    declares (unset_scalar t.Size) ∷ does (assigns (member_element_at (on 4) sequence.VECTOR_SUBSCRIPT 0 (value_of 0 ∷ [])) (int 1)) ∷
    does (assigns (member_element_at (on 5) sequence.VECTOR_SUBSCRIPT 0 (value_of 0 ∷ [])) (int 2)) ∷
    does (prints (number (held (member_element_at (on 6) sequence.VECTOR_SUBSCRIPT 0 (size_number 1 ∷ []))) ∷ [])) ∷ [])

-- the first two have one index; the literal stays
indexing_is_open : is_outline indexing (at_line 4) no_lists ≡ false
unfolding is_outline
indexing_is_open = refl

indexing_is_open_at_both : is_outline indexing (λ p. at_line 4 p || at_line 6 p) no_lists ≡ true
unfolding is_outline
indexing_is_open_at_both = refl

-- an iterator that is inside of nothing completes nothing; its write drops sorted of every container
--   int main() {
--     std::vector<int> v;
--     std::vector<int> w;
--     auto it = v.begin();
--     v.push_back(1);
--     *it = 3;
--     std::cout << v.front();
--     std::cout << std::binary_search(w.begin(), w.end(), 1);
--   }
abbrev dangling : Typed
dangling = alone (numbers_to 4)
    (declares (makes f.Vector (head_at (on 2) (callees.Row sequence.VECTOR_CONSTRUCTOR) None) (operands_from [])) ∷
    declares (makes f.Vector (head_at (on 3) (callees.Row sequence.VECTOR_CONSTRUCTOR) None) (operands_from [])) ∷
    declares (set_iterator (member_at (on 4) sequence.VECTOR_BEGIN 0 [])) ∷
    does (evaluates (member_at (on 5) sequence.VECTOR_PUSH_BACK 0 (int 1 ∷ []))) ∷ does (assigns (star_at (on 6) (iterator 0)) (int 3)) ∷
    does (prints (number (held (member_element_at (on 7) sequence.VECTOR_FRONT 0 [])) ∷ [])) ∷
    does (prints (number (algorithm_at (on 8) algorithms.STD_BINARY_SEARCH (member_at (on 8) sequence.VECTOR_BEGIN 1 [] ∷ member_at (on 8)
    sequence.VECTOR_END 1 [] ∷ int 1 ∷ [])) ∷ [])) ∷
    [])

-- sizes stay, so `front` has what it needs; the search hasn't
dangling_is_open : is_outline dangling (λ p. at_line 6 p || at_line 8 p) no_lists ≡ true
unfolding is_outline
dangling_is_open = refl

dangling_drops_order : is_outline dangling (at_line 6) no_lists ≡ false
unfolding is_outline
dangling_drops_order = refl

-- a form that has no rule: a write drops every fact on its container
--   int main() {
--     std::vector<int> v = {1, 2};
--     std::size_t i = 0;
--     std::cout << v[i + 1] << v.front();
--     v[i + 1] = 3;
--     std::cout << v.front();
--   }
abbrev summing : Typed
summing = alone (negsuc 0 ∷ numbers_to 4)
    (declares (makes f.Vector (head_at (on 2) (callees.Row sequence.VECTOR_CONSTRUCTOR_LIST) None) (operands_from (int 1 ∷ int 2 ∷ []))) ∷
    declares (set_scalar t.Size (size_number 0)) ∷
    does (prints (number (held (member_element_at (on 4) sequence.VECTOR_SUBSCRIPT 0 (arithmetic o.Add t.Size here (value_of 0) (size_number 1)
    ∷ []))) ∷ number (held (member_element_at (on 4) sequence.VECTOR_FRONT 0 [])) ∷ [])) ∷
    does (assigns (member_element_at (on 5) sequence.VECTOR_SUBSCRIPT 0 (arithmetic o.Add t.Size here (value_of 0) (size_number 1) ∷ [])) (int
    3)) ∷
    does (prints (number (held (member_element_at (on 6) sequence.VECTOR_FRONT 0 [])) ∷ [])) ∷ [])

-- it is open at the read, the write and behind it
summing_is_open : is_outline summing (λ p. (at_line 4 p || at_line 5 p) || at_line 6 p) no_lists ≡ true
unfolding is_outline
summing_is_open = refl

summing_drops : is_outline summing (λ p. at_line 4 p || at_line 5 p) no_lists ≡ false
unfolding is_outline
summing_drops = refl

-- a form that moves an iterator drops what is on it alone
--   int main() {
--     std::vector<int> v = {1};
--     auto it = v.begin();
--     it++;
--     std::cout << v.front();
--     std::cout << *it;
--   }
abbrev moving : Typed
moving = alone (numbers_to 2)
    (declares (makes f.Vector (head_at (on 2) (callees.Row sequence.VECTOR_CONSTRUCTOR_LIST) None) (operands_from (int 1 ∷ []))) ∷
    declares (set_iterator (member_at (on 3) sequence.VECTOR_BEGIN 0 [])) ∷
    does (evaluates (move Postfix 0 (head_at (on 4) (callees.Operator operators.Increment) None) none)) ∷
    does (prints (number (held (member_element_at (on 5) sequence.VECTOR_FRONT 0 [])) ∷ [])) ∷
    does (prints (number (held (star_at (on 6) (iterator 0))) ∷ [])) ∷ [])

moving_is_open : is_outline moving (λ p. at_line 4 p || at_line 6 p) no_lists ≡ true
unfolding is_outline
moving_is_open = refl

moving_drops : is_outline moving (at_line 4) no_lists ≡ false
unfolding is_outline
moving_drops = refl

-- an algorithm that has no rule drops what is on the container that it writes
--   int main() {
--     std::vector<int> v = {1};
--     std::vector<int> w = {1};
--     std::fill(v.begin(), v.end(), 2);
--     std::cout << w.front();
--     std::cout << v.front();
--   }
abbrev filling : Typed
filling = alone (numbers_to 3)
    (declares (makes f.Vector (head_at (on 2) (callees.Row sequence.VECTOR_CONSTRUCTOR_LIST) None) (operands_from (int 1 ∷ []))) ∷
    declares (makes f.Vector (head_at (on 3) (callees.Row sequence.VECTOR_CONSTRUCTOR_LIST) None) (operands_from (int 1 ∷ []))) ∷
    does (evaluates (algorithm_at (on 4) algorithms.STD_FILL (member_at (on 4) sequence.VECTOR_BEGIN 0 [] ∷ member_at (on 4) sequence.VECTOR_END
    0 [] ∷ int 2 ∷ []))) ∷
    does (prints (number (held (member_element_at (on 5) sequence.VECTOR_FRONT 1 [])) ∷ [])) ∷
    does (prints (number (held (member_element_at (on 6) sequence.VECTOR_FRONT 0 [])) ∷ [])) ∷ [])

filling_is_open : is_outline filling (λ p. at_line 4 p || at_line 6 p) no_lists ≡ true
unfolding is_outline
filling_is_open = refl

filling_drops : is_outline filling (at_line 4) no_lists ≡ false
unfolding is_outline
filling_drops = refl

-- a range-for that is open: what its body does is carried
--   int main() {
--     std::vector<int> v = {1};
--     for (int x : v) v.push_back(x);
--     std::cout << v.front();
--   }
abbrev growing : Typed
growing = alone (numbers_to 2)
    (declares (makes f.Vector (head_at (on 2) (callees.Row sequence.VECTOR_CONSTRUCTOR_LIST) None) (operands_from (int 1 ∷ []))) ∷
    range_for 0 taken.Value 0 (on 3) 0 (does (evaluates (member_at (on 3) sequence.VECTOR_PUSH_BACK 0 (value_of 0 ∷ [])))) ∷
    does (prints (number (held (member_element_at (on 4) sequence.VECTOR_FRONT 0 [])) ∷ [])) ∷ [])

growing_is_open : is_outline growing (at_line 3) (loops ((size_at_least 0 (pos 1) ∷ []) ∷ [])) ≡ true
unfolding is_outline
growing_is_open = refl

-- the facts of an entry are needed at open places too
--   void f(const std::vector<int>& v) {
--     std::cout << v.front();
--   }
--   int main() {
--     std::vector<int> v;
--     f(v);
--   }
abbrev entering : Typed
entering = text_of (numbers_to 1) 1 (
    function_of (parameter.Container access.Const f.Vector ∷ []) None
    (does (prints (number (held (member_element_at (on 2) sequence.VECTOR_FRONT 0 [])) ∷ [])) ∷ []) ∷
    main_of
    (declares (makes f.Vector (head_at (on 5) (callees.Row sequence.VECTOR_CONSTRUCTOR) None) (operands_from [])) ∷
    does (evaluates (own_call 0 (on 6) (operands_from (container 0 ∷ [])))) ∷ []) ∷
    [])

entering_is_not_open : is_outline entering (at_line 6) (heads [] ((size_at_least 0 (pos 1) ∷ []) ∷ [] ∷ []) ([] ∷ [] ∷ [])) ≡ false
unfolding is_outline
entering_is_not_open = refl

-- it is open in the function
entering_is_open : is_outline entering (at_line 2) (heads [] ([] ∷ [] ∷ []) ([] ∷ [] ∷ [])) ≡ true
unfolding is_outline
entering_is_open = refl

-- erasing at an iterator that is inside of nothing drops every fact on the vector
--   int main() {
--     std::vector<int> v = {1};
--     auto it = v.begin();
--     v.push_back(2);
--     it = v.erase(it);
--     std::cout << v.front();
--   }
abbrev erasing : Typed
erasing = alone (numbers_to 3)
    (declares (makes f.Vector (head_at (on 2) (callees.Row sequence.VECTOR_CONSTRUCTOR_LIST) None) (operands_from (int 1 ∷ []))) ∷
    declares (set_iterator (member_at (on 3) sequence.VECTOR_BEGIN 0 [])) ∷
    does (evaluates (member_at (on 4) sequence.VECTOR_PUSH_BACK 0 (int 2 ∷ []))) ∷
    does (moves_to 0 (member_at (on 5) sequence.VECTOR_ERASE 0 (iterator 0 ∷ []))) ∷
    does (prints (number (held (member_element_at (on 6) sequence.VECTOR_FRONT 0 [])) ∷ [])) ∷ [])

erasing_is_open : is_outline erasing (λ p. at_line 5 p || at_line 6 p) no_lists ≡ true
unfolding is_outline
erasing_is_open = refl

erasing_drops : is_outline erasing (at_line 5) no_lists ≡ false
unfolding is_outline
erasing_drops = refl

-- a reference that is alive in nothing: its write drops sorted of every container
--   int main() {
--     std::vector<int> v = {1};
--     std::list<int> l;
--     int& r = v.back();
--     v.push_back(2);
--     r = 3;
--     std::cout << v.front();
--     std::cout << std::binary_search(l.begin(), l.end(), 1);
--   }
abbrev using : Typed
using = alone (numbers_to 4)
    (declares (makes f.Vector (head_at (on 2) (callees.Row sequence.VECTOR_CONSTRUCTOR_LIST) None) (operands_from (int 1 ∷ []))) ∷
    declares (makes f.List (head_at (on 3) (callees.Row sequence.LIST_CONSTRUCTOR) None) (operands_from [])) ∷
    declares (binds_reference (head_at (on 4) (callees.Row sequence.VECTOR_BACK) (Some 0)) (operands_from [])) ∷
    does (evaluates (member_at (on 5) sequence.VECTOR_PUSH_BACK 0 (int 2 ∷ []))) ∷
    does (assigns (reference 0 (on 6) 0 parts.Whole) (int 3)) ∷
    does (prints (number (held (member_element_at (on 7) sequence.VECTOR_FRONT 0 [])) ∷ [])) ∷
    does (prints (number (algorithm_at (on 8) algorithms.STD_BINARY_SEARCH (member_at (on 8) sequence.LIST_BEGIN 1 [] ∷ member_at (on 8)
    sequence.LIST_END 1 [] ∷ int 1 ∷ [])) ∷ [])) ∷
    [])

using_is_open : is_outline using (λ p. at_line 6 p || at_line 8 p) no_lists ≡ true
unfolding is_outline
using_is_open = refl

using_drops_order : is_outline using (at_line 6) no_lists ≡ false
unfolding is_outline
using_drops_order = refl

-- Outlines of texts with functions.
use Rattle.sl_base.specs.declared.form.Form.TheVariants as f
use Rattle.sl_base.specs.declared.scalar.Scalar.TheVariants as t
use Rattle.sl_model.proofs.Examples.FactsShort.{algorithm, compares, function_of, head_at, heads, here, int, main_of, member, member_element}
use Rattle.sl_model.proofs.Examples.FactsShort.{numbers_to, size_number, star, text_of, up_size, value_of}
use Rattle.sl_model.specs.Outlines.Facts.{before, below_size, lower_bound, size_at_least}
use Rattle.sl_model.specs.Outlines.Outline.{is_outline, nowhere}
use Rattle.sl_specs.specs.declared.rows.algorithms.TheConstants as algorithms
use Rattle.sl_specs.specs.declared.rows.sequences.TheConstants as sequence
use Rattle.sl_syntax.specs.Typed.{Typed, assigns, choice, container, declares, declares_first, does, evaluates, for, held, iterator, logical_not}
use Rattle.sl_syntax.specs.Typed.{makes, number, operands_from, own_call, prints, set_iterator, set_scalar, test}
use Rattle.sl_syntax.specs.declared.operator.Access.TheVariants as access
use Rattle.sl_syntax.specs.declared.operator.Comparison.TheVariants as comparisons
use Rattle.sl_syntax.specs.declared.typed.callee.Callee.TheVariants as callees
use Rattle.sl_syntax.specs.declared.typed.parameter.ParameterKind.TheVariants as parameter
use Rattle.std.specs.Prelude.{None, Some, [], false, negsuc, pos, refl, true, ◌∷◌, ◌≡◌}

-- `call`: the entry's facts are needed, and the exit's are given
--   void one(std::vector<int>& v) {
--     if (v.empty()) v.push_back(1);
--   }
--   int main() {
--     std::vector<int> v;
--     one(v);
--     std::cout << v.back();
--   }
abbrev entering : Typed
entering = text_of (numbers_to 2) 1 (
    function_of (parameter.Container access.Whole f.Vector ∷ []) None
    (choice (test (member sequence.VECTOR_EMPTY 0 [])) (does (evaluates (member sequence.VECTOR_PUSH_BACK 0 (int 1 ∷ [])))) ∷ []) ∷
    main_of
    (declares (makes f.Vector (head_at here (callees.Row sequence.VECTOR_CONSTRUCTOR) None) (operands_from [])) ∷
    does (evaluates (own_call 0 here (operands_from (container 0 ∷ [])))) ∷
    does (prints (number (held (member_element sequence.VECTOR_BACK 0 [])) ∷ [])) ∷ []) ∷
    [])

entering_has_one : is_outline entering nowhere
    (heads [] ((size_at_least 0 (pos 0) ∷ []) ∷ [] ∷ []) ((size_at_least 0 (pos 1) ∷ []) ∷ [] ∷ []))
    ≡ true
unfolding is_outline
entering_has_one = refl

-- from no fact `push_back` gives none, so the exit isn't reached with its list
entering_needs_an_entry : is_outline entering nowhere (heads [] ([] ∷ [] ∷ []) ((size_at_least 0 (pos 1) ∷ []) ∷ [] ∷ [])) ≡ false
unfolding is_outline
entering_needs_an_entry = refl

-- without the exit's fact nothing is known of the vector
entering_needs_an_exit : is_outline entering nowhere (heads [] ((size_at_least 0 (pos 0) ∷ []) ∷ [] ∷ []) ([] ∷ [] ∷ [])) ≡ false
unfolding is_outline
entering_needs_an_exit = refl

-- the entry's list has to be given at each call
entering_with_more : is_outline entering nowhere
    (heads [] ((size_at_least 0 (pos 1) ∷ []) ∷ [] ∷ []) ((size_at_least 0 (pos 1) ∷ []) ∷ [] ∷ []))
    ≡ false
unfolding is_outline
entering_with_more = refl

-- recursion
--   void f(std::vector<int>& v, int n) {
--     std::cout << v.front();
--     if (n > 0) f(v, 2);
--   }
--   int main() {
--     std::vector<int> v = {1, 2};
--     f(v, 3);
--   }
abbrev recursing : Typed
recursing = text_of (negsuc 0 ∷ numbers_to 4) 1 (
    function_of (parameter.Container access.Whole f.Vector ∷ parameter.Value t.Int ∷ []) None
    (does (prints (number (held (member_element sequence.VECTOR_FRONT 0 [])) ∷ [])) ∷
    choice (test (compares comparisons.Greater (value_of 0) (int 0))) (does (evaluates (own_call 0 here (operands_from (container 0 ∷ int 2 ∷
    []))))) ∷
    []) ∷
    main_of
    (declares (makes f.Vector (head_at here (callees.Row sequence.VECTOR_CONSTRUCTOR_LIST) None) (operands_from (int 1 ∷ int 2 ∷ []))) ∷
    does (evaluates (own_call 0 here (operands_from (container 0 ∷ int 3 ∷ [])))) ∷ []) ∷
    [])

recursing_has_one : is_outline recursing nowhere (heads [] ((size_at_least 0 (pos 1) ∷ []) ∷ [] ∷ []) ([] ∷ [] ∷ [])) ≡ true
unfolding is_outline
recursing_has_one = refl

-- a literal brings no facts to a parameter
recursing_brings_no_literal : is_outline recursing nowhere
    (heads [] ((size_at_least 0 (pos 1) ∷ lower_bound 0 (pos 2) ∷ []) ∷ [] ∷ []) ([] ∷ [] ∷ []))
    ≡ false
unfolding is_outline
recursing_brings_no_literal = refl

-- a scalar that is handed by value brings its facts, with a size too
--   void put(std::vector<int>& v, std::size_t i) {
--     v[i] = 4;
--   }
--   int main() {
--     std::vector<int> v = {1, 2, 3};
--     for (std::size_t i = 0; i < v.size(); ++i) put(v, i);
--   }
abbrev indexing : Typed
indexing = text_of (negsuc 0 ∷ numbers_to 5) 1 (
    function_of (parameter.Container access.Whole f.Vector ∷ parameter.Value t.Size ∷ []) None
    (does (assigns (member_element sequence.VECTOR_SUBSCRIPT 0 (value_of 0 ∷ [])) (int 4)) ∷ []) ∷
    main_of
    (declares (makes f.Vector (head_at here (callees.Row sequence.VECTOR_CONSTRUCTOR_LIST) None) (operands_from (int 1 ∷ int 2 ∷ int 3 ∷ []))) ∷
    for 0 (declares_first (set_scalar t.Size (size_number 0))) (test (compares comparisons.Less (value_of 0) (member sequence.VECTOR_SIZE 0
    []))) (Some (evaluates (up_size 0))) (does (evaluates (own_call 0 here (operands_from (container 0 ∷ value_of 0 ∷ []))))) ∷
    []) ∷
    [])

indexing_has_one : is_outline indexing nowhere (heads ([] ∷ []) ((below_size 0 0 ∷ []) ∷ [] ∷ []) ([] ∷ [] ∷ [])) ≡ true
unfolding is_outline
indexing_has_one = refl

-- an iterator that is handed over brings its facts, and lets the call write elements
--   void put(const std::vector<int>& v, std::vector<int>::iterator j) {
--     *j = 4;
--   }
--   int main() {
--     std::vector<int> v = {1, 2, 3};
--     std::vector<int> w;
--     std::list<int> l;
--     auto it = v.begin();
--     put(v, it);
--     std::cout << *it << v.back();
--     std::cout << std::binary_search(l.begin(), l.end(), 1);
--   }
abbrev iterating : Typed
iterating = text_of (numbers_to 5) 1 (
    function_of (parameter.Container access.Const f.Vector ∷ parameter.Iterator false f.Vector ∷ []) None
    (does (assigns (star (iterator 0)) (int 4)) ∷ []) ∷
    main_of
    (declares (makes f.Vector (head_at here (callees.Row sequence.VECTOR_CONSTRUCTOR_LIST) None) (operands_from (int 1 ∷ int 2 ∷ int 3 ∷ []))) ∷
    declares (makes f.Vector (head_at here (callees.Row sequence.VECTOR_CONSTRUCTOR) None) (operands_from [])) ∷
    declares (makes f.List (head_at here (callees.Row sequence.LIST_CONSTRUCTOR) None) (operands_from [])) ∷
    declares (set_iterator (member sequence.VECTOR_BEGIN 0 [])) ∷
    does (evaluates (own_call 0 here (operands_from (container 0 ∷ iterator 0 ∷ [])))) ∷
    does (prints (number (held (star (iterator 0))) ∷ number (held (member_element sequence.VECTOR_BACK 0 [])) ∷ [])) ∷
    does (prints (number (algorithm algorithms.STD_BINARY_SEARCH (member sequence.LIST_BEGIN 2 [] ∷ member sequence.LIST_END 2 [] ∷ int 1 ∷ []))
    ∷ [])) ∷
    []) ∷
    [])

iterating_has_one : is_outline iterating nowhere (heads [] ((before 0 0 ∷ []) ∷ [] ∷ []) ([] ∷ [] ∷ [])) ≡ true
unfolding is_outline
iterating_has_one = refl

-- sorted is dropped of every container of the iterator's form
--   void put(const std::vector<int>& v, std::vector<int>::iterator j) {
--   }
--   int main() {
--     std::vector<int> v = {1};
--     std::vector<int> w;
--     put(v, v.begin());
--     std::cout << std::binary_search(w.begin(), w.end(), 1);
--   }
abbrev unsorting : Typed
unsorting = text_of (numbers_to 2) 1 (
    function_of (parameter.Container access.Const f.Vector ∷ parameter.Iterator false f.Vector ∷ []) None
    [] ∷
    main_of
    (declares (makes f.Vector (head_at here (callees.Row sequence.VECTOR_CONSTRUCTOR_LIST) None) (operands_from (int 1 ∷ []))) ∷
    declares (makes f.Vector (head_at here (callees.Row sequence.VECTOR_CONSTRUCTOR) None) (operands_from [])) ∷
    does (evaluates (own_call 0 here (operands_from (container 0 ∷ member sequence.VECTOR_BEGIN 0 [] ∷ [])))) ∷
    does (prints (number (algorithm algorithms.STD_BINARY_SEARCH (member sequence.VECTOR_BEGIN 1 [] ∷ member sequence.VECTOR_END 1 [] ∷ int 1 ∷
    [])) ∷ [])) ∷
    []) ∷
    [])

unsorting_has_none : is_outline unsorting nowhere (heads [] ([] ∷ [] ∷ []) ([] ∷ [] ∷ [])) ≡ false
unfolding is_outline
unsorting_has_none = refl

-- a const_iterator writes nothing, and gets no facts of an iterator
--   void look(const std::vector<int>& v, std::vector<int>::const_iterator j) {
--     std::cout << v.front();
--   }
--   int main() {
--     std::vector<int> v = {1};
--     std::vector<int> w;
--     look(v, v.begin());
--     std::cout << std::binary_search(w.begin(), w.end(), 1);
--   }
abbrev reading : Typed
reading = text_of (numbers_to 2) 1 (
    function_of (parameter.Container access.Const f.Vector ∷ parameter.Iterator true f.Vector ∷ []) None
    (does (prints (number (held (member_element sequence.VECTOR_FRONT 0 [])) ∷ [])) ∷ []) ∷
    main_of
    (declares (makes f.Vector (head_at here (callees.Row sequence.VECTOR_CONSTRUCTOR_LIST) None) (operands_from (int 1 ∷ []))) ∷
    declares (makes f.Vector (head_at here (callees.Row sequence.VECTOR_CONSTRUCTOR) None) (operands_from [])) ∷
    does (evaluates (own_call 0 here (operands_from (container 0 ∷ member sequence.VECTOR_BEGIN 0 [] ∷ [])))) ∷
    does (prints (number (algorithm algorithms.STD_BINARY_SEARCH (member sequence.VECTOR_BEGIN 1 [] ∷ member sequence.VECTOR_END 1 [] ∷ int 1 ∷
    [])) ∷ [])) ∷
    []) ∷
    [])

reading_has_one : is_outline reading nowhere (heads [] ((size_at_least 0 (pos 1) ∷ []) ∷ [] ∷ []) ([] ∷ [] ∷ [])) ≡ true
unfolding is_outline
reading_has_one = refl

reading_gets_none : is_outline reading nowhere
    (heads [] ((size_at_least 0 (pos 1) ∷ before 0 0 ∷ []) ∷ [] ∷ []) ([] ∷ [] ∷ []))
    ≡ false
unfolding is_outline
reading_gets_none = refl

-- it gets those of another const_iterator
--   void look(const std::vector<int>& v, std::vector<int>::const_iterator j) {
--     std::cout << *j;
--   }
--   void show(const std::vector<int>& v) {
--     if (!v.empty()) look(v, v.begin());
--   }
--   int main() {
--     std::vector<int> v;
--     show(v);
--   }
abbrev reading_on : Typed
reading_on = text_of (numbers_to 1) 2 (
    function_of (parameter.Container access.Const f.Vector ∷ parameter.Iterator true f.Vector ∷ []) None
    (does (prints (number (held (star (iterator 0))) ∷ [])) ∷ []) ∷
    function_of (parameter.Container access.Const f.Vector ∷ []) None
    (choice (test (logical_not here (member sequence.VECTOR_EMPTY 0 []))) (does (evaluates (own_call 0 here (operands_from (container 0 ∷ member
    sequence.VECTOR_BEGIN 0 [] ∷ []))))) ∷
    []) ∷
    main_of
    (declares (makes f.Vector (head_at here (callees.Row sequence.VECTOR_CONSTRUCTOR) None) (operands_from [])) ∷
    does (evaluates (own_call 1 here (operands_from (container 0 ∷ [])))) ∷ []) ∷
    [])

reading_on_has_one : is_outline reading_on nowhere (heads [] ((before 0 0 ∷ []) ∷ [] ∷ [] ∷ []) ([] ∷ [] ∷ [] ∷ [])) ≡ true
unfolding is_outline
reading_on_has_one = refl

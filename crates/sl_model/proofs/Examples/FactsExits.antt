-- Outlines of texts with functions: what a call drops and what an exit gives.
use Rattle.sl_base.specs.declared.form.Form.TheVariants as f
use Rattle.sl_base.specs.declared.scalar.Scalar.TheVariants as t
use Rattle.sl_model.proofs.Examples.FactsShort.{algorithm, braces, compares, differ, function_of, head_at, heads, here, int, main_of, member}
use Rattle.sl_model.proofs.Examples.FactsShort.{member_element, numbers_to, star, text_of, up, value_of}
use Rattle.sl_model.specs.Outlines.Facts.{inside, lower_bound, size_at_least, upper_bound}
use Rattle.sl_model.specs.Outlines.Outline.{is_outline, nowhere}
use Rattle.sl_specs.specs.declared.rows.algorithms.TheConstants as algorithms
use Rattle.sl_specs.specs.declared.rows.associative.TheConstants as associative
use Rattle.sl_specs.specs.declared.rows.sequences.TheConstants as sequence
use Rattle.sl_syntax.specs.Typed.{Typed, always, assigns, choice, choice_else, container, declares, declares_first, does, element, endline}
use Rattle.sl_syntax.specs.Typed.{evaluates, for, gives_back, handed_scalar, held, iterator, makes, moves_to, no_first, none, number, operands_from}
use Rattle.sl_syntax.specs.Typed.{own_call, prints, range_for, read, scalar, set_iterator, set_scalar, test, text, unset_scalar, updates, while}
use Rattle.sl_syntax.specs.Typed.{with}
use Rattle.sl_syntax.specs.declared.operator.Access.TheVariants as access
use Rattle.sl_syntax.specs.declared.operator.Arithmetic.TheVariants as o
use Rattle.sl_syntax.specs.declared.operator.Comparison.TheVariants as comparisons
use Rattle.sl_syntax.specs.declared.typed.callee.Callee.TheVariants as callees
use Rattle.sl_syntax.specs.declared.typed.element.Taken.TheVariants as taken
use Rattle.sl_syntax.specs.declared.typed.operator.Operator.TheVariants as operators
use Rattle.sl_syntax.specs.declared.typed.parameter.ParameterKind.TheVariants as parameter
use Rattle.std.specs.Prelude.{None, Some, [], false, negsuc, pos, refl, true, ◌++◌, ◌∷◌, ◌≡◌}

-- a scalar by reference gets the exit's facts
--   void three(int& x, int y) {
--     x = 3;
--   }
--   int main() {
--     int x = 0;
--     three(x, x);
--     while (x == 3) three(x, 1);
--   }
abbrev setting : Typed
setting = text_of (negsuc 0 ∷ numbers_to 4) 1 (
    function_of (parameter.Reference t.Int ∷ parameter.Value t.Int ∷ []) None
    (does (assigns (scalar 0 here) (int 3)) ∷ []) ∷
    main_of
    (declares (set_scalar t.Int (int 0)) ∷ does (evaluates (own_call 0 here (operands_from (handed_scalar 0 ∷ value_of 0 ∷ [])))) ∷
    while 0 (test (compares comparisons.Equal (value_of 0) (int 3))) (does (evaluates (own_call 0 here (operands_from (handed_scalar 0 ∷ int 1 ∷
    []))))) ∷
    []) ∷
    [])

setting_has_one : is_outline setting nowhere
    (heads ((lower_bound 0 (pos 3) ∷ upper_bound 0 (pos 3) ∷ []) ∷ []) ([] ∷ [] ∷ []) ((lower_bound 0 (pos 3) ∷ upper_bound 0 (pos 3) ∷ []) ∷ [] ∷
    []))
    ≡ true
unfolding is_outline
setting_has_one = refl

-- without them nothing is known of it
setting_drops : is_outline setting nowhere (heads ((lower_bound 0 (pos 3) ∷ []) ∷ []) ([] ∷ [] ∷ []) ([] ∷ [] ∷ [])) ≡ false
unfolding is_outline
setting_drops = refl

-- an exit's list speaks of parameters by reference alone
setting_speaks_of_references : is_outline setting nowhere
    (heads ([] ∷ []) ((lower_bound 1 (pos 0) ∷ []) ∷ [] ∷ []) ((lower_bound 1 (pos 0) ∷ []) ∷ [] ∷ []))
    ≡ false
unfolding is_outline
setting_speaks_of_references = refl

-- the list at the entry of `main` is empty
main_begins_with_none : is_outline setting nowhere (heads ([] ∷ []) ([] ∷ (lower_bound 0 (pos 0) ∷ []) ∷ []) ([] ∷ [] ∷ [])) ≡ false
unfolding is_outline
main_begins_with_none = refl

-- a reference that isn't const: all facts on the container are dropped
--   void f(std::vector<int>& v) {
--   }
--   int main() {
--     std::vector<int> v = {1};
--     auto it = v.begin();
--     f(v);
--     std::cout << *it;
--   }
abbrev changing : Typed
changing = text_of (numbers_to 2) 1 (
    function_of (parameter.Container access.Whole f.Vector ∷ []) None
    [] ∷
    main_of
    (declares (makes f.Vector (head_at here (callees.Row sequence.VECTOR_CONSTRUCTOR_LIST) None) (operands_from (int 1 ∷ []))) ∷
    declares (set_iterator (member sequence.VECTOR_BEGIN 0 [])) ∷ does (evaluates (own_call 0 here (operands_from (container 0 ∷ [])))) ∷
    does (prints (number (held (star (iterator 0))) ∷ [])) ∷ []) ∷
    [])

changing_has_none : is_outline changing nowhere (heads [] ([] ∷ [] ∷ []) ((size_at_least 0 (pos 1) ∷ []) ∷ [] ∷ [])) ≡ false
unfolding is_outline
changing_has_none = refl

-- a call of a function that never returns gives its exit's list
--   void spin(std::vector<int>& v) {
--     for (;;) v.push_back(1);
--   }
--   int main() {
--     std::vector<int> v;
--     spin(v);
--     std::cout << v.front();
--   }
abbrev spinning : Typed
spinning = text_of (numbers_to 2) 1 (
    function_of (parameter.Container access.Whole f.Vector ∷ []) None
    (for 0 no_first always None (does (evaluates (member sequence.VECTOR_PUSH_BACK 0 (int 1 ∷ [])))) ∷ []) ∷
    main_of
    (declares (makes f.Vector (head_at here (callees.Row sequence.VECTOR_CONSTRUCTOR) None) (operands_from [])) ∷
    does (evaluates (own_call 0 here (operands_from (container 0 ∷ [])))) ∷
    does (prints (number (held (member_element sequence.VECTOR_FRONT 0 [])) ∷ [])) ∷ []) ∷
    [])

spinning_has_one : is_outline spinning nowhere (heads ([] ∷ []) ([] ∷ [] ∷ []) ((size_at_least 0 (pos 2) ∷ []) ∷ [] ∷ [])) ≡ true
unfolding is_outline
spinning_has_one = refl

-- a text of three functions
--   int total(const std::vector<int>& v) {
--     int s = 0;
--     for (int x : v) s += x;
--     return s;
--   }
--   void drop_negative(std::vector<int>& v) {
--     auto it = v.begin();
--     while (it != v.end()) {
--       if (*it < 0) it = v.erase(it);
--       else ++it;
--     }
--   }
--   int main() {
--     std::vector<int> v;
--     std::map<int, int> seen;
--     int x;
--     while (std::cin >> x) {
--       v.push_back(x);
--       seen[x] += 1;
--     }
--     drop_negative(v);
--     std::sort(v.begin(), v.end());
--     v.erase(std::unique(v.begin(), v.end()), v.end());
--     auto low = std::lower_bound(v.begin(), v.end(), 10);
--     while (low != v.end()) {
--       std::cout << *low << " " << seen.at(*low) << "\n";
--       ++low;
--     }
--     for (auto m = seen.begin(); m != seen.end(); ++m) {
--       if (m->second > 1) std::cout << m->first << "\n";
--     }
--     std::cout << "total " << total(v) << std::endl;
--     return 0;
--   }
abbrev realistic : Typed
realistic = text_of (negsuc 0 ∷ (numbers_to 2 ++ (pos 9 ∷ pos 10 ∷ pos 11 ∷ []))) 2 (
    function_of (parameter.Container access.Const f.Vector ∷ []) (Some (parameter.Value t.Int))
    (declares (set_scalar t.Int (int 0)) ∷
    range_for 0 taken.Value 0 here 0 (does (updates o.Add t.Int t.Int here (scalar 0 here) (value_of 1))) ∷ gives_back (Some (value_of 0)) ∷
    []) ∷
    function_of (parameter.Container access.Whole f.Vector ∷ []) None
    (declares (set_iterator (member sequence.VECTOR_BEGIN 0 [])) ∷
    while 1 (test (differ (iterator 0) (member sequence.VECTOR_END 0 []))) (braces (choice_else (test (compares comparisons.Less (held (star
    (iterator 0))) (int 0))) (does (moves_to 0 (member sequence.VECTOR_ERASE 0 (iterator 0 ∷ [])))) (does (evaluates (up 0))) ∷ [])) ∷
    []) ∷
    main_of
    (declares (makes f.Vector (head_at here (callees.Row sequence.VECTOR_CONSTRUCTOR) None) (operands_from [])) ∷
    declares (makes f.Map (head_at here (callees.Row associative.MAP_CONSTRUCTOR) None) (operands_from [])) ∷
    declares (unset_scalar t.Int) ∷
    while 2 (read (0 ∷ [])) (braces (does (evaluates (member sequence.VECTOR_PUSH_BACK 0 (value_of 0 ∷ []))) ∷ does (updates o.Add t.Int t.Int
    here (member_element associative.MAP_SUBSCRIPT 1 (value_of 0 ∷ [])) (int 1)) ∷ [])) ∷
    does (evaluates (own_call 1 here (operands_from (container 0 ∷ [])))) ∷
    does (evaluates (algorithm algorithms.STD_SORT (member sequence.VECTOR_BEGIN 0 [] ∷ member sequence.VECTOR_END 0 [] ∷ []))) ∷
    does (evaluates (member sequence.VECTOR_ERASE_RANGE 0 (algorithm algorithms.STD_UNIQUE (member sequence.VECTOR_BEGIN 0 [] ∷ member
    sequence.VECTOR_END 0 [] ∷ []) ∷ member sequence.VECTOR_END 0 [] ∷ []))) ∷
    declares (set_iterator (algorithm algorithms.STD_LOWER_BOUND (member sequence.VECTOR_BEGIN 0 [] ∷ member sequence.VECTOR_END 0 [] ∷ int 10 ∷
    []))) ∷
    while 3 (test (differ (iterator 0) (member sequence.VECTOR_END 0 []))) (braces (does (prints (number (held (star (iterator 0))) ∷ text [] ∷
    number (held (member_element associative.MAP_AT 1 (held (star (iterator 0)) ∷ []))) ∷ text [] ∷ [])) ∷ does (evaluates (up 0)) ∷ [])) ∷
    for 4 (declares_first (set_iterator (member associative.MAP_BEGIN 1 []))) (test (differ (iterator 1) (member associative.MAP_END 1 [])))
    (Some (evaluates (up 1))) (braces (choice (test (compares comparisons.Greater (held (element (head_at here (callees.Operator
    operators.ArrowSecond) None) (with (iterator 1) none))) (int 1))) (does (prints (number (held (element (head_at here (callees.Operator
    operators.ArrowFirst) None) (with (iterator 1) none))) ∷ text [] ∷ []))) ∷ [])) ∷
    does (prints (text [] ∷ number (own_call 0 here (operands_from (container 0 ∷ []))) ∷ endline ∷ [])) ∷ gives_back (Some (int 0)) ∷ []) ∷
    [])

realistic_has_one : is_outline realistic nowhere
    (heads ([] ∷ (inside 0 0 ∷ []) ∷ [] ∷ (inside 0 0 ∷ []) ∷ (inside 1 1 ∷ []) ∷ []) ([] ∷ [] ∷ [] ∷ []) ([] ∷ [] ∷ [] ∷ []))
    ≡ true
unfolding is_outline
realistic_has_one = refl

-- Outlines of texts in which loops end in several ways, and of counters and scopes.
use Rattle.sl_base.specs.declared.form.Form.TheVariants as f
use Rattle.sl_base.specs.declared.scalar.Scalar.TheVariants as t
use Rattle.sl_model.proofs.Examples.FactsShort.{algorithm, alone, at_line, braces, compares, differ, head_at, here, int, loops, member, member_at}
use Rattle.sl_model.proofs.Examples.FactsShort.{member_element, no_lists, numbers_to, on, size_number, star, up, up_int, up_size, value_of}
use Rattle.sl_model.specs.Outlines.Facts.{inside, lower_bound, size_at_least, upper_bound}
use Rattle.sl_model.specs.Outlines.Outline.{is_outline, nowhere}
use Rattle.sl_specs.specs.declared.rows.algorithms.TheConstants as algorithms
use Rattle.sl_specs.specs.declared.rows.sequences.TheConstants as sequence
use Rattle.sl_syntax.specs.Typed.{Typed, always, assigns, break, choice, choice_else, declares, declares_first, does, evaluates, for, gives_back}
use Rattle.sl_syntax.specs.Typed.{held, iterator, literal, makes, move, moves_to, no_first, none, number, operands_from, prints, read, set_iterator}
use Rattle.sl_syntax.specs.Typed.{set_scalar, test, unset_scalar, while}
use Rattle.sl_syntax.specs.declared.operator.Comparison.TheVariants as comparisons
use Rattle.sl_syntax.specs.declared.typed.callee.Callee.TheVariants as callees
use Rattle.sl_syntax.specs.declared.typed.operator.Operator.TheVariants as operators
use Rattle.sl_syntax.specs.declared.typed.step.Fix.TheVariants.{Postfix}
use Rattle.std.specs.Prelude.{None, Some, [], false, negsuc, pos, refl, true, ◌++◌, ◌∷◌, ◌≡◌}

-- behind a loop stand the facts of the false test and of each `break`
--   int main() {
--     std::vector<int> v;
--     for (;;) {
--       v.push_back(1);
--       break;
--     }
--     std::cout << v.front();
--     while (true) {
--       if (v.empty()) break;
--     }
--     std::cout << v.front();
--   }
abbrev breaking : Typed
breaking = alone (numbers_to 2)
    (declares (makes f.Vector (head_at here (callees.Row sequence.VECTOR_CONSTRUCTOR) None) (operands_from [])) ∷
    for 0 no_first always None (braces (does (evaluates (member sequence.VECTOR_PUSH_BACK 0 (int 1 ∷ []))) ∷ break ∷ [])) ∷
    does (prints (number (held (member_element sequence.VECTOR_FRONT 0 [])) ∷ [])) ∷
    while 1 (test (literal t.Bool (pos 1))) (braces (choice (test (member sequence.VECTOR_EMPTY 0 [])) break ∷ [])) ∷
    does (prints (number (held (member_element sequence.VECTOR_FRONT 0 [])) ∷ [])) ∷ [])

-- `for (;;)` has no way out but `break`
breaking_has_one : is_outline breaking nowhere (loops ((size_at_least 0 (pos 0) ∷ []) ∷ (size_at_least 0 (pos 1) ∷ []) ∷ [])) ≡ true
unfolding is_outline
breaking_has_one = refl

-- `while (true)` has a way out by its test
--   int main() {
--     std::vector<int> v;
--     while (true) {
--       v.push_back(1);
--       break;
--     }
--     std::cout << v.front();
--   }
abbrev may_end : Typed
may_end = alone (numbers_to 2)
    (declares (makes f.Vector (head_at here (callees.Row sequence.VECTOR_CONSTRUCTOR) None) (operands_from [])) ∷
    while 0 (test (literal t.Bool (pos 1))) (braces (does (evaluates (member sequence.VECTOR_PUSH_BACK 0 (int 1 ∷ []))) ∷ break ∷ [])) ∷
    does (prints (number (held (member_element sequence.VECTOR_FRONT 0 [])) ∷ [])) ∷ [])

may_end_has_none : is_outline may_end nowhere (loops ((size_at_least 0 (pos 0) ∷ []) ∷ [])) ≡ false
unfolding is_outline
may_end_has_none = refl

-- a loop that no way reaches needs nothing
--   int main() {
--     std::vector<int> v;
--     return 0;
--     v.pop_back();
--     while (v.front() == 1) v.pop_back();
--   }
abbrev unreached : Typed
unreached = alone (negsuc 0 ∷ numbers_to 2)
    (declares (makes f.Vector (head_at here (callees.Row sequence.VECTOR_CONSTRUCTOR) None) (operands_from [])) ∷
    gives_back (Some (int 0)) ∷ does (evaluates (member sequence.VECTOR_POP_BACK 0 [])) ∷
    while 0 (test (compares comparisons.Equal (held (member_element sequence.VECTOR_FRONT 0 [])) (int 1))) (does (evaluates (member
    sequence.VECTOR_POP_BACK 0 []))) ∷
    [])

unreached_has_one : is_outline unreached nowhere (loops ([] ∷ [])) ≡ true
unfolding is_outline
unreached_has_one = refl

-- a form that has no rule leaves the text without an outline, also where no way comes
--   int main() {
--     std::vector<int> v;
--     auto it = v.begin();
--     return 0;
--     it++;
--   }
abbrev unreached_form : Typed
unreached_form = alone (negsuc 0 ∷ numbers_to 1)
    (declares (makes f.Vector (head_at (on 2) (callees.Row sequence.VECTOR_CONSTRUCTOR) None) (operands_from [])) ∷
    declares (set_iterator (member_at (on 3) sequence.VECTOR_BEGIN 0 [])) ∷ gives_back (Some (int 0)) ∷
    does (evaluates (move Postfix 0 (head_at (on 5) (callees.Operator operators.Increment) None) none)) ∷ [])

unreached_form_has_none : is_outline unreached_form nowhere no_lists ≡ false
unfolding is_outline
unreached_form_has_none = refl

-- it has one that is open there
unreached_form_is_open : is_outline unreached_form (at_line 5) no_lists ≡ true
unfolding is_outline
unreached_form_is_open = refl

-- bounds of a counter
--   int main() {
--     int x = 0;
--     while (x < 7) ++x;
--     std::cout << x;
--   }
abbrev rising : Typed
rising = alone (negsuc 0 ∷ (numbers_to 1 ++ (pos 6 ∷ pos 7 ∷ pos 8 ∷ [])))
    (declares (set_scalar t.Int (int 0)) ∷ while 0 (test (compares comparisons.Less (value_of 0) (int 7))) (does (evaluates (up_int 0))) ∷
    does (prints (number (value_of 0) ∷ [])) ∷ [])

-- 7 is the least constant that stays an upper bound
rising_has_one : is_outline rising nowhere (loops ((lower_bound 0 (pos 0) ∷ upper_bound 0 (pos 7) ∷ []) ∷ [])) ≡ true
unfolding is_outline
rising_has_one = refl

rising_passes_six : is_outline rising nowhere (loops ((lower_bound 0 (pos 0) ∷ upper_bound 0 (pos 6) ∷ []) ∷ [])) ≡ false
unfolding is_outline
rising_passes_six = refl

-- 5 is no constant of the text
rising_by_constants : is_outline rising nowhere (loops ((lower_bound 0 (negsuc 4) ∷ []) ∷ [])) ≡ false
unfolding is_outline
rising_by_constants = refl

-- facts on what a block ends are dropped; a list speaks of what is in scope
--   int main() {
--     std::vector<int> v = {1};
--     for (int k = 0; k < 2; ++k) {
--       std::vector<int> w;
--       for (int j = 0; j < 2; ++j) w.push_back(j);
--     }
--     std::cout << v.front();
--   }
abbrev scoped : Typed
scoped = alone (negsuc 0 ∷ numbers_to 3)
    (declares (makes f.Vector (head_at here (callees.Row sequence.VECTOR_CONSTRUCTOR_LIST) None) (operands_from (int 1 ∷ []))) ∷
    for 0 (declares_first (set_scalar t.Int (int 0))) (test (compares comparisons.Less (value_of 0) (int 2))) (Some (evaluates (up_int 0)))
    (braces (declares (makes f.Vector (head_at here (callees.Row sequence.VECTOR_CONSTRUCTOR) None) (operands_from [])) ∷ for 1 (declares_first
    (set_scalar t.Int (int 0))) (test (compares comparisons.Less (value_of 1) (int 2))) (Some (evaluates (up_int 1))) (does (evaluates (member
    sequence.VECTOR_PUSH_BACK 1 (value_of 1 ∷ [])))) ∷ [])) ∷
    does (prints (number (held (member_element sequence.VECTOR_FRONT 0 [])) ∷ [])) ∷ [])

scoped_has_one : is_outline scoped nowhere
    (loops ((size_at_least 0 (pos 1) ∷ lower_bound 0 (pos 0) ∷ []) ∷ (size_at_least 0 (pos 1) ∷ size_at_least 1 (pos 0) ∷ lower_bound 0 (pos 0) ∷
    lower_bound 1 (pos 0) ∷ []) ∷ []))
    ≡ true
unfolding is_outline
scoped_has_one = refl

-- the inner vector isn't in scope at the outer head
scoped_is_out_of_scope : is_outline scoped nowhere
    (loops ((size_at_least 0 (pos 1) ∷ size_at_least 1 (pos 0) ∷ []) ∷ [] ∷ []))
    ≡ false
unfolding is_outline
scoped_is_out_of_scope = refl

-- a section of each kind of the generated text
--   int main() {
--     std::vector<int> v;
--     int x;
--     while (std::cin >> x) v.push_back(x);
--     for (auto it = v.begin(); it != v.end(); ) {
--       if (*it == 1) it = v.erase(it); else ++it;
--     }
--     for (std::size_t i = 0; i < v.size(); ++i) v[i] = 2;
--     std::sort(v.begin(), v.end());
--     if (std::binary_search(v.begin(), v.end(), 3)) v.push_back(3);
--   }
abbrev generated : Typed
generated = alone (negsuc 0 ∷ numbers_to 4)
    (declares (makes f.Vector (head_at here (callees.Row sequence.VECTOR_CONSTRUCTOR) None) (operands_from [])) ∷
    declares (unset_scalar t.Int) ∷ while 0 (read (0 ∷ [])) (does (evaluates (member sequence.VECTOR_PUSH_BACK 0 (value_of 0 ∷ [])))) ∷
    for 1 (declares_first (set_iterator (member sequence.VECTOR_BEGIN 0 []))) (test (differ (iterator 0) (member sequence.VECTOR_END 0 [])))
    None (braces (choice_else (test (compares comparisons.Equal (held (star (iterator 0))) (int 1))) (does (moves_to 0 (member
    sequence.VECTOR_ERASE 0 (iterator 0 ∷ [])))) (does (evaluates (up 0))) ∷ [])) ∷
    for 2 (declares_first (set_scalar t.Size (size_number 0))) (test (compares comparisons.Less (value_of 1) (member sequence.VECTOR_SIZE 0
    []))) (Some (evaluates (up_size 1))) (does (assigns (member_element sequence.VECTOR_SUBSCRIPT 0 (value_of 1 ∷ [])) (int 2))) ∷
    does (evaluates (algorithm algorithms.STD_SORT (member sequence.VECTOR_BEGIN 0 [] ∷ member sequence.VECTOR_END 0 [] ∷ []))) ∷
    choice (test (algorithm algorithms.STD_BINARY_SEARCH (member sequence.VECTOR_BEGIN 0 [] ∷ member sequence.VECTOR_END 0 [] ∷ int 3 ∷ [])))
    (does (evaluates (member sequence.VECTOR_PUSH_BACK 0 (int 3 ∷ [])))) ∷
    [])

generated_has_one : is_outline generated nowhere (loops ([] ∷ (inside 0 0 ∷ []) ∷ [] ∷ [])) ≡ true
unfolding is_outline
generated_has_one = refl

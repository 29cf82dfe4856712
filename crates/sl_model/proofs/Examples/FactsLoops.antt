-- Outlines of texts with loops.
use Rattle.sl_base.specs.declared.form.Form.TheVariants as f
use Rattle.sl_base.specs.declared.scalar.Scalar.TheVariants as t
use Rattle.sl_model.proofs.Examples.FactsShort.{alone, braces, compares, differ, head_at, here, int, loops, member, member_element, numbers_to}
use Rattle.sl_model.proofs.Examples.FactsShort.{size_number, star, up, up_size, value_of}
use Rattle.sl_model.specs.Outlines.Facts.{before, inside, lower_bound, size_at_least, up_to_size, upper_bound}
use Rattle.sl_model.specs.Outlines.Outline.{is_outline, nowhere}
use Rattle.sl_specs.specs.declared.rows.sequences.TheConstants as sequence
use Rattle.sl_syntax.specs.Typed.{Typed, always, assigns, choice, choice_else, continue, declares, declares_first, does, evaluates, for, held}
use Rattle.sl_syntax.specs.Typed.{iterator, makes, moves_to, no_first, operands_from, read, scalar, set_iterator, set_scalar, test, unset_scalar}
use Rattle.sl_syntax.specs.Typed.{updates, while}
use Rattle.sl_syntax.specs.declared.operator.Arithmetic.TheVariants as o
use Rattle.sl_syntax.specs.declared.operator.Comparison.TheVariants as comparisons
use Rattle.sl_syntax.specs.declared.typed.callee.Callee.TheVariants as callees
use Rattle.std.specs.Prelude.{None, Some, [], false, negsuc, pos, refl, true, ◌∷◌, ◌≡◌}

-- a text that reads numbers and erases some
--   int main() {
--     std::vector<int> v;
--     int x;
--     while (std::cin >> x) v.push_back(x);
--     auto it = v.begin();
--     while (it != v.end()) {
--       if (*it == 0) it = v.erase(it);
--       else ++it;
--     }
--   }
abbrev erasing : Typed
erasing = alone (negsuc 0 ∷ numbers_to 1)
    (declares (makes f.Vector (head_at here (callees.Row sequence.VECTOR_CONSTRUCTOR) None) (operands_from [])) ∷
    declares (unset_scalar t.Int) ∷ while 0 (read (0 ∷ [])) (does (evaluates (member sequence.VECTOR_PUSH_BACK 0 (value_of 0 ∷ [])))) ∷
    declares (set_iterator (member sequence.VECTOR_BEGIN 0 [])) ∷
    while 1 (test (differ (iterator 0) (member sequence.VECTOR_END 0 []))) (braces (choice_else (test (compares comparisons.Equal (held (star
    (iterator 0))) (int 0))) (does (moves_to 0 (member sequence.VECTOR_ERASE 0 (iterator 0 ∷ [])))) (does (evaluates (up 0))) ∷ [])) ∷
    [])

erasing_has_one : is_outline erasing nowhere (loops ((size_at_least 0 (pos 0) ∷ []) ∷ (inside 0 0 ∷ []) ∷ [])) ≡ true
unfolding is_outline
erasing_has_one = refl

-- the list of the first loop may be empty
erasing_has_a_weaker_one : is_outline erasing nowhere (loops ([] ∷ (inside 0 0 ∷ []) ∷ [])) ≡ true
unfolding is_outline
erasing_has_a_weaker_one = refl

-- without the fact at the second head the test has not what it needs
erasing_needs_it : is_outline erasing nowhere (loops ((size_at_least 0 (pos 0) ∷ []) ∷ [] ∷ [])) ≡ false
unfolding is_outline
erasing_needs_it = refl

-- the step keeps no iterator before the end
erasing_keeps_no_more : is_outline erasing nowhere (loops ((size_at_least 0 (pos 0) ∷ []) ∷ (before 0 0 ∷ []) ∷ [])) ≡ false
unfolding is_outline
erasing_keeps_no_more = refl

-- without `it =`: no list holds at the head
--   int main() {
--     std::vector<int> v = {1};
--     auto it = v.begin();
--     while (it != v.end()) {
--       if (*it == 0) v.erase(it);
--       else ++it;
--     }
--   }
abbrev not_erasing : Typed
not_erasing = alone (negsuc 0 ∷ numbers_to 2)
    (declares (makes f.Vector (head_at here (callees.Row sequence.VECTOR_CONSTRUCTOR_LIST) None) (operands_from (int 1 ∷ []))) ∷
    declares (set_iterator (member sequence.VECTOR_BEGIN 0 [])) ∷
    while 0 (test (differ (iterator 0) (member sequence.VECTOR_END 0 []))) (braces (choice_else (test (compares comparisons.Equal (held (star
    (iterator 0))) (int 0))) (does (evaluates (member sequence.VECTOR_ERASE 0 (iterator 0 ∷ [])))) (does (evaluates (up 0))) ∷ [])) ∷
    [])

not_erasing_has_none : is_outline not_erasing nowhere (loops ((inside 0 0 ∷ []) ∷ [])) ≡ false
unfolding is_outline
not_erasing_has_none = refl

not_erasing_has_none_either : is_outline not_erasing nowhere (loops ([] ∷ [])) ≡ false
unfolding is_outline
not_erasing_has_none_either = refl

-- `test_not_size`: at the head the index is at most the size
--   int main() {
--     std::vector<int> v;
--     int x;
--     while (std::cin >> x) v.push_back(x);
--     int s = 0;
--     for (std::size_t i = 0; i != v.size(); ++i) s += v[i];
--   }
abbrev indexing : Typed
indexing = alone (negsuc 0 ∷ numbers_to 1)
    (declares (makes f.Vector (head_at here (callees.Row sequence.VECTOR_CONSTRUCTOR) None) (operands_from [])) ∷
    declares (unset_scalar t.Int) ∷ while 0 (read (0 ∷ [])) (does (evaluates (member sequence.VECTOR_PUSH_BACK 0 (value_of 0 ∷ [])))) ∷
    declares (set_scalar t.Int (int 0)) ∷
    for 1 (declares_first (set_scalar t.Size (size_number 0))) (test (compares comparisons.NotEqual (value_of 2) (member sequence.VECTOR_SIZE 0
    []))) (Some (evaluates (up_size 2))) (does (updates o.Add t.Int t.Int here (scalar 1 here) (held (member_element sequence.VECTOR_SUBSCRIPT 0
    (value_of 2 ∷ []))))) ∷
    [])

indexing_has_one : is_outline indexing nowhere (loops ([] ∷ (up_to_size 2 0 ∷ []) ∷ [])) ≡ true
unfolding is_outline
indexing_has_one = refl

indexing_needs_it : is_outline indexing nowhere (loops ([] ∷ [] ∷ [])) ≡ false
unfolding is_outline
indexing_needs_it = refl

-- with `i <= v.size()` there is none
--   int main() {
--     std::vector<int> v;
--     int s = 0;
--     for (std::size_t i = 0; i <= v.size(); ++i) s += v[i];
--   }
abbrev indexing_past : Typed
indexing_past = alone (negsuc 0 ∷ numbers_to 1)
    (declares (makes f.Vector (head_at here (callees.Row sequence.VECTOR_CONSTRUCTOR) None) (operands_from [])) ∷
    declares (set_scalar t.Int (int 0)) ∷
    for 0 (declares_first (set_scalar t.Size (size_number 0))) (test (compares comparisons.LessEqual (value_of 1) (member sequence.VECTOR_SIZE 0
    []))) (Some (evaluates (up_size 1))) (does (updates o.Add t.Int t.Int here (scalar 0 here) (held (member_element sequence.VECTOR_SUBSCRIPT 0
    (value_of 1 ∷ []))))) ∷
    [])

-- the strongest facts that hold at the head
indexing_past_has_none : is_outline indexing_past nowhere (loops ((lower_bound 1 (pos 0) ∷ []) ∷ [])) ≡ false
unfolding is_outline
indexing_past_has_none = refl

-- what a body and each `continue` give is carried through the last part
--   int main() {
--     std::vector<int> v = {1, 2};
--     for (auto it = v.begin(); it != v.end(); ++it) {
--       if (*it == 1) continue;
--       *it = 3;
--     }
--   }
abbrev continuing : Typed
continuing = alone (numbers_to 4)
    (declares (makes f.Vector (head_at here (callees.Row sequence.VECTOR_CONSTRUCTOR_LIST) None) (operands_from (int 1 ∷ int 2 ∷ []))) ∷
    for 0 (declares_first (set_iterator (member sequence.VECTOR_BEGIN 0 []))) (test (differ (iterator 0) (member sequence.VECTOR_END 0 [])))
    (Some (evaluates (up 0))) (braces (choice (test (compares comparisons.Equal (held (star (iterator 0))) (int 1))) continue ∷ does (assigns
    (star (iterator 0)) (int 3)) ∷ [])) ∷
    [])

continuing_has_one : is_outline continuing nowhere (loops ((inside 0 0 ∷ size_at_least 0 (pos 2) ∷ []) ∷ [])) ≡ true
unfolding is_outline
continuing_has_one = refl

-- a `continue` brings its facts to the head
--   int main() {
--     std::vector<int> v = {3};
--     int x = 3;
--     for (;;) {
--       if (x == 3) { v.clear(); continue; }
--       v.push_back(3);
--     }
--   }
abbrev cleared_and_continued : Typed
cleared_and_continued = alone (numbers_to 4)
    (declares (makes f.Vector (head_at here (callees.Row sequence.VECTOR_CONSTRUCTOR_LIST) None) (operands_from (int 3 ∷ []))) ∷
    declares (set_scalar t.Int (int 3)) ∷
    for 0 no_first always None (braces (choice (test (compares comparisons.Equal (value_of 0) (int 3))) (braces (does (evaluates (member
    sequence.VECTOR_CLEAR 0 [])) ∷ continue ∷ [])) ∷ does (evaluates (member sequence.VECTOR_PUSH_BACK 0 (int 3 ∷ []))) ∷ [])) ∷
    [])

cleared_and_continued_has_one : is_outline cleared_and_continued nowhere
    (loops ((lower_bound 0 (pos 3) ∷ upper_bound 0 (pos 3) ∷ []) ∷ []))
    ≡ true
unfolding is_outline
cleared_and_continued_has_one = refl

cleared_and_continued_keeps_none : is_outline cleared_and_continued nowhere (loops ((size_at_least 0 (pos 0) ∷ []) ∷ [])) ≡ false
unfolding is_outline
cleared_and_continued_keeps_none = refl

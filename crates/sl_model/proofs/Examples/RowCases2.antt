-- Closed runs of texts, each made of a C++ text and its end and output by tools/run_goal.py; the texts and ends are not this program's own answers.
use Rattle.sl_base.specs.declared.scalar.Scalar.TheVariants as t
use Rattle.sl_base.specs.declared.form.Form.TheVariants as f
use Rattle.sl_syntax.specs.declared.operator.Comparison.TheVariants as c
use Rattle.sl_syntax.specs.declared.typed.callee.Callee.TheVariants as callees
use Rattle.sl_syntax.specs.declared.typed.element.Taken.TheVariants as taken
use Rattle.sl_syntax.specs.declared.typed.operator.Operator.TheVariants as operators
use Rattle.sl_syntax.specs.declared.typed.parameter.ParameterKind.TheVariants as parameter
use Rattle.sl_syntax.specs.declared.typed.variable.VariableKind.TheVariants as sort
use Rattle.std.specs.Prelude.{◌≡◌, refl, false, [], ◌∷◌, Some, None, pos, negsuc, codes}
use Rattle.std.specs.Fmt.{digits}
use Rattle.sl_syntax.specs.declared.typed.step.Fix.TheVariants.{Prefix}
use Rattle.sl_syntax.specs.declared.typed.step.Step.TheVariants.{Up}
use Rattle.sl_syntax.specs.Typed.{literal, held, iterator, convert, negate, comparison, increment, move, call, own_call, scalar, element}
use Rattle.sl_syntax.specs.Typed.{none, with, test, text, number, prints, evaluates, set_scalar, set_iterator, makes, block, declares}
use Rattle.sl_syntax.specs.Typed.{choice, choice_else, range_for, gives_back, does, Typed}
use Rattle.sl_specs.specs.Table.{table}
use Rattle.sl_model.specs.Runs.Ends.{Done}
use Rattle.sl_model.specs.Runs.Run.{run}
use Rattle.sl_model.proofs.Examples.Short.{at, head, all, finish}

-- query unordered_set.constructor(f, l) own form: done
-- int main() {
--   std::unordered_set<int> c = {1, 2, 3, 4};
--   std::unordered_set<int> g(c.begin(), c.end());
--   std::cout << g.size() << " ";
--   for (int e : g) std::cout << e << ",";
-- }
abbrev pub query_unordered_set_constructor_f_l_own_form_done : Typed
query_unordered_set_constructor_f_l_own_form_done = record {
  functions =
      record {
        name = codes "main";
        parameters = [];
        result = Some (parameter.Value t.Int);
        variables =
            record { kind = sort.Container; name = 0; place = at 2 27 } ∷
            record { kind = sort.Container; name = 1; place = at 3 27 } ∷
            record { kind = sort.Scalar; name = 2; place = at 5 12 } ∷
            [];
        body = block (Some 0) (all (
            declares (makes f.HashSet (head (callees.Row 132) (at 2 3) None None []) (with (literal t.Int (pos 1))
            (with (literal t.Int (pos 2)) (with (literal t.Int (pos 3)) (with (literal t.Int (pos 4)) none))))) ∷
            declares (makes f.HashSet (head (callees.Row 134) (at 3 3) None None []) (with
            (call (head (callees.Row 136) (at 3 31) None (Some 0) (Some 0 ∷ [])) none)
            (with (call (head (callees.Row 137) (at 3 42) None (Some 0) (Some 0 ∷ [])) none) none))) ∷
            does (prints (number (call (head (callees.Row 138) (at 4 18) None (Some 1) (Some 1 ∷ [])) none) ∷ text (codes " ") ∷ [])) ∷
            range_for 0 taken.Value 1 (at 5 3) 1 (does (prints (number (held (scalar 0 (at 5 32))) ∷ text (codes ",") ∷ []))) ∷
            []));
        close = at 6 1;
      } ∷
      [];
  main = 0;
  sites = at 6 1 ∷ [];
  loops = at 5 3 ∷ [];
  names = codes "c" ∷ codes "g" ∷ codes "e" ∷ [];
  constants = pos 0 ∷ pos 1 ∷ pos 2 ∷ pos 3 ∷ pos 4 ∷ pos 5 ∷ [];
}

query_unordered_set_constructor_f_l_own_form_done_ends : run query_unordered_set_constructor_f_l_own_form_done [] (
    4 ∷
    1 ∷
    3 ∷
    0 ∷
    2 ∷
    9 ∷
    5 ∷
    1 ∷
    1 ∷
    4 ∷
    1 ∷
    3 ∷
    0 ∷
    2 ∷
    9 ∷
    5 ∷
    1 ∷
    1 ∷
    4 ∷
    1 ∷
    3 ∷
    0 ∷
    2 ∷
    9 ∷
    5 ∷
    1 ∷
    1 ∷
    4 ∷
    1 ∷
    3 ∷
    0 ∷
    2 ∷
    9 ∷
    5 ∷
    1 ∷
    1 ∷
    []) 500
    ≡ finish (Done (pos 0)) (codes "4 2,3,4,1,") 0
unfolding digits table
query_unordered_set_constructor_f_l_own_form_done_ends = refl

-- iterator of unordered_set handed over, invalid handed over is no use: done
-- void f(std::unordered_set<int>::iterator i) {
--   std::cout << 1;
-- }
-- int main() {
--   std::unordered_set<int> c = {1, 2, 3, 4};
--   auto it = c.find(1);
--   c.clear();
--   f(it);
-- }
abbrev pub iterator_of_unordered_set_handed_over_invalid_handed_over_is_no_use_done : Typed
iterator_of_unordered_set_handed_over_invalid_handed_over_is_no_use_done = record {
  functions =
      record {
        name = codes "f";
        parameters = parameter.Iterator false f.HashSet ∷ [];
        result = None;
        variables = record { kind = sort.Iterator; name = 0; place = at 1 42 } ∷ [];
        body = block None (all (does (prints (number (literal t.Int (pos 1)) ∷ [])) ∷ []));
        close = at 3 1;
      } ∷
      record {
        name = codes "main";
        parameters = [];
        result = Some (parameter.Value t.Int);
        variables =
            record { kind = sort.Container; name = 1; place = at 5 27 } ∷
            record { kind = sort.Iterator; name = 2; place = at 6 8 } ∷
            [];
        body = block (Some 1) (all (
            declares (makes f.HashSet (head (callees.Row 132) (at 5 3) None None []) (with (literal t.Int (pos 1))
            (with (literal t.Int (pos 2)) (with (literal t.Int (pos 3)) (with (literal t.Int (pos 4)) none))))) ∷
            declares
            (set_iterator (call (head (callees.Row 148) (at 6 15) None (Some 0) (Some 1 ∷ [])) (with (literal t.Int (pos 1)) none))) ∷
            does (evaluates (call (head (callees.Row 145) (at 7 5) (Some 0) (Some 0) (Some 1 ∷ [])) none)) ∷
            does (evaluates (own_call 0 (at 8 3) (with (iterator 0) none))) ∷
            []));
        close = at 9 1;
      } ∷
      [];
  main = 1;
  sites = at 7 5 ∷ at 9 1 ∷ [];
  loops = [];
  names = codes "i" ∷ codes "c" ∷ codes "it" ∷ [];
  constants = pos 0 ∷ pos 1 ∷ pos 2 ∷ pos 3 ∷ pos 4 ∷ pos 5 ∷ [];
}

iterator_of_unordered_set_handed_over_invalid_handed_over_is_no_use_done_ends : run
    iterator_of_unordered_set_handed_over_invalid_handed_over_is_no_use_done [] [] 500
    ≡ finish (Done (pos 0)) (codes "1") 0
unfolding digits table
iterator_of_unordered_set_handed_over_invalid_handed_over_is_no_use_done_ends = refl

-- query multiset.upper_bound(k) 2: done
-- int main() {
--   std::multiset<int> c = {1, 2, 2, 3};
--   {
--     auto q = c.upper_bound(2);
--     if (q == c.end()) std::cout << "end ";
--     else std::cout << *q << " ";
--   }
-- }
abbrev pub query_multiset_upper_bound_k_2_done : Typed
query_multiset_upper_bound_k_2_done = record {
  functions =
      record {
        name = codes "main";
        parameters = [];
        result = Some (parameter.Value t.Int);
        variables =
            record { kind = sort.Container; name = 0; place = at 2 22 } ∷
            record { kind = sort.Iterator; name = 1; place = at 4 10 } ∷
            [];
        body = block (Some 0) (all (
            declares (makes f.MultiSet (head (callees.Row 170) (at 2 3) None None []) (with (literal t.Int (pos 1))
            (with (literal t.Int (pos 2)) (with (literal t.Int (pos 2)) (with (literal t.Int (pos 3)) none))))) ∷
            block None (all (
            declares
            (set_iterator (call (head (callees.Row 187) (at 4 16) None (Some 0) (Some 0 ∷ [])) (with (literal t.Int (pos 2)) none))) ∷
            choice_else (test (call (head (callees.Operator (operators.Compare c.Equal)) (at 5 11) None None (None ∷ Some 1 ∷ []))
            (with (iterator 0) (with (call (head (callees.Row 174) (at 5 16) None (Some 0) (Some 0 ∷ [])) none) none))))
            (does (prints (text (codes "end ") ∷ []))) (does (prints (
            number (held (element (head (callees.Operator operators.Dereference) (at 6 23) None None (None ∷ Some 1 ∷ []))
            (with (iterator 0) none))) ∷
            text (codes " ") ∷
            []))) ∷
            [])) ∷
            []));
        close = at 8 1;
      } ∷
      [];
  main = 0;
  sites = at 8 1 ∷ [];
  loops = [];
  names = codes "c" ∷ codes "q" ∷ [];
  constants = pos 0 ∷ pos 1 ∷ pos 2 ∷ pos 3 ∷ pos 4 ∷ [];
}

query_multiset_upper_bound_k_2_done_ends : run query_multiset_upper_bound_k_2_done [] [] 500 ≡ finish (Done (pos 0)) (codes "3 ") 0
unfolding digits table
query_multiset_upper_bound_k_2_done_ends = refl

-- operator -- of list, the end: done
-- int main() {
--   std::list<int> c = {1, 2, 3, 4};
--   std::list<int> w = {7};
--   auto it = c.end();
--   --it;
--   std::cout << (it == c.begin());
-- }
abbrev pub operator_of_list_the_end_done : Typed
operator_of_list_the_end_done = record {
  functions =
      record {
        name = codes "main";
        parameters = [];
        result = Some (parameter.Value t.Int);
        variables =
            record { kind = sort.Container; name = 0; place = at 2 18 } ∷
            record { kind = sort.Container; name = 1; place = at 3 18 } ∷
            record { kind = sort.Iterator; name = 2; place = at 4 8 } ∷
            [];
        body = block (Some 0) (all (
            declares (makes f.List (head (callees.Row 58) (at 2 3) None None []) (with (literal t.Int (pos 1))
            (with (literal t.Int (pos 2)) (with (literal t.Int (pos 3)) (with (literal t.Int (pos 4)) none))))) ∷
            declares (makes f.List (head (callees.Row 58) (at 3 3) None None []) (with (literal t.Int (pos 7)) none)) ∷
            declares (set_iterator (call (head (callees.Row 65) (at 4 15) None (Some 0) (Some 0 ∷ [])) none)) ∷
            does (evaluates (move Prefix 0 (head (callees.Operator operators.Decrement) (at 5 3) None None (None ∷ Some 2 ∷ [])) none)) ∷
            does (prints (
            number (call (head (callees.Operator (operators.Compare c.Equal)) (at 6 20) None None (None ∷ Some 2 ∷ []))
            (with (iterator 0) (with (call (head (callees.Row 64) (at 6 25) None (Some 0) (Some 0 ∷ [])) none) none))) ∷
            [])) ∷
            []));
        close = at 7 1;
      } ∷
      [];
  main = 0;
  sites = at 7 1 ∷ [];
  loops = [];
  names = codes "c" ∷ codes "w" ∷ codes "it" ∷ [];
  constants = pos 0 ∷ pos 1 ∷ pos 2 ∷ pos 3 ∷ pos 4 ∷ pos 5 ∷ pos 6 ∷ pos 7 ∷ pos 8 ∷ [];
}

operator_of_list_the_end_done_ends : run operator_of_list_the_end_done [] [] 500 ≡ finish (Done (pos 0)) (codes "0") 0
unfolding digits table
operator_of_list_the_end_done_ends = refl

-- query list.constructor(f, l) none: done
-- int main() {
--   std::list<int> c = {1, 2, 3, 4};
--   std::deque<int> y;
--   std::list<int> g(y.begin(), y.end());
--   std::cout << g.size() << " ";
--   for (int e : g) std::cout << e << ",";
-- }
abbrev pub query_list_constructor_f_l_none_done : Typed
query_list_constructor_f_l_none_done = record {
  functions =
      record {
        name = codes "main";
        parameters = [];
        result = Some (parameter.Value t.Int);
        variables =
            record { kind = sort.Container; name = 0; place = at 2 18 } ∷
            record { kind = sort.Container; name = 1; place = at 3 19 } ∷
            record { kind = sort.Container; name = 2; place = at 4 18 } ∷
            record { kind = sort.Scalar; name = 3; place = at 6 12 } ∷
            [];
        body = block (Some 0) (all (
            declares (makes f.List (head (callees.Row 58) (at 2 3) None None []) (with (literal t.Int (pos 1))
            (with (literal t.Int (pos 2)) (with (literal t.Int (pos 3)) (with (literal t.Int (pos 4)) none))))) ∷
            declares (makes f.Deque (head (callees.Row 28) (at 3 3) None None []) none) ∷
            declares (makes f.List (head (callees.Row 62) (at 4 3) None None []) (with
            (call (head (callees.Row 35) (at 4 22) None (Some 1) (Some 1 ∷ [])) none)
            (with (call (head (callees.Row 36) (at 4 33) None (Some 1) (Some 1 ∷ [])) none) none))) ∷
            does (prints (number (call (head (callees.Row 66) (at 5 18) None (Some 2) (Some 2 ∷ [])) none) ∷ text (codes " ") ∷ [])) ∷
            range_for 0 taken.Value 2 (at 6 3) 2 (does (prints (number (held (scalar 0 (at 6 32))) ∷ text (codes ",") ∷ []))) ∷
            []));
        close = at 7 1;
      } ∷
      [];
  main = 0;
  sites = at 7 1 ∷ [];
  loops = at 6 3 ∷ [];
  names = codes "c" ∷ codes "y" ∷ codes "g" ∷ codes "e" ∷ [];
  constants = pos 0 ∷ pos 1 ∷ pos 2 ∷ pos 3 ∷ pos 4 ∷ pos 5 ∷ [];
}

query_list_constructor_f_l_none_done_ends : run query_list_constructor_f_l_none_done [] [] 500 ≡ finish (Done (pos 0)) (codes "0 ") 0
unfolding digits table
query_list_constructor_f_l_none_done_ends = refl

-- query deque.constructor(f, l) none: done
-- int main() {
--   std::deque<int> c = {1, 2, 3, 4};
--   std::deque<int> y;
--   std::deque<int> g(y.begin(), y.end());
--   std::cout << g.size() << " ";
--   for (int e : g) std::cout << e << ",";
-- }
abbrev pub query_deque_constructor_f_l_none_done : Typed
query_deque_constructor_f_l_none_done = record {
  functions =
      record {
        name = codes "main";
        parameters = [];
        result = Some (parameter.Value t.Int);
        variables =
            record { kind = sort.Container; name = 0; place = at 2 19 } ∷
            record { kind = sort.Container; name = 1; place = at 3 19 } ∷
            record { kind = sort.Container; name = 2; place = at 4 19 } ∷
            record { kind = sort.Scalar; name = 3; place = at 6 12 } ∷
            [];
        body = block (Some 0) (all (
            declares (makes f.Deque (head (callees.Row 29) (at 2 3) None None []) (with (literal t.Int (pos 1))
            (with (literal t.Int (pos 2)) (with (literal t.Int (pos 3)) (with (literal t.Int (pos 4)) none))))) ∷
            declares (makes f.Deque (head (callees.Row 28) (at 3 3) None None []) none) ∷
            declares (makes f.Deque (head (callees.Row 33) (at 4 3) None None []) (with
            (call (head (callees.Row 35) (at 4 23) None (Some 1) (Some 1 ∷ [])) none)
            (with (call (head (callees.Row 36) (at 4 34) None (Some 1) (Some 1 ∷ [])) none) none))) ∷
            does (prints (number (call (head (callees.Row 37) (at 5 18) None (Some 2) (Some 2 ∷ [])) none) ∷ text (codes " ") ∷ [])) ∷
            range_for 0 taken.Value 2 (at 6 3) 2 (does (prints (number (held (scalar 0 (at 6 32))) ∷ text (codes ",") ∷ []))) ∷
            []));
        close = at 7 1;
      } ∷
      [];
  main = 0;
  sites = at 7 1 ∷ [];
  loops = at 6 3 ∷ [];
  names = codes "c" ∷ codes "y" ∷ codes "g" ∷ codes "e" ∷ [];
  constants = pos 0 ∷ pos 1 ∷ pos 2 ∷ pos 3 ∷ pos 4 ∷ pos 5 ∷ [];
}

query_deque_constructor_f_l_none_done_ends : run query_deque_constructor_f_l_none_done [] [] 500 ≡ finish (Done (pos 0)) (codes "0 ") 0
unfolding digits table
query_deque_constructor_f_l_none_done_ends = refl

-- query multiset.constructor(f, l) none: done
-- int main() {
--   std::multiset<int> c = {1, 2, 2, 3};
--   std::deque<int> y;
--   std::multiset<int> g(y.begin(), y.end());
--   std::cout << g.size() << " ";
--   for (int e : g) std::cout << e << ",";
-- }
abbrev pub query_multiset_constructor_f_l_none_done : Typed
query_multiset_constructor_f_l_none_done = record {
  functions =
      record {
        name = codes "main";
        parameters = [];
        result = Some (parameter.Value t.Int);
        variables =
            record { kind = sort.Container; name = 0; place = at 2 22 } ∷
            record { kind = sort.Container; name = 1; place = at 3 19 } ∷
            record { kind = sort.Container; name = 2; place = at 4 22 } ∷
            record { kind = sort.Scalar; name = 3; place = at 6 12 } ∷
            [];
        body = block (Some 0) (all (
            declares (makes f.MultiSet (head (callees.Row 170) (at 2 3) None None []) (with (literal t.Int (pos 1))
            (with (literal t.Int (pos 2)) (with (literal t.Int (pos 2)) (with (literal t.Int (pos 3)) none))))) ∷
            declares (makes f.Deque (head (callees.Row 28) (at 3 3) None None []) none) ∷
            declares (makes f.MultiSet (head (callees.Row 171) (at 4 3) None None []) (with
            (call (head (callees.Row 35) (at 4 26) None (Some 1) (Some 1 ∷ [])) none)
            (with (call (head (callees.Row 36) (at 4 37) None (Some 1) (Some 1 ∷ [])) none) none))) ∷
            does (prints (number (call (head (callees.Row 175) (at 5 18) None (Some 2) (Some 2 ∷ [])) none) ∷ text (codes " ") ∷ [])) ∷
            range_for 0 taken.Value 2 (at 6 3) 2 (does (prints (number (held (scalar 0 (at 6 32))) ∷ text (codes ",") ∷ []))) ∷
            []));
        close = at 7 1;
      } ∷
      [];
  main = 0;
  sites = at 7 1 ∷ [];
  loops = at 6 3 ∷ [];
  names = codes "c" ∷ codes "y" ∷ codes "g" ∷ codes "e" ∷ [];
  constants = pos 0 ∷ pos 1 ∷ pos 2 ∷ pos 3 ∷ pos 4 ∷ [];
}

query_multiset_constructor_f_l_none_done_ends : run query_multiset_constructor_f_l_none_done [] [] 500
    ≡ finish (Done (pos 0)) (codes "0 ") 0
unfolding digits table
query_multiset_constructor_f_l_none_done_ends = refl

-- operator += -1 of vector, the end: done
-- int main() {
--   std::vector<int> c = {1, 2, 3, 4};
--   std::vector<int> w = {7};
--   auto it = c.end();
--   it += -1;
--   std::cout << (it - c.begin());
-- }
abbrev pub operator_1_of_vector_the_end_done : Typed
operator_1_of_vector_the_end_done = record {
  functions =
      record {
        name = codes "main";
        parameters = [];
        result = Some (parameter.Value t.Int);
        variables =
            record { kind = sort.Container; name = 0; place = at 2 20 } ∷
            record { kind = sort.Container; name = 1; place = at 3 20 } ∷
            record { kind = sort.Iterator; name = 2; place = at 4 8 } ∷
            [];
        body = block (Some 0) (all (
            declares (makes f.Vector (head (callees.Row 1) (at 2 3) None None []) (with (literal t.Int (pos 1))
            (with (literal t.Int (pos 2)) (with (literal t.Int (pos 3)) (with (literal t.Int (pos 4)) none))))) ∷
            declares (makes f.Vector (head (callees.Row 1) (at 3 3) None None []) (with (literal t.Int (pos 7)) none)) ∷
            declares (set_iterator (call (head (callees.Row 8) (at 4 15) None (Some 0) (Some 0 ∷ [])) none)) ∷
            does (evaluates (move Prefix 0 (head (callees.Operator operators.AddAssign) (at 5 6) None None (None ∷ Some 2 ∷ []))
            (with (convert t.Diff (negate t.Int (at 5 9) (literal t.Int (pos 1)))) none))) ∷
            does (prints (
            number (call (head (callees.Operator operators.Difference) (at 6 20) None None (None ∷ Some 2 ∷ []))
            (with (iterator 0) (with (call (head (callees.Row 7) (at 6 24) None (Some 0) (Some 0 ∷ [])) none) none))) ∷
            [])) ∷
            []));
        close = at 7 1;
      } ∷
      [];
  main = 0;
  sites = at 7 1 ∷ [];
  loops = [];
  names = codes "c" ∷ codes "w" ∷ codes "it" ∷ [];
  constants = pos 0 ∷ pos 1 ∷ pos 2 ∷ pos 3 ∷ pos 4 ∷ pos 5 ∷ pos 6 ∷ pos 7 ∷ pos 8 ∷ [];
}

operator_1_of_vector_the_end_done_ends : run operator_1_of_vector_the_end_done [] [] 500 ≡ finish (Done (pos 0)) (codes "3") 0
unfolding digits table
operator_1_of_vector_the_end_done_ends = refl

-- operator -= -4 of vector, good: done
-- int main() {
--   std::vector<int> c = {1, 2, 3, 4};
--   std::vector<int> w = {7};
--   auto it = c.begin();
--   it -= -4;
--   std::cout << (it - c.begin());
-- }
abbrev pub operator_4_of_vector_good_done : Typed
operator_4_of_vector_good_done = record {
  functions =
      record {
        name = codes "main";
        parameters = [];
        result = Some (parameter.Value t.Int);
        variables =
            record { kind = sort.Container; name = 0; place = at 2 20 } ∷
            record { kind = sort.Container; name = 1; place = at 3 20 } ∷
            record { kind = sort.Iterator; name = 2; place = at 4 8 } ∷
            [];
        body = block (Some 0) (all (
            declares (makes f.Vector (head (callees.Row 1) (at 2 3) None None []) (with (literal t.Int (pos 1))
            (with (literal t.Int (pos 2)) (with (literal t.Int (pos 3)) (with (literal t.Int (pos 4)) none))))) ∷
            declares (makes f.Vector (head (callees.Row 1) (at 3 3) None None []) (with (literal t.Int (pos 7)) none)) ∷
            declares (set_iterator (call (head (callees.Row 7) (at 4 15) None (Some 0) (Some 0 ∷ [])) none)) ∷
            does (evaluates (move Prefix 0 (head (callees.Operator operators.SubtractAssign) (at 5 6) None None (None ∷ Some 2 ∷ []))
            (with (convert t.Diff (negate t.Int (at 5 9) (literal t.Int (pos 4)))) none))) ∷
            does (prints (
            number (call (head (callees.Operator operators.Difference) (at 6 20) None None (None ∷ Some 2 ∷ []))
            (with (iterator 0) (with (call (head (callees.Row 7) (at 6 24) None (Some 0) (Some 0 ∷ [])) none) none))) ∷
            [])) ∷
            []));
        close = at 7 1;
      } ∷
      [];
  main = 0;
  sites = at 7 1 ∷ [];
  loops = [];
  names = codes "c" ∷ codes "w" ∷ codes "it" ∷ [];
  constants = pos 0 ∷ pos 1 ∷ pos 2 ∷ pos 3 ∷ pos 4 ∷ pos 5 ∷ pos 6 ∷ pos 7 ∷ pos 8 ∷ [];
}

operator_4_of_vector_good_done_ends : run operator_4_of_vector_good_done [] [] 500 ≡ finish (Done (pos 0)) (codes "4") 0
unfolding digits table
operator_4_of_vector_good_done_ends = refl

-- operator < of deque, the end: done
-- int main() {
--   std::deque<int> c = {1, 2, 3, 4};
--   std::deque<int> w = {7};
--   auto it = c.end();
--   std::cout << (it < c.end()) << (c.begin() < it);
-- }
abbrev pub operator_of_deque_the_end_done : Typed
operator_of_deque_the_end_done = record {
  functions =
      record {
        name = codes "main";
        parameters = [];
        result = Some (parameter.Value t.Int);
        variables =
            record { kind = sort.Container; name = 0; place = at 2 19 } ∷
            record { kind = sort.Container; name = 1; place = at 3 19 } ∷
            record { kind = sort.Iterator; name = 2; place = at 4 8 } ∷
            [];
        body = block (Some 0) (all (
            declares (makes f.Deque (head (callees.Row 29) (at 2 3) None None []) (with (literal t.Int (pos 1))
            (with (literal t.Int (pos 2)) (with (literal t.Int (pos 3)) (with (literal t.Int (pos 4)) none))))) ∷
            declares (makes f.Deque (head (callees.Row 29) (at 3 3) None None []) (with (literal t.Int (pos 7)) none)) ∷
            declares (set_iterator (call (head (callees.Row 36) (at 4 15) None (Some 0) (Some 0 ∷ [])) none)) ∷
            does (prints (
            number (call (head (callees.Operator (operators.Compare c.Less)) (at 5 20) None None (None ∷ Some 2 ∷ []))
            (with (iterator 0) (with (call (head (callees.Row 36) (at 5 24) None (Some 0) (Some 0 ∷ [])) none) none))) ∷
            number (call (head (callees.Operator (operators.Compare c.Less)) (at 5 45) None None (None ∷ None ∷ Some 2 ∷ []))
            (with (call (head (callees.Row 35) (at 5 37) None (Some 0) (Some 0 ∷ [])) none) (with (iterator 0) none))) ∷
            [])) ∷
            []));
        close = at 6 1;
      } ∷
      [];
  main = 0;
  sites = at 6 1 ∷ [];
  loops = [];
  names = codes "c" ∷ codes "w" ∷ codes "it" ∷ [];
  constants = pos 0 ∷ pos 1 ∷ pos 2 ∷ pos 3 ∷ pos 4 ∷ pos 5 ∷ pos 6 ∷ pos 7 ∷ pos 8 ∷ [];
}

operator_of_deque_the_end_done_ends : run operator_of_deque_the_end_done [] [] 500 ≡ finish (Done (pos 0)) (codes "01") 0
unfolding digits table
operator_of_deque_the_end_done_ends = refl

-- operator > of vector, the end: done
-- int main() {
--   std::vector<int> c = {1, 2, 3, 4};
--   std::vector<int> w = {7};
--   auto it = c.end();
--   std::cout << (it > c.end()) << (c.begin() > it);
-- }
abbrev pub operator_of_vector_the_end_done : Typed
operator_of_vector_the_end_done = record {
  functions =
      record {
        name = codes "main";
        parameters = [];
        result = Some (parameter.Value t.Int);
        variables =
            record { kind = sort.Container; name = 0; place = at 2 20 } ∷
            record { kind = sort.Container; name = 1; place = at 3 20 } ∷
            record { kind = sort.Iterator; name = 2; place = at 4 8 } ∷
            [];
        body = block (Some 0) (all (
            declares (makes f.Vector (head (callees.Row 1) (at 2 3) None None []) (with (literal t.Int (pos 1))
            (with (literal t.Int (pos 2)) (with (literal t.Int (pos 3)) (with (literal t.Int (pos 4)) none))))) ∷
            declares (makes f.Vector (head (callees.Row 1) (at 3 3) None None []) (with (literal t.Int (pos 7)) none)) ∷
            declares (set_iterator (call (head (callees.Row 8) (at 4 15) None (Some 0) (Some 0 ∷ [])) none)) ∷
            does (prints (
            number (call (head (callees.Operator (operators.Compare c.Greater)) (at 5 20) None None (None ∷ Some 2 ∷ []))
            (with (iterator 0) (with (call (head (callees.Row 8) (at 5 24) None (Some 0) (Some 0 ∷ [])) none) none))) ∷
            number (call (head (callees.Operator (operators.Compare c.Greater)) (at 5 45) None None (None ∷ None ∷ Some 2 ∷ []))
            (with (call (head (callees.Row 7) (at 5 37) None (Some 0) (Some 0 ∷ [])) none) (with (iterator 0) none))) ∷
            [])) ∷
            []));
        close = at 6 1;
      } ∷
      [];
  main = 0;
  sites = at 6 1 ∷ [];
  loops = [];
  names = codes "c" ∷ codes "w" ∷ codes "it" ∷ [];
  constants = pos 0 ∷ pos 1 ∷ pos 2 ∷ pos 3 ∷ pos 4 ∷ pos 5 ∷ pos 6 ∷ pos 7 ∷ pos 8 ∷ [];
}

operator_of_vector_the_end_done_ends : run operator_of_vector_the_end_done [] [] 500 ≡ finish (Done (pos 0)) (codes "00") 0
unfolding digits table
operator_of_vector_the_end_done_ends = refl

-- range-for (int) over list with c.pop_back();: done
-- int main() {
--   std::list<int> c = {1, 2, 3, 4};
--   std::list<int> w = {7};
--   int n = 0;
--   for (int e : c) {
--     c.pop_back();
--     std::cout << e << " ";
--     if (++n == 3) return n;
--   }
-- }
abbrev pub range_for_int_over_list_with_c_pop_back_done : Typed
range_for_int_over_list_with_c_pop_back_done = record {
  functions =
      record {
        name = codes "main";
        parameters = [];
        result = Some (parameter.Value t.Int);
        variables =
            record { kind = sort.Container; name = 0; place = at 2 18 } ∷
            record { kind = sort.Container; name = 1; place = at 3 18 } ∷
            record { kind = sort.Scalar; name = 2; place = at 4 7 } ∷
            record { kind = sort.Scalar; name = 3; place = at 5 12 } ∷
            [];
        body = block (Some 1) (all (
            declares (makes f.List (head (callees.Row 58) (at 2 3) None None []) (with (literal t.Int (pos 1))
            (with (literal t.Int (pos 2)) (with (literal t.Int (pos 3)) (with (literal t.Int (pos 4)) none))))) ∷
            declares (makes f.List (head (callees.Row 58) (at 3 3) None None []) (with (literal t.Int (pos 7)) none)) ∷
            declares (set_scalar t.Int (literal t.Int (pos 0))) ∷
            range_for 0 taken.Value 0 (at 5 3) 0 (block None (all (
            does (evaluates (call (head (callees.Row 72) (at 6 7) (Some 0) (Some 0) (Some 0 ∷ [])) none)) ∷
            does (prints (number (held (scalar 1 (at 7 18))) ∷ text (codes " ") ∷ [])) ∷
            choice (test
            (comparison c.Equal (at 8 13) (increment Up Prefix t.Int (at 8 9) (scalar 0 (at 8 11))) (literal t.Int (pos 3))))
            (gives_back (Some (held (scalar 0 (at 8 26))))) ∷
            []))) ∷
            []));
        close = at 10 1;
      } ∷
      [];
  main = 0;
  sites = at 6 7 ∷ at 10 1 ∷ [];
  loops = at 5 3 ∷ [];
  names = codes "c" ∷ codes "w" ∷ codes "n" ∷ codes "e" ∷ [];
  constants = negsuc 0 ∷ pos 0 ∷ pos 1 ∷ pos 2 ∷ pos 3 ∷ pos 4 ∷ pos 5 ∷ pos 6 ∷ pos 7 ∷ pos 8 ∷ [];
}

range_for_int_over_list_with_c_pop_back_done_ends : run range_for_int_over_list_with_c_pop_back_done [] [] 500
    ≡ finish (Done (pos 0)) (codes "1 2 ") 0
unfolding digits table
range_for_int_over_list_with_c_pop_back_done_ends = refl

-- Closed runs of texts, each made of a C++ text and its end and output by tools/run_goal.py; the texts and ends are not this program's own answers.
use Rattle.sl_base.specs.declared.scalar.Scalar.TheVariants as t
use Rattle.sl_base.specs.declared.form.Form.TheVariants as f
use Rattle.sl_syntax.specs.declared.operator.Comparison.TheVariants as c
use Rattle.sl_syntax.specs.declared.typed.callee.Callee.TheVariants as callees
use Rattle.sl_syntax.specs.declared.typed.element.Taken.TheVariants as taken
use Rattle.sl_syntax.specs.declared.typed.operator.Operator.TheVariants as operators
use Rattle.sl_syntax.specs.declared.typed.parameter.ParameterKind.TheVariants as parameter
use Rattle.sl_syntax.specs.declared.typed.variable.VariableKind.TheVariants as sort
use Rattle.std.specs.Prelude.{◌≡◌, refl, false, [], ◌∷◌, Some, None, pos, codes}
use Rattle.std.specs.Fmt.{digits}
use Rattle.sl_syntax.specs.Typed.{literal, held, iterator, convert, call, own_call, container, scalar, element, none, with, test, text}
use Rattle.sl_syntax.specs.Typed.{number, prints, evaluates, assigns, set_iterator, makes, block, declares, choice_else, range_for, does}
use Rattle.sl_syntax.specs.Typed.{Typed}
use Rattle.sl_specs.specs.Table.{table}
use Rattle.sl_model.specs.Runs.Ends.{Done, Thrown}
use Rattle.sl_model.specs.Runs.Run.{run}
use Rattle.sl_model.proofs.Examples.Short.{at, head, all, finish}

-- query map.size() of an empty one: done
-- int main() {
--   std::map<int, int> c;
--   std::cout << c.size() << " ";
-- }
abbrev pub query_map_size_of_an_empty_one_done : Typed
query_map_size_of_an_empty_one_done = record {
  functions =
      record {
        name = codes "main";
        parameters = [];
        result = Some (parameter.Value t.Int);
        variables = record { kind = sort.Container; name = 0; place = at 2 22 } ∷ [];
        body = block (Some 0) (all (
            declares (makes f.Map (head (callees.Row 112) (at 2 3) None None []) none) ∷
            does (prints (number (call (head (callees.Row 117) (at 3 18) None (Some 0) (Some 0 ∷ [])) none) ∷ text (codes " ") ∷ [])) ∷
            []));
        close = at 4 1;
      } ∷
      [];
  main = 0;
  sites = at 4 1 ∷ [];
  loops = [];
  names = codes "c" ∷ [];
  constants = pos 0 ∷ pos 1 ∷ [];
}

query_map_size_of_an_empty_one_done_ends : run query_map_size_of_an_empty_one_done [] [] 500 ≡ finish (Done (pos 0)) (codes "0 ") 0
unfolding digits table
query_map_size_of_an_empty_one_done_ends = refl

-- query map.empty() of an empty one: done
-- int main() {
--   std::map<int, int> c;
--   std::cout << c.empty() << " ";
-- }
abbrev pub query_map_empty_of_an_empty_one_done : Typed
query_map_empty_of_an_empty_one_done = record {
  functions =
      record {
        name = codes "main";
        parameters = [];
        result = Some (parameter.Value t.Int);
        variables = record { kind = sort.Container; name = 0; place = at 2 22 } ∷ [];
        body = block (Some 0) (all (
            declares (makes f.Map (head (callees.Row 112) (at 2 3) None None []) none) ∷
            does (prints (number (call (head (callees.Row 118) (at 3 18) None (Some 0) (Some 0 ∷ [])) none) ∷ text (codes " ") ∷ [])) ∷
            []));
        close = at 4 1;
      } ∷
      [];
  main = 0;
  sites = at 4 1 ∷ [];
  loops = [];
  names = codes "c" ∷ [];
  constants = pos 0 ∷ pos 1 ∷ [];
}

query_map_empty_of_an_empty_one_done_ends : run query_map_empty_of_an_empty_one_done [] [] 500 ≡ finish (Done (pos 0)) (codes "1 ") 0
unfolding digits table
query_map_empty_of_an_empty_one_done_ends = refl

-- query unordered_set.empty() of an empty one: done
-- int main() {
--   std::unordered_set<int> c;
--   std::cout << c.empty() << " ";
-- }
abbrev pub query_unordered_set_empty_of_an_empty_one_done : Typed
query_unordered_set_empty_of_an_empty_one_done = record {
  functions =
      record {
        name = codes "main";
        parameters = [];
        result = Some (parameter.Value t.Int);
        variables = record { kind = sort.Container; name = 0; place = at 2 27 } ∷ [];
        body = block (Some 0) (all (
            declares (makes f.HashSet (head (callees.Row 131) (at 2 3) None None []) none) ∷
            does (prints (number (call (head (callees.Row 139) (at 3 18) None (Some 0) (Some 0 ∷ [])) none) ∷ text (codes " ") ∷ [])) ∷
            []));
        close = at 4 1;
      } ∷
      [];
  main = 0;
  sites = at 4 1 ∷ [];
  loops = [];
  names = codes "c" ∷ [];
  constants = pos 0 ∷ pos 1 ∷ [];
}

query_unordered_set_empty_of_an_empty_one_done_ends : run query_unordered_set_empty_of_an_empty_one_done [] [] 500
    ≡ finish (Done (pos 0)) (codes "1 ") 0
unfolding digits table
query_unordered_set_empty_of_an_empty_one_done_ends = refl

-- query set.count(k) 2 of an empty one: done
-- int main() {
--   std::set<int> c;
--   std::cout << c.count(2) << " ";
-- }
abbrev pub query_set_count_k_2_of_an_empty_one_done : Typed
query_set_count_k_2_of_an_empty_one_done = record {
  functions =
      record {
        name = codes "main";
        parameters = [];
        result = Some (parameter.Value t.Int);
        variables = record { kind = sort.Container; name = 0; place = at 2 17 } ∷ [];
        body = block (Some 0) (all (
            declares (makes f.Set (head (callees.Row 92) (at 2 3) None None []) none) ∷
            does (prints (
            number (call (head (callees.Row 109) (at 3 18) None (Some 0) (Some 0 ∷ [])) (with (literal t.Int (pos 2)) none)) ∷
            text (codes " ") ∷
            [])) ∷
            []));
        close = at 4 1;
      } ∷
      [];
  main = 0;
  sites = at 4 1 ∷ [];
  loops = [];
  names = codes "c" ∷ [];
  constants = pos 0 ∷ pos 1 ∷ pos 2 ∷ pos 3 ∷ [];
}

query_set_count_k_2_of_an_empty_one_done_ends : run query_set_count_k_2_of_an_empty_one_done [] [] 500
    ≡ finish (Done (pos 0)) (codes "0 ") 0
unfolding digits table
query_set_count_k_2_of_an_empty_one_done_ends = refl

-- query vector.at(n) 3: done
-- int main() {
--   std::vector<int> c = {1, 2, 3, 4};
--   std::cout << c.at(3) << " ";
-- }
abbrev pub query_vector_at_n_3_done : Typed
query_vector_at_n_3_done = record {
  functions =
      record {
        name = codes "main";
        parameters = [];
        result = Some (parameter.Value t.Int);
        variables = record { kind = sort.Container; name = 0; place = at 2 20 } ∷ [];
        body = block (Some 0) (all (
            declares (makes f.Vector (head (callees.Row 1) (at 2 3) None None []) (with (literal t.Int (pos 1))
            (with (literal t.Int (pos 2)) (with (literal t.Int (pos 3)) (with (literal t.Int (pos 4)) none))))) ∷
            does (prints (
            number (held (element (head (callees.Row 13) (at 3 18) None (Some 0) (Some 0 ∷ []))
            (with (convert t.Size (literal t.Int (pos 3))) none))) ∷
            text (codes " ") ∷
            [])) ∷
            []));
        close = at 4 1;
      } ∷
      [];
  main = 0;
  sites = at 4 1 ∷ [];
  loops = [];
  names = codes "c" ∷ [];
  constants = pos 0 ∷ pos 1 ∷ pos 2 ∷ pos 3 ∷ pos 4 ∷ pos 5 ∷ [];
}

query_vector_at_n_3_done_ends : run query_vector_at_n_3_done [] [] 500 ≡ finish (Done (pos 0)) (codes "4 ") 0
unfolding digits table
query_vector_at_n_3_done_ends = refl

-- exception, at of map: exception
-- int main() {
--   std::map<int, int> m;
--   m[1] = 2;
--   std::cout << m.at(1);
--   m.at(2) = 1;
-- }
abbrev pub exception_at_of_map_exception : Typed
exception_at_of_map_exception = record {
  functions =
      record {
        name = codes "main";
        parameters = [];
        result = Some (parameter.Value t.Int);
        variables = record { kind = sort.Container; name = 0; place = at 2 22 } ∷ [];
        body = block (Some 0) (all (
            declares (makes f.Map (head (callees.Row 112) (at 2 3) None None []) none) ∷
            does (assigns (element (head (callees.Row 120) (at 3 4) None (Some 0) (Some 0 ∷ [])) (with (literal t.Int (pos 1)) none))
            (literal t.Int (pos 2))) ∷
            does (prints (
            number (held (element (head (callees.Row 119) (at 4 18) None (Some 0) (Some 0 ∷ [])) (with (literal t.Int (pos 1)) none))) ∷
            [])) ∷
            does (assigns (element (head (callees.Row 119) (at 5 5) None (Some 0) (Some 0 ∷ [])) (with (literal t.Int (pos 2)) none))
            (literal t.Int (pos 1))) ∷
            []));
        close = at 6 1;
      } ∷
      [];
  main = 0;
  sites = at 6 1 ∷ [];
  loops = [];
  names = codes "m" ∷ [];
  constants = pos 0 ∷ pos 1 ∷ pos 2 ∷ pos 3 ∷ [];
}

exception_at_of_map_exception_ends : run exception_at_of_map_exception [] [] 500 ≡ finish (Thrown (at 5 5)) (codes "2") 0
unfolding digits table
exception_at_of_map_exception_ends = refl

-- query set.constructor(c) =: done
-- int main() {
--   std::set<int> c = {1, 2, 3, 4};
--   std::set<int> g = c;
--   std::cout << g.size() << " ";
--   for (int e : g) std::cout << e << ",";
-- }
abbrev pub query_set_constructor_c_done : Typed
query_set_constructor_c_done = record {
  functions =
      record {
        name = codes "main";
        parameters = [];
        result = Some (parameter.Value t.Int);
        variables =
            record { kind = sort.Container; name = 0; place = at 2 17 } ∷
            record { kind = sort.Container; name = 1; place = at 3 17 } ∷
            record { kind = sort.Scalar; name = 2; place = at 5 12 } ∷
            [];
        body = block (Some 0) (all (
            declares (makes f.Set (head (callees.Row 93) (at 2 3) None None []) (with (literal t.Int (pos 1))
            (with (literal t.Int (pos 2)) (with (literal t.Int (pos 3)) (with (literal t.Int (pos 4)) none))))) ∷
            declares (makes f.Set (head (callees.Row 94) (at 3 3) None None (None ∷ Some 0 ∷ [])) (with (container 0) none)) ∷
            does (prints (number (call (head (callees.Row 99) (at 4 18) None (Some 1) (Some 1 ∷ [])) none) ∷ text (codes " ") ∷ [])) ∷
            range_for 0 taken.Value 1 (at 5 3) 1 (does (prints (number (held (scalar 0 (at 5 32))) ∷ text (codes ",") ∷ []))) ∷
            []));
        close = at 6 1;
      } ∷
      [];
  main = 0;
  sites = at 6 1 ∷ [];
  loops = at 5 3 ∷ [];
  names = codes "c" ∷ codes "g" ∷ codes "e" ∷ [];
  constants = pos 0 ∷ pos 1 ∷ pos 2 ∷ pos 3 ∷ pos 4 ∷ pos 5 ∷ [];
}

query_set_constructor_c_done_ends : run query_set_constructor_c_done [] [] 500 ≡ finish (Done (pos 0)) (codes "4 1,2,3,4,") 0
unfolding digits table
query_set_constructor_c_done_ends = refl

-- query deque.constructor(c) parentheses: done
-- int main() {
--   std::deque<int> c = {1, 2, 3, 4};
--   std::deque<int> g(c);
--   std::cout << g.size() << " ";
--   for (int e : g) std::cout << e << ",";
-- }
abbrev pub query_deque_constructor_c_parentheses_done : Typed
query_deque_constructor_c_parentheses_done = record {
  functions =
      record {
        name = codes "main";
        parameters = [];
        result = Some (parameter.Value t.Int);
        variables =
            record { kind = sort.Container; name = 0; place = at 2 19 } ∷
            record { kind = sort.Container; name = 1; place = at 3 19 } ∷
            record { kind = sort.Scalar; name = 2; place = at 5 12 } ∷
            [];
        body = block (Some 0) (all (
            declares (makes f.Deque (head (callees.Row 29) (at 2 3) None None []) (with (literal t.Int (pos 1))
            (with (literal t.Int (pos 2)) (with (literal t.Int (pos 3)) (with (literal t.Int (pos 4)) none))))) ∷
            declares (makes f.Deque (head (callees.Row 30) (at 3 3) None None (None ∷ Some 0 ∷ [])) (with (container 0) none)) ∷
            does (prints (number (call (head (callees.Row 37) (at 4 18) None (Some 1) (Some 1 ∷ [])) none) ∷ text (codes " ") ∷ [])) ∷
            range_for 0 taken.Value 1 (at 5 3) 1 (does (prints (number (held (scalar 0 (at 5 32))) ∷ text (codes ",") ∷ []))) ∷
            []));
        close = at 6 1;
      } ∷
      [];
  main = 0;
  sites = at 6 1 ∷ [];
  loops = at 5 3 ∷ [];
  names = codes "c" ∷ codes "g" ∷ codes "e" ∷ [];
  constants = pos 0 ∷ pos 1 ∷ pos 2 ∷ pos 3 ∷ pos 4 ∷ pos 5 ∷ [];
}

query_deque_constructor_c_parentheses_done_ends : run query_deque_constructor_c_parentheses_done [] [] 500
    ≡ finish (Done (pos 0)) (codes "4 1,2,3,4,") 0
unfolding digits table
query_deque_constructor_c_parentheses_done_ends = refl

-- query map.lower_bound(k) 2 of an empty one: done
-- int main() {
--   std::map<int, int> c;
--   {
--     auto q = c.lower_bound(2);
--     if (q == c.end()) std::cout << "end ";
--     else std::cout << q->first << " ";
--   }
-- }
abbrev pub query_map_lower_bound_k_2_of_an_empty_one_done : Typed
query_map_lower_bound_k_2_of_an_empty_one_done = record {
  functions =
      record {
        name = codes "main";
        parameters = [];
        result = Some (parameter.Value t.Int);
        variables =
            record { kind = sort.Container; name = 0; place = at 2 22 } ∷
            record { kind = sort.Iterator; name = 1; place = at 4 10 } ∷
            [];
        body = block (Some 0) (all (
            declares (makes f.Map (head (callees.Row 112) (at 2 3) None None []) none) ∷
            block None (all (
            declares
            (set_iterator (call (head (callees.Row 129) (at 4 16) None (Some 0) (Some 0 ∷ [])) (with (literal t.Int (pos 2)) none))) ∷
            choice_else (test (call (head (callees.Operator (operators.Compare c.Equal)) (at 5 11) None None (None ∷ Some 1 ∷ []))
            (with (iterator 0) (with (call (head (callees.Row 116) (at 5 16) None (Some 0) (Some 0 ∷ [])) none) none))))
            (does (prints (text (codes "end ") ∷ []))) (does (prints (
            number (held (element (head (callees.Operator operators.ArrowFirst) (at 6 24) None None (None ∷ Some 1 ∷ []))
            (with (iterator 0) none))) ∷
            text (codes " ") ∷
            []))) ∷
            [])) ∷
            []));
        close = at 8 1;
      } ∷
      [];
  main = 0;
  sites = at 8 1 ∷ [];
  loops = [];
  names = codes "c" ∷ codes "q" ∷ [];
  constants = pos 0 ∷ pos 1 ∷ pos 2 ∷ pos 3 ∷ [];
}

query_map_lower_bound_k_2_of_an_empty_one_done_ends : run query_map_lower_bound_k_2_of_an_empty_one_done [] [] 500
    ≡ finish (Done (pos 0)) (codes "end ") 0
unfolding table
query_map_lower_bound_k_2_of_an_empty_one_done_ends = refl

-- query multiset.lower_bound(k) 3 of an empty one: done
-- int main() {
--   std::multiset<int> c;
--   {
--     auto q = c.lower_bound(3);
--     if (q == c.end()) std::cout << "end ";
--     else std::cout << *q << " ";
--   }
-- }
abbrev pub query_multiset_lower_bound_k_3_of_an_empty_one_done : Typed
query_multiset_lower_bound_k_3_of_an_empty_one_done = record {
  functions =
      record {
        name = codes "main";
        parameters = [];
        result = Some (parameter.Value t.Int);
        variables =
            record { kind = sort.Container; name = 0; place = at 2 22 } ∷
            record { kind = sort.Iterator; name = 1; place = at 4 10 } ∷
            [];
        body = block (Some 0) (all (
            declares (makes f.MultiSet (head (callees.Row 168) (at 2 3) None None []) none) ∷
            block None (all (
            declares
            (set_iterator (call (head (callees.Row 186) (at 4 16) None (Some 0) (Some 0 ∷ [])) (with (literal t.Int (pos 3)) none))) ∷
            choice_else (test (call (head (callees.Operator (operators.Compare c.Equal)) (at 5 11) None None (None ∷ Some 1 ∷ []))
            (with (iterator 0) (with (call (head (callees.Row 174) (at 5 16) None (Some 0) (Some 0 ∷ [])) none) none))))
            (does (prints (text (codes "end ") ∷ []))) (does (prints (
            number (held (element (head (callees.Operator operators.Dereference) (at 6 23) None None (None ∷ Some 1 ∷ []))
            (with (iterator 0) none))) ∷
            text (codes " ") ∷
            []))) ∷
            [])) ∷
            []));
        close = at 8 1;
      } ∷
      [];
  main = 0;
  sites = at 8 1 ∷ [];
  loops = [];
  names = codes "c" ∷ codes "q" ∷ [];
  constants = pos 0 ∷ pos 1 ∷ pos 2 ∷ pos 3 ∷ pos 4 ∷ [];
}

query_multiset_lower_bound_k_3_of_an_empty_one_done_ends : run query_multiset_lower_bound_k_3_of_an_empty_one_done [] [] 500
    ≡ finish (Done (pos 0)) (codes "end ") 0
unfolding table
query_multiset_lower_bound_k_3_of_an_empty_one_done_ends = refl

-- iterator of set handed over, invalid handed over is no use: done
-- void f(std::set<int>::iterator i) {
--   std::cout << 1;
-- }
-- int main() {
--   std::set<int> c = {1, 2, 3, 4};
--   auto it = c.begin();
--   c.clear();
--   f(it);
-- }
abbrev pub iterator_of_set_handed_over_invalid_handed_over_is_no_use_done : Typed
iterator_of_set_handed_over_invalid_handed_over_is_no_use_done = record {
  functions =
      record {
        name = codes "f";
        parameters = parameter.Iterator false f.Set ∷ [];
        result = None;
        variables = record { kind = sort.Iterator; name = 0; place = at 1 32 } ∷ [];
        body = block None (all (does (prints (number (literal t.Int (pos 1)) ∷ [])) ∷ []));
        close = at 3 1;
      } ∷
      record {
        name = codes "main";
        parameters = [];
        result = Some (parameter.Value t.Int);
        variables =
            record { kind = sort.Container; name = 1; place = at 5 17 } ∷
            record { kind = sort.Iterator; name = 2; place = at 6 8 } ∷
            [];
        body = block (Some 1) (all (
            declares (makes f.Set (head (callees.Row 93) (at 5 3) None None []) (with (literal t.Int (pos 1))
            (with (literal t.Int (pos 2)) (with (literal t.Int (pos 3)) (with (literal t.Int (pos 4)) none))))) ∷
            declares (set_iterator (call (head (callees.Row 97) (at 6 15) None (Some 0) (Some 1 ∷ [])) none)) ∷
            does (evaluates (call (head (callees.Row 106) (at 7 5) (Some 0) (Some 0) (Some 1 ∷ [])) none)) ∷
            does (evaluates (own_call 0 (at 8 3) (with (iterator 0) none))) ∷
            []));
        close = at 9 1;
      } ∷
      [];
  main = 1;
  sites = at 7 5 ∷ at 9 1 ∷ [];
  loops = [];
  names = codes "i" ∷ codes "c" ∷ codes "it" ∷ [];
  constants = pos 0 ∷ pos 1 ∷ pos 2 ∷ pos 3 ∷ pos 4 ∷ pos 5 ∷ [];
}

iterator_of_set_handed_over_invalid_handed_over_is_no_use_done_ends : run iterator_of_set_handed_over_invalid_handed_over_is_no_use_done []
    [] 500
    ≡ finish (Done (pos 0)) (codes "1") 0
unfolding digits table
iterator_of_set_handed_over_invalid_handed_over_is_no_use_done_ends = refl

-- iterator of list handed over, invalid handed over is no use: done
-- void f(std::list<int>::iterator i) {
--   std::cout << 1;
-- }
-- int main() {
--   std::list<int> c = {1, 2, 3, 4};
--   auto it = c.begin();
--   c.clear();
--   f(it);
-- }
abbrev pub iterator_of_list_handed_over_invalid_handed_over_is_no_use_done : Typed
iterator_of_list_handed_over_invalid_handed_over_is_no_use_done = record {
  functions =
      record {
        name = codes "f";
        parameters = parameter.Iterator false f.List ∷ [];
        result = None;
        variables = record { kind = sort.Iterator; name = 0; place = at 1 33 } ∷ [];
        body = block None (all (does (prints (number (literal t.Int (pos 1)) ∷ [])) ∷ []));
        close = at 3 1;
      } ∷
      record {
        name = codes "main";
        parameters = [];
        result = Some (parameter.Value t.Int);
        variables =
            record { kind = sort.Container; name = 1; place = at 5 18 } ∷
            record { kind = sort.Iterator; name = 2; place = at 6 8 } ∷
            [];
        body = block (Some 1) (all (
            declares (makes f.List (head (callees.Row 58) (at 5 3) None None []) (with (literal t.Int (pos 1))
            (with (literal t.Int (pos 2)) (with (literal t.Int (pos 3)) (with (literal t.Int (pos 4)) none))))) ∷
            declares (set_iterator (call (head (callees.Row 64) (at 6 15) None (Some 0) (Some 1 ∷ [])) none)) ∷
            does (evaluates (call (head (callees.Row 79) (at 7 5) (Some 0) (Some 0) (Some 1 ∷ [])) none)) ∷
            does (evaluates (own_call 0 (at 8 3) (with (iterator 0) none))) ∷
            []));
        close = at 9 1;
      } ∷
      [];
  main = 1;
  sites = at 7 5 ∷ at 9 1 ∷ [];
  loops = [];
  names = codes "i" ∷ codes "c" ∷ codes "it" ∷ [];
  constants = pos 0 ∷ pos 1 ∷ pos 2 ∷ pos 3 ∷ pos 4 ∷ pos 5 ∷ [];
}

iterator_of_list_handed_over_invalid_handed_over_is_no_use_done_ends : run iterator_of_list_handed_over_invalid_handed_over_is_no_use_done
    [] [] 500
    ≡ finish (Done (pos 0)) (codes "1") 0
unfolding digits table
iterator_of_list_handed_over_invalid_handed_over_is_no_use_done_ends = refl

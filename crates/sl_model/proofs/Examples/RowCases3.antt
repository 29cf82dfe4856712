-- Closed runs of texts, each made of a C++ text and its end and output by tools/run_goal.py; the texts and ends are not this program's own answers.
use Rattle.sl_base.specs.declared.scalar.Scalar.TheVariants as t
use Rattle.sl_base.specs.declared.form.Form.TheVariants as f
use Rattle.sl_syntax.specs.declared.operator.Arithmetic.TheVariants as o
use Rattle.sl_syntax.specs.declared.operator.Comparison.TheVariants as c
use Rattle.sl_syntax.specs.declared.typed.callee.Callee.TheVariants as callees
use Rattle.sl_syntax.specs.declared.typed.element.ElementPart.TheVariants as part
use Rattle.sl_syntax.specs.declared.typed.element.Taken.TheVariants as taken
use Rattle.sl_syntax.specs.declared.typed.operator.Operator.TheVariants as operators
use Rattle.sl_syntax.specs.declared.typed.parameter.ParameterKind.TheVariants as parameter
use Rattle.sl_syntax.specs.declared.typed.variable.VariableKind.TheVariants as sort
use Rattle.std.specs.Prelude.{◌≡◌, refl, [], ◌∷◌, Some, None, pos, negsuc, codes}
use Rattle.std.specs.Fmt.{digits}
use Rattle.sl_syntax.specs.declared.typed.step.Fix.TheVariants.{Prefix}
use Rattle.sl_syntax.specs.declared.typed.step.Step.TheVariants.{Up}
use Rattle.sl_syntax.specs.Typed.{literal, held, iterator, convert, logical_not, logical_or, arithmetic, comparison, increment, call}
use Rattle.sl_syntax.specs.Typed.{first, second, container, scalar, reference, element, none, with, test, text, number, prints, evaluates}
use Rattle.sl_syntax.specs.Typed.{moves_to, set_scalar, set_iterator, makes, block, declares, choice, range_for, gives_back, does, Typed}
use Rattle.sl_specs.specs.Table.{table}
use Rattle.sl_model.specs.Runs.Ends.{Done, Trapped}
use Rattle.sl_model.specs.Runs.Run.{run}
use Rattle.sl_model.proofs.Examples.Short.{at, head, all, finish, trap}

-- operator <= of vector, good: done
-- int main() {
--   std::vector<int> c = {1, 2, 3, 4};
--   std::vector<int> w = {7};
--   auto it = c.begin();
--   std::cout << (it <= c.end()) << (c.begin() <= it);
-- }
abbrev pub operator_of_vector_good_done : Typed
operator_of_vector_good_done = record {
  functions =
      record {
        name = codes "main";
        parameters = [];
        result = Some (parameter.Value t.Int);
        variables =
            record { kind = sort.Container; name = 0; place = at 2 20 } ∷
            record { kind = sort.Container; name = 1; place = at 3 20 } ∷
            record { kind = sort.Iterator; name = 2; place = at 4 8 } ∷
            [];
        body = block (Some 0) (all (
            declares (makes f.Vector (head (callees.Row 1) (at 2 3) None None []) (with (literal t.Int (pos 1))
            (with (literal t.Int (pos 2)) (with (literal t.Int (pos 3)) (with (literal t.Int (pos 4)) none))))) ∷
            declares (makes f.Vector (head (callees.Row 1) (at 3 3) None None []) (with (literal t.Int (pos 7)) none)) ∷
            declares (set_iterator (call (head (callees.Row 7) (at 4 15) None (Some 0) (Some 0 ∷ [])) none)) ∷
            does (prints (
            number (call (head (callees.Operator (operators.Compare c.LessEqual)) (at 5 20) None None (None ∷ Some 2 ∷ []))
            (with (iterator 0) (with (call (head (callees.Row 8) (at 5 25) None (Some 0) (Some 0 ∷ [])) none) none))) ∷
            number (call (head (callees.Operator (operators.Compare c.LessEqual)) (at 5 46) None None (None ∷ None ∷ Some 2 ∷ []))
            (with (call (head (callees.Row 7) (at 5 38) None (Some 0) (Some 0 ∷ [])) none) (with (iterator 0) none))) ∷
            [])) ∷
            []));
        close = at 6 1;
      } ∷
      [];
  main = 0;
  sites = at 6 1 ∷ [];
  loops = [];
  names = codes "c" ∷ codes "w" ∷ codes "it" ∷ [];
  constants = pos 0 ∷ pos 1 ∷ pos 2 ∷ pos 3 ∷ pos 4 ∷ pos 5 ∷ pos 6 ∷ pos 7 ∷ pos 8 ∷ [];
}

operator_of_vector_good_done_ends : run operator_of_vector_good_done [] [] 500 ≡ finish (Done (pos 0)) (codes "11") 0
unfolding digits table
operator_of_vector_good_done_ends = refl

-- random program, branch: done
-- int main() {
--   std::multiset<int> ms1 = {4, 4, 0};
--   std::multiset<int> ms2 = {};
--   ms2.clear();
--   ms2.swap(ms1);
--   ms1 = ms2;
--   std::list<int> l3 = {0, 0, 1, 2, 7};
-- }
abbrev pub random_program_branch_done : Typed
random_program_branch_done = record {
  functions =
      record {
        name = codes "main";
        parameters = [];
        result = Some (parameter.Value t.Int);
        variables =
            record { kind = sort.Container; name = 0; place = at 2 22 } ∷
            record { kind = sort.Container; name = 1; place = at 3 22 } ∷
            record { kind = sort.Container; name = 2; place = at 7 18 } ∷
            [];
        body = block (Some 3) (all (
            declares (makes f.MultiSet (head (callees.Row 170) (at 2 3) None None [])
            (with (literal t.Int (pos 4)) (with (literal t.Int (pos 4)) (with (literal t.Int (pos 0)) none)))) ∷
            declares (makes f.MultiSet (head (callees.Row 168) (at 3 3) None None []) none) ∷
            does (evaluates (call (head (callees.Row 182) (at 4 7) (Some 0) (Some 1) (Some 1 ∷ [])) none)) ∷
            does (evaluates (call (head (callees.Row 183) (at 5 7) (Some 1) (Some 1) (Some 1 ∷ Some 0 ∷ [])) (with (container 0) none))) ∷
            does (evaluates (call (head (callees.Row 172) (at 6 7) (Some 2) (Some 0) (Some 0 ∷ Some 1 ∷ [])) (with (container 1) none))) ∷
            declares (makes f.List (head (callees.Row 58) (at 7 3) None None []) (with (literal t.Int (pos 0)) (with (literal t.Int (pos 0))
            (with (literal t.Int (pos 1)) (with (literal t.Int (pos 2)) (with (literal t.Int (pos 7)) none)))))) ∷
            []));
        close = at 8 1;
      } ∷
      [];
  main = 0;
  sites = at 4 7 ∷ at 5 7 ∷ at 6 7 ∷ at 8 1 ∷ [];
  loops = [];
  names = codes "ms1" ∷ codes "ms2" ∷ codes "l3" ∷ [];
  constants = negsuc 0 ∷ pos 0 ∷ pos 1 ∷ pos 2 ∷ pos 3 ∷ pos 4 ∷ pos 5 ∷ pos 6 ∷ pos 7 ∷ pos 8 ∷ [];
}

random_program_branch_done_ends : run random_program_branch_done [] (0 ∷ 1 ∷ 9 ∷ 2 ∷ 0 ∷ 3 ∷ 1 ∷ 1 ∷ 9 ∷ 1 ∷ 9 ∷ 2 ∷ 0 ∷ []) 40
    ≡ finish (Done (pos 0)) [] 0
unfolding table
random_program_branch_done_ends = refl

-- operator >= of deque, good: done
-- int main() {
--   std::deque<int> c = {1, 2, 3, 4};
--   std::deque<int> w = {7};
--   auto it = c.begin();
--   std::cout << (it >= c.end()) << (c.begin() >= it);
-- }
abbrev pub operator_of_deque_good_done : Typed
operator_of_deque_good_done = record {
  functions =
      record {
        name = codes "main";
        parameters = [];
        result = Some (parameter.Value t.Int);
        variables =
            record { kind = sort.Container; name = 0; place = at 2 19 } ∷
            record { kind = sort.Container; name = 1; place = at 3 19 } ∷
            record { kind = sort.Iterator; name = 2; place = at 4 8 } ∷
            [];
        body = block (Some 0) (all (
            declares (makes f.Deque (head (callees.Row 29) (at 2 3) None None []) (with (literal t.Int (pos 1))
            (with (literal t.Int (pos 2)) (with (literal t.Int (pos 3)) (with (literal t.Int (pos 4)) none))))) ∷
            declares (makes f.Deque (head (callees.Row 29) (at 3 3) None None []) (with (literal t.Int (pos 7)) none)) ∷
            declares (set_iterator (call (head (callees.Row 35) (at 4 15) None (Some 0) (Some 0 ∷ [])) none)) ∷
            does (prints (
            number (call (head (callees.Operator (operators.Compare c.GreaterEqual)) (at 5 20) None None (None ∷ Some 2 ∷ []))
            (with (iterator 0) (with (call (head (callees.Row 36) (at 5 25) None (Some 0) (Some 0 ∷ [])) none) none))) ∷
            number (call (head (callees.Operator (operators.Compare c.GreaterEqual)) (at 5 46) None None (None ∷ None ∷ Some 2 ∷ []))
            (with (call (head (callees.Row 35) (at 5 38) None (Some 0) (Some 0 ∷ [])) none) (with (iterator 0) none))) ∷
            [])) ∷
            []));
        close = at 6 1;
      } ∷
      [];
  main = 0;
  sites = at 6 1 ∷ [];
  loops = [];
  names = codes "c" ∷ codes "w" ∷ codes "it" ∷ [];
  constants = pos 0 ∷ pos 1 ∷ pos 2 ∷ pos 3 ∷ pos 4 ∷ pos 5 ∷ pos 6 ∷ pos 7 ∷ pos 8 ∷ [];
}

operator_of_deque_good_done_ends : run operator_of_deque_good_done [] [] 500 ≡ finish (Done (pos 0)) (codes "01") 0
unfolding digits table
operator_of_deque_good_done_ends = refl

-- random program, branch: done (6)
-- int main() {
--   std::vector<int> v1 = {0, 0, 1};
--   auto it2 = v1.begin();
--   v1 = v1;
--   v1.erase(v1.begin());
--   v1.push_back(1);
--   it2 = v1.insert(v1.begin(), 2, 2);
-- }
abbrev pub random_program_branch_done_6 : Typed
random_program_branch_done_6 = record {
  functions =
      record {
        name = codes "main";
        parameters = [];
        result = Some (parameter.Value t.Int);
        variables =
            record { kind = sort.Container; name = 0; place = at 2 20 } ∷
            record { kind = sort.Iterator; name = 1; place = at 3 8 } ∷
            [];
        body = block (Some 4) (all (
            declares (makes f.Vector (head (callees.Row 1) (at 2 3) None None [])
            (with (literal t.Int (pos 0)) (with (literal t.Int (pos 0)) (with (literal t.Int (pos 1)) none)))) ∷
            declares (set_iterator (call (head (callees.Row 7) (at 3 17) None (Some 0) (Some 0 ∷ [])) none)) ∷
            does (evaluates (call (head (callees.Row 6) (at 4 6) (Some 0) (Some 0) (Some 0 ∷ Some 0 ∷ [])) (with (container 0) none))) ∷
            does (evaluates (call (head (callees.Row 20) (at 5 6) (Some 1) (Some 0) (Some 0 ∷ []))
            (with (call (head (callees.Row 7) (at 5 15) None (Some 0) (Some 0 ∷ [])) none) none))) ∷
            does (evaluates (call (head (callees.Row 15) (at 6 6) (Some 2) (Some 0) (Some 0 ∷ [])) (with (literal t.Int (pos 1)) none))) ∷
            does (moves_to 0 (call (head (callees.Row 18) (at 7 12) (Some 3) (Some 0) (Some 0 ∷ [])) (with
            (call (head (callees.Row 7) (at 7 22) None (Some 0) (Some 0 ∷ [])) none)
            (with (convert t.Size (literal t.Int (pos 2))) (with (literal t.Int (pos 2)) none))))) ∷
            []));
        close = at 8 1;
      } ∷
      [];
  main = 0;
  sites = at 4 6 ∷ at 5 6 ∷ at 6 6 ∷ at 7 12 ∷ at 8 1 ∷ [];
  loops = [];
  names = codes "v1" ∷ codes "it2" ∷ [];
  constants = negsuc 0 ∷ pos 0 ∷ pos 1 ∷ pos 2 ∷ pos 3 ∷ [];
}

random_program_branch_done_6_ends : run random_program_branch_done_6 (pos 3 ∷ []) (9 ∷ 1 ∷ 2 ∷ 2 ∷ 0 ∷ 2 ∷ 4294967295 ∷ 2 ∷ 9 ∷ 3 ∷ []) 40
    ≡ finish (Done (pos 0)) [] 0
unfolding table
random_program_branch_done_6_ends = refl

-- query set.constructor(f, l) list<: done
-- int main() {
--   std::set<int> c = {1, 2, 3, 4};
--   std::list<int> y = {3, 1, 3};
--   std::set<int> g(y.begin(), y.end());
--   std::cout << g.size() << " ";
--   for (int e : g) std::cout << e << ",";
-- }
abbrev pub query_set_constructor_f_l_list_done : Typed
query_set_constructor_f_l_list_done = record {
  functions =
      record {
        name = codes "main";
        parameters = [];
        result = Some (parameter.Value t.Int);
        variables =
            record { kind = sort.Container; name = 0; place = at 2 17 } ∷
            record { kind = sort.Container; name = 1; place = at 3 18 } ∷
            record { kind = sort.Container; name = 2; place = at 4 17 } ∷
            record { kind = sort.Scalar; name = 3; place = at 6 12 } ∷
            [];
        body = block (Some 0) (all (
            declares (makes f.Set (head (callees.Row 93) (at 2 3) None None []) (with (literal t.Int (pos 1))
            (with (literal t.Int (pos 2)) (with (literal t.Int (pos 3)) (with (literal t.Int (pos 4)) none))))) ∷
            declares (makes f.List (head (callees.Row 58) (at 3 3) None None [])
            (with (literal t.Int (pos 3)) (with (literal t.Int (pos 1)) (with (literal t.Int (pos 3)) none)))) ∷
            declares (makes f.Set (head (callees.Row 95) (at 4 3) None None []) (with
            (call (head (callees.Row 64) (at 4 21) None (Some 1) (Some 1 ∷ [])) none)
            (with (call (head (callees.Row 65) (at 4 32) None (Some 1) (Some 1 ∷ [])) none) none))) ∷
            does (prints (number (call (head (callees.Row 99) (at 5 18) None (Some 2) (Some 2 ∷ [])) none) ∷ text (codes " ") ∷ [])) ∷
            range_for 0 taken.Value 2 (at 6 3) 2 (does (prints (number (held (scalar 0 (at 6 32))) ∷ text (codes ",") ∷ []))) ∷
            []));
        close = at 7 1;
      } ∷
      [];
  main = 0;
  sites = at 7 1 ∷ [];
  loops = at 6 3 ∷ [];
  names = codes "c" ∷ codes "y" ∷ codes "g" ∷ codes "e" ∷ [];
  constants = pos 0 ∷ pos 1 ∷ pos 2 ∷ pos 3 ∷ pos 4 ∷ pos 5 ∷ [];
}

query_set_constructor_f_l_list_done_ends : run query_set_constructor_f_l_list_done [] [] 500 ≡ finish (Done (pos 0)) (codes "2 1,3,") 0
unfolding digits table
query_set_constructor_f_l_list_done_ends = refl

-- hash order of unordered_set by schedule: done (6)
-- int main() {
--   std::unordered_set<int> c;
--   c.insert(3);
--   c.insert(1);
--   c.insert(4);
--   c.insert(1);
--   c.insert(5);
--   c = c;
--   for (int e : c) std::cout << e << ",";
-- }
abbrev pub hash_order_of_unordered_set_by_schedule_done_6 : Typed
hash_order_of_unordered_set_by_schedule_done_6 = record {
  functions =
      record {
        name = codes "main";
        parameters = [];
        result = Some (parameter.Value t.Int);
        variables =
            record { kind = sort.Container; name = 0; place = at 2 27 } ∷
            record { kind = sort.Scalar; name = 1; place = at 9 12 } ∷
            [];
        body = block (Some 6) (all (
            declares (makes f.HashSet (head (callees.Row 131) (at 2 3) None None []) none) ∷
            does (evaluates (call (head (callees.Row 140) (at 3 5) (Some 0) (Some 0) (Some 0 ∷ [])) (with (literal t.Int (pos 3)) none))) ∷
            does (evaluates (call (head (callees.Row 140) (at 4 5) (Some 1) (Some 0) (Some 0 ∷ [])) (with (literal t.Int (pos 1)) none))) ∷
            does (evaluates (call (head (callees.Row 140) (at 5 5) (Some 2) (Some 0) (Some 0 ∷ [])) (with (literal t.Int (pos 4)) none))) ∷
            does (evaluates (call (head (callees.Row 140) (at 6 5) (Some 3) (Some 0) (Some 0 ∷ [])) (with (literal t.Int (pos 1)) none))) ∷
            does (evaluates (call (head (callees.Row 140) (at 7 5) (Some 4) (Some 0) (Some 0 ∷ [])) (with (literal t.Int (pos 5)) none))) ∷
            does (evaluates (call (head (callees.Row 135) (at 8 5) (Some 5) (Some 0) (Some 0 ∷ Some 0 ∷ [])) (with (container 0) none))) ∷
            range_for 0 taken.Value 0 (at 9 3) 0 (does (prints (number (held (scalar 0 (at 9 32))) ∷ text (codes ",") ∷ []))) ∷
            []));
        close = at 10 1;
      } ∷
      [];
  main = 0;
  sites = at 3 5 ∷ at 4 5 ∷ at 5 5 ∷ at 6 5 ∷ at 7 5 ∷ at 8 5 ∷ at 10 1 ∷ [];
  loops = at 9 3 ∷ [];
  names = codes "c" ∷ codes "e" ∷ [];
  constants = pos 0 ∷ pos 1 ∷ pos 2 ∷ pos 3 ∷ pos 4 ∷ pos 5 ∷ pos 6 ∷ [];
}

hash_order_of_unordered_set_by_schedule_done_6_ends : run hash_order_of_unordered_set_by_schedule_done_6 []
    (7 ∷ 1 ∷ 2 ∷ 2 ∷ 4 ∷ 0 ∷ 0 ∷ 7 ∷ 0 ∷ []) 500
    ≡ finish (Done (pos 0)) (codes "4,3,5,1,") 0
unfolding digits table
hash_order_of_unordered_set_by_schedule_done_6_ends = refl

-- hash order of unordered_set by schedule: done (3)
-- int main() {
--   std::unordered_set<int> c;
--   c.insert(3);
--   c.insert(1);
--   c.insert(4);
--   c.insert(1);
--   c.insert(5);
--   c.reserve(4);
--   for (int e : c) std::cout << e << ",";
-- }
abbrev pub hash_order_of_unordered_set_by_schedule_done_3 : Typed
hash_order_of_unordered_set_by_schedule_done_3 = record {
  functions =
      record {
        name = codes "main";
        parameters = [];
        result = Some (parameter.Value t.Int);
        variables =
            record { kind = sort.Container; name = 0; place = at 2 27 } ∷
            record { kind = sort.Scalar; name = 1; place = at 9 12 } ∷
            [];
        body = block (Some 6) (all (
            declares (makes f.HashSet (head (callees.Row 131) (at 2 3) None None []) none) ∷
            does (evaluates (call (head (callees.Row 140) (at 3 5) (Some 0) (Some 0) (Some 0 ∷ [])) (with (literal t.Int (pos 3)) none))) ∷
            does (evaluates (call (head (callees.Row 140) (at 4 5) (Some 1) (Some 0) (Some 0 ∷ [])) (with (literal t.Int (pos 1)) none))) ∷
            does (evaluates (call (head (callees.Row 140) (at 5 5) (Some 2) (Some 0) (Some 0 ∷ [])) (with (literal t.Int (pos 4)) none))) ∷
            does (evaluates (call (head (callees.Row 140) (at 6 5) (Some 3) (Some 0) (Some 0 ∷ [])) (with (literal t.Int (pos 1)) none))) ∷
            does (evaluates (call (head (callees.Row 140) (at 7 5) (Some 4) (Some 0) (Some 0 ∷ [])) (with (literal t.Int (pos 5)) none))) ∷
            does (evaluates (call (head (callees.Row 146) (at 8 5) (Some 5) (Some 0) (Some 0 ∷ []))
            (with (convert t.Size (literal t.Int (pos 4))) none))) ∷
            range_for 0 taken.Value 0 (at 9 3) 0 (does (prints (number (held (scalar 0 (at 9 32))) ∷ text (codes ",") ∷ []))) ∷
            []));
        close = at 10 1;
      } ∷
      [];
  main = 0;
  sites = at 3 5 ∷ at 4 5 ∷ at 5 5 ∷ at 6 5 ∷ at 7 5 ∷ at 8 5 ∷ at 10 1 ∷ [];
  loops = at 9 3 ∷ [];
  names = codes "c" ∷ codes "e" ∷ [];
  constants = pos 0 ∷ pos 1 ∷ pos 2 ∷ pos 3 ∷ pos 4 ∷ pos 5 ∷ pos 6 ∷ [];
}

hash_order_of_unordered_set_by_schedule_done_3_ends : run hash_order_of_unordered_set_by_schedule_done_3 []
    (4294967295 ∷ 100 ∷ 0 ∷ 0 ∷ 0 ∷ 2 ∷ 1 ∷ 7 ∷ 100 ∷ 1 ∷ 4294967295 ∷ 4 ∷ 7 ∷ 0 ∷ 1 ∷ 3 ∷ 7 ∷ 4294967295 ∷ 0 ∷ 4 ∷ 7 ∷ 2 ∷ []) 500
    ≡ finish (Done (pos 0)) (codes "5,3,1,4,") 0
unfolding digits table
hash_order_of_unordered_set_by_schedule_done_3_ends = refl

-- range-for (auto&) over list with c.resize(9);: done
-- int main() {
--   std::list<int> c = {1, 2, 3, 4};
--   std::list<int> w = {7};
--   int n = 0;
--   for (auto& e : c) {
--     c.resize(9);
--     std::cout << e << " ";
--     if (++n == 3) return n;
--   }
-- }
abbrev pub range_for_auto_over_list_with_c_resize_9_done : Typed
range_for_auto_over_list_with_c_resize_9_done = record {
  functions =
      record {
        name = codes "main";
        parameters = [];
        result = Some (parameter.Value t.Int);
        variables =
            record { kind = sort.Container; name = 0; place = at 2 18 } ∷
            record { kind = sort.Container; name = 1; place = at 3 18 } ∷
            record { kind = sort.Scalar; name = 2; place = at 4 7 } ∷
            record { kind = sort.Reference; name = 3; place = at 5 14 } ∷
            [];
        body = block (Some 1) (all (
            declares (makes f.List (head (callees.Row 58) (at 2 3) None None []) (with (literal t.Int (pos 1))
            (with (literal t.Int (pos 2)) (with (literal t.Int (pos 3)) (with (literal t.Int (pos 4)) none))))) ∷
            declares (makes f.List (head (callees.Row 58) (at 3 3) None None []) (with (literal t.Int (pos 7)) none)) ∷
            declares (set_scalar t.Int (literal t.Int (pos 0))) ∷
            range_for 0 taken.Reference 0 (at 5 3) 0 (block None (all (
            does (evaluates (call (head (callees.Row 80) (at 6 7) (Some 0) (Some 0) (Some 0 ∷ []))
            (with (convert t.Size (literal t.Int (pos 9))) none))) ∷
            does (prints (number (held (reference 2 (at 7 18) 3 part.Whole)) ∷ text (codes " ") ∷ [])) ∷
            choice (test
            (comparison c.Equal (at 8 13) (increment Up Prefix t.Int (at 8 9) (scalar 0 (at 8 11))) (literal t.Int (pos 3))))
            (gives_back (Some (held (scalar 0 (at 8 26))))) ∷
            []))) ∷
            []));
        close = at 10 1;
      } ∷
      [];
  main = 0;
  sites = at 6 7 ∷ at 10 1 ∷ [];
  loops = at 5 3 ∷ [];
  names = codes "c" ∷ codes "w" ∷ codes "n" ∷ codes "e" ∷ [];
  constants = negsuc 0 ∷ pos 0 ∷ pos 1 ∷ pos 2 ∷ pos 3 ∷ pos 4 ∷ pos 5 ∷ pos 6 ∷ pos 7 ∷ pos 8 ∷ pos 9 ∷ pos 10 ∷ [];
}

range_for_auto_over_list_with_c_resize_9_done_ends : run range_for_auto_over_list_with_c_resize_9_done [] [] 500
    ≡ finish (Done (pos 3)) (codes "1 2 3 ") 0
unfolding digits table
range_for_auto_over_list_with_c_resize_9_done_ends = refl

-- random program, input: done (31)
-- int main() {
--   std::map<int, int> m1;
--   auto it2 = m1.begin();
--   std::cout << m1.emplace(2, !2).second;
--   m1.erase(m1.find(2));
--   auto it7 = m1.find(5);
--   m1.erase(it7, m1.find(2));
-- }
abbrev pub random_program_input_done_31 : Typed
random_program_input_done_31 = record {
  functions =
      record {
        name = codes "main";
        parameters = [];
        result = Some (parameter.Value t.Int);
        variables =
            record { kind = sort.Container; name = 0; place = at 2 22 } ∷
            record { kind = sort.Iterator; name = 1; place = at 3 8 } ∷
            record { kind = sort.Iterator; name = 2; place = at 6 8 } ∷
            [];
        body = block (Some 2) (all (
            declares (makes f.Map (head (callees.Row 112) (at 2 3) None None []) none) ∷
            declares (set_iterator (call (head (callees.Row 115) (at 3 17) None (Some 0) (Some 0 ∷ [])) none)) ∷
            does (prints (
            number (second (at 4 33) (call (head (callees.Row 121) (at 4 19) None (Some 0) (Some 0 ∷ []))
            (with (literal t.Int (pos 2)) (with (convert t.Int (logical_not (at 4 30) (literal t.Int (pos 2)))) none)))) ∷
            [])) ∷
            does (evaluates (call (head (callees.Row 122) (at 5 6) (Some 0) (Some 0) (Some 0 ∷ []))
            (with (call (head (callees.Row 127) (at 5 15) None (Some 0) (Some 0 ∷ [])) (with (literal t.Int (pos 2)) none)) none))) ∷
            declares
            (set_iterator (call (head (callees.Row 127) (at 6 17) None (Some 0) (Some 0 ∷ [])) (with (literal t.Int (pos 5)) none))) ∷
            does (evaluates (call (head (callees.Row 123) (at 7 6) (Some 1) (Some 0) (Some 0 ∷ Some 2 ∷ [])) (with (iterator 1)
            (with (call (head (callees.Row 127) (at 7 20) None (Some 0) (Some 0 ∷ [])) (with (literal t.Int (pos 2)) none)) none)))) ∷
            []));
        close = at 8 1;
      } ∷
      [];
  main = 0;
  sites = at 5 6 ∷ at 7 6 ∷ at 8 1 ∷ [];
  loops = [];
  names = codes "m1" ∷ codes "it2" ∷ codes "it7" ∷ [];
  constants = pos 0 ∷ pos 1 ∷ pos 2 ∷ pos 3 ∷ pos 4 ∷ pos 5 ∷ pos 6 ∷ [];
}

random_program_input_done_31_ends : run random_program_input_done_31 (negsuc 2147483647 ∷ [])
    (9 ∷ 9 ∷ 2 ∷ 0 ∷ 4294967295 ∷ 3 ∷ 4294967295 ∷ 3 ∷ 3 ∷ 1 ∷ 9 ∷ []) 400
    ≡ finish (Done (pos 0)) (codes "1") 0
unfolding digits table
random_program_input_done_31_ends = refl

-- random program, straight: done
-- int main() {
--   std::deque<int> d1(2);
--   d1.push_front(2);
--   d1.insert(d1.begin(), 7);
--   d1 = d1;
--   std::cout << d1[2] << ' ';
--   std::size_t x2 = d1.at(3 || d1.empty());
-- }
abbrev pub random_program_straight_done : Typed
random_program_straight_done = record {
  functions =
      record {
        name = codes "main";
        parameters = [];
        result = Some (parameter.Value t.Int);
        variables =
            record { kind = sort.Container; name = 0; place = at 2 19 } ∷
            record { kind = sort.Scalar; name = 1; place = at 7 15 } ∷
            [];
        body = block (Some 3) (all (
            declares (makes f.Deque (head (callees.Row 31) (at 2 3) None None []) (with (convert t.Size (literal t.Int (pos 2))) none)) ∷
            does (evaluates (call (head (callees.Row 44) (at 3 6) (Some 0) (Some 0) (Some 0 ∷ [])) (with (literal t.Int (pos 2)) none))) ∷
            does (evaluates (call (head (callees.Row 47) (at 4 6) (Some 1) (Some 0) (Some 0 ∷ []))
            (with (call (head (callees.Row 35) (at 4 16) None (Some 0) (Some 0 ∷ [])) none) (with (literal t.Int (pos 7)) none)))) ∷
            does (evaluates (call (head (callees.Row 34) (at 5 6) (Some 2) (Some 0) (Some 0 ∷ Some 0 ∷ [])) (with (container 0) none))) ∷
            does (prints (
            number (held (element (head (callees.Row 42) (at 6 18) None (Some 0) (Some 0 ∷ []))
            (with (convert t.Size (literal t.Int (pos 2))) none))) ∷
            text (codes " ") ∷
            [])) ∷
            declares (set_scalar t.Size (convert t.Size (held (element (head (callees.Row 41) (at 7 23) None (Some 0) (Some 0 ∷ [])) (with (convert
            t.Size (logical_or (at 7 28) (literal t.Int (pos 3))
            (call (head (callees.Row 38) (at 7 34) None (Some 0) (Some 0 ∷ [])) none))) none))))) ∷
            []));
        close = at 8 1;
      } ∷
      [];
  main = 0;
  sites = at 3 6 ∷ at 4 6 ∷ at 5 6 ∷ at 8 1 ∷ [];
  loops = [];
  names = codes "d1" ∷ codes "x2" ∷ [];
  constants = pos 0 ∷ pos 1 ∷ pos 2 ∷ pos 3 ∷ pos 4 ∷ pos 6 ∷ pos 7 ∷ pos 8 ∷ [];
}

random_program_straight_done_ends : run random_program_straight_done (negsuc 0 ∷ []) (
    0 ∷
    4294967295 ∷
    3 ∷
    3 ∷
    2 ∷
    2 ∷
    4294967295 ∷
    4294967295 ∷
    4294967295 ∷
    3 ∷
    1 ∷
    2 ∷
    1 ∷
    9 ∷
    2 ∷
    0 ∷
    9 ∷
    2 ∷
    4294967295 ∷
    2 ∷
    0 ∷
    1 ∷
    1 ∷
    3 ∷
    0 ∷
    0 ∷
    4294967295 ∷
    0 ∷
    4294967295 ∷
    []) 40
    ≡ finish (Done (pos 0)) (codes "0 ") 0
unfolding digits table
random_program_straight_done_ends = refl

-- random program, straight: done (6)
-- int main() {
--   std::set<int> s1 = {7, 0, 1, 2};
--   s1.insert(2 % s1.size());
--   s1.erase(4);
--   s1.erase(s1.lower_bound(4));
--   {
--     s1 = s1;
--   }
--   s1 = s1;
-- }
abbrev pub random_program_straight_done_6 : Typed
random_program_straight_done_6 = record {
  functions =
      record {
        name = codes "main";
        parameters = [];
        result = Some (parameter.Value t.Int);
        variables = record { kind = sort.Container; name = 0; place = at 2 17 } ∷ [];
        body = block (Some 4) (all (
            declares (makes f.Set (head (callees.Row 93) (at 2 3) None None []) (with (literal t.Int (pos 7))
            (with (literal t.Int (pos 0)) (with (literal t.Int (pos 1)) (with (literal t.Int (pos 2)) none))))) ∷
            does (evaluates (call (head (callees.Row 101) (at 3 6) None (Some 0) (Some 0 ∷ [])) (with (convert t.Int (arithmetic o.Remainder
            t.Size (at 3 15) (convert t.Size (literal t.Int (pos 2)))
            (call (head (callees.Row 99) (at 3 20) None (Some 0) (Some 0 ∷ [])) none))) none))) ∷
            does (evaluates (call (head (callees.Row 105) (at 4 6) (Some 0) (Some 0) (Some 0 ∷ [])) (with (literal t.Int (pos 4)) none))) ∷
            does (evaluates (call (head (callees.Row 103) (at 5 6) (Some 1) (Some 0) (Some 0 ∷ []))
            (with (call (head (callees.Row 110) (at 5 15) None (Some 0) (Some 0 ∷ [])) (with (literal t.Int (pos 4)) none)) none))) ∷
            block None (all (
            does
            (evaluates (call (head (callees.Row 96) (at 7 8) (Some 2) (Some 0) (Some 0 ∷ Some 0 ∷ [])) (with (container 0) none))) ∷
            [])) ∷
            does (evaluates (call (head (callees.Row 96) (at 9 6) (Some 3) (Some 0) (Some 0 ∷ Some 0 ∷ [])) (with (container 0) none))) ∷
            []));
        close = at 10 1;
      } ∷
      [];
  main = 0;
  sites = at 4 6 ∷ at 5 6 ∷ at 7 8 ∷ at 9 6 ∷ at 10 1 ∷ [];
  loops = [];
  names = codes "s1" ∷ [];
  constants = negsuc 0 ∷ pos 0 ∷ pos 1 ∷ pos 2 ∷ pos 3 ∷ pos 4 ∷ pos 5 ∷ pos 6 ∷ pos 7 ∷ pos 8 ∷ [];
}

random_program_straight_done_6_ends : run random_program_straight_done_6 (pos 0 ∷ pos 0 ∷ []) (
    9 ∷
    1 ∷
    0 ∷
    0 ∷
    0 ∷
    0 ∷
    1 ∷
    2 ∷
    1 ∷
    1 ∷
    4294967295 ∷
    3 ∷
    4294967295 ∷
    0 ∷
    3 ∷
    0 ∷
    4294967295 ∷
    4294967295 ∷
    0 ∷
    9 ∷
    4294967295 ∷
    4294967295 ∷
    0 ∷
    1 ∷
    3 ∷
    2 ∷
    0 ∷
    0 ∷
    0 ∷
    []) 40
    ≡ finish (Done (pos 0)) [] 0
unfolding table
random_program_straight_done_6_ends = refl

-- random program, straight: trap (7)
-- int main() {
--   std::multiset<int> ms1;
--   ms1.erase(1);
--   ms1.swap(ms1);
--   ms1.erase(1);
--   ms1.insert(ms1.begin(), ms1.end());
--   ms1.insert(ms1.end(), ms1.equal_range(2).first);
--   ms1.insert(0);
-- }
abbrev pub random_program_straight_trap_7 : Typed
random_program_straight_trap_7 = record {
  functions =
      record {
        name = codes "main";
        parameters = [];
        result = Some (parameter.Value t.Int);
        variables = record { kind = sort.Container; name = 0; place = at 2 22 } ∷ [];
        body = block (Some 3) (all (
            declares (makes f.MultiSet (head (callees.Row 168) (at 2 3) None None []) none) ∷
            does (evaluates (call (head (callees.Row 181) (at 3 7) (Some 0) (Some 0) (Some 0 ∷ [])) (with (literal t.Int (pos 1)) none))) ∷
            does (evaluates (call (head (callees.Row 183) (at 4 7) (Some 1) (Some 0) (Some 0 ∷ Some 0 ∷ [])) (with (container 0) none))) ∷
            does (evaluates (call (head (callees.Row 181) (at 5 7) (Some 2) (Some 0) (Some 0 ∷ [])) (with (literal t.Int (pos 1)) none))) ∷
            does (evaluates (call (head (callees.Row 178) (at 6 7) None (Some 0) (Some 0 ∷ [])) (with
            (call (head (callees.Row 173) (at 6 18) None (Some 0) (Some 0 ∷ [])) none)
            (with (call (head (callees.Row 174) (at 6 31) None (Some 0) (Some 0 ∷ [])) none) none)))) ∷
            does (evaluates (call (head (callees.Row 178) (at 7 7) None (Some 0) (Some 0 ∷ [])) (with
            (call (head (callees.Row 174) (at 7 18) None (Some 0) (Some 0 ∷ [])) none) (with (first (at 7 43)
            (call (head (callees.Row 188) (at 7 29) None (Some 0) (Some 0 ∷ [])) (with (literal t.Int (pos 2)) none))) none)))) ∷
            does (evaluates (call (head (callees.Row 177) (at 8 7) None (Some 0) (Some 0 ∷ [])) (with (literal t.Int (pos 0)) none))) ∷
            []));
        close = at 9 1;
      } ∷
      [];
  main = 0;
  sites = at 3 7 ∷ at 4 7 ∷ at 5 7 ∷ at 9 1 ∷ [];
  loops = [];
  names = codes "ms1" ∷ [];
  constants = negsuc 0 ∷ pos 0 ∷ pos 1 ∷ pos 2 ∷ pos 3 ∷ [];
}

random_program_straight_trap_7_ends : run random_program_straight_trap_7 (negsuc 0 ∷ pos 2 ∷ pos 5 ∷ pos 1 ∷ [])
    (9 ∷ 0 ∷ 0 ∷ 2 ∷ 0 ∷ 0 ∷ 9 ∷ 1 ∷ 4294967295 ∷ 0 ∷ []) 5
    ≡ finish (Trapped (trap (at 6 7) 7 (codes "insert") 1 None None)) [] 0
unfolding table
random_program_straight_trap_7_ends = refl

-- Closed runs of texts, each made of a C++ text and its end and output by tools/run_goal.py; the texts and ends are not this program's own answers.
use Rattle.sl_base.specs.declared.scalar.Scalar.TheVariants as t
use Rattle.sl_base.specs.declared.form.Form.TheVariants as f
use Rattle.sl_syntax.specs.declared.operator.Access.TheVariants as access
use Rattle.sl_syntax.specs.declared.operator.Arithmetic.TheVariants as o
use Rattle.sl_syntax.specs.declared.operator.Comparison.TheVariants as c
use Rattle.sl_syntax.specs.declared.typed.callee.Callee.TheVariants as callees
use Rattle.sl_syntax.specs.declared.typed.element.ElementPart.TheVariants as part
use Rattle.sl_syntax.specs.declared.typed.element.Taken.TheVariants as taken
use Rattle.sl_syntax.specs.declared.typed.operator.Operator.TheVariants as operators
use Rattle.sl_syntax.specs.declared.typed.parameter.ParameterKind.TheVariants as parameter
use Rattle.sl_syntax.specs.declared.typed.variable.VariableKind.TheVariants as sort
use Rattle.std.specs.Prelude.{◌≡◌, refl, [], ◌∷◌, Some, None, pos, negsuc, codes}
use Rattle.std.specs.Fmt.{digits}
use Rattle.sl_syntax.specs.declared.typed.step.Fix.TheVariants.{Prefix}
use Rattle.sl_syntax.specs.declared.typed.step.Step.TheVariants.{Up}
use Rattle.sl_syntax.specs.Typed.{literal, held, iterator, convert, negate, logical_and, arithmetic, comparison, increment, move, call}
use Rattle.sl_syntax.specs.Typed.{own_call, first, second, container, scalar, reference, element, none, with, test, text, endline, number}
use Rattle.sl_syntax.specs.Typed.{prints, evaluates, moves_to, set_scalar, set_iterator, binds_reference, makes, declares_first, block}
use Rattle.sl_syntax.specs.Typed.{declares, choice_else, for, range_for, gives_back, does, Typed}
use Rattle.sl_specs.specs.Table.{table}
use Rattle.sl_model.specs.Runs.Ends.{Done, Trapped}
use Rattle.sl_model.specs.Runs.Run.{run}
use Rattle.sl_model.proofs.Examples.Short.{at, head, all, finish, trap}

-- random program, branch: done (10)
-- int main() {
--   std::vector<int> v1;
--   std::cout << 7 << ' ';
--   auto it2 = v1.end();
--   auto it3 = v1.begin();
--   v1.push_back(10);
--   ++v1.front();
--   v1.resize(2, 1);
--   v1.resize(10, v1.back());
--   std::vector<int> v9(v1);
-- }
abbrev pub random_program_branch_done_10 : Typed
random_program_branch_done_10 = record {
  functions =
      record {
        name = codes "main";
        parameters = [];
        result = Some (parameter.Value t.Int);
        variables =
            record { kind = sort.Container; name = 0; place = at 2 20 } ∷
            record { kind = sort.Iterator; name = 1; place = at 4 8 } ∷
            record { kind = sort.Iterator; name = 2; place = at 5 8 } ∷
            record { kind = sort.Container; name = 3; place = at 10 20 } ∷
            [];
        body = block (Some 3) (all (
            declares (makes f.Vector (head (callees.Row 0) (at 2 3) None None []) none) ∷
            does (prints (number (literal t.Int (pos 7)) ∷ text (codes " ") ∷ [])) ∷
            declares (set_iterator (call (head (callees.Row 8) (at 4 17) None (Some 0) (Some 0 ∷ [])) none)) ∷
            declares (set_iterator (call (head (callees.Row 7) (at 5 17) None (Some 0) (Some 0 ∷ [])) none)) ∷
            does (evaluates (call (head (callees.Row 15) (at 6 6) (Some 0) (Some 0) (Some 0 ∷ [])) (with (literal t.Int (pos 10)) none))) ∷
            does
            (evaluates (increment Up Prefix t.Int (at 7 3) (element (head (callees.Row 11) (at 7 8) None (Some 0) (Some 0 ∷ [])) none))) ∷
            does (evaluates (call (head (callees.Row 24) (at 8 6) (Some 1) (Some 0) (Some 0 ∷ []))
            (with (convert t.Size (literal t.Int (pos 2))) (with (literal t.Int (pos 1)) none)))) ∷
            does (evaluates (call (head (callees.Row 24) (at 9 6) (Some 2) (Some 0) (Some 0 ∷ [])) (with
            (convert t.Size (literal t.Int (pos 10)))
            (with (held (element (head (callees.Row 12) (at 9 20) None (Some 0) (Some 0 ∷ [])) none)) none)))) ∷
            declares (makes f.Vector (head (callees.Row 2) (at 10 3) None None (None ∷ Some 0 ∷ [])) (with (container 0) none)) ∷
            []));
        close = at 11 1;
      } ∷
      [];
  main = 0;
  sites = at 6 6 ∷ at 8 6 ∷ at 9 6 ∷ at 11 1 ∷ [];
  loops = [];
  names = codes "v1" ∷ codes "it2" ∷ codes "it3" ∷ codes "v9" ∷ [];
  constants = pos 0 ∷ pos 1 ∷ pos 2 ∷ pos 3 ∷ pos 6 ∷ pos 7 ∷ pos 8 ∷ pos 9 ∷ pos 10 ∷ pos 11 ∷ [];
}

random_program_branch_done_10_ends : run random_program_branch_done_10 (pos 0 ∷ pos 2147483647 ∷ [])
    (1 ∷ 0 ∷ 9 ∷ 3 ∷ 2 ∷ 4294967295 ∷ 2 ∷ 1 ∷ 9 ∷ 0 ∷ 2 ∷ 9 ∷ 1 ∷ 1 ∷ 3 ∷ 2 ∷ 0 ∷ 9 ∷ 0 ∷ 0 ∷ 0 ∷ 0 ∷ 0 ∷ 3 ∷ 3 ∷ 1 ∷ 9 ∷ 0 ∷ []) 400
    ≡ finish (Done (pos 0)) (codes "7 ") 0
unfolding digits table
random_program_branch_done_10_ends = refl

-- random program, branch: done (14)
-- int main() {
--   std::list<int> l1{0, 2, 7, 10};
--   std::list<int> l2{4};
--   l1.merge(l2);
--   std::size_t x4 = -1;
--   std::set_difference(l1.begin(), l1.end(), l2.begin(), l2.begin(), std::back_inserter(l2));
--   l1.erase(std::next(l1.begin()));
-- }
abbrev pub random_program_branch_done_14 : Typed
random_program_branch_done_14 = record {
  functions =
      record {
        name = codes "main";
        parameters = [];
        result = Some (parameter.Value t.Int);
        variables =
            record { kind = sort.Container; name = 0; place = at 2 18 } ∷
            record { kind = sort.Container; name = 1; place = at 3 18 } ∷
            record { kind = sort.Scalar; name = 2; place = at 5 15 } ∷
            [];
        body = block (Some 2) (all (
            declares (makes f.List (head (callees.Row 58) (at 2 3) None None []) (with (literal t.Int (pos 0))
            (with (literal t.Int (pos 2)) (with (literal t.Int (pos 7)) (with (literal t.Int (pos 10)) none))))) ∷
            declares (makes f.List (head (callees.Row 58) (at 3 3) None None []) (with (literal t.Int (pos 4)) none)) ∷
            does (evaluates (call (head (callees.Row 88) (at 4 6) None (Some 0) (Some 0 ∷ Some 1 ∷ [])) (with (container 1) none))) ∷
            declares (set_scalar t.Size (convert t.Size (negate t.Int (at 5 20) (literal t.Int (pos 1))))) ∷
            does (evaluates (call (head (callees.Appends 217) (at 6 3) (Some 0) None []) (with
            (call (head (callees.Row 64) (at 6 26) None (Some 0) (Some 0 ∷ [])) none) (with
            (call (head (callees.Row 65) (at 6 38) None (Some 0) (Some 0 ∷ [])) none) (with
            (call (head (callees.Row 64) (at 6 48) None (Some 1) (Some 1 ∷ [])) none)
            (with (call (head (callees.Row 64) (at 6 60) None (Some 1) (Some 1 ∷ [])) none) (with (container 1) none))))))) ∷
            does (evaluates (call (head (callees.Row 77) (at 7 6) (Some 1) (Some 0) (Some 0 ∷ [])) (with (call
            (head (callees.Row 226) (at 7 12) None None [])
            (with (call (head (callees.Row 64) (at 7 25) None (Some 0) (Some 0 ∷ [])) none) none)) none))) ∷
            []));
        close = at 8 1;
      } ∷
      [];
  main = 0;
  sites = at 6 3 ∷ at 7 6 ∷ at 8 1 ∷ [];
  loops = [];
  names = codes "l1" ∷ codes "l2" ∷ codes "x4" ∷ [];
  constants = negsuc 0 ∷ pos 0 ∷ pos 1 ∷ pos 2 ∷ pos 3 ∷ pos 4 ∷ pos 5 ∷ pos 6 ∷ pos 7 ∷ pos 8 ∷ pos 9 ∷ pos 10 ∷ pos 11 ∷ [];
}

random_program_branch_done_14_ends : run random_program_branch_done_14 (pos 2 ∷ pos 2147483647 ∷ []) (4294967295 ∷ 9 ∷ []) 400
    ≡ finish (Done (pos 0)) [] 0
unfolding table
random_program_branch_done_14_ends = refl

-- random program, straight: done (5)
-- int main() {
--   std::vector<int> v1 = {};
--   std::copy(v1.begin(), std::max_element(v1.begin(), v1.end()), v1.end());
--   v1.assign(3, 4);
--   int x2 = v1[0];
--   v1.insert(v1.begin(), 5, x2);
--   v1.assign(1, 0);
-- }
abbrev pub random_program_straight_done_5 : Typed
random_program_straight_done_5 = record {
  functions =
      record {
        name = codes "main";
        parameters = [];
        result = Some (parameter.Value t.Int);
        variables = record { kind = sort.Container; name = 0; place = at 2 20 } ∷ record { kind = sort.Scalar; name = 1; place = at 5 7 } ∷ [];
        body = block (Some 3) (all (
            declares (makes f.Vector (head (callees.Row 0) (at 2 3) None None []) none) ∷
            does (evaluates (call (head (callees.Row 218) (at 3 3) None None []) (with
            (call (head (callees.Row 7) (at 3 16) None (Some 0) (Some 0 ∷ [])) none) (with (call
            (head (callees.Row 229) (at 3 25) None None []) (with
            (call (head (callees.Row 7) (at 3 45) None (Some 0) (Some 0 ∷ [])) none)
            (with (call (head (callees.Row 8) (at 3 57) None (Some 0) (Some 0 ∷ [])) none) none)))
            (with (call (head (callees.Row 8) (at 3 68) None (Some 0) (Some 0 ∷ [])) none) none))))) ∷
            does (evaluates (call (head (callees.Row 25) (at 4 6) (Some 0) (Some 0) (Some 0 ∷ []))
            (with (convert t.Size (literal t.Int (pos 3))) (with (literal t.Int (pos 4)) none)))) ∷
            declares (set_scalar t.Int (held (element (head (callees.Row 14) (at 5 14) None (Some 0) (Some 0 ∷ []))
            (with (convert t.Size (literal t.Int (pos 0))) none)))) ∷
            does (evaluates (call (head (callees.Row 18) (at 6 6) (Some 1) (Some 0) (Some 0 ∷ None ∷ None ∷ Some 1 ∷ [])) (with
            (call (head (callees.Row 7) (at 6 16) None (Some 0) (Some 0 ∷ [])) none)
            (with (convert t.Size (literal t.Int (pos 5))) (with (held (scalar 0 (at 6 28))) none))))) ∷
            does (evaluates (call (head (callees.Row 25) (at 7 6) (Some 2) (Some 0) (Some 0 ∷ []))
            (with (convert t.Size (literal t.Int (pos 1))) (with (literal t.Int (pos 0)) none)))) ∷
            []));
        close = at 8 1;
      } ∷
      [];
  main = 0;
  sites = at 4 6 ∷ at 6 6 ∷ at 7 6 ∷ at 8 1 ∷ [];
  loops = [];
  names = codes "v1" ∷ codes "x2" ∷ [];
  constants = negsuc 0 ∷ pos 0 ∷ pos 1 ∷ pos 2 ∷ pos 3 ∷ pos 4 ∷ pos 5 ∷ pos 6 ∷ [];
}

random_program_straight_done_5_ends : run random_program_straight_done_5 [] (
    4294967295 ∷
    0 ∷
    3 ∷
    2 ∷
    4294967295 ∷
    0 ∷
    9 ∷
    4294967295 ∷
    2 ∷
    4294967295 ∷
    4294967295 ∷
    9 ∷
    2 ∷
    1 ∷
    3 ∷
    9 ∷
    1 ∷
    0 ∷
    1 ∷
    4294967295 ∷
    []) 400
    ≡ finish (Done (pos 0)) [] 0
unfolding table
random_program_straight_done_5_ends = refl

-- query map.upper_bound(k) 0: done
-- int main() {
--   std::map<int, int> c;
--   c.emplace(1, 10);
--   c.emplace(2, 20);
--   c.emplace(3, 30);
--   c.emplace(4, 40);
--   {
--     auto q = c.upper_bound(0);
--     if (q == c.end()) std::cout << "end ";
--     else std::cout << q->first << " ";
--   }
-- }
abbrev pub query_map_upper_bound_k_0_done : Typed
query_map_upper_bound_k_0_done = record {
  functions =
      record {
        name = codes "main";
        parameters = [];
        result = Some (parameter.Value t.Int);
        variables =
            record { kind = sort.Container; name = 0; place = at 2 22 } ∷
            record { kind = sort.Iterator; name = 1; place = at 8 10 } ∷
            [];
        body = block (Some 0) (all (
            declares (makes f.Map (head (callees.Row 112) (at 2 3) None None []) none) ∷
            does (evaluates (call (head (callees.Row 121) (at 3 5) None (Some 0) (Some 0 ∷ []))
            (with (literal t.Int (pos 1)) (with (literal t.Int (pos 10)) none)))) ∷
            does (evaluates (call (head (callees.Row 121) (at 4 5) None (Some 0) (Some 0 ∷ []))
            (with (literal t.Int (pos 2)) (with (literal t.Int (pos 20)) none)))) ∷
            does (evaluates (call (head (callees.Row 121) (at 5 5) None (Some 0) (Some 0 ∷ []))
            (with (literal t.Int (pos 3)) (with (literal t.Int (pos 30)) none)))) ∷
            does (evaluates (call (head (callees.Row 121) (at 6 5) None (Some 0) (Some 0 ∷ []))
            (with (literal t.Int (pos 4)) (with (literal t.Int (pos 40)) none)))) ∷
            block None (all (
            declares
            (set_iterator (call (head (callees.Row 130) (at 8 16) None (Some 0) (Some 0 ∷ [])) (with (literal t.Int (pos 0)) none))) ∷
            choice_else (test (call (head (callees.Operator (operators.Compare c.Equal)) (at 9 11) None None (None ∷ Some 1 ∷ []))
            (with (iterator 0) (with (call (head (callees.Row 116) (at 9 16) None (Some 0) (Some 0 ∷ [])) none) none))))
            (does (prints (text (codes "end ") ∷ []))) (does (prints (
            number (held (element (head (callees.Operator operators.ArrowFirst) (at 10 24) None None (None ∷ Some 1 ∷ []))
            (with (iterator 0) none))) ∷
            text (codes " ") ∷
            []))) ∷
            [])) ∷
            []));
        close = at 12 1;
      } ∷
      [];
  main = 0;
  sites = at 12 1 ∷ [];
  loops = [];
  names = codes "c" ∷ codes "q" ∷ [];
  constants =
      negsuc 0 ∷
      pos 0 ∷
      pos 1 ∷
      pos 2 ∷
      pos 3 ∷
      pos 4 ∷
      pos 5 ∷
      pos 9 ∷
      pos 10 ∷
      pos 11 ∷
      pos 19 ∷
      pos 20 ∷
      pos 21 ∷
      pos 29 ∷
      pos 30 ∷
      pos 31 ∷
      pos 39 ∷
      pos 40 ∷
      pos 41 ∷
      [];
}

query_map_upper_bound_k_0_done_ends : run query_map_upper_bound_k_0_done [] [] 500 ≡ finish (Done (pos 0)) (codes "1 ") 0
unfolding digits table
query_map_upper_bound_k_0_done_ends = refl

-- reference, list sorted under it: done
-- void add(std::vector<int>& v, int x) {
--   v.push_back(x);
-- }
-- int id(int x) {
--   return x;
-- }
-- int main() {
--   std::list<int> v = {3, 1, 2};
--   int& r = v.front();
--   v.sort();
--   std::cout << r << v.front();
--   v.reverse();
--   std::cout << r;
-- }
abbrev pub reference_list_sorted_under_it_done : Typed
reference_list_sorted_under_it_done = record {
  functions =
      record {
        name = codes "add";
        parameters = parameter.Container access.Whole f.Vector ∷ parameter.Value t.Int ∷ [];
        result = None;
        variables =
            record { kind = sort.Container; name = 0; place = at 1 28 } ∷
            record { kind = sort.Scalar; name = 1; place = at 1 35 } ∷
            [];
        body = block None (all (
            does (evaluates
            (call (head (callees.Row 15) (at 2 5) (Some 0) (Some 0) (Some 0 ∷ Some 1 ∷ [])) (with (held (scalar 0 (at 2 15))) none))) ∷
            []));
        close = at 3 1;
      } ∷
      record {
        name = codes "id";
        parameters = parameter.Value t.Int ∷ [];
        result = Some (parameter.Value t.Int);
        variables = record { kind = sort.Scalar; name = 1; place = at 4 12 } ∷ [];
        body = block None (all (gives_back (Some (held (scalar 0 (at 5 10)))) ∷ []));
        close = at 6 1;
      } ∷
      record {
        name = codes "main";
        parameters = [];
        result = Some (parameter.Value t.Int);
        variables =
            record { kind = sort.Container; name = 0; place = at 8 18 } ∷
            record { kind = sort.Reference; name = 2; place = at 9 8 } ∷
            [];
        body = block (Some 1) (all (
            declares (makes f.List (head (callees.Row 58) (at 8 3) None None [])
            (with (literal t.Int (pos 3)) (with (literal t.Int (pos 1)) (with (literal t.Int (pos 2)) none)))) ∷
            declares (binds_reference (head (callees.Row 68) (at 9 14) None (Some 0) (Some 0 ∷ [])) none) ∷
            does (evaluates (call (head (callees.Row 84) (at 10 5) None (Some 0) (Some 0 ∷ [])) none)) ∷
            does (prints (
            number (held (reference 0 (at 11 16) 2 part.Whole)) ∷
            number (held (element (head (callees.Row 68) (at 11 23) None (Some 0) (Some 0 ∷ [])) none)) ∷
            [])) ∷
            does (evaluates (call (head (callees.Row 85) (at 12 5) None (Some 0) (Some 0 ∷ [])) none)) ∷
            does (prints (number (held (reference 0 (at 13 16) 2 part.Whole)) ∷ [])) ∷
            []));
        close = at 14 1;
      } ∷
      [];
  main = 2;
  sites = at 2 5 ∷ at 14 1 ∷ [];
  loops = [];
  names = codes "v" ∷ codes "x" ∷ codes "r" ∷ [];
  constants = pos 0 ∷ pos 1 ∷ pos 2 ∷ pos 3 ∷ pos 4 ∷ [];
}

reference_list_sorted_under_it_done_ends : run reference_list_sorted_under_it_done [] [] 500 ≡ finish (Done (pos 0)) (codes "313") 0
unfolding digits table
reference_list_sorted_under_it_done_ends = refl

-- random program, funcs: done (4)
-- void f1(std::map<int, int>& m2) {
--   m2.swap(m2);
--   std::map<int, int> m3;
--   std::cout << m3.count(m3[3]) << "\n";
--   m3.emplace(2, 1);
-- }
-- int main() {
--   std::map<int, int> m4;
--   std::map<int, int> m5(m4);
--   f1(m4);
--   f1(m4);
--   f1(m5);
--   m5.clear();
-- }
abbrev pub random_program_funcs_done_4 : Typed
random_program_funcs_done_4 = record {
  functions =
      record {
        name = codes "f1";
        parameters = parameter.Container access.Whole f.Map ∷ [];
        result = None;
        variables =
            record { kind = sort.Container; name = 0; place = at 1 29 } ∷
            record { kind = sort.Container; name = 1; place = at 3 22 } ∷
            [];
        body = block (Some 1) (all (
            does (evaluates (call (head (callees.Row 126) (at 2 6) (Some 0) (Some 0) (Some 0 ∷ Some 0 ∷ [])) (with (container 0) none))) ∷
            declares (makes f.Map (head (callees.Row 112) (at 3 3) None None []) none) ∷
            does (prints (
            number (call (head (callees.Row 128) (at 4 19) None (Some 1) (Some 1 ∷ [])) (with
            (held (element (head (callees.Row 120) (at 4 27) None (Some 1) (Some 1 ∷ [])) (with (literal t.Int (pos 3)) none)))
            none)) ∷
            text (codes "\n") ∷
            [])) ∷
            does (evaluates (call (head (callees.Row 121) (at 5 6) None (Some 1) (Some 1 ∷ []))
            (with (literal t.Int (pos 2)) (with (literal t.Int (pos 1)) none)))) ∷
            []));
        close = at 6 1;
      } ∷
      record {
        name = codes "main";
        parameters = [];
        result = Some (parameter.Value t.Int);
        variables =
            record { kind = sort.Container; name = 2; place = at 8 22 } ∷
            record { kind = sort.Container; name = 3; place = at 9 22 } ∷
            [];
        body = block (Some 3) (all (
            declares (makes f.Map (head (callees.Row 112) (at 8 3) None None []) none) ∷
            declares (makes f.Map (head (callees.Row 113) (at 9 3) None None (None ∷ Some 2 ∷ [])) (with (container 0) none)) ∷
            does (evaluates (own_call 0 (at 10 3) (with (container 0) none))) ∷
            does (evaluates (own_call 0 (at 11 3) (with (container 0) none))) ∷
            does (evaluates (own_call 0 (at 12 3) (with (container 1) none))) ∷
            does (evaluates (call (head (callees.Row 125) (at 13 6) (Some 2) (Some 1) (Some 3 ∷ [])) none)) ∷
            []));
        close = at 14 1;
      } ∷
      [];
  main = 1;
  sites = at 2 6 ∷ at 6 1 ∷ at 13 6 ∷ at 14 1 ∷ [];
  loops = [];
  names = codes "m2" ∷ codes "m3" ∷ codes "m4" ∷ codes "m5" ∷ [];
  constants = pos 0 ∷ pos 1 ∷ pos 2 ∷ pos 3 ∷ pos 4 ∷ [];
}

random_program_funcs_done_4_ends : run random_program_funcs_done_4 (pos 3 ∷ pos 2 ∷ pos 0 ∷ [])
    (1 ∷ 2 ∷ 4294967295 ∷ 0 ∷ 2 ∷ 2 ∷ 3 ∷ 3 ∷ 0 ∷ 1 ∷ 0 ∷ 9 ∷ 4294967295 ∷ 0 ∷ 3 ∷ 0 ∷ 0 ∷ 1 ∷ 2 ∷ 2 ∷ 4294967295 ∷ []) 400
    ≡ finish (Done (pos 0)) (codes "0\n0\n0\n") 0
unfolding digits table
random_program_funcs_done_4_ends = refl

-- query multimap.equal_range(k) 3 all: done
-- int main() {
--   std::multimap<int, int> c;
--   c.emplace(1, 10);
--   c.emplace(2, 20);
--   c.emplace(2, 20);
--   c.emplace(3, 30);
--   for (auto q = c.equal_range(3).first; q != c.equal_range(3).second; ++q) std::cout << q->second << ";";
-- }
abbrev pub query_multimap_equal_range_k_3_all_done : Typed
query_multimap_equal_range_k_3_all_done = record {
  functions =
      record {
        name = codes "main";
        parameters = [];
        result = Some (parameter.Value t.Int);
        variables =
            record { kind = sort.Container; name = 0; place = at 2 27 } ∷
            record { kind = sort.Iterator; name = 1; place = at 7 13 } ∷
            [];
        body = block (Some 0) (all (
            declares (makes f.MultiMap (head (callees.Row 189) (at 2 3) None None []) none) ∷
            does (evaluates (call (head (callees.Row 196) (at 3 5) None (Some 0) (Some 0 ∷ []))
            (with (literal t.Int (pos 1)) (with (literal t.Int (pos 10)) none)))) ∷
            does (evaluates (call (head (callees.Row 196) (at 4 5) None (Some 0) (Some 0 ∷ []))
            (with (literal t.Int (pos 2)) (with (literal t.Int (pos 20)) none)))) ∷
            does (evaluates (call (head (callees.Row 196) (at 5 5) None (Some 0) (Some 0 ∷ []))
            (with (literal t.Int (pos 2)) (with (literal t.Int (pos 20)) none)))) ∷
            does (evaluates (call (head (callees.Row 196) (at 6 5) None (Some 0) (Some 0 ∷ []))
            (with (literal t.Int (pos 3)) (with (literal t.Int (pos 30)) none)))) ∷
            for 0 (declares_first (set_iterator (first (at 7 33)
            (call (head (callees.Row 206) (at 7 19) None (Some 0) (Some 0 ∷ [])) (with (literal t.Int (pos 3)) none))))) (test (call
            (head (callees.Operator (operators.Compare c.NotEqual)) (at 7 43) None None (None ∷ Some 1 ∷ [])) (with (iterator 0) (with (second
            (at 7 62) (call (head (callees.Row 206) (at 7 48) None (Some 0) (Some 0 ∷ [])) (with (literal t.Int (pos 3)) none)))
            none))))
            (Some (evaluates (move Prefix 0 (head (callees.Operator operators.Increment) (at 7 71) None None (None ∷ Some 1 ∷ [])) none))) (does (prints (
            number (held (element (head (callees.Operator operators.ArrowSecond) (at 7 90) None None (None ∷ Some 1 ∷ []))
            (with (iterator 0) none))) ∷
            text (codes ";") ∷
            []))) ∷
            []));
        close = at 8 1;
      } ∷
      [];
  main = 0;
  sites = at 8 1 ∷ [];
  loops = at 7 3 ∷ [];
  names = codes "c" ∷ codes "q" ∷ [];
  constants = pos 0 ∷ pos 1 ∷ pos 2 ∷ pos 3 ∷ pos 4 ∷ pos 9 ∷ pos 10 ∷ pos 11 ∷ pos 19 ∷ pos 20 ∷ pos 21 ∷ pos 29 ∷ pos 30 ∷ pos 31 ∷ [];
}

query_multimap_equal_range_k_3_all_done_ends : run query_multimap_equal_range_k_3_all_done [] [] 500
    ≡ finish (Done (pos 0)) (codes "30;") 0
unfolding digits table
query_multimap_equal_range_k_3_all_done_ends = refl

-- operator -> first of multimap, invalid: trap
-- int main() {
--   std::multimap<int, int> c;
--   c.emplace(1, 10);
--   c.emplace(2, 20);
--   c.emplace(2, 20);
--   c.emplace(3, 30);
--   std::multimap<int, int> w;
--   w.emplace(7, 70);
--   auto it = c.begin();
--   c.erase(it);
--   std::cout << it->first;
-- }
abbrev pub operator_first_of_multimap_invalid_trap : Typed
operator_first_of_multimap_invalid_trap = record {
  functions =
      record {
        name = codes "main";
        parameters = [];
        result = Some (parameter.Value t.Int);
        variables =
            record { kind = sort.Container; name = 0; place = at 2 27 } ∷
            record { kind = sort.Container; name = 1; place = at 7 27 } ∷
            record { kind = sort.Iterator; name = 2; place = at 9 8 } ∷
            [];
        body = block (Some 1) (all (
            declares (makes f.MultiMap (head (callees.Row 189) (at 2 3) None None []) none) ∷
            does (evaluates (call (head (callees.Row 196) (at 3 5) None (Some 0) (Some 0 ∷ []))
            (with (literal t.Int (pos 1)) (with (literal t.Int (pos 10)) none)))) ∷
            does (evaluates (call (head (callees.Row 196) (at 4 5) None (Some 0) (Some 0 ∷ []))
            (with (literal t.Int (pos 2)) (with (literal t.Int (pos 20)) none)))) ∷
            does (evaluates (call (head (callees.Row 196) (at 5 5) None (Some 0) (Some 0 ∷ []))
            (with (literal t.Int (pos 2)) (with (literal t.Int (pos 20)) none)))) ∷
            does (evaluates (call (head (callees.Row 196) (at 6 5) None (Some 0) (Some 0 ∷ []))
            (with (literal t.Int (pos 3)) (with (literal t.Int (pos 30)) none)))) ∷
            declares (makes f.MultiMap (head (callees.Row 189) (at 7 3) None None []) none) ∷
            does (evaluates (call (head (callees.Row 196) (at 8 5) None (Some 1) (Some 1 ∷ []))
            (with (literal t.Int (pos 7)) (with (literal t.Int (pos 70)) none)))) ∷
            declares (set_iterator (call (head (callees.Row 192) (at 9 15) None (Some 0) (Some 0 ∷ [])) none)) ∷
            does (evaluates (call (head (callees.Row 197) (at 10 5) (Some 0) (Some 0) (Some 0 ∷ Some 2 ∷ [])) (with (iterator 0) none))) ∷
            does (prints (
            number (held (element (head (callees.Operator operators.ArrowFirst) (at 11 18) None None (None ∷ Some 2 ∷ []))
            (with (iterator 0) none))) ∷
            [])) ∷
            []));
        close = at 12 1;
      } ∷
      [];
  main = 0;
  sites = at 10 5 ∷ at 12 1 ∷ [];
  loops = [];
  names = codes "c" ∷ codes "w" ∷ codes "it" ∷ [];
  constants =
      pos 0 ∷
      pos 1 ∷
      pos 2 ∷
      pos 3 ∷
      pos 4 ∷
      pos 6 ∷
      pos 7 ∷
      pos 8 ∷
      pos 9 ∷
      pos 10 ∷
      pos 11 ∷
      pos 19 ∷
      pos 20 ∷
      pos 21 ∷
      pos 29 ∷
      pos 30 ∷
      pos 31 ∷
      pos 69 ∷
      pos 70 ∷
      pos 71 ∷
      [];
}

operator_first_of_multimap_invalid_trap_ends : run operator_first_of_multimap_invalid_trap [] [] 500
    ≡ finish (Trapped (trap (at 11 18) 1 (codes "->") 1 (Some 2) (Some 0))) [] 0
unfolding table
operator_first_of_multimap_invalid_trap_ends = refl

-- random program, input: done (22)
-- int main() {
--   std::list<int> l1(2);
--   l1.insert(l1.end(), 4);
--   l1.insert(l1.begin(), 1, 0 + 1);
--   l1.push_front(std::binary_search(l1.begin(), l1.end(), 7));
--   l1.insert(std::upper_bound(l1.begin(), l1.end(), 1), 7);
--   int x2 = -(7 && 4);
-- }
abbrev pub random_program_input_done_22 : Typed
random_program_input_done_22 = record {
  functions =
      record {
        name = codes "main";
        parameters = [];
        result = Some (parameter.Value t.Int);
        variables = record { kind = sort.Container; name = 0; place = at 2 18 } ∷ record { kind = sort.Scalar; name = 1; place = at 7 7 } ∷ [];
        body = block (Some 0) (all (
            declares (makes f.List (head (callees.Row 60) (at 2 3) None None []) (with (convert t.Size (literal t.Int (pos 2))) none)) ∷
            does (evaluates (call (head (callees.Row 74) (at 3 6) None (Some 0) (Some 0 ∷ []))
            (with (call (head (callees.Row 65) (at 3 16) None (Some 0) (Some 0 ∷ [])) none) (with (literal t.Int (pos 4)) none)))) ∷
            does (evaluates (call (head (callees.Row 75) (at 4 6) None (Some 0) (Some 0 ∷ [])) (with
            (call (head (callees.Row 64) (at 4 16) None (Some 0) (Some 0 ∷ [])) none) (with (convert t.Size (literal t.Int (pos 1)))
            (with (arithmetic o.Add t.Int (at 4 30) (literal t.Int (pos 0)) (literal t.Int (pos 1))) none))))) ∷
            does (evaluates (call (head (callees.Row 71) (at 5 6) None (Some 0) (Some 0 ∷ [])) (with (convert t.Int (call
            (head (callees.Row 212) (at 5 17) None None []) (with
            (call (head (callees.Row 64) (at 5 39) None (Some 0) (Some 0 ∷ [])) none) (with
            (call (head (callees.Row 65) (at 5 51) None (Some 0) (Some 0 ∷ [])) none) (with (literal t.Int (pos 7)) none)))))
            none))) ∷
            does (evaluates (call (head (callees.Row 74) (at 6 6) None (Some 0) (Some 0 ∷ [])) (with (call
            (head (callees.Row 211) (at 6 13) None None []) (with
            (call (head (callees.Row 64) (at 6 33) None (Some 0) (Some 0 ∷ [])) none)
            (with (call (head (callees.Row 65) (at 6 45) None (Some 0) (Some 0 ∷ [])) none) (with (literal t.Int (pos 1)) none))))
            (with (literal t.Int (pos 7)) none)))) ∷
            declares (set_scalar t.Int
            (negate t.Int (at 7 12) (convert t.Int (logical_and (at 7 16) (literal t.Int (pos 7)) (literal t.Int (pos 4)))))) ∷
            []));
        close = at 8 1;
      } ∷
      [];
  main = 0;
  sites = at 8 1 ∷ [];
  loops = [];
  names = codes "l1" ∷ codes "x2" ∷ [];
  constants = negsuc 0 ∷ pos 0 ∷ pos 1 ∷ pos 2 ∷ pos 3 ∷ pos 4 ∷ pos 5 ∷ pos 6 ∷ pos 7 ∷ pos 8 ∷ [];
}

random_program_input_done_22_ends : run random_program_input_done_22
    (pos 1 ∷ negsuc 2147483647 ∷ pos 2 ∷ pos 1 ∷ pos 1 ∷ pos 0 ∷ pos 2 ∷ [])
    (0 ∷ 0 ∷ 9 ∷ 0 ∷ 4294967295 ∷ 9 ∷ 0 ∷ 1 ∷ 2 ∷ 9 ∷ 1 ∷ 9 ∷ 9 ∷ 4294967295 ∷ 0 ∷ 9 ∷ 0 ∷ 9 ∷ 4294967295 ∷ 2 ∷ 9 ∷ 1 ∷ []) 400
    ≡ finish (Done (pos 0)) [] 0
unfolding table
random_program_input_done_22_ends = refl

-- hash order of unordered_set by schedule: done (2)
-- int main() {
--   std::unordered_set<int> c;
--   c.insert(3);
--   c.insert(1);
--   c.insert(4);
--   c.insert(1);
--   c.insert(5);
--   for (auto it = c.begin(); it != c.end(); ) {
--     it = c.erase(it);
--     std::cout << c.size();
--   }
--   for (int e : c) std::cout << e << ",";
-- }
abbrev pub hash_order_of_unordered_set_by_schedule_done_2 : Typed
hash_order_of_unordered_set_by_schedule_done_2 = record {
  functions =
      record {
        name = codes "main";
        parameters = [];
        result = Some (parameter.Value t.Int);
        variables =
            record { kind = sort.Container; name = 0; place = at 2 27 } ∷
            record { kind = sort.Iterator; name = 1; place = at 8 13 } ∷
            record { kind = sort.Scalar; name = 2; place = at 12 12 } ∷
            [];
        body = block (Some 6) (all (
            declares (makes f.HashSet (head (callees.Row 131) (at 2 3) None None []) none) ∷
            does (evaluates (call (head (callees.Row 140) (at 3 5) (Some 0) (Some 0) (Some 0 ∷ [])) (with (literal t.Int (pos 3)) none))) ∷
            does (evaluates (call (head (callees.Row 140) (at 4 5) (Some 1) (Some 0) (Some 0 ∷ [])) (with (literal t.Int (pos 1)) none))) ∷
            does (evaluates (call (head (callees.Row 140) (at 5 5) (Some 2) (Some 0) (Some 0 ∷ [])) (with (literal t.Int (pos 4)) none))) ∷
            does (evaluates (call (head (callees.Row 140) (at 6 5) (Some 3) (Some 0) (Some 0 ∷ [])) (with (literal t.Int (pos 1)) none))) ∷
            does (evaluates (call (head (callees.Row 140) (at 7 5) (Some 4) (Some 0) (Some 0 ∷ [])) (with (literal t.Int (pos 5)) none))) ∷
            for 0 (declares_first (set_iterator (call (head (callees.Row 136) (at 8 20) None (Some 0) (Some 0 ∷ [])) none))) (test (call
            (head (callees.Operator (operators.Compare c.NotEqual)) (at 8 32) None None (None ∷ Some 1 ∷ []))
            (with (iterator 0) (with (call (head (callees.Row 137) (at 8 37) None (Some 0) (Some 0 ∷ [])) none) none)))) None (block
            None (all (
            does (moves_to 0
            (call (head (callees.Row 142) (at 9 12) (Some 5) (Some 0) (Some 0 ∷ Some 1 ∷ [])) (with (iterator 0) none))) ∷
            does (prints (number (call (head (callees.Row 138) (at 10 20) None (Some 0) (Some 0 ∷ [])) none) ∷ [])) ∷
            []))) ∷
            range_for 1 taken.Value 0 (at 12 3) 0 (does (prints (number (held (scalar 0 (at 12 32))) ∷ text (codes ",") ∷ []))) ∷
            []));
        close = at 13 1;
      } ∷
      [];
  main = 0;
  sites = at 3 5 ∷ at 4 5 ∷ at 5 5 ∷ at 6 5 ∷ at 7 5 ∷ at 9 12 ∷ at 13 1 ∷ [];
  loops = at 8 3 ∷ at 12 3 ∷ [];
  names = codes "c" ∷ codes "it" ∷ codes "e" ∷ [];
  constants = pos 0 ∷ pos 1 ∷ pos 2 ∷ pos 3 ∷ pos 4 ∷ pos 5 ∷ pos 6 ∷ [];
}

hash_order_of_unordered_set_by_schedule_done_2_ends : run hash_order_of_unordered_set_by_schedule_done_2 []
    (0 ∷ 4 ∷ 4 ∷ 0 ∷ 0 ∷ 7 ∷ 0 ∷ 4294967295 ∷ 0 ∷ 1 ∷ 7 ∷ 0 ∷ 4 ∷ []) 500
    ≡ finish (Done (pos 0)) (codes "3210") 0
unfolding digits table
hash_order_of_unordered_set_by_schedule_done_2_ends = refl

-- random program, straight: done (14)
-- int main() {
--   std::multimap<int, int> mm1;
--   int x2 = mm1.empty();
--   ++x2;
--   int x3 = ((mm1.size() < 4) + x2);
--   std::cout << "a" << (x2 == 0) << std::endl;
--   mm1.erase(4);
--   auto it4 = mm1.upper_bound(2);
--   int x6 = mm1.size();
--   mm1.erase(x3);
--   std::multimap<int, int> mm7(mm1);
-- }
abbrev pub random_program_straight_done_14 : Typed
random_program_straight_done_14 = record {
  functions =
      record {
        name = codes "main";
        parameters = [];
        result = Some (parameter.Value t.Int);
        variables =
            record { kind = sort.Container; name = 0; place = at 2 27 } ∷
            record { kind = sort.Scalar; name = 1; place = at 3 7 } ∷
            record { kind = sort.Scalar; name = 2; place = at 5 7 } ∷
            record { kind = sort.Iterator; name = 3; place = at 8 8 } ∷
            record { kind = sort.Scalar; name = 4; place = at 9 7 } ∷
            record { kind = sort.Container; name = 5; place = at 11 27 } ∷
            [];
        body = block (Some 2) (all (
            declares (makes f.MultiMap (head (callees.Row 189) (at 2 3) None None []) none) ∷
            declares (set_scalar t.Int (convert t.Int (call (head (callees.Row 195) (at 3 16) None (Some 0) (Some 0 ∷ [])) none))) ∷
            does (evaluates (increment Up Prefix t.Int (at 4 3) (scalar 0 (at 4 5)))) ∷
            declares (set_scalar t.Int (arithmetic o.Add t.Int (at 5 30) (convert t.Int (comparison c.Less (at 5 25)
            (call (head (callees.Row 194) (at 5 18) None (Some 0) (Some 0 ∷ [])) none) (convert t.Size (literal t.Int (pos 4)))))
            (held (scalar 0 (at 5 32))))) ∷
            does (prints (
            text (codes "a") ∷
            number (comparison c.Equal (at 6 27) (held (scalar 0 (at 6 24))) (literal t.Int (pos 0))) ∷
            endline ∷
            [])) ∷
            does (evaluates (call (head (callees.Row 199) (at 7 7) (Some 0) (Some 0) (Some 0 ∷ [])) (with (literal t.Int (pos 4)) none))) ∷
            declares
            (set_iterator (call (head (callees.Row 205) (at 8 18) None (Some 0) (Some 0 ∷ [])) (with (literal t.Int (pos 2)) none))) ∷
            declares (set_scalar t.Int (convert t.Int (call (head (callees.Row 194) (at 9 16) None (Some 0) (Some 0 ∷ [])) none))) ∷
            does (evaluates
            (call (head (callees.Row 199) (at 10 7) (Some 1) (Some 0) (Some 0 ∷ Some 2 ∷ [])) (with (held (scalar 1 (at 10 13))) none))) ∷
            declares (makes f.MultiMap (head (callees.Row 190) (at 11 3) None None (None ∷ Some 0 ∷ [])) (with (container 0) none)) ∷
            []));
        close = at 12 1;
      } ∷
      [];
  main = 0;
  sites = at 7 7 ∷ at 10 7 ∷ at 12 1 ∷ [];
  loops = [];
  names = codes "mm1" ∷ codes "x2" ∷ codes "x3" ∷ codes "it4" ∷ codes "x6" ∷ codes "mm7" ∷ [];
  constants = negsuc 0 ∷ pos 0 ∷ pos 1 ∷ pos 2 ∷ pos 3 ∷ pos 4 ∷ pos 5 ∷ [];
}

random_program_straight_done_14_ends : run random_program_straight_done_14 (pos 2 ∷ []) (0 ∷ 9 ∷ 1 ∷ 4294967295 ∷ 1 ∷ 3 ∷ 2 ∷ []) 40
    ≡ finish (Done (pos 0)) (codes "a0\n") 0
unfolding digits table
random_program_straight_done_14_ends = refl

-- random program, input: done (27)
-- int main() {
--   std::unordered_map<int, int> um1;
--   um1.erase(5);
--   um1.clear();
--   um1.erase(10 == 0);
--   std::multiset<int> ms2{2, 1, 4, 5};
--   std::multiset<int> ms3{};
--   std::unordered_map<int, int> um4 = um1;
--   std::multiset<int> ms6 = ms2;
--   int& r7 = um4[2];
--   ms3.insert(r7);
-- }
abbrev pub random_program_input_done_27 : Typed
random_program_input_done_27 = record {
  functions =
      record {
        name = codes "main";
        parameters = [];
        result = Some (parameter.Value t.Int);
        variables =
            record { kind = sort.Container; name = 0; place = at 2 32 } ∷
            record { kind = sort.Container; name = 1; place = at 6 22 } ∷
            record { kind = sort.Container; name = 2; place = at 7 22 } ∷
            record { kind = sort.Container; name = 3; place = at 8 32 } ∷
            record { kind = sort.Container; name = 4; place = at 9 22 } ∷
            record { kind = sort.Reference; name = 5; place = at 10 8 } ∷
            [];
        body = block (Some 4) (all (
            declares (makes f.HashMap (head (callees.Row 150) (at 2 3) None None []) none) ∷
            does (evaluates (call (head (callees.Row 162) (at 3 7) (Some 0) (Some 0) (Some 0 ∷ [])) (with (literal t.Int (pos 5)) none))) ∷
            does (evaluates (call (head (callees.Row 163) (at 4 7) (Some 1) (Some 0) (Some 0 ∷ [])) none)) ∷
            does (evaluates (call (head (callees.Row 162) (at 5 7) (Some 2) (Some 0) (Some 0 ∷ []))
            (with (convert t.Int (comparison c.Equal (at 5 16) (literal t.Int (pos 10)) (literal t.Int (pos 0)))) none))) ∷
            declares (makes f.MultiSet (head (callees.Row 170) (at 6 3) None None []) (with (literal t.Int (pos 2))
            (with (literal t.Int (pos 1)) (with (literal t.Int (pos 4)) (with (literal t.Int (pos 5)) none))))) ∷
            declares (makes f.MultiSet (head (callees.Row 168) (at 7 3) None None []) none) ∷
            declares (makes f.HashMap (head (callees.Row 151) (at 8 3) None None (None ∷ Some 0 ∷ [])) (with (container 0) none)) ∷
            declares (makes f.MultiSet (head (callees.Row 169) (at 9 3) None None (None ∷ Some 1 ∷ [])) (with (container 1) none)) ∷
            declares
            (binds_reference (head (callees.Row 158) (at 10 16) (Some 3) (Some 3) (Some 3 ∷ [])) (with (literal t.Int (pos 2)) none)) ∷
            does (evaluates (call (head (callees.Row 177) (at 11 7) None (Some 2) (Some 2 ∷ Some 5 ∷ []))
            (with (held (reference 0 (at 11 14) 5 part.Whole)) none))) ∷
            []));
        close = at 12 1;
      } ∷
      [];
  main = 0;
  sites = at 3 7 ∷ at 4 7 ∷ at 5 7 ∷ at 10 16 ∷ at 12 1 ∷ [];
  loops = [];
  names = codes "um1" ∷ codes "ms2" ∷ codes "ms3" ∷ codes "um4" ∷ codes "ms6" ∷ codes "r7" ∷ [];
  constants = negsuc 0 ∷ pos 0 ∷ pos 1 ∷ pos 2 ∷ pos 3 ∷ pos 4 ∷ pos 5 ∷ pos 6 ∷ pos 9 ∷ pos 10 ∷ pos 11 ∷ [];
}

random_program_input_done_27_ends : run random_program_input_done_27 (pos 2 ∷ [])
    (0 ∷ 0 ∷ 1 ∷ 3 ∷ 0 ∷ 0 ∷ 2 ∷ 0 ∷ 2 ∷ 3 ∷ 1 ∷ 0 ∷ 3 ∷ 2 ∷ 0 ∷ 0 ∷ 4294967295 ∷ []) 400
    ≡ finish (Done (pos 0)) [] 0
unfolding table
random_program_input_done_27_ends = refl

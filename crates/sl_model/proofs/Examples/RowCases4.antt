-- Closed runs of texts, each made of a C++ text and its end and output by tools/run_goal.py; the texts and ends are not this program's own answers.
use Rattle.sl_base.specs.declared.scalar.Scalar.TheVariants as t
use Rattle.sl_base.specs.declared.form.Form.TheVariants as f
use Rattle.sl_syntax.specs.declared.operator.Arithmetic.TheVariants as o
use Rattle.sl_syntax.specs.declared.operator.Comparison.TheVariants as c
use Rattle.sl_syntax.specs.declared.typed.callee.Callee.TheVariants as callees
use Rattle.sl_syntax.specs.declared.typed.element.ElementPart.TheVariants as part
use Rattle.sl_syntax.specs.declared.typed.element.Taken.TheVariants as taken
use Rattle.sl_syntax.specs.declared.typed.operator.Operator.TheVariants as operators
use Rattle.sl_syntax.specs.declared.typed.parameter.ParameterKind.TheVariants as parameter
use Rattle.sl_syntax.specs.declared.typed.variable.VariableKind.TheVariants as sort
use Rattle.std.specs.Prelude.{◌≡◌, refl, [], ◌∷◌, Some, None, pos, negsuc, codes}
use Rattle.std.specs.Fmt.{digits}
use Rattle.sl_syntax.specs.Typed.{literal, held, iterator, convert, negate, logical_and, arithmetic, comparison, call, second, container}
use Rattle.sl_syntax.specs.Typed.{reference, element, none, with, test, text, endline, number, prints, evaluates, assigns, unset_scalar}
use Rattle.sl_syntax.specs.Typed.{set_scalar, set_iterator, binds_reference, makes, block, declares, choice_else, range_for, does, Typed}
use Rattle.sl_specs.specs.Table.{table}
use Rattle.sl_model.specs.Runs.Ends.{Done, Trapped}
use Rattle.sl_model.specs.Runs.Run.{run}
use Rattle.sl_model.proofs.Examples.Short.{at, head, all, finish, trap}

-- random program, straight: done (7)
-- int main() {
--   std::multimap<int, int> mm1;
--   mm1.swap(mm1);
--   std::vector<int> v2;
--   std::size_t x3 = std::count(v2.begin(), v2.end(), 4);
--   std::cout << ((4 == v2.size())) << ' ';
--   std::vector<int> v4 = {2, 4, 5};
-- }
abbrev pub random_program_straight_done_7 : Typed
random_program_straight_done_7 = record {
  functions =
      record {
        name = codes "main";
        parameters = [];
        result = Some (parameter.Value t.Int);
        variables =
            record { kind = sort.Container; name = 0; place = at 2 27 } ∷
            record { kind = sort.Container; name = 1; place = at 4 20 } ∷
            record { kind = sort.Scalar; name = 2; place = at 5 15 } ∷
            record { kind = sort.Container; name = 3; place = at 7 20 } ∷
            [];
        body = block (Some 1) (all (
            declares (makes f.MultiMap (head (callees.Row 189) (at 2 3) None None []) none) ∷
            does (evaluates (call (head (callees.Row 201) (at 3 7) (Some 0) (Some 0) (Some 0 ∷ Some 0 ∷ [])) (with (container 0) none))) ∷
            declares (makes f.Vector (head (callees.Row 0) (at 4 3) None None []) none) ∷
            declares (set_scalar t.Size (convert t.Size (call (head (callees.Row 208) (at 5 20) None None []) (with
            (call (head (callees.Row 7) (at 5 34) None (Some 1) (Some 1 ∷ [])) none)
            (with (call (head (callees.Row 8) (at 5 46) None (Some 1) (Some 1 ∷ [])) none) (with (literal t.Int (pos 4)) none)))))) ∷
            does (prints (
            number (comparison c.Equal (at 6 20) (convert t.Size (literal t.Int (pos 4)))
            (call (head (callees.Row 9) (at 6 26) None (Some 1) (Some 1 ∷ [])) none)) ∷
            text (codes " ") ∷
            [])) ∷
            declares (makes f.Vector (head (callees.Row 1) (at 7 3) None None [])
            (with (literal t.Int (pos 2)) (with (literal t.Int (pos 4)) (with (literal t.Int (pos 5)) none)))) ∷
            []));
        close = at 8 1;
      } ∷
      [];
  main = 0;
  sites = at 3 7 ∷ at 8 1 ∷ [];
  loops = [];
  names = codes "mm1" ∷ codes "v2" ∷ codes "x3" ∷ codes "v4" ∷ [];
  constants = pos 0 ∷ pos 1 ∷ pos 2 ∷ pos 3 ∷ pos 4 ∷ pos 5 ∷ pos 6 ∷ [];
}

random_program_straight_done_7_ends : run random_program_straight_done_7 (pos 3 ∷ negsuc 2147483647 ∷ pos 2 ∷ [])
    (4294967295 ∷ 3 ∷ 4294967295 ∷ 4294967295 ∷ 0 ∷ 3 ∷ 0 ∷ 1 ∷ 3 ∷ 3 ∷ 2 ∷ 3 ∷ 2 ∷ 2 ∷ 1 ∷ 4294967295 ∷ []) 40
    ≡ finish (Done (pos 0)) (codes "0 ") 0
unfolding digits table
random_program_straight_done_7_ends = refl

-- random program, branch: done (9)
-- int main() {
--   std::vector<int> v1;
--   v1.erase(std::remove(v1.begin(), v1.end(), 2), v1.end());
--   int x3;
--   v1.insert(v1.end(), 10);
--   auto it4 = std::next(v1.begin());
--   v1.pop_back();
-- }
abbrev pub random_program_branch_done_9 : Typed
random_program_branch_done_9 = record {
  functions =
      record {
        name = codes "main";
        parameters = [];
        result = Some (parameter.Value t.Int);
        variables =
            record { kind = sort.Container; name = 0; place = at 2 20 } ∷
            record { kind = sort.Scalar; name = 1; place = at 4 7 } ∷
            record { kind = sort.Iterator; name = 2; place = at 6 8 } ∷
            [];
        body = block (Some 3) (all (
            declares (makes f.Vector (head (callees.Row 0) (at 2 3) None None []) none) ∷
            does (evaluates (call (head (callees.Row 21) (at 3 6) (Some 0) (Some 0) (Some 0 ∷ [])) (with (call
            (head (callees.Row 222) (at 3 12) None None []) (with
            (call (head (callees.Row 7) (at 3 27) None (Some 0) (Some 0 ∷ [])) none)
            (with (call (head (callees.Row 8) (at 3 39) None (Some 0) (Some 0 ∷ [])) none) (with (literal t.Int (pos 2)) none))))
            (with (call (head (callees.Row 8) (at 3 53) None (Some 0) (Some 0 ∷ [])) none) none)))) ∷
            declares (unset_scalar t.Int) ∷
            does (evaluates (call (head (callees.Row 17) (at 5 6) (Some 1) (Some 0) (Some 0 ∷ []))
            (with (call (head (callees.Row 8) (at 5 16) None (Some 0) (Some 0 ∷ [])) none) (with (literal t.Int (pos 10)) none)))) ∷
            declares (set_iterator (call (head (callees.Row 226) (at 6 14) None None [])
            (with (call (head (callees.Row 7) (at 6 27) None (Some 0) (Some 0 ∷ [])) none) none))) ∷
            does (evaluates (call (head (callees.Row 16) (at 7 6) (Some 2) (Some 0) (Some 0 ∷ [])) none)) ∷
            []));
        close = at 8 1;
      } ∷
      [];
  main = 0;
  sites = at 3 6 ∷ at 5 6 ∷ at 7 6 ∷ at 8 1 ∷ [];
  loops = [];
  names = codes "v1" ∷ codes "x3" ∷ codes "it4" ∷ [];
  constants = pos 0 ∷ pos 1 ∷ pos 2 ∷ pos 3 ∷ pos 9 ∷ pos 10 ∷ pos 11 ∷ [];
}

random_program_branch_done_9_ends : run random_program_branch_done_9 (pos 2147483647 ∷ negsuc 2147483647 ∷ pos 0 ∷ pos 0 ∷ [])
    (0 ∷ 1 ∷ 9 ∷ 1 ∷ 0 ∷ 9 ∷ 1 ∷ 2 ∷ 4294967295 ∷ 4294967295 ∷ 9 ∷ 2 ∷ 0 ∷ 0 ∷ 1 ∷ 1 ∷ 3 ∷ 2 ∷ 9 ∷ 1 ∷ []) 40
    ≡ finish (Done (pos 0)) [] 0
unfolding table
random_program_branch_done_9_ends = refl

-- random program, straight: done (11)
-- int main() {
--   std::vector<int> v1;
--   auto it2 = std::lower_bound(v1.begin(), v1.end(), 5);
--   std::deque<int> d3{10, 4, 0, 2};
--   d3.swap(d3);
--   std::deque<int> d4{2, 2};
--   v1.clear();
-- }
abbrev pub random_program_straight_done_11 : Typed
random_program_straight_done_11 = record {
  functions =
      record {
        name = codes "main";
        parameters = [];
        result = Some (parameter.Value t.Int);
        variables =
            record { kind = sort.Container; name = 0; place = at 2 20 } ∷
            record { kind = sort.Iterator; name = 1; place = at 3 8 } ∷
            record { kind = sort.Container; name = 2; place = at 4 19 } ∷
            record { kind = sort.Container; name = 3; place = at 6 19 } ∷
            [];
        body = block (Some 2) (all (
            declares (makes f.Vector (head (callees.Row 0) (at 2 3) None None []) none) ∷
            declares (set_iterator (call (head (callees.Row 210) (at 3 14) None None []) (with
            (call (head (callees.Row 7) (at 3 34) None (Some 0) (Some 0 ∷ [])) none)
            (with (call (head (callees.Row 8) (at 3 46) None (Some 0) (Some 0 ∷ [])) none) (with (literal t.Int (pos 5)) none))))) ∷
            declares (makes f.Deque (head (callees.Row 29) (at 4 3) None None []) (with (literal t.Int (pos 10))
            (with (literal t.Int (pos 4)) (with (literal t.Int (pos 0)) (with (literal t.Int (pos 2)) none))))) ∷
            does (evaluates (call (head (callees.Row 56) (at 5 6) (Some 0) (Some 1) (Some 2 ∷ Some 2 ∷ [])) (with (container 1) none))) ∷
            declares (makes f.Deque (head (callees.Row 29) (at 6 3) None None [])
            (with (literal t.Int (pos 2)) (with (literal t.Int (pos 2)) none))) ∷
            does (evaluates (call (head (callees.Row 22) (at 7 6) (Some 1) (Some 0) (Some 0 ∷ [])) none)) ∷
            []));
        close = at 8 1;
      } ∷
      [];
  main = 0;
  sites = at 5 6 ∷ at 7 6 ∷ at 8 1 ∷ [];
  loops = [];
  names = codes "v1" ∷ codes "it2" ∷ codes "d3" ∷ codes "d4" ∷ [];
  constants = negsuc 0 ∷ pos 0 ∷ pos 1 ∷ pos 2 ∷ pos 3 ∷ pos 4 ∷ pos 5 ∷ pos 6 ∷ pos 9 ∷ pos 10 ∷ pos 11 ∷ [];
}

random_program_straight_done_11_ends : run random_program_straight_done_11 (negsuc 0 ∷ pos 0 ∷ pos 3 ∷ pos 2 ∷ [])
    (0 ∷ 3 ∷ 1 ∷ 3 ∷ 0 ∷ 2 ∷ 4294967295 ∷ 0 ∷ 1 ∷ 4294967295 ∷ 0 ∷ 0 ∷ 0 ∷ []) 400
    ≡ finish (Done (pos 0)) [] 0
unfolding table
random_program_straight_done_11_ends = refl

-- random program, input: done (33)
-- int main() {
--   std::multiset<int> ms1;
--   ms1.erase(ms1.begin(), ms1.equal_range(0).second);
--   std::deque<int> d2 = {2, 2, 2};
--   std::sort(d2.begin(), d2.end());
--   std::cout << ms1.count(0) << ' ';
--   int& r4 = d2.front();
-- }
abbrev pub random_program_input_done_33 : Typed
random_program_input_done_33 = record {
  functions =
      record {
        name = codes "main";
        parameters = [];
        result = Some (parameter.Value t.Int);
        variables =
            record { kind = sort.Container; name = 0; place = at 2 22 } ∷
            record { kind = sort.Container; name = 1; place = at 4 19 } ∷
            record { kind = sort.Reference; name = 2; place = at 7 8 } ∷
            [];
        body = block (Some 1) (all (
            declares (makes f.MultiSet (head (callees.Row 168) (at 2 3) None None []) none) ∷
            does (evaluates (call (head (callees.Row 180) (at 3 7) (Some 0) (Some 0) (Some 0 ∷ [])) (with
            (call (head (callees.Row 173) (at 3 17) None (Some 0) (Some 0 ∷ [])) none) (with (second (at 3 44)
            (call (head (callees.Row 188) (at 3 30) None (Some 0) (Some 0 ∷ [])) (with (literal t.Int (pos 0)) none))) none)))) ∷
            declares (makes f.Deque (head (callees.Row 29) (at 4 3) None None [])
            (with (literal t.Int (pos 2)) (with (literal t.Int (pos 2)) (with (literal t.Int (pos 2)) none)))) ∷
            does (evaluates (call (head (callees.Row 209) (at 5 3) None None []) (with
            (call (head (callees.Row 35) (at 5 16) None (Some 1) (Some 1 ∷ [])) none)
            (with (call (head (callees.Row 36) (at 5 28) None (Some 1) (Some 1 ∷ [])) none) none)))) ∷
            does (prints (
            number (call (head (callees.Row 185) (at 6 20) None (Some 0) (Some 0 ∷ [])) (with (literal t.Int (pos 0)) none)) ∷
            text (codes " ") ∷
            [])) ∷
            declares (binds_reference (head (callees.Row 39) (at 7 16) None (Some 1) (Some 1 ∷ [])) none) ∷
            []));
        close = at 8 1;
      } ∷
      [];
  main = 0;
  sites = at 3 7 ∷ at 8 1 ∷ [];
  loops = [];
  names = codes "ms1" ∷ codes "d2" ∷ codes "r4" ∷ [];
  constants = negsuc 0 ∷ pos 0 ∷ pos 1 ∷ pos 2 ∷ pos 3 ∷ [];
}

random_program_input_done_33_ends : run random_program_input_done_33 (negsuc 0 ∷ pos 5 ∷ pos 3 ∷ [])
    (0 ∷ 4294967295 ∷ 3 ∷ 4294967295 ∷ 3 ∷ 4294967295 ∷ 1 ∷ 2 ∷ 4294967295 ∷ 0 ∷ 0 ∷ 0 ∷ []) 400
    ≡ finish (Done (pos 0)) (codes "0 ") 0
unfolding digits table
random_program_input_done_33_ends = refl

-- random program, branch: done (2)
-- int main() {
--   std::unordered_set<int> us1{1};
--   std::vector<int> v3 = {1, 2, 5, 7};
--   auto it4 = us1.end();
--   std::size_t x5 = std::distance(us1.begin(), it4);
--   us1.erase(us1.begin());
--   us1.erase(it4, it4);
-- }
abbrev pub random_program_branch_done_2 : Typed
random_program_branch_done_2 = record {
  functions =
      record {
        name = codes "main";
        parameters = [];
        result = Some (parameter.Value t.Int);
        variables =
            record { kind = sort.Container; name = 0; place = at 2 27 } ∷
            record { kind = sort.Container; name = 1; place = at 3 20 } ∷
            record { kind = sort.Iterator; name = 2; place = at 4 8 } ∷
            record { kind = sort.Scalar; name = 3; place = at 5 15 } ∷
            [];
        body = block (Some 2) (all (
            declares (makes f.HashSet (head (callees.Row 132) (at 2 3) None None []) (with (literal t.Int (pos 1)) none)) ∷
            declares (makes f.Vector (head (callees.Row 1) (at 3 3) None None []) (with (literal t.Int (pos 1))
            (with (literal t.Int (pos 2)) (with (literal t.Int (pos 5)) (with (literal t.Int (pos 7)) none))))) ∷
            declares (set_iterator (call (head (callees.Row 137) (at 4 18) None (Some 0) (Some 0 ∷ [])) none)) ∷
            declares (set_scalar t.Size (convert t.Size (call (head (callees.Row 224) (at 5 20) None None (None ∷ None ∷ Some 2 ∷ []))
            (with (call (head (callees.Row 136) (at 5 38) None (Some 0) (Some 0 ∷ [])) none) (with (iterator 0) none))))) ∷
            does (evaluates (call (head (callees.Row 142) (at 6 7) (Some 0) (Some 0) (Some 0 ∷ []))
            (with (call (head (callees.Row 136) (at 6 17) None (Some 0) (Some 0 ∷ [])) none) none))) ∷
            does (evaluates (call (head (callees.Row 143) (at 7 7) (Some 1) (Some 0) (Some 0 ∷ Some 2 ∷ Some 2 ∷ []))
            (with (iterator 0) (with (iterator 0) none)))) ∷
            []));
        close = at 8 1;
      } ∷
      [];
  main = 0;
  sites = at 6 7 ∷ at 7 7 ∷ at 8 1 ∷ [];
  loops = [];
  names = codes "us1" ∷ codes "v3" ∷ codes "it4" ∷ codes "x5" ∷ [];
  constants = pos 0 ∷ pos 1 ∷ pos 2 ∷ pos 3 ∷ pos 4 ∷ pos 5 ∷ pos 6 ∷ pos 7 ∷ pos 8 ∷ [];
}

random_program_branch_done_2_ends : run random_program_branch_done_2 (pos 2147483647 ∷ []) (
    2 ∷
    9 ∷
    1 ∷
    0 ∷
    1 ∷
    0 ∷
    0 ∷
    9 ∷
    0 ∷
    4294967295 ∷
    9 ∷
    0 ∷
    2 ∷
    0 ∷
    0 ∷
    0 ∷
    9 ∷
    2 ∷
    3 ∷
    4294967295 ∷
    3 ∷
    1 ∷
    2 ∷
    1 ∷
    9 ∷
    0 ∷
    0 ∷
    1 ∷
    4294967295 ∷
    []) 400
    ≡ finish (Done (pos 0)) [] 0
unfolding table
random_program_branch_done_2_ends = refl

-- random program, input: done (14)
-- int main() {
--   std::multimap<int, int> mm1;
--   mm1 = mm1;
--   int x2 = -mm1.count(mm1.size());
--   std::cout << "a" << mm1.size() << std::endl;
--   std::cout << 7 + mm1.count(3) << "\n";
--   mm1.erase(mm1.lower_bound(2), mm1.find(2));
-- }
abbrev pub random_program_input_done_14 : Typed
random_program_input_done_14 = record {
  functions =
      record {
        name = codes "main";
        parameters = [];
        result = Some (parameter.Value t.Int);
        variables = record { kind = sort.Container; name = 0; place = at 2 27 } ∷ record { kind = sort.Scalar; name = 1; place = at 4 7 } ∷ [];
        body = block (Some 2) (all (
            declares (makes f.MultiMap (head (callees.Row 189) (at 2 3) None None []) none) ∷
            does (evaluates (call (head (callees.Row 191) (at 3 7) (Some 0) (Some 0) (Some 0 ∷ Some 0 ∷ [])) (with (container 0) none))) ∷
            declares (set_scalar t.Int (convert t.Int (negate t.Size (at 4 12) (call
            (head (callees.Row 203) (at 4 17) None (Some 0) (Some 0 ∷ []))
            (with (convert t.Int (call (head (callees.Row 194) (at 4 27) None (Some 0) (Some 0 ∷ [])) none)) none))))) ∷
            does
            (prints (text (codes "a") ∷ number (call (head (callees.Row 194) (at 5 27) None (Some 0) (Some 0 ∷ [])) none) ∷ endline ∷ [])) ∷
            does (prints (
            number (arithmetic o.Add t.Size (at 6 18) (convert t.Size (literal t.Int (pos 7)))
            (call (head (callees.Row 203) (at 6 24) None (Some 0) (Some 0 ∷ [])) (with (literal t.Int (pos 3)) none))) ∷
            text (codes "\n") ∷
            [])) ∷
            does (evaluates (call (head (callees.Row 198) (at 7 7) (Some 1) (Some 0) (Some 0 ∷ [])) (with
            (call (head (callees.Row 204) (at 7 17) None (Some 0) (Some 0 ∷ [])) (with (literal t.Int (pos 2)) none))
            (with (call (head (callees.Row 202) (at 7 37) None (Some 0) (Some 0 ∷ [])) (with (literal t.Int (pos 2)) none)) none)))) ∷
            []));
        close = at 8 1;
      } ∷
      [];
  main = 0;
  sites = at 3 7 ∷ at 7 7 ∷ at 8 1 ∷ [];
  loops = [];
  names = codes "mm1" ∷ codes "x2" ∷ [];
  constants = pos 0 ∷ pos 1 ∷ pos 2 ∷ pos 3 ∷ pos 4 ∷ pos 6 ∷ pos 7 ∷ pos 8 ∷ [];
}

random_program_input_done_14_ends : run random_program_input_done_14 (negsuc 0 ∷ pos 2 ∷ negsuc 2147483647 ∷ []) (1 ∷ 1 ∷ 3 ∷ 9 ∷ []) 400
    ≡ finish (Done (pos 0)) (codes "a0\n7\n") 0
unfolding digits table
random_program_input_done_14_ends = refl

-- random program, straight: trap (6)
-- int main() {
--   std::list<int> l1(10, 1);
--   std::fill(l1.begin(), l1.end(), 3);
--   l1.merge(l1);
--   int x2 = *l1.begin();
--   l1.reverse();
--   l1.erase(std::prev(l1.begin()), l1.begin());
-- }
abbrev pub random_program_straight_trap_6 : Typed
random_program_straight_trap_6 = record {
  functions =
      record {
        name = codes "main";
        parameters = [];
        result = Some (parameter.Value t.Int);
        variables = record { kind = sort.Container; name = 0; place = at 2 18 } ∷ record { kind = sort.Scalar; name = 1; place = at 5 7 } ∷ [];
        body = block (Some 1) (all (
            declares (makes f.List (head (callees.Row 61) (at 2 3) None None [])
            (with (convert t.Size (literal t.Int (pos 10))) (with (literal t.Int (pos 1)) none))) ∷
            does (evaluates (call (head (callees.Row 219) (at 3 3) None None []) (with
            (call (head (callees.Row 64) (at 3 16) None (Some 0) (Some 0 ∷ [])) none)
            (with (call (head (callees.Row 65) (at 3 28) None (Some 0) (Some 0 ∷ [])) none) (with (literal t.Int (pos 3)) none))))) ∷
            does (evaluates (call (head (callees.Row 88) (at 4 6) None (Some 0) (Some 0 ∷ Some 0 ∷ [])) (with (container 0) none))) ∷
            declares (set_scalar t.Int (held (element (head (callees.Operator operators.Dereference) (at 5 12) None None [])
            (with (call (head (callees.Row 64) (at 5 16) None (Some 0) (Some 0 ∷ [])) none) none)))) ∷
            does (evaluates (call (head (callees.Row 85) (at 6 6) None (Some 0) (Some 0 ∷ [])) none)) ∷
            does (evaluates (call (head (callees.Row 78) (at 7 6) (Some 0) (Some 0) (Some 0 ∷ [])) (with (call
            (head (callees.Row 227) (at 7 12) None None [])
            (with (call (head (callees.Row 64) (at 7 25) None (Some 0) (Some 0 ∷ [])) none) none))
            (with (call (head (callees.Row 64) (at 7 38) None (Some 0) (Some 0 ∷ [])) none) none)))) ∷
            []));
        close = at 8 1;
      } ∷
      [];
  main = 0;
  sites = at 7 6 ∷ at 8 1 ∷ [];
  loops = [];
  names = codes "l1" ∷ codes "x2" ∷ [];
  constants = pos 0 ∷ pos 1 ∷ pos 2 ∷ pos 3 ∷ pos 4 ∷ pos 9 ∷ pos 10 ∷ pos 11 ∷ [];
}

random_program_straight_trap_6_ends : run random_program_straight_trap_6 (pos 5 ∷ []) (0 ∷ 0 ∷ 3 ∷ 2 ∷ 4294967295 ∷ 1 ∷ 4294967295 ∷ []) 40
    ≡ finish (Trapped (trap (at 7 12) 5 (codes "prev") 1 None None)) [] 0
unfolding table
random_program_straight_trap_6_ends = refl

-- hash order of unordered_map by schedule: done
-- int main() {
--   std::unordered_map<int, int> c;
--   c.emplace(3, 1);
--   c.emplace(1, 1);
--   c.emplace(4, 1);
--   c.emplace(1, 1);
--   c.emplace(5, 1);
--   c = c;
--   for (const auto& e : c) std::cout << e.first << ":" << e.second << ",";
-- }
abbrev pub hash_order_of_unordered_map_by_schedule_done : Typed
hash_order_of_unordered_map_by_schedule_done = record {
  functions =
      record {
        name = codes "main";
        parameters = [];
        result = Some (parameter.Value t.Int);
        variables =
            record { kind = sort.Container; name = 0; place = at 2 32 } ∷
            record { kind = sort.Reference; name = 1; place = at 9 20 } ∷
            [];
        body = block (Some 6) (all (
            declares (makes f.HashMap (head (callees.Row 150) (at 2 3) None None []) none) ∷
            does (evaluates (call (head (callees.Row 159) (at 3 5) (Some 0) (Some 0) (Some 0 ∷ []))
            (with (literal t.Int (pos 3)) (with (literal t.Int (pos 1)) none)))) ∷
            does (evaluates (call (head (callees.Row 159) (at 4 5) (Some 1) (Some 0) (Some 0 ∷ []))
            (with (literal t.Int (pos 1)) (with (literal t.Int (pos 1)) none)))) ∷
            does (evaluates (call (head (callees.Row 159) (at 5 5) (Some 2) (Some 0) (Some 0 ∷ []))
            (with (literal t.Int (pos 4)) (with (literal t.Int (pos 1)) none)))) ∷
            does (evaluates (call (head (callees.Row 159) (at 6 5) (Some 3) (Some 0) (Some 0 ∷ []))
            (with (literal t.Int (pos 1)) (with (literal t.Int (pos 1)) none)))) ∷
            does (evaluates (call (head (callees.Row 159) (at 7 5) (Some 4) (Some 0) (Some 0 ∷ []))
            (with (literal t.Int (pos 5)) (with (literal t.Int (pos 1)) none)))) ∷
            does (evaluates (call (head (callees.Row 152) (at 8 5) (Some 5) (Some 0) (Some 0 ∷ Some 0 ∷ [])) (with (container 0) none))) ∷
            range_for 0 taken.Reference 0 (at 9 3) 0 (does (prints (
            number (held (reference 2 (at 9 40) 1 part.First)) ∷
            text (codes ":") ∷
            number (held (reference 2 (at 9 58) 1 part.Second)) ∷
            text (codes ",") ∷
            []))) ∷
            []));
        close = at 10 1;
      } ∷
      [];
  main = 0;
  sites = at 3 5 ∷ at 4 5 ∷ at 5 5 ∷ at 6 5 ∷ at 7 5 ∷ at 8 5 ∷ at 10 1 ∷ [];
  loops = at 9 3 ∷ [];
  names = codes "c" ∷ codes "e" ∷ [];
  constants = pos 0 ∷ pos 1 ∷ pos 2 ∷ pos 3 ∷ pos 4 ∷ pos 5 ∷ pos 6 ∷ [];
}

hash_order_of_unordered_map_by_schedule_done_ends : run hash_order_of_unordered_map_by_schedule_done []
    (1 ∷ 7 ∷ 4294967295 ∷ 0 ∷ 4294967295 ∷ 7 ∷ []) 500
    ≡ finish (Done (pos 0)) (codes "1:1,4:1,3:1,5:1,") 0
unfolding digits table
hash_order_of_unordered_map_by_schedule_done_ends = refl

-- random program, input: done (35)
-- int main() {
--   std::deque<int> d1(7, 1);
--   d1.pop_back();
--   d1.front() = 7;
--   d1.erase(std::min_element(d1.begin(), d1.end()));
--   d1.erase(d1.begin() + 3);
--   auto it2 = d1.begin() + 0;
-- }
abbrev pub random_program_input_done_35 : Typed
random_program_input_done_35 = record {
  functions =
      record {
        name = codes "main";
        parameters = [];
        result = Some (parameter.Value t.Int);
        variables =
            record { kind = sort.Container; name = 0; place = at 2 19 } ∷
            record { kind = sort.Iterator; name = 1; place = at 7 8 } ∷
            [];
        body = block (Some 3) (all (
            declares (makes f.Deque (head (callees.Row 32) (at 2 3) None None [])
            (with (convert t.Size (literal t.Int (pos 7))) (with (literal t.Int (pos 1)) none))) ∷
            does (evaluates (call (head (callees.Row 45) (at 3 6) (Some 0) (Some 0) (Some 0 ∷ [])) none)) ∷
            does (assigns (element (head (callees.Row 39) (at 4 6) None (Some 0) (Some 0 ∷ [])) none) (literal t.Int (pos 7))) ∷
            does (evaluates (call (head (callees.Row 50) (at 5 6) (Some 1) (Some 0) (Some 0 ∷ [])) (with (call
            (head (callees.Row 228) (at 5 12) None None []) (with
            (call (head (callees.Row 35) (at 5 32) None (Some 0) (Some 0 ∷ [])) none)
            (with (call (head (callees.Row 36) (at 5 44) None (Some 0) (Some 0 ∷ [])) none) none))) none))) ∷
            does (evaluates (call (head (callees.Row 50) (at 6 6) (Some 2) (Some 0) (Some 0 ∷ [])) (with (call
            (head (callees.Operator operators.Add) (at 6 23) None None []) (with
            (call (head (callees.Row 35) (at 6 15) None (Some 0) (Some 0 ∷ [])) none)
            (with (convert t.Diff (literal t.Int (pos 3))) none))) none))) ∷
            declares (set_iterator (call (head (callees.Operator operators.Add) (at 7 25) None None []) (with
            (call (head (callees.Row 35) (at 7 17) None (Some 0) (Some 0 ∷ [])) none)
            (with (convert t.Diff (literal t.Int (pos 0))) none)))) ∷
            []));
        close = at 8 1;
      } ∷
      [];
  main = 0;
  sites = at 3 6 ∷ at 5 6 ∷ at 6 6 ∷ at 8 1 ∷ [];
  loops = [];
  names = codes "d1" ∷ codes "it2" ∷ [];
  constants = negsuc 0 ∷ pos 0 ∷ pos 1 ∷ pos 2 ∷ pos 3 ∷ pos 4 ∷ pos 6 ∷ pos 7 ∷ pos 8 ∷ [];
}

random_program_input_done_35_ends : run random_program_input_done_35 (pos 2147483647 ∷ negsuc 0 ∷ [])
    (0 ∷ 0 ∷ 2 ∷ 0 ∷ 4294967295 ∷ 2 ∷ 9 ∷ 3 ∷ 2 ∷ 4294967295 ∷ 0 ∷ 9 ∷ []) 400
    ≡ finish (Done (pos 0)) [] 0
unfolding table
random_program_input_done_35_ends = refl

-- random program, input: done (18)
-- int main() {
--   std::list<int> l1 = {};
--   if (l1.empty()) {
--     int x2 = 1 >= (4 * 0);
--   }
--   else {
--     std::cout << l1.empty() << "\n";
--   }
--   std::list<int> l3(l1);
--   l1 = l1;
--   auto it6 = l3.end();
--   l3.push_front(2 && l1.size());
-- }
abbrev pub random_program_input_done_18 : Typed
random_program_input_done_18 = record {
  functions =
      record {
        name = codes "main";
        parameters = [];
        result = Some (parameter.Value t.Int);
        variables =
            record { kind = sort.Container; name = 0; place = at 2 18 } ∷
            record { kind = sort.Scalar; name = 1; place = at 4 9 } ∷
            record { kind = sort.Container; name = 2; place = at 9 18 } ∷
            record { kind = sort.Iterator; name = 3; place = at 11 8 } ∷
            [];
        body = block (Some 1) (all (
            declares (makes f.List (head (callees.Row 57) (at 2 3) None None []) none) ∷
            choice_else (test (call (head (callees.Row 67) (at 3 10) None (Some 0) (Some 0 ∷ [])) none)) (block None (all (
            declares (set_scalar t.Int (convert t.Int (comparison c.GreaterEqual (at 4 16) (literal t.Int (pos 1))
            (arithmetic o.Multiply t.Int (at 4 22) (literal t.Int (pos 4)) (literal t.Int (pos 0)))))) ∷
            []))) (block None (all (
            does
            (prints (number (call (head (callees.Row 67) (at 7 21) None (Some 0) (Some 0 ∷ [])) none) ∷ text (codes "\n") ∷ [])) ∷
            []))) ∷
            declares (makes f.List (head (callees.Row 59) (at 9 3) None None (None ∷ Some 0 ∷ [])) (with (container 0) none)) ∷
            does (evaluates (call (head (callees.Row 63) (at 10 6) (Some 0) (Some 0) (Some 0 ∷ Some 0 ∷ [])) (with (container 0) none))) ∷
            declares (set_iterator (call (head (callees.Row 65) (at 11 17) None (Some 1) (Some 2 ∷ [])) none)) ∷
            does (evaluates (call (head (callees.Row 71) (at 12 6) None (Some 1) (Some 2 ∷ [])) (with (convert t.Int (logical_and (at 12 19)
            (literal t.Int (pos 2)) (call (head (callees.Row 66) (at 12 25) None (Some 0) (Some 0 ∷ [])) none))) none))) ∷
            []));
        close = at 13 1;
      } ∷
      [];
  main = 0;
  sites = at 10 6 ∷ at 13 1 ∷ [];
  loops = [];
  names = codes "l1" ∷ codes "x2" ∷ codes "l3" ∷ codes "it6" ∷ [];
  constants = negsuc 0 ∷ pos 0 ∷ pos 1 ∷ pos 2 ∷ pos 3 ∷ pos 4 ∷ pos 5 ∷ [];
}

random_program_input_done_18_ends : run random_program_input_done_18 (pos 5 ∷ pos 0 ∷ pos 2147483647 ∷ pos 5 ∷ [])
    (0 ∷ 0 ∷ 3 ∷ 2 ∷ 0 ∷ 0 ∷ 0 ∷ 2 ∷ 1 ∷ 2 ∷ 3 ∷ 4294967295 ∷ 1 ∷ 1 ∷ 1 ∷ 0 ∷ 2 ∷ 2 ∷ 2 ∷ 9 ∷ 2 ∷ []) 400
    ≡ finish (Done (pos 0)) [] 0
unfolding table
random_program_input_done_18_ends = refl

-- hash order of unordered_map by schedule: done (5)
-- int main() {
--   std::unordered_map<int, int> c;
--   c.emplace(3, 1);
--   c.emplace(1, 1);
--   c.emplace(4, 1);
--   c.emplace(1, 1);
--   c.emplace(5, 1);
--   c.reserve(4);
--   for (const auto& e : c) std::cout << e.first << ":" << e.second << ",";
-- }
abbrev pub hash_order_of_unordered_map_by_schedule_done_5 : Typed
hash_order_of_unordered_map_by_schedule_done_5 = record {
  functions =
      record {
        name = codes "main";
        parameters = [];
        result = Some (parameter.Value t.Int);
        variables =
            record { kind = sort.Container; name = 0; place = at 2 32 } ∷
            record { kind = sort.Reference; name = 1; place = at 9 20 } ∷
            [];
        body = block (Some 6) (all (
            declares (makes f.HashMap (head (callees.Row 150) (at 2 3) None None []) none) ∷
            does (evaluates (call (head (callees.Row 159) (at 3 5) (Some 0) (Some 0) (Some 0 ∷ []))
            (with (literal t.Int (pos 3)) (with (literal t.Int (pos 1)) none)))) ∷
            does (evaluates (call (head (callees.Row 159) (at 4 5) (Some 1) (Some 0) (Some 0 ∷ []))
            (with (literal t.Int (pos 1)) (with (literal t.Int (pos 1)) none)))) ∷
            does (evaluates (call (head (callees.Row 159) (at 5 5) (Some 2) (Some 0) (Some 0 ∷ []))
            (with (literal t.Int (pos 4)) (with (literal t.Int (pos 1)) none)))) ∷
            does (evaluates (call (head (callees.Row 159) (at 6 5) (Some 3) (Some 0) (Some 0 ∷ []))
            (with (literal t.Int (pos 1)) (with (literal t.Int (pos 1)) none)))) ∷
            does (evaluates (call (head (callees.Row 159) (at 7 5) (Some 4) (Some 0) (Some 0 ∷ []))
            (with (literal t.Int (pos 5)) (with (literal t.Int (pos 1)) none)))) ∷
            does (evaluates (call (head (callees.Row 164) (at 8 5) (Some 5) (Some 0) (Some 0 ∷ []))
            (with (convert t.Size (literal t.Int (pos 4))) none))) ∷
            range_for 0 taken.Reference 0 (at 9 3) 0 (does (prints (
            number (held (reference 2 (at 9 40) 1 part.First)) ∷
            text (codes ":") ∷
            number (held (reference 2 (at 9 58) 1 part.Second)) ∷
            text (codes ",") ∷
            []))) ∷
            []));
        close = at 10 1;
      } ∷
      [];
  main = 0;
  sites = at 3 5 ∷ at 4 5 ∷ at 5 5 ∷ at 6 5 ∷ at 7 5 ∷ at 8 5 ∷ at 10 1 ∷ [];
  loops = at 9 3 ∷ [];
  names = codes "c" ∷ codes "e" ∷ [];
  constants = pos 0 ∷ pos 1 ∷ pos 2 ∷ pos 3 ∷ pos 4 ∷ pos 5 ∷ pos 6 ∷ [];
}

hash_order_of_unordered_map_by_schedule_done_5_ends : run hash_order_of_unordered_map_by_schedule_done_5 [] (3 ∷ []) 500
    ≡ finish (Done (pos 0)) (codes "4:1,1:1,3:1,5:1,") 0
unfolding digits table
hash_order_of_unordered_map_by_schedule_done_5_ends = refl

-- random program, input: done (9)
-- int main() {
--   std::multimap<int, int> mm1;
--   auto it2 = mm1.begin();
--   std::multimap<int, int> mm3 = mm1;
--   mm1.erase(1);
--   int x5 = mm3.size();
--   std::cout << 3 << "\n";
--   mm1 = mm3;
--   mm1.swap(mm3);
--   mm1.clear();
--   std::unordered_map<int, int> um7;
-- }
abbrev pub random_program_input_done_9 : Typed
random_program_input_done_9 = record {
  functions =
      record {
        name = codes "main";
        parameters = [];
        result = Some (parameter.Value t.Int);
        variables =
            record { kind = sort.Container; name = 0; place = at 2 27 } ∷
            record { kind = sort.Iterator; name = 1; place = at 3 8 } ∷
            record { kind = sort.Container; name = 2; place = at 4 27 } ∷
            record { kind = sort.Scalar; name = 3; place = at 6 7 } ∷
            record { kind = sort.Container; name = 4; place = at 11 32 } ∷
            [];
        body = block (Some 4) (all (
            declares (makes f.MultiMap (head (callees.Row 189) (at 2 3) None None []) none) ∷
            declares (set_iterator (call (head (callees.Row 192) (at 3 18) None (Some 0) (Some 0 ∷ [])) none)) ∷
            declares (makes f.MultiMap (head (callees.Row 190) (at 4 3) None None (None ∷ Some 0 ∷ [])) (with (container 0) none)) ∷
            does (evaluates (call (head (callees.Row 199) (at 5 7) (Some 0) (Some 0) (Some 0 ∷ [])) (with (literal t.Int (pos 1)) none))) ∷
            declares (set_scalar t.Int (convert t.Int (call (head (callees.Row 194) (at 6 16) None (Some 1) (Some 2 ∷ [])) none))) ∷
            does (prints (number (literal t.Int (pos 3)) ∷ text (codes "\n") ∷ [])) ∷
            does (evaluates (call (head (callees.Row 191) (at 8 7) (Some 1) (Some 0) (Some 0 ∷ Some 2 ∷ [])) (with (container 1) none))) ∷
            does (evaluates (call (head (callees.Row 201) (at 9 7) (Some 2) (Some 0) (Some 0 ∷ Some 2 ∷ [])) (with (container 1) none))) ∷
            does (evaluates (call (head (callees.Row 200) (at 10 7) (Some 3) (Some 0) (Some 0 ∷ [])) none)) ∷
            declares (makes f.HashMap (head (callees.Row 150) (at 11 3) None None []) none) ∷
            []));
        close = at 12 1;
      } ∷
      [];
  main = 0;
  sites = at 5 7 ∷ at 8 7 ∷ at 9 7 ∷ at 10 7 ∷ at 12 1 ∷ [];
  loops = [];
  names = codes "mm1" ∷ codes "it2" ∷ codes "mm3" ∷ codes "x5" ∷ codes "um7" ∷ [];
  constants = pos 0 ∷ pos 1 ∷ pos 2 ∷ pos 3 ∷ pos 4 ∷ [];
}

random_program_input_done_9_ends : run random_program_input_done_9 (negsuc 0 ∷ negsuc 0 ∷ pos 5 ∷ pos 2147483647 ∷ [])
    (3 ∷ 0 ∷ 3 ∷ 3 ∷ 4294967295 ∷ 2 ∷ 9 ∷ 3 ∷ 1 ∷ 9 ∷ 0 ∷ 0 ∷ 9 ∷ 3 ∷ 9 ∷ 9 ∷ 9 ∷ 3 ∷ []) 40
    ≡ finish (Done (pos 0)) (codes "3\n") 0
unfolding digits table
random_program_input_done_9_ends = refl

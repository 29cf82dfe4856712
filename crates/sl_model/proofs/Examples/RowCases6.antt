-- Closed runs of texts, each made of a C++ text and its end and output by tools/run_goal.py; the texts and ends are not this program's own answers.
use Rattle.sl_base.specs.declared.scalar.Scalar.TheVariants as t
use Rattle.sl_base.specs.declared.form.Form.TheVariants as f
use Rattle.sl_syntax.specs.declared.operator.Arithmetic.TheVariants as o
use Rattle.sl_syntax.specs.declared.operator.Comparison.TheVariants as c
use Rattle.sl_syntax.specs.declared.typed.callee.Callee.TheVariants as callees
use Rattle.sl_syntax.specs.declared.typed.operator.Operator.TheVariants as operators
use Rattle.sl_syntax.specs.declared.typed.parameter.ParameterKind.TheVariants as parameter
use Rattle.sl_syntax.specs.declared.typed.variable.VariableKind.TheVariants as sort
use Rattle.std.specs.Prelude.{◌≡◌, refl, [], ◌∷◌, Some, None, pos, negsuc, codes}
use Rattle.std.specs.Fmt.{digits}
use Rattle.sl_syntax.specs.declared.typed.step.Fix.TheVariants.{Prefix}
use Rattle.sl_syntax.specs.declared.typed.step.Step.TheVariants.{Down}
use Rattle.sl_syntax.specs.Typed.{literal, held, iterator, convert, negate, logical_not, arithmetic, comparison, increment, call, second}
use Rattle.sl_syntax.specs.Typed.{container, scalar, element, none, with, test, text, endline, number, reads, prints, evaluates, moves_to}
use Rattle.sl_syntax.specs.Typed.{unset_scalar, set_scalar, set_iterator, makes, block, declares, choice, does, Typed}
use Rattle.sl_specs.specs.Table.{table}
use Rattle.sl_model.specs.Runs.Ends.{Done, Trapped}
use Rattle.sl_model.specs.Runs.Run.{run}
use Rattle.sl_model.proofs.Examples.Short.{at, head, all, finish, trap}

-- random program, input: done (30)
-- int main() {
--   std::unordered_map<int, int> um1;
--   um1.erase(um1.find(10), um1.find(10));
--   um1.erase(um1.find(0), um1.find(4));
--   std::unordered_map<int, int> um3;
--   if (!um3.empty()) {
--     um1.erase(um1.begin());
--     um3.erase(um3.find(5));
--   }
--   um1.erase(um1.find(2), um1.begin());
-- }
abbrev pub random_program_input_done_30 : Typed
random_program_input_done_30 = record {
  functions =
      record {
        name = codes "main";
        parameters = [];
        result = Some (parameter.Value t.Int);
        variables =
            record { kind = sort.Container; name = 0; place = at 2 32 } ∷
            record { kind = sort.Container; name = 1; place = at 5 32 } ∷
            [];
        body = block (Some 5) (all (
            declares (makes f.HashMap (head (callees.Row 150) (at 2 3) None None []) none) ∷
            does (evaluates (call (head (callees.Row 161) (at 3 7) (Some 0) (Some 0) (Some 0 ∷ [])) (with
            (call (head (callees.Row 166) (at 3 17) None (Some 0) (Some 0 ∷ [])) (with (literal t.Int (pos 10)) none))
            (with (call (head (callees.Row 166) (at 3 31) None (Some 0) (Some 0 ∷ [])) (with (literal t.Int (pos 10)) none)) none)))) ∷
            does (evaluates (call (head (callees.Row 161) (at 4 7) (Some 1) (Some 0) (Some 0 ∷ [])) (with
            (call (head (callees.Row 166) (at 4 17) None (Some 0) (Some 0 ∷ [])) (with (literal t.Int (pos 0)) none))
            (with (call (head (callees.Row 166) (at 4 30) None (Some 0) (Some 0 ∷ [])) (with (literal t.Int (pos 4)) none)) none)))) ∷
            declares (makes f.HashMap (head (callees.Row 150) (at 5 3) None None []) none) ∷
            choice (test (logical_not (at 6 7) (call (head (callees.Row 156) (at 6 12) None (Some 1) (Some 1 ∷ [])) none))) (block None (all (
            does (evaluates (call (head (callees.Row 160) (at 7 9) (Some 2) (Some 0) (Some 0 ∷ []))
            (with (call (head (callees.Row 153) (at 7 19) None (Some 0) (Some 0 ∷ [])) none) none))) ∷
            does (evaluates (call (head (callees.Row 160) (at 8 9) (Some 3) (Some 1) (Some 1 ∷ [])) (with
            (call (head (callees.Row 166) (at 8 19) None (Some 1) (Some 1 ∷ [])) (with (literal t.Int (pos 5)) none)) none))) ∷
            []))) ∷
            does (evaluates (call (head (callees.Row 161) (at 10 7) (Some 4) (Some 0) (Some 0 ∷ [])) (with
            (call (head (callees.Row 166) (at 10 17) None (Some 0) (Some 0 ∷ [])) (with (literal t.Int (pos 2)) none))
            (with (call (head (callees.Row 153) (at 10 30) None (Some 0) (Some 0 ∷ [])) none) none)))) ∷
            []));
        close = at 11 1;
      } ∷
      [];
  main = 0;
  sites = at 3 7 ∷ at 4 7 ∷ at 7 9 ∷ at 8 9 ∷ at 10 7 ∷ at 11 1 ∷ [];
  loops = [];
  names = codes "um1" ∷ codes "um3" ∷ [];
  constants = negsuc 0 ∷ pos 0 ∷ pos 1 ∷ pos 2 ∷ pos 3 ∷ pos 4 ∷ pos 5 ∷ pos 6 ∷ pos 9 ∷ pos 10 ∷ pos 11 ∷ [];
}

random_program_input_done_30_ends : run random_program_input_done_30 (negsuc 0 ∷ pos 5 ∷ pos 5 ∷ pos 3 ∷ [])
    (0 ∷ 9 ∷ 4294967295 ∷ 4294967295 ∷ 0 ∷ 0 ∷ 1 ∷ 3 ∷ 2 ∷ 3 ∷ 9 ∷ 0 ∷ 0 ∷ 1 ∷ 4294967295 ∷ []) 40
    ≡ finish (Done (pos 0)) [] 0
unfolding table
random_program_input_done_30_ends = refl

-- random program, straight: done (23)
-- int main() {
--   std::unordered_set<int> us1 = {5, 1};
--   us1.erase((0 * 1));
--   us1.erase(0);
--   std::cout << 7 << ' ';
--   {
--     std::cout << us1.insert(3).second;
--   }
--   auto it2 = us1.end();
--   us1.erase(2);
--   auto it3 = it2;
--   std::vector<int> v4(1, 2);
--   us1.insert(v4.end() - 0, v4.end());
-- }
abbrev pub random_program_straight_done_23 : Typed
random_program_straight_done_23 = record {
  functions =
      record {
        name = codes "main";
        parameters = [];
        result = Some (parameter.Value t.Int);
        variables =
            record { kind = sort.Container; name = 0; place = at 2 27 } ∷
            record { kind = sort.Iterator; name = 1; place = at 9 8 } ∷
            record { kind = sort.Iterator; name = 2; place = at 11 8 } ∷
            record { kind = sort.Container; name = 3; place = at 12 20 } ∷
            [];
        body = block (Some 5) (all (
            declares (makes f.HashSet (head (callees.Row 132) (at 2 3) None None [])
            (with (literal t.Int (pos 5)) (with (literal t.Int (pos 1)) none))) ∷
            does (evaluates (call (head (callees.Row 144) (at 3 7) (Some 0) (Some 0) (Some 0 ∷ []))
            (with (arithmetic o.Multiply t.Int (at 3 16) (literal t.Int (pos 0)) (literal t.Int (pos 1))) none))) ∷
            does (evaluates (call (head (callees.Row 144) (at 4 7) (Some 1) (Some 0) (Some 0 ∷ [])) (with (literal t.Int (pos 0)) none))) ∷
            does (prints (number (literal t.Int (pos 7)) ∷ text (codes " ") ∷ [])) ∷
            block None (all (
            does (prints (
            number (second (at 7 31)
            (call (head (callees.Row 140) (at 7 22) (Some 2) (Some 0) (Some 0 ∷ [])) (with (literal t.Int (pos 3)) none))) ∷
            [])) ∷
            [])) ∷
            declares (set_iterator (call (head (callees.Row 137) (at 9 18) None (Some 0) (Some 0 ∷ [])) none)) ∷
            does (evaluates (call (head (callees.Row 144) (at 10 7) (Some 3) (Some 0) (Some 0 ∷ [])) (with (literal t.Int (pos 2)) none))) ∷
            declares (set_iterator (iterator 0)) ∷
            declares (makes f.Vector (head (callees.Row 4) (at 12 3) None None [])
            (with (convert t.Size (literal t.Int (pos 1))) (with (literal t.Int (pos 2)) none))) ∷
            does (evaluates (call (head (callees.Row 141) (at 13 7) (Some 4) (Some 0) (Some 0 ∷ [])) (with (call
            (head (callees.Operator operators.Subtract) (at 13 23) None None []) (with
            (call (head (callees.Row 8) (at 13 17) None (Some 1) (Some 3 ∷ [])) none)
            (with (convert t.Diff (literal t.Int (pos 0))) none)))
            (with (call (head (callees.Row 8) (at 13 31) None (Some 1) (Some 3 ∷ [])) none) none)))) ∷
            []));
        close = at 14 1;
      } ∷
      [];
  main = 0;
  sites = at 3 7 ∷ at 4 7 ∷ at 7 22 ∷ at 10 7 ∷ at 13 7 ∷ at 14 1 ∷ [];
  loops = [];
  names = codes "us1" ∷ codes "it2" ∷ codes "it3" ∷ codes "v4" ∷ [];
  constants = negsuc 0 ∷ pos 0 ∷ pos 1 ∷ pos 2 ∷ pos 3 ∷ pos 4 ∷ pos 5 ∷ pos 6 ∷ pos 7 ∷ pos 8 ∷ [];
}

random_program_straight_done_23_ends : run random_program_straight_done_23
    (pos 3 ∷ negsuc 0 ∷ negsuc 0 ∷ pos 1 ∷ pos 0 ∷ pos 3 ∷ pos 1 ∷ []) (1 ∷ 9 ∷ 3 ∷ 1 ∷ 9 ∷ 0 ∷ 2 ∷ 0 ∷ 0 ∷ 0 ∷ 9 ∷ 3 ∷ 3 ∷ 9 ∷ 3 ∷ []) 400
    ≡ finish (Done (pos 0)) (codes "7 1") 0
unfolding digits table
random_program_straight_done_23_ends = refl

-- random program, input: done (12)
-- int main() {
--   std::unordered_set<int> us1 = {1};
--   std::unordered_set<int> us2 = us1;
--   int x4 = 2;
--   std::cin >> x4;
--   us2.erase(us2.find(0), us2.find(2));
--   us2.insert(us2.count(x4));
--   us1.erase(us1.begin(), us1.end());
--   us2.erase(x4 % 2);
--   std::vector<int> v5{7, 1, 2, 1, 10};
--   std::cin >> x4;
-- }
abbrev pub random_program_input_done_12 : Typed
random_program_input_done_12 = record {
  functions =
      record {
        name = codes "main";
        parameters = [];
        result = Some (parameter.Value t.Int);
        variables =
            record { kind = sort.Container; name = 0; place = at 2 27 } ∷
            record { kind = sort.Container; name = 1; place = at 3 27 } ∷
            record { kind = sort.Scalar; name = 2; place = at 4 7 } ∷
            record { kind = sort.Container; name = 3; place = at 10 20 } ∷
            [];
        body = block (Some 4) (all (
            declares (makes f.HashSet (head (callees.Row 132) (at 2 3) None None []) (with (literal t.Int (pos 1)) none)) ∷
            declares (makes f.HashSet (head (callees.Row 133) (at 3 3) None None (None ∷ Some 0 ∷ [])) (with (container 0) none)) ∷
            declares (set_scalar t.Int (literal t.Int (pos 2))) ∷
            does (reads (0 ∷ [])) ∷
            does (evaluates (call (head (callees.Row 143) (at 6 7) (Some 0) (Some 1) (Some 1 ∷ [])) (with
            (call (head (callees.Row 148) (at 6 17) None (Some 1) (Some 1 ∷ [])) (with (literal t.Int (pos 0)) none))
            (with (call (head (callees.Row 148) (at 6 30) None (Some 1) (Some 1 ∷ [])) (with (literal t.Int (pos 2)) none)) none)))) ∷
            does (evaluates (call (head (callees.Row 140) (at 7 7) (Some 1) (Some 1) (Some 1 ∷ [])) (with (convert t.Int
            (call (head (callees.Row 149) (at 7 18) None (Some 1) (Some 1 ∷ Some 2 ∷ [])) (with (held (scalar 0 (at 7 24))) none)))
            none))) ∷
            does (evaluates (call (head (callees.Row 143) (at 8 7) (Some 2) (Some 0) (Some 0 ∷ [])) (with
            (call (head (callees.Row 136) (at 8 17) None (Some 0) (Some 0 ∷ [])) none)
            (with (call (head (callees.Row 137) (at 8 30) None (Some 0) (Some 0 ∷ [])) none) none)))) ∷
            does (evaluates (call (head (callees.Row 144) (at 9 7) (Some 3) (Some 1) (Some 1 ∷ []))
            (with (arithmetic o.Remainder t.Int (at 9 16) (held (scalar 0 (at 9 13))) (literal t.Int (pos 2))) none))) ∷
            declares (makes f.Vector (head (callees.Row 1) (at 10 3) None None []) (with (literal t.Int (pos 7)) (with
            (literal t.Int (pos 1))
            (with (literal t.Int (pos 2)) (with (literal t.Int (pos 1)) (with (literal t.Int (pos 10)) none)))))) ∷
            does (reads (0 ∷ [])) ∷
            []));
        close = at 12 1;
      } ∷
      [];
  main = 0;
  sites = at 6 7 ∷ at 7 7 ∷ at 8 7 ∷ at 9 7 ∷ at 12 1 ∷ [];
  loops = [];
  names = codes "us1" ∷ codes "us2" ∷ codes "x4" ∷ codes "v5" ∷ [];
  constants = negsuc 0 ∷ pos 0 ∷ pos 1 ∷ pos 2 ∷ pos 3 ∷ pos 6 ∷ pos 7 ∷ pos 8 ∷ pos 9 ∷ pos 10 ∷ pos 11 ∷ [];
}

random_program_input_done_12_ends : run random_program_input_done_12 (negsuc 2147483647 ∷ pos 3 ∷ pos 1 ∷ pos 2 ∷ negsuc 0 ∷ pos 5 ∷ [])
    (0 ∷ 2 ∷ 9 ∷ []) 400
    ≡ finish (Done (pos 0)) [] 0
unfolding table
random_program_input_done_12_ends = refl

-- random program, straight: done (21)
-- int main() {
--   std::deque<int> d1{4};
--   bool x2;
--   std::cout << "a" << 1 << std::endl;
--   std::deque<int> d3;
--   d3.insert(d3.begin(), d1.begin(), d1.end());
--   std::deque<int> d4{1, 4, 2};
--   d1.insert(d1.begin(), 1, 5);
--   d4.push_front(2);
--   d1.push_back(2);
--   d1.insert(std::prev(d1.end() - 1), 4);
-- }
abbrev pub random_program_straight_done_21 : Typed
random_program_straight_done_21 = record {
  functions =
      record {
        name = codes "main";
        parameters = [];
        result = Some (parameter.Value t.Int);
        variables =
            record { kind = sort.Container; name = 0; place = at 2 19 } ∷
            record { kind = sort.Scalar; name = 1; place = at 3 8 } ∷
            record { kind = sort.Container; name = 2; place = at 5 19 } ∷
            record { kind = sort.Container; name = 3; place = at 7 19 } ∷
            [];
        body = block (Some 5) (all (
            declares (makes f.Deque (head (callees.Row 29) (at 2 3) None None []) (with (literal t.Int (pos 4)) none)) ∷
            declares (unset_scalar t.Bool) ∷
            does (prints (text (codes "a") ∷ number (literal t.Int (pos 1)) ∷ endline ∷ [])) ∷
            declares (makes f.Deque (head (callees.Row 28) (at 5 3) None None []) none) ∷
            does (evaluates (call (head (callees.Row 49) (at 6 6) (Some 0) (Some 1) (Some 2 ∷ [])) (with
            (call (head (callees.Row 35) (at 6 16) None (Some 1) (Some 2 ∷ [])) none) (with
            (call (head (callees.Row 35) (at 6 28) None (Some 0) (Some 0 ∷ [])) none)
            (with (call (head (callees.Row 36) (at 6 40) None (Some 0) (Some 0 ∷ [])) none) none))))) ∷
            declares (makes f.Deque (head (callees.Row 29) (at 7 3) None None [])
            (with (literal t.Int (pos 1)) (with (literal t.Int (pos 4)) (with (literal t.Int (pos 2)) none)))) ∷
            does (evaluates (call (head (callees.Row 48) (at 8 6) (Some 1) (Some 0) (Some 0 ∷ [])) (with
            (call (head (callees.Row 35) (at 8 16) None (Some 0) (Some 0 ∷ [])) none)
            (with (convert t.Size (literal t.Int (pos 1))) (with (literal t.Int (pos 5)) none))))) ∷
            does (evaluates (call (head (callees.Row 44) (at 9 6) (Some 2) (Some 2) (Some 3 ∷ [])) (with (literal t.Int (pos 2)) none))) ∷
            does (evaluates (call (head (callees.Row 43) (at 10 6) (Some 3) (Some 0) (Some 0 ∷ [])) (with (literal t.Int (pos 2)) none))) ∷
            does (evaluates (call (head (callees.Row 47) (at 11 6) (Some 4) (Some 0) (Some 0 ∷ [])) (with (call
            (head (callees.Row 227) (at 11 13) None None []) (with (call
            (head (callees.Operator operators.Subtract) (at 11 32) None None []) (with
            (call (head (callees.Row 36) (at 11 26) None (Some 0) (Some 0 ∷ [])) none)
            (with (convert t.Diff (literal t.Int (pos 1))) none))) none)) (with (literal t.Int (pos 4)) none)))) ∷
            []));
        close = at 12 1;
      } ∷
      [];
  main = 0;
  sites = at 6 6 ∷ at 8 6 ∷ at 9 6 ∷ at 10 6 ∷ at 11 6 ∷ at 12 1 ∷ [];
  loops = [];
  names = codes "d1" ∷ codes "x2" ∷ codes "d3" ∷ codes "d4" ∷ [];
  constants = pos 0 ∷ pos 1 ∷ pos 2 ∷ pos 3 ∷ pos 4 ∷ pos 5 ∷ pos 6 ∷ [];
}

random_program_straight_done_21_ends : run random_program_straight_done_21 (pos 3 ∷ pos 3 ∷ pos 3 ∷ [])
    (1 ∷ 2 ∷ 0 ∷ 3 ∷ 3 ∷ 1 ∷ 2 ∷ 0 ∷ 9 ∷ 0 ∷ []) 400
    ≡ finish (Done (pos 0)) (codes "a1\n") 0
unfolding digits table
random_program_straight_done_21_ends = refl

-- needs of list.pop_front(): none: done
-- int main() {
--   std::list<int> w = {7, 8};
--   std::vector<int> u = {5, 6};
--   std::vector<int> u2 = {1};
--   std::list<int> c = {1, 2, 3, 4};
--   auto dead = c.end();
--   {
--     std::list<int> t = {1};
--     dead = t.begin();
--   }
--   auto udead = u.end();
--   {
--     std::vector<int> t = {1};
--     udead = t.begin();
--   }
--   c.pop_front();
--   std::cout << c.size();
-- }
abbrev pub needs_of_list_pop_front_none_done : Typed
needs_of_list_pop_front_none_done = record {
  functions =
      record {
        name = codes "main";
        parameters = [];
        result = Some (parameter.Value t.Int);
        variables =
            record { kind = sort.Container; name = 0; place = at 2 18 } ∷
            record { kind = sort.Container; name = 1; place = at 3 20 } ∷
            record { kind = sort.Container; name = 2; place = at 4 20 } ∷
            record { kind = sort.Container; name = 3; place = at 5 18 } ∷
            record { kind = sort.Iterator; name = 4; place = at 6 8 } ∷
            record { kind = sort.Container; name = 5; place = at 8 20 } ∷
            record { kind = sort.Iterator; name = 6; place = at 11 8 } ∷
            record { kind = sort.Container; name = 5; place = at 13 22 } ∷
            [];
        body = block (Some 3) (all (
            declares (makes f.List (head (callees.Row 58) (at 2 3) None None [])
            (with (literal t.Int (pos 7)) (with (literal t.Int (pos 8)) none))) ∷
            declares (makes f.Vector (head (callees.Row 1) (at 3 3) None None [])
            (with (literal t.Int (pos 5)) (with (literal t.Int (pos 6)) none))) ∷
            declares (makes f.Vector (head (callees.Row 1) (at 4 3) None None []) (with (literal t.Int (pos 1)) none)) ∷
            declares (makes f.List (head (callees.Row 58) (at 5 3) None None []) (with (literal t.Int (pos 1))
            (with (literal t.Int (pos 2)) (with (literal t.Int (pos 3)) (with (literal t.Int (pos 4)) none))))) ∷
            declares (set_iterator (call (head (callees.Row 65) (at 6 17) None (Some 3) (Some 3 ∷ [])) none)) ∷
            block (Some 0) (all (
            declares (makes f.List (head (callees.Row 58) (at 8 5) None None []) (with (literal t.Int (pos 1)) none)) ∷
            does (moves_to 0 (call (head (callees.Row 64) (at 9 14) None (Some 4) (Some 5 ∷ [])) none)) ∷
            [])) ∷
            declares (set_iterator (call (head (callees.Row 8) (at 11 18) None (Some 1) (Some 1 ∷ [])) none)) ∷
            block (Some 1) (all (
            declares (makes f.Vector (head (callees.Row 1) (at 13 5) None None []) (with (literal t.Int (pos 1)) none)) ∷
            does (moves_to 1 (call (head (callees.Row 7) (at 14 15) None (Some 4) (Some 5 ∷ [])) none)) ∷
            [])) ∷
            does (evaluates (call (head (callees.Row 73) (at 16 5) (Some 2) (Some 3) (Some 3 ∷ [])) none)) ∷
            does (prints (number (call (head (callees.Row 66) (at 17 18) None (Some 3) (Some 3 ∷ [])) none) ∷ [])) ∷
            []));
        close = at 18 1;
      } ∷
      [];
  main = 0;
  sites = at 10 3 ∷ at 15 3 ∷ at 16 5 ∷ at 18 1 ∷ [];
  loops = [];
  names = codes "w" ∷ codes "u" ∷ codes "u2" ∷ codes "c" ∷ codes "dead" ∷ codes "t" ∷ codes "udead" ∷ [];
  constants = pos 0 ∷ pos 1 ∷ pos 2 ∷ pos 3 ∷ pos 4 ∷ pos 5 ∷ pos 6 ∷ pos 7 ∷ pos 8 ∷ pos 9 ∷ [];
}

needs_of_list_pop_front_none_done_ends : run needs_of_list_pop_front_none_done [] [] 500 ≡ finish (Done (pos 0)) (codes "3") 0
unfolding digits table
needs_of_list_pop_front_none_done_ends = refl

-- random program, straight: done (4)
-- int main() {
--   std::map<int, int> m1;
--   std::cout << m1.emplace(4, 10).second;
--   m1.erase(std::prev(m1.end()), m1.end());
--   m1.erase(3);
--   m1 = m1;
--   std::cout << m1.emplace(0, 1).second;
--   m1.erase(m1.begin(), m1.begin());
--   m1.swap(m1);
--   m1.emplace(1, 4 - 4);
--   int x2 = (1 * m1.count(2));
-- }
abbrev pub random_program_straight_done_4 : Typed
random_program_straight_done_4 = record {
  functions =
      record {
        name = codes "main";
        parameters = [];
        result = Some (parameter.Value t.Int);
        variables =
            record { kind = sort.Container; name = 0; place = at 2 22 } ∷
            record { kind = sort.Scalar; name = 1; place = at 11 7 } ∷
            [];
        body = block (Some 5) (all (
            declares (makes f.Map (head (callees.Row 112) (at 2 3) None None []) none) ∷
            does (prints (
            number (second (at 3 33) (call (head (callees.Row 121) (at 3 19) None (Some 0) (Some 0 ∷ []))
            (with (literal t.Int (pos 4)) (with (literal t.Int (pos 10)) none)))) ∷
            [])) ∷
            does (evaluates (call (head (callees.Row 123) (at 4 6) (Some 0) (Some 0) (Some 0 ∷ [])) (with (call
            (head (callees.Row 227) (at 4 12) None None [])
            (with (call (head (callees.Row 116) (at 4 25) None (Some 0) (Some 0 ∷ [])) none) none))
            (with (call (head (callees.Row 116) (at 4 36) None (Some 0) (Some 0 ∷ [])) none) none)))) ∷
            does (evaluates (call (head (callees.Row 124) (at 5 6) (Some 1) (Some 0) (Some 0 ∷ [])) (with (literal t.Int (pos 3)) none))) ∷
            does (evaluates (call (head (callees.Row 114) (at 6 6) (Some 2) (Some 0) (Some 0 ∷ Some 0 ∷ [])) (with (container 0) none))) ∷
            does (prints (
            number (second (at 7 32) (call (head (callees.Row 121) (at 7 19) None (Some 0) (Some 0 ∷ []))
            (with (literal t.Int (pos 0)) (with (literal t.Int (pos 1)) none)))) ∷
            [])) ∷
            does (evaluates (call (head (callees.Row 123) (at 8 6) (Some 3) (Some 0) (Some 0 ∷ [])) (with
            (call (head (callees.Row 115) (at 8 15) None (Some 0) (Some 0 ∷ [])) none)
            (with (call (head (callees.Row 115) (at 8 27) None (Some 0) (Some 0 ∷ [])) none) none)))) ∷
            does (evaluates (call (head (callees.Row 126) (at 9 6) (Some 4) (Some 0) (Some 0 ∷ Some 0 ∷ [])) (with (container 0) none))) ∷
            does (evaluates (call (head (callees.Row 121) (at 10 6) None (Some 0) (Some 0 ∷ [])) (with (literal t.Int (pos 1))
            (with (arithmetic o.Subtract t.Int (at 10 19) (literal t.Int (pos 4)) (literal t.Int (pos 4))) none)))) ∷
            declares (set_scalar t.Int (convert t.Int (arithmetic o.Multiply t.Size (at 11 15) (convert t.Size (literal t.Int (pos 1)))
            (call (head (callees.Row 128) (at 11 20) None (Some 0) (Some 0 ∷ [])) (with (literal t.Int (pos 2)) none))))) ∷
            []));
        close = at 12 1;
      } ∷
      [];
  main = 0;
  sites = at 4 6 ∷ at 5 6 ∷ at 6 6 ∷ at 8 6 ∷ at 9 6 ∷ at 12 1 ∷ [];
  loops = [];
  names = codes "m1" ∷ codes "x2" ∷ [];
  constants = negsuc 0 ∷ pos 0 ∷ pos 1 ∷ pos 2 ∷ pos 3 ∷ pos 4 ∷ pos 5 ∷ pos 9 ∷ pos 10 ∷ pos 11 ∷ [];
}

random_program_straight_done_4_ends : run random_program_straight_done_4 (pos 5 ∷ pos 5 ∷ pos 0 ∷ negsuc 2147483647 ∷ pos 2 ∷ [])
    (9 ∷ 4294967295 ∷ 1 ∷ 2 ∷ []) 400
    ≡ finish (Done (pos 0)) (codes "11") 0
unfolding digits table
random_program_straight_done_4_ends = refl

-- random program, input: done (26)
-- int main() {
--   std::unordered_map<int, int> um1;
--   um1.emplace(1, !um1.size());
--   std::cout << (um1.count(1 < um1.size())) << "\n";
--   --um1[10];
--   std::multimap<int, int> mm2;
--   --um1[7];
--   mm2.emplace(2, 2);
--   mm2.erase(mm2.end(), mm2.find(1));
--   um1.emplace(7, -5);
--   std::multimap<int, int> mm4 = mm2;
-- }
abbrev pub random_program_input_done_26 : Typed
random_program_input_done_26 = record {
  functions =
      record {
        name = codes "main";
        parameters = [];
        result = Some (parameter.Value t.Int);
        variables =
            record { kind = sort.Container; name = 0; place = at 2 32 } ∷
            record { kind = sort.Container; name = 1; place = at 6 27 } ∷
            record { kind = sort.Container; name = 2; place = at 11 27 } ∷
            [];
        body = block (Some 5) (all (
            declares (makes f.HashMap (head (callees.Row 150) (at 2 3) None None []) none) ∷
            does (evaluates (call (head (callees.Row 159) (at 3 7) (Some 0) (Some 0) (Some 0 ∷ [])) (with (literal t.Int (pos 1)) (with
            (convert t.Int (logical_not (at 3 18) (call (head (callees.Row 155) (at 3 23) None (Some 0) (Some 0 ∷ [])) none)))
            none)))) ∷
            does (prints (
            number (call (head (callees.Row 167) (at 4 21) None (Some 0) (Some 0 ∷ [])) (with (convert t.Int (comparison c.Less
            (at 4 29) (convert t.Size (literal t.Int (pos 1)))
            (call (head (callees.Row 155) (at 4 35) None (Some 0) (Some 0 ∷ [])) none))) none)) ∷
            text (codes "\n") ∷
            [])) ∷
            does (evaluates (increment Down Prefix t.Int (at 5 3)
            (element (head (callees.Row 158) (at 5 8) (Some 1) (Some 0) (Some 0 ∷ [])) (with (literal t.Int (pos 10)) none)))) ∷
            declares (makes f.MultiMap (head (callees.Row 189) (at 6 3) None None []) none) ∷
            does (evaluates (increment Down Prefix t.Int (at 7 3)
            (element (head (callees.Row 158) (at 7 8) (Some 2) (Some 0) (Some 0 ∷ [])) (with (literal t.Int (pos 7)) none)))) ∷
            does (evaluates (call (head (callees.Row 196) (at 8 7) None (Some 1) (Some 1 ∷ []))
            (with (literal t.Int (pos 2)) (with (literal t.Int (pos 2)) none)))) ∷
            does (evaluates (call (head (callees.Row 198) (at 9 7) (Some 3) (Some 1) (Some 1 ∷ [])) (with
            (call (head (callees.Row 193) (at 9 17) None (Some 1) (Some 1 ∷ [])) none)
            (with (call (head (callees.Row 202) (at 9 28) None (Some 1) (Some 1 ∷ [])) (with (literal t.Int (pos 1)) none)) none)))) ∷
            does (evaluates (call (head (callees.Row 159) (at 10 7) (Some 4) (Some 0) (Some 0 ∷ []))
            (with (literal t.Int (pos 7)) (with (negate t.Int (at 10 18) (literal t.Int (pos 5))) none)))) ∷
            declares (makes f.MultiMap (head (callees.Row 190) (at 11 3) None None (None ∷ Some 1 ∷ [])) (with (container 1) none)) ∷
            []));
        close = at 12 1;
      } ∷
      [];
  main = 0;
  sites = at 3 7 ∷ at 5 8 ∷ at 7 8 ∷ at 9 7 ∷ at 10 7 ∷ at 12 1 ∷ [];
  loops = [];
  names = codes "um1" ∷ codes "mm2" ∷ codes "mm4" ∷ [];
  constants = pos 0 ∷ pos 1 ∷ pos 2 ∷ pos 3 ∷ pos 4 ∷ pos 5 ∷ pos 6 ∷ pos 7 ∷ pos 8 ∷ pos 9 ∷ pos 10 ∷ pos 11 ∷ [];
}

random_program_input_done_26_ends : run random_program_input_done_26 (pos 1 ∷ []) (4294967295 ∷ 2 ∷ 0 ∷ 4294967295 ∷ 2 ∷ 2 ∷ 3 ∷ []) 400
    ≡ finish (Done (pos 0)) (codes "0\n") 0
unfolding digits table
random_program_input_done_26_ends = refl

-- needs of list.splice(p, c): none: done
-- int main() {
--   std::list<int> w = {7, 8};
--   std::vector<int> u = {5, 6};
--   std::vector<int> u2 = {1};
--   std::list<int> c = {1, 2, 3, 4};
--   auto dead = c.end();
--   {
--     std::list<int> t = {1};
--     dead = t.begin();
--   }
--   auto udead = u.end();
--   {
--     std::vector<int> t = {1};
--     udead = t.begin();
--   }
--   c.splice(c.begin(), w);
--   std::cout << c.size();
-- }
abbrev pub needs_of_list_splice_p_c_none_done : Typed
needs_of_list_splice_p_c_none_done = record {
  functions =
      record {
        name = codes "main";
        parameters = [];
        result = Some (parameter.Value t.Int);
        variables =
            record { kind = sort.Container; name = 0; place = at 2 18 } ∷
            record { kind = sort.Container; name = 1; place = at 3 20 } ∷
            record { kind = sort.Container; name = 2; place = at 4 20 } ∷
            record { kind = sort.Container; name = 3; place = at 5 18 } ∷
            record { kind = sort.Iterator; name = 4; place = at 6 8 } ∷
            record { kind = sort.Container; name = 5; place = at 8 20 } ∷
            record { kind = sort.Iterator; name = 6; place = at 11 8 } ∷
            record { kind = sort.Container; name = 5; place = at 13 22 } ∷
            [];
        body = block (Some 2) (all (
            declares (makes f.List (head (callees.Row 58) (at 2 3) None None [])
            (with (literal t.Int (pos 7)) (with (literal t.Int (pos 8)) none))) ∷
            declares (makes f.Vector (head (callees.Row 1) (at 3 3) None None [])
            (with (literal t.Int (pos 5)) (with (literal t.Int (pos 6)) none))) ∷
            declares (makes f.Vector (head (callees.Row 1) (at 4 3) None None []) (with (literal t.Int (pos 1)) none)) ∷
            declares (makes f.List (head (callees.Row 58) (at 5 3) None None []) (with (literal t.Int (pos 1))
            (with (literal t.Int (pos 2)) (with (literal t.Int (pos 3)) (with (literal t.Int (pos 4)) none))))) ∷
            declares (set_iterator (call (head (callees.Row 65) (at 6 17) None (Some 3) (Some 3 ∷ [])) none)) ∷
            block (Some 0) (all (
            declares (makes f.List (head (callees.Row 58) (at 8 5) None None []) (with (literal t.Int (pos 1)) none)) ∷
            does (moves_to 0 (call (head (callees.Row 64) (at 9 14) None (Some 4) (Some 5 ∷ [])) none)) ∷
            [])) ∷
            declares (set_iterator (call (head (callees.Row 8) (at 11 18) None (Some 1) (Some 1 ∷ [])) none)) ∷
            block (Some 1) (all (
            declares (makes f.Vector (head (callees.Row 1) (at 13 5) None None []) (with (literal t.Int (pos 1)) none)) ∷
            does (moves_to 1 (call (head (callees.Row 7) (at 14 15) None (Some 4) (Some 5 ∷ [])) none)) ∷
            [])) ∷
            does (evaluates (call (head (callees.Row 89) (at 16 5) None (Some 3) (Some 3 ∷ None ∷ Some 0 ∷ []))
            (with (call (head (callees.Row 64) (at 16 14) None (Some 3) (Some 3 ∷ [])) none) (with (container 0) none)))) ∷
            does (prints (number (call (head (callees.Row 66) (at 17 18) None (Some 3) (Some 3 ∷ [])) none) ∷ [])) ∷
            []));
        close = at 18 1;
      } ∷
      [];
  main = 0;
  sites = at 10 3 ∷ at 15 3 ∷ at 18 1 ∷ [];
  loops = [];
  names = codes "w" ∷ codes "u" ∷ codes "u2" ∷ codes "c" ∷ codes "dead" ∷ codes "t" ∷ codes "udead" ∷ [];
  constants = pos 0 ∷ pos 1 ∷ pos 2 ∷ pos 3 ∷ pos 4 ∷ pos 5 ∷ pos 6 ∷ pos 7 ∷ pos 8 ∷ pos 9 ∷ [];
}

needs_of_list_splice_p_c_none_done_ends : run needs_of_list_splice_p_c_none_done [] [] 500 ≡ finish (Done (pos 0)) (codes "6") 0
unfolding digits table
needs_of_list_splice_p_c_none_done_ends = refl

-- needs of set.insert(f, l): none: done
-- int main() {
--   std::set<int> w = {7, 8};
--   std::vector<int> u = {5, 6};
--   std::vector<int> u2 = {1};
--   std::set<int> c = {1, 2, 3, 4};
--   auto dead = c.end();
--   {
--     std::set<int> t = {1};
--     dead = t.begin();
--   }
--   auto udead = u.end();
--   {
--     std::vector<int> t = {1};
--     udead = t.begin();
--   }
--   c.insert(u.begin(), u.end());
--   std::cout << c.size();
-- }
abbrev pub needs_of_set_insert_f_l_none_done : Typed
needs_of_set_insert_f_l_none_done = record {
  functions =
      record {
        name = codes "main";
        parameters = [];
        result = Some (parameter.Value t.Int);
        variables =
            record { kind = sort.Container; name = 0; place = at 2 17 } ∷
            record { kind = sort.Container; name = 1; place = at 3 20 } ∷
            record { kind = sort.Container; name = 2; place = at 4 20 } ∷
            record { kind = sort.Container; name = 3; place = at 5 17 } ∷
            record { kind = sort.Iterator; name = 4; place = at 6 8 } ∷
            record { kind = sort.Container; name = 5; place = at 8 19 } ∷
            record { kind = sort.Iterator; name = 6; place = at 11 8 } ∷
            record { kind = sort.Container; name = 5; place = at 13 22 } ∷
            [];
        body = block (Some 2) (all (
            declares
            (makes f.Set (head (callees.Row 93) (at 2 3) None None []) (with (literal t.Int (pos 7)) (with (literal t.Int (pos 8)) none))) ∷
            declares (makes f.Vector (head (callees.Row 1) (at 3 3) None None [])
            (with (literal t.Int (pos 5)) (with (literal t.Int (pos 6)) none))) ∷
            declares (makes f.Vector (head (callees.Row 1) (at 4 3) None None []) (with (literal t.Int (pos 1)) none)) ∷
            declares (makes f.Set (head (callees.Row 93) (at 5 3) None None []) (with (literal t.Int (pos 1))
            (with (literal t.Int (pos 2)) (with (literal t.Int (pos 3)) (with (literal t.Int (pos 4)) none))))) ∷
            declares (set_iterator (call (head (callees.Row 98) (at 6 17) None (Some 3) (Some 3 ∷ [])) none)) ∷
            block (Some 0) (all (
            declares (makes f.Set (head (callees.Row 93) (at 8 5) None None []) (with (literal t.Int (pos 1)) none)) ∷
            does (moves_to 0 (call (head (callees.Row 97) (at 9 14) None (Some 4) (Some 5 ∷ [])) none)) ∷
            [])) ∷
            declares (set_iterator (call (head (callees.Row 8) (at 11 18) None (Some 1) (Some 1 ∷ [])) none)) ∷
            block (Some 1) (all (
            declares (makes f.Vector (head (callees.Row 1) (at 13 5) None None []) (with (literal t.Int (pos 1)) none)) ∷
            does (moves_to 1 (call (head (callees.Row 7) (at 14 15) None (Some 4) (Some 5 ∷ [])) none)) ∷
            [])) ∷
            does (evaluates (call (head (callees.Row 102) (at 16 5) None (Some 3) (Some 3 ∷ [])) (with
            (call (head (callees.Row 7) (at 16 14) None (Some 1) (Some 1 ∷ [])) none)
            (with (call (head (callees.Row 8) (at 16 25) None (Some 1) (Some 1 ∷ [])) none) none)))) ∷
            does (prints (number (call (head (callees.Row 99) (at 17 18) None (Some 3) (Some 3 ∷ [])) none) ∷ [])) ∷
            []));
        close = at 18 1;
      } ∷
      [];
  main = 0;
  sites = at 10 3 ∷ at 15 3 ∷ at 18 1 ∷ [];
  loops = [];
  names = codes "w" ∷ codes "u" ∷ codes "u2" ∷ codes "c" ∷ codes "dead" ∷ codes "t" ∷ codes "udead" ∷ [];
  constants = pos 0 ∷ pos 1 ∷ pos 2 ∷ pos 3 ∷ pos 4 ∷ pos 5 ∷ pos 6 ∷ pos 7 ∷ pos 8 ∷ pos 9 ∷ [];
}

needs_of_set_insert_f_l_none_done_ends : run needs_of_set_insert_f_l_none_done [] [] 500 ≡ finish (Done (pos 0)) (codes "6") 0
unfolding digits table
needs_of_set_insert_f_l_none_done_ends = refl

-- needs of list.erase(f, l): none: done
-- int main() {
--   std::list<int> w = {7, 8};
--   std::vector<int> u = {5, 6};
--   std::vector<int> u2 = {1};
--   std::list<int> c = {1, 2, 3, 4};
--   auto dead = c.end();
--   {
--     std::list<int> t = {1};
--     dead = t.begin();
--   }
--   auto udead = u.end();
--   {
--     std::vector<int> t = {1};
--     udead = t.begin();
--   }
--   c.erase(c.begin(), c.end());
--   std::cout << c.size();
-- }
abbrev pub needs_of_list_erase_f_l_none_done : Typed
needs_of_list_erase_f_l_none_done = record {
  functions =
      record {
        name = codes "main";
        parameters = [];
        result = Some (parameter.Value t.Int);
        variables =
            record { kind = sort.Container; name = 0; place = at 2 18 } ∷
            record { kind = sort.Container; name = 1; place = at 3 20 } ∷
            record { kind = sort.Container; name = 2; place = at 4 20 } ∷
            record { kind = sort.Container; name = 3; place = at 5 18 } ∷
            record { kind = sort.Iterator; name = 4; place = at 6 8 } ∷
            record { kind = sort.Container; name = 5; place = at 8 20 } ∷
            record { kind = sort.Iterator; name = 6; place = at 11 8 } ∷
            record { kind = sort.Container; name = 5; place = at 13 22 } ∷
            [];
        body = block (Some 3) (all (
            declares (makes f.List (head (callees.Row 58) (at 2 3) None None [])
            (with (literal t.Int (pos 7)) (with (literal t.Int (pos 8)) none))) ∷
            declares (makes f.Vector (head (callees.Row 1) (at 3 3) None None [])
            (with (literal t.Int (pos 5)) (with (literal t.Int (pos 6)) none))) ∷
            declares (makes f.Vector (head (callees.Row 1) (at 4 3) None None []) (with (literal t.Int (pos 1)) none)) ∷
            declares (makes f.List (head (callees.Row 58) (at 5 3) None None []) (with (literal t.Int (pos 1))
            (with (literal t.Int (pos 2)) (with (literal t.Int (pos 3)) (with (literal t.Int (pos 4)) none))))) ∷
            declares (set_iterator (call (head (callees.Row 65) (at 6 17) None (Some 3) (Some 3 ∷ [])) none)) ∷
            block (Some 0) (all (
            declares (makes f.List (head (callees.Row 58) (at 8 5) None None []) (with (literal t.Int (pos 1)) none)) ∷
            does (moves_to 0 (call (head (callees.Row 64) (at 9 14) None (Some 4) (Some 5 ∷ [])) none)) ∷
            [])) ∷
            declares (set_iterator (call (head (callees.Row 8) (at 11 18) None (Some 1) (Some 1 ∷ [])) none)) ∷
            block (Some 1) (all (
            declares (makes f.Vector (head (callees.Row 1) (at 13 5) None None []) (with (literal t.Int (pos 1)) none)) ∷
            does (moves_to 1 (call (head (callees.Row 7) (at 14 15) None (Some 4) (Some 5 ∷ [])) none)) ∷
            [])) ∷
            does (evaluates (call (head (callees.Row 78) (at 16 5) (Some 2) (Some 3) (Some 3 ∷ [])) (with
            (call (head (callees.Row 64) (at 16 13) None (Some 3) (Some 3 ∷ [])) none)
            (with (call (head (callees.Row 65) (at 16 24) None (Some 3) (Some 3 ∷ [])) none) none)))) ∷
            does (prints (number (call (head (callees.Row 66) (at 17 18) None (Some 3) (Some 3 ∷ [])) none) ∷ [])) ∷
            []));
        close = at 18 1;
      } ∷
      [];
  main = 0;
  sites = at 10 3 ∷ at 15 3 ∷ at 16 5 ∷ at 18 1 ∷ [];
  loops = [];
  names = codes "w" ∷ codes "u" ∷ codes "u2" ∷ codes "c" ∷ codes "dead" ∷ codes "t" ∷ codes "udead" ∷ [];
  constants = pos 0 ∷ pos 1 ∷ pos 2 ∷ pos 3 ∷ pos 4 ∷ pos 5 ∷ pos 6 ∷ pos 7 ∷ pos 8 ∷ pos 9 ∷ [];
}

needs_of_list_erase_f_l_none_done_ends : run needs_of_list_erase_f_l_none_done [] [] 500 ≡ finish (Done (pos 0)) (codes "0") 0
unfolding digits table
needs_of_list_erase_f_l_none_done_ends = refl

-- needs of multiset.insert(f, l): none: done
-- int main() {
--   std::multiset<int> w = {7, 8};
--   std::vector<int> u = {5, 6};
--   std::vector<int> u2 = {1};
--   std::multiset<int> c = {1, 2, 2, 3};
--   auto dead = c.end();
--   {
--     std::multiset<int> t = {1};
--     dead = t.begin();
--   }
--   auto udead = u.end();
--   {
--     std::vector<int> t = {1};
--     udead = t.begin();
--   }
--   c.insert(u.begin(), u.end());
--   std::cout << c.size();
-- }
abbrev pub needs_of_multiset_insert_f_l_none_done : Typed
needs_of_multiset_insert_f_l_none_done = record {
  functions =
      record {
        name = codes "main";
        parameters = [];
        result = Some (parameter.Value t.Int);
        variables =
            record { kind = sort.Container; name = 0; place = at 2 22 } ∷
            record { kind = sort.Container; name = 1; place = at 3 20 } ∷
            record { kind = sort.Container; name = 2; place = at 4 20 } ∷
            record { kind = sort.Container; name = 3; place = at 5 22 } ∷
            record { kind = sort.Iterator; name = 4; place = at 6 8 } ∷
            record { kind = sort.Container; name = 5; place = at 8 24 } ∷
            record { kind = sort.Iterator; name = 6; place = at 11 8 } ∷
            record { kind = sort.Container; name = 5; place = at 13 22 } ∷
            [];
        body = block (Some 2) (all (
            declares (makes f.MultiSet (head (callees.Row 170) (at 2 3) None None [])
            (with (literal t.Int (pos 7)) (with (literal t.Int (pos 8)) none))) ∷
            declares (makes f.Vector (head (callees.Row 1) (at 3 3) None None [])
            (with (literal t.Int (pos 5)) (with (literal t.Int (pos 6)) none))) ∷
            declares (makes f.Vector (head (callees.Row 1) (at 4 3) None None []) (with (literal t.Int (pos 1)) none)) ∷
            declares (makes f.MultiSet (head (callees.Row 170) (at 5 3) None None []) (with (literal t.Int (pos 1))
            (with (literal t.Int (pos 2)) (with (literal t.Int (pos 2)) (with (literal t.Int (pos 3)) none))))) ∷
            declares (set_iterator (call (head (callees.Row 174) (at 6 17) None (Some 3) (Some 3 ∷ [])) none)) ∷
            block (Some 0) (all (
            declares (makes f.MultiSet (head (callees.Row 170) (at 8 5) None None []) (with (literal t.Int (pos 1)) none)) ∷
            does (moves_to 0 (call (head (callees.Row 173) (at 9 14) None (Some 4) (Some 5 ∷ [])) none)) ∷
            [])) ∷
            declares (set_iterator (call (head (callees.Row 8) (at 11 18) None (Some 1) (Some 1 ∷ [])) none)) ∷
            block (Some 1) (all (
            declares (makes f.Vector (head (callees.Row 1) (at 13 5) None None []) (with (literal t.Int (pos 1)) none)) ∷
            does (moves_to 1 (call (head (callees.Row 7) (at 14 15) None (Some 4) (Some 5 ∷ [])) none)) ∷
            [])) ∷
            does (evaluates (call (head (callees.Row 178) (at 16 5) None (Some 3) (Some 3 ∷ [])) (with
            (call (head (callees.Row 7) (at 16 14) None (Some 1) (Some 1 ∷ [])) none)
            (with (call (head (callees.Row 8) (at 16 25) None (Some 1) (Some 1 ∷ [])) none) none)))) ∷
            does (prints (number (call (head (callees.Row 175) (at 17 18) None (Some 3) (Some 3 ∷ [])) none) ∷ [])) ∷
            []));
        close = at 18 1;
      } ∷
      [];
  main = 0;
  sites = at 10 3 ∷ at 15 3 ∷ at 18 1 ∷ [];
  loops = [];
  names = codes "w" ∷ codes "u" ∷ codes "u2" ∷ codes "c" ∷ codes "dead" ∷ codes "t" ∷ codes "udead" ∷ [];
  constants = pos 0 ∷ pos 1 ∷ pos 2 ∷ pos 3 ∷ pos 4 ∷ pos 5 ∷ pos 6 ∷ pos 7 ∷ pos 8 ∷ pos 9 ∷ [];
}

needs_of_multiset_insert_f_l_none_done_ends : run needs_of_multiset_insert_f_l_none_done [] [] 500 ≡ finish (Done (pos 0)) (codes "6") 0
unfolding digits table
needs_of_multiset_insert_f_l_none_done_ends = refl

-- random program, input: trap (6)
-- int main() {
--   std::unordered_map<int, int> um1;
--   um1.emplace(!um1.size(), 3);
--   auto it2 = um1.find(5);
--   um1.erase(um1[7]);
--   um1.swap(um1);
--   um1.swap(um1);
--   um1.erase(um1.begin(), um1.end());
--   um1.erase(um1.begin());
--   um1.erase(10);
--   int x5 = um1.count(7);
--   std::cin >> x5;
--   it2 = um1.erase(um1.find(0));
-- }
abbrev pub random_program_input_trap_6 : Typed
random_program_input_trap_6 = record {
  functions =
      record {
        name = codes "main";
        parameters = [];
        result = Some (parameter.Value t.Int);
        variables =
            record { kind = sort.Container; name = 0; place = at 2 32 } ∷
            record { kind = sort.Iterator; name = 1; place = at 4 8 } ∷
            record { kind = sort.Scalar; name = 2; place = at 11 7 } ∷
            [];
        body = block (Some 9) (all (
            declares (makes f.HashMap (head (callees.Row 150) (at 2 3) None None []) none) ∷
            does (evaluates (call (head (callees.Row 159) (at 3 7) (Some 0) (Some 0) (Some 0 ∷ [])) (with
            (convert t.Int (logical_not (at 3 15) (call (head (callees.Row 155) (at 3 20) None (Some 0) (Some 0 ∷ [])) none)))
            (with (literal t.Int (pos 3)) none)))) ∷
            declares
            (set_iterator (call (head (callees.Row 166) (at 4 18) None (Some 0) (Some 0 ∷ [])) (with (literal t.Int (pos 5)) none))) ∷
            does (evaluates (call (head (callees.Row 162) (at 5 7) (Some 1) (Some 0) (Some 0 ∷ [])) (with
            (held (element (head (callees.Row 158) (at 5 16) (Some 2) (Some 0) (Some 0 ∷ [])) (with (literal t.Int (pos 7)) none)))
            none))) ∷
            does (evaluates (call (head (callees.Row 165) (at 6 7) (Some 3) (Some 0) (Some 0 ∷ Some 0 ∷ [])) (with (container 0) none))) ∷
            does (evaluates (call (head (callees.Row 165) (at 7 7) (Some 4) (Some 0) (Some 0 ∷ Some 0 ∷ [])) (with (container 0) none))) ∷
            does (evaluates (call (head (callees.Row 161) (at 8 7) (Some 5) (Some 0) (Some 0 ∷ [])) (with
            (call (head (callees.Row 153) (at 8 17) None (Some 0) (Some 0 ∷ [])) none)
            (with (call (head (callees.Row 154) (at 8 30) None (Some 0) (Some 0 ∷ [])) none) none)))) ∷
            does (evaluates (call (head (callees.Row 160) (at 9 7) (Some 6) (Some 0) (Some 0 ∷ []))
            (with (call (head (callees.Row 153) (at 9 17) None (Some 0) (Some 0 ∷ [])) none) none))) ∷
            does (evaluates (call (head (callees.Row 162) (at 10 7) (Some 7) (Some 0) (Some 0 ∷ [])) (with (literal t.Int (pos 10)) none))) ∷
            declares (set_scalar t.Int
            (convert t.Int (call (head (callees.Row 167) (at 11 16) None (Some 0) (Some 0 ∷ [])) (with (literal t.Int (pos 7)) none)))) ∷
            does (reads (0 ∷ [])) ∷
            does (moves_to 0 (call (head (callees.Row 160) (at 13 13) (Some 8) (Some 0) (Some 0 ∷ []))
            (with (call (head (callees.Row 166) (at 13 23) None (Some 0) (Some 0 ∷ [])) (with (literal t.Int (pos 0)) none)) none))) ∷
            []));
        close = at 14 1;
      } ∷
      [];
  main = 0;
  sites = at 3 7 ∷ at 5 7 ∷ at 5 16 ∷ at 6 7 ∷ at 7 7 ∷ at 8 7 ∷ at 9 7 ∷ at 10 7 ∷ at 13 13 ∷ at 14 1 ∷ [];
  loops = [];
  names = codes "um1" ∷ codes "it2" ∷ codes "x5" ∷ [];
  constants = negsuc 0 ∷ pos 0 ∷ pos 1 ∷ pos 2 ∷ pos 3 ∷ pos 4 ∷ pos 5 ∷ pos 6 ∷ pos 7 ∷ pos 8 ∷ pos 9 ∷ pos 10 ∷ pos 11 ∷ [];
}

random_program_input_trap_6_ends : run random_program_input_trap_6 (pos 2 ∷ pos 5 ∷ pos 2147483647 ∷ negsuc 2147483647 ∷ [])
    (0 ∷ 1 ∷ 4294967295 ∷ 3 ∷ 1 ∷ 4294967295 ∷ 1 ∷ 1 ∷ 0 ∷ 2 ∷ []) 40
    ≡ finish (Trapped (trap (at 9 7) 4 (codes "erase") 1 None None)) [] 0
unfolding table
random_program_input_trap_6_ends = refl

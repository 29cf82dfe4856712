-- Closed runs of texts, each made of a C++ text and its end and output by tools/run_goal.py; the texts and ends are not this program's own answers.
use Rattle.sl_base.specs.declared.scalar.Scalar.TheVariants as t
use Rattle.sl_base.specs.declared.form.Form.TheVariants as f
use Rattle.sl_syntax.specs.declared.operator.Arithmetic.TheVariants as o
use Rattle.sl_syntax.specs.declared.operator.Comparison.TheVariants as c
use Rattle.sl_syntax.specs.declared.typed.callee.Callee.TheVariants as callees
use Rattle.sl_syntax.specs.declared.typed.element.ElementPart.TheVariants as part
use Rattle.sl_syntax.specs.declared.typed.element.Taken.TheVariants as taken
use Rattle.sl_syntax.specs.declared.typed.operator.Operator.TheVariants as operators
use Rattle.sl_syntax.specs.declared.typed.parameter.ParameterKind.TheVariants as parameter
use Rattle.sl_syntax.specs.declared.typed.variable.VariableKind.TheVariants as sort
use Rattle.std.specs.Prelude.{◌≡◌, refl, [], ◌∷◌, Some, None, pos, negsuc, codes}
use Rattle.std.specs.Fmt.{digits}
use Rattle.sl_syntax.specs.declared.typed.step.Fix.TheVariants.{Prefix}
use Rattle.sl_syntax.specs.Typed.{literal, held, iterator, convert, logical_not, logical_and, arithmetic, move, call, container, scalar}
use Rattle.sl_syntax.specs.Typed.{reference, element, none, with, text, number, prints, evaluates, updates, moves_to, set_scalar}
use Rattle.sl_syntax.specs.Typed.{set_iterator, binds_reference, makes, block, declares, range_for, does, Typed}
use Rattle.sl_specs.specs.Table.{table}
use Rattle.sl_model.specs.Runs.Ends.{Trapped}
use Rattle.sl_model.specs.Runs.Run.{run}
use Rattle.sl_model.proofs.Examples.Short.{at, head, all, finish, trap}

-- operator != right of unordered_set, invalid: trap
-- int main() {
--   std::unordered_set<int> c = {1, 2, 3, 4};
--   std::unordered_set<int> w = {7};
--   auto it = c.find(1);
--   c.clear();
--   std::cout << (c.end() != it);
-- }
abbrev pub operator_right_of_unordered_set_invalid_trap : Typed
operator_right_of_unordered_set_invalid_trap = record {
  functions =
      record {
        name = codes "main";
        parameters = [];
        result = Some (parameter.Value t.Int);
        variables =
            record { kind = sort.Container; name = 0; place = at 2 27 } ∷
            record { kind = sort.Container; name = 1; place = at 3 27 } ∷
            record { kind = sort.Iterator; name = 2; place = at 4 8 } ∷
            [];
        body = block (Some 1) (all (
            declares (makes f.HashSet (head (callees.Row 132) (at 2 3) None None []) (with (literal t.Int (pos 1))
            (with (literal t.Int (pos 2)) (with (literal t.Int (pos 3)) (with (literal t.Int (pos 4)) none))))) ∷
            declares (makes f.HashSet (head (callees.Row 132) (at 3 3) None None []) (with (literal t.Int (pos 7)) none)) ∷
            declares
            (set_iterator (call (head (callees.Row 148) (at 4 15) None (Some 0) (Some 0 ∷ [])) (with (literal t.Int (pos 1)) none))) ∷
            does (evaluates (call (head (callees.Row 145) (at 5 5) (Some 0) (Some 0) (Some 0 ∷ [])) none)) ∷
            does (prints (
            number (call (head (callees.Operator (operators.Compare c.NotEqual)) (at 6 25) None None (None ∷ None ∷ Some 2 ∷ []))
            (with (call (head (callees.Row 137) (at 6 19) None (Some 0) (Some 0 ∷ [])) none) (with (iterator 0) none))) ∷
            [])) ∷
            []));
        close = at 7 1;
      } ∷
      [];
  main = 0;
  sites = at 5 5 ∷ at 7 1 ∷ [];
  loops = [];
  names = codes "c" ∷ codes "w" ∷ codes "it" ∷ [];
  constants = pos 0 ∷ pos 1 ∷ pos 2 ∷ pos 3 ∷ pos 4 ∷ pos 5 ∷ pos 6 ∷ pos 7 ∷ pos 8 ∷ [];
}

operator_right_of_unordered_set_invalid_trap_ends : run operator_right_of_unordered_set_invalid_trap [] [] 500
    ≡ finish (Trapped (trap (at 6 25) 1 (codes "!=") 2 (Some 2) (Some 0))) [] 0
unfolding table
operator_right_of_unordered_set_invalid_trap_ends = refl

-- random program, straight: trap (9)
-- int main() {
--   std::vector<int> v1(5, 1);
--   v1.insert(v1.end(), 10 - 10);
--   v1.erase(std::lower_bound(v1.begin(), v1.end(), 5), v1.begin());
--   std::cout << 7 << "\n";
--   int x4 = 0;
--   bool x5 = v1.size();
-- }
abbrev pub random_program_straight_trap_9 : Typed
random_program_straight_trap_9 = record {
  functions =
      record {
        name = codes "main";
        parameters = [];
        result = Some (parameter.Value t.Int);
        variables =
            record { kind = sort.Container; name = 0; place = at 2 20 } ∷
            record { kind = sort.Scalar; name = 1; place = at 6 7 } ∷
            record { kind = sort.Scalar; name = 2; place = at 7 8 } ∷
            [];
        body = block (Some 2) (all (
            declares (makes f.Vector (head (callees.Row 4) (at 2 3) None None [])
            (with (convert t.Size (literal t.Int (pos 5))) (with (literal t.Int (pos 1)) none))) ∷
            does (evaluates (call (head (callees.Row 17) (at 3 6) (Some 0) (Some 0) (Some 0 ∷ [])) (with
            (call (head (callees.Row 8) (at 3 16) None (Some 0) (Some 0 ∷ [])) none)
            (with (arithmetic o.Subtract t.Int (at 3 26) (literal t.Int (pos 10)) (literal t.Int (pos 10))) none)))) ∷
            does (evaluates (call (head (callees.Row 21) (at 4 6) (Some 1) (Some 0) (Some 0 ∷ [])) (with (call
            (head (callees.Row 210) (at 4 12) None None []) (with
            (call (head (callees.Row 7) (at 4 32) None (Some 0) (Some 0 ∷ [])) none)
            (with (call (head (callees.Row 8) (at 4 44) None (Some 0) (Some 0 ∷ [])) none) (with (literal t.Int (pos 5)) none))))
            (with (call (head (callees.Row 7) (at 4 58) None (Some 0) (Some 0 ∷ [])) none) none)))) ∷
            does (prints (number (literal t.Int (pos 7)) ∷ text (codes "\n") ∷ [])) ∷
            declares (set_scalar t.Int (literal t.Int (pos 0))) ∷
            declares (set_scalar t.Bool (convert t.Bool (call (head (callees.Row 9) (at 7 16) None (Some 0) (Some 0 ∷ [])) none))) ∷
            []));
        close = at 8 1;
      } ∷
      [];
  main = 0;
  sites = at 3 6 ∷ at 4 6 ∷ at 8 1 ∷ [];
  loops = [];
  names = codes "v1" ∷ codes "x4" ∷ codes "x5" ∷ [];
  constants = negsuc 0 ∷ pos 0 ∷ pos 1 ∷ pos 2 ∷ pos 4 ∷ pos 5 ∷ pos 6 ∷ pos 7 ∷ pos 8 ∷ pos 9 ∷ pos 10 ∷ pos 11 ∷ [];
}

random_program_straight_trap_9_ends : run random_program_straight_trap_9
    (negsuc 0 ∷ pos 2 ∷ pos 2147483647 ∷ pos 2 ∷ pos 1 ∷ negsuc 0 ∷ pos 2 ∷ [])
    (9 ∷ 2 ∷ 0 ∷ 0 ∷ 9 ∷ 2 ∷ 3 ∷ 4294967295 ∷ 2 ∷ 9 ∷ 0 ∷ 9 ∷ 2 ∷ 4294967295 ∷ 0 ∷ 0 ∷ 3 ∷ 1 ∷ 4294967295 ∷ 2 ∷ 3 ∷ 9 ∷ 2 ∷ 2 ∷ 3 ∷ 2 ∷ [])
    40
    ≡ finish (Trapped (trap (at 4 6) 3 (codes "erase") 1 None None)) [] 0
unfolding table
random_program_straight_trap_9_ends = refl

-- random program, straight: trap (2)
-- int main() {
--   std::vector<int> v1 = {0, 7, 2};
--   std::multiset<int> ms2;
--   v1.push_back(ms2.count(10));
--   {
--     auto it3 = std::upper_bound(v1.begin(), v1.end(), 2);
--     std::multiset<int> ms4 = {5, 2, 1, 7, 0};
--     v1.resize(2);
--   }
--   auto it8 = v1.end();
-- }
abbrev pub random_program_straight_trap_2 : Typed
random_program_straight_trap_2 = record {
  functions =
      record {
        name = codes "main";
        parameters = [];
        result = Some (parameter.Value t.Int);
        variables =
            record { kind = sort.Container; name = 0; place = at 2 20 } ∷
            record { kind = sort.Container; name = 1; place = at 3 22 } ∷
            record { kind = sort.Iterator; name = 2; place = at 6 10 } ∷
            record { kind = sort.Container; name = 3; place = at 7 24 } ∷
            record { kind = sort.Iterator; name = 4; place = at 10 8 } ∷
            [];
        body = block (Some 3) (all (
            declares (makes f.Vector (head (callees.Row 1) (at 2 3) None None [])
            (with (literal t.Int (pos 0)) (with (literal t.Int (pos 7)) (with (literal t.Int (pos 2)) none)))) ∷
            declares (makes f.MultiSet (head (callees.Row 168) (at 3 3) None None []) none) ∷
            does (evaluates (call (head (callees.Row 15) (at 4 6) (Some 0) (Some 0) (Some 0 ∷ [])) (with (convert t.Int
            (call (head (callees.Row 185) (at 4 20) None (Some 1) (Some 1 ∷ [])) (with (literal t.Int (pos 10)) none))) none))) ∷
            block (Some 2) (all (
            declares (set_iterator (call (head (callees.Row 211) (at 6 16) None None []) (with
            (call (head (callees.Row 7) (at 6 36) None (Some 0) (Some 0 ∷ [])) none) (with
            (call (head (callees.Row 8) (at 6 48) None (Some 0) (Some 0 ∷ [])) none) (with (literal t.Int (pos 2)) none))))) ∷
            declares (makes f.MultiSet (head (callees.Row 170) (at 7 5) None None []) (with (literal t.Int (pos 5)) (with
            (literal t.Int (pos 2))
            (with (literal t.Int (pos 1)) (with (literal t.Int (pos 7)) (with (literal t.Int (pos 0)) none)))))) ∷
            does (evaluates (call (head (callees.Row 23) (at 8 8) (Some 1) (Some 0) (Some 0 ∷ []))
            (with (convert t.Size (literal t.Int (pos 2))) none))) ∷
            [])) ∷
            declares (set_iterator (call (head (callees.Row 8) (at 10 17) None (Some 0) (Some 0 ∷ [])) none)) ∷
            []));
        close = at 11 1;
      } ∷
      [];
  main = 0;
  sites = at 4 6 ∷ at 8 8 ∷ at 9 3 ∷ at 11 1 ∷ [];
  loops = [];
  names = codes "v1" ∷ codes "ms2" ∷ codes "it3" ∷ codes "ms4" ∷ codes "it8" ∷ [];
  constants = negsuc 0 ∷ pos 0 ∷ pos 1 ∷ pos 2 ∷ pos 3 ∷ pos 4 ∷ pos 5 ∷ pos 6 ∷ pos 7 ∷ pos 8 ∷ pos 9 ∷ pos 10 ∷ pos 11 ∷ [];
}

random_program_straight_trap_2_ends : run random_program_straight_trap_2
    (pos 2147483647 ∷ pos 2 ∷ pos 2 ∷ pos 1 ∷ pos 2 ∷ pos 5 ∷ pos 1 ∷ [])
    (2 ∷ 1 ∷ 4294967295 ∷ 2 ∷ 9 ∷ 0 ∷ 9 ∷ 1 ∷ 2 ∷ 0 ∷ 3 ∷ 4294967295 ∷ 2 ∷ 3 ∷ 1 ∷ 0 ∷ 3 ∷ 3 ∷ 2 ∷ 4294967295 ∷ []) 5
    ≡ finish (Trapped (trap (at 6 16) 10 (codes "upper_bound") 1 None None)) [] 0
unfolding table
random_program_straight_trap_2_ends = refl

-- random program, straight: trap (5)
-- int main() {
--   std::unordered_set<int> us1{3, 1, 0};
--   {
--     int x3 = !us1.empty() && 10;
--   }
--   us1.erase(4);
--   auto it4 = us1.find(0);
--   us1.erase(1);
--   std::size_t x5 = 7;
--   ++it4;
--   auto it6 = it4;
--   auto it7 = it4;
--   auto& r8 = *it4;
-- }
abbrev pub random_program_straight_trap_5 : Typed
random_program_straight_trap_5 = record {
  functions =
      record {
        name = codes "main";
        parameters = [];
        result = Some (parameter.Value t.Int);
        variables =
            record { kind = sort.Container; name = 0; place = at 2 27 } ∷
            record { kind = sort.Scalar; name = 1; place = at 4 9 } ∷
            record { kind = sort.Iterator; name = 2; place = at 7 8 } ∷
            record { kind = sort.Scalar; name = 3; place = at 9 15 } ∷
            record { kind = sort.Iterator; name = 4; place = at 11 8 } ∷
            record { kind = sort.Iterator; name = 5; place = at 12 8 } ∷
            record { kind = sort.Reference; name = 6; place = at 13 9 } ∷
            [];
        body = block (Some 2) (all (
            declares (makes f.HashSet (head (callees.Row 132) (at 2 3) None None [])
            (with (literal t.Int (pos 3)) (with (literal t.Int (pos 1)) (with (literal t.Int (pos 0)) none)))) ∷
            block None (all (
            declares (set_scalar t.Int (convert t.Int (logical_and (at 4 27)
            (logical_not (at 4 14) (call (head (callees.Row 139) (at 4 19) None (Some 0) (Some 0 ∷ [])) none))
            (literal t.Int (pos 10))))) ∷
            [])) ∷
            does (evaluates (call (head (callees.Row 144) (at 6 7) (Some 0) (Some 0) (Some 0 ∷ [])) (with (literal t.Int (pos 4)) none))) ∷
            declares
            (set_iterator (call (head (callees.Row 148) (at 7 18) None (Some 0) (Some 0 ∷ [])) (with (literal t.Int (pos 0)) none))) ∷
            does (evaluates (call (head (callees.Row 144) (at 8 7) (Some 1) (Some 0) (Some 0 ∷ [])) (with (literal t.Int (pos 1)) none))) ∷
            declares (set_scalar t.Size (convert t.Size (literal t.Int (pos 7)))) ∷
            does (evaluates (move Prefix 0 (head (callees.Operator operators.Increment) (at 10 3) None None (None ∷ Some 2 ∷ [])) none)) ∷
            declares (set_iterator (iterator 0)) ∷
            declares (set_iterator (iterator 0)) ∷
            declares (binds_reference (head (callees.Operator operators.Dereference) (at 13 14) None None (None ∷ Some 2 ∷ []))
            (with (iterator 0) none)) ∷
            []));
        close = at 14 1;
      } ∷
      [];
  main = 0;
  sites = at 6 7 ∷ at 8 7 ∷ at 14 1 ∷ [];
  loops = [];
  names = codes "us1" ∷ codes "x3" ∷ codes "it4" ∷ codes "x5" ∷ codes "it6" ∷ codes "it7" ∷ codes "r8" ∷ [];
  constants = negsuc 0 ∷ pos 0 ∷ pos 1 ∷ pos 2 ∷ pos 3 ∷ pos 4 ∷ pos 5 ∷ pos 6 ∷ pos 7 ∷ pos 8 ∷ pos 9 ∷ pos 10 ∷ pos 11 ∷ [];
}

random_program_straight_trap_5_ends : run random_program_straight_trap_5 (negsuc 2147483647 ∷ pos 5 ∷ negsuc 2147483647 ∷ pos 2 ∷ [])
    (0 ∷ 2 ∷ 3 ∷ 3 ∷ 1 ∷ 1 ∷ 0 ∷ 4294967295 ∷ 0 ∷ 1 ∷ 0 ∷ 1 ∷ 1 ∷ 0 ∷ 1 ∷ 1 ∷ 4294967295 ∷ 2 ∷ 2 ∷ 9 ∷ 9 ∷ 4294967295 ∷ 2 ∷ 3 ∷ 9 ∷ 0 ∷ [])
    400
    ≡ finish (Trapped (trap (at 13 14) 4 (codes "*") 1 (Some 2) None)) [] 0
unfolding table
random_program_straight_trap_5_ends = refl

-- needs of list.front(): empty: trap
-- int main() {
--   std::list<int> w = {7, 8};
--   std::vector<int> u = {5, 6};
--   std::vector<int> u2 = {1};
--   std::list<int> c = {1, 2, 3, 4};
--   auto dead = c.end();
--   {
--     std::list<int> t = {1};
--     dead = t.begin();
--   }
--   auto udead = u.end();
--   {
--     std::vector<int> t = {1};
--     udead = t.begin();
--   }
--   c.clear();
--   std::cout << c.front();
-- }
abbrev pub needs_of_list_front_empty_trap : Typed
needs_of_list_front_empty_trap = record {
  functions =
      record {
        name = codes "main";
        parameters = [];
        result = Some (parameter.Value t.Int);
        variables =
            record { kind = sort.Container; name = 0; place = at 2 18 } ∷
            record { kind = sort.Container; name = 1; place = at 3 20 } ∷
            record { kind = sort.Container; name = 2; place = at 4 20 } ∷
            record { kind = sort.Container; name = 3; place = at 5 18 } ∷
            record { kind = sort.Iterator; name = 4; place = at 6 8 } ∷
            record { kind = sort.Container; name = 5; place = at 8 20 } ∷
            record { kind = sort.Iterator; name = 6; place = at 11 8 } ∷
            record { kind = sort.Container; name = 5; place = at 13 22 } ∷
            [];
        body = block (Some 3) (all (
            declares (makes f.List (head (callees.Row 58) (at 2 3) None None [])
            (with (literal t.Int (pos 7)) (with (literal t.Int (pos 8)) none))) ∷
            declares (makes f.Vector (head (callees.Row 1) (at 3 3) None None [])
            (with (literal t.Int (pos 5)) (with (literal t.Int (pos 6)) none))) ∷
            declares (makes f.Vector (head (callees.Row 1) (at 4 3) None None []) (with (literal t.Int (pos 1)) none)) ∷
            declares (makes f.List (head (callees.Row 58) (at 5 3) None None []) (with (literal t.Int (pos 1))
            (with (literal t.Int (pos 2)) (with (literal t.Int (pos 3)) (with (literal t.Int (pos 4)) none))))) ∷
            declares (set_iterator (call (head (callees.Row 65) (at 6 17) None (Some 3) (Some 3 ∷ [])) none)) ∷
            block (Some 0) (all (
            declares (makes f.List (head (callees.Row 58) (at 8 5) None None []) (with (literal t.Int (pos 1)) none)) ∷
            does (moves_to 0 (call (head (callees.Row 64) (at 9 14) None (Some 4) (Some 5 ∷ [])) none)) ∷
            [])) ∷
            declares (set_iterator (call (head (callees.Row 8) (at 11 18) None (Some 1) (Some 1 ∷ [])) none)) ∷
            block (Some 1) (all (
            declares (makes f.Vector (head (callees.Row 1) (at 13 5) None None []) (with (literal t.Int (pos 1)) none)) ∷
            does (moves_to 1 (call (head (callees.Row 7) (at 14 15) None (Some 4) (Some 5 ∷ [])) none)) ∷
            [])) ∷
            does (evaluates (call (head (callees.Row 79) (at 16 5) (Some 2) (Some 3) (Some 3 ∷ [])) none)) ∷
            does (prints (number (held (element (head (callees.Row 68) (at 17 18) None (Some 3) (Some 3 ∷ [])) none)) ∷ [])) ∷
            []));
        close = at 18 1;
      } ∷
      [];
  main = 0;
  sites = at 10 3 ∷ at 15 3 ∷ at 16 5 ∷ at 18 1 ∷ [];
  loops = [];
  names = codes "w" ∷ codes "u" ∷ codes "u2" ∷ codes "c" ∷ codes "dead" ∷ codes "t" ∷ codes "udead" ∷ [];
  constants = pos 0 ∷ pos 1 ∷ pos 2 ∷ pos 3 ∷ pos 4 ∷ pos 5 ∷ pos 6 ∷ pos 7 ∷ pos 8 ∷ pos 9 ∷ [];
}

needs_of_list_front_empty_trap_ends : run needs_of_list_front_empty_trap [] [] 500
    ≡ finish (Trapped (trap (at 17 18) 6 (codes "front") 0 (Some 3) None)) [] 0
unfolding table
needs_of_list_front_empty_trap_ends = refl

-- needs of list.merge(c): c unsorted: trap
-- int main() {
--   std::list<int> w = {7, 8};
--   std::vector<int> u = {5, 6};
--   std::vector<int> u2 = {1};
--   std::list<int> c = {1, 2, 3, 4};
--   auto dead = c.end();
--   {
--     std::list<int> t = {1};
--     dead = t.begin();
--   }
--   auto udead = u.end();
--   {
--     std::vector<int> t = {1};
--     udead = t.begin();
--   }
--   w.reverse();
--   c.merge(w);
--   std::cout << c.size();
-- }
abbrev pub needs_of_list_merge_c_c_unsorted_trap : Typed
needs_of_list_merge_c_c_unsorted_trap = record {
  functions =
      record {
        name = codes "main";
        parameters = [];
        result = Some (parameter.Value t.Int);
        variables =
            record { kind = sort.Container; name = 0; place = at 2 18 } ∷
            record { kind = sort.Container; name = 1; place = at 3 20 } ∷
            record { kind = sort.Container; name = 2; place = at 4 20 } ∷
            record { kind = sort.Container; name = 3; place = at 5 18 } ∷
            record { kind = sort.Iterator; name = 4; place = at 6 8 } ∷
            record { kind = sort.Container; name = 5; place = at 8 20 } ∷
            record { kind = sort.Iterator; name = 6; place = at 11 8 } ∷
            record { kind = sort.Container; name = 5; place = at 13 22 } ∷
            [];
        body = block (Some 2) (all (
            declares (makes f.List (head (callees.Row 58) (at 2 3) None None [])
            (with (literal t.Int (pos 7)) (with (literal t.Int (pos 8)) none))) ∷
            declares (makes f.Vector (head (callees.Row 1) (at 3 3) None None [])
            (with (literal t.Int (pos 5)) (with (literal t.Int (pos 6)) none))) ∷
            declares (makes f.Vector (head (callees.Row 1) (at 4 3) None None []) (with (literal t.Int (pos 1)) none)) ∷
            declares (makes f.List (head (callees.Row 58) (at 5 3) None None []) (with (literal t.Int (pos 1))
            (with (literal t.Int (pos 2)) (with (literal t.Int (pos 3)) (with (literal t.Int (pos 4)) none))))) ∷
            declares (set_iterator (call (head (callees.Row 65) (at 6 17) None (Some 3) (Some 3 ∷ [])) none)) ∷
            block (Some 0) (all (
            declares (makes f.List (head (callees.Row 58) (at 8 5) None None []) (with (literal t.Int (pos 1)) none)) ∷
            does (moves_to 0 (call (head (callees.Row 64) (at 9 14) None (Some 4) (Some 5 ∷ [])) none)) ∷
            [])) ∷
            declares (set_iterator (call (head (callees.Row 8) (at 11 18) None (Some 1) (Some 1 ∷ [])) none)) ∷
            block (Some 1) (all (
            declares (makes f.Vector (head (callees.Row 1) (at 13 5) None None []) (with (literal t.Int (pos 1)) none)) ∷
            does (moves_to 1 (call (head (callees.Row 7) (at 14 15) None (Some 4) (Some 5 ∷ [])) none)) ∷
            [])) ∷
            does (evaluates (call (head (callees.Row 85) (at 16 5) None (Some 0) (Some 0 ∷ [])) none)) ∷
            does (evaluates (call (head (callees.Row 88) (at 17 5) None (Some 3) (Some 3 ∷ Some 0 ∷ [])) (with (container 0) none))) ∷
            does (prints (number (call (head (callees.Row 66) (at 18 18) None (Some 3) (Some 3 ∷ [])) none) ∷ [])) ∷
            []));
        close = at 19 1;
      } ∷
      [];
  main = 0;
  sites = at 10 3 ∷ at 15 3 ∷ at 19 1 ∷ [];
  loops = [];
  names = codes "w" ∷ codes "u" ∷ codes "u2" ∷ codes "c" ∷ codes "dead" ∷ codes "t" ∷ codes "udead" ∷ [];
  constants = pos 0 ∷ pos 1 ∷ pos 2 ∷ pos 3 ∷ pos 4 ∷ pos 5 ∷ pos 6 ∷ pos 7 ∷ pos 8 ∷ pos 9 ∷ [];
}

needs_of_list_merge_c_c_unsorted_trap_ends : run needs_of_list_merge_c_c_unsorted_trap [] [] 500
    ≡ finish (Trapped (trap (at 17 5) 11 (codes "merge") 1 (Some 0) None)) [] 0
unfolding table
needs_of_list_merge_c_c_unsorted_trap_ends = refl

-- needs of list.splice(p, c, f, l): p in its range: trap
-- int main() {
--   std::list<int> w = {7, 8};
--   std::vector<int> u = {5, 6};
--   std::vector<int> u2 = {1};
--   std::list<int> c = {1, 2, 3, 4};
--   auto dead = c.end();
--   {
--     std::list<int> t = {1};
--     dead = t.begin();
--   }
--   auto udead = u.end();
--   {
--     std::vector<int> t = {1};
--     udead = t.begin();
--   }
--   c.splice(std::next(c.begin()), c, c.begin(), c.end());
--   std::cout << c.size();
-- }
abbrev pub needs_of_list_splice_p_c_f_l_p_in_its_range_trap : Typed
needs_of_list_splice_p_c_f_l_p_in_its_range_trap = record {
  functions =
      record {
        name = codes "main";
        parameters = [];
        result = Some (parameter.Value t.Int);
        variables =
            record { kind = sort.Container; name = 0; place = at 2 18 } ∷
            record { kind = sort.Container; name = 1; place = at 3 20 } ∷
            record { kind = sort.Container; name = 2; place = at 4 20 } ∷
            record { kind = sort.Container; name = 3; place = at 5 18 } ∷
            record { kind = sort.Iterator; name = 4; place = at 6 8 } ∷
            record { kind = sort.Container; name = 5; place = at 8 20 } ∷
            record { kind = sort.Iterator; name = 6; place = at 11 8 } ∷
            record { kind = sort.Container; name = 5; place = at 13 22 } ∷
            [];
        body = block (Some 2) (all (
            declares (makes f.List (head (callees.Row 58) (at 2 3) None None [])
            (with (literal t.Int (pos 7)) (with (literal t.Int (pos 8)) none))) ∷
            declares (makes f.Vector (head (callees.Row 1) (at 3 3) None None [])
            (with (literal t.Int (pos 5)) (with (literal t.Int (pos 6)) none))) ∷
            declares (makes f.Vector (head (callees.Row 1) (at 4 3) None None []) (with (literal t.Int (pos 1)) none)) ∷
            declares (makes f.List (head (callees.Row 58) (at 5 3) None None []) (with (literal t.Int (pos 1))
            (with (literal t.Int (pos 2)) (with (literal t.Int (pos 3)) (with (literal t.Int (pos 4)) none))))) ∷
            declares (set_iterator (call (head (callees.Row 65) (at 6 17) None (Some 3) (Some 3 ∷ [])) none)) ∷
            block (Some 0) (all (
            declares (makes f.List (head (callees.Row 58) (at 8 5) None None []) (with (literal t.Int (pos 1)) none)) ∷
            does (moves_to 0 (call (head (callees.Row 64) (at 9 14) None (Some 4) (Some 5 ∷ [])) none)) ∷
            [])) ∷
            declares (set_iterator (call (head (callees.Row 8) (at 11 18) None (Some 1) (Some 1 ∷ [])) none)) ∷
            block (Some 1) (all (
            declares (makes f.Vector (head (callees.Row 1) (at 13 5) None None []) (with (literal t.Int (pos 1)) none)) ∷
            does (moves_to 1 (call (head (callees.Row 7) (at 14 15) None (Some 4) (Some 5 ∷ [])) none)) ∷
            [])) ∷
            does (evaluates (call (head (callees.Row 91) (at 16 5) None (Some 3) (Some 3 ∷ None ∷ Some 3 ∷ [])) (with (call
            (head (callees.Row 226) (at 16 12) None None [])
            (with (call (head (callees.Row 64) (at 16 24) None (Some 3) (Some 3 ∷ [])) none) none)) (with (container 3) (with
            (call (head (callees.Row 64) (at 16 39) None (Some 3) (Some 3 ∷ [])) none)
            (with (call (head (callees.Row 65) (at 16 50) None (Some 3) (Some 3 ∷ [])) none) none)))))) ∷
            does (prints (number (call (head (callees.Row 66) (at 17 18) None (Some 3) (Some 3 ∷ [])) none) ∷ [])) ∷
            []));
        close = at 18 1;
      } ∷
      [];
  main = 0;
  sites = at 10 3 ∷ at 15 3 ∷ at 18 1 ∷ [];
  loops = [];
  names = codes "w" ∷ codes "u" ∷ codes "u2" ∷ codes "c" ∷ codes "dead" ∷ codes "t" ∷ codes "udead" ∷ [];
  constants = pos 0 ∷ pos 1 ∷ pos 2 ∷ pos 3 ∷ pos 4 ∷ pos 5 ∷ pos 6 ∷ pos 7 ∷ pos 8 ∷ pos 9 ∷ [];
}

needs_of_list_splice_p_c_f_l_p_in_its_range_trap_ends : run needs_of_list_splice_p_c_f_l_p_in_its_range_trap [] [] 500
    ≡ finish (Trapped (trap (at 16 5) 9 (codes "splice") 1 None None)) [] 0
unfolding table
needs_of_list_splice_p_c_f_l_p_in_its_range_trap_ends = refl

-- kills of vector.clear() four, no room: iterator id: trap
-- int main() {
--   std::vector<int> w = {7, 8};
--   std::vector<int> u = {5, 6};
--   std::vector<int> z;
--   std::vector<int> c = {1, 2, 3, 4};
--   auto ia = c.begin();
--   auto ib = std::next(c.begin());
--   auto id = std::prev(c.end());
--   auto ie = c.end();
--   int& ra = c.front();
--   auto& rb = c[1];
--   const int& rd = c.back();
--   c.clear();
--   std::cout << *id << " ";
-- }
abbrev pub kills_of_vector_clear_four_no_room_iterator_id_trap : Typed
kills_of_vector_clear_four_no_room_iterator_id_trap = record {
  functions =
      record {
        name = codes "main";
        parameters = [];
        result = Some (parameter.Value t.Int);
        variables =
            record { kind = sort.Container; name = 0; place = at 2 20 } ∷
            record { kind = sort.Container; name = 1; place = at 3 20 } ∷
            record { kind = sort.Container; name = 2; place = at 4 20 } ∷
            record { kind = sort.Container; name = 3; place = at 5 20 } ∷
            record { kind = sort.Iterator; name = 4; place = at 6 8 } ∷
            record { kind = sort.Iterator; name = 5; place = at 7 8 } ∷
            record { kind = sort.Iterator; name = 6; place = at 8 8 } ∷
            record { kind = sort.Iterator; name = 7; place = at 9 8 } ∷
            record { kind = sort.Reference; name = 8; place = at 10 8 } ∷
            record { kind = sort.Reference; name = 9; place = at 11 9 } ∷
            record { kind = sort.Reference; name = 10; place = at 12 14 } ∷
            [];
        body = block (Some 1) (all (
            declares (makes f.Vector (head (callees.Row 1) (at 2 3) None None [])
            (with (literal t.Int (pos 7)) (with (literal t.Int (pos 8)) none))) ∷
            declares (makes f.Vector (head (callees.Row 1) (at 3 3) None None [])
            (with (literal t.Int (pos 5)) (with (literal t.Int (pos 6)) none))) ∷
            declares (makes f.Vector (head (callees.Row 0) (at 4 3) None None []) none) ∷
            declares (makes f.Vector (head (callees.Row 1) (at 5 3) None None []) (with (literal t.Int (pos 1))
            (with (literal t.Int (pos 2)) (with (literal t.Int (pos 3)) (with (literal t.Int (pos 4)) none))))) ∷
            declares (set_iterator (call (head (callees.Row 7) (at 6 15) None (Some 3) (Some 3 ∷ [])) none)) ∷
            declares (set_iterator (call (head (callees.Row 226) (at 7 13) None None [])
            (with (call (head (callees.Row 7) (at 7 25) None (Some 3) (Some 3 ∷ [])) none) none))) ∷
            declares (set_iterator (call (head (callees.Row 227) (at 8 13) None None [])
            (with (call (head (callees.Row 8) (at 8 25) None (Some 3) (Some 3 ∷ [])) none) none))) ∷
            declares (set_iterator (call (head (callees.Row 8) (at 9 15) None (Some 3) (Some 3 ∷ [])) none)) ∷
            declares (binds_reference (head (callees.Row 11) (at 10 15) None (Some 3) (Some 3 ∷ [])) none) ∷
            declares (binds_reference (head (callees.Row 14) (at 11 15) None (Some 3) (Some 3 ∷ []))
            (with (convert t.Size (literal t.Int (pos 1))) none)) ∷
            declares (binds_reference (head (callees.Row 12) (at 12 21) None (Some 3) (Some 3 ∷ [])) none) ∷
            does (evaluates (call (head (callees.Row 22) (at 13 5) (Some 0) (Some 3) (Some 3 ∷ [])) none)) ∷
            does (prints (
            number (held (element (head (callees.Operator operators.Dereference) (at 14 16) None None (None ∷ Some 6 ∷ []))
            (with (iterator 2) none))) ∷
            text (codes " ") ∷
            [])) ∷
            []));
        close = at 15 1;
      } ∷
      [];
  main = 0;
  sites = at 13 5 ∷ at 15 1 ∷ [];
  loops = [];
  names =
      codes "w" ∷
      codes "u" ∷
      codes "z" ∷
      codes "c" ∷
      codes "ia" ∷
      codes "ib" ∷
      codes "id" ∷
      codes "ie" ∷
      codes "ra" ∷
      codes "rb" ∷
      codes "rd" ∷
      [];
  constants = pos 0 ∷ pos 1 ∷ pos 2 ∷ pos 3 ∷ pos 4 ∷ pos 5 ∷ pos 6 ∷ pos 7 ∷ pos 8 ∷ pos 9 ∷ [];
}

kills_of_vector_clear_four_no_room_iterator_id_trap_ends : run kills_of_vector_clear_four_no_room_iterator_id_trap [] [] 500
    ≡ finish (Trapped (trap (at 14 16) 1 (codes "*") 1 (Some 6) (Some 0))) [] 0
unfolding table
kills_of_vector_clear_four_no_room_iterator_id_trap_ends = refl

-- kills of list.assign(n, x) more: end ie: trap
-- int main() {
--   std::list<int> w = {7, 8};
--   std::vector<int> u = {5, 6};
--   std::vector<int> z;
--   std::list<int> c = {1, 2, 3, 4};
--   auto ia = c.begin();
--   auto ib = std::next(c.begin());
--   auto id = std::prev(c.end());
--   auto ie = c.end();
--   int& ra = c.front();
--   auto& rb = *ib;
--   const int& rd = c.back();
--   c.assign(6, 9);
--   for (int e : c) std::cout << e << ",";
--   for (int e : w) std::cout << e << ",";
--   std::cout << (ie == c.end()) << " ";
-- }
abbrev pub kills_of_list_assign_n_x_more_end_ie_trap : Typed
kills_of_list_assign_n_x_more_end_ie_trap = record {
  functions =
      record {
        name = codes "main";
        parameters = [];
        result = Some (parameter.Value t.Int);
        variables =
            record { kind = sort.Container; name = 0; place = at 2 18 } ∷
            record { kind = sort.Container; name = 1; place = at 3 20 } ∷
            record { kind = sort.Container; name = 2; place = at 4 20 } ∷
            record { kind = sort.Container; name = 3; place = at 5 18 } ∷
            record { kind = sort.Iterator; name = 4; place = at 6 8 } ∷
            record { kind = sort.Iterator; name = 5; place = at 7 8 } ∷
            record { kind = sort.Iterator; name = 6; place = at 8 8 } ∷
            record { kind = sort.Iterator; name = 7; place = at 9 8 } ∷
            record { kind = sort.Reference; name = 8; place = at 10 8 } ∷
            record { kind = sort.Reference; name = 9; place = at 11 9 } ∷
            record { kind = sort.Reference; name = 10; place = at 12 14 } ∷
            record { kind = sort.Scalar; name = 11; place = at 14 12 } ∷
            record { kind = sort.Scalar; name = 11; place = at 15 12 } ∷
            [];
        body = block (Some 1) (all (
            declares (makes f.List (head (callees.Row 58) (at 2 3) None None [])
            (with (literal t.Int (pos 7)) (with (literal t.Int (pos 8)) none))) ∷
            declares (makes f.Vector (head (callees.Row 1) (at 3 3) None None [])
            (with (literal t.Int (pos 5)) (with (literal t.Int (pos 6)) none))) ∷
            declares (makes f.Vector (head (callees.Row 0) (at 4 3) None None []) none) ∷
            declares (makes f.List (head (callees.Row 58) (at 5 3) None None []) (with (literal t.Int (pos 1))
            (with (literal t.Int (pos 2)) (with (literal t.Int (pos 3)) (with (literal t.Int (pos 4)) none))))) ∷
            declares (set_iterator (call (head (callees.Row 64) (at 6 15) None (Some 3) (Some 3 ∷ [])) none)) ∷
            declares (set_iterator (call (head (callees.Row 226) (at 7 13) None None [])
            (with (call (head (callees.Row 64) (at 7 25) None (Some 3) (Some 3 ∷ [])) none) none))) ∷
            declares (set_iterator (call (head (callees.Row 227) (at 8 13) None None [])
            (with (call (head (callees.Row 65) (at 8 25) None (Some 3) (Some 3 ∷ [])) none) none))) ∷
            declares (set_iterator (call (head (callees.Row 65) (at 9 15) None (Some 3) (Some 3 ∷ [])) none)) ∷
            declares (binds_reference (head (callees.Row 68) (at 10 15) None (Some 3) (Some 3 ∷ [])) none) ∷
            declares (binds_reference (head (callees.Operator operators.Dereference) (at 11 14) None None (None ∷ Some 5 ∷ []))
            (with (iterator 1) none)) ∷
            declares (binds_reference (head (callees.Row 69) (at 12 21) None (Some 3) (Some 3 ∷ [])) none) ∷
            does (evaluates (call (head (callees.Row 82) (at 13 5) (Some 0) (Some 3) (Some 3 ∷ []))
            (with (convert t.Size (literal t.Int (pos 6))) (with (literal t.Int (pos 9)) none)))) ∷
            range_for 0 taken.Value 3 (at 14 3) 3 (does (prints (number (held (scalar 0 (at 14 32))) ∷ text (codes ",") ∷ []))) ∷
            range_for 1 taken.Value 0 (at 15 3) 0 (does (prints (number (held (scalar 0 (at 15 32))) ∷ text (codes ",") ∷ []))) ∷
            does (prints (
            number (call (head (callees.Operator (operators.Compare c.Equal)) (at 16 20) None None (None ∷ Some 7 ∷ []))
            (with (iterator 3) (with (call (head (callees.Row 65) (at 16 25) None (Some 3) (Some 3 ∷ [])) none) none))) ∷
            text (codes " ") ∷
            [])) ∷
            []));
        close = at 17 1;
      } ∷
      [];
  main = 0;
  sites = at 13 5 ∷ at 17 1 ∷ [];
  loops = at 14 3 ∷ at 15 3 ∷ [];
  names =
      codes "w" ∷
      codes "u" ∷
      codes "z" ∷
      codes "c" ∷
      codes "ia" ∷
      codes "ib" ∷
      codes "id" ∷
      codes "ie" ∷
      codes "ra" ∷
      codes "rb" ∷
      codes "rd" ∷
      codes "e" ∷
      [];
  constants = pos 0 ∷ pos 1 ∷ pos 2 ∷ pos 3 ∷ pos 4 ∷ pos 5 ∷ pos 6 ∷ pos 7 ∷ pos 8 ∷ pos 9 ∷ pos 10 ∷ [];
}

kills_of_list_assign_n_x_more_end_ie_trap_ends : run kills_of_list_assign_n_x_more_end_ie_trap [] [] 500
    ≡ finish (Trapped (trap (at 16 20) 1 (codes "==") 1 (Some 7) (Some 0))) (codes "9,9,9,9,9,9,7,8,") 0
unfolding digits table
kills_of_list_assign_n_x_more_end_ie_trap_ends = refl

-- kills of unordered_map.=(c) itself, no room: iterator ib: trap
-- int main() {
--   std::unordered_map<int, int> w;
--   w.emplace(7, 70);
--   w.emplace(8, 80);
--   std::vector<int> u = {5, 6};
--   std::vector<int> z;
--   std::unordered_map<int, int> c;
--   c.emplace(1, 10);
--   c.emplace(2, 20);
--   c.emplace(3, 30);
--   c.emplace(4, 40);
--   auto ia = c.find(1);
--   auto ib = c.find(2);
--   auto id = c.find(4);
--   auto ie = c.end();
--   int& ra = c[1];
--   auto& rb = c.at(2);
--   const int& rd = id->second;
--   c = c;
--   std::cout << ib->first << " ";
-- }
abbrev pub kills_of_unordered_map_c_itself_no_room_iterator_ib_trap : Typed
kills_of_unordered_map_c_itself_no_room_iterator_ib_trap = record {
  functions =
      record {
        name = codes "main";
        parameters = [];
        result = Some (parameter.Value t.Int);
        variables =
            record { kind = sort.Container; name = 0; place = at 2 32 } ∷
            record { kind = sort.Container; name = 1; place = at 5 20 } ∷
            record { kind = sort.Container; name = 2; place = at 6 20 } ∷
            record { kind = sort.Container; name = 3; place = at 7 32 } ∷
            record { kind = sort.Iterator; name = 4; place = at 12 8 } ∷
            record { kind = sort.Iterator; name = 5; place = at 13 8 } ∷
            record { kind = sort.Iterator; name = 6; place = at 14 8 } ∷
            record { kind = sort.Iterator; name = 7; place = at 15 8 } ∷
            record { kind = sort.Reference; name = 8; place = at 16 8 } ∷
            record { kind = sort.Reference; name = 9; place = at 17 9 } ∷
            record { kind = sort.Reference; name = 10; place = at 18 14 } ∷
            [];
        body = block (Some 8) (all (
            declares (makes f.HashMap (head (callees.Row 150) (at 2 3) None None []) none) ∷
            does (evaluates (call (head (callees.Row 159) (at 3 5) (Some 0) (Some 0) (Some 0 ∷ []))
            (with (literal t.Int (pos 7)) (with (literal t.Int (pos 70)) none)))) ∷
            does (evaluates (call (head (callees.Row 159) (at 4 5) (Some 1) (Some 0) (Some 0 ∷ []))
            (with (literal t.Int (pos 8)) (with (literal t.Int (pos 80)) none)))) ∷
            declares (makes f.Vector (head (callees.Row 1) (at 5 3) None None [])
            (with (literal t.Int (pos 5)) (with (literal t.Int (pos 6)) none))) ∷
            declares (makes f.Vector (head (callees.Row 0) (at 6 3) None None []) none) ∷
            declares (makes f.HashMap (head (callees.Row 150) (at 7 3) None None []) none) ∷
            does (evaluates (call (head (callees.Row 159) (at 8 5) (Some 2) (Some 3) (Some 3 ∷ []))
            (with (literal t.Int (pos 1)) (with (literal t.Int (pos 10)) none)))) ∷
            does (evaluates (call (head (callees.Row 159) (at 9 5) (Some 3) (Some 3) (Some 3 ∷ []))
            (with (literal t.Int (pos 2)) (with (literal t.Int (pos 20)) none)))) ∷
            does (evaluates (call (head (callees.Row 159) (at 10 5) (Some 4) (Some 3) (Some 3 ∷ []))
            (with (literal t.Int (pos 3)) (with (literal t.Int (pos 30)) none)))) ∷
            does (evaluates (call (head (callees.Row 159) (at 11 5) (Some 5) (Some 3) (Some 3 ∷ []))
            (with (literal t.Int (pos 4)) (with (literal t.Int (pos 40)) none)))) ∷
            declares
            (set_iterator (call (head (callees.Row 166) (at 12 15) None (Some 3) (Some 3 ∷ [])) (with (literal t.Int (pos 1)) none))) ∷
            declares
            (set_iterator (call (head (callees.Row 166) (at 13 15) None (Some 3) (Some 3 ∷ [])) (with (literal t.Int (pos 2)) none))) ∷
            declares
            (set_iterator (call (head (callees.Row 166) (at 14 15) None (Some 3) (Some 3 ∷ [])) (with (literal t.Int (pos 4)) none))) ∷
            declares (set_iterator (call (head (callees.Row 154) (at 15 15) None (Some 3) (Some 3 ∷ [])) none)) ∷
            declares
            (binds_reference (head (callees.Row 158) (at 16 14) (Some 6) (Some 3) (Some 3 ∷ [])) (with (literal t.Int (pos 1)) none)) ∷
            declares (binds_reference (head (callees.Row 157) (at 17 16) None (Some 3) (Some 3 ∷ [])) (with (literal t.Int (pos 2)) none)) ∷
            declares (binds_reference (head (callees.Operator operators.ArrowSecond) (at 18 21) None None (None ∷ Some 6 ∷ []))
            (with (iterator 2) none)) ∷
            does (evaluates (call (head (callees.Row 152) (at 19 5) (Some 7) (Some 3) (Some 3 ∷ Some 3 ∷ [])) (with (container 3) none))) ∷
            does (prints (
            number (held (element (head (callees.Operator operators.ArrowFirst) (at 20 18) None None (None ∷ Some 5 ∷ []))
            (with (iterator 1) none))) ∷
            text (codes " ") ∷
            [])) ∷
            []));
        close = at 21 1;
      } ∷
      [];
  main = 0;
  sites = at 3 5 ∷ at 4 5 ∷ at 8 5 ∷ at 9 5 ∷ at 10 5 ∷ at 11 5 ∷ at 16 14 ∷ at 19 5 ∷ at 21 1 ∷ [];
  loops = [];
  names =
      codes "w" ∷
      codes "u" ∷
      codes "z" ∷
      codes "c" ∷
      codes "ia" ∷
      codes "ib" ∷
      codes "id" ∷
      codes "ie" ∷
      codes "ra" ∷
      codes "rb" ∷
      codes "rd" ∷
      [];
  constants =
      pos 0 ∷
      pos 1 ∷
      pos 2 ∷
      pos 3 ∷
      pos 4 ∷
      pos 5 ∷
      pos 6 ∷
      pos 7 ∷
      pos 8 ∷
      pos 9 ∷
      pos 10 ∷
      pos 11 ∷
      pos 19 ∷
      pos 20 ∷
      pos 21 ∷
      pos 29 ∷
      pos 30 ∷
      pos 31 ∷
      pos 39 ∷
      pos 40 ∷
      pos 41 ∷
      pos 69 ∷
      pos 70 ∷
      pos 71 ∷
      pos 79 ∷
      pos 80 ∷
      pos 81 ∷
      [];
}

kills_of_unordered_map_c_itself_no_room_iterator_ib_trap_ends : run kills_of_unordered_map_c_itself_no_room_iterator_ib_trap [] [] 500
    ≡ finish (Trapped (trap (at 20 18) 1 (codes "->") 1 (Some 5) (Some 7))) [] 0
unfolding table
kills_of_unordered_map_c_itself_no_room_iterator_ib_trap_ends = refl

-- kills of map.erase(k) there: reference rb: trap
-- int main() {
--   std::map<int, int> w;
--   w.emplace(7, 70);
--   w.emplace(8, 80);
--   std::vector<int> u = {5, 6};
--   std::vector<int> z;
--   std::map<int, int> c;
--   c.emplace(1, 10);
--   c.emplace(2, 20);
--   c.emplace(3, 30);
--   c.emplace(4, 40);
--   auto ia = c.begin();
--   auto ib = std::next(c.begin());
--   auto id = std::prev(c.end());
--   auto ie = c.end();
--   int& ra = c[1];
--   auto& rb = c.at(2);
--   const int& rd = id->second;
--   std::cout << c.erase(2) << " ";
--   std::cout << ia->first << " ";
--   std::cout << id->first << " ";
--   std::cout << (ie == c.end()) << " ";
--   ra += 1;
--   std::cout << rd << " ";
--   std::cout << rb << " ";
-- }
abbrev pub kills_of_map_erase_k_there_reference_rb_trap : Typed
kills_of_map_erase_k_there_reference_rb_trap = record {
  functions =
      record {
        name = codes "main";
        parameters = [];
        result = Some (parameter.Value t.Int);
        variables =
            record { kind = sort.Container; name = 0; place = at 2 22 } ∷
            record { kind = sort.Container; name = 1; place = at 5 20 } ∷
            record { kind = sort.Container; name = 2; place = at 6 20 } ∷
            record { kind = sort.Container; name = 3; place = at 7 22 } ∷
            record { kind = sort.Iterator; name = 4; place = at 12 8 } ∷
            record { kind = sort.Iterator; name = 5; place = at 13 8 } ∷
            record { kind = sort.Iterator; name = 6; place = at 14 8 } ∷
            record { kind = sort.Iterator; name = 7; place = at 15 8 } ∷
            record { kind = sort.Reference; name = 8; place = at 16 8 } ∷
            record { kind = sort.Reference; name = 9; place = at 17 9 } ∷
            record { kind = sort.Reference; name = 10; place = at 18 14 } ∷
            [];
        body = block (Some 1) (all (
            declares (makes f.Map (head (callees.Row 112) (at 2 3) None None []) none) ∷
            does (evaluates (call (head (callees.Row 121) (at 3 5) None (Some 0) (Some 0 ∷ []))
            (with (literal t.Int (pos 7)) (with (literal t.Int (pos 70)) none)))) ∷
            does (evaluates (call (head (callees.Row 121) (at 4 5) None (Some 0) (Some 0 ∷ []))
            (with (literal t.Int (pos 8)) (with (literal t.Int (pos 80)) none)))) ∷
            declares (makes f.Vector (head (callees.Row 1) (at 5 3) None None [])
            (with (literal t.Int (pos 5)) (with (literal t.Int (pos 6)) none))) ∷
            declares (makes f.Vector (head (callees.Row 0) (at 6 3) None None []) none) ∷
            declares (makes f.Map (head (callees.Row 112) (at 7 3) None None []) none) ∷
            does (evaluates (call (head (callees.Row 121) (at 8 5) None (Some 3) (Some 3 ∷ []))
            (with (literal t.Int (pos 1)) (with (literal t.Int (pos 10)) none)))) ∷
            does (evaluates (call (head (callees.Row 121) (at 9 5) None (Some 3) (Some 3 ∷ []))
            (with (literal t.Int (pos 2)) (with (literal t.Int (pos 20)) none)))) ∷
            does (evaluates (call (head (callees.Row 121) (at 10 5) None (Some 3) (Some 3 ∷ []))
            (with (literal t.Int (pos 3)) (with (literal t.Int (pos 30)) none)))) ∷
            does (evaluates (call (head (callees.Row 121) (at 11 5) None (Some 3) (Some 3 ∷ []))
            (with (literal t.Int (pos 4)) (with (literal t.Int (pos 40)) none)))) ∷
            declares (set_iterator (call (head (callees.Row 115) (at 12 15) None (Some 3) (Some 3 ∷ [])) none)) ∷
            declares (set_iterator (call (head (callees.Row 226) (at 13 13) None None [])
            (with (call (head (callees.Row 115) (at 13 25) None (Some 3) (Some 3 ∷ [])) none) none))) ∷
            declares (set_iterator (call (head (callees.Row 227) (at 14 13) None None [])
            (with (call (head (callees.Row 116) (at 14 25) None (Some 3) (Some 3 ∷ [])) none) none))) ∷
            declares (set_iterator (call (head (callees.Row 116) (at 15 15) None (Some 3) (Some 3 ∷ [])) none)) ∷
            declares (binds_reference (head (callees.Row 120) (at 16 14) None (Some 3) (Some 3 ∷ [])) (with (literal t.Int (pos 1)) none)) ∷
            declares (binds_reference (head (callees.Row 119) (at 17 16) None (Some 3) (Some 3 ∷ [])) (with (literal t.Int (pos 2)) none)) ∷
            declares (binds_reference (head (callees.Operator operators.ArrowSecond) (at 18 21) None None (None ∷ Some 6 ∷ []))
            (with (iterator 2) none)) ∷
            does (prints (
            number (call (head (callees.Row 124) (at 19 18) (Some 0) (Some 3) (Some 3 ∷ [])) (with (literal t.Int (pos 2)) none)) ∷
            text (codes " ") ∷
            [])) ∷
            does (prints (
            number (held (element (head (callees.Operator operators.ArrowFirst) (at 20 18) None None (None ∷ Some 4 ∷ []))
            (with (iterator 0) none))) ∷
            text (codes " ") ∷
            [])) ∷
            does (prints (
            number (held (element (head (callees.Operator operators.ArrowFirst) (at 21 18) None None (None ∷ Some 6 ∷ []))
            (with (iterator 2) none))) ∷
            text (codes " ") ∷
            [])) ∷
            does (prints (
            number (call (head (callees.Operator (operators.Compare c.Equal)) (at 22 20) None None (None ∷ Some 7 ∷ []))
            (with (iterator 3) (with (call (head (callees.Row 116) (at 22 25) None (Some 3) (Some 3 ∷ [])) none) none))) ∷
            text (codes " ") ∷
            [])) ∷
            does (updates o.Add t.Int t.Int (at 23 6) (reference 4 (at 23 3) 8 part.Whole) (literal t.Int (pos 1))) ∷
            does (prints (number (held (reference 6 (at 24 16) 10 part.Whole)) ∷ text (codes " ") ∷ [])) ∷
            does (prints (number (held (reference 5 (at 25 16) 9 part.Whole)) ∷ text (codes " ") ∷ [])) ∷
            []));
        close = at 26 1;
      } ∷
      [];
  main = 0;
  sites = at 19 18 ∷ at 26 1 ∷ [];
  loops = [];
  names =
      codes "w" ∷
      codes "u" ∷
      codes "z" ∷
      codes "c" ∷
      codes "ia" ∷
      codes "ib" ∷
      codes "id" ∷
      codes "ie" ∷
      codes "ra" ∷
      codes "rb" ∷
      codes "rd" ∷
      [];
  constants =
      pos 0 ∷
      pos 1 ∷
      pos 2 ∷
      pos 3 ∷
      pos 4 ∷
      pos 5 ∷
      pos 6 ∷
      pos 7 ∷
      pos 8 ∷
      pos 9 ∷
      pos 10 ∷
      pos 11 ∷
      pos 19 ∷
      pos 20 ∷
      pos 21 ∷
      pos 29 ∷
      pos 30 ∷
      pos 31 ∷
      pos 39 ∷
      pos 40 ∷
      pos 41 ∷
      pos 69 ∷
      pos 70 ∷
      pos 71 ∷
      pos 79 ∷
      pos 80 ∷
      pos 81 ∷
      [];
}

kills_of_map_erase_k_there_reference_rb_trap_ends : run kills_of_map_erase_k_there_reference_rb_trap [] [] 500
    ≡ finish (Trapped (trap (at 25 16) 12 (codes "use") 1 (Some 9) (Some 0))) (codes "1 1 4 1 40 ") 0
unfolding digits table
kills_of_map_erase_k_there_reference_rb_trap_ends = refl

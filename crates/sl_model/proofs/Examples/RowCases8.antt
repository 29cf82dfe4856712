-- Closed runs of texts, each made of a C++ text and its end and output by tools/run_goal.py; the texts and ends are not this program's own answers.
use Rattle.sl_base.specs.declared.scalar.Scalar.TheVariants as t
use Rattle.sl_base.specs.declared.form.Form.TheVariants as f
use Rattle.sl_syntax.specs.declared.operator.Arithmetic.TheVariants as o
use Rattle.sl_syntax.specs.declared.operator.Comparison.TheVariants as c
use Rattle.sl_syntax.specs.declared.typed.callee.Callee.TheVariants as callees
use Rattle.sl_syntax.specs.declared.typed.element.ElementPart.TheVariants as part
use Rattle.sl_syntax.specs.declared.typed.element.Taken.TheVariants as taken
use Rattle.sl_syntax.specs.declared.typed.operator.Operator.TheVariants as operators
use Rattle.sl_syntax.specs.declared.typed.parameter.ParameterKind.TheVariants as parameter
use Rattle.sl_syntax.specs.declared.typed.variable.VariableKind.TheVariants as sort
use Rattle.std.specs.Prelude.{◌≡◌, refl, [], ◌∷◌, Some, None, pos, negsuc, codes}
use Rattle.std.specs.Fmt.{digits}
use Rattle.sl_syntax.specs.declared.typed.step.Fix.TheVariants.{Postfix}
use Rattle.sl_syntax.specs.Typed.{literal, held, iterator, convert, logical_or, arithmetic, move, call, first, container, scalar}
use Rattle.sl_syntax.specs.Typed.{reference, element, none, with, test, text, endline, number, prints, evaluates, assigns, updates}
use Rattle.sl_syntax.specs.Typed.{moves_to, unset_scalar, set_scalar, set_iterator, binds_reference, makes, block, declares, choice, while}
use Rattle.sl_syntax.specs.Typed.{range_for, does, Typed}
use Rattle.sl_specs.specs.Table.{table}
use Rattle.sl_model.specs.Runs.Ends.{Done, Trapped}
use Rattle.sl_model.specs.Runs.Run.{run}
use Rattle.sl_model.proofs.Examples.Short.{at, head, all, finish, trap}

-- kills of list.swap(c) other: end ie: trap
-- int main() {
--   std::list<int> w = {7, 8};
--   std::vector<int> u = {5, 6};
--   std::vector<int> z;
--   std::list<int> c = {1, 2, 3, 4};
--   auto ia = c.begin();
--   auto ib = std::next(c.begin());
--   auto id = std::prev(c.end());
--   auto ie = c.end();
--   int& ra = c.front();
--   auto& rb = *ib;
--   const int& rd = c.back();
--   c.swap(w);
--   std::cout << *ia << " ";
--   std::cout << *ib << " ";
--   std::cout << *id << " ";
--   ra += 1;
--   std::cout << rb << " ";
--   std::cout << rd << " ";
--   for (int e : c) std::cout << e << ",";
--   for (int e : w) std::cout << e << ",";
--   std::cout << (ie == c.end()) << " ";
-- }
abbrev pub kills_of_list_swap_c_other_end_ie_trap : Typed
kills_of_list_swap_c_other_end_ie_trap = record {
  functions =
      record {
        name = codes "main";
        parameters = [];
        result = Some (parameter.Value t.Int);
        variables =
            record { kind = sort.Container; name = 0; place = at 2 18 } ∷
            record { kind = sort.Container; name = 1; place = at 3 20 } ∷
            record { kind = sort.Container; name = 2; place = at 4 20 } ∷
            record { kind = sort.Container; name = 3; place = at 5 18 } ∷
            record { kind = sort.Iterator; name = 4; place = at 6 8 } ∷
            record { kind = sort.Iterator; name = 5; place = at 7 8 } ∷
            record { kind = sort.Iterator; name = 6; place = at 8 8 } ∷
            record { kind = sort.Iterator; name = 7; place = at 9 8 } ∷
            record { kind = sort.Reference; name = 8; place = at 10 8 } ∷
            record { kind = sort.Reference; name = 9; place = at 11 9 } ∷
            record { kind = sort.Reference; name = 10; place = at 12 14 } ∷
            record { kind = sort.Scalar; name = 11; place = at 20 12 } ∷
            record { kind = sort.Scalar; name = 11; place = at 21 12 } ∷
            [];
        body = block (Some 1) (all (
            declares (makes f.List (head (callees.Row 58) (at 2 3) None None [])
            (with (literal t.Int (pos 7)) (with (literal t.Int (pos 8)) none))) ∷
            declares (makes f.Vector (head (callees.Row 1) (at 3 3) None None [])
            (with (literal t.Int (pos 5)) (with (literal t.Int (pos 6)) none))) ∷
            declares (makes f.Vector (head (callees.Row 0) (at 4 3) None None []) none) ∷
            declares (makes f.List (head (callees.Row 58) (at 5 3) None None []) (with (literal t.Int (pos 1))
            (with (literal t.Int (pos 2)) (with (literal t.Int (pos 3)) (with (literal t.Int (pos 4)) none))))) ∷
            declares (set_iterator (call (head (callees.Row 64) (at 6 15) None (Some 3) (Some 3 ∷ [])) none)) ∷
            declares (set_iterator (call (head (callees.Row 226) (at 7 13) None None [])
            (with (call (head (callees.Row 64) (at 7 25) None (Some 3) (Some 3 ∷ [])) none) none))) ∷
            declares (set_iterator (call (head (callees.Row 227) (at 8 13) None None [])
            (with (call (head (callees.Row 65) (at 8 25) None (Some 3) (Some 3 ∷ [])) none) none))) ∷
            declares (set_iterator (call (head (callees.Row 65) (at 9 15) None (Some 3) (Some 3 ∷ [])) none)) ∷
            declares (binds_reference (head (callees.Row 68) (at 10 15) None (Some 3) (Some 3 ∷ [])) none) ∷
            declares (binds_reference (head (callees.Operator operators.Dereference) (at 11 14) None None (None ∷ Some 5 ∷ []))
            (with (iterator 1) none)) ∷
            declares (binds_reference (head (callees.Row 69) (at 12 21) None (Some 3) (Some 3 ∷ [])) none) ∷
            does (evaluates (call (head (callees.Row 83) (at 13 5) (Some 0) (Some 3) (Some 3 ∷ Some 0 ∷ [])) (with (container 0) none))) ∷
            does (prints (
            number (held (element (head (callees.Operator operators.Dereference) (at 14 16) None None (None ∷ Some 4 ∷ []))
            (with (iterator 0) none))) ∷
            text (codes " ") ∷
            [])) ∷
            does (prints (
            number (held (element (head (callees.Operator operators.Dereference) (at 15 16) None None (None ∷ Some 5 ∷ []))
            (with (iterator 1) none))) ∷
            text (codes " ") ∷
            [])) ∷
            does (prints (
            number (held (element (head (callees.Operator operators.Dereference) (at 16 16) None None (None ∷ Some 6 ∷ []))
            (with (iterator 2) none))) ∷
            text (codes " ") ∷
            [])) ∷
            does (updates o.Add t.Int t.Int (at 17 6) (reference 4 (at 17 3) 8 part.Whole) (literal t.Int (pos 1))) ∷
            does (prints (number (held (reference 5 (at 18 16) 9 part.Whole)) ∷ text (codes " ") ∷ [])) ∷
            does (prints (number (held (reference 6 (at 19 16) 10 part.Whole)) ∷ text (codes " ") ∷ [])) ∷
            range_for 0 taken.Value 3 (at 20 3) 3 (does (prints (number (held (scalar 0 (at 20 32))) ∷ text (codes ",") ∷ []))) ∷
            range_for 1 taken.Value 0 (at 21 3) 0 (does (prints (number (held (scalar 0 (at 21 32))) ∷ text (codes ",") ∷ []))) ∷
            does (prints (
            number (call (head (callees.Operator (operators.Compare c.Equal)) (at 22 20) None None (None ∷ Some 7 ∷ []))
            (with (iterator 3) (with (call (head (callees.Row 65) (at 22 25) None (Some 3) (Some 3 ∷ [])) none) none))) ∷
            text (codes " ") ∷
            [])) ∷
            []));
        close = at 23 1;
      } ∷
      [];
  main = 0;
  sites = at 13 5 ∷ at 23 1 ∷ [];
  loops = at 20 3 ∷ at 21 3 ∷ [];
  names =
      codes "w" ∷
      codes "u" ∷
      codes "z" ∷
      codes "c" ∷
      codes "ia" ∷
      codes "ib" ∷
      codes "id" ∷
      codes "ie" ∷
      codes "ra" ∷
      codes "rb" ∷
      codes "rd" ∷
      codes "e" ∷
      [];
  constants = pos 0 ∷ pos 1 ∷ pos 2 ∷ pos 3 ∷ pos 4 ∷ pos 5 ∷ pos 6 ∷ pos 7 ∷ pos 8 ∷ pos 9 ∷ [];
}

kills_of_list_swap_c_other_end_ie_trap_ends : run kills_of_list_swap_c_other_end_ie_trap [] [] 500
    ≡ finish (Trapped (trap (at 22 20) 1 (codes "==") 1 (Some 7) (Some 0))) (codes "1 2 4 2 4 7,8,2,2,3,4,") 0
unfolding digits table
kills_of_list_swap_c_other_end_ie_trap_ends = refl

-- kills of unordered_set.swap(c) other, no room: end ie: trap
-- int main() {
--   std::unordered_set<int> w = {7, 8};
--   std::vector<int> u = {5, 6};
--   std::vector<int> z;
--   std::unordered_set<int> c = {1, 2, 3, 4};
--   auto ia = c.find(1);
--   auto ib = c.find(2);
--   auto id = c.find(4);
--   auto ie = c.end();
--   auto& ra = *ia;
--   const int& rb = *ib;
--   const auto& rd = *id;
--   c.swap(w);
--   std::cout << *ia << " ";
--   std::cout << *ib << " ";
--   std::cout << *id << " ";
--   std::cout << ra << " ";
--   std::cout << rb << " ";
--   std::cout << rd << " ";
--   for (int e : c) std::cout << e << ",";
--   for (int e : w) std::cout << e << ",";
--   std::cout << (ie == c.end()) << " ";
-- }
abbrev pub kills_of_unordered_set_swap_c_other_no_room_end_ie_trap : Typed
kills_of_unordered_set_swap_c_other_no_room_end_ie_trap = record {
  functions =
      record {
        name = codes "main";
        parameters = [];
        result = Some (parameter.Value t.Int);
        variables =
            record { kind = sort.Container; name = 0; place = at 2 27 } ∷
            record { kind = sort.Container; name = 1; place = at 3 20 } ∷
            record { kind = sort.Container; name = 2; place = at 4 20 } ∷
            record { kind = sort.Container; name = 3; place = at 5 27 } ∷
            record { kind = sort.Iterator; name = 4; place = at 6 8 } ∷
            record { kind = sort.Iterator; name = 5; place = at 7 8 } ∷
            record { kind = sort.Iterator; name = 6; place = at 8 8 } ∷
            record { kind = sort.Iterator; name = 7; place = at 9 8 } ∷
            record { kind = sort.Reference; name = 8; place = at 10 9 } ∷
            record { kind = sort.Reference; name = 9; place = at 11 14 } ∷
            record { kind = sort.Reference; name = 10; place = at 12 15 } ∷
            record { kind = sort.Scalar; name = 11; place = at 20 12 } ∷
            record { kind = sort.Scalar; name = 11; place = at 21 12 } ∷
            [];
        body = block (Some 1) (all (
            declares (makes f.HashSet (head (callees.Row 132) (at 2 3) None None [])
            (with (literal t.Int (pos 7)) (with (literal t.Int (pos 8)) none))) ∷
            declares (makes f.Vector (head (callees.Row 1) (at 3 3) None None [])
            (with (literal t.Int (pos 5)) (with (literal t.Int (pos 6)) none))) ∷
            declares (makes f.Vector (head (callees.Row 0) (at 4 3) None None []) none) ∷
            declares (makes f.HashSet (head (callees.Row 132) (at 5 3) None None []) (with (literal t.Int (pos 1))
            (with (literal t.Int (pos 2)) (with (literal t.Int (pos 3)) (with (literal t.Int (pos 4)) none))))) ∷
            declares
            (set_iterator (call (head (callees.Row 148) (at 6 15) None (Some 3) (Some 3 ∷ [])) (with (literal t.Int (pos 1)) none))) ∷
            declares
            (set_iterator (call (head (callees.Row 148) (at 7 15) None (Some 3) (Some 3 ∷ [])) (with (literal t.Int (pos 2)) none))) ∷
            declares
            (set_iterator (call (head (callees.Row 148) (at 8 15) None (Some 3) (Some 3 ∷ [])) (with (literal t.Int (pos 4)) none))) ∷
            declares (set_iterator (call (head (callees.Row 137) (at 9 15) None (Some 3) (Some 3 ∷ [])) none)) ∷
            declares (binds_reference (head (callees.Operator operators.Dereference) (at 10 14) None None (None ∷ Some 4 ∷ []))
            (with (iterator 0) none)) ∷
            declares (binds_reference (head (callees.Operator operators.Dereference) (at 11 19) None None (None ∷ Some 5 ∷ []))
            (with (iterator 1) none)) ∷
            declares (binds_reference (head (callees.Operator operators.Dereference) (at 12 20) None None (None ∷ Some 6 ∷ []))
            (with (iterator 2) none)) ∷
            does (evaluates (call (head (callees.Row 147) (at 13 5) (Some 0) (Some 3) (Some 3 ∷ Some 0 ∷ [])) (with (container 0) none))) ∷
            does (prints (
            number (held (element (head (callees.Operator operators.Dereference) (at 14 16) None None (None ∷ Some 4 ∷ []))
            (with (iterator 0) none))) ∷
            text (codes " ") ∷
            [])) ∷
            does (prints (
            number (held (element (head (callees.Operator operators.Dereference) (at 15 16) None None (None ∷ Some 5 ∷ []))
            (with (iterator 1) none))) ∷
            text (codes " ") ∷
            [])) ∷
            does (prints (
            number (held (element (head (callees.Operator operators.Dereference) (at 16 16) None None (None ∷ Some 6 ∷ []))
            (with (iterator 2) none))) ∷
            text (codes " ") ∷
            [])) ∷
            does (prints (number (held (reference 4 (at 17 16) 8 part.Whole)) ∷ text (codes " ") ∷ [])) ∷
            does (prints (number (held (reference 5 (at 18 16) 9 part.Whole)) ∷ text (codes " ") ∷ [])) ∷
            does (prints (number (held (reference 6 (at 19 16) 10 part.Whole)) ∷ text (codes " ") ∷ [])) ∷
            range_for 0 taken.Value 3 (at 20 3) 3 (does (prints (number (held (scalar 0 (at 20 32))) ∷ text (codes ",") ∷ []))) ∷
            range_for 1 taken.Value 0 (at 21 3) 0 (does (prints (number (held (scalar 0 (at 21 32))) ∷ text (codes ",") ∷ []))) ∷
            does (prints (
            number (call (head (callees.Operator (operators.Compare c.Equal)) (at 22 20) None None (None ∷ Some 7 ∷ []))
            (with (iterator 3) (with (call (head (callees.Row 137) (at 22 25) None (Some 3) (Some 3 ∷ [])) none) none))) ∷
            text (codes " ") ∷
            [])) ∷
            []));
        close = at 23 1;
      } ∷
      [];
  main = 0;
  sites = at 13 5 ∷ at 23 1 ∷ [];
  loops = at 20 3 ∷ at 21 3 ∷ [];
  names =
      codes "w" ∷
      codes "u" ∷
      codes "z" ∷
      codes "c" ∷
      codes "ia" ∷
      codes "ib" ∷
      codes "id" ∷
      codes "ie" ∷
      codes "ra" ∷
      codes "rb" ∷
      codes "rd" ∷
      codes "e" ∷
      [];
  constants = pos 0 ∷ pos 1 ∷ pos 2 ∷ pos 3 ∷ pos 4 ∷ pos 5 ∷ pos 6 ∷ pos 7 ∷ pos 8 ∷ pos 9 ∷ [];
}

kills_of_unordered_set_swap_c_other_no_room_end_ie_trap_ends : run kills_of_unordered_set_swap_c_other_no_room_end_ie_trap [] [] 500
    ≡ finish (Trapped (trap (at 22 20) 1 (codes "==") 1 (Some 7) (Some 0))) (codes "1 2 4 1 2 4 8,7,4,2,1,3,") 0
unfolding digits table
kills_of_unordered_set_swap_c_other_no_room_end_ie_trap_ends = refl

-- kills of unordered_map.erase(f, l) first in its order, no room: reference rd: trap
-- int main() {
--   std::unordered_map<int, int> w;
--   w.emplace(7, 70);
--   w.emplace(8, 80);
--   std::vector<int> u = {5, 6};
--   std::vector<int> z;
--   std::unordered_map<int, int> c;
--   c.emplace(1, 10);
--   c.emplace(2, 20);
--   c.emplace(3, 30);
--   c.emplace(4, 40);
--   auto ia = c.find(1);
--   auto ib = c.find(2);
--   auto id = c.find(4);
--   auto ie = c.end();
--   int& ra = c[1];
--   auto& rb = c.at(2);
--   const int& rd = id->second;
--   c.erase(c.begin(), std::next(c.begin()));
--   std::cout << ia->first << " ";
--   std::cout << ib->first << " ";
--   std::cout << (ie == c.end()) << " ";
--   ra += 1;
--   std::cout << rb << " ";
--   std::cout << rd << " ";
-- }
abbrev pub kills_of_unordered_map_erase_f_l_first_in_its_order_no_room_reference_rd_trap : Typed
kills_of_unordered_map_erase_f_l_first_in_its_order_no_room_reference_rd_trap = record {
  functions =
      record {
        name = codes "main";
        parameters = [];
        result = Some (parameter.Value t.Int);
        variables =
            record { kind = sort.Container; name = 0; place = at 2 32 } ∷
            record { kind = sort.Container; name = 1; place = at 5 20 } ∷
            record { kind = sort.Container; name = 2; place = at 6 20 } ∷
            record { kind = sort.Container; name = 3; place = at 7 32 } ∷
            record { kind = sort.Iterator; name = 4; place = at 12 8 } ∷
            record { kind = sort.Iterator; name = 5; place = at 13 8 } ∷
            record { kind = sort.Iterator; name = 6; place = at 14 8 } ∷
            record { kind = sort.Iterator; name = 7; place = at 15 8 } ∷
            record { kind = sort.Reference; name = 8; place = at 16 8 } ∷
            record { kind = sort.Reference; name = 9; place = at 17 9 } ∷
            record { kind = sort.Reference; name = 10; place = at 18 14 } ∷
            [];
        body = block (Some 8) (all (
            declares (makes f.HashMap (head (callees.Row 150) (at 2 3) None None []) none) ∷
            does (evaluates (call (head (callees.Row 159) (at 3 5) (Some 0) (Some 0) (Some 0 ∷ []))
            (with (literal t.Int (pos 7)) (with (literal t.Int (pos 70)) none)))) ∷
            does (evaluates (call (head (callees.Row 159) (at 4 5) (Some 1) (Some 0) (Some 0 ∷ []))
            (with (literal t.Int (pos 8)) (with (literal t.Int (pos 80)) none)))) ∷
            declares (makes f.Vector (head (callees.Row 1) (at 5 3) None None [])
            (with (literal t.Int (pos 5)) (with (literal t.Int (pos 6)) none))) ∷
            declares (makes f.Vector (head (callees.Row 0) (at 6 3) None None []) none) ∷
            declares (makes f.HashMap (head (callees.Row 150) (at 7 3) None None []) none) ∷
            does (evaluates (call (head (callees.Row 159) (at 8 5) (Some 2) (Some 3) (Some 3 ∷ []))
            (with (literal t.Int (pos 1)) (with (literal t.Int (pos 10)) none)))) ∷
            does (evaluates (call (head (callees.Row 159) (at 9 5) (Some 3) (Some 3) (Some 3 ∷ []))
            (with (literal t.Int (pos 2)) (with (literal t.Int (pos 20)) none)))) ∷
            does (evaluates (call (head (callees.Row 159) (at 10 5) (Some 4) (Some 3) (Some 3 ∷ []))
            (with (literal t.Int (pos 3)) (with (literal t.Int (pos 30)) none)))) ∷
            does (evaluates (call (head (callees.Row 159) (at 11 5) (Some 5) (Some 3) (Some 3 ∷ []))
            (with (literal t.Int (pos 4)) (with (literal t.Int (pos 40)) none)))) ∷
            declares
            (set_iterator (call (head (callees.Row 166) (at 12 15) None (Some 3) (Some 3 ∷ [])) (with (literal t.Int (pos 1)) none))) ∷
            declares
            (set_iterator (call (head (callees.Row 166) (at 13 15) None (Some 3) (Some 3 ∷ [])) (with (literal t.Int (pos 2)) none))) ∷
            declares
            (set_iterator (call (head (callees.Row 166) (at 14 15) None (Some 3) (Some 3 ∷ [])) (with (literal t.Int (pos 4)) none))) ∷
            declares (set_iterator (call (head (callees.Row 154) (at 15 15) None (Some 3) (Some 3 ∷ [])) none)) ∷
            declares
            (binds_reference (head (callees.Row 158) (at 16 14) (Some 6) (Some 3) (Some 3 ∷ [])) (with (literal t.Int (pos 1)) none)) ∷
            declares (binds_reference (head (callees.Row 157) (at 17 16) None (Some 3) (Some 3 ∷ [])) (with (literal t.Int (pos 2)) none)) ∷
            declares (binds_reference (head (callees.Operator operators.ArrowSecond) (at 18 21) None None (None ∷ Some 6 ∷ []))
            (with (iterator 2) none)) ∷
            does (evaluates (call (head (callees.Row 161) (at 19 5) (Some 7) (Some 3) (Some 3 ∷ [])) (with
            (call (head (callees.Row 153) (at 19 13) None (Some 3) (Some 3 ∷ [])) none) (with (call
            (head (callees.Row 226) (at 19 22) None None [])
            (with (call (head (callees.Row 153) (at 19 34) None (Some 3) (Some 3 ∷ [])) none) none)) none)))) ∷
            does (prints (
            number (held (element (head (callees.Operator operators.ArrowFirst) (at 20 18) None None (None ∷ Some 4 ∷ []))
            (with (iterator 0) none))) ∷
            text (codes " ") ∷
            [])) ∷
            does (prints (
            number (held (element (head (callees.Operator operators.ArrowFirst) (at 21 18) None None (None ∷ Some 5 ∷ []))
            (with (iterator 1) none))) ∷
            text (codes " ") ∷
            [])) ∷
            does (prints (
            number (call (head (callees.Operator (operators.Compare c.Equal)) (at 22 20) None None (None ∷ Some 7 ∷ []))
            (with (iterator 3) (with (call (head (callees.Row 154) (at 22 25) None (Some 3) (Some 3 ∷ [])) none) none))) ∷
            text (codes " ") ∷
            [])) ∷
            does (updates o.Add t.Int t.Int (at 23 6) (reference 4 (at 23 3) 8 part.Whole) (literal t.Int (pos 1))) ∷
            does (prints (number (held (reference 5 (at 24 16) 9 part.Whole)) ∷ text (codes " ") ∷ [])) ∷
            does (prints (number (held (reference 6 (at 25 16) 10 part.Whole)) ∷ text (codes " ") ∷ [])) ∷
            []));
        close = at 26 1;
      } ∷
      [];
  main = 0;
  sites = at 3 5 ∷ at 4 5 ∷ at 8 5 ∷ at 9 5 ∷ at 10 5 ∷ at 11 5 ∷ at 16 14 ∷ at 19 5 ∷ at 26 1 ∷ [];
  loops = [];
  names =
      codes "w" ∷
      codes "u" ∷
      codes "z" ∷
      codes "c" ∷
      codes "ia" ∷
      codes "ib" ∷
      codes "id" ∷
      codes "ie" ∷
      codes "ra" ∷
      codes "rb" ∷
      codes "rd" ∷
      [];
  constants =
      pos 0 ∷
      pos 1 ∷
      pos 2 ∷
      pos 3 ∷
      pos 4 ∷
      pos 5 ∷
      pos 6 ∷
      pos 7 ∷
      pos 8 ∷
      pos 9 ∷
      pos 10 ∷
      pos 11 ∷
      pos 19 ∷
      pos 20 ∷
      pos 21 ∷
      pos 29 ∷
      pos 30 ∷
      pos 31 ∷
      pos 39 ∷
      pos 40 ∷
      pos 41 ∷
      pos 69 ∷
      pos 70 ∷
      pos 71 ∷
      pos 79 ∷
      pos 80 ∷
      pos 81 ∷
      [];
}

kills_of_unordered_map_erase_f_l_first_in_its_order_no_room_reference_rd_trap_ends : run
    kills_of_unordered_map_erase_f_l_first_in_its_order_no_room_reference_rd_trap [] [] 500
    ≡ finish (Trapped (trap (at 25 16) 12 (codes "use") 1 (Some 10) (Some 7))) (codes "1 2 1 20 ") 0
unfolding digits table
kills_of_unordered_map_erase_f_l_first_in_its_order_no_room_reference_rd_trap_ends = refl

-- includes of deque, empty: done
-- int main() {
--   std::vector<int> v = {1, 2, 4, 6};
--   std::deque<int> d = {1, 2, 4, 6};
--   std::list<int> l = {1, 2, 4, 6};
--   std::set<int> s = {1, 2, 4, 6};
--   std::unordered_set<int> h = {1, 2, 4, 6};
--   std::multiset<int> g = {1, 2, 2, 6};
--   std::vector<int> o(9);
--   std::list<int> b;
--   std::vector<int> e;
--   std::deque<int> c2 = {1};
--   std::list<int> c3 = {1};
--   auto dead = d.end();
--   auto odead = l.end();
--   auto vdead = o.end();
--   {
--     std::deque<int> t = {1};
--     dead = t.begin();
--     std::list<int> t2 = {1};
--     odead = t2.begin();
--     std::vector<int> t3 = {1};
--     vdead = t3.begin();
--   }
--   std::cout << std::includes(d.end(), d.end(), l.begin(), l.end()) << " ";
--   for (int e : d) std::cout << e << ",";
-- }
abbrev pub includes_of_deque_empty_done : Typed
includes_of_deque_empty_done = record {
  functions =
      record {
        name = codes "main";
        parameters = [];
        result = Some (parameter.Value t.Int);
        variables =
            record { kind = sort.Container; name = 0; place = at 2 20 } ∷
            record { kind = sort.Container; name = 1; place = at 3 19 } ∷
            record { kind = sort.Container; name = 2; place = at 4 18 } ∷
            record { kind = sort.Container; name = 3; place = at 5 17 } ∷
            record { kind = sort.Container; name = 4; place = at 6 27 } ∷
            record { kind = sort.Container; name = 5; place = at 7 22 } ∷
            record { kind = sort.Container; name = 6; place = at 8 20 } ∷
            record { kind = sort.Container; name = 7; place = at 9 18 } ∷
            record { kind = sort.Container; name = 8; place = at 10 20 } ∷
            record { kind = sort.Container; name = 9; place = at 11 19 } ∷
            record { kind = sort.Container; name = 10; place = at 12 18 } ∷
            record { kind = sort.Iterator; name = 11; place = at 13 8 } ∷
            record { kind = sort.Iterator; name = 12; place = at 14 8 } ∷
            record { kind = sort.Iterator; name = 13; place = at 15 8 } ∷
            record { kind = sort.Container; name = 14; place = at 17 21 } ∷
            record { kind = sort.Container; name = 15; place = at 19 20 } ∷
            record { kind = sort.Container; name = 16; place = at 21 22 } ∷
            record { kind = sort.Scalar; name = 8; place = at 25 12 } ∷
            [];
        body = block (Some 1) (all (
            declares (makes f.Vector (head (callees.Row 1) (at 2 3) None None []) (with (literal t.Int (pos 1))
            (with (literal t.Int (pos 2)) (with (literal t.Int (pos 4)) (with (literal t.Int (pos 6)) none))))) ∷
            declares (makes f.Deque (head (callees.Row 29) (at 3 3) None None []) (with (literal t.Int (pos 1))
            (with (literal t.Int (pos 2)) (with (literal t.Int (pos 4)) (with (literal t.Int (pos 6)) none))))) ∷
            declares (makes f.List (head (callees.Row 58) (at 4 3) None None []) (with (literal t.Int (pos 1))
            (with (literal t.Int (pos 2)) (with (literal t.Int (pos 4)) (with (literal t.Int (pos 6)) none))))) ∷
            declares (makes f.Set (head (callees.Row 93) (at 5 3) None None []) (with (literal t.Int (pos 1))
            (with (literal t.Int (pos 2)) (with (literal t.Int (pos 4)) (with (literal t.Int (pos 6)) none))))) ∷
            declares (makes f.HashSet (head (callees.Row 132) (at 6 3) None None []) (with (literal t.Int (pos 1))
            (with (literal t.Int (pos 2)) (with (literal t.Int (pos 4)) (with (literal t.Int (pos 6)) none))))) ∷
            declares (makes f.MultiSet (head (callees.Row 170) (at 7 3) None None []) (with (literal t.Int (pos 1))
            (with (literal t.Int (pos 2)) (with (literal t.Int (pos 2)) (with (literal t.Int (pos 6)) none))))) ∷
            declares (makes f.Vector (head (callees.Row 3) (at 8 3) None None []) (with (convert t.Size (literal t.Int (pos 9))) none)) ∷
            declares (makes f.List (head (callees.Row 57) (at 9 3) None None []) none) ∷
            declares (makes f.Vector (head (callees.Row 0) (at 10 3) None None []) none) ∷
            declares (makes f.Deque (head (callees.Row 29) (at 11 3) None None []) (with (literal t.Int (pos 1)) none)) ∷
            declares (makes f.List (head (callees.Row 58) (at 12 3) None None []) (with (literal t.Int (pos 1)) none)) ∷
            declares (set_iterator (call (head (callees.Row 36) (at 13 17) None (Some 1) (Some 1 ∷ [])) none)) ∷
            declares (set_iterator (call (head (callees.Row 65) (at 14 18) None (Some 2) (Some 2 ∷ [])) none)) ∷
            declares (set_iterator (call (head (callees.Row 8) (at 15 18) None (Some 6) (Some 6 ∷ [])) none)) ∷
            block (Some 0) (all (
            declares (makes f.Deque (head (callees.Row 29) (at 17 5) None None []) (with (literal t.Int (pos 1)) none)) ∷
            does (moves_to 0 (call (head (callees.Row 35) (at 18 14) None (Some 11) (Some 14 ∷ [])) none)) ∷
            declares (makes f.List (head (callees.Row 58) (at 19 5) None None []) (with (literal t.Int (pos 1)) none)) ∷
            does (moves_to 1 (call (head (callees.Row 64) (at 20 16) None (Some 12) (Some 15 ∷ [])) none)) ∷
            declares (makes f.Vector (head (callees.Row 1) (at 21 5) None None []) (with (literal t.Int (pos 1)) none)) ∷
            does (moves_to 2 (call (head (callees.Row 7) (at 22 16) None (Some 13) (Some 16 ∷ [])) none)) ∷
            [])) ∷
            does (prints (
            number (call (head (callees.Row 214) (at 24 16) None None []) (with
            (call (head (callees.Row 36) (at 24 32) None (Some 1) (Some 1 ∷ [])) none) (with
            (call (head (callees.Row 36) (at 24 41) None (Some 1) (Some 1 ∷ [])) none) (with
            (call (head (callees.Row 64) (at 24 50) None (Some 2) (Some 2 ∷ [])) none)
            (with (call (head (callees.Row 65) (at 24 61) None (Some 2) (Some 2 ∷ [])) none) none))))) ∷
            text (codes " ") ∷
            [])) ∷
            range_for 0 taken.Value 1 (at 25 3) 1 (does (prints (number (held (scalar 0 (at 25 32))) ∷ text (codes ",") ∷ []))) ∷
            []));
        close = at 26 1;
      } ∷
      [];
  main = 0;
  sites = at 23 3 ∷ at 26 1 ∷ [];
  loops = at 25 3 ∷ [];
  names =
      codes "v" ∷
      codes "d" ∷
      codes "l" ∷
      codes "s" ∷
      codes "h" ∷
      codes "g" ∷
      codes "o" ∷
      codes "b" ∷
      codes "e" ∷
      codes "c2" ∷
      codes "c3" ∷
      codes "dead" ∷
      codes "odead" ∷
      codes "vdead" ∷
      codes "t" ∷
      codes "t2" ∷
      codes "t3" ∷
      [];
  constants = pos 0 ∷ pos 1 ∷ pos 2 ∷ pos 3 ∷ pos 4 ∷ pos 5 ∷ pos 6 ∷ pos 7 ∷ pos 8 ∷ pos 9 ∷ pos 10 ∷ [];
}

includes_of_deque_empty_done_ends : run includes_of_deque_empty_done [] [] 500 ≡ finish (Done (pos 0)) (codes "0 1,2,4,6,") 0
unfolding digits table
includes_of_deque_empty_done_ends = refl

-- binary_search of deque, partitioned though not sorted: done
-- int main() {
--   std::vector<int> v = {1, 2, 4, 6};
--   std::deque<int> d = {1, 2, 4, 6};
--   std::list<int> l = {1, 2, 4, 6};
--   std::set<int> s = {1, 2, 4, 6};
--   std::unordered_set<int> h = {1, 2, 4, 6};
--   std::multiset<int> g = {1, 2, 2, 6};
--   std::vector<int> o(9);
--   std::list<int> b;
--   std::vector<int> e;
--   std::deque<int> c2 = {1};
--   std::list<int> c3 = {1};
--   auto dead = d.end();
--   auto odead = l.end();
--   auto vdead = o.end();
--   {
--     std::deque<int> t = {1};
--     dead = t.begin();
--     std::list<int> t2 = {1};
--     odead = t2.begin();
--     std::vector<int> t3 = {1};
--     vdead = t3.begin();
--   }
--   d.front() = 2;
--   *std::next(d.begin()) = 1;
--   std::cout << std::binary_search(d.begin(), d.end(), 3) << " ";
--   for (int e : d) std::cout << e << ",";
-- }
abbrev pub binary_search_of_deque_partitioned_though_not_sorted_done : Typed
binary_search_of_deque_partitioned_though_not_sorted_done = record {
  functions =
      record {
        name = codes "main";
        parameters = [];
        result = Some (parameter.Value t.Int);
        variables =
            record { kind = sort.Container; name = 0; place = at 2 20 } ∷
            record { kind = sort.Container; name = 1; place = at 3 19 } ∷
            record { kind = sort.Container; name = 2; place = at 4 18 } ∷
            record { kind = sort.Container; name = 3; place = at 5 17 } ∷
            record { kind = sort.Container; name = 4; place = at 6 27 } ∷
            record { kind = sort.Container; name = 5; place = at 7 22 } ∷
            record { kind = sort.Container; name = 6; place = at 8 20 } ∷
            record { kind = sort.Container; name = 7; place = at 9 18 } ∷
            record { kind = sort.Container; name = 8; place = at 10 20 } ∷
            record { kind = sort.Container; name = 9; place = at 11 19 } ∷
            record { kind = sort.Container; name = 10; place = at 12 18 } ∷
            record { kind = sort.Iterator; name = 11; place = at 13 8 } ∷
            record { kind = sort.Iterator; name = 12; place = at 14 8 } ∷
            record { kind = sort.Iterator; name = 13; place = at 15 8 } ∷
            record { kind = sort.Container; name = 14; place = at 17 21 } ∷
            record { kind = sort.Container; name = 15; place = at 19 20 } ∷
            record { kind = sort.Container; name = 16; place = at 21 22 } ∷
            record { kind = sort.Scalar; name = 8; place = at 27 12 } ∷
            [];
        body = block (Some 1) (all (
            declares (makes f.Vector (head (callees.Row 1) (at 2 3) None None []) (with (literal t.Int (pos 1))
            (with (literal t.Int (pos 2)) (with (literal t.Int (pos 4)) (with (literal t.Int (pos 6)) none))))) ∷
            declares (makes f.Deque (head (callees.Row 29) (at 3 3) None None []) (with (literal t.Int (pos 1))
            (with (literal t.Int (pos 2)) (with (literal t.Int (pos 4)) (with (literal t.Int (pos 6)) none))))) ∷
            declares (makes f.List (head (callees.Row 58) (at 4 3) None None []) (with (literal t.Int (pos 1))
            (with (literal t.Int (pos 2)) (with (literal t.Int (pos 4)) (with (literal t.Int (pos 6)) none))))) ∷
            declares (makes f.Set (head (callees.Row 93) (at 5 3) None None []) (with (literal t.Int (pos 1))
            (with (literal t.Int (pos 2)) (with (literal t.Int (pos 4)) (with (literal t.Int (pos 6)) none))))) ∷
            declares (makes f.HashSet (head (callees.Row 132) (at 6 3) None None []) (with (literal t.Int (pos 1))
            (with (literal t.Int (pos 2)) (with (literal t.Int (pos 4)) (with (literal t.Int (pos 6)) none))))) ∷
            declares (makes f.MultiSet (head (callees.Row 170) (at 7 3) None None []) (with (literal t.Int (pos 1))
            (with (literal t.Int (pos 2)) (with (literal t.Int (pos 2)) (with (literal t.Int (pos 6)) none))))) ∷
            declares (makes f.Vector (head (callees.Row 3) (at 8 3) None None []) (with (convert t.Size (literal t.Int (pos 9))) none)) ∷
            declares (makes f.List (head (callees.Row 57) (at 9 3) None None []) none) ∷
            declares (makes f.Vector (head (callees.Row 0) (at 10 3) None None []) none) ∷
            declares (makes f.Deque (head (callees.Row 29) (at 11 3) None None []) (with (literal t.Int (pos 1)) none)) ∷
            declares (makes f.List (head (callees.Row 58) (at 12 3) None None []) (with (literal t.Int (pos 1)) none)) ∷
            declares (set_iterator (call (head (callees.Row 36) (at 13 17) None (Some 1) (Some 1 ∷ [])) none)) ∷
            declares (set_iterator (call (head (callees.Row 65) (at 14 18) None (Some 2) (Some 2 ∷ [])) none)) ∷
            declares (set_iterator (call (head (callees.Row 8) (at 15 18) None (Some 6) (Some 6 ∷ [])) none)) ∷
            block (Some 0) (all (
            declares (makes f.Deque (head (callees.Row 29) (at 17 5) None None []) (with (literal t.Int (pos 1)) none)) ∷
            does (moves_to 0 (call (head (callees.Row 35) (at 18 14) None (Some 11) (Some 14 ∷ [])) none)) ∷
            declares (makes f.List (head (callees.Row 58) (at 19 5) None None []) (with (literal t.Int (pos 1)) none)) ∷
            does (moves_to 1 (call (head (callees.Row 64) (at 20 16) None (Some 12) (Some 15 ∷ [])) none)) ∷
            declares (makes f.Vector (head (callees.Row 1) (at 21 5) None None []) (with (literal t.Int (pos 1)) none)) ∷
            does (moves_to 2 (call (head (callees.Row 7) (at 22 16) None (Some 13) (Some 16 ∷ [])) none)) ∷
            [])) ∷
            does (assigns (element (head (callees.Row 39) (at 24 5) None (Some 1) (Some 1 ∷ [])) none) (literal t.Int (pos 2))) ∷
            does (assigns (element (head (callees.Operator operators.Dereference) (at 25 3) None None []) (with (call
            (head (callees.Row 226) (at 25 4) None None [])
            (with (call (head (callees.Row 35) (at 25 16) None (Some 1) (Some 1 ∷ [])) none) none)) none)) (literal t.Int (pos 1))) ∷
            does (prints (
            number (call (head (callees.Row 212) (at 26 16) None None []) (with
            (call (head (callees.Row 35) (at 26 37) None (Some 1) (Some 1 ∷ [])) none) (with
            (call (head (callees.Row 36) (at 26 48) None (Some 1) (Some 1 ∷ [])) none) (with (literal t.Int (pos 3)) none)))) ∷
            text (codes " ") ∷
            [])) ∷
            range_for 0 taken.Value 1 (at 27 3) 1 (does (prints (number (held (scalar 0 (at 27 32))) ∷ text (codes ",") ∷ []))) ∷
            []));
        close = at 28 1;
      } ∷
      [];
  main = 0;
  sites = at 23 3 ∷ at 28 1 ∷ [];
  loops = at 27 3 ∷ [];
  names =
      codes "v" ∷
      codes "d" ∷
      codes "l" ∷
      codes "s" ∷
      codes "h" ∷
      codes "g" ∷
      codes "o" ∷
      codes "b" ∷
      codes "e" ∷
      codes "c2" ∷
      codes "c3" ∷
      codes "dead" ∷
      codes "odead" ∷
      codes "vdead" ∷
      codes "t" ∷
      codes "t2" ∷
      codes "t3" ∷
      [];
  constants = pos 0 ∷ pos 1 ∷ pos 2 ∷ pos 3 ∷ pos 4 ∷ pos 5 ∷ pos 6 ∷ pos 7 ∷ pos 8 ∷ pos 9 ∷ pos 10 ∷ [];
}

binary_search_of_deque_partitioned_though_not_sorted_done_ends : run binary_search_of_deque_partitioned_though_not_sorted_done [] [] 500
    ≡ finish (Done (pos 0)) (codes "0 2,1,4,6,") 0
unfolding digits table
binary_search_of_deque_partitioned_though_not_sorted_done_ends = refl

-- set_intersection of deque, own appended, none: done
-- int main() {
--   std::vector<int> v = {1, 2, 4, 6};
--   std::deque<int> d = {1, 2, 4, 6};
--   std::list<int> l = {1, 2, 4, 6};
--   std::set<int> s = {1, 2, 4, 6};
--   std::unordered_set<int> h = {1, 2, 4, 6};
--   std::multiset<int> g = {1, 2, 2, 6};
--   std::vector<int> o(9);
--   std::list<int> b;
--   std::vector<int> e;
--   std::deque<int> c2 = {1};
--   std::list<int> c3 = {1};
--   auto dead = d.end();
--   auto odead = l.end();
--   auto vdead = o.end();
--   {
--     std::deque<int> t = {1};
--     dead = t.begin();
--     std::list<int> t2 = {1};
--     odead = t2.begin();
--     std::vector<int> t3 = {1};
--     vdead = t3.begin();
--   }
--   std::set_intersection(d.end(), d.end(), l.begin(), l.end(), std::back_inserter(d));
--   for (int e : d) std::cout << e << ",";
--   for (int e : o) std::cout << e << ",";
--   for (int e : b) std::cout << e << ",";
-- }
abbrev pub set_intersection_of_deque_own_appended_none_done : Typed
set_intersection_of_deque_own_appended_none_done = record {
  functions =
      record {
        name = codes "main";
        parameters = [];
        result = Some (parameter.Value t.Int);
        variables =
            record { kind = sort.Container; name = 0; place = at 2 20 } ∷
            record { kind = sort.Container; name = 1; place = at 3 19 } ∷
            record { kind = sort.Container; name = 2; place = at 4 18 } ∷
            record { kind = sort.Container; name = 3; place = at 5 17 } ∷
            record { kind = sort.Container; name = 4; place = at 6 27 } ∷
            record { kind = sort.Container; name = 5; place = at 7 22 } ∷
            record { kind = sort.Container; name = 6; place = at 8 20 } ∷
            record { kind = sort.Container; name = 7; place = at 9 18 } ∷
            record { kind = sort.Container; name = 8; place = at 10 20 } ∷
            record { kind = sort.Container; name = 9; place = at 11 19 } ∷
            record { kind = sort.Container; name = 10; place = at 12 18 } ∷
            record { kind = sort.Iterator; name = 11; place = at 13 8 } ∷
            record { kind = sort.Iterator; name = 12; place = at 14 8 } ∷
            record { kind = sort.Iterator; name = 13; place = at 15 8 } ∷
            record { kind = sort.Container; name = 14; place = at 17 21 } ∷
            record { kind = sort.Container; name = 15; place = at 19 20 } ∷
            record { kind = sort.Container; name = 16; place = at 21 22 } ∷
            record { kind = sort.Scalar; name = 8; place = at 25 12 } ∷
            record { kind = sort.Scalar; name = 8; place = at 26 12 } ∷
            record { kind = sort.Scalar; name = 8; place = at 27 12 } ∷
            [];
        body = block (Some 2) (all (
            declares (makes f.Vector (head (callees.Row 1) (at 2 3) None None []) (with (literal t.Int (pos 1))
            (with (literal t.Int (pos 2)) (with (literal t.Int (pos 4)) (with (literal t.Int (pos 6)) none))))) ∷
            declares (makes f.Deque (head (callees.Row 29) (at 3 3) None None []) (with (literal t.Int (pos 1))
            (with (literal t.Int (pos 2)) (with (literal t.Int (pos 4)) (with (literal t.Int (pos 6)) none))))) ∷
            declares (makes f.List (head (callees.Row 58) (at 4 3) None None []) (with (literal t.Int (pos 1))
            (with (literal t.Int (pos 2)) (with (literal t.Int (pos 4)) (with (literal t.Int (pos 6)) none))))) ∷
            declares (makes f.Set (head (callees.Row 93) (at 5 3) None None []) (with (literal t.Int (pos 1))
            (with (literal t.Int (pos 2)) (with (literal t.Int (pos 4)) (with (literal t.Int (pos 6)) none))))) ∷
            declares (makes f.HashSet (head (callees.Row 132) (at 6 3) None None []) (with (literal t.Int (pos 1))
            (with (literal t.Int (pos 2)) (with (literal t.Int (pos 4)) (with (literal t.Int (pos 6)) none))))) ∷
            declares (makes f.MultiSet (head (callees.Row 170) (at 7 3) None None []) (with (literal t.Int (pos 1))
            (with (literal t.Int (pos 2)) (with (literal t.Int (pos 2)) (with (literal t.Int (pos 6)) none))))) ∷
            declares (makes f.Vector (head (callees.Row 3) (at 8 3) None None []) (with (convert t.Size (literal t.Int (pos 9))) none)) ∷
            declares (makes f.List (head (callees.Row 57) (at 9 3) None None []) none) ∷
            declares (makes f.Vector (head (callees.Row 0) (at 10 3) None None []) none) ∷
            declares (makes f.Deque (head (callees.Row 29) (at 11 3) None None []) (with (literal t.Int (pos 1)) none)) ∷
            declares (makes f.List (head (callees.Row 58) (at 12 3) None None []) (with (literal t.Int (pos 1)) none)) ∷
            declares (set_iterator (call (head (callees.Row 36) (at 13 17) None (Some 1) (Some 1 ∷ [])) none)) ∷
            declares (set_iterator (call (head (callees.Row 65) (at 14 18) None (Some 2) (Some 2 ∷ [])) none)) ∷
            declares (set_iterator (call (head (callees.Row 8) (at 15 18) None (Some 6) (Some 6 ∷ [])) none)) ∷
            block (Some 0) (all (
            declares (makes f.Deque (head (callees.Row 29) (at 17 5) None None []) (with (literal t.Int (pos 1)) none)) ∷
            does (moves_to 0 (call (head (callees.Row 35) (at 18 14) None (Some 11) (Some 14 ∷ [])) none)) ∷
            declares (makes f.List (head (callees.Row 58) (at 19 5) None None []) (with (literal t.Int (pos 1)) none)) ∷
            does (moves_to 1 (call (head (callees.Row 64) (at 20 16) None (Some 12) (Some 15 ∷ [])) none)) ∷
            declares (makes f.Vector (head (callees.Row 1) (at 21 5) None None []) (with (literal t.Int (pos 1)) none)) ∷
            does (moves_to 2 (call (head (callees.Row 7) (at 22 16) None (Some 13) (Some 16 ∷ [])) none)) ∷
            [])) ∷
            does (evaluates (call (head (callees.Appends 216) (at 24 3) (Some 1) None []) (with
            (call (head (callees.Row 36) (at 24 27) None (Some 1) (Some 1 ∷ [])) none) (with
            (call (head (callees.Row 36) (at 24 36) None (Some 1) (Some 1 ∷ [])) none) (with
            (call (head (callees.Row 64) (at 24 45) None (Some 2) (Some 2 ∷ [])) none)
            (with (call (head (callees.Row 65) (at 24 56) None (Some 2) (Some 2 ∷ [])) none) (with (container 1) none))))))) ∷
            range_for 0 taken.Value 1 (at 25 3) 1 (does (prints (number (held (scalar 0 (at 25 32))) ∷ text (codes ",") ∷ []))) ∷
            range_for 1 taken.Value 6 (at 26 3) 6 (does (prints (number (held (scalar 0 (at 26 32))) ∷ text (codes ",") ∷ []))) ∷
            range_for 2 taken.Value 7 (at 27 3) 7 (does (prints (number (held (scalar 0 (at 27 32))) ∷ text (codes ",") ∷ []))) ∷
            []));
        close = at 28 1;
      } ∷
      [];
  main = 0;
  sites = at 23 3 ∷ at 24 3 ∷ at 28 1 ∷ [];
  loops = at 25 3 ∷ at 26 3 ∷ at 27 3 ∷ [];
  names =
      codes "v" ∷
      codes "d" ∷
      codes "l" ∷
      codes "s" ∷
      codes "h" ∷
      codes "g" ∷
      codes "o" ∷
      codes "b" ∷
      codes "e" ∷
      codes "c2" ∷
      codes "c3" ∷
      codes "dead" ∷
      codes "odead" ∷
      codes "vdead" ∷
      codes "t" ∷
      codes "t2" ∷
      codes "t3" ∷
      [];
  constants = pos 0 ∷ pos 1 ∷ pos 2 ∷ pos 3 ∷ pos 4 ∷ pos 5 ∷ pos 6 ∷ pos 7 ∷ pos 8 ∷ pos 9 ∷ pos 10 ∷ [];
}

set_intersection_of_deque_own_appended_none_done_ends : run set_intersection_of_deque_own_appended_none_done [] [] 500
    ≡ finish (Done (pos 0)) (codes "1,2,4,6,0,0,0,0,0,0,0,0,0,") 0
unfolding digits table
set_intersection_of_deque_own_appended_none_done_ends = refl

-- set_union of vector, one, beside: done
-- int main() {
--   std::vector<int> v = {1, 2, 4, 6};
--   std::deque<int> d = {1, 2, 4, 6};
--   std::list<int> l = {1, 2, 4, 6};
--   std::set<int> s = {1, 2, 4, 6};
--   std::unordered_set<int> h = {1, 2, 4, 6};
--   std::multiset<int> g = {1, 2, 2, 6};
--   std::vector<int> o(9);
--   std::list<int> b;
--   std::vector<int> e;
--   std::vector<int> c2 = {1};
--   std::deque<int> c3 = {1};
--   auto dead = v.end();
--   auto odead = d.end();
--   auto vdead = o.end();
--   {
--     std::vector<int> t = {1};
--     dead = t.begin();
--     std::deque<int> t2 = {1};
--     odead = t2.begin();
--     std::vector<int> t3 = {1};
--     vdead = t3.begin();
--   }
--   auto q = std::set_union(v.begin(), std::next(v.begin()), d.end(), d.end(), std::next(v.begin()));
--   for (int e : v) std::cout << e << ",";
--   for (int e : o) std::cout << e << ",";
--   for (int e : b) std::cout << e << ",";
-- }
abbrev pub set_union_of_vector_one_beside_done : Typed
set_union_of_vector_one_beside_done = record {
  functions =
      record {
        name = codes "main";
        parameters = [];
        result = Some (parameter.Value t.Int);
        variables =
            record { kind = sort.Container; name = 0; place = at 2 20 } ∷
            record { kind = sort.Container; name = 1; place = at 3 19 } ∷
            record { kind = sort.Container; name = 2; place = at 4 18 } ∷
            record { kind = sort.Container; name = 3; place = at 5 17 } ∷
            record { kind = sort.Container; name = 4; place = at 6 27 } ∷
            record { kind = sort.Container; name = 5; place = at 7 22 } ∷
            record { kind = sort.Container; name = 6; place = at 8 20 } ∷
            record { kind = sort.Container; name = 7; place = at 9 18 } ∷
            record { kind = sort.Container; name = 8; place = at 10 20 } ∷
            record { kind = sort.Container; name = 9; place = at 11 20 } ∷
            record { kind = sort.Container; name = 10; place = at 12 19 } ∷
            record { kind = sort.Iterator; name = 11; place = at 13 8 } ∷
            record { kind = sort.Iterator; name = 12; place = at 14 8 } ∷
            record { kind = sort.Iterator; name = 13; place = at 15 8 } ∷
            record { kind = sort.Container; name = 14; place = at 17 22 } ∷
            record { kind = sort.Container; name = 15; place = at 19 21 } ∷
            record { kind = sort.Container; name = 16; place = at 21 22 } ∷
            record { kind = sort.Iterator; name = 17; place = at 24 8 } ∷
            record { kind = sort.Scalar; name = 8; place = at 25 12 } ∷
            record { kind = sort.Scalar; name = 8; place = at 26 12 } ∷
            record { kind = sort.Scalar; name = 8; place = at 27 12 } ∷
            [];
        body = block (Some 1) (all (
            declares (makes f.Vector (head (callees.Row 1) (at 2 3) None None []) (with (literal t.Int (pos 1))
            (with (literal t.Int (pos 2)) (with (literal t.Int (pos 4)) (with (literal t.Int (pos 6)) none))))) ∷
            declares (makes f.Deque (head (callees.Row 29) (at 3 3) None None []) (with (literal t.Int (pos 1))
            (with (literal t.Int (pos 2)) (with (literal t.Int (pos 4)) (with (literal t.Int (pos 6)) none))))) ∷
            declares (makes f.List (head (callees.Row 58) (at 4 3) None None []) (with (literal t.Int (pos 1))
            (with (literal t.Int (pos 2)) (with (literal t.Int (pos 4)) (with (literal t.Int (pos 6)) none))))) ∷
            declares (makes f.Set (head (callees.Row 93) (at 5 3) None None []) (with (literal t.Int (pos 1))
            (with (literal t.Int (pos 2)) (with (literal t.Int (pos 4)) (with (literal t.Int (pos 6)) none))))) ∷
            declares (makes f.HashSet (head (callees.Row 132) (at 6 3) None None []) (with (literal t.Int (pos 1))
            (with (literal t.Int (pos 2)) (with (literal t.Int (pos 4)) (with (literal t.Int (pos 6)) none))))) ∷
            declares (makes f.MultiSet (head (callees.Row 170) (at 7 3) None None []) (with (literal t.Int (pos 1))
            (with (literal t.Int (pos 2)) (with (literal t.Int (pos 2)) (with (literal t.Int (pos 6)) none))))) ∷
            declares (makes f.Vector (head (callees.Row 3) (at 8 3) None None []) (with (convert t.Size (literal t.Int (pos 9))) none)) ∷
            declares (makes f.List (head (callees.Row 57) (at 9 3) None None []) none) ∷
            declares (makes f.Vector (head (callees.Row 0) (at 10 3) None None []) none) ∷
            declares (makes f.Vector (head (callees.Row 1) (at 11 3) None None []) (with (literal t.Int (pos 1)) none)) ∷
            declares (makes f.Deque (head (callees.Row 29) (at 12 3) None None []) (with (literal t.Int (pos 1)) none)) ∷
            declares (set_iterator (call (head (callees.Row 8) (at 13 17) None (Some 0) (Some 0 ∷ [])) none)) ∷
            declares (set_iterator (call (head (callees.Row 36) (at 14 18) None (Some 1) (Some 1 ∷ [])) none)) ∷
            declares (set_iterator (call (head (callees.Row 8) (at 15 18) None (Some 6) (Some 6 ∷ [])) none)) ∷
            block (Some 0) (all (
            declares (makes f.Vector (head (callees.Row 1) (at 17 5) None None []) (with (literal t.Int (pos 1)) none)) ∷
            does (moves_to 0 (call (head (callees.Row 7) (at 18 14) None (Some 11) (Some 14 ∷ [])) none)) ∷
            declares (makes f.Deque (head (callees.Row 29) (at 19 5) None None []) (with (literal t.Int (pos 1)) none)) ∷
            does (moves_to 1 (call (head (callees.Row 35) (at 20 16) None (Some 12) (Some 15 ∷ [])) none)) ∷
            declares (makes f.Vector (head (callees.Row 1) (at 21 5) None None []) (with (literal t.Int (pos 1)) none)) ∷
            does (moves_to 2 (call (head (callees.Row 7) (at 22 16) None (Some 13) (Some 16 ∷ [])) none)) ∷
            [])) ∷
            declares (set_iterator (call (head (callees.Row 215) (at 24 12) None None []) (with
            (call (head (callees.Row 7) (at 24 29) None (Some 0) (Some 0 ∷ [])) none) (with (call
            (head (callees.Row 226) (at 24 38) None None [])
            (with (call (head (callees.Row 7) (at 24 50) None (Some 0) (Some 0 ∷ [])) none) none)) (with
            (call (head (callees.Row 36) (at 24 62) None (Some 1) (Some 1 ∷ [])) none) (with
            (call (head (callees.Row 36) (at 24 71) None (Some 1) (Some 1 ∷ [])) none) (with (call
            (head (callees.Row 226) (at 24 78) None None [])
            (with (call (head (callees.Row 7) (at 24 90) None (Some 0) (Some 0 ∷ [])) none) none)) none))))))) ∷
            range_for 0 taken.Value 0 (at 25 3) 0 (does (prints (number (held (scalar 0 (at 25 32))) ∷ text (codes ",") ∷ []))) ∷
            range_for 1 taken.Value 6 (at 26 3) 6 (does (prints (number (held (scalar 0 (at 26 32))) ∷ text (codes ",") ∷ []))) ∷
            range_for 2 taken.Value 7 (at 27 3) 7 (does (prints (number (held (scalar 0 (at 27 32))) ∷ text (codes ",") ∷ []))) ∷
            []));
        close = at 28 1;
      } ∷
      [];
  main = 0;
  sites = at 23 3 ∷ at 28 1 ∷ [];
  loops = at 25 3 ∷ at 26 3 ∷ at 27 3 ∷ [];
  names =
      codes "v" ∷
      codes "d" ∷
      codes "l" ∷
      codes "s" ∷
      codes "h" ∷
      codes "g" ∷
      codes "o" ∷
      codes "b" ∷
      codes "e" ∷
      codes "c2" ∷
      codes "c3" ∷
      codes "dead" ∷
      codes "odead" ∷
      codes "vdead" ∷
      codes "t" ∷
      codes "t2" ∷
      codes "t3" ∷
      codes "q" ∷
      [];
  constants = pos 0 ∷ pos 1 ∷ pos 2 ∷ pos 3 ∷ pos 4 ∷ pos 5 ∷ pos 6 ∷ pos 7 ∷ pos 8 ∷ pos 9 ∷ pos 10 ∷ [];
}

set_union_of_vector_one_beside_done_ends : run set_union_of_vector_one_beside_done [] [] 500
    ≡ finish (Done (pos 0)) (codes "1,1,4,6,0,0,0,0,0,0,0,0,0,") 0
unfolding digits table
set_union_of_vector_one_beside_done_ends = refl

-- random program, input: done (24)
-- int main() {
--   std::set<int> s1 = {0, 2, 3, 4, 4};
--   auto it2 = s1.begin();
--   std::cout << "a" << 1 << std::endl;
--   s1.insert(s1.size());
--   s1.insert(1);
--   s1.erase(s1.begin(), s1.upper_bound(2));
-- }
abbrev pub random_program_input_done_24 : Typed
random_program_input_done_24 = record {
  functions =
      record {
        name = codes "main";
        parameters = [];
        result = Some (parameter.Value t.Int);
        variables =
            record { kind = sort.Container; name = 0; place = at 2 17 } ∷
            record { kind = sort.Iterator; name = 1; place = at 3 8 } ∷
            [];
        body = block (Some 1) (all (
            declares (makes f.Set (head (callees.Row 93) (at 2 3) None None []) (with (literal t.Int (pos 0)) (with (literal t.Int (pos 2))
            (with (literal t.Int (pos 3)) (with (literal t.Int (pos 4)) (with (literal t.Int (pos 4)) none)))))) ∷
            declares (set_iterator (call (head (callees.Row 97) (at 3 17) None (Some 0) (Some 0 ∷ [])) none)) ∷
            does (prints (text (codes "a") ∷ number (literal t.Int (pos 1)) ∷ endline ∷ [])) ∷
            does (evaluates (call (head (callees.Row 101) (at 5 6) None (Some 0) (Some 0 ∷ []))
            (with (convert t.Int (call (head (callees.Row 99) (at 5 16) None (Some 0) (Some 0 ∷ [])) none)) none))) ∷
            does (evaluates (call (head (callees.Row 101) (at 6 6) None (Some 0) (Some 0 ∷ [])) (with (literal t.Int (pos 1)) none))) ∷
            does (evaluates (call (head (callees.Row 104) (at 7 6) (Some 0) (Some 0) (Some 0 ∷ [])) (with
            (call (head (callees.Row 97) (at 7 15) None (Some 0) (Some 0 ∷ [])) none)
            (with (call (head (callees.Row 111) (at 7 27) None (Some 0) (Some 0 ∷ [])) (with (literal t.Int (pos 2)) none)) none)))) ∷
            []));
        close = at 8 1;
      } ∷
      [];
  main = 0;
  sites = at 7 6 ∷ at 8 1 ∷ [];
  loops = [];
  names = codes "s1" ∷ codes "it2" ∷ [];
  constants = negsuc 0 ∷ pos 0 ∷ pos 1 ∷ pos 2 ∷ pos 3 ∷ pos 4 ∷ pos 5 ∷ [];
}

random_program_input_done_24_ends : run random_program_input_done_24 (pos 0 ∷ pos 3 ∷ [])
    (0 ∷ 2 ∷ 1 ∷ 3 ∷ 1 ∷ 0 ∷ 0 ∷ 0 ∷ 4294967295 ∷ 1 ∷ 3 ∷ 2 ∷ 9 ∷ 2 ∷ 2 ∷ 4294967295 ∷ 1 ∷ []) 3000
    ≡ finish (Done (pos 0)) (codes "a1\n") 0
unfolding digits table
random_program_input_done_24_ends = refl

-- random program, branch: done (19)
-- int main() {
--   std::multiset<int> ms1{1, 10, 1};
--   auto it2 = ms1.begin();
--   it2 = ms1.erase(it2);
--   std::size_t x3 = ms1.empty() || 2 - std::accumulate(ms1.begin(), ms1.end(), 2);
--   auto it4 = it2;
--   std::vector<int> v5(ms1.begin(), ms1.end());
-- }
abbrev pub random_program_branch_done_19 : Typed
random_program_branch_done_19 = record {
  functions =
      record {
        name = codes "main";
        parameters = [];
        result = Some (parameter.Value t.Int);
        variables =
            record { kind = sort.Container; name = 0; place = at 2 22 } ∷
            record { kind = sort.Iterator; name = 1; place = at 3 8 } ∷
            record { kind = sort.Scalar; name = 2; place = at 5 15 } ∷
            record { kind = sort.Iterator; name = 3; place = at 6 8 } ∷
            record { kind = sort.Container; name = 4; place = at 7 20 } ∷
            [];
        body = block (Some 1) (all (
            declares (makes f.MultiSet (head (callees.Row 170) (at 2 3) None None [])
            (with (literal t.Int (pos 1)) (with (literal t.Int (pos 10)) (with (literal t.Int (pos 1)) none)))) ∷
            declares (set_iterator (call (head (callees.Row 173) (at 3 18) None (Some 0) (Some 0 ∷ [])) none)) ∷
            does (moves_to 0 (call (head (callees.Row 179) (at 4 13) (Some 0) (Some 0) (Some 0 ∷ Some 1 ∷ [])) (with (iterator 0) none))) ∷
            declares (set_scalar t.Size (convert t.Size (logical_or (at 5 32)
            (call (head (callees.Row 176) (at 5 24) None (Some 0) (Some 0 ∷ [])) none) (arithmetic o.Subtract t.Int (at 5 37)
            (literal t.Int (pos 2)) (call (head (callees.Row 223) (at 5 39) None None []) (with
            (call (head (callees.Row 173) (at 5 59) None (Some 0) (Some 0 ∷ [])) none) (with
            (call (head (callees.Row 174) (at 5 72) None (Some 0) (Some 0 ∷ [])) none) (with (literal t.Int (pos 2)) none)))))))) ∷
            declares (set_iterator (iterator 0)) ∷
            declares (makes f.Vector (head (callees.Row 5) (at 7 3) None None []) (with
            (call (head (callees.Row 173) (at 7 27) None (Some 0) (Some 0 ∷ [])) none)
            (with (call (head (callees.Row 174) (at 7 40) None (Some 0) (Some 0 ∷ [])) none) none))) ∷
            []));
        close = at 8 1;
      } ∷
      [];
  main = 0;
  sites = at 4 13 ∷ at 8 1 ∷ [];
  loops = [];
  names = codes "ms1" ∷ codes "it2" ∷ codes "x3" ∷ codes "it4" ∷ codes "v5" ∷ [];
  constants = pos 0 ∷ pos 1 ∷ pos 2 ∷ pos 3 ∷ pos 9 ∷ pos 10 ∷ pos 11 ∷ [];
}

random_program_branch_done_19_ends : run random_program_branch_done_19 [] (2 ∷ 0 ∷ 9 ∷ []) 3000 ≡ finish (Done (pos 0)) [] 0
unfolding table
random_program_branch_done_19_ends = refl

-- random program, input: done (25)
-- int main() {
--   std::vector<int> v1{};
--   v1.assign(1, 3);
--   v1.insert(v1.end(), 1, 4);
--   while (v1.empty()) {
--     std::vector<int> v2{1, 2, 4};
--     v1.insert(v1.begin(), v1.begin(), v1.end());
--     auto it3 = v2.end() - 5;
--   }
--   v1.insert(v1.end(), 1);
--   v1.swap(v1);
-- }
abbrev pub random_program_input_done_25 : Typed
random_program_input_done_25 = record {
  functions =
      record {
        name = codes "main";
        parameters = [];
        result = Some (parameter.Value t.Int);
        variables =
            record { kind = sort.Container; name = 0; place = at 2 20 } ∷
            record { kind = sort.Container; name = 1; place = at 6 22 } ∷
            record { kind = sort.Iterator; name = 2; place = at 8 10 } ∷
            [];
        body = block (Some 6) (all (
            declares (makes f.Vector (head (callees.Row 0) (at 2 3) None None []) none) ∷
            does (evaluates (call (head (callees.Row 25) (at 3 6) (Some 0) (Some 0) (Some 0 ∷ []))
            (with (convert t.Size (literal t.Int (pos 1))) (with (literal t.Int (pos 3)) none)))) ∷
            does (evaluates (call (head (callees.Row 18) (at 4 6) (Some 1) (Some 0) (Some 0 ∷ [])) (with
            (call (head (callees.Row 8) (at 4 16) None (Some 0) (Some 0 ∷ [])) none)
            (with (convert t.Size (literal t.Int (pos 1))) (with (literal t.Int (pos 4)) none))))) ∷
            while 0 (test (call (head (callees.Row 10) (at 5 13) None (Some 0) (Some 0 ∷ [])) none)) (block (Some 3) (all (
            declares (makes f.Vector (head (callees.Row 1) (at 6 5) None None [])
            (with (literal t.Int (pos 1)) (with (literal t.Int (pos 2)) (with (literal t.Int (pos 4)) none)))) ∷
            does (evaluates (call (head (callees.Row 19) (at 7 8) (Some 2) (Some 0) (Some 0 ∷ [])) (with
            (call (head (callees.Row 7) (at 7 18) None (Some 0) (Some 0 ∷ [])) none) (with
            (call (head (callees.Row 7) (at 7 30) None (Some 0) (Some 0 ∷ [])) none)
            (with (call (head (callees.Row 8) (at 7 42) None (Some 0) (Some 0 ∷ [])) none) none))))) ∷
            declares (set_iterator (call (head (callees.Operator operators.Subtract) (at 8 25) None None []) (with
            (call (head (callees.Row 8) (at 8 19) None (Some 1) (Some 1 ∷ [])) none)
            (with (convert t.Diff (literal t.Int (pos 5))) none)))) ∷
            []))) ∷
            does (evaluates (call (head (callees.Row 17) (at 10 6) (Some 4) (Some 0) (Some 0 ∷ []))
            (with (call (head (callees.Row 8) (at 10 16) None (Some 0) (Some 0 ∷ [])) none) (with (literal t.Int (pos 1)) none)))) ∷
            does (evaluates (call (head (callees.Row 27) (at 11 6) (Some 5) (Some 0) (Some 0 ∷ Some 0 ∷ [])) (with (container 0) none))) ∷
            []));
        close = at 12 1;
      } ∷
      [];
  main = 0;
  sites = at 3 6 ∷ at 4 6 ∷ at 7 8 ∷ at 9 3 ∷ at 10 6 ∷ at 11 6 ∷ at 12 1 ∷ [];
  loops = at 5 3 ∷ [];
  names = codes "v1" ∷ codes "v2" ∷ codes "it3" ∷ [];
  constants = pos 0 ∷ pos 1 ∷ pos 2 ∷ pos 3 ∷ pos 4 ∷ pos 5 ∷ pos 6 ∷ [];
}

random_program_input_done_25_ends : run random_program_input_done_25 (pos 5 ∷ pos 2 ∷ pos 2 ∷ []) (9 ∷ 0 ∷ []) 3000
    ≡ finish (Done (pos 0)) [] 0
unfolding table
random_program_input_done_25_ends = refl

-- random program, straight: trap (4)
-- int main() {
--   std::multiset<int> ms1{1, 4};
--   ms1.erase(ms1.equal_range(3).first);
--   std::vector<int> v2(1, 7);
--   auto it3 = std::prev(v2.end());
--   it3++;
--   auto it4 = ms1.find(2);
--   it3 = v2.erase(v2.begin());
--   v2.push_back(1);
--   it3 = v2.erase(v2.begin());
--   std::merge(v2.begin(), v2.end(), ms1.begin(), ms1.end(), std::back_inserter(v2));
--   it4++;
-- }
abbrev pub random_program_straight_trap_4 : Typed
random_program_straight_trap_4 = record {
  functions =
      record {
        name = codes "main";
        parameters = [];
        result = Some (parameter.Value t.Int);
        variables =
            record { kind = sort.Container; name = 0; place = at 14 22 } ∷
            record { kind = sort.Container; name = 1; place = at 16 20 } ∷
            record { kind = sort.Iterator; name = 2; place = at 17 8 } ∷
            record { kind = sort.Iterator; name = 3; place = at 19 8 } ∷
            [];
        body = block (Some 5) (all (
            declares (makes f.MultiSet (head (callees.Row 170) (at 14 3) None None [])
            (with (literal t.Int (pos 1)) (with (literal t.Int (pos 4)) none))) ∷
            does (evaluates (call (head (callees.Row 179) (at 15 7) (Some 0) (Some 0) (Some 0 ∷ [])) (with (first (at 15 31)
            (call (head (callees.Row 188) (at 15 17) None (Some 0) (Some 0 ∷ [])) (with (literal t.Int (pos 3)) none))) none))) ∷
            declares (makes f.Vector (head (callees.Row 4) (at 16 3) None None [])
            (with (convert t.Size (literal t.Int (pos 1))) (with (literal t.Int (pos 7)) none))) ∷
            declares (set_iterator (call (head (callees.Row 227) (at 17 14) None None [])
            (with (call (head (callees.Row 8) (at 17 27) None (Some 1) (Some 1 ∷ [])) none) none))) ∷
            does (evaluates (move Postfix 0 (head (callees.Operator operators.Increment) (at 18 6) None None (None ∷ Some 2 ∷ [])) none)) ∷
            declares
            (set_iterator (call (head (callees.Row 184) (at 19 18) None (Some 0) (Some 0 ∷ [])) (with (literal t.Int (pos 2)) none))) ∷
            does (moves_to 0 (call (head (callees.Row 20) (at 20 12) (Some 1) (Some 1) (Some 1 ∷ []))
            (with (call (head (callees.Row 7) (at 20 21) None (Some 1) (Some 1 ∷ [])) none) none))) ∷
            does (evaluates (call (head (callees.Row 15) (at 21 6) (Some 2) (Some 1) (Some 1 ∷ [])) (with (literal t.Int (pos 1)) none))) ∷
            does (moves_to 0 (call (head (callees.Row 20) (at 22 12) (Some 3) (Some 1) (Some 1 ∷ []))
            (with (call (head (callees.Row 7) (at 22 21) None (Some 1) (Some 1 ∷ [])) none) none))) ∷
            does (evaluates (call (head (callees.Appends 213) (at 23 3) (Some 4) None []) (with
            (call (head (callees.Row 7) (at 23 17) None (Some 1) (Some 1 ∷ [])) none) (with
            (call (head (callees.Row 8) (at 23 29) None (Some 1) (Some 1 ∷ [])) none) (with
            (call (head (callees.Row 173) (at 23 40) None (Some 0) (Some 0 ∷ [])) none)
            (with (call (head (callees.Row 174) (at 23 53) None (Some 0) (Some 0 ∷ [])) none) (with (container 1) none))))))) ∷
            does (evaluates (move Postfix 1 (head (callees.Operator operators.Increment) (at 24 6) None None (None ∷ Some 3 ∷ [])) none)) ∷
            []));
        close = at 25 1;
      } ∷
      [];
  main = 0;
  sites = at 15 7 ∷ at 20 12 ∷ at 21 6 ∷ at 22 12 ∷ at 23 3 ∷ at 25 1 ∷ [];
  loops = [];
  names = codes "ms1" ∷ codes "v2" ∷ codes "it3" ∷ codes "it4" ∷ [];
  constants = pos 0 ∷ pos 1 ∷ pos 2 ∷ pos 3 ∷ pos 4 ∷ pos 5 ∷ pos 6 ∷ pos 7 ∷ pos 8 ∷ [];
}

random_program_straight_trap_4_ends : run random_program_straight_trap_4 (pos 2147483647 ∷ negsuc 0 ∷ negsuc 0 ∷ pos 0 ∷ [])
    (2 ∷ 2 ∷ 0 ∷ 3 ∷ 1 ∷ []) 3000
    ≡ finish (Trapped (trap (at 24 6) 5 (codes "++") 1 (Some 3) None)) [] 0
unfolding table
random_program_straight_trap_4_ends = refl

-- random program, branch: done (15)
-- int main() {
--   std::list<int> l1 = {0, 1};
--   std::cout << 10 << "\n";
--   bool x4 = 3;
--   l1.splice(l1.end(), l1, l1.begin());
--   l1.push_back(5);
--   l1.push_back(x4);
--   l1.insert(l1.begin(), 1, 4);
--   l1.erase(l1.begin());
--   std::set<int> s6 = {1, 1};
--   std::set_union(s6.find(1), std::prev(s6.find(3)), s6.begin(), s6.end(), std::back_inserter(l1));
--   l1.insert(l1.end(), s6.begin(), s6.end());
--   s6.erase(7);
--   std::size_t x7;
--   s6.swap(s6);
--   if (s6.empty()) {
--     l1.erase(std::next(l1.begin()));
--     l1.erase(std::lower_bound(l1.begin(), l1.end(), 2));
--   }
--   l1.insert(l1.begin(), 1);
-- }
abbrev pub random_program_branch_done_15 : Typed
random_program_branch_done_15 = record {
  functions =
      record {
        name = codes "main";
        parameters = [];
        result = Some (parameter.Value t.Int);
        variables =
            record { kind = sort.Container; name = 0; place = at 2 18 } ∷
            record { kind = sort.Scalar; name = 1; place = at 4 8 } ∷
            record { kind = sort.Container; name = 2; place = at 10 17 } ∷
            record { kind = sort.Scalar; name = 3; place = at 14 15 } ∷
            [];
        body = block (Some 6) (all (
            declares (makes f.List (head (callees.Row 58) (at 2 3) None None [])
            (with (literal t.Int (pos 0)) (with (literal t.Int (pos 1)) none))) ∷
            does (prints (number (literal t.Int (pos 10)) ∷ text (codes "\n") ∷ [])) ∷
            declares (set_scalar t.Bool (convert t.Bool (literal t.Int (pos 3)))) ∷
            does (evaluates (call (head (callees.Row 90) (at 5 6) None (Some 0) (Some 0 ∷ None ∷ Some 0 ∷ [])) (with
            (call (head (callees.Row 65) (at 5 16) None (Some 0) (Some 0 ∷ [])) none)
            (with (container 0) (with (call (head (callees.Row 64) (at 5 30) None (Some 0) (Some 0 ∷ [])) none) none))))) ∷
            does (evaluates (call (head (callees.Row 70) (at 6 6) None (Some 0) (Some 0 ∷ [])) (with (literal t.Int (pos 5)) none))) ∷
            does (evaluates (call (head (callees.Row 70) (at 7 6) None (Some 0) (Some 0 ∷ Some 1 ∷ []))
            (with (convert t.Int (held (scalar 0 (at 7 16)))) none))) ∷
            does (evaluates (call (head (callees.Row 75) (at 8 6) None (Some 0) (Some 0 ∷ [])) (with
            (call (head (callees.Row 64) (at 8 16) None (Some 0) (Some 0 ∷ [])) none)
            (with (convert t.Size (literal t.Int (pos 1))) (with (literal t.Int (pos 4)) none))))) ∷
            does (evaluates (call (head (callees.Row 77) (at 9 6) (Some 0) (Some 0) (Some 0 ∷ []))
            (with (call (head (callees.Row 64) (at 9 15) None (Some 0) (Some 0 ∷ [])) none) none))) ∷
            declares (makes f.Set (head (callees.Row 93) (at 10 3) None None [])
            (with (literal t.Int (pos 1)) (with (literal t.Int (pos 1)) none))) ∷
            does (evaluates (call (head (callees.Appends 215) (at 11 3) (Some 1) None []) (with
            (call (head (callees.Row 108) (at 11 21) None (Some 1) (Some 2 ∷ [])) (with (literal t.Int (pos 1)) none)) (with (call
            (head (callees.Row 227) (at 11 30) None None []) (with
            (call (head (callees.Row 108) (at 11 43) None (Some 1) (Some 2 ∷ [])) (with (literal t.Int (pos 3)) none)) none)) (with
            (call (head (callees.Row 97) (at 11 56) None (Some 1) (Some 2 ∷ [])) none)
            (with (call (head (callees.Row 98) (at 11 68) None (Some 1) (Some 2 ∷ [])) none) (with (container 0) none))))))) ∷
            does (evaluates (call (head (callees.Row 76) (at 12 6) None (Some 0) (Some 0 ∷ [])) (with
            (call (head (callees.Row 65) (at 12 16) None (Some 0) (Some 0 ∷ [])) none) (with
            (call (head (callees.Row 97) (at 12 26) None (Some 1) (Some 2 ∷ [])) none)
            (with (call (head (callees.Row 98) (at 12 38) None (Some 1) (Some 2 ∷ [])) none) none))))) ∷
            does (evaluates (call (head (callees.Row 105) (at 13 6) (Some 2) (Some 1) (Some 2 ∷ [])) (with (literal t.Int (pos 7)) none))) ∷
            declares (unset_scalar t.Size) ∷
            does (evaluates (call (head (callees.Row 107) (at 15 6) (Some 3) (Some 1) (Some 2 ∷ Some 2 ∷ [])) (with (container 1) none))) ∷
            choice (test (call (head (callees.Row 100) (at 16 10) None (Some 1) (Some 2 ∷ [])) none)) (block None (all (
            does (evaluates (call (head (callees.Row 77) (at 17 8) (Some 4) (Some 0) (Some 0 ∷ [])) (with (call
            (head (callees.Row 226) (at 17 14) None None [])
            (with (call (head (callees.Row 64) (at 17 27) None (Some 0) (Some 0 ∷ [])) none) none)) none))) ∷
            does (evaluates (call (head (callees.Row 77) (at 18 8) (Some 5) (Some 0) (Some 0 ∷ [])) (with (call
            (head (callees.Row 210) (at 18 14) None None []) (with
            (call (head (callees.Row 64) (at 18 34) None (Some 0) (Some 0 ∷ [])) none) (with
            (call (head (callees.Row 65) (at 18 46) None (Some 0) (Some 0 ∷ [])) none)
            (with (literal t.Int (pos 2)) none)))) none))) ∷
            []))) ∷
            does (evaluates (call (head (callees.Row 74) (at 20 6) None (Some 0) (Some 0 ∷ []))
            (with (call (head (callees.Row 64) (at 20 16) None (Some 0) (Some 0 ∷ [])) none) (with (literal t.Int (pos 1)) none)))) ∷
            []));
        close = at 21 1;
      } ∷
      [];
  main = 0;
  sites = at 9 6 ∷ at 11 3 ∷ at 13 6 ∷ at 15 6 ∷ at 17 8 ∷ at 18 8 ∷ at 21 1 ∷ [];
  loops = [];
  names = codes "l1" ∷ codes "x4" ∷ codes "s6" ∷ codes "x7" ∷ [];
  constants = negsuc 0 ∷ pos 0 ∷ pos 1 ∷ pos 2 ∷ pos 3 ∷ pos 4 ∷ pos 5 ∷ pos 6 ∷ pos 7 ∷ pos 8 ∷ pos 9 ∷ pos 10 ∷ pos 11 ∷ [];
}

random_program_branch_done_15_ends : run random_program_branch_done_15 (pos 1 ∷ pos 2 ∷ negsuc 2147483647 ∷ pos 1 ∷ [])
    (0 ∷ 0 ∷ 0 ∷ 4294967295 ∷ 3 ∷ 4294967295 ∷ 0 ∷ 1 ∷ 0 ∷ []) 3000
    ≡ finish (Done (pos 0)) (codes "10\n") 0
unfolding digits table
random_program_branch_done_15_ends = refl

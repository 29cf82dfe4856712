-- Closed runs of texts, each made of a C++ text and its end and output by tools/run_goal.py; the texts and ends are not this program's own answers.
use Rattle.sl_base.specs.declared.scalar.Scalar.TheVariants as t
use Rattle.sl_base.specs.declared.form.Form.TheVariants as f
use Rattle.sl_syntax.specs.declared.operator.Arithmetic.TheVariants as o
use Rattle.sl_syntax.specs.declared.operator.Comparison.TheVariants as c
use Rattle.sl_syntax.specs.declared.typed.callee.Callee.TheVariants as callees
use Rattle.sl_syntax.specs.declared.typed.element.ElementPart.TheVariants as part
use Rattle.sl_syntax.specs.declared.typed.element.Taken.TheVariants as taken
use Rattle.sl_syntax.specs.declared.typed.operator.Operator.TheVariants as operators
use Rattle.sl_syntax.specs.declared.typed.parameter.ParameterKind.TheVariants as parameter
use Rattle.sl_syntax.specs.declared.typed.variable.VariableKind.TheVariants as sort
use Rattle.std.specs.Prelude.{◌≡◌, refl, [], ◌∷◌, Some, None, pos, negsuc, codes}
use Rattle.std.specs.Fmt.{digits}
use Rattle.sl_syntax.specs.declared.typed.step.Fix.TheVariants.{Prefix}
use Rattle.sl_syntax.specs.Typed.{literal, held, iterator, convert, logical_not, logical_and, move, call, container, scalar, reference}
use Rattle.sl_syntax.specs.Typed.{element, none, with, test, text, number, prints, evaluates, updates, moves_to, unset_scalar, set_scalar}
use Rattle.sl_syntax.specs.Typed.{set_iterator, binds_reference, makes, block, declares, choice_else, range_for, does, Typed}
use Rattle.sl_specs.specs.Table.{table}
use Rattle.sl_model.specs.Runs.Ends.{Done, Trapped}
use Rattle.sl_model.specs.Runs.Run.{run}
use Rattle.sl_model.proofs.Examples.Short.{at, head, all, finish, trap}

-- needs of list.splice(p, c, f, l): none: done
-- int main() {
--   std::list<int> w = {7, 8};
--   std::vector<int> u = {5, 6};
--   std::vector<int> u2 = {1};
--   std::list<int> c = {1, 2, 3, 4};
--   auto dead = c.end();
--   {
--     std::list<int> t = {1};
--     dead = t.begin();
--   }
--   auto udead = u.end();
--   {
--     std::vector<int> t = {1};
--     udead = t.begin();
--   }
--   c.splice(c.begin(), w, w.begin(), w.end());
--   std::cout << c.size();
-- }
abbrev pub needs_of_list_splice_p_c_f_l_none_done : Typed
needs_of_list_splice_p_c_f_l_none_done = record {
  functions =
      record {
        name = codes "main";
        parameters = [];
        result = Some (parameter.Value t.Int);
        variables =
            record { kind = sort.Container; name = 0; place = at 2 18 } ∷
            record { kind = sort.Container; name = 1; place = at 3 20 } ∷
            record { kind = sort.Container; name = 2; place = at 4 20 } ∷
            record { kind = sort.Container; name = 3; place = at 5 18 } ∷
            record { kind = sort.Iterator; name = 4; place = at 6 8 } ∷
            record { kind = sort.Container; name = 5; place = at 8 20 } ∷
            record { kind = sort.Iterator; name = 6; place = at 11 8 } ∷
            record { kind = sort.Container; name = 5; place = at 13 22 } ∷
            [];
        body = block (Some 2) (all (
            declares (makes f.List (head (callees.Row 58) (at 2 3) None None [])
            (with (literal t.Int (pos 7)) (with (literal t.Int (pos 8)) none))) ∷
            declares (makes f.Vector (head (callees.Row 1) (at 3 3) None None [])
            (with (literal t.Int (pos 5)) (with (literal t.Int (pos 6)) none))) ∷
            declares (makes f.Vector (head (callees.Row 1) (at 4 3) None None []) (with (literal t.Int (pos 1)) none)) ∷
            declares (makes f.List (head (callees.Row 58) (at 5 3) None None []) (with (literal t.Int (pos 1))
            (with (literal t.Int (pos 2)) (with (literal t.Int (pos 3)) (with (literal t.Int (pos 4)) none))))) ∷
            declares (set_iterator (call (head (callees.Row 65) (at 6 17) None (Some 3) (Some 3 ∷ [])) none)) ∷
            block (Some 0) (all (
            declares (makes f.List (head (callees.Row 58) (at 8 5) None None []) (with (literal t.Int (pos 1)) none)) ∷
            does (moves_to 0 (call (head (callees.Row 64) (at 9 14) None (Some 4) (Some 5 ∷ [])) none)) ∷
            [])) ∷
            declares (set_iterator (call (head (callees.Row 8) (at 11 18) None (Some 1) (Some 1 ∷ [])) none)) ∷
            block (Some 1) (all (
            declares (makes f.Vector (head (callees.Row 1) (at 13 5) None None []) (with (literal t.Int (pos 1)) none)) ∷
            does (moves_to 1 (call (head (callees.Row 7) (at 14 15) None (Some 4) (Some 5 ∷ [])) none)) ∷
            [])) ∷
            does (evaluates (call (head (callees.Row 91) (at 16 5) None (Some 3) (Some 3 ∷ None ∷ Some 0 ∷ [])) (with
            (call (head (callees.Row 64) (at 16 14) None (Some 3) (Some 3 ∷ [])) none) (with (container 0) (with
            (call (head (callees.Row 64) (at 16 28) None (Some 0) (Some 0 ∷ [])) none)
            (with (call (head (callees.Row 65) (at 16 39) None (Some 0) (Some 0 ∷ [])) none) none)))))) ∷
            does (prints (number (call (head (callees.Row 66) (at 17 18) None (Some 3) (Some 3 ∷ [])) none) ∷ [])) ∷
            []));
        close = at 18 1;
      } ∷
      [];
  main = 0;
  sites = at 10 3 ∷ at 15 3 ∷ at 18 1 ∷ [];
  loops = [];
  names = codes "w" ∷ codes "u" ∷ codes "u2" ∷ codes "c" ∷ codes "dead" ∷ codes "t" ∷ codes "udead" ∷ [];
  constants = pos 0 ∷ pos 1 ∷ pos 2 ∷ pos 3 ∷ pos 4 ∷ pos 5 ∷ pos 6 ∷ pos 7 ∷ pos 8 ∷ pos 9 ∷ [];
}

needs_of_list_splice_p_c_f_l_none_done_ends : run needs_of_list_splice_p_c_f_l_none_done [] [] 500 ≡ finish (Done (pos 0)) (codes "6") 0
unfolding digits table
needs_of_list_splice_p_c_f_l_none_done_ends = refl

-- random program, input: done (10)
-- int main() {
--   std::deque<int> d1 = {2};
--   d1.erase(d1.end(), std::find(d1.begin(), d1.end(), 4));
--   auto it2 = d1.end();
--   d1.pop_front();
--   auto it5 = d1.end();
--   std::deque<int> d6 = {1, 0};
--   d1.insert(d1.begin(), 1, 1);
--   std::deque<int> d8{0, 1, 2, 2};
--   d1.assign(7, d8.at(2));
--   d8.push_front((4 && 1));
-- }
abbrev pub random_program_input_done_10 : Typed
random_program_input_done_10 = record {
  functions =
      record {
        name = codes "main";
        parameters = [];
        result = Some (parameter.Value t.Int);
        variables =
            record { kind = sort.Container; name = 0; place = at 2 19 } ∷
            record { kind = sort.Iterator; name = 1; place = at 4 8 } ∷
            record { kind = sort.Iterator; name = 2; place = at 6 8 } ∷
            record { kind = sort.Container; name = 3; place = at 7 19 } ∷
            record { kind = sort.Container; name = 4; place = at 9 19 } ∷
            [];
        body = block (Some 5) (all (
            declares (makes f.Deque (head (callees.Row 29) (at 2 3) None None []) (with (literal t.Int (pos 2)) none)) ∷
            does (evaluates (call (head (callees.Row 51) (at 3 6) (Some 0) (Some 0) (Some 0 ∷ [])) (with
            (call (head (callees.Row 36) (at 3 15) None (Some 0) (Some 0 ∷ [])) none) (with (call
            (head (callees.Row 207) (at 3 22) None None []) (with
            (call (head (callees.Row 35) (at 3 35) None (Some 0) (Some 0 ∷ [])) none) (with
            (call (head (callees.Row 36) (at 3 47) None (Some 0) (Some 0 ∷ [])) none) (with (literal t.Int (pos 4)) none))))
            none)))) ∷
            declares (set_iterator (call (head (callees.Row 36) (at 4 17) None (Some 0) (Some 0 ∷ [])) none)) ∷
            does (evaluates (call (head (callees.Row 46) (at 5 6) (Some 1) (Some 0) (Some 0 ∷ [])) none)) ∷
            declares (set_iterator (call (head (callees.Row 36) (at 6 17) None (Some 0) (Some 0 ∷ [])) none)) ∷
            declares (makes f.Deque (head (callees.Row 29) (at 7 3) None None [])
            (with (literal t.Int (pos 1)) (with (literal t.Int (pos 0)) none))) ∷
            does (evaluates (call (head (callees.Row 48) (at 8 6) (Some 2) (Some 0) (Some 0 ∷ [])) (with
            (call (head (callees.Row 35) (at 8 16) None (Some 0) (Some 0 ∷ [])) none)
            (with (convert t.Size (literal t.Int (pos 1))) (with (literal t.Int (pos 1)) none))))) ∷
            declares (makes f.Deque (head (callees.Row 29) (at 9 3) None None []) (with (literal t.Int (pos 0))
            (with (literal t.Int (pos 1)) (with (literal t.Int (pos 2)) (with (literal t.Int (pos 2)) none))))) ∷
            does (evaluates (call (head (callees.Row 55) (at 10 6) (Some 3) (Some 0) (Some 0 ∷ [])) (with
            (convert t.Size (literal t.Int (pos 7))) (with (held (element
            (head (callees.Row 41) (at 10 19) None (Some 2) (Some 4 ∷ []))
            (with (convert t.Size (literal t.Int (pos 2))) none))) none)))) ∷
            does (evaluates (call (head (callees.Row 44) (at 11 6) (Some 4) (Some 2) (Some 4 ∷ []))
            (with (convert t.Int (logical_and (at 11 20) (literal t.Int (pos 4)) (literal t.Int (pos 1)))) none))) ∷
            []));
        close = at 12 1;
      } ∷
      [];
  main = 0;
  sites = at 3 6 ∷ at 5 6 ∷ at 8 6 ∷ at 10 6 ∷ at 11 6 ∷ at 12 1 ∷ [];
  loops = [];
  names = codes "d1" ∷ codes "it2" ∷ codes "it5" ∷ codes "d6" ∷ codes "d8" ∷ [];
  constants = negsuc 0 ∷ pos 0 ∷ pos 1 ∷ pos 2 ∷ pos 3 ∷ pos 4 ∷ pos 5 ∷ pos 6 ∷ pos 7 ∷ pos 8 ∷ [];
}

random_program_input_done_10_ends : run random_program_input_done_10 (pos 5 ∷ negsuc 0 ∷ []) [] 400 ≡ finish (Done (pos 0)) [] 0
unfolding table
random_program_input_done_10_ends = refl

-- kills of deque.clear() four: reference ra: trap
-- int main() {
--   std::deque<int> w = {7, 8};
--   std::vector<int> u = {5, 6};
--   std::vector<int> z;
--   std::deque<int> c = {1, 2, 3, 4};
--   auto ia = c.begin();
--   auto ib = std::next(c.begin());
--   auto id = std::prev(c.end());
--   auto ie = c.end();
--   int& ra = c.front();
--   auto& rb = c[1];
--   const int& rd = c.back();
--   c.clear();
--   ra += 1;
-- }
abbrev pub kills_of_deque_clear_four_reference_ra_trap : Typed
kills_of_deque_clear_four_reference_ra_trap = record {
  functions =
      record {
        name = codes "main";
        parameters = [];
        result = Some (parameter.Value t.Int);
        variables =
            record { kind = sort.Container; name = 0; place = at 2 19 } ∷
            record { kind = sort.Container; name = 1; place = at 3 20 } ∷
            record { kind = sort.Container; name = 2; place = at 4 20 } ∷
            record { kind = sort.Container; name = 3; place = at 5 19 } ∷
            record { kind = sort.Iterator; name = 4; place = at 6 8 } ∷
            record { kind = sort.Iterator; name = 5; place = at 7 8 } ∷
            record { kind = sort.Iterator; name = 6; place = at 8 8 } ∷
            record { kind = sort.Iterator; name = 7; place = at 9 8 } ∷
            record { kind = sort.Reference; name = 8; place = at 10 8 } ∷
            record { kind = sort.Reference; name = 9; place = at 11 9 } ∷
            record { kind = sort.Reference; name = 10; place = at 12 14 } ∷
            [];
        body = block (Some 1) (all (
            declares (makes f.Deque (head (callees.Row 29) (at 2 3) None None [])
            (with (literal t.Int (pos 7)) (with (literal t.Int (pos 8)) none))) ∷
            declares (makes f.Vector (head (callees.Row 1) (at 3 3) None None [])
            (with (literal t.Int (pos 5)) (with (literal t.Int (pos 6)) none))) ∷
            declares (makes f.Vector (head (callees.Row 0) (at 4 3) None None []) none) ∷
            declares (makes f.Deque (head (callees.Row 29) (at 5 3) None None []) (with (literal t.Int (pos 1))
            (with (literal t.Int (pos 2)) (with (literal t.Int (pos 3)) (with (literal t.Int (pos 4)) none))))) ∷
            declares (set_iterator (call (head (callees.Row 35) (at 6 15) None (Some 3) (Some 3 ∷ [])) none)) ∷
            declares (set_iterator (call (head (callees.Row 226) (at 7 13) None None [])
            (with (call (head (callees.Row 35) (at 7 25) None (Some 3) (Some 3 ∷ [])) none) none))) ∷
            declares (set_iterator (call (head (callees.Row 227) (at 8 13) None None [])
            (with (call (head (callees.Row 36) (at 8 25) None (Some 3) (Some 3 ∷ [])) none) none))) ∷
            declares (set_iterator (call (head (callees.Row 36) (at 9 15) None (Some 3) (Some 3 ∷ [])) none)) ∷
            declares (binds_reference (head (callees.Row 39) (at 10 15) None (Some 3) (Some 3 ∷ [])) none) ∷
            declares (binds_reference (head (callees.Row 42) (at 11 15) None (Some 3) (Some 3 ∷ []))
            (with (convert t.Size (literal t.Int (pos 1))) none)) ∷
            declares (binds_reference (head (callees.Row 40) (at 12 21) None (Some 3) (Some 3 ∷ [])) none) ∷
            does (evaluates (call (head (callees.Row 52) (at 13 5) (Some 0) (Some 3) (Some 3 ∷ [])) none)) ∷
            does (updates o.Add t.Int t.Int (at 14 6) (reference 4 (at 14 3) 8 part.Whole) (literal t.Int (pos 1))) ∷
            []));
        close = at 15 1;
      } ∷
      [];
  main = 0;
  sites = at 13 5 ∷ at 15 1 ∷ [];
  loops = [];
  names =
      codes "w" ∷
      codes "u" ∷
      codes "z" ∷
      codes "c" ∷
      codes "ia" ∷
      codes "ib" ∷
      codes "id" ∷
      codes "ie" ∷
      codes "ra" ∷
      codes "rb" ∷
      codes "rd" ∷
      [];
  constants = pos 0 ∷ pos 1 ∷ pos 2 ∷ pos 3 ∷ pos 4 ∷ pos 5 ∷ pos 6 ∷ pos 7 ∷ pos 8 ∷ pos 9 ∷ [];
}

kills_of_deque_clear_four_reference_ra_trap_ends : run kills_of_deque_clear_four_reference_ra_trap [] [] 500
    ≡ finish (Trapped (trap (at 14 3) 12 (codes "use") 1 (Some 8) (Some 0))) [] 0
unfolding table
kills_of_deque_clear_four_reference_ra_trap_ends = refl

-- kills of deque.resize(n) 0: reference ra: trap
-- int main() {
--   std::deque<int> w = {7, 8};
--   std::vector<int> u = {5, 6};
--   std::vector<int> z;
--   std::deque<int> c = {1, 2, 3, 4};
--   auto ia = c.begin();
--   auto ib = std::next(c.begin());
--   auto id = std::prev(c.end());
--   auto ie = c.end();
--   int& ra = c.front();
--   auto& rb = c[1];
--   const int& rd = c.back();
--   c.resize(0);
--   ra += 1;
-- }
abbrev pub kills_of_deque_resize_n_0_reference_ra_trap : Typed
kills_of_deque_resize_n_0_reference_ra_trap = record {
  functions =
      record {
        name = codes "main";
        parameters = [];
        result = Some (parameter.Value t.Int);
        variables =
            record { kind = sort.Container; name = 0; place = at 2 19 } ∷
            record { kind = sort.Container; name = 1; place = at 3 20 } ∷
            record { kind = sort.Container; name = 2; place = at 4 20 } ∷
            record { kind = sort.Container; name = 3; place = at 5 19 } ∷
            record { kind = sort.Iterator; name = 4; place = at 6 8 } ∷
            record { kind = sort.Iterator; name = 5; place = at 7 8 } ∷
            record { kind = sort.Iterator; name = 6; place = at 8 8 } ∷
            record { kind = sort.Iterator; name = 7; place = at 9 8 } ∷
            record { kind = sort.Reference; name = 8; place = at 10 8 } ∷
            record { kind = sort.Reference; name = 9; place = at 11 9 } ∷
            record { kind = sort.Reference; name = 10; place = at 12 14 } ∷
            [];
        body = block (Some 1) (all (
            declares (makes f.Deque (head (callees.Row 29) (at 2 3) None None [])
            (with (literal t.Int (pos 7)) (with (literal t.Int (pos 8)) none))) ∷
            declares (makes f.Vector (head (callees.Row 1) (at 3 3) None None [])
            (with (literal t.Int (pos 5)) (with (literal t.Int (pos 6)) none))) ∷
            declares (makes f.Vector (head (callees.Row 0) (at 4 3) None None []) none) ∷
            declares (makes f.Deque (head (callees.Row 29) (at 5 3) None None []) (with (literal t.Int (pos 1))
            (with (literal t.Int (pos 2)) (with (literal t.Int (pos 3)) (with (literal t.Int (pos 4)) none))))) ∷
            declares (set_iterator (call (head (callees.Row 35) (at 6 15) None (Some 3) (Some 3 ∷ [])) none)) ∷
            declares (set_iterator (call (head (callees.Row 226) (at 7 13) None None [])
            (with (call (head (callees.Row 35) (at 7 25) None (Some 3) (Some 3 ∷ [])) none) none))) ∷
            declares (set_iterator (call (head (callees.Row 227) (at 8 13) None None [])
            (with (call (head (callees.Row 36) (at 8 25) None (Some 3) (Some 3 ∷ [])) none) none))) ∷
            declares (set_iterator (call (head (callees.Row 36) (at 9 15) None (Some 3) (Some 3 ∷ [])) none)) ∷
            declares (binds_reference (head (callees.Row 39) (at 10 15) None (Some 3) (Some 3 ∷ [])) none) ∷
            declares (binds_reference (head (callees.Row 42) (at 11 15) None (Some 3) (Some 3 ∷ []))
            (with (convert t.Size (literal t.Int (pos 1))) none)) ∷
            declares (binds_reference (head (callees.Row 40) (at 12 21) None (Some 3) (Some 3 ∷ [])) none) ∷
            does (evaluates (call (head (callees.Row 53) (at 13 5) (Some 0) (Some 3) (Some 3 ∷ []))
            (with (convert t.Size (literal t.Int (pos 0))) none))) ∷
            does (updates o.Add t.Int t.Int (at 14 6) (reference 4 (at 14 3) 8 part.Whole) (literal t.Int (pos 1))) ∷
            []));
        close = at 15 1;
      } ∷
      [];
  main = 0;
  sites = at 13 5 ∷ at 15 1 ∷ [];
  loops = [];
  names =
      codes "w" ∷
      codes "u" ∷
      codes "z" ∷
      codes "c" ∷
      codes "ia" ∷
      codes "ib" ∷
      codes "id" ∷
      codes "ie" ∷
      codes "ra" ∷
      codes "rb" ∷
      codes "rd" ∷
      [];
  constants = negsuc 0 ∷ pos 0 ∷ pos 1 ∷ pos 2 ∷ pos 3 ∷ pos 4 ∷ pos 5 ∷ pos 6 ∷ pos 7 ∷ pos 8 ∷ pos 9 ∷ [];
}

kills_of_deque_resize_n_0_reference_ra_trap_ends : run kills_of_deque_resize_n_0_reference_ra_trap [] [] 500
    ≡ finish (Trapped (trap (at 14 3) 12 (codes "use") 1 (Some 8) (Some 0))) [] 0
unfolding table
kills_of_deque_resize_n_0_reference_ra_trap_ends = refl

-- kills of list.assign(n, x) two: reference rd: trap
-- int main() {
--   std::list<int> w = {7, 8};
--   std::vector<int> u = {5, 6};
--   std::vector<int> z;
--   std::list<int> c = {1, 2, 3, 4};
--   auto ia = c.begin();
--   auto ib = std::next(c.begin());
--   auto id = std::prev(c.end());
--   auto ie = c.end();
--   int& ra = c.front();
--   auto& rb = *ib;
--   const int& rd = c.back();
--   c.assign(2, 9);
--   std::cout << rd << " ";
-- }
abbrev pub kills_of_list_assign_n_x_two_reference_rd_trap : Typed
kills_of_list_assign_n_x_two_reference_rd_trap = record {
  functions =
      record {
        name = codes "main";
        parameters = [];
        result = Some (parameter.Value t.Int);
        variables =
            record { kind = sort.Container; name = 0; place = at 2 18 } ∷
            record { kind = sort.Container; name = 1; place = at 3 20 } ∷
            record { kind = sort.Container; name = 2; place = at 4 20 } ∷
            record { kind = sort.Container; name = 3; place = at 5 18 } ∷
            record { kind = sort.Iterator; name = 4; place = at 6 8 } ∷
            record { kind = sort.Iterator; name = 5; place = at 7 8 } ∷
            record { kind = sort.Iterator; name = 6; place = at 8 8 } ∷
            record { kind = sort.Iterator; name = 7; place = at 9 8 } ∷
            record { kind = sort.Reference; name = 8; place = at 10 8 } ∷
            record { kind = sort.Reference; name = 9; place = at 11 9 } ∷
            record { kind = sort.Reference; name = 10; place = at 12 14 } ∷
            [];
        body = block (Some 1) (all (
            declares (makes f.List (head (callees.Row 58) (at 2 3) None None [])
            (with (literal t.Int (pos 7)) (with (literal t.Int (pos 8)) none))) ∷
            declares (makes f.Vector (head (callees.Row 1) (at 3 3) None None [])
            (with (literal t.Int (pos 5)) (with (literal t.Int (pos 6)) none))) ∷
            declares (makes f.Vector (head (callees.Row 0) (at 4 3) None None []) none) ∷
            declares (makes f.List (head (callees.Row 58) (at 5 3) None None []) (with (literal t.Int (pos 1))
            (with (literal t.Int (pos 2)) (with (literal t.Int (pos 3)) (with (literal t.Int (pos 4)) none))))) ∷
            declares (set_iterator (call (head (callees.Row 64) (at 6 15) None (Some 3) (Some 3 ∷ [])) none)) ∷
            declares (set_iterator (call (head (callees.Row 226) (at 7 13) None None [])
            (with (call (head (callees.Row 64) (at 7 25) None (Some 3) (Some 3 ∷ [])) none) none))) ∷
            declares (set_iterator (call (head (callees.Row 227) (at 8 13) None None [])
            (with (call (head (callees.Row 65) (at 8 25) None (Some 3) (Some 3 ∷ [])) none) none))) ∷
            declares (set_iterator (call (head (callees.Row 65) (at 9 15) None (Some 3) (Some 3 ∷ [])) none)) ∷
            declares (binds_reference (head (callees.Row 68) (at 10 15) None (Some 3) (Some 3 ∷ [])) none) ∷
            declares (binds_reference (head (callees.Operator operators.Dereference) (at 11 14) None None (None ∷ Some 5 ∷ []))
            (with (iterator 1) none)) ∷
            declares (binds_reference (head (callees.Row 69) (at 12 21) None (Some 3) (Some 3 ∷ [])) none) ∷
            does (evaluates (call (head (callees.Row 82) (at 13 5) (Some 0) (Some 3) (Some 3 ∷ []))
            (with (convert t.Size (literal t.Int (pos 2))) (with (literal t.Int (pos 9)) none)))) ∷
            does (prints (number (held (reference 6 (at 14 16) 10 part.Whole)) ∷ text (codes " ") ∷ [])) ∷
            []));
        close = at 15 1;
      } ∷
      [];
  main = 0;
  sites = at 13 5 ∷ at 15 1 ∷ [];
  loops = [];
  names =
      codes "w" ∷
      codes "u" ∷
      codes "z" ∷
      codes "c" ∷
      codes "ia" ∷
      codes "ib" ∷
      codes "id" ∷
      codes "ie" ∷
      codes "ra" ∷
      codes "rb" ∷
      codes "rd" ∷
      [];
  constants = pos 0 ∷ pos 1 ∷ pos 2 ∷ pos 3 ∷ pos 4 ∷ pos 5 ∷ pos 6 ∷ pos 7 ∷ pos 8 ∷ pos 9 ∷ pos 10 ∷ [];
}

kills_of_list_assign_n_x_two_reference_rd_trap_ends : run kills_of_list_assign_n_x_two_reference_rd_trap [] [] 500
    ≡ finish (Trapped (trap (at 14 16) 12 (codes "use") 1 (Some 10) (Some 0))) [] 0
unfolding table
kills_of_list_assign_n_x_two_reference_rd_trap_ends = refl

-- kills of vector.copy back_inserter two, no room: reference rd: trap
-- int main() {
--   std::vector<int> w = {7, 8};
--   std::vector<int> u = {5, 6};
--   std::vector<int> z;
--   std::vector<int> c = {1, 2, 3, 4};
--   auto ia = c.begin();
--   auto ib = std::next(c.begin());
--   auto id = std::prev(c.end());
--   auto ie = c.end();
--   int& ra = c.front();
--   auto& rb = c[1];
--   const int& rd = c.back();
--   std::copy(u.begin(), u.end(), std::back_inserter(c));
--   std::cout << rd << " ";
-- }
abbrev pub kills_of_vector_copy_back_inserter_two_no_room_reference_rd_trap : Typed
kills_of_vector_copy_back_inserter_two_no_room_reference_rd_trap = record {
  functions =
      record {
        name = codes "main";
        parameters = [];
        result = Some (parameter.Value t.Int);
        variables =
            record { kind = sort.Container; name = 0; place = at 2 20 } ∷
            record { kind = sort.Container; name = 1; place = at 3 20 } ∷
            record { kind = sort.Container; name = 2; place = at 4 20 } ∷
            record { kind = sort.Container; name = 3; place = at 5 20 } ∷
            record { kind = sort.Iterator; name = 4; place = at 6 8 } ∷
            record { kind = sort.Iterator; name = 5; place = at 7 8 } ∷
            record { kind = sort.Iterator; name = 6; place = at 8 8 } ∷
            record { kind = sort.Iterator; name = 7; place = at 9 8 } ∷
            record { kind = sort.Reference; name = 8; place = at 10 8 } ∷
            record { kind = sort.Reference; name = 9; place = at 11 9 } ∷
            record { kind = sort.Reference; name = 10; place = at 12 14 } ∷
            [];
        body = block (Some 1) (all (
            declares (makes f.Vector (head (callees.Row 1) (at 2 3) None None [])
            (with (literal t.Int (pos 7)) (with (literal t.Int (pos 8)) none))) ∷
            declares (makes f.Vector (head (callees.Row 1) (at 3 3) None None [])
            (with (literal t.Int (pos 5)) (with (literal t.Int (pos 6)) none))) ∷
            declares (makes f.Vector (head (callees.Row 0) (at 4 3) None None []) none) ∷
            declares (makes f.Vector (head (callees.Row 1) (at 5 3) None None []) (with (literal t.Int (pos 1))
            (with (literal t.Int (pos 2)) (with (literal t.Int (pos 3)) (with (literal t.Int (pos 4)) none))))) ∷
            declares (set_iterator (call (head (callees.Row 7) (at 6 15) None (Some 3) (Some 3 ∷ [])) none)) ∷
            declares (set_iterator (call (head (callees.Row 226) (at 7 13) None None [])
            (with (call (head (callees.Row 7) (at 7 25) None (Some 3) (Some 3 ∷ [])) none) none))) ∷
            declares (set_iterator (call (head (callees.Row 227) (at 8 13) None None [])
            (with (call (head (callees.Row 8) (at 8 25) None (Some 3) (Some 3 ∷ [])) none) none))) ∷
            declares (set_iterator (call (head (callees.Row 8) (at 9 15) None (Some 3) (Some 3 ∷ [])) none)) ∷
            declares (binds_reference (head (callees.Row 11) (at 10 15) None (Some 3) (Some 3 ∷ [])) none) ∷
            declares (binds_reference (head (callees.Row 14) (at 11 15) None (Some 3) (Some 3 ∷ []))
            (with (convert t.Size (literal t.Int (pos 1))) none)) ∷
            declares (binds_reference (head (callees.Row 12) (at 12 21) None (Some 3) (Some 3 ∷ [])) none) ∷
            does (evaluates (call (head (callees.Appends 218) (at 13 3) (Some 0) None []) (with
            (call (head (callees.Row 7) (at 13 15) None (Some 1) (Some 1 ∷ [])) none)
            (with (call (head (callees.Row 8) (at 13 26) None (Some 1) (Some 1 ∷ [])) none) (with (container 3) none))))) ∷
            does (prints (number (held (reference 6 (at 14 16) 10 part.Whole)) ∷ text (codes " ") ∷ [])) ∷
            []));
        close = at 15 1;
      } ∷
      [];
  main = 0;
  sites = at 13 3 ∷ at 15 1 ∷ [];
  loops = [];
  names =
      codes "w" ∷
      codes "u" ∷
      codes "z" ∷
      codes "c" ∷
      codes "ia" ∷
      codes "ib" ∷
      codes "id" ∷
      codes "ie" ∷
      codes "ra" ∷
      codes "rb" ∷
      codes "rd" ∷
      [];
  constants = pos 0 ∷ pos 1 ∷ pos 2 ∷ pos 3 ∷ pos 4 ∷ pos 5 ∷ pos 6 ∷ pos 7 ∷ pos 8 ∷ pos 9 ∷ [];
}

kills_of_vector_copy_back_inserter_two_no_room_reference_rd_trap_ends : run kills_of_vector_copy_back_inserter_two_no_room_reference_rd_trap
    [] [] 500
    ≡ finish (Trapped (trap (at 14 16) 12 (codes "use") 1 (Some 10) (Some 0))) [] 0
unfolding table
kills_of_vector_copy_back_inserter_two_no_room_reference_rd_trap_ends = refl

-- kills of deque.resize(n, x) two more: iterator ia: trap
-- int main() {
--   std::deque<int> w = {7, 8};
--   std::vector<int> u = {5, 6};
--   std::vector<int> z;
--   std::deque<int> c = {1, 2, 3, 4};
--   auto ia = c.begin();
--   auto ib = std::next(c.begin());
--   auto id = std::prev(c.end());
--   auto ie = c.end();
--   int& ra = c.front();
--   auto& rb = c[1];
--   const int& rd = c.back();
--   c.resize(6, 8);
--   ra += 1;
--   std::cout << rb << " ";
--   std::cout << rd << " ";
--   std::cout << *ia << " ";
-- }
abbrev pub kills_of_deque_resize_n_x_two_more_iterator_ia_trap : Typed
kills_of_deque_resize_n_x_two_more_iterator_ia_trap = record {
  functions =
      record {
        name = codes "main";
        parameters = [];
        result = Some (parameter.Value t.Int);
        variables =
            record { kind = sort.Container; name = 0; place = at 2 19 } ∷
            record { kind = sort.Container; name = 1; place = at 3 20 } ∷
            record { kind = sort.Container; name = 2; place = at 4 20 } ∷
            record { kind = sort.Container; name = 3; place = at 5 19 } ∷
            record { kind = sort.Iterator; name = 4; place = at 6 8 } ∷
            record { kind = sort.Iterator; name = 5; place = at 7 8 } ∷
            record { kind = sort.Iterator; name = 6; place = at 8 8 } ∷
            record { kind = sort.Iterator; name = 7; place = at 9 8 } ∷
            record { kind = sort.Reference; name = 8; place = at 10 8 } ∷
            record { kind = sort.Reference; name = 9; place = at 11 9 } ∷
            record { kind = sort.Reference; name = 10; place = at 12 14 } ∷
            [];
        body = block (Some 1) (all (
            declares (makes f.Deque (head (callees.Row 29) (at 2 3) None None [])
            (with (literal t.Int (pos 7)) (with (literal t.Int (pos 8)) none))) ∷
            declares (makes f.Vector (head (callees.Row 1) (at 3 3) None None [])
            (with (literal t.Int (pos 5)) (with (literal t.Int (pos 6)) none))) ∷
            declares (makes f.Vector (head (callees.Row 0) (at 4 3) None None []) none) ∷
            declares (makes f.Deque (head (callees.Row 29) (at 5 3) None None []) (with (literal t.Int (pos 1))
            (with (literal t.Int (pos 2)) (with (literal t.Int (pos 3)) (with (literal t.Int (pos 4)) none))))) ∷
            declares (set_iterator (call (head (callees.Row 35) (at 6 15) None (Some 3) (Some 3 ∷ [])) none)) ∷
            declares (set_iterator (call (head (callees.Row 226) (at 7 13) None None [])
            (with (call (head (callees.Row 35) (at 7 25) None (Some 3) (Some 3 ∷ [])) none) none))) ∷
            declares (set_iterator (call (head (callees.Row 227) (at 8 13) None None [])
            (with (call (head (callees.Row 36) (at 8 25) None (Some 3) (Some 3 ∷ [])) none) none))) ∷
            declares (set_iterator (call (head (callees.Row 36) (at 9 15) None (Some 3) (Some 3 ∷ [])) none)) ∷
            declares (binds_reference (head (callees.Row 39) (at 10 15) None (Some 3) (Some 3 ∷ [])) none) ∷
            declares (binds_reference (head (callees.Row 42) (at 11 15) None (Some 3) (Some 3 ∷ []))
            (with (convert t.Size (literal t.Int (pos 1))) none)) ∷
            declares (binds_reference (head (callees.Row 40) (at 12 21) None (Some 3) (Some 3 ∷ [])) none) ∷
            does (evaluates (call (head (callees.Row 54) (at 13 5) (Some 0) (Some 3) (Some 3 ∷ []))
            (with (convert t.Size (literal t.Int (pos 6))) (with (literal t.Int (pos 8)) none)))) ∷
            does (updates o.Add t.Int t.Int (at 14 6) (reference 4 (at 14 3) 8 part.Whole) (literal t.Int (pos 1))) ∷
            does (prints (number (held (reference 5 (at 15 16) 9 part.Whole)) ∷ text (codes " ") ∷ [])) ∷
            does (prints (number (held (reference 6 (at 16 16) 10 part.Whole)) ∷ text (codes " ") ∷ [])) ∷
            does (prints (
            number (held (element (head (callees.Operator operators.Dereference) (at 17 16) None None (None ∷ Some 4 ∷ []))
            (with (iterator 0) none))) ∷
            text (codes " ") ∷
            [])) ∷
            []));
        close = at 18 1;
      } ∷
      [];
  main = 0;
  sites = at 13 5 ∷ at 18 1 ∷ [];
  loops = [];
  names =
      codes "w" ∷
      codes "u" ∷
      codes "z" ∷
      codes "c" ∷
      codes "ia" ∷
      codes "ib" ∷
      codes "id" ∷
      codes "ie" ∷
      codes "ra" ∷
      codes "rb" ∷
      codes "rd" ∷
      [];
  constants = pos 0 ∷ pos 1 ∷ pos 2 ∷ pos 3 ∷ pos 4 ∷ pos 5 ∷ pos 6 ∷ pos 7 ∷ pos 8 ∷ pos 9 ∷ [];
}

kills_of_deque_resize_n_x_two_more_iterator_ia_trap_ends : run kills_of_deque_resize_n_x_two_more_iterator_ia_trap [] [] 500
    ≡ finish (Trapped (trap (at 17 16) 1 (codes "*") 1 (Some 4) (Some 0))) (codes "2 4 ") 0
unfolding digits table
kills_of_deque_resize_n_x_two_more_iterator_ia_trap_ends = refl

-- advance of unordered_set, one on: done
-- int main() {
--   std::vector<int> v = {1, 2, 4, 6};
--   std::deque<int> d = {1, 2, 4, 6};
--   std::list<int> l = {1, 2, 4, 6};
--   std::set<int> s = {1, 2, 4, 6};
--   std::unordered_set<int> h = {1, 2, 4, 6};
--   std::multiset<int> g = {1, 2, 2, 6};
--   std::vector<int> o(9);
--   std::list<int> b;
--   std::vector<int> e;
--   auto it = h.begin();
--   std::advance(it, 1);
--   if (it == h.end()) std::cout << "end"; else std::cout << *it;
-- }
abbrev pub advance_of_unordered_set_one_on_done : Typed
advance_of_unordered_set_one_on_done = record {
  functions =
      record {
        name = codes "main";
        parameters = [];
        result = Some (parameter.Value t.Int);
        variables =
            record { kind = sort.Container; name = 0; place = at 2 20 } ∷
            record { kind = sort.Container; name = 1; place = at 3 19 } ∷
            record { kind = sort.Container; name = 2; place = at 4 18 } ∷
            record { kind = sort.Container; name = 3; place = at 5 17 } ∷
            record { kind = sort.Container; name = 4; place = at 6 27 } ∷
            record { kind = sort.Container; name = 5; place = at 7 22 } ∷
            record { kind = sort.Container; name = 6; place = at 8 20 } ∷
            record { kind = sort.Container; name = 7; place = at 9 18 } ∷
            record { kind = sort.Container; name = 8; place = at 10 20 } ∷
            record { kind = sort.Iterator; name = 9; place = at 11 8 } ∷
            [];
        body = block (Some 0) (all (
            declares (makes f.Vector (head (callees.Row 1) (at 2 3) None None []) (with (literal t.Int (pos 1))
            (with (literal t.Int (pos 2)) (with (literal t.Int (pos 4)) (with (literal t.Int (pos 6)) none))))) ∷
            declares (makes f.Deque (head (callees.Row 29) (at 3 3) None None []) (with (literal t.Int (pos 1))
            (with (literal t.Int (pos 2)) (with (literal t.Int (pos 4)) (with (literal t.Int (pos 6)) none))))) ∷
            declares (makes f.List (head (callees.Row 58) (at 4 3) None None []) (with (literal t.Int (pos 1))
            (with (literal t.Int (pos 2)) (with (literal t.Int (pos 4)) (with (literal t.Int (pos 6)) none))))) ∷
            declares (makes f.Set (head (callees.Row 93) (at 5 3) None None []) (with (literal t.Int (pos 1))
            (with (literal t.Int (pos 2)) (with (literal t.Int (pos 4)) (with (literal t.Int (pos 6)) none))))) ∷
            declares (makes f.HashSet (head (callees.Row 132) (at 6 3) None None []) (with (literal t.Int (pos 1))
            (with (literal t.Int (pos 2)) (with (literal t.Int (pos 4)) (with (literal t.Int (pos 6)) none))))) ∷
            declares (makes f.MultiSet (head (callees.Row 170) (at 7 3) None None []) (with (literal t.Int (pos 1))
            (with (literal t.Int (pos 2)) (with (literal t.Int (pos 2)) (with (literal t.Int (pos 6)) none))))) ∷
            declares (makes f.Vector (head (callees.Row 3) (at 8 3) None None []) (with (convert t.Size (literal t.Int (pos 9))) none)) ∷
            declares (makes f.List (head (callees.Row 57) (at 9 3) None None []) none) ∷
            declares (makes f.Vector (head (callees.Row 0) (at 10 3) None None []) none) ∷
            declares (set_iterator (call (head (callees.Row 136) (at 11 15) None (Some 4) (Some 4 ∷ [])) none)) ∷
            does (evaluates (move Prefix 0 (head (callees.Row 225) (at 12 3) None None (None ∷ Some 9 ∷ []))
            (with (convert t.Diff (literal t.Int (pos 1))) none))) ∷
            choice_else (test (call (head (callees.Operator (operators.Compare c.Equal)) (at 13 10) None None (None ∷ Some 9 ∷ []))
            (with (iterator 0) (with (call (head (callees.Row 137) (at 13 15) None (Some 4) (Some 4 ∷ [])) none) none))))
            (does (prints (text (codes "end") ∷ []))) (does (prints (
            number (held (element (head (callees.Operator operators.Dereference) (at 13 60) None None (None ∷ Some 9 ∷ []))
            (with (iterator 0) none))) ∷
            []))) ∷
            []));
        close = at 14 1;
      } ∷
      [];
  main = 0;
  sites = at 14 1 ∷ [];
  loops = [];
  names = codes "v" ∷ codes "d" ∷ codes "l" ∷ codes "s" ∷ codes "h" ∷ codes "g" ∷ codes "o" ∷ codes "b" ∷ codes "e" ∷ codes "it" ∷ [];
  constants = pos 0 ∷ pos 1 ∷ pos 2 ∷ pos 3 ∷ pos 4 ∷ pos 5 ∷ pos 6 ∷ pos 7 ∷ pos 8 ∷ pos 9 ∷ pos 10 ∷ [];
}

advance_of_unordered_set_one_on_done_ends : run advance_of_unordered_set_one_on_done [] [] 500 ≡ finish (Done (pos 0)) (codes "2") 0
unfolding digits table
advance_of_unordered_set_one_on_done_ends = refl

-- random program, input: done (21)
-- int main() {
--   std::vector<int> v1{};
--   std::size_t x2;
--   v1.reserve(1);
--   int x3 = v1.size();
--   auto it4 = v1.begin();
--   auto it5 = std::max_element(v1.begin(), v1.end());
--   v1.resize(5);
--   v1.reserve(1);
--   v1.push_back(2);
--   int x6 = v1.front();
--   std::size_t x7 = 0;
--   auto it8 = it4;
--   std::reverse(v1.begin(), v1.end());
--   std::vector<int> v9{2, 2, 4};
--   v1.erase(std::unique(v1.begin(), v1.end()), v1.end());
--   int x10 = !x7;
-- }
abbrev pub random_program_input_done_21 : Typed
random_program_input_done_21 = record {
  functions =
      record {
        name = codes "main";
        parameters = [];
        result = Some (parameter.Value t.Int);
        variables =
            record { kind = sort.Container; name = 0; place = at 2 20 } ∷
            record { kind = sort.Scalar; name = 1; place = at 3 15 } ∷
            record { kind = sort.Scalar; name = 2; place = at 5 7 } ∷
            record { kind = sort.Iterator; name = 3; place = at 6 8 } ∷
            record { kind = sort.Iterator; name = 4; place = at 7 8 } ∷
            record { kind = sort.Scalar; name = 5; place = at 11 7 } ∷
            record { kind = sort.Scalar; name = 6; place = at 12 15 } ∷
            record { kind = sort.Iterator; name = 7; place = at 13 8 } ∷
            record { kind = sort.Container; name = 8; place = at 15 20 } ∷
            record { kind = sort.Scalar; name = 9; place = at 17 7 } ∷
            [];
        body = block (Some 5) (all (
            declares (makes f.Vector (head (callees.Row 0) (at 2 3) None None []) none) ∷
            declares (unset_scalar t.Size) ∷
            does (evaluates
            (call (head (callees.Row 26) (at 4 6) (Some 0) (Some 0) (Some 0 ∷ [])) (with (convert t.Size (literal t.Int (pos 1))) none))) ∷
            declares (set_scalar t.Int (convert t.Int (call (head (callees.Row 9) (at 5 15) None (Some 0) (Some 0 ∷ [])) none))) ∷
            declares (set_iterator (call (head (callees.Row 7) (at 6 17) None (Some 0) (Some 0 ∷ [])) none)) ∷
            declares (set_iterator (call (head (callees.Row 229) (at 7 14) None None []) (with
            (call (head (callees.Row 7) (at 7 34) None (Some 0) (Some 0 ∷ [])) none)
            (with (call (head (callees.Row 8) (at 7 46) None (Some 0) (Some 0 ∷ [])) none) none)))) ∷
            does (evaluates
            (call (head (callees.Row 23) (at 8 6) (Some 1) (Some 0) (Some 0 ∷ [])) (with (convert t.Size (literal t.Int (pos 5))) none))) ∷
            does (evaluates
            (call (head (callees.Row 26) (at 9 6) (Some 2) (Some 0) (Some 0 ∷ [])) (with (convert t.Size (literal t.Int (pos 1))) none))) ∷
            does (evaluates (call (head (callees.Row 15) (at 10 6) (Some 3) (Some 0) (Some 0 ∷ [])) (with (literal t.Int (pos 2)) none))) ∷
            declares (set_scalar t.Int (held (element (head (callees.Row 11) (at 11 15) None (Some 0) (Some 0 ∷ [])) none))) ∷
            declares (set_scalar t.Size (convert t.Size (literal t.Int (pos 0)))) ∷
            declares (set_iterator (iterator 0)) ∷
            does (evaluates (call (head (callees.Row 220) (at 14 3) None None []) (with
            (call (head (callees.Row 7) (at 14 19) None (Some 0) (Some 0 ∷ [])) none)
            (with (call (head (callees.Row 8) (at 14 31) None (Some 0) (Some 0 ∷ [])) none) none)))) ∷
            declares (makes f.Vector (head (callees.Row 1) (at 15 3) None None [])
            (with (literal t.Int (pos 2)) (with (literal t.Int (pos 2)) (with (literal t.Int (pos 4)) none)))) ∷
            does (evaluates (call (head (callees.Row 21) (at 16 6) (Some 4) (Some 0) (Some 0 ∷ [])) (with (call
            (head (callees.Row 221) (at 16 12) None None []) (with
            (call (head (callees.Row 7) (at 16 27) None (Some 0) (Some 0 ∷ [])) none)
            (with (call (head (callees.Row 8) (at 16 39) None (Some 0) (Some 0 ∷ [])) none) none)))
            (with (call (head (callees.Row 8) (at 16 50) None (Some 0) (Some 0 ∷ [])) none) none)))) ∷
            declares (set_scalar t.Int (convert t.Int (logical_not (at 17 13) (held (scalar 3 (at 17 14)))))) ∷
            []));
        close = at 18 1;
      } ∷
      [];
  main = 0;
  sites = at 4 6 ∷ at 8 6 ∷ at 9 6 ∷ at 10 6 ∷ at 16 6 ∷ at 18 1 ∷ [];
  loops = [];
  names =
      codes "v1" ∷
      codes "x2" ∷
      codes "x3" ∷
      codes "it4" ∷
      codes "it5" ∷
      codes "x6" ∷
      codes "x7" ∷
      codes "it8" ∷
      codes "v9" ∷
      codes "x10" ∷
      [];
  constants = negsuc 0 ∷ pos 0 ∷ pos 1 ∷ pos 2 ∷ pos 3 ∷ pos 4 ∷ pos 5 ∷ pos 6 ∷ [];
}

random_program_input_done_21_ends : run random_program_input_done_21
    (pos 3 ∷ negsuc 2147483647 ∷ negsuc 0 ∷ negsuc 2147483647 ∷ negsuc 2147483647 ∷ []) (0 ∷ 2 ∷ 3 ∷ 0 ∷ 4294967295 ∷ []) 400
    ≡ finish (Done (pos 0)) [] 0
unfolding table
random_program_input_done_21_ends = refl

-- kills of list.remove(x) second: reference rb: trap
-- int main() {
--   std::list<int> w = {7, 8};
--   std::vector<int> u = {5, 6};
--   std::vector<int> z;
--   std::list<int> c = {1, 2, 3, 4};
--   auto ia = c.begin();
--   auto ib = std::next(c.begin());
--   auto id = std::prev(c.end());
--   auto ie = c.end();
--   int& ra = c.front();
--   auto& rb = *ib;
--   const int& rd = c.back();
--   c.remove(2);
--   std::cout << *ia << " ";
--   std::cout << *id << " ";
--   std::cout << (ie == c.end()) << " ";
--   ra += 1;
--   std::cout << rd << " ";
--   std::cout << rb << " ";
-- }
abbrev pub kills_of_list_remove_x_second_reference_rb_trap : Typed
kills_of_list_remove_x_second_reference_rb_trap = record {
  functions =
      record {
        name = codes "main";
        parameters = [];
        result = Some (parameter.Value t.Int);
        variables =
            record { kind = sort.Container; name = 0; place = at 2 18 } ∷
            record { kind = sort.Container; name = 1; place = at 3 20 } ∷
            record { kind = sort.Container; name = 2; place = at 4 20 } ∷
            record { kind = sort.Container; name = 3; place = at 5 18 } ∷
            record { kind = sort.Iterator; name = 4; place = at 6 8 } ∷
            record { kind = sort.Iterator; name = 5; place = at 7 8 } ∷
            record { kind = sort.Iterator; name = 6; place = at 8 8 } ∷
            record { kind = sort.Iterator; name = 7; place = at 9 8 } ∷
            record { kind = sort.Reference; name = 8; place = at 10 8 } ∷
            record { kind = sort.Reference; name = 9; place = at 11 9 } ∷
            record { kind = sort.Reference; name = 10; place = at 12 14 } ∷
            [];
        body = block (Some 1) (all (
            declares (makes f.List (head (callees.Row 58) (at 2 3) None None [])
            (with (literal t.Int (pos 7)) (with (literal t.Int (pos 8)) none))) ∷
            declares (makes f.Vector (head (callees.Row 1) (at 3 3) None None [])
            (with (literal t.Int (pos 5)) (with (literal t.Int (pos 6)) none))) ∷
            declares (makes f.Vector (head (callees.Row 0) (at 4 3) None None []) none) ∷
            declares (makes f.List (head (callees.Row 58) (at 5 3) None None []) (with (literal t.Int (pos 1))
            (with (literal t.Int (pos 2)) (with (literal t.Int (pos 3)) (with (literal t.Int (pos 4)) none))))) ∷
            declares (set_iterator (call (head (callees.Row 64) (at 6 15) None (Some 3) (Some 3 ∷ [])) none)) ∷
            declares (set_iterator (call (head (callees.Row 226) (at 7 13) None None [])
            (with (call (head (callees.Row 64) (at 7 25) None (Some 3) (Some 3 ∷ [])) none) none))) ∷
            declares (set_iterator (call (head (callees.Row 227) (at 8 13) None None [])
            (with (call (head (callees.Row 65) (at 8 25) None (Some 3) (Some 3 ∷ [])) none) none))) ∷
            declares (set_iterator (call (head (callees.Row 65) (at 9 15) None (Some 3) (Some 3 ∷ [])) none)) ∷
            declares (binds_reference (head (callees.Row 68) (at 10 15) None (Some 3) (Some 3 ∷ [])) none) ∷
            declares (binds_reference (head (callees.Operator operators.Dereference) (at 11 14) None None (None ∷ Some 5 ∷ []))
            (with (iterator 1) none)) ∷
            declares (binds_reference (head (callees.Row 69) (at 12 21) None (Some 3) (Some 3 ∷ [])) none) ∷
            does (evaluates (call (head (callees.Row 87) (at 13 5) (Some 0) (Some 3) (Some 3 ∷ [])) (with (literal t.Int (pos 2)) none))) ∷
            does (prints (
            number (held (element (head (callees.Operator operators.Dereference) (at 14 16) None None (None ∷ Some 4 ∷ []))
            (with (iterator 0) none))) ∷
            text (codes " ") ∷
            [])) ∷
            does (prints (
            number (held (element (head (callees.Operator operators.Dereference) (at 15 16) None None (None ∷ Some 6 ∷ []))
            (with (iterator 2) none))) ∷
            text (codes " ") ∷
            [])) ∷
            does (prints (
            number (call (head (callees.Operator (operators.Compare c.Equal)) (at 16 20) None None (None ∷ Some 7 ∷ []))
            (with (iterator 3) (with (call (head (callees.Row 65) (at 16 25) None (Some 3) (Some 3 ∷ [])) none) none))) ∷
            text (codes " ") ∷
            [])) ∷
            does (updates o.Add t.Int t.Int (at 17 6) (reference 4 (at 17 3) 8 part.Whole) (literal t.Int (pos 1))) ∷
            does (prints (number (held (reference 6 (at 18 16) 10 part.Whole)) ∷ text (codes " ") ∷ [])) ∷
            does (prints (number (held (reference 5 (at 19 16) 9 part.Whole)) ∷ text (codes " ") ∷ [])) ∷
            []));
        close = at 20 1;
      } ∷
      [];
  main = 0;
  sites = at 13 5 ∷ at 20 1 ∷ [];
  loops = [];
  names =
      codes "w" ∷
      codes "u" ∷
      codes "z" ∷
      codes "c" ∷
      codes "ia" ∷
      codes "ib" ∷
      codes "id" ∷
      codes "ie" ∷
      codes "ra" ∷
      codes "rb" ∷
      codes "rd" ∷
      [];
  constants = pos 0 ∷ pos 1 ∷ pos 2 ∷ pos 3 ∷ pos 4 ∷ pos 5 ∷ pos 6 ∷ pos 7 ∷ pos 8 ∷ pos 9 ∷ [];
}

kills_of_list_remove_x_second_reference_rb_trap_ends : run kills_of_list_remove_x_second_reference_rb_trap [] [] 500
    ≡ finish (Trapped (trap (at 19 16) 12 (codes "use") 1 (Some 9) (Some 0))) (codes "1 4 1 4 ") 0
unfolding digits table
kills_of_list_remove_x_second_reference_rb_trap_ends = refl

-- kills of list.resize(n, x) one less: reference rd: trap
-- int main() {
--   std::list<int> w = {7, 8};
--   std::vector<int> u = {5, 6};
--   std::vector<int> z;
--   std::list<int> c = {1, 2, 3, 4};
--   auto ia = c.begin();
--   auto ib = std::next(c.begin());
--   auto id = std::prev(c.end());
--   auto ie = c.end();
--   int& ra = c.front();
--   auto& rb = *ib;
--   const int& rd = c.back();
--   c.resize(3, 8);
--   std::cout << *ia << " ";
--   std::cout << *ib << " ";
--   std::cout << (ie == c.end()) << " ";
--   ra += 1;
--   std::cout << rb << " ";
--   std::cout << rd << " ";
-- }
abbrev pub kills_of_list_resize_n_x_one_less_reference_rd_trap : Typed
kills_of_list_resize_n_x_one_less_reference_rd_trap = record {
  functions =
      record {
        name = codes "main";
        parameters = [];
        result = Some (parameter.Value t.Int);
        variables =
            record { kind = sort.Container; name = 0; place = at 2 18 } ∷
            record { kind = sort.Container; name = 1; place = at 3 20 } ∷
            record { kind = sort.Container; name = 2; place = at 4 20 } ∷
            record { kind = sort.Container; name = 3; place = at 5 18 } ∷
            record { kind = sort.Iterator; name = 4; place = at 6 8 } ∷
            record { kind = sort.Iterator; name = 5; place = at 7 8 } ∷
            record { kind = sort.Iterator; name = 6; place = at 8 8 } ∷
            record { kind = sort.Iterator; name = 7; place = at 9 8 } ∷
            record { kind = sort.Reference; name = 8; place = at 10 8 } ∷
            record { kind = sort.Reference; name = 9; place = at 11 9 } ∷
            record { kind = sort.Reference; name = 10; place = at 12 14 } ∷
            [];
        body = block (Some 1) (all (
            declares (makes f.List (head (callees.Row 58) (at 2 3) None None [])
            (with (literal t.Int (pos 7)) (with (literal t.Int (pos 8)) none))) ∷
            declares (makes f.Vector (head (callees.Row 1) (at 3 3) None None [])
            (with (literal t.Int (pos 5)) (with (literal t.Int (pos 6)) none))) ∷
            declares (makes f.Vector (head (callees.Row 0) (at 4 3) None None []) none) ∷
            declares (makes f.List (head (callees.Row 58) (at 5 3) None None []) (with (literal t.Int (pos 1))
            (with (literal t.Int (pos 2)) (with (literal t.Int (pos 3)) (with (literal t.Int (pos 4)) none))))) ∷
            declares (set_iterator (call (head (callees.Row 64) (at 6 15) None (Some 3) (Some 3 ∷ [])) none)) ∷
            declares (set_iterator (call (head (callees.Row 226) (at 7 13) None None [])
            (with (call (head (callees.Row 64) (at 7 25) None (Some 3) (Some 3 ∷ [])) none) none))) ∷
            declares (set_iterator (call (head (callees.Row 227) (at 8 13) None None [])
            (with (call (head (callees.Row 65) (at 8 25) None (Some 3) (Some 3 ∷ [])) none) none))) ∷
            declares (set_iterator (call (head (callees.Row 65) (at 9 15) None (Some 3) (Some 3 ∷ [])) none)) ∷
            declares (binds_reference (head (callees.Row 68) (at 10 15) None (Some 3) (Some 3 ∷ [])) none) ∷
            declares (binds_reference (head (callees.Operator operators.Dereference) (at 11 14) None None (None ∷ Some 5 ∷ []))
            (with (iterator 1) none)) ∷
            declares (binds_reference (head (callees.Row 69) (at 12 21) None (Some 3) (Some 3 ∷ [])) none) ∷
            does (evaluates (call (head (callees.Row 81) (at 13 5) (Some 0) (Some 3) (Some 3 ∷ []))
            (with (convert t.Size (literal t.Int (pos 3))) (with (literal t.Int (pos 8)) none)))) ∷
            does (prints (
            number (held (element (head (callees.Operator operators.Dereference) (at 14 16) None None (None ∷ Some 4 ∷ []))
            (with (iterator 0) none))) ∷
            text (codes " ") ∷
            [])) ∷
            does (prints (
            number (held (element (head (callees.Operator operators.Dereference) (at 15 16) None None (None ∷ Some 5 ∷ []))
            (with (iterator 1) none))) ∷
            text (codes " ") ∷
            [])) ∷
            does (prints (
            number (call (head (callees.Operator (operators.Compare c.Equal)) (at 16 20) None None (None ∷ Some 7 ∷ []))
            (with (iterator 3) (with (call (head (callees.Row 65) (at 16 25) None (Some 3) (Some 3 ∷ [])) none) none))) ∷
            text (codes " ") ∷
            [])) ∷
            does (updates o.Add t.Int t.Int (at 17 6) (reference 4 (at 17 3) 8 part.Whole) (literal t.Int (pos 1))) ∷
            does (prints (number (held (reference 5 (at 18 16) 9 part.Whole)) ∷ text (codes " ") ∷ [])) ∷
            does (prints (number (held (reference 6 (at 19 16) 10 part.Whole)) ∷ text (codes " ") ∷ [])) ∷
            []));
        close = at 20 1;
      } ∷
      [];
  main = 0;
  sites = at 13 5 ∷ at 20 1 ∷ [];
  loops = [];
  names =
      codes "w" ∷
      codes "u" ∷
      codes "z" ∷
      codes "c" ∷
      codes "ia" ∷
      codes "ib" ∷
      codes "id" ∷
      codes "ie" ∷
      codes "ra" ∷
      codes "rb" ∷
      codes "rd" ∷
      [];
  constants = pos 0 ∷ pos 1 ∷ pos 2 ∷ pos 3 ∷ pos 4 ∷ pos 5 ∷ pos 6 ∷ pos 7 ∷ pos 8 ∷ pos 9 ∷ [];
}

kills_of_list_resize_n_x_one_less_reference_rd_trap_ends : run kills_of_list_resize_n_x_one_less_reference_rd_trap [] [] 500
    ≡ finish (Trapped (trap (at 19 16) 12 (codes "use") 1 (Some 10) (Some 0))) (codes "1 2 1 2 ") 0
unfolding digits table
kills_of_list_resize_n_x_one_less_reference_rd_trap_ends = refl

-- kills of list.unique() none equal: all live: done
-- int main() {
--   std::list<int> w = {7, 8};
--   std::vector<int> u = {5, 6};
--   std::vector<int> z;
--   std::list<int> c = {1, 2, 3, 4};
--   auto ia = c.begin();
--   auto ib = std::next(c.begin());
--   auto id = std::prev(c.end());
--   auto ie = c.end();
--   int& ra = c.front();
--   auto& rb = *ib;
--   const int& rd = c.back();
--   c.unique();
--   std::cout << *ia << " ";
--   std::cout << *ib << " ";
--   std::cout << *id << " ";
--   std::cout << (ie == c.end()) << " ";
--   ra += 1;
--   std::cout << rb << " ";
--   std::cout << rd << " ";
--   for (int e : c) std::cout << e << ",";
--   for (int e : w) std::cout << e << ",";
-- }
abbrev pub kills_of_list_unique_none_equal_all_live_done : Typed
kills_of_list_unique_none_equal_all_live_done = record {
  functions =
      record {
        name = codes "main";
        parameters = [];
        result = Some (parameter.Value t.Int);
        variables =
            record { kind = sort.Container; name = 0; place = at 2 18 } ∷
            record { kind = sort.Container; name = 1; place = at 3 20 } ∷
            record { kind = sort.Container; name = 2; place = at 4 20 } ∷
            record { kind = sort.Container; name = 3; place = at 5 18 } ∷
            record { kind = sort.Iterator; name = 4; place = at 6 8 } ∷
            record { kind = sort.Iterator; name = 5; place = at 7 8 } ∷
            record { kind = sort.Iterator; name = 6; place = at 8 8 } ∷
            record { kind = sort.Iterator; name = 7; place = at 9 8 } ∷
            record { kind = sort.Reference; name = 8; place = at 10 8 } ∷
            record { kind = sort.Reference; name = 9; place = at 11 9 } ∷
            record { kind = sort.Reference; name = 10; place = at 12 14 } ∷
            record { kind = sort.Scalar; name = 11; place = at 21 12 } ∷
            record { kind = sort.Scalar; name = 11; place = at 22 12 } ∷
            [];
        body = block (Some 1) (all (
            declares (makes f.List (head (callees.Row 58) (at 2 3) None None [])
            (with (literal t.Int (pos 7)) (with (literal t.Int (pos 8)) none))) ∷
            declares (makes f.Vector (head (callees.Row 1) (at 3 3) None None [])
            (with (literal t.Int (pos 5)) (with (literal t.Int (pos 6)) none))) ∷
            declares (makes f.Vector (head (callees.Row 0) (at 4 3) None None []) none) ∷
            declares (makes f.List (head (callees.Row 58) (at 5 3) None None []) (with (literal t.Int (pos 1))
            (with (literal t.Int (pos 2)) (with (literal t.Int (pos 3)) (with (literal t.Int (pos 4)) none))))) ∷
            declares (set_iterator (call (head (callees.Row 64) (at 6 15) None (Some 3) (Some 3 ∷ [])) none)) ∷
            declares (set_iterator (call (head (callees.Row 226) (at 7 13) None None [])
            (with (call (head (callees.Row 64) (at 7 25) None (Some 3) (Some 3 ∷ [])) none) none))) ∷
            declares (set_iterator (call (head (callees.Row 227) (at 8 13) None None [])
            (with (call (head (callees.Row 65) (at 8 25) None (Some 3) (Some 3 ∷ [])) none) none))) ∷
            declares (set_iterator (call (head (callees.Row 65) (at 9 15) None (Some 3) (Some 3 ∷ [])) none)) ∷
            declares (binds_reference (head (callees.Row 68) (at 10 15) None (Some 3) (Some 3 ∷ [])) none) ∷
            declares (binds_reference (head (callees.Operator operators.Dereference) (at 11 14) None None (None ∷ Some 5 ∷ []))
            (with (iterator 1) none)) ∷
            declares (binds_reference (head (callees.Row 69) (at 12 21) None (Some 3) (Some 3 ∷ [])) none) ∷
            does (evaluates (call (head (callees.Row 86) (at 13 5) (Some 0) (Some 3) (Some 3 ∷ [])) none)) ∷
            does (prints (
            number (held (element (head (callees.Operator operators.Dereference) (at 14 16) None None (None ∷ Some 4 ∷ []))
            (with (iterator 0) none))) ∷
            text (codes " ") ∷
            [])) ∷
            does (prints (
            number (held (element (head (callees.Operator operators.Dereference) (at 15 16) None None (None ∷ Some 5 ∷ []))
            (with (iterator 1) none))) ∷
            text (codes " ") ∷
            [])) ∷
            does (prints (
            number (held (element (head (callees.Operator operators.Dereference) (at 16 16) None None (None ∷ Some 6 ∷ []))
            (with (iterator 2) none))) ∷
            text (codes " ") ∷
            [])) ∷
            does (prints (
            number (call (head (callees.Operator (operators.Compare c.Equal)) (at 17 20) None None (None ∷ Some 7 ∷ []))
            (with (iterator 3) (with (call (head (callees.Row 65) (at 17 25) None (Some 3) (Some 3 ∷ [])) none) none))) ∷
            text (codes " ") ∷
            [])) ∷
            does (updates o.Add t.Int t.Int (at 18 6) (reference 4 (at 18 3) 8 part.Whole) (literal t.Int (pos 1))) ∷
            does (prints (number (held (reference 5 (at 19 16) 9 part.Whole)) ∷ text (codes " ") ∷ [])) ∷
            does (prints (number (held (reference 6 (at 20 16) 10 part.Whole)) ∷ text (codes " ") ∷ [])) ∷
            range_for 0 taken.Value 3 (at 21 3) 3 (does (prints (number (held (scalar 0 (at 21 32))) ∷ text (codes ",") ∷ []))) ∷
            range_for 1 taken.Value 0 (at 22 3) 0 (does (prints (number (held (scalar 0 (at 22 32))) ∷ text (codes ",") ∷ []))) ∷
            []));
        close = at 23 1;
      } ∷
      [];
  main = 0;
  sites = at 13 5 ∷ at 23 1 ∷ [];
  loops = at 21 3 ∷ at 22 3 ∷ [];
  names =
      codes "w" ∷
      codes "u" ∷
      codes "z" ∷
      codes "c" ∷
      codes "ia" ∷
      codes "ib" ∷
      codes "id" ∷
      codes "ie" ∷
      codes "ra" ∷
      codes "rb" ∷
      codes "rd" ∷
      codes "e" ∷
      [];
  constants = pos 0 ∷ pos 1 ∷ pos 2 ∷ pos 3 ∷ pos 4 ∷ pos 5 ∷ pos 6 ∷ pos 7 ∷ pos 8 ∷ pos 9 ∷ [];
}

kills_of_list_unique_none_equal_all_live_done_ends : run kills_of_list_unique_none_equal_all_live_done [] [] 500
    ≡ finish (Done (pos 0)) (codes "1 2 4 1 2 4 2,2,3,4,7,8,") 0
unfolding digits table
kills_of_list_unique_none_equal_all_live_done_ends = refl

-- Closed runs of texts, each made of a C++ text and its end and output by tools/run_goal.py; the texts and ends are not this program's own answers.
use Rattle.sl_base.specs.declared.scalar.Scalar.TheVariants as t
use Rattle.sl_base.specs.declared.form.Form.TheVariants as f
use Rattle.sl_syntax.specs.declared.operator.Arithmetic.TheVariants as o
use Rattle.sl_syntax.specs.declared.typed.callee.Callee.TheVariants as callees
use Rattle.sl_syntax.specs.declared.typed.parameter.ParameterKind.TheVariants as parameter
use Rattle.sl_syntax.specs.declared.typed.variable.VariableKind.TheVariants as sort
use Rattle.std.specs.Prelude.{◌≡◌, refl, [], ◌∷◌, Some, None, pos, negsuc, codes}
use Rattle.std.specs.Fmt.{digits}
use Rattle.sl_syntax.specs.declared.typed.step.Fix.TheVariants.{Prefix}
use Rattle.sl_syntax.specs.declared.typed.step.Step.TheVariants.{Up}
use Rattle.sl_syntax.specs.Typed.{literal, held, convert, negate, increment, call, own_call, scalar, element, none, with, number, prints}
use Rattle.sl_syntax.specs.Typed.{evaluates, updates, set_scalar, makes, block, declares, does, Typed}
use Rattle.sl_specs.specs.Table.{table}
use Rattle.sl_model.specs.Runs.Ends.{Trapped, Language, Thrown}
use Rattle.sl_model.specs.Runs.Run.{run}
use Rattle.sl_model.proofs.Examples.Short.{at, head, all, finish, trap}

-- no return value, bool: language fault
-- bool f() {
-- }
-- int main() {
--   f();
-- }
abbrev pub no_return_value_bool_language_fault : Typed
no_return_value_bool_language_fault = record {
  functions =
      record {
        name = codes "f";
        parameters = [];
        result = Some (parameter.Value t.Bool);
        variables = [];
        body = block None (all []);
        close = at 2 1;
      } ∷
      record {
        name = codes "main";
        parameters = [];
        result = Some (parameter.Value t.Int);
        variables = [];
        body = block None (all (does (evaluates (own_call 0 (at 4 3) none)) ∷ []));
        close = at 5 1;
      } ∷
      [];
  main = 1;
  sites = [];
  loops = [];
  names = [];
  constants = pos 0 ∷ pos 1 ∷ [];
}

no_return_value_bool_language_fault_ends : run no_return_value_bool_language_fault [] [] 500 ≡ finish (Language (at 2 1) 4) [] 0
no_return_value_bool_language_fault_ends = refl

-- zero divisor, /=: language fault
-- int main() {
--   int x = 0;
--   x /= x;
-- }
abbrev pub zero_divisor_language_fault : Typed
zero_divisor_language_fault = record {
  functions =
      record {
        name = codes "main";
        parameters = [];
        result = Some (parameter.Value t.Int);
        variables = record { kind = sort.Scalar; name = 0; place = at 2 7 } ∷ [];
        body = block None (all (
            declares (set_scalar t.Int (literal t.Int (pos 0))) ∷
            does (updates o.Divide t.Int t.Int (at 3 5) (scalar 0 (at 3 3)) (held (scalar 0 (at 3 8)))) ∷
            []));
        close = at 4 1;
      } ∷
      [];
  main = 0;
  sites = [];
  loops = [];
  names = codes "x" ∷ [];
  constants = negsuc 0 ∷ pos 0 ∷ pos 1 ∷ [];
}

zero_divisor_language_fault_ends : run zero_divisor_language_fault [] [] 500 ≡ finish (Language (at 3 5) 2) [] 0
zero_divisor_language_fault_ends = refl

-- exception, constructor(n) negative: exception
-- int main() {
--   std::deque<int> d(-1);
-- }
abbrev pub exception_constructor_n_negative_exception : Typed
exception_constructor_n_negative_exception = record {
  functions =
      record {
        name = codes "main";
        parameters = [];
        result = Some (parameter.Value t.Int);
        variables = record { kind = sort.Container; name = 0; place = at 2 19 } ∷ [];
        body = block (Some 0) (all (
            declares (makes f.Deque (head (callees.Row 31) (at 2 3) None None [])
            (with (convert t.Size (negate t.Int (at 2 21) (literal t.Int (pos 1)))) none)) ∷
            []));
        close = at 3 1;
      } ∷
      [];
  main = 0;
  sites = at 3 1 ∷ [];
  loops = [];
  names = codes "d" ∷ [];
  constants = pos 0 ∷ pos 1 ∷ pos 2 ∷ [];
}

exception_constructor_n_negative_exception_ends : run exception_constructor_n_negative_exception [] [] 500
    ≡ finish (Thrown (at 2 3)) [] 0
unfolding table
exception_constructor_n_negative_exception_ends = refl

-- overflow, ++: language fault
-- int main() {
--   int x = 2147483647;
--   ++x;
-- }
abbrev pub overflow_language_fault : Typed
overflow_language_fault = record {
  functions =
      record {
        name = codes "main";
        parameters = [];
        result = Some (parameter.Value t.Int);
        variables = record { kind = sort.Scalar; name = 0; place = at 2 7 } ∷ [];
        body = block None (all (
            declares (set_scalar t.Int (literal t.Int (pos 2147483647))) ∷
            does (evaluates (increment Up Prefix t.Int (at 3 3) (scalar 0 (at 3 5)))) ∷
            []));
        close = at 4 1;
      } ∷
      [];
  main = 0;
  sites = [];
  loops = [];
  names = codes "x" ∷ [];
  constants = pos 0 ∷ pos 1 ∷ pos 2147483646 ∷ pos 2147483647 ∷ pos 2147483648 ∷ [];
}

overflow_language_fault_ends : run overflow_language_fault [] [] 500 ≡ finish (Language (at 3 3) 1) [] 0
overflow_language_fault_ends = refl

-- exception, constructor(n): exception
-- int main() {
--   std::vector<int> v(1000001);
-- }
abbrev pub exception_constructor_n_exception : Typed
exception_constructor_n_exception = record {
  functions =
      record {
        name = codes "main";
        parameters = [];
        result = Some (parameter.Value t.Int);
        variables = record { kind = sort.Container; name = 0; place = at 2 20 } ∷ [];
        body = block (Some 0) (all (
            declares
            (makes f.Vector (head (callees.Row 3) (at 2 3) None None []) (with (convert t.Size (literal t.Int (pos 1000001))) none)) ∷
            []));
        close = at 3 1;
      } ∷
      [];
  main = 0;
  sites = at 3 1 ∷ [];
  loops = [];
  names = codes "v" ∷ [];
  constants = pos 0 ∷ pos 1 ∷ pos 1000000 ∷ pos 1000001 ∷ pos 1000002 ∷ [];
}

exception_constructor_n_exception_ends : run exception_constructor_n_exception [] [] 500 ≡ finish (Thrown (at 2 3)) [] 0
unfolding table
exception_constructor_n_exception_ends = refl

-- exception, constructor(n, x): exception
-- int main() {
--   std::list<int> v(1000001, 3);
-- }
abbrev pub exception_constructor_n_x_exception : Typed
exception_constructor_n_x_exception = record {
  functions =
      record {
        name = codes "main";
        parameters = [];
        result = Some (parameter.Value t.Int);
        variables = record { kind = sort.Container; name = 0; place = at 2 18 } ∷ [];
        body = block (Some 0) (all (
            declares (makes f.List (head (callees.Row 61) (at 2 3) None None [])
            (with (convert t.Size (literal t.Int (pos 1000001))) (with (literal t.Int (pos 3)) none))) ∷
            []));
        close = at 3 1;
      } ∷
      [];
  main = 0;
  sites = at 3 1 ∷ [];
  loops = [];
  names = codes "v" ∷ [];
  constants = pos 0 ∷ pos 1 ∷ pos 2 ∷ pos 3 ∷ pos 4 ∷ pos 1000000 ∷ pos 1000001 ∷ pos 1000002 ∷ [];
}

exception_constructor_n_x_exception_ends : run exception_constructor_n_x_exception [] [] 500 ≡ finish (Thrown (at 2 3)) [] 0
unfolding table
exception_constructor_n_x_exception_ends = refl

-- exception, at of unordered_map: exception
-- int main() {
--   std::unordered_map<int, int> m;
--   std::cout << m.at(0);
-- }
abbrev pub exception_at_of_unordered_map_exception : Typed
exception_at_of_unordered_map_exception = record {
  functions =
      record {
        name = codes "main";
        parameters = [];
        result = Some (parameter.Value t.Int);
        variables = record { kind = sort.Container; name = 0; place = at 2 32 } ∷ [];
        body = block (Some 0) (all (
            declares (makes f.HashMap (head (callees.Row 150) (at 2 3) None None []) none) ∷
            does (prints (
            number (held (element (head (callees.Row 157) (at 3 18) None (Some 0) (Some 0 ∷ [])) (with (literal t.Int (pos 0)) none))) ∷
            [])) ∷
            []));
        close = at 4 1;
      } ∷
      [];
  main = 0;
  sites = at 4 1 ∷ [];
  loops = [];
  names = codes "m" ∷ [];
  constants = negsuc 0 ∷ pos 0 ∷ pos 1 ∷ [];
}

exception_at_of_unordered_map_exception_ends : run exception_at_of_unordered_map_exception [] [] 500 ≡ finish (Thrown (at 3 18)) [] 0
unfolding table
exception_at_of_unordered_map_exception_ends = refl

-- exception, reserve of unordered_map: exception
-- int main() {
--   std::unordered_map<int, int> s;
--   s.reserve(-1);
-- }
abbrev pub exception_reserve_of_unordered_map_exception : Typed
exception_reserve_of_unordered_map_exception = record {
  functions =
      record {
        name = codes "main";
        parameters = [];
        result = Some (parameter.Value t.Int);
        variables = record { kind = sort.Container; name = 0; place = at 2 32 } ∷ [];
        body = block (Some 1) (all (
            declares (makes f.HashMap (head (callees.Row 150) (at 2 3) None None []) none) ∷
            does (evaluates (call (head (callees.Row 164) (at 3 5) (Some 0) (Some 0) (Some 0 ∷ []))
            (with (convert t.Size (negate t.Int (at 3 13) (literal t.Int (pos 1)))) none))) ∷
            []));
        close = at 4 1;
      } ∷
      [];
  main = 0;
  sites = at 3 5 ∷ at 4 1 ∷ [];
  loops = [];
  names = codes "s" ∷ [];
  constants = pos 0 ∷ pos 1 ∷ pos 2 ∷ [];
}

exception_reserve_of_unordered_map_exception_ends : run exception_reserve_of_unordered_map_exception [] [] 500
    ≡ finish (Thrown (at 3 5)) [] 0
unfolding table
exception_reserve_of_unordered_map_exception_ends = refl

-- exception, reserve of unordered_set: exception
-- int main() {
--   std::unordered_set<int> s;
--   s.reserve(1000001);
-- }
abbrev pub exception_reserve_of_unordered_set_exception : Typed
exception_reserve_of_unordered_set_exception = record {
  functions =
      record {
        name = codes "main";
        parameters = [];
        result = Some (parameter.Value t.Int);
        variables = record { kind = sort.Container; name = 0; place = at 2 27 } ∷ [];
        body = block (Some 1) (all (
            declares (makes f.HashSet (head (callees.Row 131) (at 2 3) None None []) none) ∷
            does (evaluates (call (head (callees.Row 146) (at 3 5) (Some 0) (Some 0) (Some 0 ∷ []))
            (with (convert t.Size (literal t.Int (pos 1000001))) none))) ∷
            []));
        close = at 4 1;
      } ∷
      [];
  main = 0;
  sites = at 3 5 ∷ at 4 1 ∷ [];
  loops = [];
  names = codes "s" ∷ [];
  constants = pos 0 ∷ pos 1 ∷ pos 1000000 ∷ pos 1000001 ∷ pos 1000002 ∷ [];
}

exception_reserve_of_unordered_set_exception_ends : run exception_reserve_of_unordered_set_exception [] [] 500
    ≡ finish (Thrown (at 3 5)) [] 0
unfolding table
exception_reserve_of_unordered_set_exception_ends = refl

-- exception, at of vector: exception
-- int main() {
--   std::vector<int> v = {1, 2};
--   std::cout << v.at(1);
--   std::cout << v.at(2);
-- }
abbrev pub exception_at_of_vector_exception : Typed
exception_at_of_vector_exception = record {
  functions =
      record {
        name = codes "main";
        parameters = [];
        result = Some (parameter.Value t.Int);
        variables = record { kind = sort.Container; name = 0; place = at 2 20 } ∷ [];
        body = block (Some 0) (all (
            declares (makes f.Vector (head (callees.Row 1) (at 2 3) None None [])
            (with (literal t.Int (pos 1)) (with (literal t.Int (pos 2)) none))) ∷
            does (prints (
            number (held (element (head (callees.Row 13) (at 3 18) None (Some 0) (Some 0 ∷ []))
            (with (convert t.Size (literal t.Int (pos 1))) none))) ∷
            [])) ∷
            does (prints (
            number (held (element (head (callees.Row 13) (at 4 18) None (Some 0) (Some 0 ∷ []))
            (with (convert t.Size (literal t.Int (pos 2))) none))) ∷
            [])) ∷
            []));
        close = at 5 1;
      } ∷
      [];
  main = 0;
  sites = at 5 1 ∷ [];
  loops = [];
  names = codes "v" ∷ [];
  constants = pos 0 ∷ pos 1 ∷ pos 2 ∷ pos 3 ∷ [];
}

exception_at_of_vector_exception_ends : run exception_at_of_vector_exception [] [] 500 ≡ finish (Thrown (at 4 18)) (codes "2") 0
unfolding digits table
exception_at_of_vector_exception_ends = refl

-- exception, insert(p, n, x), need first: trap
-- int main() {
--   std::vector<int> v = {1, 2};
--   std::vector<int> w;
--   v.insert(w.begin(), -1, 1);
-- }
abbrev pub exception_insert_p_n_x_need_first_trap : Typed
exception_insert_p_n_x_need_first_trap = record {
  functions =
      record {
        name = codes "main";
        parameters = [];
        result = Some (parameter.Value t.Int);
        variables =
            record { kind = sort.Container; name = 0; place = at 2 20 } ∷
            record { kind = sort.Container; name = 1; place = at 3 20 } ∷
            [];
        body = block (Some 1) (all (
            declares (makes f.Vector (head (callees.Row 1) (at 2 3) None None [])
            (with (literal t.Int (pos 1)) (with (literal t.Int (pos 2)) none))) ∷
            declares (makes f.Vector (head (callees.Row 0) (at 3 3) None None []) none) ∷
            does (evaluates (call (head (callees.Row 18) (at 4 5) (Some 0) (Some 0) (Some 0 ∷ [])) (with
            (call (head (callees.Row 7) (at 4 14) None (Some 1) (Some 1 ∷ [])) none)
            (with (convert t.Size (negate t.Int (at 4 23) (literal t.Int (pos 1)))) (with (literal t.Int (pos 1)) none))))) ∷
            []));
        close = at 5 1;
      } ∷
      [];
  main = 0;
  sites = at 4 5 ∷ at 5 1 ∷ [];
  loops = [];
  names = codes "v" ∷ codes "w" ∷ [];
  constants = pos 0 ∷ pos 1 ∷ pos 2 ∷ pos 3 ∷ [];
}

exception_insert_p_n_x_need_first_trap_ends : run exception_insert_p_n_x_need_first_trap [] [] 500
    ≡ finish (Trapped (trap (at 4 5) 2 (codes "insert") 1 None None)) [] 0
unfolding table
exception_insert_p_n_x_need_first_trap_ends = refl

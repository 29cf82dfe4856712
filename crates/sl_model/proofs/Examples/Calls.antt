-- Closed runs of calls, each worked out by hand.
use Rattle.std.specs.Prelude.{◌≡◌, refl, List, [], ◌∷◌, Some, None, pos, codes, false}
use Rattle.std.specs.Fmt.{digits}
use Rattle.sl_base.specs.declared.scalar.Scalar.TheVariants as t
use Rattle.sl_base.specs.declared.form.Form.TheVariants as f
use Rattle.sl_syntax.specs.declared.operator.Access.TheVariants as a
use Rattle.sl_syntax.specs.declared.operator.Arithmetic.TheVariants as o
use Rattle.sl_syntax.specs.declared.operator.Comparison.TheVariants as c
use Rattle.sl_syntax.specs.declared.typed.parameter.ParameterKind.{ParameterKind}
use Rattle.sl_syntax.specs.declared.typed.parameter.ParameterKind.TheVariants as parameter
use Rattle.sl_syntax.specs.Typed.{literal, held, arithmetic, comparison, own_call, container, handed_scalar, scalar, none, with, test, text, number}
use Rattle.sl_syntax.specs.Typed.{reads, prints, evaluates, assigns, updates, set_scalar, block, declares, choice, gives_back, does, Typed}
use Rattle.sl_specs.specs.Table.{table}
use Rattle.sl_model.specs.Memory.Containers.{made, empty_memory}
use Rattle.sl_model.specs.LibraryCalls.Values.{number as number_value, iterator as iterator_value, scalar_at, container_at}
use Rattle.sl_model.specs.Runs.State.{State, iterator_at, set_scalar_at}
use Rattle.sl_model.specs.Runs.Ends.{Done, Trapped, OutOfSteps, Language}
use Rattle.sl_model.specs.Runs.Binding.{bound}
use Rattle.sl_model.specs.Runs.Eval.{Gives, come_back}
use Rattle.sl_model.specs.Runs.Run.{run}
use Rattle.sl_model.proofs.Examples.Short.{at, all, vector, push, start, deref, main_of, text_of, finish, trap}

-- int fact(int n) {
--   if (n <= 1) return 1;
--   return n * fact(n - 1);
-- }
-- int main() {
--   int n = 0;
--   std::cin >> n;
--   std::cout << fact(n);
-- }
abbrev pub recursion : Typed
recursion = text_of (
    record {
      name = [];
      parameters = parameter.Value t.Int ∷ [];
      result = Some (parameter.Value t.Int);
      variables = [];
      close = at 4 1;
      body = block None (all (
          choice (test (comparison c.LessEqual (at 2 9) (held (scalar 0 (at 2 7))) (literal t.Int (pos 1))))
          (gives_back (Some (literal t.Int (pos 1)))) ∷
          gives_back (Some (arithmetic o.Multiply t.Int (at 3 12) (held (scalar 0 (at 3 10)))
          (own_call 0 (at 3 14) (with (arithmetic o.Subtract t.Int
          (at 3 21) (held (scalar 0 (at 3 19))) (literal t.Int (pos 1))) none)))) ∷
          []));
    } ∷
    main_of None (
    declares (set_scalar t.Int (literal t.Int (pos 0))) ∷
    does (reads (0 ∷ [])) ∷
    does (prints (number (own_call 0 (at 8 16) (with (held (scalar 0 (at 8 21))) none)) ∷ [])) ∷
    []) (at 9 1) ∷ []) 1 [] []

recursion_of_5 : run recursion (pos 5 ∷ []) [] 100 ≡ finish (Done (pos 0)) (codes "120") 0
unfolding digits
recursion_of_5 = refl

recursion_of_12 : run recursion (pos 12 ∷ []) [] 100 ≡ finish (Done (pos 0)) (codes "479001600") 0
unfolding digits
recursion_of_12 = refl

-- 13 * 479001600 is no int
recursion_of_13 : run recursion (pos 13 ∷ []) [] 100 ≡ finish (Language (at 3 12) 1) [] 0
recursion_of_13 = refl

-- int down(int n) {
--   if (n == 0) return 0;
--   return down(n - 1) + 1;
-- }
-- int main() {
--   int n = 0;
--   std::cin >> n;
--   return down(n);
-- }
abbrev pub too_deep : Typed
too_deep = text_of (
    record {
      name = [];
      parameters = parameter.Value t.Int ∷ [];
      result = Some (parameter.Value t.Int);
      variables = [];
      close = at 4 1;
      body = block None (all (
          choice (test (comparison c.Equal (at 2 9) (held (scalar 0 (at 2 7))) (literal t.Int (pos 0))))
          (gives_back (Some (literal t.Int (pos 0)))) ∷
          gives_back (Some (arithmetic o.Add t.Int (at 3 22)
          (own_call 0 (at 3 10) (with (arithmetic o.Subtract t.Int (at 3 17) (held (scalar 0 (at 3 15)))
          (literal t.Int (pos 1))) none)) (literal t.Int (pos 1)))) ∷
          []));
    } ∷
    main_of None (
    declares (set_scalar t.Int (literal t.Int (pos 0))) ∷
    does (reads (0 ∷ [])) ∷
    gives_back (Some (own_call 0 (at 8 10) (with (held (scalar 0 (at 8 15))) none))) ∷
    []) (at 9 1) ∷ []) 1 [] []

-- `main` and 255 calls of `down` are in progress
too_deep_not : run too_deep (pos 254 ∷ []) [] 10000 ≡ finish (Done (pos 254)) [] 0
too_deep_not = refl

too_deep_faults : run too_deep (pos 255 ∷ []) [] 10000 ≡ finish (Language (at 3 10) 5) [] 0
too_deep_faults = refl

too_deep_in_five_steps : run too_deep (pos 3 ∷ []) [] 5 ≡ finish OutOfSteps [] 0
too_deep_in_five_steps = refl

-- void swap_them(int& a, int& b) {
--   int t = a;
--   a = b;
--   b = t;
-- }
-- int main() {
--   int x = 1;
--   int y = 2;
--   swap_them(x, y);
--   std::cout << x << " " << y;
-- }
abbrev pub references : Typed
references = text_of (
    record {
      name = [];
      parameters = parameter.Reference t.Int ∷ parameter.Reference t.Int ∷ [];
      result = None;
      variables = [];
      close = at 5 1;
      body = block None (all (
          declares (set_scalar t.Int (held (scalar 0 (at 2 11)))) ∷
          does (assigns (scalar 0 (at 3 3)) (held (scalar 1 (at 3 7)))) ∷
          does (assigns (scalar 1 (at 4 3)) (held (scalar 2 (at 4 7)))) ∷
          []));
    } ∷
    main_of None (
    declares (set_scalar t.Int (literal t.Int (pos 1))) ∷
    declares (set_scalar t.Int (literal t.Int (pos 2))) ∷
    does (evaluates (own_call 0 (at 9 3) (with (handed_scalar 0) (with (handed_scalar 1) none)))) ∷
    does (prints (number (held (scalar 0 (at 10 16))) ∷ text (codes " ") ∷ number (held (scalar 1 (at 10 28))) ∷ [])) ∷
    []) (at 11 1) ∷ []) 1 [] []

references_swap : run references [] [] 100 ≡ finish (Done (pos 0)) (codes "2 1") 0
unfolding digits
references_swap = refl

-- int add(int a, int b) {
--   a += b;
--   return a;
-- }
-- int main() {
--   int x = 3;
--   int y = add(x, add(x, 4));
--   std::cout << x << y;
-- }
abbrev pub by_values : Typed
by_values = text_of (
    record {
      name = [];
      parameters = parameter.Value t.Int ∷ parameter.Value t.Int ∷ [];
      result = Some (parameter.Value t.Int);
      variables = [];
      close = at 4 1;
      body = block None (all (
          does (updates o.Add t.Int t.Int (at 2 5) (scalar 0 (at 2 3)) (held (scalar 1 (at 2 8)))) ∷
          gives_back (Some (held (scalar 0 (at 3 10)))) ∷
          []));
    } ∷
    main_of None (
    declares (set_scalar t.Int (literal t.Int (pos 3))) ∷
    declares (set_scalar t.Int (own_call 0 (at 7 11) (with (held (scalar 0 (at 7 15))) (with (own_call 0 (at 7 18)
    (with (held (scalar 0 (at 7 22))) (with (literal t.Int (pos 4)) none))) none)))) ∷
    does (prints (number (held (scalar 0 (at 8 16))) ∷ number (held (scalar 1 (at 8 21))) ∷ [])) ∷
    []) (at 9 1) ∷ []) 1 [] []

-- x keeps its 3, and y is 10
by_values_prints : run by_values [] [] 100 ≡ finish (Done (pos 0)) (codes "310") 0
unfolding digits
by_values_prints = refl

-- void twice(int& x) {
--   if (x > 9) return;
--   x *= 2;
--   twice(x);
-- }
-- int main() {
--   int x = 3;
--   twice(x);
--   return x;
-- }
abbrev pub returns_early : Typed
returns_early = text_of (
    record {
      name = [];
      parameters = parameter.Reference t.Int ∷ [];
      result = None;
      variables = [];
      close = at 5 1;
      body = block None (all (
          choice (test (comparison c.Greater (at 2 9) (held (scalar 0 (at 2 7))) (literal t.Int (pos 9)))) (gives_back None) ∷
          does (updates o.Multiply t.Int t.Int (at 3 5) (scalar 0 (at 3 3)) (literal t.Int (pos 2))) ∷
          does (evaluates (own_call 0 (at 4 3) (with (handed_scalar 0) none))) ∷
          []));
    } ∷
    main_of None (
    declares (set_scalar t.Int (literal t.Int (pos 3))) ∷
    does (evaluates (own_call 0 (at 8 3) (with (handed_scalar 0) none))) ∷
    gives_back (Some (held (scalar 0 (at 9 10)))) ∷
    []) (at 10 1) ∷ []) 1 [] []

returns_early_gives_12 : run returns_early [] [] 100 ≡ finish (Done (pos 12)) [] 0
returns_early_gives_12 = refl

-- int take(std::vector<int>& v) {
--   v.push_back(9);
--   return 5;
-- }
-- int main() {
--   std::vector<int> v;
--   v.push_back(1);
--   auto it = v.begin();
--   *it = take(v);
--   std::cout << *it;
-- }
abbrev pub right_first : Typed
right_first = text_of (
    record {
      name = [];
      parameters = parameter.Container a.Whole f.Vector ∷ [];
      result = Some (parameter.Value t.Int);
      variables = [];
      close = at 4 1;
      body = block None (all (
          push (at 2 5) 0 0 0 (pos 9) ∷
          gives_back (Some (literal t.Int (pos 5))) ∷
          []));
    } ∷
    main_of (Some 2) (
    vector (at 6 3) ∷
    push (at 7 5) 1 0 0 (pos 1) ∷
    start (at 8 15) 0 0 ∷
    does (assigns (deref (at 9 3) 0 1) (own_call 0 (at 9 9) (with (container 0) none))) ∷
    does (prints (number (held (deref (at 10 16) 0 1)) ∷ [])) ∷
    []) (at 11 1) ∷ []) 1 (at 2 5 ∷ at 7 5 ∷ at 11 1 ∷ []) (codes "v" ∷ codes "it" ∷ [])

-- the right side grows the vector before the left side is evaluated
right_first_traps : run right_first [] [] 100 ≡ finish (Trapped (trap (at 9 3) 1 (codes "*") 1 (Some 1) (Some 0))) [] 0
unfolding table
right_first_traps = refl

right_first_with_room : run right_first [] (2 ∷ []) 100 ≡ finish (Done (pos 0)) (codes "5") 0
unfolding digits table
right_first_with_room = refl

-- a state in which a scalar, an iterator and a container of the caller are in scope
abbrev of_caller : State
of_caller = record {
  frame = record { scalars = 0 ∷ []; conts = 0 ∷ []; iters = 0 ∷ [] };
  scalars = record { ty = t.Int; value = Some (pos 7) } ∷ [];
  iters = iterator_at 5 ∷ [];
  memory = made f.Vector 0 [] empty_memory;
  input = [];
  picks = [];
  steps = 9;
  tests = 0;
  written = [];
}

-- what a function takes: an int, one by reference, a vector and an iterator
abbrev kinds : List ParameterKind
kinds = parameter.Value t.Int ∷ parameter.Reference t.Int ∷ parameter.Container a.Whole f.Vector ∷ parameter.Iterator false f.Vector ∷ []

-- the state in which its body starts: the int and the iterator are copied, the two references have the caller's locations, and nothing
-- else of the caller's is in scope
bound_state : bound kinds (number_value (pos 3) ∷ scalar_at 0 ∷ container_at 0 ∷ iterator_value 5 ∷ []) of_caller ≡ record of_caller {
  frame = record { scalars = 1 ∷ 0 ∷ []; conts = 0 ∷ []; iters = 1 ∷ [] };
  scalars = record { ty = t.Int; value = Some (pos 7) } ∷ record { ty = t.Int; value = Some (pos 3) } ∷ [];
  iters = iterator_at 5 ∷ iterator_at 5 ∷ [];
}
bound_state = refl

-- a body that wrote 4 through the reference and gives 2: behind the call the caller's variables are in scope again, and 4 is kept
comes_back : come_back of_caller (Gives (number_value (pos 2)) (set_scalar_at 0 (pos 4) (bound kinds (number_value (pos 3) ∷ scalar_at 0
    ∷ container_at 0 ∷ iterator_value 5 ∷ []) of_caller))) ≡ Gives (number_value (pos 2)) (record of_caller {
      scalars = record { ty = t.Int; value = Some (pos 4) } ∷ [];
    })
comes_back = refl

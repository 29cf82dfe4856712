-- Closed runs that end at a fault of the language, each worked out by hand.
use Rattle.std.specs.Prelude.{◌≡◌, refl, [], ◌∷◌, Some, None, pos, codes}
use Rattle.std.specs.Fmt.{digits}
use Rattle.sl_base.specs.declared.scalar.Scalar.TheVariants as t
use Rattle.sl_syntax.specs.declared.operator.Arithmetic.TheVariants as o
use Rattle.sl_syntax.specs.declared.operator.Comparison.TheVariants as c
use Rattle.sl_syntax.specs.declared.typed.parameter.ParameterKind.TheVariants as parameter
use Rattle.sl_syntax.specs.declared.typed.step.Fix.TheVariants.{Prefix}
use Rattle.sl_syntax.specs.declared.typed.step.Step.TheVariants.{Up, Down}
use Rattle.sl_syntax.specs.Typed.{literal, held, convert, arithmetic, comparison, increment, own_call, handed_scalar, scalar, none, with, test}
use Rattle.sl_syntax.specs.Typed.{number, reads, prints, evaluates, assigns, updates, unset_scalar, set_scalar, block, declares, choice, while}
use Rattle.sl_syntax.specs.Typed.{gives_back, does, Stmt, Typed}
use Rattle.sl_specs.specs.Table.{table}
use Rattle.sl_model.specs.Runs.Ends.{Done, OutOfSteps, Language}
use Rattle.sl_model.specs.Runs.Run.{run}
use Rattle.sl_model.proofs.Examples.Short.{at, all, vector, push, start, deref, main_of, text_of, alone, finish}

-- the loop's body of `no_value`
abbrev no_value_turn : Stmt
no_value_turn = block None (all (
    choice (test (comparison c.Equal (at 3 11) (held (scalar 0 (at 3 9))) (literal t.Int (pos 3))))
    (gives_back (Some (held (scalar 0 (at 3 24))))) ∷
    does (evaluates (increment Down Prefix t.Int (at 4 5) (scalar 0 (at 4 7)))) ∷
    []))

-- int f(int n) {
--   while (n > 0) {
--     if (n == 3) return n;
--     --n;
--   }
-- }
-- bool g(int n) {
--   return f(n);
-- }
-- int main() {
--   int n = 0;
--   std::cin >> n;
--   std::cout << g(n);
--   return f(n) + 1;
-- }
abbrev pub no_value : Typed
no_value = text_of (
    record {
      name = [];
      parameters = parameter.Value t.Int ∷ [];
      result = Some (parameter.Value t.Int);
      variables = [];
      close = at 6 1;
      body = block None (all (
          while 0 (test (comparison c.Greater (at 2 12) (held (scalar 0 (at 2 10))) (literal t.Int (pos 0)))) no_value_turn ∷
          []));
    } ∷
    record {
      name = [];
      parameters = parameter.Value t.Int ∷ [];
      result = Some (parameter.Value t.Bool);
      variables = [];
      close = at 9 1;
      body = block None (all (
          gives_back (Some (convert t.Bool (own_call 0 (at 8 10) (with (held (scalar 0 (at 8 12))) none)))) ∷
          []));
    } ∷
    main_of None (
    declares (set_scalar t.Int (literal t.Int (pos 0))) ∷
    does (reads (0 ∷ [])) ∷
    does (prints (number (own_call 1 (at 13 16) (with (held (scalar 0 (at 13 18))) none)) ∷ [])) ∷
    gives_back (Some (arithmetic o.Add t.Int (at 14 15) (own_call 0 (at 14 10) (with (held (scalar 0 (at 14 12))) none)) (literal t.Int (pos 1)))) ∷
    []) (at 15 1) ∷ []) 2 [] []

-- `f` gives 3 twice
no_value_not : run no_value (pos 5 ∷ []) [] 100 ≡ finish (Done (pos 4)) (codes "1") 0
unfolding digits
no_value_not = refl

-- `f` reaches its closing brace
no_value_faults : run no_value (pos 2 ∷ []) [] 100 ≡ finish (Language (at 6 1) 4) [] 0
no_value_faults = refl

-- void give(int& x) {
--   x = 3;
-- }
-- void add(int& x) {
--   x += 1;
-- }
-- int main() {
--   int a;
--   give(a);
--   int b;
--   std::cout << a;
--   add(b);
-- }
abbrev pub unset_by_reference : Typed
unset_by_reference = text_of (
    record {
      name = [];
      parameters = parameter.Reference t.Int ∷ [];
      result = None;
      variables = [];
      close = at 3 1;
      body = block None (all (
          does (assigns (scalar 0 (at 2 3)) (literal t.Int (pos 3))) ∷
          []));
    } ∷
    record {
      name = [];
      parameters = parameter.Reference t.Int ∷ [];
      result = None;
      variables = [];
      close = at 6 1;
      body = block None (all (
          does (updates o.Add t.Int t.Int (at 5 5) (scalar 0 (at 5 3)) (literal t.Int (pos 1))) ∷
          []));
    } ∷
    main_of None (
    declares (unset_scalar t.Int) ∷
    does (evaluates (own_call 0 (at 9 3) (with (handed_scalar 0) none))) ∷
    declares (unset_scalar t.Int) ∷
    does (prints (number (held (scalar 0 (at 11 16))) ∷ [])) ∷
    does (evaluates (own_call 1 (at 12 3) (with (handed_scalar 1) none))) ∷
    []) (at 13 1) ∷ []) 2 [] []

-- to hand b to a reference is no read of it; `+=` in the callee is one
unset_by_reference_faults : run unset_by_reference [] [] 100 ≡ finish (Language (at 5 3) 3) (codes "3") 0
unfolding digits
unset_by_reference_faults = refl

-- int main() {
--   std::vector<int> v;
--   v.push_back(21);
--   auto it = v.begin();
--   *it += *it;
--   ++*it;
--   std::cout << *it;
--   *it *= 99999999;
-- }
abbrev pub through_iterator : Typed
through_iterator = alone (Some 1) (
    vector (at 2 3) ∷
    push (at 3 5) 0 0 0 (pos 21) ∷
    start (at 4 15) 0 0 ∷
    does (updates o.Add t.Int t.Int (at 5 7) (deref (at 5 3) 0 1) (held (deref (at 5 10) 0 1))) ∷
    does (evaluates (increment Up Prefix t.Int (at 6 3) (deref (at 6 5) 0 1))) ∷
    does (prints (number (held (deref (at 7 16) 0 1)) ∷ [])) ∷
    does (updates o.Multiply t.Int t.Int (at 8 7) (deref (at 8 3) 0 1) (literal t.Int (pos 99999999))) ∷
    []) (at 9 1) (at 3 5 ∷ at 9 1 ∷ []) (codes "v" ∷ codes "it" ∷ [])

-- 21 + 21 and 1, and 43 * 99999999 is no int
through_iterator_faults : run through_iterator [] [] 100 ≡ finish (Language (at 8 7) 1) (codes "43") 0
unfolding digits table
through_iterator_faults = refl

through_iterator_in_six_steps : run through_iterator [] [] 6 ≡ finish OutOfSteps (codes "43") 0
unfolding digits table
through_iterator_in_six_steps = refl

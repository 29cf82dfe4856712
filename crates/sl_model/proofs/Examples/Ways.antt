-- Closed runs of loops, blocks and calls. The answers of `ways_out` are those of another implementation of these definitions;
-- the others were worked out by hand.
use Rattle.std.specs.Prelude.{◌≡◌, refl, [], ◌∷◌, Some, None, pos, negsuc, codes}
use Rattle.std.specs.Fmt.{digits}
use Rattle.sl_base.specs.declared.scalar.Scalar.TheVariants as t
use Rattle.sl_base.specs.declared.form.Form.TheVariants as f
use Rattle.sl_syntax.specs.declared.operator.Access.TheVariants as a
use Rattle.sl_syntax.specs.declared.operator.Arithmetic.TheVariants as o
use Rattle.sl_syntax.specs.declared.operator.Comparison.TheVariants as c
use Rattle.sl_syntax.specs.declared.typed.callee.Callee.TheVariants as callees
use Rattle.sl_syntax.specs.declared.typed.operator.Operator.TheVariants as operators
use Rattle.sl_syntax.specs.declared.typed.parameter.ParameterKind.TheVariants as parameter
use Rattle.sl_syntax.specs.Typed.{literal, held, arithmetic, comparison, call, own_call, container, scalar, element, none, with, not_read, test, text}
use Rattle.sl_syntax.specs.Typed.{number, prints, evaluates, assigns, updates, moves_to, unset_scalar, set_scalar, set_iterator, makes, block}
use Rattle.sl_syntax.specs.Typed.{declares, choice, while, break, continue, gives_back, does, Stmt, Typed}
use Rattle.sl_specs.specs.Table.{table}
use Rattle.sl_model.specs.Runs.Ends.{Done, Trapped, OutOfSteps, Language}
use Rattle.sl_model.specs.Runs.Run.{run}
use Rattle.sl_model.proofs.Examples.Short.{at, head, all, deref, finish, trap}

-- the loop's body of `ways_out`
abbrev ways_out_turn : Stmt
ways_out_turn = block None (all (
    choice (not_read (0 ∷ [])) break ∷
    choice (test (comparison c.Less (at 6 11) (held (scalar 0 (at 6 9))) (literal t.Int (pos 0)))) continue ∷
    choice (test (comparison c.Equal (at 7 11) (held (scalar 0 (at 7 9))) (literal t.Int (pos 9))))
    (gives_back (Some (held (scalar 1 (at 7 24))))) ∷
    does (updates o.Add t.Int t.Int (at 8 7) (scalar 1 (at 8 5)) (held (scalar 0 (at 8 10)))) ∷
    []))

-- int main() {
--   int x;
--   int n = 0;
--   while (true) {
--     if (!(std::cin >> x)) break;
--     if (x < 0) continue;
--     if (x == 9) return n;
--     n += x;
--   }
--   std::cout << "n=" << n << "\n";
-- }
abbrev pub ways_out : Typed
ways_out = record {
  functions = record {
    name = [];
    parameters = [];
    result = Some (parameter.Value t.Int);
    variables = [];
    close = at 11 1;
    body = block None (all (
        declares (unset_scalar t.Int) ∷
        declares (set_scalar t.Int (literal t.Int (pos 0))) ∷
        while 0 (test (literal t.Bool (pos 1))) ways_out_turn ∷
        does (prints (text (codes "n=") ∷ number (held (scalar 1 (at 10 24))) ∷ text (codes "\n") ∷ [])) ∷
        []));
  } ∷ [];
  main = 0;
  sites = [];
  loops = [];
  names = [];
  constants = [];
}

ways_out_prints : run ways_out (pos 1 ∷ negsuc 4 ∷ pos 2 ∷ []) [] 100 ≡ finish (Done (pos 0)) (codes "n=3\n") 0
unfolding digits
ways_out_prints = refl

ways_out_returns : run ways_out (pos 1 ∷ pos 9 ∷ pos 2 ∷ []) [] 100 ≡ finish (Done (pos 1)) [] 0
ways_out_returns = refl

ways_out_stops : run ways_out (negsuc 0 ∷ negsuc 0 ∷ negsuc 0 ∷ []) [] 9 ≡ finish OutOfSteps [] 0
ways_out_stops = refl

-- int main() {
--   int x = 2147483647;
--   x = x + 1;
--   int y;
--   y = y;
-- }
abbrev pub overflow : Typed
overflow = record {
  functions = record {
    name = [];
    parameters = [];
    result = Some (parameter.Value t.Int);
    variables = [];
    close = at 6 1;
    body = block None (all (
        declares (set_scalar t.Int (literal t.Int (pos 2147483647))) ∷
        does (assigns (scalar 0 (at 3 3)) (arithmetic o.Add t.Int (at 3 9) (held (scalar 0 (at 3 7))) (literal t.Int (pos 1)))) ∷
        declares (unset_scalar t.Int) ∷
        does (assigns (scalar 1 (at 5 3)) (held (scalar 1 (at 5 7)))) ∷
        []));
  } ∷ [];
  main = 0;
  sites = [];
  loops = [];
  names = [];
  constants = [];
}

overflow_faults : run overflow [] [] 100 ≡ finish (Language (at 3 9) 1) [] 0
overflow_faults = refl

-- the inner block of `inner`
abbrev inner_block : Stmt
inner_block = block (Some 2) (all (
    declares (makes f.Vector (head (callees.Row 0) (at 6 5) None None []) none) ∷
    does (evaluates (call (head (callees.Row 15) (at 7 7) (Some 1) (Some 1) (Some 2 ∷ [])) (with (literal t.Int (pos 2)) none))) ∷
    does (moves_to 0 (call (head (callees.Row 7) (at 8 12) None (Some 1) (Some 2 ∷ [])) none)) ∷
    []))

-- int main() {
--   std::vector<int> v;
--   v.push_back(1);
--   auto it = v.begin();
--   {
--     std::vector<int> w;
--     w.push_back(2);
--     it = w.begin();
--   }
--   int x = *it;
-- }
abbrev pub inner : Typed
inner = record {
  functions = record {
    name = [];
    parameters = [];
    result = Some (parameter.Value t.Int);
    variables = [];
    close = at 11 1;
    body = block (Some 3) (all (
        declares (makes f.Vector (head (callees.Row 0) (at 2 3) None None []) none) ∷
        does (evaluates (call (head (callees.Row 15) (at 3 5) (Some 0) (Some 0) (Some 0 ∷ [])) (with (literal t.Int (pos 1)) none))) ∷
        declares (set_iterator (call (head (callees.Row 7) (at 4 15) None (Some 0) (Some 0 ∷ [])) none)) ∷
        inner_block ∷
        declares (set_scalar t.Int (held (deref (at 10 11) 0 1))) ∷
        []));
  } ∷ [];
  main = 0;
  sites = at 3 5 ∷ at 7 7 ∷ at 9 3 ∷ at 11 1 ∷ [];
  loops = [];
  names = codes "v" ∷ codes "it" ∷ codes "w" ∷ [];
  constants = [];
}

inner_traps : run inner [] [] 100 ≡ finish (Trapped (trap (at 10 11) 1 (codes "*") 1 (Some 1) (Some 2))) [] 0
unfolding table
inner_traps = refl

-- void grow(std::vector<int>& v) {
--   v.push_back(1);
-- }
-- int main() {
--   std::vector<int> v;
--   grow(v);
--   auto it = v.begin();
--   *it = 5;
--   std::cout << *it;
--   grow(v);
--   return *it;
-- }
abbrev pub grown_elsewhere : Typed
grown_elsewhere = record {
  functions =
      record {
        name = [];
        parameters = parameter.Container a.Whole f.Vector ∷ [];
        result = None;
        variables = [];
        close = at 3 1;
        body = block None (all (
            does (evaluates (call (head (callees.Row 15) (at 2 5) (Some 0) (Some 0) (Some 0 ∷ [])) (with (literal t.Int (pos 1)) none))) ∷
            []));
      } ∷
      record {
        name = [];
        parameters = [];
        result = Some (parameter.Value t.Int);
        variables = [];
        close = at 12 1;
        body = block (Some 1) (all (
            declares (makes f.Vector (head (callees.Row 0) (at 5 3) None None []) none) ∷
            does (evaluates (own_call 0 (at 6 3) (with (container 0) none))) ∷
            declares (set_iterator (call (head (callees.Row 7) (at 7 15) None (Some 0) (Some 0 ∷ [])) none)) ∷
            does (assigns (deref (at 8 3) 0 1) (literal t.Int (pos 5))) ∷
            does (prints (number (held (deref (at 9 16) 0 1)) ∷ [])) ∷
            does (evaluates (own_call 0 (at 10 3) (with (container 0) none))) ∷
            gives_back (Some (held (deref (at 11 10) 0 1))) ∷
            []));
      } ∷ [];
  main = 1;
  sites = at 2 5 ∷ at 12 1 ∷ [];
  loops = [];
  names = codes "v" ∷ codes "it" ∷ [];
  constants = [];
}

grown_elsewhere_traps : run grown_elsewhere [] [] 100 ≡ finish (Trapped (trap (at 11 10) 1 (codes "*") 1 (Some 1) (Some 0))) (codes "5") 0
unfolding digits table
grown_elsewhere_traps = refl

grown_elsewhere_with_room : run grown_elsewhere [] (2 ∷ []) 100 ≡ finish (Done (pos 5)) (codes "5") 0
unfolding digits table
grown_elsewhere_with_room = refl

-- int main() {
--   std::vector<int> v;
--   int x = *v.begin();
-- }
abbrev pub past_the_end : Typed
past_the_end = record {
  functions = record {
    name = [];
    parameters = [];
    result = Some (parameter.Value t.Int);
    variables = [];
    close = at 4 1;
    body = block (Some 0) (all (
        declares (makes f.Vector (head (callees.Row 0) (at 2 3) None None []) none) ∷
        declares (set_scalar t.Int (held
        (element (head (callees.Operator operators.Dereference) (at 3 11) None None (None ∷ None ∷ []))
        (with (call (head (callees.Row 7) (at 3 14) None (Some 0) (Some 0 ∷ [])) none) none)))) ∷
        []));
  } ∷ [];
  main = 0;
  sites = at 4 1 ∷ [];
  loops = [];
  names = codes "v" ∷ [];
  constants = [];
}

past_the_end_traps : run past_the_end [] [] 100 ≡ finish (Trapped (trap (at 3 11) 4 (codes "*") 1 None None)) [] 0
unfolding table
past_the_end_traps = refl

-- int main() {
--   std::vector<int> v;
--   int x = v.size();
-- }
abbrev pub size_read : Typed
size_read = record {
  functions = record {
    name = [];
    parameters = [];
    result = Some (parameter.Value t.Int);
    variables = [];
    close = at 4 1;
    body = block (Some 0) (all (
        declares (makes f.Vector (head (callees.Row 0) (at 2 3) None None []) none) ∷
        declares (set_scalar t.Int (call (head (callees.Row 9) (at 3 13) None (Some 0) (Some 0 ∷ [])) none)) ∷
        []));
  } ∷ [];
  main = 0;
  sites = at 4 1 ∷ [];
  loops = [];
  names = codes "v" ∷ [];
  constants = [];
}

size_is_read : run size_read [] [] 100 ≡ finish (Done (pos 0)) [] 0
unfolding table
size_is_read = refl

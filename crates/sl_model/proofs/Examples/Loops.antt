-- Closed runs of loops, each worked out by hand.
use Rattle.std.specs.Prelude.{◌≡◌, refl, [], ◌∷◌, Some, None, pos, codes}
use Rattle.std.specs.Fmt.{digits}
use Rattle.sl_base.specs.declared.scalar.Scalar.TheVariants as t
use Rattle.sl_syntax.specs.declared.operator.Arithmetic.TheVariants as o
use Rattle.sl_syntax.specs.declared.operator.Comparison.TheVariants as c
use Rattle.sl_syntax.specs.declared.typed.callee.Callee.TheVariants as callees
use Rattle.sl_syntax.specs.declared.typed.element.Taken.TheVariants as taken
use Rattle.sl_syntax.specs.declared.typed.step.Fix.TheVariants.{Prefix, Postfix}
use Rattle.sl_syntax.specs.declared.typed.step.Step.TheVariants.{Up, Down}
use Rattle.sl_syntax.specs.Typed.{literal, held, arithmetic, comparison, increment, call, scalar, none, with, read, test, always, number, prints}
use Rattle.sl_syntax.specs.Typed.{evaluates, assigns, updates, moves_to, unset_scalar, set_scalar, no_first, declares_first, does_first, block}
use Rattle.sl_syntax.specs.Typed.{declares, choice, while, for, range_for, break, continue, gives_back, does, Stmt, Typed}
use Rattle.sl_specs.specs.Table.{table}
use Rattle.sl_model.specs.Runs.Ends.{Done, Trapped, OutOfSteps}
use Rattle.sl_model.specs.Runs.Run.{run}
use Rattle.sl_model.proofs.Examples.Short.{at, head, all, vector, push, start, deref, main_of, text_of, alone, finish, trap}

-- the body of the first loop of `no_test`
abbrev no_test_turn : Stmt
no_test_turn = block None (all (
    does (evaluates (increment Up Prefix t.Int (at 4 5) (scalar 0 (at 4 7)))) ∷
    choice (test (comparison c.Equal (at 5 11) (held (scalar 0 (at 5 9))) (literal t.Int (pos 4)))) break ∷
    []))

-- int main() {
--   int i = 0;
--   for (;;) {
--     ++i;
--     if (i == 4) break;
--   }
--   for (i = 10; ; i--) if (i < 5) return i;
-- }
abbrev pub no_test : Typed
no_test = text_of (
    main_of None (
    declares (set_scalar t.Int (literal t.Int (pos 0))) ∷
    for 0 no_first always None no_test_turn ∷
    for 1 (does_first (assigns (scalar 0 (at 7 8)) (literal t.Int (pos 10)))) always
    (Some (evaluates (increment Down Postfix t.Int (at 7 19) (scalar 0
    (at 7 18))))) (choice (test (comparison c.Less (at 7 29) (held (scalar 0 (at 7 27))) (literal t.Int (pos 5)))) (gives_back (Some (held
    (scalar 0 (at 7 41)))))) ∷
    []) (at 8 1) ∷ []) 0 [] []

no_test_gives_4 : run no_test [] [] 100 ≡ finish (Done (pos 4)) [] 0
no_test_gives_4 = refl

no_test_in_12_steps : run no_test [] [] 12 ≡ finish OutOfSteps [] 0
no_test_in_12_steps = refl

-- the body of the inner loop of `nested`
abbrev nested_inner : Stmt
nested_inner = block None (all (
    choice (test (comparison c.Greater (at 6 13) (held (scalar 2 (at 6 11))) (held (scalar 1 (at 6 15))))) break ∷
    does (updates o.Add t.Int t.Int (at 7 9) (scalar 0 (at 7 7)) (arithmetic o.Add t.Int (at 7 19)
    (arithmetic o.Multiply t.Int (at 7 15) (literal t.Int (pos 10)) (held (scalar 1 (at 7 17)))) (held (scalar 2 (at 7 21))))) ∷
    []))

-- the body of its outer loop
abbrev nested_outer : Stmt
nested_outer = block None (all (
    choice (test (comparison c.Equal (at 4 11) (held (scalar 1 (at 4 9))) (literal t.Int (pos 1)))) continue ∷
    for 1 (declares_first (set_scalar t.Int (literal t.Int (pos 0))))
    (test (comparison c.Less (at 5 23) (held (scalar 2 (at 5 21))) (literal t.Int (pos 4))))
    (Some (evaluates (increment Up Prefix t.Int (at 5 28) (scalar 2 (at 5 30))))) nested_inner ∷
    []))

-- int main() {
--   int n = 0;
--   for (int i = 0; i < 4; ++i) {
--     if (i == 1) continue;
--     for (int j = 0; j < 4; ++j) {
--       if (j > i) break;
--       n += 10 * i + j;
--     }
--   }
--   return n;
-- }
abbrev pub nested : Typed
nested = alone None (
    declares (set_scalar t.Int (literal t.Int (pos 0))) ∷
    for 0 (declares_first (set_scalar t.Int (literal t.Int (pos 0))))
    (test (comparison c.Less (at 3 21) (held (scalar 1 (at 3 19))) (literal t.Int (pos 4))))
    (Some (evaluates (increment Up Prefix t.Int (at 3 26) (scalar 1 (at 3 28))))) nested_outer ∷
    gives_back (Some (held (scalar 0 (at 10 10)))) ∷
    []) (at 11 1) [] []

-- 0, then 20, 21 and 22, then 30 to 33; `continue` skips 1, and both loops' last parts run
nested_gives_189 : run nested [] [] 47 ≡ finish (Done (pos 189)) [] 0
nested_gives_189 = refl

nested_in_46_steps : run nested [] [] 46 ≡ finish OutOfSteps [] 0
nested_in_46_steps = refl

-- the loop's body of `many_steps`
abbrev many_steps_turn : Stmt
many_steps_turn = block None (all (
    does (updates o.Add t.Int t.Int (at 4 7) (scalar 0 (at 4 5))
    (arithmetic o.Remainder t.Int (at 4 12) (held (scalar 1 (at 4 10))) (literal t.Int (pos 7)))) ∷
    []))

-- int main() {
--   int s = 0;
--   for (int i = 0; i < 3000; ++i) {
--     s += i % 7;
--   }
--   return s;
-- }
abbrev pub many_steps : Typed
many_steps = text_of (
    main_of None (
    declares (set_scalar t.Int (literal t.Int (pos 0))) ∷
    for 0 (declares_first (set_scalar t.Int (literal t.Int (pos 0)))) (test (comparison c.Less (at 3 21) (held (scalar 1 (at 3 19))) (literal t.Int
    (pos 3000)))) (Some (evaluates (increment Up Prefix t.Int (at 3 29) (scalar 1 (at 3 31))))) many_steps_turn ∷
    gives_back (Some (held (scalar 0 (at 6 10)))) ∷
    []) (at 7 1) ∷ []) 0 [] []

-- a declaration, the `for`, 3001 tests, 3000 bodies and the `return` take a step each; a block and the last part take none
many_steps_gives_8994 : run many_steps [] [] 6004 ≡ finish (Done (pos 8994)) [] 0
many_steps_gives_8994 = refl

many_steps_in_6003_steps : run many_steps [] [] 6003 ≡ finish OutOfSteps [] 0
many_steps_in_6003_steps = refl

-- int main() {
--   std::vector<int> v;
--   int x;
--   v.push_back(0);
--   auto it = v.begin();
--   while (std::cin >> x) v.push_back(x);
--   std::cout << *it;
-- }
abbrev pub grows_in_loop : Typed
grows_in_loop = alone (Some 2) (
    vector (at 2 3) ∷
    declares (unset_scalar t.Int) ∷
    push (at 4 5) 0 0 0 (pos 0) ∷
    start (at 5 15) 0 0 ∷
    while 0 (read (0 ∷ [])) (does (evaluates
    (call (head (callees.Row 15) (at 6 27) (Some 1) (Some 0) (Some 0 ∷ Some 1 ∷ [])) (with (held (scalar 0 (at 6 37))) none)))) ∷
    does (prints (number (held (deref (at 7 16) 0 2)) ∷ [])) ∷
    []) (at 8 1) (at 4 5 ∷ at 6 27 ∷ at 8 1 ∷ []) (codes "v" ∷ codes "x" ∷ codes "it" ∷ [])

-- no turn, and so no growth
grows_in_loop_not : run grows_in_loop [] [] 100 ≡ finish (Done (pos 0)) (codes "0") 0
unfolding digits table
grows_in_loop_not = refl

grows_in_loop_traps : run grows_in_loop (pos 7 ∷ []) [] 100 ≡ finish (Trapped (trap (at 7 16) 1 (codes "*") 1 (Some 2) (Some 1))) [] 0
unfolding table
grows_in_loop_traps = refl

-- three elements in a room of 3
grows_in_loop_with_room : run grows_in_loop (pos 7 ∷ pos 8 ∷ []) (3 ∷ []) 100 ≡ finish (Done (pos 0)) (codes "0") 0
unfolding digits table
grows_in_loop_with_room = refl

-- the fourth one grows
grows_in_loop_past_the_room : run grows_in_loop (pos 7 ∷ pos 8 ∷ pos 9 ∷ []) (3 ∷ []) 100
    ≡ finish (Trapped (trap (at 7 16) 1 (codes "*") 1 (Some 2) (Some 1))) [] 0
unfolding table
grows_in_loop_past_the_room = refl

-- the loop's body of `moved_in_loop`
abbrev moved_turn : Stmt
moved_turn = block None (all (
    does (evaluates (call (head (callees.Row 15) (at 6 7) (Some 0) (Some 0) (Some 0 ∷ Some 1 ∷ [])) (with (held (scalar 0 (at 6 17))) none))) ∷
    does (moves_to 0 (call (head (callees.Row 7) (at 7 12) None (Some 0) (Some 0 ∷ [])) none)) ∷
    []))

-- int main() {
--   std::vector<int> v;
--   int x;
--   auto it = v.begin();
--   while (std::cin >> x) {
--     v.push_back(x);
--     it = v.begin();
--   }
--   std::cout << *it;
-- }
abbrev pub moved_in_loop : Typed
moved_in_loop = alone (Some 1) (
    vector (at 2 3) ∷
    declares (unset_scalar t.Int) ∷
    start (at 4 15) 0 0 ∷
    while 0 (read (0 ∷ [])) moved_turn ∷
    does (prints (number (held (deref (at 9 16) 0 2)) ∷ [])) ∷
    []) (at 10 1) (at 6 7 ∷ at 10 1 ∷ []) (codes "v" ∷ codes "x" ∷ codes "it" ∷ [])

moved_in_loop_is_done : run moved_in_loop (pos 4 ∷ pos 5 ∷ []) [] 100 ≡ finish (Done (pos 0)) (codes "4") 0
unfolding digits table
moved_in_loop_is_done = refl

-- no turn: the iterator is the end
moved_in_loop_traps : run moved_in_loop [] [] 100 ≡ finish (Trapped (trap (at 9 16) 4 (codes "*") 1 (Some 2) None)) [] 0
unfolding table
moved_in_loop_traps = refl

-- int main() {
--   std::vector<int> v;
--   for (int x : v) std::cout << x;
-- }
abbrev pub range : Typed
range = alone (Some 0) (
    vector (at 2 3) ∷
    range_for 0 taken.Value 0 (at 3 3) 0 (does (prints (number (held (scalar 0 (at 3 32))) ∷ []))) ∷
    []) (at 4 1) (at 4 1 ∷ []) (codes "v" ∷ [])

-- no element: the body doesn't run
range_is_done : run range [] [] 100 ≡ finish (Done (pos 0)) [] 0
unfolding table
range_is_done = refl

-- Closed runs of blocks and of what dies at their braces, each worked out by hand.
use Rattle.std.specs.Prelude.{◌≡◌, refl, [], ◌∷◌, Some, None, pos, codes}
use Rattle.std.specs.Fmt.{digits}
use Rattle.sl_base.specs.declared.scalar.Scalar.TheVariants as t
use Rattle.sl_syntax.specs.declared.operator.Arithmetic.TheVariants as o
use Rattle.sl_syntax.specs.declared.operator.Comparison.TheVariants as c
use Rattle.sl_syntax.specs.declared.typed.callee.Callee.TheVariants as callees
use Rattle.sl_syntax.specs.declared.typed.parameter.ParameterKind.TheVariants as parameter
use Rattle.sl_syntax.specs.declared.typed.step.Fix.TheVariants.{Prefix}
use Rattle.sl_syntax.specs.declared.typed.step.Step.TheVariants.{Up}
use Rattle.sl_syntax.specs.Typed.{literal, held, arithmetic, comparison, increment, call, own_call, scalar, none, with, test, number, prints}
use Rattle.sl_syntax.specs.Typed.{evaluates, assigns, moves_to, set_scalar, declares_first, block, declares, choice, while, for, break, gives_back}
use Rattle.sl_syntax.specs.Typed.{does, Stmt, Typed}
use Rattle.sl_specs.specs.Table.{table}
use Rattle.sl_model.specs.Runs.Ends.{Done, Trapped, OutOfSteps}
use Rattle.sl_model.specs.Runs.Run.{run}
use Rattle.sl_model.proofs.Examples.Short.{at, head, all, vector, push, start, deref, read_from, main_of, text_of, alone, finish, trap}

-- the innermost block of `shadows`
abbrev shadows_inmost : Stmt
shadows_inmost = block None (all (
    declares (set_scalar t.Bool (literal t.Bool (pos 1))) ∷
    does (prints (number (held (scalar 2 (at 7 20))) ∷ [])) ∷
    []))

-- the block around it
abbrev shadows_inner : Stmt
shadows_inner = block None (all (
    declares (set_scalar t.Int (literal t.Int (pos 2))) ∷
    shadows_inmost ∷
    does (prints (number (held (scalar 1 (at 9 18))) ∷ [])) ∷
    does (assigns (scalar 1 (at 10 5)) (literal t.Int (pos 5))) ∷
    []))

-- int main() {
--   int x = 1;
--   {
--     int x = 2;
--     {
--       bool x = true;
--       std::cout << x;
--     }
--     std::cout << x;
--     x = 5;
--   }
--   std::cout << x;
--   for (int x = 7; x < 9; ++x) std::cout << x;
--   int y = x + 10;
--   std::cout << y;
-- }
abbrev pub shadows : Typed
shadows = text_of (
    main_of None (
    declares (set_scalar t.Int (literal t.Int (pos 1))) ∷
    shadows_inner ∷
    does (prints (number (held (scalar 0 (at 12 16))) ∷ [])) ∷
    for 0 (declares_first (set_scalar t.Int (literal t.Int (pos 7)))) (test (comparison c.Less (at 13 21) (held (scalar 1 (at 13 19))) (literal t.Int
    (pos 9)))) (Some (evaluates (increment Up Prefix t.Int (at 13 26) (scalar 1 (at 13 28)))))
    (does (prints (number (held (scalar 1 (at 13 44))) ∷ []))) ∷
    declares (set_scalar t.Int (arithmetic o.Add t.Int (at 14 13) (held (scalar 0 (at 14 11))) (literal t.Int (pos 10)))) ∷
    does (prints (number (held (scalar 1 (at 15 16))) ∷ [])) ∷
    []) (at 16 1) ∷ []) 0 [] []

shadows_prints : run shadows [] [] 100 ≡ finish (Done (pos 0)) (codes "1217811") 0
unfolding digits
shadows_prints = refl

-- the inner block of `another_dies`
abbrev another_block : Stmt
another_block = block (Some 2) (all (
    vector (at 6 5) ∷
    push (at 7 7) 1 1 2 (pos 2) ∷
    []))

-- int main() {
--   std::vector<int> v;
--   v.push_back(1);
--   auto it = v.begin();
--   {
--     std::vector<int> w;
--     w.push_back(2);
--   }
--   int x = *it;
--   std::cout << x;
-- }
abbrev pub another_dies : Typed
another_dies = alone (Some 3) (
    vector (at 2 3) ∷
    push (at 3 5) 0 0 0 (pos 1) ∷
    start (at 4 15) 0 0 ∷
    another_block ∷
    read_from (at 9 11) 0 1 ∷
    does (prints (number (held (scalar 0 (at 10 16))) ∷ [])) ∷
    []) (at 11 1) (at 3 5 ∷ at 7 7 ∷ at 8 3 ∷ at 11 1 ∷ []) (codes "v" ∷ codes "it" ∷ codes "w" ∷ [])

-- the brace invalidates iterators of its own containers alone, and a block takes no step
another_dies_prints : run another_dies [] [] 7 ≡ finish (Done (pos 0)) (codes "1") 0
unfolding digits table
another_dies_prints = refl

another_dies_in_six_steps : run another_dies [] [] 6 ≡ finish OutOfSteps [] 0
unfolding table
another_dies_in_six_steps = refl

-- the inner block of `left_early`
abbrev left_inner : Stmt
left_inner = block (Some 2) (all (
    vector (at 8 7) ∷
    push (at 9 9) 1 2 3 (pos 3) ∷
    does (moves_to 0 (call (head (callees.Row 7) (at 10 14) None (Some 2) (Some 3 ∷ [])) none)) ∷
    choice (test (comparison c.Equal (at 11 15) (held (deref (at 11 11) 0 1)) (literal t.Int (pos 3)))) break ∷
    []))

-- the loop's body
abbrev left_outer : Stmt
left_outer = block (Some 3) (all (
    vector (at 6 5) ∷
    left_inner ∷
    []))

-- int main() {
--   std::vector<int> v;
--   v.push_back(1);
--   auto it = v.begin();
--   while (true) {
--     std::vector<int> w;
--     {
--       std::vector<int> u;
--       u.push_back(3);
--       it = u.begin();
--       if (*it == 3) break;
--     }
--   }
--   int x = *it;
-- }
abbrev pub left_early : Typed
left_early = alone (Some 4) (
    vector (at 2 3) ∷
    push (at 3 5) 0 0 0 (pos 1) ∷
    start (at 4 15) 0 0 ∷
    while 0 (test (literal t.Bool (pos 1))) left_outer ∷
    read_from (at 14 11) 0 1 ∷
    []) (at 15 1) (at 3 5 ∷ at 9 9 ∷ at 12 5 ∷ at 13 3 ∷ at 15 1 ∷ []) (codes "v" ∷ codes "it" ∷ codes "w" ∷ codes "u" ∷ [])

-- `break` leaves two blocks: the vector dies at the brace of the inner one
left_early_traps : run left_early [] [] 100 ≡ finish (Trapped (trap (at 14 11) 1 (codes "*") 1 (Some 1) (Some 2))) [] 0
unfolding table
left_early_traps = refl

-- int first_of(int n) {
--   std::vector<int> w;
--   w.push_back(n);
--   auto it = w.begin();
--   return *it;
-- }
-- int main() {
--   std::vector<int> v;
--   v.push_back(1);
--   auto it = v.begin();
--   std::cout << first_of(7) << first_of(8) << *it;
-- }
abbrev pub local_dies : Typed
local_dies = text_of (
    record {
      name = [];
      parameters = parameter.Value t.Int ∷ [];
      result = Some (parameter.Value t.Int);
      variables = [];
      close = at 6 1;
      body = block (Some 1) (all (
          vector (at 2 3) ∷
          does (evaluates (call (head (callees.Row 15) (at 3 5) (Some 0) (Some 0) (Some 1 ∷ Some 0 ∷ [])) (with (held (scalar 0 (at 3 15))) none))) ∷
          start (at 4 15) 0 1 ∷
          gives_back (Some (held (deref (at 5 10) 0 2))) ∷
          []));
    } ∷
    main_of (Some 3) (
    vector (at 8 3) ∷
    push (at 9 5) 2 0 3 (pos 1) ∷
    start (at 10 15) 0 3 ∷
    does (prints (number (own_call 0 (at 11 16) (with (literal t.Int (pos 7)) none)) ∷
    number (own_call 0 (at 11 31) (with (literal t.Int (pos 8)) none)) ∷
    number (held (deref (at 11 46) 0 4)) ∷ [])) ∷
    []) (at 12 1) ∷ []) 1 (at 3 5 ∷ at 6 1 ∷ at 9 5 ∷ at 12 1 ∷ []) (codes "n" ∷ codes "w" ∷ codes "it" ∷ codes "v" ∷ codes "it" ∷ [])

-- the number is read before the vector dies, and the caller's iterator is another one
local_dies_prints : run local_dies [] [] 100 ≡ finish (Done (pos 0)) (codes "781") 0
unfolding digits table
local_dies_prints = refl

-- four statements of `main`, and four of each call
local_dies_in_twelve_steps : run local_dies [] [] 12 ≡ finish (Done (pos 0)) (codes "781") 0
unfolding digits table
local_dies_in_twelve_steps = refl

-- out of steps in the second call, when the first number is written
local_dies_in_eleven_steps : run local_dies [] [] 11 ≡ finish OutOfSteps (codes "7") 0
unfolding digits table
local_dies_in_eleven_steps = refl

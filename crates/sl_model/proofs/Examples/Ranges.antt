-- Closed runs of a range-for over a vector, each worked out by hand.
use Rattle.std.specs.Prelude.{◌≡◌, refl, [], ◌∷◌, Some, pos, codes}
use Rattle.std.specs.Fmt.{digits}
use Rattle.sl_syntax.specs.declared.typed.callee.Callee.TheVariants as callees
use Rattle.sl_syntax.specs.declared.typed.element.Taken.TheVariants as taken
use Rattle.sl_syntax.specs.Typed.{held, scalar, number, call, none, with, prints, evaluates, range_for, does, Typed}
use Rattle.sl_specs.specs.Table.{table}
use Rattle.sl_model.specs.Runs.Ends.{Done, Trapped, OutOfSteps}
use Rattle.sl_model.specs.Runs.Run.{run}
use Rattle.sl_model.proofs.Examples.Short.{at, head, vector, push, alone, finish, trap}

-- int main() {
--   std::vector<int> v;
--   v.push_back(1);
--   v.push_back(2);
--   for (int x : v) std::cout << x;
-- }
abbrev pub each_printed : Typed
each_printed = alone (Some 2)
    (vector (at 2 3) ∷ push (at 3 5) 0 0 0 (pos 1) ∷ push (at 4 5) 1 0 0 (pos 2) ∷
    range_for 0 taken.Value 0 (at 5 3) 0 (does (prints (number (held (scalar 0 (at 5 32))) ∷ []))) ∷ [])
    (at 6 1) (at 3 5 ∷ at 4 5 ∷ at 6 1 ∷ []) (codes "v" ∷ [])

-- the four statements take a step each, each of three tests one, and each of two turns one
each_is_printed : run each_printed [] [] 9 ≡ finish (Done (pos 0)) (codes "12") 0
unfolding digits table
each_is_printed = refl

each_is_printed_in_eight_steps : run each_printed [] [] 8 ≡ finish OutOfSteps (codes "12") 0
unfolding digits table
each_is_printed_in_eight_steps = refl

-- int main() {
--   std::vector<int> v;
--   v.push_back(1);
--   for (int x : v) v.push_back(x);
-- }
abbrev pub grows_in_range : Typed
grows_in_range = alone (Some 2)
    (vector (at 2 3) ∷ push (at 3 5) 0 0 0 (pos 1) ∷ range_for 0 taken.Value 0 (at 4 3) 0 (does (evaluates
    (call (head (callees.Row 15) (at 4 21) (Some 1) (Some 0) (Some 0 ∷ Some 1 ∷ [])) (with (held (scalar 0 (at 4 31))) none)))) ∷ [])
    (at 5 1) (at 3 5 ∷ at 4 21 ∷ at 5 1 ∷ []) (codes "v" ∷ codes "x" ∷ [])

-- the vector grows, and the hidden iterator can't go up
grows_in_range_traps : run grows_in_range [] [] 100 ≡ finish (Trapped (trap (at 4 3) 1 (codes "for") 1 (Some 0) (Some 1))) [] 0
unfolding table
grows_in_range_traps = refl

-- where there is room, the hidden end alone is invalidated, and the next test fails
grows_in_range_with_room : run grows_in_range [] (9 ∷ []) 100 ≡ finish (Trapped (trap (at 4 3) 1 (codes "for") 2 (Some 0) (Some 1))) [] 0
unfolding table
grows_in_range_with_room = refl

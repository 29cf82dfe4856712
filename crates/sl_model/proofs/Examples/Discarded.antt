-- Closed runs of texts with discarded values: the name of a variable that isn't set, alone and in a larger expression.
use Rattle.std.specs.Prelude.{◌≡◌, refl, [], ◌∷◌, Some, None, pos, codes}
use Rattle.sl_base.specs.declared.scalar.Scalar.TheVariants as t
use Rattle.sl_syntax.specs.declared.operator.Arithmetic.TheVariants as o
use Rattle.sl_syntax.specs.declared.operator.Comparison.TheVariants as c
use Rattle.sl_syntax.specs.declared.typed.step.Fix.TheVariants.{Prefix}
use Rattle.sl_syntax.specs.declared.typed.step.Step.TheVariants.{Up}
use Rattle.sl_syntax.specs.Typed.{literal, held, arithmetic, comparison, increment, scalar, test, evaluates, unset_scalar, set_scalar, declares, does}
use Rattle.sl_syntax.specs.Typed.{does_first, for, Typed}
use Rattle.sl_specs.specs.Table.{table}
use Rattle.sl_model.specs.Runs.Ends.{Done, Language, Trapped}
use Rattle.sl_model.specs.Runs.Run.{run}
use Rattle.sl_model.proofs.Examples.Short.{at, vector, push, start, deref, alone, finish, trap}

-- int main() {
--   int x;
--   x;
-- }
abbrev pub name_alone : Typed
name_alone = alone None (
    declares (unset_scalar t.Int) ∷
    does (evaluates (held (scalar 0 (at 3 3)))) ∷
    []) (at 4 1) [] []

-- nothing is read
name_alone_goes_on : run name_alone [] [] 100 ≡ finish (Done (pos 0)) [] 0
name_alone_goes_on = refl

-- int main() {
--   int x;
--   int y = x;
-- }
abbrev pub name_as_initialiser : Typed
name_as_initialiser = alone None (
    declares (unset_scalar t.Int) ∷
    declares (set_scalar t.Int (held (scalar 0 (at 3 11)))) ∷
    []) (at 4 1) [] []

-- an initialiser reads it
name_as_initialiser_faults : run name_as_initialiser [] [] 100 ≡ finish (Language (at 3 11) 3) [] 0
name_as_initialiser_faults = refl

-- int main() {
--   int x;
--   x + 1;
-- }
abbrev pub name_in_sum : Typed
name_in_sum = alone None (
    declares (unset_scalar t.Int) ∷
    does (evaluates (arithmetic o.Add t.Int (at 3 5) (held (scalar 0 (at 3 3))) (literal t.Int (pos 1)))) ∷
    []) (at 4 1) [] []

-- a sum reads it
name_in_sum_faults : run name_in_sum [] [] 100 ≡ finish (Language (at 3 3) 3) [] 0
name_in_sum_faults = refl

-- int main() {
--   int x;
--   int i = 0;
--   for (x; i < 2; x) ++i;
-- }
abbrev pub name_in_for : Typed
name_in_for = alone None (
    declares (unset_scalar t.Int) ∷
    declares (set_scalar t.Int (literal t.Int (pos 0))) ∷
    for 0 (does_first (evaluates (held (scalar 0 (at 4 8)))))
    (test (comparison c.Less (at 4 13) (held (scalar 1 (at 4 11))) (literal t.Int (pos 2))))
    (Some (evaluates (held (scalar 0 (at 4 18)))))
    (does (evaluates (increment Up Prefix t.Int (at 4 21) (scalar 1 (at 4 23))))) ∷
    []) (at 5 1) [] []

-- nor is it read in the first and the last part of a `for`
name_in_for_goes_on : run name_in_for [] [] 100 ≡ finish (Done (pos 0)) [] 0
name_in_for_goes_on = refl

-- int main() {
--   std::vector<int> v;
--   auto it = v.begin();
--   v.push_back(1);
--   *it;
-- }
abbrev pub star_alone : Typed
star_alone = alone (Some 1) (
    vector (at 2 3) ∷
    start (at 3 15) 0 0 ∷
    push (at 4 5) 0 0 0 (pos 1) ∷
    does (evaluates (held (deref (at 5 3) 0 1))) ∷
    []) (at 6 1) (at 4 5 ∷ at 6 1 ∷ []) (codes "v" ∷ codes "it" ∷ [])

-- a discarded call is a call
star_alone_fails : run star_alone [] [] 100 ≡ finish (Trapped (trap (at 5 3) 1 (codes "*") 1 (Some 1) (Some 0))) [] 0
unfolding table
star_alone_fails = refl

-- Closed runs.
use Rattle.std.specs.Prelude.{◌≡◌, refl, [], ◌∷◌, Some, None, pos, codes}
use Rattle.sl_base.specs.declared.scalar.Scalar.TheVariants as t
use Rattle.sl_base.specs.declared.form.Form.TheVariants as f
use Rattle.sl_syntax.specs.declared.typed.callee.Callee.TheVariants as callees
use Rattle.sl_syntax.specs.declared.typed.operator.Operator.TheVariants as operators
use Rattle.sl_syntax.specs.declared.typed.parameter.ParameterKind.TheVariants as parameter
use Rattle.sl_syntax.specs.declared.typed.variable.VariableKind.TheVariants as v
use Rattle.sl_syntax.specs.Typed.{literal, held, iterator, call, element, none, with, evaluates, set_scalar, set_iterator, makes, block, declares}
use Rattle.sl_syntax.specs.Typed.{does, no_more, followed, Typed}
use Rattle.sl_syntax.specs.declared.subset.Stmt.TheVariants.{Vector, PushBack, Begin, Dereference}
use Rattle.sl_syntax.specs.SubsetView.{main_of}
use Rattle.sl_specs.specs.Table.{table}
use Rattle.sl_model.specs.LibraryCalls.Values.{thrown, faulted, unbuilt}
use Rattle.sl_model.specs.Runs.Ends.{Done, Trapped, OutOfSteps, Language, Thrown, NoMeaning}
use Rattle.sl_model.specs.Runs.Run.{run, run_over}
use Rattle.sl_model.proofs.Examples.Short.{at, head, finish, trap}

-- int main() {}
abbrev pub empty : Typed
empty = record {
  functions = record {
    name = codes "main";
    parameters = [];
    result = Some (parameter.Value t.Int);
    variables = [];
    body = block None no_more;
    close = at 1 13;
  } ∷ [];
  main = 0;
  sites = [];
  loops = [];
  names = [];
  constants = [];
}

empty_is_done : run empty [] [] 0 ≡ finish (Done (pos 0)) [] 0
empty_is_done = refl

-- int main() {
--   std::vector<int> v;
--   v.push_back(1);
--   auto it = v.begin();
--   v.push_back(2);
--   int x = *it;
-- }
abbrev pub growth : Typed
growth = record {
  functions = record {
    name = codes "main";
    parameters = [];
    result = Some (parameter.Value t.Int);
    variables = record { kind = v.Container; name = 0; place = at 2 20 } ∷ record { kind = v.Iterator; name = 1; place = at 4 8 }
        ∷ record { kind = v.Scalar; name = 2; place = at 6 7 } ∷ [];
    close = at 7 1;
    body = block (Some 2) (
        followed (declares (makes f.Vector (head (callees.Row 0) (at 2 3) None None []) none)) (
        followed (does (evaluates (call (head (callees.Row 15) (at 3 5) (Some 0) (Some 0) (Some 0 ∷ [])) (with (literal t.Int (pos 1)) none)))) (
        followed (declares (set_iterator (call (head (callees.Row 7) (at 4 15) None (Some 0) (Some 0 ∷ [])) none))) (
        followed (does (evaluates (call (head (callees.Row 15) (at 5 5) (Some 1) (Some 0) (Some 0 ∷ [])) (with (literal t.Int (pos 2)) none)))) (
        followed (declares (set_scalar t.Int
        (held (element (head (callees.Operator operators.Dereference) (at 6 11) None None (None ∷ Some 1 ∷ [])) (with (iterator 0) none)))))
        no_more)))));
  } ∷ [];
  main = 0;
  sites = at 3 5 ∷ at 5 5 ∷ at 7 1 ∷ [];
  loops = [];
  names = codes "v" ∷ codes "it" ∷ codes "x" ∷ [];
  constants = [];
}

-- no room is left over, so that the second `push_back` grows
growth_traps : run growth [] (0 ∷ 0 ∷ []) 100 ≡ finish (Trapped (trap (at 6 11) 1 (codes "*") 1 (Some 1) (Some 1))) [] 0
unfolding table
growth_traps = refl

-- no number is left to pick
growth_traps_by_default : run growth [] [] 100 ≡ finish (Trapped (trap (at 6 11) 1 (codes "*") 1 (Some 1) (Some 1))) [] 0
unfolding table
growth_traps_by_default = refl

-- the first `push_back` grows to a room of 2
growth_with_room : run growth [] (0 ∷ 1 ∷ []) 100 ≡ finish (Done (pos 0)) [] 0
unfolding table
growth_with_room = refl

-- the vector has room from the start
growth_with_room_at_once : run growth [] (5 ∷ []) 5 ≡ finish (Done (pos 0)) [] 0
unfolding table
growth_with_room_at_once = refl

growth_in_four_steps : run growth [] (5 ∷ []) 4 ≡ finish OutOfSteps [] 0
unfolding table
growth_in_four_steps = refl

growth_in_two_steps : run growth [] (5 ∷ []) 2 ≡ finish OutOfSteps [] 0
unfolding table
growth_in_two_steps = refl

-- the tree is the one that the code's typed text stands for
growth_is_seen : growth.functions ≡ main_of
    (Vector (at 2 3) (at 2 20) ∷ PushBack (at 3 5) 0 0 0 1 ∷ Begin (at 4 15) 0 0 (at 4 8) ∷ PushBack (at 5 5) 0 0 1 2
    ∷ Dereference (at 6 11) 0 1 (at 6 7) ∷ []) (at 7 1) ∷ []
growth_is_seen = refl

-- an exception of the library, a fault and a call that it doesn't have end the run at the call
growth_throws : run_over (λ callee a m picks. thrown) growth [] [] 100 ≡ finish (Thrown (at 2 3)) [] 0
growth_throws = refl

growth_faults : run_over (λ callee a m picks. faulted 1) growth [] [] 100 ≡ finish (Language (at 2 3) 1) [] 0
growth_faults = refl

growth_has_no_meaning : run_over (λ callee a m picks. unbuilt) growth [] [] 100 ≡ finish (NoMeaning (at 2 3)) [] 0
growth_has_no_meaning = refl

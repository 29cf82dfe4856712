-- Texts with a statement or a function that stands where it may not, gives what it may not, or has too much in scope; all other parts of being well
-- typed hold. The text of each stands above its tree.
use Rattle.std.specs.Prelude.{◌≡◌, refl, [], ◌∷◌, ◌++◌, replicate, pos, Some, None}
use Rattle.sl_base.specs.declared.scalar.Scalar.TheVariants as t
use Rattle.sl_base.specs.declared.form.Form.TheVariants as f
use Rattle.sl_specs.specs.declared.rows.sequences.TheConstants as sequence
use Rattle.sl_specs.specs.declared.rows.associative.TheConstants as associative
use Rattle.sl_syntax.specs.declared.operator.Access.TheVariants as a
use Rattle.sl_syntax.specs.declared.typed.element.Taken.TheVariants as taken
use Rattle.sl_syntax.specs.declared.typed.parameter.ParameterKind.TheVariants as k
use Rattle.sl_syntax.specs.declared.typed.variable.VariableKind.TheVariants as v
use Rattle.sl_syntax.specs.Typed.{literal, none, test, always, unset_scalar, set_scalar, makes, declares_first, declares, choice, for}
use Rattle.sl_syntax.specs.Typed.{range_for, break, continue, gives_back, Typed}
use Rattle.sl_model.proofs.Examples.Trees.{Types, broken, at, off, int, value, done, made, vector, begun, body, body_at, function, main_of}
use Rattle.sl_model.proofs.Examples.Trees.{whole, alone}

-- int main() {
--   break;
-- }
abbrev break_outside : Typed
break_outside = alone [] (body (break ∷ [])) 0

break_outside_is_not : broken break_outside ≡ Types ∷ []
unfolding broken
break_outside_is_not = refl

-- int main() {
--   if (true) continue;
-- }
abbrev continue_outside : Typed
continue_outside = alone [] (body (choice (test (literal t.Bool (pos 1))) continue ∷ [])) 0

continue_outside_is_not : broken continue_outside ≡ Types ∷ []
unfolding broken
continue_outside_is_not = refl

-- void f() {
--   return 1;
-- }
-- int main() {
-- }
abbrev value_for_nothing : Typed
value_for_nothing = whole (function [] None [] (body (gives_back (Some (int 1)) ∷ [])) ∷ main_of [] (body []) ∷ []) 1 0 0

value_for_nothing_is_not : broken value_for_nothing ≡ Types ∷ []
unfolding broken
value_for_nothing_is_not = refl

-- int main() {
--   return;
-- }
abbrev nothing_for_value : Typed
nothing_for_value = alone [] (body (gives_back None ∷ [])) 0

nothing_for_value_is_not : broken nothing_for_value ≡ Types ∷ []
unfolding broken
nothing_for_value_is_not = refl

-- int main() {
--   return true;                without the conversion
-- }
abbrev unconverted_return : Typed
unconverted_return = alone [] (body (gives_back (Some (literal t.Bool (pos 1))) ∷ [])) 0

unconverted_return_is_not : broken unconverted_return ≡ Types ∷ []
unfolding broken
unconverted_return_is_not = refl

-- A function that gives a reference.
abbrev reference_given : Typed
reference_given = whole (function [] (Some (k.Reference t.Int)) [] (body []) ∷ main_of [] (body []) ∷ []) 1 0 0

reference_given_is_not : broken reference_given ≡ Types ∷ []
unfolding broken
reference_given_is_not = refl

-- int main() {
--   if (true) int x;
-- }
abbrev declaration_as_branch : Typed
declaration_as_branch = alone (v.Scalar ∷ []) (body (choice (test (literal t.Bool (pos 1))) (declares (unset_scalar t.Int)) ∷ [])) 0

declaration_as_branch_is_not : broken declaration_as_branch ≡ Types ∷ []
unfolding broken
declaration_as_branch_is_not = refl

-- int main() {
--   for (std::vector<int> v;;) break;
-- }
abbrev container_in_head : Typed
container_in_head = whole (main_of (v.Container ∷ []) (body (
    for 0 (declares_first (makes f.Vector (off sequence.VECTOR_CONSTRUCTOR (at 2 8)) none)) always None break ∷ [])) ∷ []) 0 0 1

container_in_head_is_not : broken container_in_head ≡ Types ∷ []
unfolding broken
container_in_head_is_not = refl

-- int main() {
--   std::map<int, int> m;
--   for (auto x : m) x;
-- }
abbrev pairs_by_value : Typed
pairs_by_value = whole (main_of (v.Container ∷ v.Scalar ∷ []) (body_at 0 (made f.Map associative.MAP_CONSTRUCTOR (at 2 3) [] ∷
    range_for 0 taken.Value 0 (at 3 3) 0 (done (value 0)) ∷ [])) ∷ []) 0 1 1

pairs_by_value_is_not : broken pairs_by_value ≡ Types ∷ []
unfolding broken
pairs_by_value_is_not = refl

-- int main() {
--   {
--     int x = 1;
--   }
--   x;
-- }
abbrev out_of_scope : Typed
out_of_scope = alone (v.Scalar ∷ []) (body (body (declares (set_scalar t.Int (int 1)) ∷ []) ∷ done (value 0) ∷ [])) 0

out_of_scope_is_not : broken out_of_scope ≡ Types ∷ []
unfolding broken
out_of_scope_is_not = refl

-- A function whose body is no block.
abbrev body_without_block : Typed
body_without_block = whole (function [] None [] (gives_back None) ∷ main_of [] (body []) ∷ []) 1 0 0

body_without_block_is_not : broken body_without_block ≡ Types ∷ []
unfolding broken
body_without_block_is_not = refl

-- int main() {
--   .. 17 vectors ..
-- }
abbrev many_containers : Typed
many_containers = alone (replicate 17 v.Container) (body_at 0 (replicate 17 (vector (at 2 3)))) 1

many_containers_is_not : broken many_containers ≡ Types ∷ []
unfolding broken
many_containers_is_not = refl

-- int main() {
--   std::vector<int> v;
--   .. 31 iterators ..
--   for (int x : v) x;          and two hidden ones
-- }
abbrev many_iterators : Typed
many_iterators = whole (main_of (v.Container ∷ (replicate 31 v.Iterator ++ v.Scalar ∷ [])) (body_at 0 (
    vector (at 2 3) ∷ (replicate 31 (begun (at 3 15) 0) ++ range_for 0 taken.Value 0 (at 4 3) 0 (done (value 0)) ∷ []))) ∷ []) 0 1 1

many_iterators_is_not : broken many_iterators ≡ Types ∷ []
unfolding broken
many_iterators_is_not = refl

-- int main() {
--   .. 49 ints ..
-- }
abbrev many_scalars : Typed
many_scalars = alone (replicate 49 v.Scalar) (body (replicate 49 (declares (unset_scalar t.Int)))) 0

many_scalars_is_not : broken many_scalars ≡ Types ∷ []
unfolding broken
many_scalars_is_not = refl

-- void f(.. 17 vectors ..) {
-- }
-- int main() {
-- }
abbrev many_parameters : Typed
many_parameters = whole (function (replicate 17 (k.Container a.Whole f.Vector)) None (replicate 17 v.Container) (body []) ∷
    main_of [] (body []) ∷ []) 1 0 0

many_parameters_is_not : broken many_parameters ≡ Types ∷ []
unfolding broken
many_parameters_is_not = refl

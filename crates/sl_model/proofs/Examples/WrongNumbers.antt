-- Texts that break one part of being well typed other than types and order: limits, `main`, sites, numbers, names, variables, constants, or what is
-- asked at one place. The text of each stands above its tree.
use Rattle.std.specs.Prelude.{◌≡◌, refl, ℕ, false, [], ◌∷◌, ◌++◌, replicate, pos, Some, None}
use Rattle.sl_base.specs.declared.scalar.Scalar.TheVariants as t
use Rattle.sl_base.specs.declared.form.Form.TheVariants as f
use Rattle.sl_specs.specs.declared.rows.sequences.TheConstants as sequence
use Rattle.sl_syntax.specs.declared.typed.callee.Callee.TheVariants as callees
use Rattle.sl_syntax.specs.declared.typed.element.Taken.TheVariants as taken
use Rattle.sl_syntax.specs.declared.typed.operator.Operator.TheVariants as operators
use Rattle.sl_syntax.specs.declared.typed.parameter.ParameterKind.TheVariants as k
use Rattle.sl_syntax.specs.declared.typed.variable.VariableKind.TheVariants as v
use Rattle.sl_syntax.specs.Typed.{literal, held, iterator, element, none, with, test, unset_scalar, set_scalar, declares, while, range_for}
use Rattle.sl_syntax.specs.Typed.{break, Typed}
use Rattle.sl_model.proofs.Examples.Trees.{Few, Main, Sites, Numbers, Names, Variables, Constants, Asker, broken, at, on, on_site, int}
use Rattle.sl_model.proofs.Examples.Trees.{value, calls, element_of, done, made, vector, pushed, body, body_at, function, main_of, whole}
use Rattle.sl_model.proofs.Examples.Trees.{alone, behind_vector}

-- .. 65 functions ..
abbrev many_functions : Typed
many_functions = whole (replicate 64 (function [] None [] (body [])) ++ main_of [] (body []) ∷ []) 64 0 0

many_functions_is_not : broken many_functions ≡ Few ∷ []
unfolding broken
many_functions_is_not = refl

-- int main() {
-- }                             in a text that says to have 4,097 sites
abbrev many_sites : Typed
many_sites = alone [] (body []) 4097

many_sites_is_not : broken many_sites ≡ Few ∷ []
unfolding broken
many_sites_is_not = refl

-- int main(int x) {
-- }
abbrev main_with_parameter : Typed
main_with_parameter = whole (function (k.Value t.Int ∷ []) (Some (k.Value t.Int)) (v.Scalar ∷ []) (body []) ∷ []) 0 0 0

main_with_parameter_is_not : broken main_with_parameter ≡ Main ∷ []
unfolding broken
main_with_parameter_is_not = refl

-- bool main() {
-- }
abbrev main_of_bool : Typed
main_of_bool = whole (function [] (Some (k.Value t.Bool)) [] (body []) ∷ []) 0 0 0

main_of_bool_is_not : broken main_of_bool ≡ Main ∷ []
unfolding broken
main_of_bool_is_not = refl

-- void f() {
-- }
abbrev no_main : Typed
no_main = whole (function [] None [] (body []) ∷ []) 1 0 0

no_main_is_not : broken no_main ≡ Main ∷ []
unfolding broken
no_main_is_not = refl

-- int main() {
--   std::vector<int> v;
--   v.push_back(1);             without a site
-- }
abbrev site_left_out : Typed
site_left_out = behind_vector [] 0 (done (calls (on sequence.VECTOR_PUSH_BACK (at 3 5) 0) (int 1 ∷ [])) ∷ [])

site_left_out_is_not : broken site_left_out ≡ Sites ∷ []
unfolding broken
site_left_out_is_not = refl

-- int main() {
--   std::vector<int> v;
--   v.size();                   with a site
-- }
abbrev site_too_many : Typed
site_too_many = behind_vector [] 1 (done (calls (on_site sequence.VECTOR_SIZE (at 3 5) 0 0) []) ∷ [])

site_too_many_is_not : broken site_too_many ≡ Sites ∷ []
unfolding broken
site_too_many_is_not = refl

-- int main() {
--   std::list<int> l;
--   l.push_back(1);             with a site, which it is for a vector alone
-- }
abbrev list_push_with_site : Typed
list_push_with_site = alone (v.Container ∷ []) (body_at 1 (made f.List sequence.LIST_CONSTRUCTOR (at 2 3) [] ∷
    done (calls (on_site sequence.LIST_PUSH_BACK (at 3 5) 0 0) (int 1 ∷ [])) ∷ [])) 2

list_push_with_site_is_not : broken list_push_with_site ≡ Sites ∷ []
unfolding broken
list_push_with_site_is_not = refl

-- int main() {
--   std::vector<int> v;
-- }                             without a site
abbrev brace_left_out : Typed
brace_left_out = alone (v.Container ∷ []) (body (vector (at 2 3) ∷ [])) 0

brace_left_out_is_not : broken brace_left_out ≡ Sites ∷ []
unfolding broken
brace_left_out_is_not = refl

-- int main() {
-- }                             with a site
abbrev brace_too_many : Typed
brace_too_many = alone [] (body_at 0 []) 1

brace_too_many_is_not : broken brace_too_many ≡ Sites ∷ []
unfolding broken
brace_too_many_is_not = refl

-- int main() {
--   std::vector<int> v;
--   v.push_back(1);             site 1
--   v.push_back(2);             site 0
-- }
abbrev sites_turned_round : Typed
sites_turned_round = behind_vector [] 2 (pushed (at 3 5) 1 0 (int 1) ∷ pushed (at 4 5) 0 0 (int 2) ∷ [])

sites_turned_round_is_not : broken sites_turned_round ≡ Numbers ∷ []
unfolding broken
sites_turned_round_is_not = refl

-- int main() {
--   std::vector<int> v;
-- }                             with site 0, of a text without sites
abbrev site_past_last : Typed
site_past_last = alone (v.Container ∷ []) (body_at 0 (vector (at 2 3) ∷ [])) 0

site_past_last_is_not : broken site_past_last ≡ Numbers ∷ []
unfolding broken
site_past_last_is_not = refl

-- int main() {
--   while (true) break;         loop 0
--   while (true) break;         loop 0
-- }
abbrev loops_alike : Typed
loops_alike = whole (main_of [] (body (while 0 (test (literal t.Bool (pos 1))) break ∷ while 0 (test (literal t.Bool (pos 1))) break ∷ [])) ∷
    []) 0 0 2

loops_alike_is_not : broken loops_alike ≡ Numbers ∷ []
unfolding broken
loops_alike_is_not = refl

-- int main() {
--   while (true) break;         loop 0, of a text without loops
-- }
abbrev loop_past_last : Typed
loop_past_last = alone [] (body (while 0 (test (literal t.Bool (pos 1))) break ∷ [])) 0

loop_past_last_is_not : broken loop_past_last ≡ Numbers ∷ []
unfolding broken
loop_past_last_is_not = refl

-- int main() {
--   std::vector<int> v;
--   for (int x : v) x;          with a third name, where there are two
-- }
abbrev name_past_last : Typed
name_past_last = whole (main_of (v.Container ∷ v.Scalar ∷ []) (body_at 0 (vector (at 2 3) ∷
    range_for 0 taken.Value 0 (at 3 3) 2 (done (value 0)) ∷ [])) ∷ []) 0 1 1

name_past_last_is_not : broken name_past_last ≡ Names ∷ []
unfolding broken
name_past_last_is_not = refl

-- int main() {
--   int x;                      in a function that lists none
-- }
abbrev variable_left_out : Typed
variable_left_out = alone [] (body (declares (unset_scalar t.Int) ∷ [])) 0

variable_left_out_is_not : broken variable_left_out ≡ Variables ∷ []
unfolding broken
variable_left_out_is_not = refl

-- int main() {
--   int x;                      in a function that lists a container
-- }
abbrev other_sort_listed : Typed
other_sort_listed = alone (v.Container ∷ []) (body (declares (unset_scalar t.Int) ∷ [])) 0

other_sort_listed_is_not : broken other_sort_listed ≡ Variables ∷ []
unfolding broken
other_sort_listed_is_not = refl

-- void f(int x) {                in a function that lists none
-- }
-- int main() {
-- }
abbrev parameter_left_out : Typed
parameter_left_out = whole (function (k.Value t.Int ∷ []) None [] (body []) ∷ main_of [] (body []) ∷ []) 1 0 0

parameter_left_out_is_not : broken parameter_left_out ≡ Variables ∷ []
unfolding broken
parameter_left_out_is_not = refl

-- int main() {
--   int x = 10;                 where 11 is no constant
-- }
abbrev neighbour_left_out : Typed
neighbour_left_out = alone (v.Scalar ∷ []) (body (declares (set_scalar t.Int (int 10)) ∷ [])) 0

neighbour_left_out_is_not : broken neighbour_left_out ≡ Constants ∷ []
unfolding broken
neighbour_left_out_is_not = refl

-- int main() {
-- }                             where 0 is a constant twice
abbrev constants_alike : Typed
constants_alike = let p = alone [] (body []) 0 in record p { constants = pos 0 ∷ pos 0 ∷ pos 1 ∷ [] }

constants_alike_is_not : broken constants_alike ≡ Constants ∷ []
unfolding broken
constants_alike_is_not = refl

-- int main() {
-- }                             where 1 is no constant
abbrev one_left_out : Typed
one_left_out = let p = alone [] (body []) 0 in record p { constants = pos 0 ∷ [] }

one_left_out_is_not : broken one_left_out ≡ Constants ∷ []
unfolding broken
one_left_out_is_not = refl

-- Two functions in which `*` of one place is that of two names.
-- void f(std::vector<int>::iterator it) {
--   *it;
-- }
-- int main() {
-- }
abbrev two_names_at_one_place : Typed
two_names_at_one_place = let star_of = λ (name : ℕ). function (k.Iterator false f.Vector ∷ []) None (v.Iterator ∷
    []) (body (done (held (element (record {
      callee = callees.Operator operators.Dereference;
      place = at 2 3;
      site = None;
      object = None;
      names = None ∷ Some name ∷ [];
    }) (with (iterator 0) none))) ∷ [])) in
    whole (star_of 0 ∷ star_of 1 ∷ main_of [] (body []) ∷ []) 2 0 0

two_names_at_one_place_is_not : broken two_names_at_one_place ≡ Asker ∷ []
unfolding broken
two_names_at_one_place_is_not = refl

-- int main() {
--   std::vector<int> v;
--   v.front();
--   v.back();                   at the same place
-- }
abbrev two_calls_at_one_place : Typed
two_calls_at_one_place = behind_vector [] 0 (done (element_of (on sequence.VECTOR_FRONT (at 3 5) 0) []) ∷
    done (element_of (on sequence.VECTOR_BACK (at 3 5) 0) []) ∷ [])

two_calls_at_one_place_is_not : broken two_calls_at_one_place ≡ Asker ∷ []
unfolding broken
two_calls_at_one_place_is_not = refl

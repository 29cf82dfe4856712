-- What a name means has numbers within the limits.
use Rattle.std.proofs.Common.{◌≡◌, ℕ, ◌-◌, ◌<◌, Bool, true, false, cond, List, [], ◌∷◌, length, Option, Some, None, refl, sym, subst, arith}
use Rattle.std.specs.Prelude.{reverse}
use Rattle.std.specs.List.{All, find}
use Rattle.std.proofs.lemmas.List.Elements.{All-head, All-tail}
use Rattle.std.proofs.lemmas.List.{get_or-reverse, length-reverse}
use Rattle.sl_typing.specs.declared.expr_type.ExprType.{ExprType}
use Rattle.sl_typing.specs.declared.expr_type.ExprType.TheVariants as types
use Rattle.sl_typing.specs.declared.scope.FunctionHead.{FunctionHead}
use Rattle.sl_typing.specs.declared.scope.NamedVariable.{NamedVariable}
use Rattle.sl_typing.specs.declared.scope.Scope.{Scope}
use Rattle.sl_base.specs.declared.limits.TheConstants.{FUNCTIONS}
use Rattle.sl_typing.specs.Scopes.{variable_named, is_variable_named, type_of_name, type_of_variable, number_of_name, label_of_name, function_named}
use Rattle.sl_typing.specs.Scopes.{is_function_named, sort_of, limit_of}
use Rattle.sl_typing.specs.Numbering.{number_of_function}
use Rattle.sl_number_limits.specs.Fits.{FitsVariable, FitsFunction, FitsScope}

-- what holds of all items holds of them in the other direction
all_reversed : {X : Type 0} (P : X → Type 0) (xs : List X) → All P xs → All P (reverse xs)
all_reversed P xs all k d h =
    let here : k < length xs = rw length-reverse at h in
    let there : length xs - 1 - k < length xs = omega arith in
    subst P (sym (get_or-reverse xs k d here)) (all (length xs - 1 - k) d there)

found_step : {X : Type 0} (P : X → Type 0) (b : Bool) (y x : X) (o : Option X) → cond b (Some y) o ≡ Some x → P y → (o ≡ Some x → P x) → P x
found_step P true y x o e here there = let same : y ≡ x = cc in subst P same here
found_step P false y x o e here there = there e

-- what holds of all items holds of the one that is found
found : {X : Type 0} (P : X → Type 0) (test : X → Bool) (xs : List X) → All P xs → (x : X) → find test xs ≡ Some x → P x
found P test [] all x e = absurd (cc)
found P test (y ∷ ys) all x e =
    found_step P (test y) y x (find test ys) e (All-head P y ys all) (found P test ys (All-tail P y ys all) x)

-- the variable that a name means
pub variable_found : (names : ℕ) (g : Scope) (name : List ℕ) → FitsScope names g → (v : NamedVariable) → variable_named g name ≡ Some v
    → FitsVariable names v
variable_found names g name f =
    found (FitsVariable names) (is_variable_named name) (reverse g.variables) (all_reversed (FitsVariable names) g.variables f.variables)

-- the function that a name means
pub function_found : (names : ℕ) (g : Scope) (name : List ℕ) → FitsScope names g → (h : FunctionHead) → function_named g name ≡ Some h
    → FitsFunction h
function_found names g name f =
    found FitsFunction (is_function_named name) (reverse g.functions) (all_reversed FitsFunction g.functions f.functions)

-- its number, by the option that is found
number_at : (names : ℕ) (o : Option NamedVariable) → ((v : NamedVariable) → o ≡ Some v → FitsVariable names v)
    → (elim o as (λ _. ℕ) [ None ↦ 0 | Some v ↦ v.number ]) < limit_of (sort_of (type_of_variable o))
number_at names None f = omega arith
number_at names (Some v) f = (f v refl).number

-- the number of the variable that a name means
pub number_of_name_fits : (names : ℕ) (g : Scope) (name : List ℕ) → FitsScope names g
    → number_of_name g name < limit_of (sort_of (type_of_name g name))
number_of_name_fits names g name f = number_at names (variable_named g name) (variable_found names g name f)

label_at : (names : ℕ) (o : Option NamedVariable) → ((v : NamedVariable) → o ≡ Some v → FitsVariable names v) → (k : ℕ)
    → (elim o as (λ _. Option ℕ) [ None ↦ None | Some v ↦ Some v.label ]) ≡ Some k → k < names
label_at names None f k e = absurd (cc)
label_at names (Some v) f k e = let same : v.label ≡ k = cc in let l = (f v refl).label in omega arith

-- the number of the name itself
pub label_of_name_fits : (names : ℕ) (g : Scope) (name : List ℕ) → FitsScope names g → (k : ℕ) → label_of_name g name ≡ Some k → k < names
label_of_name_fits names g name f = label_at names (variable_named g name) (variable_found names g name f)

some_name_at : (names : ℕ) (o : Option NamedVariable) → ((v : NamedVariable) → o ≡ Some v → FitsVariable names v)
    → (u : ExprType) → type_of_variable o ≡ u → (u ≡ types.Wrong → ⊥) → 0 < names
some_name_at names None f u e other = absurd (other (sym e))
some_name_at names (Some v) f u e other = let l = (f v refl).label in omega arith

-- there is some name, where a name means a variable of some type
pub some_name : (names : ℕ) (g : Scope) (name : List ℕ) → FitsScope names g → (type_of_name g name ≡ types.Wrong → ⊥) → 0 < names
some_name names g name f = some_name_at names (variable_named g name) (variable_found names g name f) (type_of_name g name) refl

function_number_at : (o : Option FunctionHead) → ((h : FunctionHead) → o ≡ Some h → FitsFunction h) → number_of_function o < FUNCTIONS
function_number_at None f = omega arith
function_number_at (Some h) f = (f h refl).number

-- the number of the function that a name means
pub number_of_function_fits : (names : ℕ) (g : Scope) (name : List ℕ) → FitsScope names g → number_of_function (function_named g name) < FUNCTIONS
number_of_function_fits names g name f = function_number_at (function_named g name) (function_found names g name f)

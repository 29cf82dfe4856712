-- The numbers that names have in a scope whose numbers are small.
use Rattle.std.proofs.Common.{ℕ, ◌<◌, ◌^◌, Bool, true, false, cond, List, [], ◌∷◌, reverse, find, All, Option, Some, None, IfSome, lit<}
use mathlib.Core.List.{reverse_aux}
use Rattle.std.proofs.lemmas.List.Elements.{All-nil, All-cons, All-head, All-tail}
use Rattle.sl_typing.specs.declared.scope.NamedVariable.{NamedVariable}
use Rattle.sl_typing.specs.declared.scope.Scope.{Scope}
use Rattle.sl_typing.specs.Scopes.{variable_named, is_variable_named, number_of_name, label_of_name, function_named, is_function_named}
use Rattle.sl_numbering.specs.Numbered.{IsNumbered}

reversed : {X : Type 0} (P : X → Type 0) (xs ys : List X) → All P xs → All P ys → All P (reverse_aux xs ys)
reversed P [] ys h k = k
reversed P (x ∷ xs) ys h k = reversed P xs (x ∷ ys) (All-tail P x xs h) (All-cons P x ys (All-head P x xs h) k)

found : {X : Type 0} (P : X → Type 0) (test : X → Bool) (xs : List X) → All P xs → IfSome (find test xs) P
found P test [] h = tt
found P test (x ∷ xs) h = elim (test x) as (λ b. IfSome (cond b (Some x) (find test xs)) P) [
  | true ↦ All-head P x xs h
  | false ↦ found P test xs (All-tail P x xs h)
]

-- what holds of each element holds of the last that passes a test
last_found : {X : Type 0} (P : X → Type 0) (test : X → Bool) (xs : List X) → All P xs → IfSome (find test (reverse xs)) P
last_found P test xs h = found P test (reverse xs) (reversed P xs [] h (All-nil P))

small_number : (o : Option NamedVariable) → IfSome o (λ v. v.number < 2 ^ 8) → (elim o as (λ _. ℕ) [ None ↦ 0 | Some v ↦ v.number ]) < 2 ^ 8
small_number None h = lit< tt
small_number (Some v) h = h

-- the number of a variable
pub number_is_small : (g : Scope) (name : List ℕ) → IsNumbered g → number_of_name g name < 2 ^ 8
number_is_small g name h = small_number (variable_named g name) (last_found (λ v. v.number < 2 ^ 8) (is_variable_named name) g.variables h.variables)

small_label : (o : Option NamedVariable) → IfSome o (λ v. v.label < 2 ^ 16)
    → IfSome (elim o as (λ _. Option ℕ) [ None ↦ None | Some v ↦ Some v.label ]) (λ n. n < 2 ^ 16)
small_label None h = tt
small_label (Some v) h = h

-- that of its name
pub label_is_small : (g : Scope) (name : List ℕ) → IsNumbered g → IfSome (label_of_name g name) (λ n. n < 2 ^ 16)
label_is_small g name h = small_label (variable_named g name) (last_found (λ v. v.label < 2 ^ 16) (is_variable_named name) g.variables h.names)

-- that of a function
pub function_is_small : (g : Scope) (name : List ℕ) → IsNumbered g → IfSome (function_named g name) (λ f. f.number < 2 ^ 16)
function_is_small g name h = last_found (λ f. f.number < 2 ^ 16) (is_function_named name) g.functions h.functions

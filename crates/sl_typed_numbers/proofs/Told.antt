-- Names that heads and uses tell are among those that there are.
use Rattle.std.proofs.Common.{◌≡◌, ℕ, ◌<◌, true, false, List, [], ◌∷◌, Option, Some, None, refl}
use Rattle.std.specs.Prelude.{nat_lt, is_none}
use Rattle.std.specs.List.{list_all}
use Rattle.std.proofs.lemmas.Bool.{and_from, and_parts, lt-ltb}
use Rattle.sl_syntax.specs.Tree as s
use Rattle.sl_syntax.specs.Tree.{Expr, Exprs, Initializer}
use Rattle.sl_typing.specs.declared.scope.NamedVariable.{NamedVariable}
use Rattle.sl_typing.specs.declared.scope.Scope.{Scope}
use Rattle.sl_typing.specs.Contexts.{Context}
use Rattle.sl_typing.specs.Rules.{is_unknown_variable}
use Rattle.sl_typing.specs.Scopes.{variable_named, label_of_name}
use Rattle.sl_typing.specs.Numbering.{label_in, trimmed, none_before, told, told_all}
use Rattle.sl_typing.specs.StatementNumbering.{told_in}
use Rattle.sl_model.specs.Typing.WellTypedNumbers.{is_name, tells_names}
use Rattle.sl_number_limits.specs.Fits.{FitsVariable, FitsScope}
use Rattle.sl_number_limits.proofs.Lookups.{variable_found, label_of_name_fits}
use Rattle.sl_typed_numbers.proofs.Nodes.{AreTold, Tells, Passes}

-- a number that is told is one of so many
label_is_name : (n : ℕ) (o : Option ℕ) → ((k : ℕ) → o ≡ Some k → k < n) → is_name n o ≡ true
label_is_name n None h = refl
label_is_name n (Some k) h = lt-ltb k n (h k refl)

named_is_name : (g : Scope) (name : List ℕ) (n : ℕ) → FitsScope n g → is_name n (label_of_name g name) ≡ true
named_is_name g name n f = label_is_name n (label_of_name g name) (label_of_name_fits n g name f)

-- that of an expression, and those of expressions
told_is_name : (g : Scope) (x : Expr) (n : ℕ) → FitsScope n g → is_name n (told g x) ≡ true
told_is_name g (s.name x) n f = named_is_name g x.name n f
told_is_name g e n f = refl

pub all_told : (g : Scope) (xs : Exprs) → AreTold g (told_all g xs)
all_told g s.none n f = refl
all_told g (s.with x xs) n f = and_from (is_name n (told g x)) (list_all (is_name n) (told_all g xs)) (told_is_name g x n f) (all_told g xs n f)

one_told : (g : Scope) (x : Expr) → AreTold g (told g x ∷ [])
one_told g x n f = and_from (is_name n (told g x)) true (told_is_name g x n f) refl

pub two_told : (g : Scope) (x y : Expr) → AreTold g (told g x ∷ told g y ∷ [])
two_told g x y n f = and_from (is_name n (told g x)) (list_all (is_name n) (told g y ∷ [])) (told_is_name g x n f) (one_told g y n f)

first_told : (g : Scope) (x : Expr) (xs : Exprs) → AreTold g (told g x ∷ told_all g xs)
first_told g x xs n f = and_from (is_name n (told g x)) (list_all (is_name n) (told_all g xs)) (told_is_name g x n f) (all_told g xs n f)

-- at each place
pub tells : (g : Scope) → Tells g
tells g = record { one = one_told g; two = two_told g }

-- those of what a container is made from
pub initializer_told : (g : Context) (value : Initializer) → AreTold g.scope (told_in g value)
initializer_told g s.absent n f = refl
initializer_told g (s.copies x) n f = and_from (is_name n (label_of_name g.scope x.name)) true (named_is_name g.scope x.name n f) refl
initializer_told g (s.braces equal xs) n f = all_told g.scope xs n f
initializer_told g (s.arguments xs) n f = all_told g.scope xs n f

-- the names that a head keeps
none_before_are : (n : ℕ) (names : List (Option ℕ)) → list_all (is_name n) names ≡ true → list_all (is_name n) (none_before names) ≡ true
none_before_are n [] h = refl
none_before_are n (x ∷ xs) h = h

pub trimmed_are : (n : ℕ) (names : List (Option ℕ)) → list_all (is_name n) names ≡ true → list_all (is_name n) (trimmed names) ≡ true
trimmed_are n [] h = refl
trimmed_are n (Some k ∷ xs) h =
    let two = and_parts (nat_lt k n) (list_all (is_name n) xs) h in
    and_from (nat_lt k n) (list_all (is_name n) (trimmed xs)) two.0 (trimmed_are n xs two.1)
trimmed_are n (None ∷ xs) h = none_before_are n (trimmed xs) (trimmed_are n xs h)

-- the name of a variable that is there
label_there : (n : ℕ) (o : Option NamedVariable) → ((v : NamedVariable) → o ≡ Some v → FitsVariable n v) → is_none o ≡ false
    → label_in (elim o as (λ _. Option ℕ) [ None ↦ None | Some v ↦ Some v.label ]) < n
label_there n None h known = absurd (cc)
label_there n (Some v) h known = (h v refl).label

pub used_is_name : (g : Scope) (name : List ℕ) (n : ℕ) → FitsScope n g → is_unknown_variable g name ≡ false
    → list_all (is_name n) (Some (label_in (label_of_name g name)) ∷ []) ≡ true
used_is_name g name n f known =
    and_from (nat_lt (label_in (label_of_name g name)) n) true
    (lt-ltb (label_in (label_of_name g name)) n (label_there n (variable_named g name) (variable_found n g name f) known)) refl

-- the nodes of expressions tell such names
pub names_pass : (n : ℕ) (g : Scope) → FitsScope n g → Passes (tells_names n) g
names_pass n g f = record {
  literals = λ z. refl;
  own_calls = λ k es. refl;
  operators = λ d e. refl;
  steps = λ x. refl;
  uses = λ at name known. used_is_name g name n f known;
  iterators = λ op at names es are. trimmed_are n names (are n f);
  subscripts = λ k how x at y o object es none found. trimmed_are n (told g x ∷ told g y ∷ []) (two_told g x y n f);
  members = λ k how x w xs o object es none found. trimmed_are n (told g x ∷ told_all g xs) (first_told g x xs n f);
  algorithms = λ k how w xs o es none found appends. trimmed_are n (None ∷ told_all g xs) (all_told g xs n f);
  advances = λ k how w xs o es none found name. trimmed_are n (None ∷ told_all g xs) (all_told g xs n f);
  appenders = λ k how w xs o es none found appends. trimmed_are n (None ∷ told_all g xs) (all_told g xs n f);
}

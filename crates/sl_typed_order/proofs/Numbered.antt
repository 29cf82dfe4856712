-- Variables of one sort are numbered in the order in which they come into scope; so two names that mean one variable are one name.
use Rattle.std.proofs.Common.{◌≡◌, ℕ, ◌+◌, ◌≤◌, Bool, true, false, cond, List, [], ◌∷◌, ◌++◌, reverse, Option, Some, None, refl, sym, subst, ap, arith, zero-add}
use Rattle.std.proofs.Common.{◌∙◌, ◌⊎◌, inl, inr}
use Rattle.std.specs.Prelude.{is_none}
use Rattle.std.specs.List.{count_by, sum_by}
use Rattle.std.specs.Str.{bytes_eq}
use Rattle.std.proofs.lemmas.Bool.{eqb-true}
use Rattle.std.proofs.lemmas.List.Sums.{sum_by-append}
use Rattle.std.proofs.lemmas.Slice.Eq.{bytes_eq-Decides}
use Rattle.sl_typing.specs.declared.expr_type.ExprType.{ExprType}
use Rattle.sl_typing.specs.declared.scope.NamedVariable.{NamedVariable}
use Rattle.sl_typing.specs.declared.scope.Scope.{Scope}
use Rattle.sl_typing.specs.Scopes.{Sort, scalars, containers, iterators, sort_of, same_sort, count_of, with_variable, is_variable_named, variable_named}
use Rattle.sl_typing.specs.Scopes.{type_of_variable, type_of_name, number_of_name}
use Rattle.sl_typing.specs.Rules.{is_unknown_variable}
use Rattle.sl_model.specs.Typing.WellTypedOrder.{Variable, the_scalar, the_container, the_iterator, same_variable}
use Rattle.sl_model.proofs.Tells.{AllOf}
use Rattle.sl_well_typed.proofs.Names.{all_reversed, found_among, found_passes}
use Rattle.sl_well_typed.proofs.Scoping.{all_follow}

-- a variable of a sort
abbrev pub is_of : Sort → NamedVariable → Bool
is_of sort v = same_sort sort (sort_of v.variable_type)

-- those of a sort are numbered in their order, from a number on
abbrev pub AreNumbered : Sort → ℕ → List NamedVariable → Type 0
AreNumbered sort k [] = Unit {0}
AreNumbered sort k (v ∷ vs) = (is_of sort v ≡ true → v.number ≡ k) × AreNumbered sort (k + cond (is_of sort v) 1 0) vs

-- one more has the next number
numbered_more : (sort : Sort) (k : ℕ) (xs : List NamedVariable) (x : NamedVariable) → AreNumbered sort k xs
    → (is_of sort x ≡ true → x.number ≡ k + count_by (is_of sort) xs) → AreNumbered sort k (xs ++ x ∷ [])
numbered_more sort k [] x h e = (λ c. let n = e c in omega arith, tt)
numbered_more sort k (y ∷ ys) x h e =
    let one = λ (w : NamedVariable). cond (is_of sort w) 1 0 in
    let counts : count_by (is_of sort) (y ∷ ys) ≡ one y + count_by (is_of sort) ys =
    sum_by-append one (y ∷ []) ys ∙ ap (λ (j : ℕ). j + sum_by one ys) (zero-add (one y)) in (
      h.0,
      numbered_more sort (k + one y) ys x h.1 (λ c. let n = e c in omega (arith, counts)),
    )

-- two sorts that are one
same_sorts : (a b : Sort) → same_sort a b ≡ true → a ≡ b
same_sorts scalars scalars h = refl
same_sorts containers containers h = refl
same_sorts iterators iterators h = refl
same_sorts a b h = absurd cc

-- the variables of each sort are numbered in their order
abbrev pub AllNumbered : Scope → Type 0
AllNumbered g = (sort : Sort) → AreNumbered sort 0 g.variables

-- also where a variable comes into scope
pub numbered_with : (name : Option (List ℕ)) (label : ℕ) (type : ExprType) (g : Scope) → AllNumbered g → AllNumbered (with_variable name label type g)
numbered_with name label type g h sort =
    numbered_more sort 0 g.variables _ (h sort)
    (λ e. let same = same_sorts sort (sort_of type) e in
    subst (λ (q : Sort). count_of (sort_of type) g ≡ 0 + count_of q g) (sym same) (sym (zero-add (count_of (sort_of type) g))))

-- it is one of these
abbrev IsIn : NamedVariable → List NamedVariable → Type 0
IsIn w [] = ⊥
IsIn w (v ∷ vs) = (w ≡ v) ⊎ IsIn w vs

-- each of these is one of them
each_is_in : (vs : List NamedVariable) → AllOf (λ v. IsIn v vs) vs
each_is_in [] = tt
each_is_in (v ∷ vs) = (inl refl, all_follow (λ w. IsIn w vs) (λ w. IsIn w (v ∷ vs)) (λ w h. inr h) vs (each_is_in vs))

-- later variables have later numbers
numbered_from : (sort : Sort) (k : ℕ) (vs : List NamedVariable) → AreNumbered sort k vs → (w : NamedVariable) → IsIn w vs → is_of sort w ≡ true
    → k ≤ w.number
numbered_from sort k [] h w is c = absurd is
numbered_from sort k (v ∷ vs) h w (inl same) c =
    let number = h.0 (subst (λ (x : NamedVariable). is_of sort x ≡ true) same c) in
    let own : w.number ≡ v.number = ap (λ (x : NamedVariable). x.number) same in omega arith
numbered_from sort k (v ∷ vs) h w (inr rest) c =
    let later = numbered_from sort (k + cond (is_of sort v) 1 0) vs h.1 w rest c in omega arith

-- two of one number are one
one_by_number : (sort : Sort) (k : ℕ) (vs : List NamedVariable) → AreNumbered sort k vs → (v w : NamedVariable) → IsIn v vs → IsIn w vs
    → is_of sort v ≡ true → is_of sort w ≡ true → v.number ≡ w.number → v ≡ w
one_by_number sort k [] h v w there here c d same = absurd there
one_by_number sort k (x ∷ xs) h v w (inl a) (inl b) c d same = a ∙ sym b
one_by_number sort k (x ∷ xs) h v w (inl a) (inr rest) c d same =
    let yes = subst (λ (y : NamedVariable). is_of sort y ≡ true) a c in
    let number = h.0 yes in
    let own : v.number ≡ x.number = ap (λ (y : NamedVariable). y.number) a in
    let step : k + cond (is_of sort x) 1 0 ≡ k + 1 = rw yes refl in
    let later = numbered_from sort (k + cond (is_of sort x) 1 0) xs h.1 w rest d in absurd (omega arith)
one_by_number sort k (x ∷ xs) h v w (inr rest) (inl b) c d same =
    let yes = subst (λ (y : NamedVariable). is_of sort y ≡ true) b d in
    let number = h.0 yes in
    let own : w.number ≡ x.number = ap (λ (y : NamedVariable). y.number) b in
    let step : k + cond (is_of sort x) 1 0 ≡ k + 1 = rw yes refl in
    let later = numbered_from sort (k + cond (is_of sort x) 1 0) xs h.1 v rest c in absurd (omega arith)
one_by_number sort k (x ∷ xs) h v w (inr r) (inr q) c d same = one_by_number sort (k + cond (is_of sort x) 1 0) xs h.1 v w r q c d same

-- a variable has the name that means it
named_is : (name : List ℕ) (v : NamedVariable) → is_variable_named name v ≡ true → v.name ≡ Some name
named_is name v h = by_name v.name h
  where
    by_name : (o : Option (List ℕ)) → elim o as (λ _. Bool) [ None ↦ false | Some n ↦ bytes_eq n name ] ≡ true → o ≡ Some name
    by_name None k = absurd cc
    by_name (Some n) k = ap Some ((bytes_eq-Decides n name).0 k)

-- the variable of a sort with a number
abbrev pub variable_of_sort : Sort → ℕ → Variable
variable_of_sort scalars n = the_scalar n
variable_of_sort containers n = the_container n
variable_of_sort iterators n = the_iterator n

-- one variable has one sort and one number
same_sort_of : (a b : Sort) (n k : ℕ) → same_variable (variable_of_sort a n) (variable_of_sort b k) ≡ true → (same_sort a b ≡ true) × (n ≡ k)
same_sort_of scalars scalars n k h = (refl, eqb-true n k h)
same_sort_of containers containers n k h = (refl, eqb-true n k h)
same_sort_of iterators iterators n k h = (refl, eqb-true n k h)
same_sort_of a b n k h = absurd cc

-- the variable that a name means
abbrev pub variable_meant : Scope → List ℕ → Variable
variable_meant g name = variable_of_sort (sort_of (type_of_name g name)) (number_of_name g name)

same_as_itself : (sort : Sort) → same_sort sort sort ≡ true
same_as_itself scalars = refl
same_as_itself containers = refl
same_as_itself iterators = refl

-- a sort as another one that is the same
of_other : (a b : Sort) → same_sort a b ≡ true → same_sort a a ≡ true
of_other a b h = same_as_itself a

number_at : Option NamedVariable → ℕ
number_at o = elim o as (λ _. ℕ) [ None ↦ 0 | Some v ↦ v.number ]

-- two variables that are found by their names
one_name_of : (g : Scope) → AllNumbered g → (a b : List ℕ) (v w : NamedVariable) → variable_named g a ≡ Some v → variable_named g b ≡ Some w
    → same_sort (sort_of v.variable_type) (sort_of w.variable_type) ≡ true → v.number ≡ w.number → a ≡ b
one_name_of g h a b v w e f sorts same =
    let vs = g.variables in
    let sort = sort_of v.variable_type in
    let each = all_reversed (λ x. IsIn x vs) vs (each_is_in vs) in
    let there = found_among (λ x. IsIn x vs) (is_variable_named a) (reverse vs) each v e in
    let here = found_among (λ x. IsIn x vs) (is_variable_named b) (reverse vs) each w f in
    let one = one_by_number sort 0 vs (h sort) v w there here (same_as_itself sort) sorts same in
    let first = named_is a v (found_passes (is_variable_named a) (reverse vs) v e) in
    let second = named_is b w (found_passes (is_variable_named b) (reverse vs) w f) in
    let third : v.name ≡ w.name = ap (λ (x : NamedVariable). x.name) one in
    some_is a b (sym first ∙ (third ∙ second))
  where
    some_is : (x y : List ℕ) → Some x ≡ Some y → x ≡ y
    some_is x y h = cc

-- two names that mean one variable are one name
pub one_name : (g : Scope) → AllNumbered g → (a b : List ℕ) → is_unknown_variable g a ≡ false → is_unknown_variable g b ≡ false
    → same_variable (variable_meant g a) (variable_meant g b) ≡ true → a ≡ b
one_name g h a b known there same =
    by_variables (variable_named g a) (variable_named g b) refl refl known there
    (same_sort_of (sort_of (type_of_name g a)) (sort_of (type_of_name g b)) (number_of_name g a) (number_of_name g b) same)
  where
    by_variables : (o q : Option NamedVariable) → variable_named g a ≡ o → variable_named g b ≡ q → is_none o ≡ false → is_none q ≡ false
        → (same_sort (sort_of (type_of_variable (variable_named g a))) (sort_of (type_of_variable (variable_named g b))) ≡ true)
        × (number_of_name g a ≡ number_of_name g b) → a ≡ b
    by_variables None q e f c d pair = absurd cc
    by_variables (Some v) None e f c d pair = absurd cc
    by_variables (Some v) (Some w) e f c d pair =
        let sorts : same_sort (sort_of v.variable_type) (sort_of w.variable_type) ≡ true =
        subst (λ (o : Option NamedVariable). same_sort (sort_of (type_of_variable o)) (sort_of w.variable_type) ≡ true) e
        (
        subst (λ (q : Option NamedVariable). same_sort (sort_of (type_of_variable (variable_named g a))) (sort_of (type_of_variable q)) ≡ true) f
        pair.0
        ) in
        let numbers : v.number ≡ w.number =
        subst (λ (o : Option NamedVariable). elim o as (λ _. ℕ) [ None ↦ 0 | Some x ↦ x.number ] ≡ w.number) e
        (
        subst (λ (q : Option NamedVariable). number_of_name g a ≡ elim q as (λ _. ℕ) [ None ↦ 0 | Some x ↦ x.number ]) f pair.1
        ) in
        one_name_of g h a b v w e f sorts numbers

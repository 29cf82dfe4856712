-- One and two more variables of a type pass a limit only where there are as many of its sort as there may be.
use Rattle.std.proofs.Common.{◌≡◌, ℕ, ◌+◌, ◌-◌, ◌<◌, ◌≤◌, Bool, true, false, cond, List, [], ◌∷◌, ◌++◌, Option, refl, ap, sym, ◌∙◌, arith}
use Rattle.std.specs.Prelude.{◌&&◌, ◌||◌, nat_lt, nat_le, count_by, sum_by, ◌==◌, if◌then◌else◌}
use Rattle.std.proofs.lemmas.List.Sums.{sum_by-append}
use Rattle.std.proofs.lemmas.Bool.Decides.{nat_tests}
use Rattle.sl_base.specs.declared.limits.TheConstants.{CONTAINERS, ITERATORS, SCALARS}
use Rattle.sl_typing.specs.declared.expr_type.ExprType.{ExprType}
use Rattle.sl_typing.specs.declared.scope.NamedVariable.{NamedVariable}
use Rattle.sl_typing.specs.declared.scope.Scope.{Scope}
use Rattle.sl_typing.specs.Scopes.{Sort, scalars, containers, iterators, sort_of, same_sort, count_of, limit_of, passes_some_limit, with_variable}

-- how many are added to a sort where k of another come
abbrev added : ℕ → Sort → Sort → ℕ
added k new sort = cond (same_sort sort new) k 0

-- one more variable is counted for its sort alone
count-with : (name : Option (List ℕ)) (label : ℕ) (type : ExprType) (g : Scope) (sort : Sort)
    → count_of sort (with_variable name label type g) ≡ count_of sort g + added 1 (sort_of type) sort
count-with name label type g sort =
    omega (
      arith,
      sum_by-append (λ (v : NamedVariable). cond (same_sort sort (sort_of v.variable_type)) 1 0) g.variables
          (record { name = name; label = label; number = count_of (sort_of type) g; variable_type = type } ∷ []),
    )

-- limits that none or some pass
no_more : (c d l : ℕ) → d ≡ c + 0 → (nat_le c l && nat_lt l d) ≡ false
no_more c d l e = grind (arith, nat_tests)

one_more : (c d l : ℕ) → d ≡ c + 1 → (nat_le c l && nat_lt l d) ≡ (c == l)
one_more c d l e = grind (arith, nat_tests)

two_more : (c d l : ℕ) → d ≡ c + 2 → (nat_le c l && nat_lt l d) ≡ (nat_le c l && nat_lt (l - c) 2)
two_more c d l e = grind (arith, nat_tests)

-- one of three holds where the others don't
first_alone : (a b c : Bool) → b ≡ false → c ≡ false → (a || b || c) ≡ a
first_alone true b c p q = refl
first_alone false b c p q = rw (p, q) refl

second_alone : (a b c : Bool) → a ≡ false → c ≡ false → (a || b || c) ≡ b
second_alone a true c p q = rw p refl
second_alone a false c p q = rw (p, q) refl

third_alone : (a b c : Bool) → a ≡ false → b ≡ false → (a || b || c) ≡ c
third_alone a b true p q = rw (p, q) refl
third_alone a b false p q = rw (p, q) refl

-- between counts of each sort the limit of one is passed
abbrev passes : (Sort → ℕ) → (Sort → ℕ) → Sort → Bool
passes c d sort = nat_le (c sort) (limit_of sort) && nat_lt (limit_of sort) (d sort)

-- where one sort alone has more, it alone can pass its limit
passes_alone : (new : Sort) (k : ℕ) (c d : Sort → ℕ) → ((sort : Sort) → d sort ≡ c sort + added k new sort)
    → (passes c d scalars || passes c d containers || passes c d iterators) ≡ passes c d new
passes_alone scalars k c d more =
    first_alone (passes c d scalars) (passes c d containers) (passes c d iterators)
    (no_more (c containers) (d containers) (limit_of containers) (more containers)) (no_more (c iterators) (d iterators) (limit_of iterators) (more iterators))
passes_alone containers k c d more =
    second_alone (passes c d scalars) (passes c d containers) (passes c d iterators)
    (no_more (c scalars) (d scalars) (limit_of scalars) (more scalars)) (no_more (c iterators) (d iterators) (limit_of iterators) (more iterators))
passes_alone iterators k c d more =
    third_alone (passes c d scalars) (passes c d containers) (passes c d iterators)
    (no_more (c scalars) (d scalars) (limit_of scalars) (more scalars)) (no_more (c containers) (d containers) (limit_of containers) (more containers))

-- a sort is itself
same_sort-refl : (sort : Sort) → same_sort sort sort ≡ true
same_sort-refl scalars = refl
same_sort-refl containers = refl
same_sort-refl iterators = refl

-- one more variable passes a limit where its sort is full
pub passes_one : (name : Option (List ℕ)) (label : ℕ) (type : ExprType) (g : Scope)
    → passes_some_limit g (with_variable name label type g) ≡ (count_of (sort_of type) g == limit_of (sort_of type))
passes_one name label type g = let new = sort_of type in
    passes_alone new 1 (λ s. count_of s g) (λ s. count_of s (with_variable name label type g)) (count-with name label type g)
    ∙ one_more (count_of new g) (count_of new (with_variable name label type g)) (limit_of new)
    (count-with name label type g new ∙ rw (same_sort-refl new) refl)

-- two more of one type are counted for its sort alone
count-with_two : (name : Option (List ℕ)) (label : ℕ) (type : ExprType) (g : Scope) (sort : Sort)
    → count_of sort (with_variable name label type (with_variable name label type g)) ≡ count_of sort g + added 2 (sort_of type) sort
count-with_two name label type g sort =
    count-with name label type (with_variable name label type g) sort
    ∙ rw (count-with name label type g sort) (twice (same_sort sort (sort_of type)))
  where
    twice : (b : Bool) → count_of sort g + cond b 1 0 + cond b 1 0 ≡ count_of sort g + cond b 2 0
    twice true = omega arith
    twice false = omega arith

-- two more pass a limit where their sort is full, or has place for one
pub passes_two : (name : Option (List ℕ)) (label : ℕ) (type : ExprType) (g : Scope)
    → passes_some_limit g (with_variable name label type (with_variable name label type g))
    ≡ (nat_le (count_of (sort_of type) g) (limit_of (sort_of type)) && nat_lt (limit_of (sort_of type) - count_of (sort_of type) g) 2)
passes_two name label type g = let new = sort_of type in let h = with_variable name label type (with_variable name label type g) in
    passes_alone new 2 (λ s. count_of s g) (λ s. count_of s h) (count-with_two name label type g)
    ∙ two_more (count_of new g) (count_of new h) (limit_of new) (count-with_two name label type g new ∙ rw (same_sort-refl new) refl)

-- the same of a sort, a count and a limit that are known to be the type's
pub one_told : (name : Option (List ℕ)) (label : ℕ) (type : ExprType) (g : Scope) (sort : Sort) (count limit : ℕ)
    → sort ≡ sort_of type → count ≡ count_of sort g → limit ≡ limit_of sort
    → (count == limit) ≡ passes_some_limit g (with_variable name label type g)
one_told name label type g sort count limit is_sort is_count is_limit =
    rw (is_count, is_limit, is_sort) (sym (passes_one name label type g))

pub two_told : (name : Option (List ℕ)) (label : ℕ) (type : ExprType) (g : Scope) (sort : Sort) (count limit left : ℕ)
    → sort ≡ sort_of type → count ≡ count_of sort g → limit ≡ limit_of sort → left ≡ limit - count
    → (nat_le count limit && nat_lt left 2) ≡ passes_some_limit g (with_variable name label type (with_variable name label type g))
two_told name label type g sort count limit left is_sort is_count is_limit is_left =
    rw (is_left, is_count, is_limit, is_sort) (sym (passes_two name label type g))

-- What comes into a scope keeps it within the limits.
use Rattle.std.proofs.Common.{◌≡◌, ℕ, ◌+◌, ◌<◌, ◌≤◌, Bool, true, false, cond, ◌&&◌, ◌||◌, List, Option, refl, arith}
use Rattle.std.specs.Prelude.{nat_le, nat_lt}
use Rattle.std.proofs.lemmas.Bool.Decides.{nat_tests}
use Rattle.std.proofs.lemmas.List.Elements.{All-push, All-weaker}
use Rattle.std.proofs.lemmas.List.Sums.{sum_by_push}
use Rattle.sl_typing.specs.declared.expr_type.ExprType.{ExprType}
use Rattle.sl_typing.specs.declared.scope.NamedVariable.{NamedVariable}
use Rattle.sl_typing.specs.declared.scope.Scope.{Scope}
use Rattle.sl_typing.specs.Scopes.{Sort, scalars, containers, iterators, sort_of, same_sort, count_of, limit_of, passes_limit, passes_some_limit}
use Rattle.sl_typing.specs.Scopes.{with_variable}
use Rattle.sl_number_limits.specs.Fits.{FitsVariable, FitsScope}

-- no sort is past its limit
abbrev pub AllCounted : Scope → Type 0
AllCounted g = (sort : Sort) → count_of sort g ≤ limit_of sort

first_false : (x y z : Bool) → (x || y || z) ≡ false → x ≡ false
first_false x y z e = grind arith

second_false : (x y z : Bool) → (x || y || z) ≡ false → y ≡ false
second_false x y z e = grind arith

third_false : (x y z : Bool) → (x || y || z) ≡ false → z ≡ false
third_false x y z e = grind arith

not_passed : (limit m n : ℕ) → (nat_le m limit && nat_lt limit n) ≡ false → m ≤ limit → n ≤ limit
not_passed limit m n e h = grind (arith, nat_tests)

-- between two places no sort passes its limit
pub counts_stay : (g h : Scope) → passes_some_limit g h ≡ false → AllCounted g → AllCounted h
counts_stay g h none all scalars =
    not_passed (limit_of scalars) (count_of scalars g) (count_of scalars h)
    (first_false (passes_limit scalars g h) (passes_limit containers g h) (passes_limit iterators g h) none) (all scalars)
counts_stay g h none all containers =
    not_passed (limit_of containers) (count_of containers g) (count_of containers h)
    (second_false (passes_limit scalars g h) (passes_limit containers g h) (passes_limit iterators g h) none) (all containers)
counts_stay g h none all iterators =
    not_passed (limit_of iterators) (count_of iterators g) (count_of iterators h)
    (third_false (passes_limit scalars g h) (passes_limit containers g h) (passes_limit iterators g h) none) (all iterators)

same_as_itself : (sort : Sort) → same_sort sort sort ≡ true
same_as_itself scalars = refl
same_as_itself containers = refl
same_as_itself iterators = refl

counted_more : (a b : ℕ) (t : Bool) (limit : ℕ) → t ≡ true → b ≡ a + cond t 1 0 → b ≤ limit → a < limit
counted_more a b t limit is e h = grind arith

-- the number of a variable that comes into scope
pub number_below : (name : Option (List ℕ)) (label : ℕ) (type : ExprType) (g : Scope) → AllCounted (with_variable name label type g)
    → count_of (sort_of type) g < limit_of (sort_of type)
number_below name label type g all =
    let v : NamedVariable = record { name = name; label = label; number = count_of (sort_of type) g; variable_type = type } in
    counted_more (count_of (sort_of type) g) (count_of (sort_of type) (with_variable name label type g)) (same_sort (sort_of type) (sort_of type))
    (limit_of (sort_of type)) (same_as_itself (sort_of type))
    (sum_by_push (λ (w : NamedVariable). cond (same_sort (sort_of type) (sort_of w.variable_type)) 1 0) g.variables v) (all (sort_of type))

-- variables stay within the limits while names come
pub variable_stays : (names more : ℕ) → names ≤ more → (v : NamedVariable) → FitsVariable names v → FitsVariable more v
variable_stays names more h v f = record { number = f.number; label = omega arith }

pub scope_stays : (names more : ℕ) (g : Scope) → names ≤ more → FitsScope names g → FitsScope more g
scope_stays names more g h f = record {
  counts = f.counts;
  variables = All-weaker (FitsVariable names) (FitsVariable more) (variable_stays names more h) g.variables f.variables;
  total = f.total;
  functions = f.functions;
}

-- a variable comes into scope
pub variable_fits : (names more : ℕ) (name : Option (List ℕ)) (label : ℕ) (type : ExprType) (g : Scope) → FitsScope names g → names ≤ more
    → label < more
    → AllCounted (with_variable name label type g) → FitsScope more (with_variable name label type g)
variable_fits names more name label type g f h below all =
    let v : NamedVariable = record { name = name; label = label; number = count_of (sort_of type) g; variable_type = type } in
    let old = scope_stays names more g h f in
    record {
      counts = all;
      variables = All-push (FitsVariable more) g.variables v old.variables
          (record { number = number_below name label type g all; label = below });
      total = f.total;
      functions = f.functions;
    }

counted_before : (a b : ℕ) (t : Bool) (limit : ℕ) → b ≡ a + cond t 1 0 → b ≤ limit → a ≤ limit
counted_before a b t limit e h = omega arith

-- no sort was past its limit before a variable came
pub counts_before : (name : Option (List ℕ)) (label : ℕ) (type : ExprType) (g : Scope) → AllCounted (with_variable name label type g) → AllCounted g
counts_before name label type g all sort =
    let v : NamedVariable = record { name = name; label = label; number = count_of (sort_of type) g; variable_type = type } in
    counted_before (count_of sort g) (count_of sort (with_variable name label type g)) (same_sort sort (sort_of type)) (limit_of sort)
    (sum_by_push (λ (w : NamedVariable). cond (same_sort sort (sort_of w.variable_type)) 1 0) g.variables v) (all sort)

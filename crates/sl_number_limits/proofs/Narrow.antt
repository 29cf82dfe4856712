-- Numbers within the limits are as narrow as a typed text holds them: 8 bits for a variable, 16 for the others.
use Rattle.std.proofs.Common.{◌≡◌, ℕ, ◌<◌, ◌≤◌, List, length, Option, Some, None, refl, arith}
use Rattle.sl_syntax.specs.declared.tree.identifier.Identifier.{Identifier}
use Rattle.sl_syntax.specs.Typed as t
use Rattle.sl_syntax.specs.Tree.{Program}
use Rattle.sl_typing.specs.declared.expr_type.ExprType.{ExprType}
use Rattle.sl_typing.specs.declared.scope.Scope.{Scope}
use Rattle.sl_typing.specs.Scopes.{Sort, scalars, containers, iterators, sort_of, count_of, limit_of, type_of_name, number_of_name, label_of_name}
use Rattle.sl_typing.specs.Scopes.{function_named}
use Rattle.sl_typing.specs.Contexts.{Context, declare, with_name, position}
use Rattle.sl_typing.specs.Numbering.{label_in, number_of_function}
use Rattle.sl_typing.specs.Typing.{Typed}
use Rattle.sl_number_limits.specs.Fits.{FitsScope, Fits, most_names}
use Rattle.sl_number_limits.proofs.Positions.{label_below}
use Rattle.sl_number_limits.proofs.Lookups.{number_of_name_fits, label_of_name_fits, number_of_function_fits}
use Rattle.sl_number_limits.proofs.Programs.{few_names, functions_fit, main_fits}

-- how many variables of a sort there may be
limit_is_narrow : (sort : Sort) → limit_of sort < 256
limit_is_narrow scalars = omega arith
limit_is_narrow containers = omega arith
limit_is_narrow iterators = omega arith

-- the number of the variable that a name means
pub number_is_narrow : (names : ℕ) (g : Scope) (name : List ℕ) → FitsScope names g → number_of_name g name < 256
number_is_narrow names g name f =
    let a = number_of_name_fits names g name f in
    let b = limit_is_narrow (sort_of (type_of_name g name)) in
    omega arith

-- how many variables of a sort are in scope
pub count_is_narrow : (names : ℕ) (g : Scope) (sort : Sort) → FitsScope names g → count_of sort g < 256
count_is_narrow names g sort f =
    let a = f.counts sort in
    let b = limit_is_narrow sort in
    omega arith

-- the number of the name itself, where there are so few names
pub label_is_narrow : (names : ℕ) (g : Scope) (name : List ℕ) → names ≤ most_names → FitsScope names g → (k : ℕ) → label_of_name g name ≡ Some k
    → k < 65536
label_is_narrow names g name few f k e = let a = label_of_name_fits names g name f k e in omega arith

told_is_narrow : (o : Option ℕ) → ((k : ℕ) → o ≡ Some k → k < 65536) → label_in o < 65536
told_is_narrow None h = omega arith
told_is_narrow (Some k) h = h k refl

pub told_label_is_narrow : (names : ℕ) (g : Scope) (name : List ℕ) → names ≤ most_names → FitsScope names g → label_in (label_of_name g name) < 65536
told_label_is_narrow names g name few f = told_is_narrow (label_of_name g name) (label_is_narrow names g name few f)

-- the number of the function that a name means
pub function_is_narrow : (names : ℕ) (g : Scope) (name : List ℕ) → FitsScope names g → number_of_function (function_named g name) < 65536
function_is_narrow names g name f = let a = number_of_function_fits names g name f in omega arith

-- the number of a loop, and how many names and variables there are
pub loop_is_narrow : (g : Context) → Fits g → length g.loops < 65536
loop_is_narrow g f = let a = f.loops in let b = f.statements in omega arith

pub names_are_narrow : (g : Context) → Fits g → length g.names < 65536
names_are_narrow g f = let a = few_names g f in omega arith

-- the number of the name of a variable that is declared
pub declared_is_narrow : (x : Identifier) (type : ExprType) (g : Context) → Fits (declare x type g)
    → position x.name (with_name x.name g.names) < 65536
declared_is_narrow x type g f =
    let a = few_names (declare x type g) f in
    let b = label_below x.name g.names in
    omega arith

-- the number of `main`
pub main_is_narrow : (p : Program) (u : t.Typed) → Typed p u → u.main < 65536
main_is_narrow p u x = let a = functions_fit p u x in let b = main_fits p u x in omega arith

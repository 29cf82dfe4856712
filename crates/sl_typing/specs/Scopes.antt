-- What names mean at a place of a text, and how variables come into scope.
--
-- Restates ISO/IEC 14882:2017, [basic.scope.block] and [basic.scope.hiding] (the variable of the innermost scope counts), [dcl.fct] (parameters).
-- Chosen here: variables are numbered by how many of their sort are in scope: scalars, containers, and iterators with references; how many there
-- may be.
use Rattle.std.specs.Prelude.{ℕ, nat_lt, nat_le, Bool, true, false, ◌&&◌, ◌||◌, List, [], ◌∷◌, ◌++◌, drop, reverse, find, count_by, Option, Some, None}
use Rattle.std.specs.List.{list_any}
use Rattle.std.specs.Str.{bytes_eq}
use Rattle.sl_base.specs.declared.limits.TheConstants.{CONTAINERS, ITERATORS, SCALARS}
use Rattle.sl_syntax.specs.declared.operator.Access.TheVariants as a
use Rattle.sl_syntax.specs.declared.tree.function.Param.{Param}
use Rattle.sl_syntax.specs.declared.tree.function.Param.TheVariants as p
use Rattle.sl_syntax.specs.declared.tree.function.IteratorType.{IteratorType}
use Rattle.sl_syntax.specs.declared.tree.function.ResultType.{ResultType}
use Rattle.sl_syntax.specs.declared.tree.function.ResultType.TheVariants as r
use Rattle.sl_syntax.specs.declared.tree.identifier.Identifier.{Identifier}
use Rattle.sl_syntax.specs.declared.typed.parameter.ParameterKind.{ParameterKind}
use Rattle.sl_syntax.specs.declared.typed.parameter.ParameterKind.TheVariants as parameters
use Rattle.std.specs.Prelude.{codes}
use Rattle.sl_typing.specs.declared.expr_type.ExprType.{ExprType}
use Rattle.sl_typing.specs.declared.expr_type.ExprType.TheVariants as types
use Rattle.sl_typing.specs.declared.scope.FunctionHead.{FunctionHead}
use Rattle.sl_typing.specs.declared.scope.NamedVariable.{NamedVariable}
use Rattle.sl_typing.specs.declared.scope.Scope.{Scope}

-- a variable has this name
abbrev pub is_variable_named : List ℕ → NamedVariable → Bool
is_variable_named name v = elim v.name as (λ _. Bool) [ None ↦ false | Some n ↦ bytes_eq n name ]

-- the variable that a name means: the newest one of that name
abbrev pub variable_named : Scope → List ℕ → Option NamedVariable
variable_named g name = find (is_variable_named name) (reverse g.variables)

-- a name is declared in the innermost scope
abbrev pub is_declared : Scope → List ℕ → Bool
is_declared g name = list_any (is_variable_named name) (drop g.outer g.variables)

-- the type of a variable, if it is there
abbrev pub type_of_variable : Option NamedVariable → ExprType
type_of_variable None = types.Wrong
type_of_variable (Some v) = v.variable_type

-- the type of the variable that a name means
abbrev pub type_of_name : Scope → List ℕ → ExprType
type_of_name g name = type_of_variable (variable_named g name)

-- its number
abbrev pub number_of_name : Scope → List ℕ → ℕ
number_of_name g name = elim (variable_named g name) as (λ _. ℕ) [ None ↦ 0 | Some v ↦ v.number ]

-- the number of the name itself, where it means a variable
abbrev pub label_of_name : Scope → List ℕ → Option ℕ
label_of_name g name = elim (variable_named g name) as (λ _. Option ℕ) [ None ↦ None | Some v ↦ Some v.label ]

-- a function has this name
abbrev pub is_function_named : List ℕ → FunctionHead → Bool
is_function_named name h = bytes_eq h.name name

-- the function that a name means: the newest one of that name
abbrev pub function_named : Scope → List ℕ → Option FunctionHead
function_named g name = find (is_function_named name) (reverse g.functions)

-- the name behind `::` says that the iterator writes nothing
abbrev pub is_const_name : List ℕ → Bool
is_const_name name = bytes_eq name (codes "const_iterator")

-- the name behind `::` is one of an iterator type
abbrev pub is_iterator_name : List ℕ → Bool
is_iterator_name name = bytes_eq name (codes "iterator") || is_const_name name

-- an iterator type as a kind of parameter
abbrev pub iterator_kind : IteratorType → ParameterKind
iterator_kind i = parameters.Iterator (is_const_name i.name.name) i.container.form

-- a parameter as typing sees it
abbrev pub parameter_kind : Param → ParameterKind
parameter_kind (p.Value at s x) = parameters.Value s
parameter_kind (p.Reference at s x) = parameters.Reference s
parameter_kind (p.Container c x) = parameters.Container a.Whole c.form
parameter_kind (p.ConstContainer at c x) = parameters.Container a.Const c.form
parameter_kind (p.Iterator i x) = iterator_kind i

-- what a function gives, as typing sees it
abbrev pub result_kind : ResultType → Option ParameterKind
result_kind r.Void = None
result_kind (r.Scalar s) = Some (parameters.Value s)
result_kind (r.Iterator i) = Some (iterator_kind i)

-- the name of a parameter
abbrev pub name_of_parameter : Param → Identifier
name_of_parameter (p.Value at s x) = x
name_of_parameter (p.Reference at s x) = x
name_of_parameter (p.Container c x) = x
name_of_parameter (p.ConstContainer at c x) = x
name_of_parameter (p.Iterator i x) = x

-- the type of a parameter in its function, and of what a call gives
abbrev pub type_of_kind : ParameterKind → ExprType
type_of_kind (parameters.Value s) = types.Scalar s
type_of_kind (parameters.Reference s) = types.Scalar s
type_of_kind (parameters.Container access form) = types.Container access form
type_of_kind (parameters.Iterator b form) = types.Iterator b form

-- the sorts of variables, each of which is numbered by itself
pub data Sort : Type 0 where
  scalars : Sort
  containers : Sort
  iterators : Sort

-- the sort of a variable of a type
abbrev pub sort_of : ExprType → Sort
sort_of (types.Container access form) = containers
sort_of (types.Iterator b form) = iterators
sort_of (types.IntReference w) = iterators
sort_of (types.EntryReference w) = iterators
sort_of u = scalars

-- one sort
abbrev pub same_sort : Sort → Sort → Bool
same_sort scalars scalars = true
same_sort containers containers = true
same_sort iterators iterators = true
same_sort x y = false

-- how many variables of a sort are in scope
abbrev pub count_of : Sort → Scope → ℕ
count_of sort g = count_by (λ v. same_sort sort (sort_of v.variable_type)) g.variables

-- how many there may be
abbrev pub limit_of : Sort → ℕ
limit_of scalars = SCALARS
limit_of containers = CONTAINERS
limit_of iterators = ITERATORS

-- between two places the variables of a sort pass the limit
abbrev pub passes_limit : Sort → Scope → Scope → Bool
passes_limit sort g h = nat_le (count_of sort g) (limit_of sort) && nat_lt (limit_of sort) (count_of sort h)

-- those of some sort do
abbrev pub passes_some_limit : Scope → Scope → Bool
passes_some_limit g h = passes_limit scalars g h || passes_limit containers g h || passes_limit iterators g h

-- a variable of a type comes into scope, with its name and the name's number
abbrev pub with_variable : Option (List ℕ) → ℕ → ExprType → Scope → Scope
with_variable name label type g =
    record g { variables = g.variables ++ record { name = name; label = label; number = count_of (sort_of type) g; variable_type = type } ∷ [] }

-- a name is among these
abbrev pub is_among : List ℕ → List (List ℕ) → Bool
is_among name names = list_any (λ n. bytes_eq n name) names

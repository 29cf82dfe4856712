-- What is known at a place of a text: what names mean there, and what stands before it.
--
-- Restates ISO/IEC 14882:2017, [basic.scope.block] (a scope begins and ends).
-- Chosen here: a name that is declared twice in a text has one number.
use Rattle.std.specs.Prelude.{ℕ, ◌+◌, true, List, [], ◌∷◌, ◌++◌, length, Some, None, if◌then◌else◌}
use Rattle.std.specs.Str.{bytes_eq}
use Rattle.sl_base.specs.declared.place.Place.{Place}
use Rattle.sl_syntax.specs.declared.tree.function.Param.{Param}
use Rattle.sl_syntax.specs.declared.tree.identifier.Identifier.{Identifier}
use Rattle.sl_syntax.specs.declared.typed.variable.Variable.{Variable}
use Rattle.sl_syntax.specs.declared.typed.variable.VariableKind.{VariableKind}
use Rattle.sl_syntax.specs.declared.typed.variable.VariableKind.TheVariants as kinds
use Rattle.sl_typing.specs.declared.expr_type.ExprType.{ExprType}
use Rattle.sl_typing.specs.declared.expr_type.ExprType.TheVariants as types
use Rattle.sl_typing.specs.declared.scope.Scope.{Scope}
use Rattle.sl_typing.specs.Types.{is_const}
use Rattle.sl_typing.specs.Scopes.{parameter_kind, name_of_parameter, type_of_kind, with_variable, is_among}

-- What is known at a place: what names mean; the places of the sites before it, and of the words of the loops; how many statements began before it; the
-- names declared before it, each once; and the variables that its function declares before it.
pub record Context : Type 0 where
  pub scope : Scope
  pub sites : List Place
  pub loops : List Place
  pub statements : ℕ
  pub names : List (List ℕ)
  pub variables : List Variable

-- a name behind these, where it isn't there
abbrev pub with_name : List ℕ → List (List ℕ) → List (List ℕ)
with_name name names = if is_among name names then names else names ++ name ∷ []

-- the number of a name among these
abbrev pub position : List ℕ → List (List ℕ) → ℕ
position name [] = 0
position name (n ∷ ns) = if bytes_eq n name then 0 else position name ns + 1

-- what a variable of a type is to those that read the typed text
abbrev pub variable_kind : ExprType → VariableKind
variable_kind (types.Container access form) = kinds.Container
variable_kind (types.Iterator b form) = kinds.Iterator
variable_kind (types.IntReference w) = kinds.Reference
variable_kind (types.EntryReference w) = kinds.Reference
variable_kind u = kinds.Scalar

-- a variable is declared
abbrev pub declare : Identifier → ExprType → Context → Context
declare x type g = let names = with_name x.name g.names in let label = position x.name names in record g {
  scope = with_variable (Some x.name) label type g.scope;
  names = names;
  variables = g.variables ++ record { kind = variable_kind type; name = label; place = x.place } ∷ [];
}

-- parameters are declared
abbrev pub declare_parameters : List Param → Context → Context
declare_parameters [] g = g
declare_parameters (q ∷ qs) g = declare_parameters qs (declare (name_of_parameter q) (type_of_kind (parameter_kind q)) g)

-- the two hidden iterators of a range-for over a container come into scope
abbrev pub with_hidden : ExprType → Context → Context
with_hidden (types.Container access form) g = let type = types.Iterator (is_const access) form in
    record g { scope = with_variable None 0 type (with_variable None 0 type g.scope) }
with_hidden u g = g

-- a scope begins
abbrev pub enter : Context → Context
enter g = record g { scope = record g.scope { outer = length g.scope.variables } }

-- the scope ends that the first context was in before: what was declared in it goes, and what stood in it stays counted
abbrev pub leave : Context → Context → Context
leave g h = record h { scope = g.scope }

-- a loop's body begins
abbrev pub looping : Context → Context
looping g = record g { scope = record g.scope { in_loop = true } }

-- a statement begins
abbrev pub started : Context → Context
started g = record g { statements = g.statements + 1 }

-- a loop begins, with its word
abbrev pub started_loop : Place → Context → Context
started_loop at g = record (started g) { loops = g.loops ++ at ∷ [] }

-- sites stand here
abbrev pub with_sites : List Place → Context → Context
with_sites places g = record g { sites = g.sites ++ places }

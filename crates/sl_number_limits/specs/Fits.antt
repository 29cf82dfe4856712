-- The numbers at a place of a text are within the limits: so many sites, statements, loops, functions, names and variables stand before it, and the
-- variables and functions that names can mean there have such numbers.
use Rattle.std.specs.Prelude.{ℕ, ◌+◌, ◌*◌, ◌<◌, ◌≤◌, length, All}
use Rattle.sl_base.specs.declared.limits.TheConstants.{FUNCTIONS, PARAMETERS, SITES, STATEMENTS}
use Rattle.sl_syntax.specs.declared.typed.variable.Variable.{Variable}
use Rattle.sl_syntax.specs.Typed as t
use Rattle.sl_typing.specs.declared.scope.FunctionHead.{FunctionHead}
use Rattle.sl_typing.specs.declared.scope.NamedVariable.{NamedVariable}
use Rattle.sl_typing.specs.declared.scope.Scope.{Scope}
use Rattle.sl_typing.specs.Scopes.{Sort, sort_of, count_of, limit_of}
use Rattle.sl_typing.specs.Contexts.{Context}

-- a variable's number is within the limit of its sort, and the number of its name is one of so many names
pub record FitsVariable (names : ℕ) (v : NamedVariable) : Type 0 where
  pub number : v.number < limit_of (sort_of v.variable_type)
  pub label : v.label < names

-- a function's number is within the limit, and it has no more parameters than there may be
pub record FitsFunction (h : FunctionHead) : Type 0 where
  pub number : h.number < FUNCTIONS
  pub parameters : length h.parameters ≤ PARAMETERS

-- what names mean, where a text has so many names
pub record FitsScope (names : ℕ) (g : Scope) : Type 0 where
  pub counts : (sort : Sort) → count_of sort g ≤ limit_of sort
  pub variables : All (FitsVariable names) g.variables
  pub total : length g.functions ≤ FUNCTIONS
  pub functions : All FitsFunction g.functions

-- the number of a declared variable's name is one of so many names
abbrev pub IsLabelled : ℕ → Variable → Type 0
IsLabelled names v = v.name < names

-- how many names there are at most: a statement declares one, and a function its parameters
abbrev pub names_limit : Context → ℕ
names_limit g = g.statements + PARAMETERS * length g.scope.functions

-- how many names, and declared variables, there are at most in a whole text
abbrev pub most_names : ℕ
most_names = STATEMENTS + PARAMETERS * FUNCTIONS

-- what stands before a place, and what names mean there
pub record Fits (g : Context) : Type 0 where
  pub scope : FitsScope (length g.names) g.scope
  pub sites : length g.sites ≤ SITES
  pub statements : g.statements ≤ STATEMENTS
  pub loops : length g.loops ≤ g.statements
  pub names : length g.names ≤ names_limit g
  pub declared : length g.variables ≤ names_limit g
  pub labels : All (IsLabelled (length g.names)) g.variables

-- so many more names, and variables, may be declared
pub record HasRoom (more : ℕ) (g : Context) : Type 0 where
  pub for_names : length g.names + more ≤ names_limit g
  pub for_variables : length g.variables + more ≤ names_limit g

-- a typed function has no more parameters than there may be, and no more variables than a text may have, whose names are among so many
pub record FitsTypedFunction (names : ℕ) (f : t.Function) : Type 0 where
  pub parameters : length f.parameters ≤ PARAMETERS
  pub variables : length f.variables ≤ most_names
  pub labels : All (IsLabelled names) f.variables

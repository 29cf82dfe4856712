-- Scopes whose numbers are small enough for a typed text.
--
-- Chosen here: a caller shows it, since rules limit the variables in scope, the functions and the statements of a text.
use Rattle.std.specs.Prelude.{◌<◌, ◌^◌, All}
use Rattle.sl_typing.specs.declared.scope.Scope.{Scope}

-- the numbers of variables, of their names and of functions are small
pub record IsNumbered (g : Scope) : Type 0 where
  pub variables : All (λ v. v.number < 2 ^ 8) g.variables
  pub names : All (λ v. v.label < 2 ^ 16) g.variables
  pub functions : All (λ h. h.number < 2 ^ 16) g.functions

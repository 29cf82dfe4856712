-- The variables that a function declares, as those that read the typed text see them.
use Rattle.std.specs.Prelude.{List, map}
use Rattle.sl_syntax.specs.declared.typed.variable.Variable.{Variable}
use Rattle.sl_contexts.specs.declared.own_variable.DeclaredVariable.{DeclaredVariable}

abbrev pub variable_seen : DeclaredVariable → Variable
variable_seen v = record { kind = v.kind; name = v.name; place = v.place }

abbrev pub variables_seen : List DeclaredVariable → List Variable
variables_seen vs = map variable_seen vs

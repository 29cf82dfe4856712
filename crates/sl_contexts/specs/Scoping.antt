-- What stands around a scope, and comes back where the scope ends.
use Rattle.sl_typing.specs.declared.scope.Scope.{Scope}
use Rattle.sl_contexts.specs.declared.outside.Outside.{Outside}

-- what stands around a scope that begins where this one is the innermost
abbrev pub outside_of : Scope → Outside
outside_of g = record { variables = g.variables; outer = g.outer; in_loop = g.in_loop }

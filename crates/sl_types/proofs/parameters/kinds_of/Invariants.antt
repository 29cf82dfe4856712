use Rattle.std.proofs.Common.{◌≡◌, map, take}
use Rattle.sl_typing.specs.Scopes as scopes
use Rattle.sl_types.proofs.parameters.kinds_of.Given as goal

abbrev pub invariant-loop-parameter : goal.invariant-loop-parameter
invariant-loop-parameter l = l.kinds ≡ map scopes.parameter_kind (take l.parameter-index l.parameters)

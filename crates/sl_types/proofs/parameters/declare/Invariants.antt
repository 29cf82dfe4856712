use Rattle.std.proofs.Common.{◌≡◌, drop}
use Rattle.sl_typing.specs.Contexts.{declare_parameters}
use Rattle.sl_types.proofs.parameters.declare.Given as goal

abbrev pub invariant-loop-parameter : goal.invariant-loop-parameter
invariant-loop-parameter l =
    declare_parameters (drop l.parameter-index l.parameters) l.known ≡ declare_parameters l.parameters l.fn.known

use Rattle.std.proofs.Common.{refl}
use Rattle.sl_first_fault.proofs.parameters.parameter_past_limit.Goals as goal

pub returns : goal.returns
returns c =
    rw (c.name_of_parameter.ensures, c.type_of_kind.ensures, c.parameter_kind.ensures) at (c.past_limit.ensures c.args.known.now refl)

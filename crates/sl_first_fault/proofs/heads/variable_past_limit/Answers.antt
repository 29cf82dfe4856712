use Rattle.std.proofs.Common.{refl}
use Rattle.sl_first_fault.proofs.heads.variable_past_limit.Goals as goal

pub returns : goal.returns
returns c = rw c.element_type.ensures at (c.past_limit.ensures c.args.known.now refl)

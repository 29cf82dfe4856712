use Rattle.sl_first_fault.proofs.LimitLaws.{limit-declared}
use Rattle.sl_first_fault.proofs.variables.past_limit.Goals as goal

pub returns : goal.returns
returns c g e = limit-declared g c.args.known.now c.args.name.now _ _ _ _ c.limit_fault.ensures c.scope.ensures e

use Rattle.sl_rules.proofs.LookLaws.{look-truth}
use Rattle.sl_rules.proofs.nodes.leaf.truth_look.Goals as goal

pub returns : goal.returns
returns c g n how at x = look-truth g n how at x

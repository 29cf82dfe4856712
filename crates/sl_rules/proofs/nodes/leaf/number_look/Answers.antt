use Rattle.sl_rules.proofs.LookLaws.{look-number}
use Rattle.sl_rules.proofs.nodes.leaf.number_look.Goals as goal

pub returns : goal.returns
returns c g n how at m = look-number g n how at m

use Rattle.std.proofs.Common.{◌≡◌, ◌++◌, drop}
use Rattle.sl_specs.specs.Printed.{other_needs}
use Rattle.sl_specs.proofs.printing.push_other_needs.Given as goal

abbrev pub invariant-loop-need : goal.invariant-loop-need
invariant-loop-need l = l.out ++ other_needs (drop l.need-index l.needs) ≡ l.initial.out ++ other_needs l.needs

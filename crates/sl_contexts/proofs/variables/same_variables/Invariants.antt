use Rattle.std.proofs.Common.{◌≡◌, take}
use Rattle.sl_contexts.proofs.variables.same_variables.Given as goal

abbrev pub invariant-loop-variable : goal.invariant-loop-variable
invariant-loop-variable l = l.copied ≡ take l.variable-index l.variables

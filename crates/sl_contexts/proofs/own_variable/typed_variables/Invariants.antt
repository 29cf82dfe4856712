use Rattle.std.proofs.Common.{◌≡◌, take}
use Rattle.sl_contexts.specs.VariableView.{variables_seen}
use Rattle.sl_contexts.proofs.own_variable.typed_variables.Given as goal

abbrev pub invariant-loop-variable : goal.invariant-loop-variable
invariant-loop-variable l = l.typed ≡ variables_seen (take l.variable-index l.variables)

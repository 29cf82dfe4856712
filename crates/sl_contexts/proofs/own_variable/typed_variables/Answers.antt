use Rattle.sl_contexts.proofs.VariableLaws.{name_fits}
use Rattle.sl_contexts.proofs.own_variable.typed_variables.Goals as goal

pub typed_variable-requires : goal.typed_variable-requires
typed_variable-requires c = name_fits c.args.variables.now c.loop-variable.variable-index _ c.loop-variable-test.true c.requires

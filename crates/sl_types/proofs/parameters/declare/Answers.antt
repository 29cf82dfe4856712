use Rattle.sl_types.proofs.ParameterLaws.{one_more, all_declared}
use Rattle.sl_types.proofs.parameters.declare.Goals as goal

pub loop-parameter-preserved : goal.loop-parameter-preserved
loop-parameter-preserved c =
    one_more _ _ _ _ _ c.parameter-item.result c.loop-parameter-test.true c.parameter-item.is c.loop-parameter.invariant c.in_ok-declare_one.ensures

pub returns : goal.returns
returns c = all_declared _ _ _ _ c.loop-parameter-test.false c.loop-parameter.invariant

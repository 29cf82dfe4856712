use Rattle.std.proofs.Common.{arith}
use Rattle.sl_constants.proofs.FunctionLiterals.{out_literals, each_out}
use Rattle.sl_constants.proofs.Walks.{none_left}
use Rattle.sl_constants.proofs.literals.effect.push_outs.Goals as goal

pub returns : goal.returns
returns c =
    let xs = c.args.xs.now in
    rw (each_out xs) (none_left out_literals xs c.loop-x.x-index c.loop-x.out _ (omega arith) c.loop-x.invariant)

use Rattle.std.proofs.Common.{arith}
use Rattle.sl_constants.proofs.FunctionLiterals.{function_literals, each_function}
use Rattle.sl_constants.proofs.Walks.{none_left}
use Rattle.sl_constants.proofs.literals.function.push_program.Goals as goal

pub returns : goal.returns
returns c =
    let fs = c.args.p.now.functions.items in
    rw (each_function fs)
    (none_left function_literals fs c.loop-f.f-index c.loop-f.out _ (omega (arith, c.deref-f-items.ensures.len)) c.loop-f.invariant)

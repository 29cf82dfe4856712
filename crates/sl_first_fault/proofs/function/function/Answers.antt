use Rattle.sl_syntax.specs.TreeView.{function_of}
use Rattle.sl_first_fault.proofs.FunctionLaws.{whole}
use Rattle.sl_first_fault.proofs.function.function.Goals as goal

pub returns : goal.returns
returns c =
    whole c.stop_at.result c.function_fault-own.result c.args.known.now c.head.new.known c.body.new.known (function_of c.args.x.now)
    c.in_ok-head.ensures c.in_ok-body.ensures c.function_fault-own.ensures c.stop_at.ensures

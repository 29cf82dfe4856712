use Rattle.std.proofs.Common.{◌≡◌, ◌+◌, ◌-◌, arith}
use Rattle.sl_expressions.proofs.Heights.{list_before_size, resized}
use Rattle.sl_expressions.proofs.expression.list.list_before.Goals as goal

pub returns : goal.returns
returns c =
    let same : c.args.depth_left + 1 - 1 ≡ c.args.depth_left = omega arith in
    let read = rw same at c.in_ok-list.ensures.reads in
    resized read (list_before_size c.args.depth_left c.args.close c.args.tokens.now _ read)

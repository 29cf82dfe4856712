use Rattle.std.proofs.Common.{arith}
use Rattle.sl_base.proofs.Names.{left_in-none}
use Rattle.sl_base.proofs.outside.mem_files.place_of_name.Goals as goal

pub returns : goal.returns
returns c = left_in-none c.args.files.now c.args.name.now (λ k d lt. c.loop-i.invariant k d (omega arith))

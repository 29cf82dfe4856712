use Rattle.std.proofs.Common.{arith}
use Rattle.std.proofs.lemmas.Int.{ints}
use Rattle.sl_intervals.proofs.Verdicts.{narrow, short}
use Rattle.sl_intervals.proofs.conversion.room_above.Goals as goal

pub overflow_sub-result : goal.overflow_sub-result
overflow_sub-result c = let n = narrow c.args.ty in let l = n.low in let h = n.high in omega (arith, ints)

pub returns-clause-high : goal.returns-clause-high
returns-clause-high c = let s = short c.args.ty in omega (arith, ints)

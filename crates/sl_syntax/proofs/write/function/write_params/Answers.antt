use Rattle.std.proofs.Common.{arith}
use Rattle.sl_syntax.proofs.FunctionWords.{param_words_of, params_words}
use Rattle.sl_syntax.proofs.WrittenLaws.{none_left_separated}
use Rattle.sl_syntax.proofs.write.function.write_params.Goals as goal

pub returns : goal.returns
returns c =
    let xs = c.args.params.now in
    rw (params_words xs) (none_left_separated param_words_of xs c.loop-i.i c.loop-i.out _ (omega arith) c.loop-i.invariant)

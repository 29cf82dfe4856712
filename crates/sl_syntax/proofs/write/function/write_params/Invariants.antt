use Rattle.std.proofs.Common.{◌≡◌, ◌++◌}
use Rattle.sl_syntax.proofs.FunctionWords.{param_words_of}
use Rattle.sl_syntax.proofs.WrittenLaws.{separated, separated_from}
use Rattle.sl_syntax.proofs.write.function.write_params.Given as goal

abbrev pub invariant-loop-i : goal.invariant-loop-i
invariant-loop-i l = l.out ++ separated_from param_words_of l.i l.params ≡ l.initial.out ++ separated param_words_of l.params

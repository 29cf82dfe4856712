use Rattle.std.proofs.Common.{◌≡◌, ◌++◌}
use Rattle.sl_syntax.proofs.ExprWords.{expr_words_of}
use Rattle.sl_syntax.proofs.WrittenLaws.{separated, separated_from}
use Rattle.sl_syntax.proofs.write.expr.+expression.Given as goal

abbrev pub invariant-write_list-loop-i : goal.invariant-write_list-loop-i
invariant-write_list-loop-i l = l.out ++ separated_from expr_words_of l.i l.xs ≡ l.initial.out ++ separated expr_words_of l.xs

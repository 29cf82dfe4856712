-- The text is cut up to the loop's offset, and the tokens are those of that cut.
use Rattle.std.proofs.Common.{length, ◌-◌}
use Rattle.sl_lexer.proofs.LexLaws.{SoFar}
use Rattle.sl_lexer.proofs.lexer.lex.Given as goal

abbrev pub invariant-loop-done : goal.invariant-loop-done
invariant-loop-done l = SoFar l.text l.tokens l.done l.place l.blank_line

abbrev pub decreases-loop-done : goal.decreases-loop-done
decreases-loop-done l = length l.text - l.done

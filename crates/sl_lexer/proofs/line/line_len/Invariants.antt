-- No byte so far ends the line: the count goes on behind them.
use Rattle.std.proofs.Common.{◌≡◌, ◌+◌, drop, not}
use Rattle.std.specs.List.{prefix_len}
use Rattle.sl_base.specs.Places.{is_line_feed}
use Rattle.sl_lexer.proofs.line.line_len.Given as goal

abbrev pub invariant-loop-i : goal.invariant-loop-i
invariant-loop-i l = l.i + prefix_len (λ b. not (is_line_feed b)) (drop l.i l.rest) ≡ prefix_len (λ b. not (is_line_feed b)) l.rest

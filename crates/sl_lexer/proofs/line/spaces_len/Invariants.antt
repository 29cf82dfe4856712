-- The bytes so far are spaces and tabs: the count goes on behind them.
use Rattle.std.proofs.Common.{◌≡◌, ◌+◌, drop}
use Rattle.std.specs.List.{prefix_len}
use Rattle.sl_base.specs.Bytes.{is_space}
use Rattle.sl_lexer.proofs.line.spaces_len.Given as goal

abbrev pub invariant-loop-i : goal.invariant-loop-i
invariant-loop-i l = l.i + prefix_len is_space (drop l.i l.rest) ≡ prefix_len is_space l.rest

-- The bytes so far are digits: the count goes on behind them.
use Rattle.std.proofs.Common.{◌≡◌, ◌+◌, drop}
use Rattle.std.specs.List.{prefix_len}
use Rattle.sl_base.specs.Bytes.{is_digit}
use Rattle.sl_lexer.proofs.number.digits_len.Given as goal

abbrev pub invariant-loop-i : goal.invariant-loop-i
invariant-loop-i l = l.i + prefix_len is_digit (drop l.i l.rest) ≡ prefix_len is_digit l.rest

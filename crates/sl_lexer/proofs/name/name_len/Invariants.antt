-- The bytes so far are of a name: the count goes on behind them.
use Rattle.std.proofs.Common.{◌≡◌, ◌+◌, drop}
use Rattle.std.specs.List.{prefix_len}
use Rattle.sl_base.specs.Bytes.{is_name_byte}
use Rattle.sl_lexer.proofs.name.name_len.Given as goal

abbrev pub invariant-loop-i : goal.invariant-loop-i
invariant-loop-i l = l.i + prefix_len is_name_byte (drop l.i l.rest) ≡ prefix_len is_name_byte l.rest

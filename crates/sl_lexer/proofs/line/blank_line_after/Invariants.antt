-- The bytes that are left take what is known so far to the answer.
use Rattle.std.proofs.Common.{◌≡◌, drop}
use Rattle.sl_base.specs.Bytes as bytes
use Rattle.sl_lexer.proofs.line.blank_line_after.Given as goal

abbrev pub invariant-loop-byte : goal.invariant-loop-byte
invariant-loop-byte l = bytes.blank_line_after l.so_far (drop l.byte-index l.passed) ≡ bytes.blank_line_after l.blank l.passed

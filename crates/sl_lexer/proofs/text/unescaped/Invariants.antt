-- What is written so far and what the bytes that are left write is the whole.
use Rattle.std.proofs.Common.{◌≡◌, false, drop}
use Rattle.sl_base.specs.Quoted as base
use Rattle.sl_lexer.proofs.TextLaws.{behind}
use Rattle.sl_lexer.proofs.text.unescaped.Given as goal

abbrev pub invariant-loop-i : goal.invariant-loop-i
invariant-loop-i l = behind l.written l.i (base.unescaped l.escaped (drop l.i l.bytes)) ≡ base.unescaped false l.bytes

-- No quote so far closes the text: the count goes on behind.
use Rattle.std.proofs.Common.{◌≡◌, ◌+◌, drop, option_map}
use Rattle.sl_base.specs.Quoted.{text_end}
use Rattle.sl_lexer.specs.Means.Front as spec
use Rattle.sl_lexer.proofs.text.text_len.Given as goal

abbrev pub invariant-loop-i : goal.invariant-loop-i
invariant-loop-i l = option_map (λ n. n + l.i) (text_end l.escaped (drop l.i l.rest)) ≡ spec.text_len l.rest

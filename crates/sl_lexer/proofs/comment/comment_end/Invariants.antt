-- No `*/` begins so far: the count goes on behind.
use Rattle.std.proofs.Common.{◌≡◌, ◌+◌, drop, option_map}
use Rattle.sl_base.specs.Comments as base
use Rattle.sl_lexer.proofs.comment.comment_end.Given as goal

abbrev pub invariant-loop-i : goal.invariant-loop-i
invariant-loop-i l = option_map (λ n. n + l.i) (base.comment_end (drop l.i l.rest)) ≡ base.comment_end l.rest

-- No such backslash stands so far: the search goes on behind.
use Rattle.std.proofs.Common.{◌≡◌, ◌+◌, ◌-◌, drop, option_map}
use Rattle.sl_lexer.specs.Means.Front as spec
use Rattle.sl_lexer.proofs.comment.joint_in.Given as goal

abbrev pub invariant-loop-i : goal.invariant-loop-i
invariant-loop-i l = option_map (λ n. n + l.i) (spec.joint_in (l.len - l.i) (drop l.i l.rest)) ≡ spec.joint_in l.len l.rest

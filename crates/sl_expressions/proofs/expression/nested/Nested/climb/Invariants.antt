use Rattle.std.proofs.Common.{◌≡◌, ◌-◌, ◌≤◌}
use Rattle.sl_grammar.specs.Means.Expressions.{expr, climb}
use Rattle.sl_expressions.specs.Means.Nests.{tall_expr}
use Rattle.sl_expressions.proofs.expression.nested.Nested.climb.Given as goal

abbrev pub invariant-loop-turn : goal.invariant-loop-turn
invariant-loop-turn g l =
    (l.left.1 ≤ l.self.depth_left)
    × (climb (expr l.self.depth_left) (expr (l.self.depth_left - 1)) l.self.depth_left l.least l.self.depth_left (tall_expr l.fn.left) l.fn.tokens
    ≡ climb (expr l.self.depth_left) (expr (l.self.depth_left - 1)) l.self.depth_left l.least (l._turn-end - l._turn) (tall_expr l.left) l.tokens)

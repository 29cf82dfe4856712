use Rattle.std.proofs.Common.{rules, arith, ◌-◌}
use Rattle.std.proofs.lemmas.Grind.{common_steps}
use Rattle.sl_grammar.specs.Means.Expressions.{expr, climb}
use Rattle.sl_expressions.specs.Means.Nests.{tall_expr}
use Rattle.sl_expressions.proofs.Fuel.{next_turn}
use Rattle.sl_expressions.proofs.expression.nested.Nested.climb.Goals as goal

pub returns-then-goes_on-least-clause-reads : goal.returns-then-goes_on-least-clause-reads
unfolding climb
returns-then-goes_on-least-clause-reads g c =
    let e = next_turn
    (λ n. climb (expr c.args.self.now.depth_left) (expr (c.args.self.now.depth_left - 1)) c.args.self.now.depth_left c.args.least n
    (tall_expr c.loop-turn.left) c.loop-turn.tokens) _
    c.loop-turn._turn c.loop-turn-test.true c.loop-turn.invariant.1 in
    first_of (search rules, grind (arith, common_steps))

pub returns-then-left-self-clause-reads : goal.returns-then-left-self-clause-reads
unfolding climb
returns-then-left-self-clause-reads g c =
    let e = next_turn
    (λ n. climb (expr c.args.self.now.depth_left) (expr (c.args.self.now.depth_left - 1)) c.args.self.now.depth_left c.args.least n
    (tall_expr c.loop-turn.left) c.loop-turn.tokens) _
    c.loop-turn._turn c.loop-turn-test.true c.loop-turn.invariant.1 in
    first_of (search rules, grind (arith, common_steps))

pub returns-in_err-left-clause-reads : goal.returns-in_err-left-clause-reads
unfolding climb
returns-in_err-left-clause-reads g c =
    let e = next_turn
    (λ n. climb (expr c.args.self.now.depth_left) (expr (c.args.self.now.depth_left - 1)) c.args.self.now.depth_left c.args.least n
    (tall_expr c.loop-turn.left) c.loop-turn.tokens) _
    c.loop-turn._turn c.loop-turn-test.true c.loop-turn.invariant.1 in
    first_of (search rules, grind (arith, common_steps))

pub loop-turn-preserved : goal.loop-turn-preserved
unfolding climb
loop-turn-preserved g c =
    let e = next_turn
    (λ n. climb (expr c.args.self.now.depth_left) (expr (c.args.self.now.depth_left - 1)) c.args.self.now.depth_left c.args.least n
    (tall_expr c.loop-turn.left) c.loop-turn.tokens) _
    c.loop-turn._turn c.loop-turn-test.true c.loop-turn.invariant.1 in
    first_of (search rules, grind (arith, common_steps))

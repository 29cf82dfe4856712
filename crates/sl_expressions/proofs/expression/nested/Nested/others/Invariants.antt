use Rattle.std.proofs.Common.{◌≡◌, ◌<◌, ◌-◌, map, length}
use Rattle.sl_base.specs.declared.mark.Mark.TheVariants as m
use Rattle.sl_syntax.specs.TreeView.{expr_of}
use Rattle.sl_grammar.specs.Means.Expressions.{comma_expr, expr}
use Rattle.sl_grammar.specs.Means.Steps.{is_mark, repeat}
use Rattle.sl_expressions.proofs.expression.nested.Nested.others.Given as goal

abbrev pub invariant-loop-turn : goal.invariant-loop-turn
invariant-loop-turn g l =
    let item = comma_expr (expr l.self.depth_left 1) (expr (l.self.depth_left - 1) 1) (l.self.depth_left - 1) in
    (l.height < l.self.depth_left - 1)
    × (repeat (is_mark m.Comma) item (length l.fn.tokens) (map expr_of l.fn.list.items, 0) l.fn.tokens
    ≡ repeat (is_mark m.Comma) item (l._turn-end - l._turn) (map expr_of l.list.items, l.height) l.tokens)

use Rattle.std.proofs.Common.{◌≡◌, ◌-◌, length}
use Rattle.sl_base.specs.declared.mark.Mark.TheVariants as m
use Rattle.sl_grammar.specs.Means.Steps.{is_mark, repeat}
use Rattle.sl_grammar.specs.Means.Effects.{shifted_out}
use Rattle.sl_expressions.specs.Means.EffectViews.{tall_outs}
use Rattle.sl_expressions.proofs.effect.printing.outs_behind.Given as goal

abbrev pub invariant-loop-turn : goal.invariant-loop-turn
invariant-loop-turn l =
    repeat (is_mark m.ShiftLeft) (shifted_out l.depth_left) (length l.fn.tokens) (tall_outs l.fn.items) l.fn.tokens
    ≡ repeat (is_mark m.ShiftLeft) (shifted_out l.depth_left) (l._turn-end - l._turn) (tall_outs l.items) l.tokens

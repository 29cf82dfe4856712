use Rattle.std.proofs.Common.{◌≡◌, ◌-◌, length}
use Rattle.sl_base.specs.declared.mark.Mark.TheVariants as m
use Rattle.sl_grammar.specs.Means.Steps.{is_mark, repeat}
use Rattle.sl_grammar.specs.Means.Effects.{shifted_name}
use Rattle.sl_expressions.specs.Means.EffectViews.{flat}
use Rattle.sl_expressions.proofs.effect.reading.variables_behind.Given as goal

abbrev pub invariant-loop-turn : goal.invariant-loop-turn
invariant-loop-turn l =
    repeat (is_mark m.ShiftRight) shifted_name (length l.fn.tokens) (flat l.fn.variables) l.fn.tokens
    ≡ repeat (is_mark m.ShiftRight) shifted_name (l._turn-end - l._turn) (flat l.variables) l.tokens

use Rattle.std.proofs.Common.{◌≡◌, ◌-◌, length}
use Rattle.sl_base.specs.declared.mark.Mark.TheVariants as m
use Rattle.sl_grammar.specs.Means.Declarations.{comma_param}
use Rattle.sl_grammar.specs.Means.Steps.{is_mark, repeat}
use Rattle.sl_parser.specs.Means.DeclarationViews.{tall_params}
use Rattle.sl_parser.proofs.params.others.Given as goal

abbrev pub invariant-loop-turn : goal.invariant-loop-turn
invariant-loop-turn l =
    repeat (is_mark m.Comma) comma_param (length l.fn.tokens) (tall_params l.fn.list) l.fn.tokens
    ≡ repeat (is_mark m.Comma) comma_param (l._turn-end - l._turn) (tall_params l.list) l.tokens

use Rattle.std.proofs.Common.{◌≡◌, ◌-◌, length}
use Rattle.sl_grammar.specs.Means.Statements.{is_more, function}
use Rattle.sl_grammar.specs.Means.Steps.{repeat}
use Rattle.sl_parser.specs.Means.FunctionViews.{tall_functions}
use Rattle.sl_parser.proofs.function.others.Given as goal

abbrev pub invariant-loop-turn : goal.invariant-loop-turn
invariant-loop-turn l =
    repeat is_more function (length l.fn.tokens) (tall_functions l.fn.list) l.fn.tokens
    ≡ repeat is_more function (l._turn-end - l._turn) (tall_functions l.list) l.tokens

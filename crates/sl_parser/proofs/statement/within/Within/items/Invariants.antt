use Rattle.std.proofs.Common.{◌≡◌, ◌-◌, [], length}
use Rattle.sl_grammar.specs.Means.Statements.{is_item, item, stmt}
use Rattle.sl_grammar.specs.Means.Steps.{repeat}
use Rattle.sl_parser.specs.Means.StatementViews.{tall_items}
use Rattle.sl_parser.proofs.statement.within.Within.items.Given as goal

abbrev pub invariant-loop-turn : goal.invariant-loop-turn
invariant-loop-turn g l =
    let read = item l.self.depth_left (stmt l.self.depth_left) in
    repeat is_item read (length l.fn.tokens) ([], 0) l.fn.tokens ≡ repeat is_item read (l._turn-end - l._turn) (tall_items l.list) l.tokens

use Rattle.std.proofs.Common.{sym, ◌∙◌}
use Rattle.sl_expr_types.proofs.LastLaws.{end_in_appender-get}
use Rattle.sl_expr_types.proofs.appenders.end_in_appender.Goals as goal

pub returns-in-Some : goal.returns-in-Some
returns-in-Some c = c.is_back_inserter.ensures ∙ sym (end_in_appender-get c.args.xs.now c.in-Some.last.now (sym c.in-Some.ensures.value))

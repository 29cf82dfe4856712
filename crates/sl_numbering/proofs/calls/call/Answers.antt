use Rattle.sl_syntax.proofs.TypedViews.{expr_of-Call}
use Rattle.sl_numbering.proofs.calls.call.Goals as goal

pub returns : goal.returns
returns c = expr_of-Call c.args.head c.args.operands

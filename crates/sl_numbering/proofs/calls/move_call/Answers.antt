use Rattle.sl_syntax.proofs.TypedViews.{expr_of-Move}
use Rattle.sl_numbering.proofs.calls.move_call.Goals as goal

pub returns : goal.returns
returns c = expr_of-Move c.args.fix c.args.iterator c.args.head c.args.operands

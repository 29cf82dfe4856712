use Rattle.std.proofs.Common.{ap}
use Rattle.sl_syntax.specs.Typed as t
use Rattle.sl_syntax.proofs.TypedViews.{left_of-Element}
use Rattle.sl_numbering.proofs.calls.element.Goals as goal

pub returns : goal.returns
returns c = ap t.held (left_of-Element c.args.head c.args.operands)

use Rattle.sl_syntax.proofs.TypedViews.{expr_of-OwnCall}
use Rattle.sl_numbering.proofs.calls.own_call.Goals as goal

pub returns : goal.returns
returns c = expr_of-OwnCall c.args.function c.args.place c.args.operands

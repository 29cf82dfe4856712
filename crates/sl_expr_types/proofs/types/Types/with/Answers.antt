use Rattle.std.proofs.Common.{sym, arith}
use Rattle.sl_expr_types.proofs.FewLaws.{few-full, few-room}
use Rattle.sl_expr_types.proofs.types.Types.with.Goals as goal

pub returns-then-self-eq-ARGUMENTS : goal.returns-then-self-eq-ARGUMENTS
returns-then-self-eq-ARGUMENTS c =
    few-full c.args.self c.self.inside.types c.self.inside.count c.args.last (sym c.self.view_is) (omega arith) (omega arith)

pub returns : goal.returns
returns c =
    few-room c.args.self c.self.inside.types c.self.inside.count c.args.last (sym c.self.view_is) (omega arith) (omega arith)

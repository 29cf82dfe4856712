use Rattle.std.proofs.Common.{arith}
use Rattle.sl_parser.proofs.StatementLaws.{stmt-none, stmt-first}
use Rattle.sl_parser.proofs.statement.+stmt.Goals as goal

pub returns-then-depth_left-eq0 : goal.returns-then-depth_left-eq0
returns-then-depth_left-eq0 t c _ = rw c.refuse.ensures (stmt-none c.args.depth_left c.args.tokens.now (omega arith))

pub returns : goal.returns
returns t c = rw (stmt-first c.args.depth_left c.args.tokens.now (omega arith)) c.stmt.ensures

use Rattle.std.proofs.Common.{None}
use Rattle.sl_statement_types.proofs.LimitLaws.{hidden_told}
use Rattle.sl_statement_types.proofs.names.hidden_pass_limit.Goals as goal

pub returns-in-Container : goal.returns-in-Container
returns-in-Container c h is_h = rw c.in-Container.is
    (hidden_told c.two_pass_limit.result c.is_const.result c.in-Container.access c.in-Container.form h c.args.known.now.scope c.scope.result.now
    is_h c.scope.ensures c.is_const.ensures (c.two_pass_limit.ensures None 0))

use Rattle.sl_scopes.proofs.LimitLaws.{two_told}
use Rattle.sl_scopes.specs.SortView.{sort_seen}
use Rattle.sl_scopes.proofs.sorts.two_pass_limit.Goals as goal

pub returns : goal.returns
returns c name label =
    two_told name label c.args.variable_type c.args.scope.now (sort_seen c.sort_of-sort.result) c.count_of-count.result c.limit_of-limit.result
    c.saturating_sub.result c.sort_of-sort.ensures c.count_of-count.ensures c.limit_of-limit.ensures c.saturating_sub.ensures
